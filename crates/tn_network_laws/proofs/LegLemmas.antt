-- The legs of a walk in the exchange graph: each is a move of one firm at two of its places, and tight where the
-- numbers of the nodes differ by its cost.
use Rattle.std.proofs.Common.{◌≡◌, ◌≢◌, ℕ, suc, ◌<◌, ◌≤◌, Bool, ◌==◌, if◌then◌else◌, refl, sym, ap, ap₂, ◌∙◌, subst, arith, ◌⊎◌, inl, inr, ℤ, pos, ◌+ℤ◌, ◌-ℤ◌, ◌*ℤ◌, neg_ℤ, List, [], ◌∷◌, ◌++◌, length, map, slice_get, Option, Some, None, option_map}
use Rattle.std.specs.Prelude.{◌≤ℤ◌, IsSome}
use Rattle.std.proofs.lemmas.Bool.{cases_eq, cases_lt, eq-eqb, eqb-true, false_from_ne_true, lt-ltb, le-ltb}
use Rattle.std.proofs.lemmas.Option.{same_Some}
use Rattle.std.proofs.lemmas.Int.{ints}
use Rattle.std.proofs.lemmas.List.Elements.{All-head, All-tail, All-cons}
use Rattle.tn_base.specs.Sets.{sum_over}
use Rattle.tn_base.specs.Firm.{Firm, payments, plus_sum, IsBest}
use Rattle.tn_base.specs.Walks.{walk_cost, Avoids}
use Rattle.tn_base.proofs.WalkLemmas.{walk_parts, both_are}
use Rattle.tn_firm_laws.specs.Places.{trade_level, level, move, CanRise, CanFall}
use Rattle.tn_firm_laws.specs.Ordered.{Shift, IsTight}
use Rattle.tn_firm_laws.proofs.PlaceLemmas.{level-trade}
use Rattle.tn_firm_laws.proofs.KeepLemmas.{option_map-some, meets-plus_sum}
use Rattle.tn_firm_laws.proofs.ExchangeLemmas.{exchange_to_places}
use Rattle.tn_firm_laws.proofs.LocalLemmas.{best_from_unmoved}
use Rattle.tn_model.specs.declared.ends.Ends.{Ends}
use Rattle.tn_model.specs.Network.{own, part, IsNetwork}
use Rattle.tn_market.specs.Graph.{loss, exchange_arc, ArePossible}
use Rattle.tn_market.specs.ArcPlaces.{node_at, AreArcPlaces}
use Rattle.tn_market.proofs.GraphLemmas.{node_at-trade, node_at-null, arc_at, arc_from}
use Rattle.tn_network_laws.specs.Laws.{MeetExchange}
use Rattle.tn_network_laws.proofs.SplitLemmas.{TwoNumbers}
use Rattle.tn_network_laws.proofs.SupportLemmas.{paid_move, price_of_place, loss_parts, loss_of}

-- a network at a set of trades whose bundles are possible, and a trade that is off, with two numbers
pub record Setting (firms : List Firm) (trades : List Ends) (on t : ℕ) : Type 0 where
  pub network : IsNetwork firms trades
  pub meet : MeetExchange firms
  pub possible : ArePossible firms trades on
  pub inside : t < length trades
  pub gain : ℤ
  pub two : TwoNumbers t gain (exchange_arc firms trades on)

-- the number of a node as the end of an arc
abbrev pub number_in : {firms : List Firm} {trades : List Ends} {on t : ℕ} → Setting firms trades on t → ℕ → ℤ
number_in {firms} {trades} {on} {t} s v = if v == t then s.two.entering else s.two.number v

pub number_in-t : (firms : List Firm) (trades : List Ends) (on t : ℕ) (s : Setting firms trades on t) (v : ℕ) → v ≡ t
    → number_in s v ≡ s.two.entering
number_in-t firms trades on t s v e = ap (λ (b : Bool). if b then s.two.entering else s.two.number v) (eq-eqb v t e)

pub number_in-other : (firms : List Firm) (trades : List Ends) (on t : ℕ) (s : Setting firms trades on t) (v : ℕ)
    → v ≢ t → number_in s v ≡ s.two.number v
number_in-other firms trades on t s v other = ap (λ (b : Bool). if b then s.two.entering
    else s.two.number v) (false_from_ne_true (v == t) (λ e. other (eqb-true v t e)))

-- the numbers keep every arc
pub keeps_arc : (firms : List Firm) (trades : List Ends) (on t : ℕ) (s : Setting firms trades on t) (u v : ℕ) (c : ℤ)
    → exchange_arc firms trades on u v ≡ Some c → number_in s v ≤ℤ (s.two.number u +ℤ c)
keeps_arc firms trades on t s u v c is = elim (cases_eq v t) [
  | inl e ↦
      let kept = s.two.keeps.enters u c (ap (exchange_arc firms trades on u) (sym e) ∙ is) in
      let number = number_in-t firms trades on t s v e in
      omega (arith, ints, kept, number)
  | inr other ↦
      let kept = s.two.keeps.others u v c other is in
      let number = number_in-other firms trades on t s v other in
      omega (arith, ints, kept, number)
]

-- ---- the firm at these prices

-- what a firm pays or gets at a position: the number of its trade less null's, as the end of an arc where the position
-- can be lowered
abbrev pub place_price : {firms : List Firm} {trades : List Ends} {on t : ℕ} → Setting firms trades on t → ℕ → Firm → ℕ
    → ℤ
place_price {firms} {trades} {on} {t} s f firm k =
    (if trade_level firm.buys (part trades f firm.count on) k == 1 then number_in s (own trades f k)
    else s.two.number (own trades f k)) -ℤ s.two.number (length trades)

-- the firm with its utilities for worths
abbrev pub priced : {firms : List Firm} {trades : List Ends} {on t : ℕ} → Setting firms trades on t → ℕ → Firm → Firm
priced {firms} {trades} {on} {t} s f firm = plus_sum (pos 1) (payments firm.buys (place_price s f firm)) firm

-- a place that can be raised has the price of its node, and one that can be lowered that of its node as an end
raised_price : (firms : List Firm) (trades : List Ends) (on t : ℕ) (s : Setting firms trades on t) (f : ℕ) (firm : Firm)
    → slice_get firms f ≡ Some firm → (i : ℕ)
    → CanRise firm.count (level firm.count firm.buys (part trades f firm.count on)) i
    → price_of_place firm.count (place_price s f firm) i ≡ s.two.number (node_at trades f firm.count i)
    -ℤ s.two.number (length trades)
raised_price firms trades on t s f firm is i rises = elim (cases_lt i firm.count) [
  | inl p ↦
      let low : trade_level firm.buys (part trades f firm.count on) i ≡ 0 =
      sym (level-trade firm.count firm.buys (part trades f firm.count on) i p) ∙ rises p in
      ap (λ (b : Bool). if b then place_price s f firm i else pos 0) (lt-ltb i firm.count p)
      ∙ ap (λ (l : ℕ). (if l == 1 then number_in s (own trades f i) else s.two.number (own trades f i))
      -ℤ s.two.number (length trades)) low
      ∙ ap (λ (v : ℕ). s.two.number v -ℤ s.two.number (length trades)) (sym (node_at-trade trades f firm.count i p))
  | inr p ↦
      let node = ap s.two.number (node_at-null trades f firm.count i p) in
      ap (λ (b : Bool). if b then place_price s f firm i else pos 0) (le-ltb i firm.count p)
      ∙ nothing (s.two.number (node_at trades f firm.count i)) (s.two.number (length trades)) node
]
  where
    nothing : (a b : ℤ) → a ≡ b → pos 0 ≡ a -ℤ b
    nothing a b same = omega (arith, ints, same)

lowered_price : (firms : List Firm) (trades : List Ends) (on t : ℕ) (s : Setting firms trades on t) (f : ℕ)
    (firm : Firm) → slice_get firms f ≡ Some firm → (j : ℕ)
    → CanFall firm.count (level firm.count firm.buys (part trades f firm.count on)) j
    → price_of_place firm.count (place_price s f firm) j ≡ number_in s (node_at trades f firm.count j)
    -ℤ s.two.number (length trades)
lowered_price firms trades on t s f firm is j falls = elim (cases_lt j firm.count) [
  | inl p ↦
      let high : trade_level firm.buys (part trades f firm.count on) j ≡ 1 =
      sym (level-trade firm.count firm.buys (part trades f firm.count on) j p) ∙ falls p in
      ap (λ (b : Bool). if b then place_price s f firm j else pos 0) (lt-ltb j firm.count p)
      ∙ ap (λ (l : ℕ). (if l == 1 then number_in s (own trades f j) else s.two.number (own trades f j))
      -ℤ s.two.number (length trades)) high
      ∙ ap (λ (v : ℕ). number_in s v -ℤ s.two.number (length trades)) (sym (node_at-trade trades f firm.count j p))
  | inr p ↦
      let null = node_at-null trades f firm.count j p in
      let other : node_at trades f firm.count j ≢ t = λ e. let inside = s.inside in
      absurd (omega (arith, null, e, inside)) in
      let node = number_in-other firms trades on t s (node_at trades f firm.count j) other ∙ ap s.two.number null in
      ap (λ (b : Bool). if b then place_price s f firm j else pos 0) (le-ltb j firm.count p)
      ∙ nothing (number_in s (node_at trades f firm.count j)) (s.two.number (length trades)) node
]
  where
    nothing : (a b : ℤ) → a ≡ b → pos 0 ≡ a -ℤ b
    nothing a b same = omega (arith, ints, same)

-- ---- a firm's bundle at these prices

-- what is known of one firm
pub record AtFirm (firms : List Firm) (trades : List Ends) (on t : ℕ) (s : Setting firms trades on t) (f : ℕ)
    (firm : Firm) : Type 0 where
  pub is : slice_get firms f ≡ Some firm
  pub worth : ℤ
  pub worth_is : firm.worth (part trades f firm.count on) ≡ Some worth
  pub value : ℤ
  pub value_is : value ≡ pos 1 *ℤ worth +ℤ sum_over (payments firm.buys (place_price s f firm)) firm.count
      (part trades f firm.count on)
  pub best : IsBest (priced s f firm).worth (part trades f firm.count on) value

-- the utility of a moved bundle: less what it costs, and less the price of what is raised, and with that of what is
-- lowered
pub record IsMoved (firms : List Firm) (trades : List Ends) (on t : ℕ) (s : Setting firms trades on t) (f : ℕ)
    (firm : Firm) (i j : ℕ) (worth value other : ℤ) : Type 0 where
  pub cost : ℤ
  pub cost_is : loss firm (part trades f firm.count on) (move firm.count (part trades f firm.count on) i j) ≡ Some cost
  pub other_is : other +ℤ (s.two.number (node_at trades f firm.count i) +ℤ cost) ≡ value
      +ℤ number_in s (node_at trades f firm.count j)

-- a moved bundle with a utility
moved_value : (firms : List Firm) (trades : List Ends) (on t : ℕ) (s : Setting firms trades on t) (f : ℕ) (firm : Firm)
    → slice_get firms f ≡ Some firm → (i j : ℕ) (a value other : ℤ)
    → AreArcPlaces firm (part trades f firm.count on) i j → firm.worth (part trades f firm.count on) ≡ Some a
    → value ≡ pos 1 *ℤ a +ℤ sum_over (payments firm.buys (place_price s f firm)) firm.count
    (part trades f firm.count on)
    → (priced s f firm).worth (move firm.count (part trades f firm.count on) i j) ≡ Some other
    → IsMoved firms trades on t s f firm i j a value other
moved_value firms trades on t s f firm is i j a value other places a_is value_is other_is =
    let theirs =
    option_map-some (λ w. pos 1 *ℤ w +ℤ paid (move firm.count x i j)) (firm.worth (move firm.count x i j)) other
    other_is in
    let up = raised_price firms trades on t s f firm is i places.rises in
    let down = lowered_price firms trades on t s f firm is j places.falls in
    let pays = paid_move firm (place_price s f firm) x i j places in
    record {
      cost = a +ℤ neg_ℤ theirs.0;
      cost_is = loss_of firm x (move firm.count x i j) a theirs.0 a_is theirs.1;
      other_is = sums a theirs.0 (paid x) (paid (move firm.count x i j)) value other _ _ _ _ _ theirs.2 value_is up down
          pays;
    }
  where
    x : ℕ
    x = part trades f firm.count on

    paid : ℕ → ℤ
    paid y = sum_over (payments firm.buys (place_price s f firm)) firm.count y

    sums : (a b px py value other pi pj nu nv null : ℤ) → pos 1 *ℤ b +ℤ py ≡ other → value ≡ pos 1 *ℤ a +ℤ px
        → pi ≡ nu -ℤ null → pj ≡ nv -ℤ null → py ≡ (px -ℤ pi) +ℤ pj
        → other +ℤ (nu +ℤ (a +ℤ neg_ℤ b)) ≡ value +ℤ nv
    sums a b px py value other pi pj nu nv null theirs mine up down pays =
        omega (arith, ints, theirs, mine, up, down, pays)

-- each firm's bundle is best at these prices
pub at_firm : (firms : List Firm) (trades : List Ends) (on t : ℕ) (s : Setting firms trades on t) (f : ℕ) (firm : Firm)
    → slice_get firms f ≡ Some firm → AtFirm firms trades on t s f firm
at_firm firms trades on t s f firm is =
    from_worth (firm.worth (part trades f firm.count on)) refl (s.possible f firm is)
  where
    x : ℕ
    x = part trades f firm.count on

    paid : ℕ → ℤ
    paid y = sum_over (payments firm.buys (place_price s f firm)) firm.count y

    from_worth : (o : Option ℤ) → firm.worth (part trades f firm.count on) ≡ o → IsSome o
        → AtFirm firms trades on t s f firm
    from_worth None a_is some = absurd (cc some)
    from_worth (Some a) a_is some =
        let utility_law =
        meets-plus_sum firm (pos 1) (payments firm.buys (place_price s f firm)) (omega (arith, ints))
        (s.meet f firm is).0 (s.meet f firm is).1 in
        record {
          is = is;
          worth = a;
          worth_is = a_is;
          value = pos 1 *ℤ a +ℤ paid x;
          value_is = refl;
          best = best_from_unmoved (priced s f firm) utility_law.0
              (exchange_to_places (priced s f firm) utility_law.0 utility_law.1) x (pos 1 *ℤ a +ℤ paid x)
              (ap (option_map (λ w. pos 1 *ℤ w +ℤ paid x)) a_is)
              (λ i j other i_in j_in apart rises falls other_is.
              let places : AreArcPlaces firm (part trades f firm.count on) i j =
              record { from_within = i_in; to_within = j_in; apart = apart; rises = rises; falls = falls } in
              let moved = moved_value firms trades on t s f firm is i j a (pos 1 *ℤ a +ℤ paid x) other places a_is refl
              other_is in
              let kept = keeps_arc firms trades on t s (node_at trades f firm.count i) (node_at trades f firm.count j)
              moved.cost (arc_at firms trades s.network on f firm is i j places ∙ moved.cost_is) in
              let sum = moved.other_is in
              below other (pos 1 *ℤ a +ℤ paid x) _ _ sum kept);
        }
      where
        below : (other value nu nv : ℤ) → other +ℤ nu ≡ value +ℤ nv → nv ≤ℤ nu → other ≤ℤ value
        below other value nu nv sum kept = omega (arith, ints, sum, kept)

-- ---- legs

-- a leg of a walk: its firm, with the place that is raised and the one that is lowered, and its two nodes
pub record Leg : Type 0 where
  pub f : ℕ
  pub shift : Shift
  pub begin : ℕ
  pub end : ℕ

-- a leg is an arc of the firm at its places, and tight
pub record IsLeg (firms : List Firm) (trades : List Ends) (on t : ℕ) (s : Setting firms trades on t) (leg : Leg) : Type
    0 where
  pub firm : Firm
  pub is : slice_get firms leg.f ≡ Some firm
  pub places : AreArcPlaces firm (part trades leg.f firm.count on) leg.shift.up leg.shift.down
  pub begin_is : node_at trades leg.f firm.count leg.shift.up ≡ leg.begin
  pub end_is : node_at trades leg.f firm.count leg.shift.down ≡ leg.end
  pub cost : ℤ
  pub cost_is : loss firm (part trades leg.f firm.count on)
      (move firm.count (part trades leg.f firm.count on) leg.shift.up leg.shift.down) ≡ Some cost
  pub tight : number_in s leg.end ≡ s.two.number leg.begin +ℤ cost

-- a leg is an arc of its cost
pub leg_arc : (firms : List Firm) (trades : List Ends) (on t : ℕ) (s : Setting firms trades on t) (leg : Leg)
    (l : IsLeg firms trades on t s leg)
    → exchange_arc firms trades on leg.begin leg.end ≡ Some l.cost
leg_arc firms trades on t s leg l =
    ap₂ (exchange_arc firms trades on) (sym l.begin_is) (sym l.end_is)
    ∙ arc_at firms trades s.network on leg.f l.firm l.is leg.shift.up leg.shift.down l.places ∙ l.cost_is

-- a tight arc is a leg
pub arc_leg : (firms : List Firm) (trades : List Ends) (on t : ℕ) (s : Setting firms trades on t) (u v : ℕ) (c : ℤ)
    → exchange_arc firms trades on u v ≡ Some c
    → number_in s v ≡ s.two.number u +ℤ c → (leg : Leg) × (leg.begin ≡ u) × (leg.end ≡ v)
    × IsLeg firms trades on t s leg
arc_leg firms trades on t s u v c is tight =
    let at = arc_from firms trades s.network on u v c is in (
      record { f = at.f; shift = record { up = at.from; down = at.to }; begin = u; end = v },
      refl,
      refl,
      record {
        firm = at.firm;
        is = at.is;
        places = at.places;
        begin_is = at.begin;
        end_is = at.end;
        cost = c;
        cost_is =
            at.costs;
        tight = tight;
      },
    )

-- the moved bundle of a leg is as good as the firm's own, so it is a tight shift
pub leg_tight : (firms : List Firm) (trades : List Ends) (on t : ℕ) (s : Setting firms trades on t) (f : ℕ)
    (firm : Firm) (at : AtFirm firms trades on t s f firm) (leg : Leg)
    → IsLeg firms trades on t s leg → leg.f ≡ f
    → IsTight (priced s f firm) (part trades f firm.count on) at.value leg.shift
leg_tight firms trades on t s f firm at leg l same =
    by_firm leg.f same l.firm l.is l.places l.begin_is l.end_is l.cost_is
  where
    by_firm : (g : ℕ) → g ≡ f → (other : Firm) → slice_get firms g ≡ Some other
        → AreArcPlaces other (part trades g other.count on) leg.shift.up leg.shift.down
        → node_at trades g other.count leg.shift.up ≡ leg.begin → node_at trades g other.count leg.shift.down ≡ leg.end
        → loss other (part trades g other.count on) (move other.count (part trades g other.count on) leg.shift.up
        leg.shift.down) ≡ Some l.cost
        → IsTight (priced s f firm) (part trades f firm.count on) at.value leg.shift
    by_firm g e other is places begin_is end_is cost_is =
        let one : other ≡ firm = same_Some other firm (sym is ∙ ap (slice_get firms) e ∙ at.is) in
        here
        (subst (λ (z : Firm). AreArcPlaces z (part trades f z.count on) leg.shift.up leg.shift.down) one
        (subst (λ (h : ℕ). AreArcPlaces other (part trades h other.count on) leg.shift.up leg.shift.down) e places))
        (ap₂ (λ (h : ℕ) (z : Firm). node_at trades h z.count leg.shift.up) (sym e) (sym one) ∙ begin_is)
        (ap₂ (λ (h : ℕ) (z : Firm). node_at trades h z.count leg.shift.down) (sym e) (sym one) ∙ end_is)
        (ap₂ (λ (h : ℕ) (z : Firm). loss z (part trades h z.count on)
        (move z.count (part trades h z.count on) leg.shift.up leg.shift.down)) (sym e) (sym one) ∙ cost_is)
      where
        equal : (other value nu nv bu bv c d : ℤ) → other +ℤ (nu +ℤ c) ≡ value +ℤ nv → c ≡ d → bv ≡ bu +ℤ d → nu ≡ bu
            → nv ≡ bv → other ≡ value
        equal other value nu nv bu bv c d sum same tight begin end = omega (arith, ints, sum, same, tight, begin, end)

        here : AreArcPlaces firm (part trades f firm.count on) leg.shift.up leg.shift.down
            → node_at trades f firm.count leg.shift.up ≡ leg.begin
            → node_at trades f firm.count leg.shift.down ≡ leg.end
            → loss firm (part trades f firm.count on) (move firm.count (part trades f firm.count on) leg.shift.up
            leg.shift.down) ≡ Some l.cost
            → IsTight (priced s f firm) (part trades f firm.count on) at.value leg.shift
        here places begin_is end_is cost_is =
            let loses = loss_parts firm (part trades f firm.count on)
            (move firm.count (part trades f firm.count on) leg.shift.up leg.shift.down) l.cost cost_is in
            let other_value =
            pos 1 *ℤ loses.second +ℤ sum_over (payments firm.buys (place_price s f firm)) firm.count
            (move firm.count (part trades f firm.count on) leg.shift.up leg.shift.down) in
            let worth_is : (priced s f firm).worth (move firm.count (part trades f firm.count on) leg.shift.up
            leg.shift.down) ≡ Some other_value =
            ap (option_map (λ w. pos 1 *ℤ w +ℤ sum_over (payments firm.buys (place_price s f firm)) firm.count
            (move firm.count (part trades f firm.count on) leg.shift.up leg.shift.down))) loses.second_is in
            let moved = moved_value firms trades on t s f firm at.is leg.shift.up leg.shift.down at.worth at.value
            other_value places at.worth_is at.value_is worth_is in
            let cost : moved.cost ≡ l.cost = same_Some _ _ (sym moved.cost_is ∙ cost_is) in
            let tight = l.tight in
            let begin_number = ap s.two.number begin_is in
            let end_number = ap (number_in s) end_is in
            let sum = moved.other_is in
            record {
              up_place = places.from_within;
              down_place = places.to_within;
              apart = places.apart;
              rises = places.rises;
              falls = places.falls;
              keeps = worth_is
                  ∙ ap (λ (z : ℤ). Some z) (equal other_value at.value _ _ _ _ moved.cost l.cost sum cost tight
                  begin_number end_number);
            }

-- and a shift that keeps the value is a leg
pub shift_leg : (firms : List Firm) (trades : List Ends) (on t : ℕ) (s : Setting firms trades on t) (f : ℕ)
    (firm : Firm) (at : AtFirm firms trades on t s f firm) (i j : ℕ)
    → AreArcPlaces firm (part trades f firm.count on) i j
    → (priced s f firm).worth (move firm.count (part trades f firm.count on) i j) ≡ Some at.value
    → IsLeg firms trades on t s (record {
      f = f;
      shift = record { up = i; down = j };
      begin =
          node_at trades f firm.count i;
      end = node_at trades f firm.count j;
    })
shift_leg firms trades on t s f firm at i j places keeps =
    let moved = moved_value firms trades on t s f firm at.is i j at.worth at.value at.value places at.worth_is
    at.value_is keeps in
    let sum = moved.other_is in
    record {
      firm = firm;
      is = at.is;
      places = places;
      begin_is = refl;
      end_is = refl;
      cost = moved.cost;
      cost_is = moved.cost_is;
      tight = equal at.value _ _ sum;
    }
  where
    equal : (value nu nv : ℤ) → value +ℤ nu ≡ value +ℤ nv → nv ≡ nu
    equal value nu nv sum = omega (arith, ints, sum)

-- ---- tight paths

-- the legs lead from node u to node w, each from where the one before it ends
abbrev pub IsTightPath : {firms : List Firm} {trades : List Ends} {on t : ℕ} → Setting firms trades on t → ℕ → List Leg
    → ℕ → Type 0
IsTightPath s u [] w = u ≡ w
IsTightPath {firms} {trades} {on} {t} s u (leg ∷ legs) w = IsLeg firms trades on t s leg × (leg.begin ≡ u)
    × IsTightPath s leg.end legs w

pub path-joined : (firms : List Firm) (trades : List Ends) (on t : ℕ) (s : Setting firms trades on t) (u : ℕ)
    (legs : List Leg) (v : ℕ) (more : List Leg) (w : ℕ)
    → IsTightPath s u legs v → IsTightPath s v more w → IsTightPath s u (legs ++ more) w
path-joined firms trades on t s u [] v more w path rest = subst (λ (x : ℕ). IsTightPath s x more w) (sym path) rest
path-joined firms trades on t s u (leg ∷ legs) v more w path rest =
    (path.0, path.1, path-joined firms trades on t s leg.end legs v more w path.2 rest)

-- the two parts of a path
pub path_parts : (firms : List Firm) (trades : List Ends) (on t : ℕ) (s : Setting firms trades on t) (u : ℕ)
    (legs more : List Leg) (w : ℕ)
    → IsTightPath s u (legs ++ more) w → (v : ℕ) × IsTightPath s u legs v × IsTightPath s v more w
path_parts firms trades on t s u [] more w path = (u, refl, path)
path_parts firms trades on t s u (leg ∷ legs) more w path =
    let rest = path_parts firms trades on t s leg.end legs more w path.2 in
    (rest.0, (path.0, path.1, rest.1), rest.2)

-- a walk back to t that avoids it on the way
pub record IsReturn (firms : List Firm) (trades : List Ends) (on t : ℕ) (s : Setting firms trades on t) (u : ℕ)
    (count : ℕ) : Type 0 where
  pub inner : List ℕ
  pub avoids : Avoids t inner
  pub short : suc (length inner) ≤ count
  pub walk : walk_cost (exchange_arc firms trades on) u inner t ≡ Some (s.two.entering -ℤ s.two.number u)

-- a tight path to t, with a leg at least, has such a walk at its begin
pub first_return : (firms : List Firm) (trades : List Ends) (on t : ℕ) (s : Setting firms trades on t) (u : ℕ)
    (legs : List Leg) → IsTightPath s u legs t → 0 < length legs
    → IsReturn firms trades on t s u (length legs)
first_return firms trades on t s u [] path some = absurd (omega (arith, some))
first_return firms trades on t s u (leg ∷ legs) path some =
    at (cases_eq leg.end t) (leg_arc firms trades on t s leg path.0)
    (first_return firms trades on t s leg.end legs path.2)
  where
    at : (leg.end ≡ t) ⊎ (leg.end ≢ t) → exchange_arc firms trades on leg.begin leg.end ≡ Some path.0.cost
        → (0 < length legs → IsReturn firms trades on t s leg.end (length legs))
        → IsReturn firms trades on t s u (length (leg ∷ legs))
    at (inl e) arc later =
        let number = number_in-t firms trades on t s leg.end e in
        let begin = ap s.two.number path.1 in
        let tight = path.0.tight in
        record {
          inner = [];
          avoids = λ k z h. absurd (omega (arith, h));
          short = omega arith;
          walk = ap₂ (exchange_arc firms trades on) (sym path.1) (sym e) ∙ arc
              ∙ ap (λ (z : ℤ). Some z) (from path.0.cost _ _ _ _ tight number begin);
        }
      where
        from : (c nend nbegin entering nu : ℤ) → nend ≡ nbegin +ℤ c → nend ≡ entering → nbegin ≡ nu → c ≡ entering -ℤ nu
        from c nend nbegin entering nu tight number begin = omega (arith, ints, tight, number, begin)
    at (inr other) arc later =
        let some_legs : 0 < length legs = nonempty legs path.2 in
        let rest = later some_legs in
        let number = number_in-other firms trades on t s leg.end other in
        let begin = ap s.two.number path.1 in
        let tight = path.0.tight in
        let short = rest.short in
        record {
          inner = leg.end ∷ rest.inner;
          avoids = All-cons (λ x. x ≢ t) leg.end rest.inner other rest.avoids;
          short = omega (arith, short);
          walk = both_are (exchange_arc firms trades on u leg.end)
              (walk_cost (exchange_arc firms trades on) leg.end rest.inner t) path.0.cost (s.two.entering
              -ℤ s.two.number leg.end)
              (ap (λ (x : ℕ). exchange_arc firms trades on x leg.end) (sym path.1) ∙ arc) rest.walk
              ∙ ap (λ (z : ℤ). Some z) (sum path.0.cost _ _ _ _ _ tight number begin);
        }
      where
        nonempty : (ls : List Leg) → IsTightPath s leg.end ls t → 0 < length ls
        nonempty [] e = absurd (other e)
        nonempty (l ∷ ls) e = omega arith

        sum : (c nend nbegin entering nu nv : ℤ) → nend ≡ nbegin +ℤ c → nend ≡ nv → nbegin ≡ nu
            → c +ℤ (entering -ℤ nv) ≡ entering -ℤ nu
        sum c nend nbegin entering nu nv tight number begin = omega (arith, ints, tight, number, begin)

-- ---- the legs of a least cycle

-- a walk to t costs at least the difference of the numbers
pub walk_low : (firms : List Firm) (trades : List Ends) (on t : ℕ) (s : Setting firms trades on t) (u : ℕ) (vs : List ℕ)
    (c : ℤ) → Avoids t vs
    → walk_cost (exchange_arc firms trades on) u vs t ≡ Some c → s.two.entering ≤ℤ (s.two.number u +ℤ c)
walk_low firms trades on t s u [] c avoids is = s.two.keeps.enters u c is
walk_low firms trades on t s u (v ∷ vs) c avoids is =
    let parts = walk_parts (exchange_arc firms trades on) u v vs t c is in
    let first = s.two.keeps.others u v parts.first (All-head (λ x. x ≢ t) v vs avoids) parts.first_is in
    let rest = walk_low firms trades on t s v vs parts.second (All-tail (λ x. x ≢ t) v vs avoids) parts.second_is in
    let sum = parts.sum_is in
    omega (arith, ints, first, rest, sum)

-- and where it costs just that, it is a tight path over the same nodes
pub walk_legs : (firms : List Firm) (trades : List Ends) (on t : ℕ) (s : Setting firms trades on t) (u : ℕ)
    (vs : List ℕ) (c : ℤ) → Avoids t vs
    → walk_cost (exchange_arc firms trades on) u vs t ≡ Some c → s.two.entering ≡ s.two.number u +ℤ c
    → (legs : List Leg) × IsTightPath s u legs t × (map (λ leg. leg.begin) legs ≡ u ∷ vs)
walk_legs firms trades on t s u [] c avoids is equal =
    let leg = arc_leg firms trades on t s u t c is (number_in-t firms trades on t s t refl ∙ equal) in
    (leg.0 ∷ [], (leg.3, leg.1, leg.2), ap (λ (x : ℕ). x ∷ []) leg.1)
walk_legs firms trades on t s u (v ∷ vs) c avoids is equal =
    let parts = walk_parts (exchange_arc firms trades on) u v vs t c is in
    let other = All-head (λ x. x ≢ t) v vs avoids in
    let later = All-tail (λ x. x ≢ t) v vs avoids in
    let first = s.two.keeps.others u v parts.first other parts.first_is in
    let low = walk_low firms trades on t s v vs parts.second later parts.second_is in
    let sum = parts.sum_is in
    let leg = arc_leg firms trades on t s u v parts.first parts.first_is
    (number_in-other firms trades on t s v other ∙ here _ _ _ c parts.first parts.second equal first low sum) in
    let rest = walk_legs firms trades on t s v vs parts.second later parts.second_is
    (there _ _ _ c parts.first parts.second equal first low sum) in (
      leg.0 ∷ rest.0,
      (leg.3, leg.1, subst (λ (x : ℕ). IsTightPath s x rest.0 t) (sym leg.2) rest.1),
      ap₂ (λ (x : ℕ) (xs : List ℕ). x ∷ xs) leg.1 rest.2,
    )
  where
    here : (entering nu nv c a b : ℤ) → entering ≡ nu +ℤ c → nv ≤ℤ (nu +ℤ a) → entering ≤ℤ (nv +ℤ b) → c ≡ a +ℤ b
        → nv ≡ nu +ℤ a
    here entering nu nv c a b equal first low sum = omega (arith, ints, equal, first, low, sum)

    there : (entering nu nv c a b : ℤ) → entering ≡ nu +ℤ c → nv ≤ℤ (nu +ℤ a) → entering ≤ℤ (nv +ℤ b) → c ≡ a +ℤ b
        → entering ≡ nv +ℤ b
    there entering nu nv c a b equal first low sum = omega (arith, ints, equal, first, low, sum)
