-- The exchange graph of the market that some trades admit: the arcs among these trades and null.
use Rattle.std.proofs.Common.{◌+ℤ◌, ◌*ℤ◌, ◌≡◌, ◌≢◌, ℕ, zero, suc, ◌+◌, ◌^◌, ◌<◌, ◌≤◌, Bool, true, false, not, ◌==◌, ◌&&◌, ◌||◌, if◌then◌else◌, refl, sym, ap, ap₂, ◌∙◌, subst, arith, inl, inr, ◌⊎◌, ℤ, List, [], ◌∷◌, length, slice_get, Option, Some, None, option_map}
use Rattle.std.specs.Prelude.{pos, ◌≤ℤ◌, IsSome, option_and_then}
use Rattle.std.proofs.lemmas.Int.{ints}
use Rattle.std.proofs.lemmas.Bool.{cases_eq, cases_lt, cases_Bool, eq-eqb, eqb-true, and_parts, or_cases}
use Rattle.std.proofs.lemmas.Option.{same_Some}
use Rattle.tn_base.specs.Sets.{has, minus, sum_over}
use Rattle.tn_base.specs.Firm.{Firm, HasOwnBundles, among, payments}
use Rattle.tn_base.specs.Exchange.{MeetsExchange}
use Rattle.tn_base.specs.Walks.{arcs_among, is_admitted}
use Rattle.tn_base.proofs.SetLemmas.{has-toggle_same, has_from_minus-zero, minus-zero_from, has_below, set_of_within}
use Rattle.tn_firm_laws.specs.Places.{toggle_at, move}
use Rattle.tn_firm_laws.proofs.PlaceLemmas.{toggle_at-trade}
use Rattle.tn_firm_laws.proofs.KeepLemmas.{has-toggle_at, meets-among, option_map-some}
use Rattle.tn_firm_laws.proofs.AdditiveLemmas.{move-within}
use Rattle.tn_model.specs.declared.ends.Ends.{Ends}
use Rattle.tn_model.specs.Network.{own, part, IsNetwork}
use Rattle.tn_market.specs.Best.{IsSubset}
use Rattle.tn_market.specs.Equilibrium.{prices_at, utility_at, HasBest, IsEquilibrium, surplus_from, surplus_of}
use Rattle.tn_market.specs.Admitted.{admitted_from, admitted}
use Rattle.tn_market.specs.Graph.{loss, exchange_arc, ArePossible}
use Rattle.tn_market.specs.ArcPlaces.{node_at, AreArcPlaces}
use Rattle.tn_market.proofs.GraphLemmas.{node_at-trade, node_at-null, arc_at, ArcAt, arc_from, has-part}
use Rattle.tn_network_laws.specs.Laws.{MeetExchange}
use Rattle.tn_network_laws.proofs.SupportLemmas.{loss_parts, loss_of}
use Rattle.tn_network_laws.proofs.WelfareLemmas.{equilibrium_is_efficient}

-- ---- the firms of the admitted market

-- firm f of the admitted market
admitted_get : (trades : List Ends) (allowed : ℕ) (firms : List Firm) (g f : ℕ)
    → slice_get (admitted_from trades allowed g firms) f
    ≡ option_map (λ firm. among (part trades (g + f) firm.count allowed) firm) (slice_get firms f)
admitted_get trades allowed [] g f = refl
admitted_get trades allowed (firm ∷ firms) g zero =
    ap (λ (h : ℕ). Some (among (part trades h firm.count allowed) firm)) (omega arith)
admitted_get trades allowed (firm ∷ firms) g (suc f) =
    admitted_get trades allowed firms (g + 1) f
    ∙ ap (λ (h : ℕ). option_map (λ z. among (part trades h z.count allowed) z) (slice_get firms f)) (omega arith)

admitted_at : (trades : List Ends) (allowed : ℕ) (firms : List Firm) (f : ℕ)
    → slice_get (admitted trades allowed firms) f ≡ option_map (λ firm. among (part trades f firm.count allowed) firm)
    (slice_get firms f)
admitted_at trades allowed firms f =
    admitted_get trades allowed firms 0 f
    ∙ ap (λ (h : ℕ). option_map (λ z. among (part trades h z.count allowed) z) (slice_get firms f)) (omega arith)

pub admitted_is : (trades : List Ends) (allowed : ℕ) (firms : List Firm) (f : ℕ) (firm : Firm)
    → slice_get firms f ≡ Some firm
    → slice_get (admitted trades allowed firms) f ≡ Some (among (part trades f firm.count allowed) firm)
admitted_is trades allowed firms f firm is = admitted_at trades allowed firms f
    ∙ ap (option_map (λ z. among (part trades f z.count allowed) z)) is

-- and it comes from firm f of the market
pub admitted_from_firm : (trades : List Ends) (allowed : ℕ) (firms : List Firm) (f : ℕ) (other : Firm)
    → slice_get (admitted trades allowed firms) f ≡ Some other
    → (firm : Firm) × (slice_get firms f ≡ Some firm) × (other ≡ among (part trades f firm.count allowed) firm)
admitted_from_firm trades allowed firms f other is =
    by (slice_get firms f) refl (sym (admitted_at trades allowed firms f) ∙ is)
  where
    by : (o : Option Firm) → slice_get firms f ≡ o → option_map (λ z. among (part trades f z.count allowed) z) o
        ≡ Some other
        → (firm : Firm) × (slice_get firms f ≡ Some firm) × (other ≡ among (part trades f firm.count allowed) firm)
    by None there e = absurd (cc e)
    by (Some firm) there e = (firm, there, same_Some _ _ (sym e))

pub admitted_network : (firms : List Firm) (trades : List Ends) (allowed : ℕ) → IsNetwork firms trades
    → IsNetwork (admitted trades allowed firms) trades
admitted_network firms trades allowed network = record {
  apart = network.apart;
  sold = λ t trade is. let there = network.sold t trade is in (
    among (part trades trade.seller there.0.count allowed) there.0,
    admitted_is trades allowed firms trade.seller there.0 there.1,
    there.2,
    there.3,
  );
  bought = λ t trade is. let there = network.bought t trade is in (
    among (part trades trade.buyer there.0.count allowed) there.0,
    admitted_is trades allowed firms trade.buyer there.0 there.1,
    there.2,
    there.3,
  );
  whole = λ f k other is below. let there = admitted_from_firm trades allowed firms f other is in
      network.whole f k there.0 there.1 (subst (λ (z : Firm). k < z.count) there.2 below);
  once = network.once;
}

pub admitted_meet : (firms : List Firm) (trades : List Ends) (allowed : ℕ) → MeetExchange firms
    → MeetExchange (admitted trades allowed firms)
admitted_meet firms trades allowed meet f other is =
    let there = admitted_from_firm trades allowed firms f other is in
    let law = meet f there.0 there.1 in
    subst (λ (z : Firm). HasOwnBundles z × MeetsExchange z) (sym there.2)
    (meets-among there.0 (part trades f there.0.count allowed) law.0 law.1)

-- ---- bundles within the admitted trades

-- the bundle of a set of admitted trades is within what the firm may have
pub part_inside : (trades : List Ends) (f n allowed on : ℕ) → IsSubset on allowed
    → minus (part trades f n on) (part trades f n allowed) ≡ 0
part_inside trades f n allowed on inside = minus-zero_from (part trades f n on) (part trades f n allowed) (λ k there.
    let below = has_below (part trades f n on) n k (set_of_within (λ j. has on (own trades f j)) n) there in
    has-part trades f n allowed k below ∙ inside (own trades f k) (sym (has-part trades f n on k below) ∙ there))

-- a bundle within them is worth the same
pub among_inside : (allowed : ℕ) (firm : Firm) (x : ℕ) → minus x allowed ≡ 0
    → (among allowed firm).worth x ≡ firm.worth x
among_inside allowed firm x inside = ap (λ (b : Bool). if b then firm.worth x
    else None) (eq-eqb (minus x allowed) 0 inside)

-- and one with a worth is within them
pub among_parts : (allowed : ℕ) (firm : Firm) (x : ℕ) (a : ℤ) → (among allowed firm).worth x ≡ Some a
    → (minus x allowed ≡ 0) × (firm.worth x ≡ Some a)
among_parts allowed firm x a is = elim (cases_Bool (minus x allowed == 0)) [
  | inl e ↦ (eqb-true (minus x allowed) 0 e, sym (ap (λ (b : Bool). if b then firm.worth x else None) e) ∙ is)
  | inr e ↦ absurd (let none : (among allowed firm).worth x ≡ None =
      ap (λ (b : Bool). if b then firm.worth x else None) e in cc (none, is))
]

pub admitted_possible : (firms : List Firm) (trades : List Ends) (allowed on : ℕ) → IsSubset on allowed
    → ArePossible firms trades on → ArePossible (admitted trades allowed firms) trades on
admitted_possible firms trades allowed on inside possible f other is =
    let there = admitted_from_firm trades allowed firms f other is in
    subst (λ (z : Firm). IsSome (z.worth (part trades f z.count on))) (sym there.2)
    (subst IsSome
    (sym (among_inside (part trades f there.0.count allowed) there.0 (part trades f there.0.count on)
    (part_inside trades f there.0.count allowed on inside)))
    (possible f there.0 there.1))

pub possible_from_admitted : (firms : List Firm) (trades : List Ends) (allowed on : ℕ)
    → ArePossible (admitted trades allowed firms) trades on → ArePossible firms trades on
possible_from_admitted firms trades allowed on possible f firm is =
    some (among (part trades f firm.count allowed) firm).worth (firm.worth (part trades f firm.count on))
    (possible f (among (part trades f firm.count allowed) firm) (admitted_is trades allowed firms f firm is))
    (among_parts (part trades f firm.count allowed) firm (part trades f firm.count on))
  where
    some : (worth : ℕ → Option ℤ) (o : Option ℤ) → IsSome (worth (part trades f firm.count on))
        → ((a : ℤ) → worth (part trades f firm.count on) ≡ Some a
        → (minus (part trades f firm.count on) (part trades f firm.count allowed) ≡ 0) × (o ≡ Some a)) → IsSome o
    some worth o there parts = by (worth (part trades f firm.count on)) refl there
      where
        by : (p : Option ℤ) → worth (part trades f firm.count on) ≡ p → IsSome p → IsSome o
        by None e h = absurd (cc h)
        by (Some a) e h = subst IsSome (sym (parts a e).1) refl

-- ---- the surplus of admitted trades

-- a set of admitted trades has the same surplus in the market that they admit
pub admitted_surplus : (firms : List Firm) (trades : List Ends) (allowed on : ℕ) → IsSubset on allowed
    → surplus_of (admitted trades allowed firms) trades on ≡ surplus_of firms trades on
admitted_surplus firms trades allowed on inside = from 0 firms
  where
    from : (f : ℕ) (firms : List Firm) → surplus_from trades on f (admitted_from trades allowed f firms)
        ≡ surplus_from trades on f firms
    from f [] = refl
    from f (firm ∷ firms) =
        ap₂ (λ (first rest : Option ℤ). option_and_then (λ worth. option_map (λ more. worth +ℤ more) rest) first)
        (among_inside (part trades f firm.count allowed) firm (part trades f firm.count on)
        (part_inside trades f firm.count allowed on inside)) (from (f + 1) firms)

-- so no set of admitted trades has more than an equilibrium of that market
pub admitted_most : (firms : List Firm) (trades : List Ends) (allowed on : ℕ) (prices : ℕ → ℤ) (surplus : ℤ)
    → IsNetwork firms trades → IsSubset on allowed
    → IsEquilibrium (admitted trades allowed firms) trades (pos 1) on prices → surplus_of firms trades on ≡ Some surplus
    → (other : ℕ) (more : ℤ) → IsSubset other allowed → surplus_of firms trades other ≡ Some more → more ≤ℤ surplus
admitted_most firms trades allowed on prices surplus network inside equilibrium is other more within has_more =
    let efficient =
    equilibrium_is_efficient (admitted trades allowed firms) trades (pos 1) on prices
    (admitted_network firms trades allowed network) (omega (arith, ints)) equilibrium in
    let same : efficient.0 ≡ surplus =
    same_Some _ _ (sym efficient.1.is ∙ admitted_surplus firms trades allowed on inside ∙ is) in
    let most = efficient.1.most other more (admitted_surplus firms trades allowed other within ∙ has_more) in
    omega (arith, ints, same, most)

-- ---- the arcs of the admitted market

-- a member of the moved bundle is a member of the bundle or at one of the two places
moved_member : (n x i j k : ℕ) → has (move n x i j) k ≡ true → (k ≡ i) ⊎ ((k ≡ j) ⊎ (has x k ≡ true))
unfolding move
moved_member n x i j k there = elim (cases_eq k i) [
  | inl e ↦ inl e
  | inr not_i ↦ elim (cases_eq k j) [
    | inl e ↦ inr (inl e)
    | inr not_j ↦
        inr (inr (sym (has-toggle_at n x i k not_i) ∙ sym (has-toggle_at n (toggle_at n x i) j k not_j) ∙ there))
  ]
]

-- at a place that is moved, the trade is a member before or after
pub moved_one : (n x i j : ℕ) → i < n → i ≢ j → (has x i ≡ true) ⊎ (has (move n x i j) i ≡ true)
unfolding move
moved_one n x i j below apart = elim (cases_Bool (has x i)) [
  | inl e ↦ inl e
  | inr e ↦ inr (has-toggle_at n (toggle_at n x i) j i apart ∙ ap (λ (y : ℕ). has y i) (toggle_at-trade n x i below)
      ∙ has-toggle_same x i ∙ ap not e)
]

pub moved_other : (n x i j : ℕ) → j < n → i ≢ j → (has x j ≡ true) ⊎ (has (move n x i j) j ≡ true)
unfolding move
moved_other n x i j below apart = elim (cases_Bool (has x j)) [
  | inl e ↦ inl e
  | inr e ↦ inr (ap (λ (y : ℕ). has y j) (toggle_at-trade n (toggle_at n x i) j below)
      ∙ has-toggle_same (toggle_at n x i) j
      ∙ ap not (has-toggle_at n x i j (λ q. apart (sym q)) ∙ e))
]

-- the node of a place is admitted where its trade is, or it is null
node_admitted : (trades : List Ends) (f n allowed k : ℕ) → (k < n → has allowed (own trades f k) ≡ true)
    → is_admitted (length trades) allowed (node_at trades f n k) ≡ true
node_admitted trades f n allowed k inside = elim (cases_lt k n) [
  | inl p ↦ or_right (node_at trades f n k == length trades) (ap (has allowed) (node_at-trade trades f n k p)
      ∙ inside p)
  | inr p ↦ ap (λ (b : Bool). b || has allowed (node_at trades f n k)) (eq-eqb _ _ (node_at-null trades f n k p))
]
  where
    or_right : (b : Bool) {c : Bool} → c ≡ true → (b || c) ≡ true
    or_right true e = refl
    or_right false e = e

admitted_node : (firms : List Firm) (trades : List Ends) → IsNetwork firms trades → (f allowed k : ℕ) (firm : Firm)
    → slice_get firms f ≡ Some firm → k < firm.count
    → is_admitted (length trades) allowed (node_at trades f firm.count k) ≡ true → has allowed (own trades f k) ≡ true
admitted_node firms trades network f allowed k firm is below admitted =
    elim (or_cases (node_at trades f firm.count k == length trades) (has allowed (node_at trades f firm.count k))
    admitted) [
      | inl e ↦ absurd (
          let node = node_at-trade trades f firm.count k below in
          let null = eqb-true (node_at trades f firm.count k) (length trades) e in
          let inside = network.whole f k firm is below in
          omega (arith, node, null, inside))
      | inr e ↦ ap (has allowed) (sym (node_at-trade trades f firm.count k below)) ∙ e
    ]

-- options with the same numbers are the same
same_options : (o p : Option ℤ) → ((c : ℤ) → o ≡ Some c → p ≡ Some c) → ((c : ℤ) → p ≡ Some c → o ≡ Some c) → o ≡ p
same_options (Some a) p first second = sym (first a refl)
same_options None (Some b) first second = second b refl
same_options None None first second = refl

pub arcs_admitted : (firms : List Firm) (trades : List Ends) → IsNetwork firms trades → (allowed on : ℕ)
    → IsSubset on allowed → (u v : ℕ)
    → exchange_arc (admitted trades allowed firms) trades on u v
    ≡ arcs_among (is_admitted (length trades) allowed) (exchange_arc firms trades on) u v
arcs_admitted firms trades network allowed on inside u v = same_options _ _ forth back
  where
    among_arcs : Bool → Bool → Option ℤ
    among_arcs a b = if a && b then exchange_arc firms trades on u v else None

    forth : (c : ℤ) → exchange_arc (admitted trades allowed firms) trades on u v ≡ Some c
        → arcs_among (is_admitted (length trades) allowed) (exchange_arc firms trades on) u v ≡ Some c
    forth c is = from_parts (admitted_from_firm trades allowed firms at.f at.firm at.is)
      where
        at : ArcAt (admitted trades allowed firms) trades on u v c
        at = arc_from (admitted trades allowed firms) trades (admitted_network firms trades allowed network) on u v c is

        from_parts : (firm : Firm) × (slice_get firms at.f ≡ Some firm)
            × (at.firm ≡ among (part trades at.f firm.count allowed) firm)
            → arcs_among (is_admitted (length trades) allowed) (exchange_arc firms trades on) u v ≡ Some c
        from_parts there = here there.0 there.1
            (subst (λ (z : Firm). AreArcPlaces z (part trades at.f z.count on) at.from at.to) there.2 at.places)
            (ap (λ (z : Firm). node_at trades at.f z.count at.from) (sym there.2) ∙ at.begin)
            (ap (λ (z : Firm). node_at trades at.f z.count at.to) (sym there.2) ∙ at.end)
            (ap (λ (z : Firm). loss z (part trades at.f z.count on)
            (move z.count (part trades at.f z.count on) at.from at.to)) (sym there.2) ∙ at.costs)
          where
            here : (firm : Firm) → slice_get firms at.f ≡ Some firm
                → AreArcPlaces (among (part trades at.f firm.count allowed) firm) (part trades at.f firm.count on)
                at.from at.to
                → node_at trades at.f firm.count at.from ≡ u → node_at trades at.f firm.count at.to ≡ v
                → loss (among (part trades at.f firm.count allowed) firm) (part trades at.f firm.count on)
                (move firm.count (part trades at.f firm.count on) at.from at.to) ≡ Some c
                → arcs_among (is_admitted (length trades) allowed) (exchange_arc firms trades on) u v ≡ Some c
            here firm is places begin end costs =
                let x = part trades at.f firm.count on in
                let y = move firm.count (part trades at.f firm.count on) at.from at.to in
                let loses = loss_parts (among (part trades at.f firm.count allowed) firm) x y c costs in
                let first = among_parts (part trades at.f firm.count allowed) firm x loses.first loses.first_is in
                let second = among_parts (part trades at.f firm.count allowed) firm y loses.second loses.second_is in
                let mine : AreArcPlaces firm (part trades at.f firm.count on) at.from at.to = record {
                  from_within = places.from_within;
                  to_within = places.to_within;
                  apart = places.apart;
                  rises = places.rises;
                  falls = places.falls;
                } in
                let arc : exchange_arc firms trades on u v ≡ Some c =
                ap₂ (exchange_arc firms trades on) (sym begin) (sym end)
                ∙ arc_at firms trades network on at.f firm is at.from at.to mine
                ∙ loss_of firm x y loses.first loses.second first.1 second.1
                ∙ ap (λ (z : ℤ). Some z) (sym loses.cost_is) in
                let member = λ (k : ℕ) (below : k < firm.count) (there : has y k ≡ true).
                sym (has-part trades at.f firm.count allowed k below)
                ∙ has_from_minus-zero y (part trades at.f firm.count allowed) k second.0 there in
                let old = λ (k : ℕ) (below : k < firm.count) (there : has x k ≡ true). inside (own trades at.f k)
                (sym (has-part trades at.f firm.count on k below) ∙ there) in
                let u_in : is_admitted (length trades) allowed u ≡ true =
                ap (is_admitted (length trades) allowed) (sym begin)
                ∙ node_admitted trades at.f firm.count allowed at.from (λ p.
                elim (moved_one firm.count x at.from at.to p places.apart) [
                  | inl e ↦ old at.from p e
                  | inr e ↦
                      member at.from p e
                ]) in
                let v_in : is_admitted (length trades) allowed v ≡ true =
                ap (is_admitted (length trades) allowed) (sym end) ∙ node_admitted trades at.f firm.count allowed
                at.to (λ p.
                elim (moved_other firm.count x at.from at.to p places.apart) [
                  | inl e ↦ old at.to p e
                  | inr e ↦
                      member at.to p e
                ]) in
                ap₂ among_arcs u_in v_in ∙ arc

    back : (c : ℤ) → arcs_among (is_admitted (length trades) allowed) (exchange_arc firms trades on) u v ≡ Some c
        → exchange_arc (admitted trades allowed firms) trades on u v ≡ Some c
    back c is = elim (cases_Bool (is_admitted (length trades) allowed u && is_admitted (length trades) allowed v)) [
      | inr e ↦ absurd (let none = ap (λ (b : Bool). if b then exchange_arc firms trades on u v else None) e in
          cc (none, is))
      | inl e ↦
          let both_in = and_parts (is_admitted (length trades) allowed u) (is_admitted (length trades) allowed v) e in
          from_arc both_in.0 both_in.1 (arc_from firms trades network on u v c
          (sym (ap (λ (b : Bool). if b then exchange_arc firms trades on u v else None) e) ∙ is))
    ]
      where
        from_arc : is_admitted (length trades) allowed u ≡ true → is_admitted (length trades) allowed v ≡ true
            → ArcAt firms trades on u v c
            → exchange_arc (admitted trades allowed firms) trades on u v ≡ Some c
        from_arc u_in v_in at =
            let x = part trades at.f at.firm.count on in
            let y = move at.firm.count (part trades at.f at.firm.count on) at.from at.to in
            let limit = part trades at.f at.firm.count allowed in
            let loses = loss_parts at.firm x y c at.costs in
            let x_in = part_inside trades at.f at.firm.count allowed on inside in
            let y_in : minus (move at.firm.count (part trades at.f at.firm.count on) at.from at.to)
            (part trades at.f at.firm.count allowed) ≡ 0 =
            minus-zero_from y limit (λ k there. elim (moved_member at.firm.count x at.from at.to k there) [
              | inl e ↦ member at k at.from e at.places.from_within u at.begin u_in there
              | inr rest ↦ elim rest [
                | inl e ↦ member at k at.to e at.places.to_within v at.end v_in there
                | inr old ↦ has_from_minus-zero x limit k x_in old
              ]
            ]) in
            let firm = among limit at.firm in
            let places : AreArcPlaces (among (part trades at.f at.firm.count allowed) at.firm)
            (part trades at.f at.firm.count on) at.from at.to = record {
              from_within = at.places.from_within;
              to_within = at.places.to_within;
              apart = at.places.apart;
              rises = at.places.rises;
              falls = at.places.falls;
            } in
            ap₂ (exchange_arc (admitted trades allowed firms) trades on) (sym at.begin) (sym at.end)
            ∙ arc_at (admitted trades allowed firms) trades (admitted_network firms trades allowed network) on at.f
            (among (part trades at.f at.firm.count allowed) at.firm)
            (admitted_is trades allowed firms at.f at.firm at.is) at.from at.to places
            ∙ loss_of (among (part trades at.f at.firm.count allowed) at.firm) x y loses.first loses.second
            (among_inside limit at.firm x x_in ∙ loses.first_is) (among_inside limit at.firm y y_in ∙ loses.second_is)
            ∙ ap (λ (z : ℤ). Some z) (sym loses.cost_is)
          where
            member : (at : ArcAt firms trades on u v c) (k : ℕ) (i : ℕ) → k ≡ i → i ≤ at.firm.count → (w : ℕ)
                → node_at trades at.f at.firm.count i ≡ w → is_admitted (length trades) allowed w ≡ true
                → has (move at.firm.count (part trades at.f at.firm.count on) at.from at.to) k ≡ true
                → has (part trades at.f at.firm.count allowed) k ≡ true
            member at k i e within w node w_in there = elim (cases_lt i at.firm.count) [
              | inl p ↦
                  ap (has (part trades at.f at.firm.count allowed)) e ∙ has-part trades at.f at.firm.count allowed i p
                  ∙ admitted_node firms trades network at.f allowed i at.firm at.is p
                  (ap (is_admitted (length trades) allowed) node ∙ w_in)
              | inr p ↦ absurd (null at k i e p there)
            ]
              where
                null : (at : ArcAt firms trades on u v c) (k i : ℕ) → k ≡ i → at.firm.count ≤ i
                    → has (move at.firm.count (part trades at.f at.firm.count on) at.from at.to) k ≡ true → ⊥
                null at k i e above there =
                    let below = has_below _ at.firm.count k (move-within at.firm.count
                    (part trades at.f at.firm.count on) at.from at.to (set_of_within
                    (λ j. has on (own trades at.f j)) at.firm.count)) there in
                    omega (arith, below, e, above)

-- where every trade is admitted, an equilibrium of the admitted market is one of the market
pub equilibrium_of_all : (firms : List Firm) (trades : List Ends) (allowed : ℕ) → IsNetwork firms trades
    → MeetExchange firms
    → ((t : ℕ) → t < length trades → has allowed t ≡ true) → (scale : ℤ) (on : ℕ) (prices : ℕ → ℤ)
    → IsEquilibrium (admitted trades allowed firms) trades scale on prices → IsEquilibrium firms trades scale on prices
equilibrium_of_all firms trades allowed network meet all scale on prices equilibrium f firm is = (
  best.0,
  record {
    is = sym (same (part trades f firm.count on) (set_of_within (λ k. has on (own trades f k)) firm.count)) ∙ best.1.is;
    most = λ y other other_is.
        let worth = option_map-some (λ a. scale *ℤ a +ℤ paid y) (firm.worth y) other other_is in
        best.1.most y other (same y ((meet f firm is).0 y worth.0 worth.1) ∙ other_is);
  },
)
  where
    paid : ℕ → ℤ
    paid y = sum_over (payments firm.buys (prices_at trades prices f)) firm.count y

    best : HasBest trades scale on prices f (among (part trades f firm.count allowed) firm)
    best = equilibrium f (among (part trades f firm.count allowed) firm) (admitted_is trades allowed firms f firm is)

    same : (y : ℕ) → y < 2 ^ firm.count
        → utility_at trades scale prices f (among (part trades f firm.count allowed) firm) y
        ≡ utility_at trades scale prices f firm y
    same y below =
        ap (option_map (λ a. scale *ℤ a +ℤ sum_over (payments firm.buys (prices_at trades prices f)) firm.count y))
        (among_inside (part trades f firm.count allowed) firm y
        (minus-zero_from y (part trades f firm.count allowed) (λ k there.
        let inside = has_below y firm.count k below there in
        has-part trades f firm.count allowed k inside ∙ all (own trades f k) (network.whole f k firm is inside))))
