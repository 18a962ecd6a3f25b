-- The arcs of the exchange graph, seen from the firms: an arc is a move of one firm at two of its places.
use Rattle.std.proofs.Common.{◌≡◌, ℕ, ◌<◌, ◌≤◌, Bool, true, false, not, ◌==◌, ◌&&◌, ◌||◌, if◌then◌else◌, List, length, slice_get, Some, None, Option, option_map, refl, sym, ap, ap₂, ◌∙◌, subst, arith, inl, inr, ◌⊎◌, ℤ}
use Rattle.std.specs.Prelude.{option_and_then, nat_le}
use Rattle.std.proofs.lemmas.Bool.{cases_Bool, cases_lt, eqb-true, eq-eqb, and_parts, or_cases, lt-ltb, le-ltb, le-leb, leb-true}
use Rattle.std.proofs.lemmas.Option.{same_Some, slice_get_cases, slice_get_past}
use Rattle.tn_base.specs.Sets.{has, toggle}
use Rattle.tn_base.specs.Firm.{Firm}
use Rattle.tn_base.proofs.SetLemmas.{has-set_of}
use Rattle.tn_firm_laws.specs.Places.{trade_level, level, move}
use Rattle.tn_firm_laws.proofs.PlaceLemmas.{level-trade, move-both, move-to_null, move-from_null}
use Rattle.tn_model.specs.declared.ends.Ends.{Ends}
use Rattle.tn_model.specs.Network.{own, part, stands_at, IsNetwork}
use Rattle.tn_market.specs.Graph.{raised, lowered, raised_by, lowered_by, loss, loss_at, arc_between, exchange_arc}
use Rattle.tn_market.specs.ArcPlaces.{node_at, AreArcPlaces, common_firm, arc_firm}
use Rattle.tn_model.proofs.NetworkLemmas.{own_stands}

pub node_at-trade : (trades : List Ends) (f n i : ℕ) → i < n → node_at trades f n i ≡ own trades f i
node_at-trade trades f n i below = ap (λ (b : Bool). if b then own trades f i else length trades) (lt-ltb i n below)

pub node_at-null : (trades : List Ends) (f n i : ℕ) → n ≤ i → node_at trades f n i ≡ length trades
node_at-null trades f n i above = ap (λ (b : Bool). if b then own trades f i else length trades) (le-ltb i n above)

-- a member of the bundle that a firm has of a set
pub has-part : (trades : List Ends) (f n on k : ℕ) → k < n → has (part trades f n on) k ≡ has on (own trades f k)
has-part trades f n on k below =
    has-set_of (λ j. has on (own trades f j)) n k ∙ ap (λ (b : Bool). b && has on (own trades f k)) (lt-ltb k n below)

-- ---- one end of a trade

-- a trade stands at a position of a firm, on the side of its purchases or of its sales
pub record IsEnd (firms : List Firm) (trades : List Ends) (t f k : ℕ) (bought : Bool) : Type 0 where
  pub firm : Firm
  pub is : slice_get firms f ≡ Some firm
  pub inside : k < firm.count
  pub owns : own trades f k ≡ t
  pub side : has firm.buys k ≡ bought

-- the trade that stands at a position of a firm is the one that the firm has there
owns_it : (firms : List Firm) (trades : List Ends) → IsNetwork firms trades → (f k t : ℕ) (firm : Firm) (trade : Ends)
    → slice_get firms f ≡ Some firm
    → k < firm.count → slice_get trades t ≡ Some trade → stands_at trade f k ≡ true → own trades f k ≡ t
owns_it firms trades network f k t firm trade is inside there stands =
    let found = own_stands trades f k (network.whole f k firm is inside) in
    network.once f k (own trades f k) t found.trade trade found.is there found.stands stands

stands_both : (trade : Ends) (f k : ℕ) → (trade.seller ≡ f) × (trade.at_seller ≡ k) ⊎ (trade.buyer ≡ f)
    × (trade.at_buyer ≡ k) → stands_at trade f k ≡ true
stands_both trade f k (inl p) =
    ap₂ (λ (a b : Bool). (a && b) || (trade.buyer == f && trade.at_buyer == k)) (eq-eqb trade.seller f p.0)
    (eq-eqb trade.at_seller k p.1)
stands_both trade f k (inr p) =
    ap₂ (λ (a b : Bool). (trade.seller == f && trade.at_seller == k) || (a && b)) (eq-eqb trade.buyer f p.0)
    (eq-eqb trade.at_buyer k p.1)
    ∙ either (trade.seller == f && trade.at_seller == k)
  where
    either : (b : Bool) → (b || true) ≡ true
    either true = refl
    either false = refl

pub seller_end : (firms : List Firm) (trades : List Ends) → IsNetwork firms trades → (t : ℕ) (trade : Ends)
    → slice_get trades t ≡ Some trade
    → IsEnd firms trades t trade.seller trade.at_seller false
seller_end firms trades network t trade there =
    let sold = network.sold t trade there in
    record {
      firm = sold.0;
      is = sold.1;
      inside = sold.2;
      owns = owns_it firms trades network trade.seller trade.at_seller t sold.0 trade sold.1 sold.2 there
          (stands_both trade trade.seller trade.at_seller (inl (refl, refl)));
      side = sold.3;
    }

pub buyer_end : (firms : List Firm) (trades : List Ends) → IsNetwork firms trades → (t : ℕ) (trade : Ends)
    → slice_get trades t ≡ Some trade
    → IsEnd firms trades t trade.buyer trade.at_buyer true
buyer_end firms trades network t trade there =
    let bought = network.bought t trade there in
    record {
      firm = bought.0;
      is = bought.1;
      inside = bought.2;
      owns = owns_it firms trades network trade.buyer trade.at_buyer t bought.0 trade bought.1 bought.2 there
          (stands_both trade trade.buyer trade.at_buyer (inr (refl, refl)));
      side = bought.3;
    }

-- the end that a trade raises while it is on, or off
pub raised_end : (firms : List Firm) (trades : List Ends) → IsNetwork firms trades → (t : ℕ) (trade : Ends)
    → slice_get trades t ≡ Some trade → (is_on : Bool)
    → IsEnd firms trades t (raised trade is_on).0 (raised trade is_on).1 (not is_on)
raised_end firms trades network t trade there true = seller_end firms trades network t trade there
raised_end firms trades network t trade there false = buyer_end firms trades network t trade there

-- the level of the position at an end, by its side and by whether the trade is on
abbrev level_by : Bool → Bool → ℕ
level_by bought is_on = if bought then (if is_on then 1 else 0) else (if is_on then 0 else 1)

pub end_level : (firms : List Firm) (trades : List Ends) (on t f k : ℕ) (bought : Bool)
    (end : IsEnd firms trades t f k bought)
    → trade_level end.firm.buys (part trades f end.firm.count on) k ≡ level_by bought (has on t)
unfolding trade_level
end_level firms trades on t f k bought end =
    ap₂ (λ (b h : Bool). if b then (if h then 1 else 0) else (if h then 0 else 1)) end.side
    (has-part trades f end.firm.count on k end.inside ∙ ap (has on) end.owns)

-- two firms with one number are one
pub same_firm : (firms : List Firm) (f : ℕ) (one other : Firm) → slice_get firms f ≡ Some one
    → slice_get firms f ≡ Some other → one ≡ other
same_firm firms f one other one_is other_is = same_Some one other (sym one_is ∙ other_is)

-- where a trade stands at a position of a firm, the firm is at one of its ends
which_end : (firms : List Firm) (trades : List Ends) → IsNetwork firms trades → (t f k : ℕ) (firm : Firm) (trade : Ends)
    → slice_get trades t ≡ Some trade
    → slice_get firms f ≡ Some firm → stands_at trade f k ≡ true → (is_on : Bool) → has firm.buys k ≡ not is_on
    → raised trade is_on ≡ (f, k)
which_end firms trades network t f k firm trade there is stands is_on side =
    elim (or_cases (trade.seller == f && trade.at_seller == k) (trade.buyer == f && trade.at_buyer == k) stands) [
      | inl h ↦
          let parts = and_parts (trade.seller == f) (trade.at_seller == k) h in
          sells is_on (eqb-true _ _ parts.0) (eqb-true _ _ parts.1) side
      | inr h ↦
          let parts = and_parts (trade.buyer == f) (trade.at_buyer == k) h in
          buys is_on (eqb-true _ _ parts.0) (eqb-true _ _ parts.1) side
    ]
  where
    pair : (a b : ℕ) → a ≡ f → b ≡ k → ◌≡◌ {A = ℕ × ℕ} (a, b) (f, k)
    pair a b p q = ap₂ (λ (x y : ℕ). (x, y)) p q

    side_of : (g i : ℕ) (bought : Bool) → g ≡ f → i ≡ k → IsEnd firms trades t g i bought → has firm.buys k ≡ bought
    side_of g i bought p q end =
        let one = same_firm firms f firm end.firm is (ap (slice_get firms) (sym p) ∙ end.is) in
        ap₂ (λ (x : Firm) (j : ℕ). has x.buys j) one (sym q) ∙ end.side

    sells : (b : Bool) → trade.seller ≡ f → trade.at_seller ≡ k → has firm.buys k ≡ not b → raised trade b ≡ (f, k)
    sells true p q s = pair trade.seller trade.at_seller p q
    sells false p q s = let other =
        side_of trade.seller trade.at_seller false p q (seller_end firms trades network t trade there) in
        absurd (cc (s, other))

    buys : (b : Bool) → trade.buyer ≡ f → trade.at_buyer ≡ k → has firm.buys k ≡ not b → raised trade b ≡ (f, k)
    buys false p q s = pair trade.buyer trade.at_buyer p q
    buys true p q s = let other =
        side_of trade.buyer trade.at_buyer true p q (buyer_end firms trades network t trade there) in
        absurd (cc (s, other))

-- the trade at a position of level 0 raises the position
pub raised_own : (firms : List Firm) (trades : List Ends) → IsNetwork firms trades → (on f k : ℕ) (firm : Firm)
    → slice_get firms f ≡ Some firm → k < firm.count
    → trade_level firm.buys (part trades f firm.count on) k ≡ 0 → raised_by trades on (own trades f k) ≡ Some (f, k)
unfolding trade_level
raised_own firms trades network on f k firm is inside low =
    let found = own_stands trades f k (network.whole f k firm is inside) in
    let member = has-part trades f firm.count on k inside in
    ap (option_map (λ trade. raised trade (has on (own trades f k)))) found.is
    ∙ ap (λ (p : ℕ × ℕ). Some p) (which_end firms trades network (own trades f k) f k firm found.trade found.is is
    found.stands (has on (own trades f k))
    (by_case (has firm.buys k) (has (part trades f firm.count on) k) low ∙ ap not member))
  where
    by_case : (b h : Bool) → ◌≡◌ {A = ℕ} (if b then (if h then 1 else 0) else (if h then 0 else 1)) 0 → b ≡ not h
    by_case true true e = absurd (omega (arith, e))
    by_case true false e = refl
    by_case false true e = refl
    by_case false false e = absurd (omega (arith, e))

-- the trade at a position of level 1 lowers it
pub lowered_own : (firms : List Firm) (trades : List Ends) → IsNetwork firms trades → (on f k : ℕ) (firm : Firm)
    → slice_get firms f ≡ Some firm → k < firm.count
    → trade_level firm.buys (part trades f firm.count on) k ≡ 1 → lowered_by trades on (own trades f k) ≡ Some (f, k)
unfolding trade_level
lowered_own firms trades network on f k firm is inside high =
    let found = own_stands trades f k (network.whole f k firm is inside) in
    let member = has-part trades f firm.count on k inside in
    ap (option_map (λ trade. lowered trade (has on (own trades f k)))) found.is
    ∙ ap (λ (p : ℕ × ℕ). Some p) (which_end firms trades network (own trades f k) f k firm found.trade found.is is
    found.stands (not (has on (own trades f k)))
    (by_case (has firm.buys k) (has (part trades f firm.count on) k) high ∙ ap (λ (b : Bool). not (not b)) member))
  where
    by_case : (b h : Bool) → ◌≡◌ {A = ℕ} (if b then (if h then 1 else 0) else (if h then 0 else 1)) 1 → b ≡ not (not h)
    by_case true true e = refl
    by_case true false e = absurd (omega (arith, e))
    by_case false true e = absurd (omega (arith, e))
    by_case false false e = refl

-- ---- moves are arcs

-- what a firm loses by a change of its bundle
loss_here : (firms : List Firm) (trades : List Ends) (on f : ℕ) (firm : Firm) (changed : ℕ → ℕ)
    → slice_get firms f ≡ Some firm
    → loss_at firms trades on f changed ≡ loss firm (part trades f firm.count on)
    (changed (part trades f firm.count on))
loss_here firms trades on f firm changed is =
    ap (option_and_then (λ x. loss x (part trades f x.count on) (changed (part trades f x.count on)))) is

-- nothing stands past the last trade
null_raises : (trades : List Ends) (on : ℕ) → raised_by trades on (length trades) ≡ None
null_raises trades on =
    ap (option_map (λ trade. raised trade (has on (length trades))))
    (slice_get_past trades (length trades) (omega arith))

null_lowers : (trades : List Ends) (on : ℕ) → lowered_by trades on (length trades) ≡ None
null_lowers trades on =
    ap (option_map (λ trade. lowered trade (has on (length trades))))
    (slice_get_past trades (length trades) (omega arith))

-- an arc between two nodes, by what they raise and lower
arc_is : (firms : List Firm) (trades : List Ends) (on u v : ℕ) (up down : Option (ℕ × ℕ)) → u ≤ length trades
    → v ≤ length trades
    → raised_by trades on u ≡ up → lowered_by trades on v ≡ down
    → exchange_arc firms trades on u v ≡ arc_between firms trades on up down
unfolding exchange_arc
arc_is firms trades on u v up down u_inside v_inside raises lowers =
    ap₂ (λ (a b : Bool). if a && b then arc_between firms trades on (raised_by trades on u) (lowered_by trades on v)
    else None)
    (le-leb u (length trades) u_inside) (le-leb v (length trades) v_inside)
    ∙ ap₂ (arc_between firms trades on) raises lowers

-- a move of a firm is an arc, and costs what the firm loses by it
pub arc_at : (firms : List Firm) (trades : List Ends) → IsNetwork firms trades → (on f : ℕ) (firm : Firm)
    → slice_get firms f ≡ Some firm → (i j : ℕ)
    → AreArcPlaces firm (part trades f firm.count on) i j
    → exchange_arc firms trades on (node_at trades f firm.count i) (node_at trades f firm.count j)
    ≡ loss firm (part trades f firm.count on) (move firm.count (part trades f firm.count on) i j)
arc_at firms trades network on f firm is i j places = elim (cases_lt i firm.count) [
  | inl p ↦ elim (cases_lt j firm.count) [
    | inl q ↦
        ap₂ (exchange_arc firms trades on) (node_at-trade trades f firm.count i p)
        (node_at-trade trades f firm.count j q)
        ∙ arc_is firms trades on _ _ _ _ (inside i p) (inside j q) (raise i p (places.rises p))
        (lower j q (places.falls q))
        ∙ ap (λ (b : Bool). if b then loss_at firms trades on f (λ y. toggle (toggle y i) j)
        else None) (eq-eqb f f refl)
        ∙ loss_here firms trades on f firm (λ y. toggle (toggle y i) j) is
        ∙ ap (loss firm x) (sym (move-both firm.count x i j p q))
    | inr q ↦
        let e : j ≡ firm.count = (let w = places.to_within in omega (arith, q, w)) in
        ap₂ (exchange_arc firms trades on) (node_at-trade trades f firm.count i p)
        (node_at-null trades f firm.count j q)
        ∙ arc_is firms trades on _ _ _ _ (inside i p) (omega arith) (raise i p (places.rises p)) (null_lowers trades on)
        ∙ loss_here firms trades on f firm (λ y. toggle y i) is
        ∙ ap (loss firm x) (sym (move-to_null firm.count x i p) ∙ ap (move firm.count x i) (sym e))
  ]
  | inr p ↦
      let e : i ≡ firm.count = (let w = places.from_within in omega (arith, p, w)) in
      let q : j < firm.count = (let w = places.to_within in let d = places.apart in omega (arith, w, d, e)) in
      ap₂ (exchange_arc firms trades on) (node_at-null trades f firm.count i p) (node_at-trade trades f firm.count j q)
      ∙ arc_is firms trades on _ _ _ _ (omega arith) (inside j q) (null_raises trades on) (lower j q (places.falls q))
      ∙ loss_here firms trades on f firm (λ y. toggle y j) is
      ∙ ap (loss firm x) (sym (move-from_null firm.count x j q) ∙ ap (λ (k : ℕ). move firm.count x k j) (sym e))
]
  where
    x : ℕ
    x = part trades f firm.count on

    inside : (k : ℕ) → k < firm.count → own trades f k ≤ length trades
    inside k p = let w = network.whole f k firm is p in omega (arith, w)

    raise : (k : ℕ) → k < firm.count → level firm.count firm.buys x k ≡ 0
        → raised_by trades on (own trades f k) ≡ Some (f, k)
    raise k p low =
        raised_own firms trades network on f k firm is p (sym (level-trade firm.count firm.buys x k p) ∙ low)

    lower : (k : ℕ) → k < firm.count → level firm.count firm.buys x k ≡ 1
        → lowered_by trades on (own trades f k) ≡ Some (f, k)
    lower k p high =
        lowered_own firms trades network on f k firm is p (sym (level-trade firm.count firm.buys x k p) ∙ high)

-- ---- arcs are moves

-- the firm of an arc, and its places
pub record IsMoveOf (firms : List Firm) (trades : List Ends) (on u v f : ℕ) : Type 0 where
  pub firm : Firm
  pub is : slice_get firms f ≡ Some firm
  pub from : ℕ
  pub to : ℕ
  pub places : AreArcPlaces firm (part trades f firm.count on) from to
  pub begin : node_at trades f firm.count from ≡ u
  pub end : node_at trades f firm.count to ≡ v

-- a firm at a node, with the position there and its level
record IsAtNode (firms : List Firm) (trades : List Ends) (on wanted t f k : ℕ) : Type 0 where
  firm : Firm
  is : slice_get firms f ≡ Some firm
  inside : k < firm.count
  owns : own trades f k ≡ t
  level_is : level firm.count firm.buys (part trades f firm.count on) k ≡ wanted

at_raised : (firms : List Firm) (trades : List Ends) → IsNetwork firms trades → (on t : ℕ) (trade : Ends)
    → slice_get trades t ≡ Some trade
    → IsAtNode firms trades on 0 t (raised trade (has on t)).0 (raised trade (has on t)).1
at_raised firms trades network on t trade there =
    let end = raised_end firms trades network t trade there (has on t) in
    record {
      firm = end.firm;
      is = end.is;
      inside = end.inside;
      owns = end.owns;
      level_is = level-trade end.firm.count end.firm.buys _ _ end.inside ∙ end_level firms trades on t _ _ _ end
          ∙ by_case (has on t);
    }
  where
    by_case : (h : Bool) → level_by (not h) h ≡ 0
    by_case true = refl
    by_case false = refl

at_lowered : (firms : List Firm) (trades : List Ends) → IsNetwork firms trades → (on t : ℕ) (trade : Ends)
    → slice_get trades t ≡ Some trade
    → IsAtNode firms trades on 1 t (lowered trade (has on t)).0 (lowered trade (has on t)).1
at_lowered firms trades network on t trade there =
    let end = raised_end firms trades network t trade there (not (has on t)) in
    record {
      firm = end.firm;
      is = end.is;
      inside = end.inside;
      owns = end.owns;
      level_is = level-trade end.firm.count end.firm.buys _ _ end.inside ∙ end_level firms trades on t _ _ _ end
          ∙ by_case (has on t);
    }
  where
    by_case : (h : Bool) → level_by (not (not h)) h ≡ 1
    by_case true = refl
    by_case false = refl

-- an arc between two trades is a move of the firm of both
both_trades : (firms : List Firm) (trades : List Ends) (on u v f i j : ℕ) → IsAtNode firms trades on 0 u f i
    → IsAtNode firms trades on 1 v f j
    → IsMoveOf firms trades on u v f
both_trades firms trades on u v f i j up down =
    let one = same_firm firms f down.firm up.firm down.is up.is in
    let i_inside = up.inside in
    let low = up.level_is in
    let j_inside : j < up.firm.count = subst (λ (z : Firm). j < z.count) one down.inside in
    let high : level up.firm.count up.firm.buys (part trades f up.firm.count on) j ≡ 1 =
    subst (λ (z : Firm). level z.count z.buys (part trades f z.count on) j ≡ 1) one down.level_is in
    record {
      firm = up.firm;
      is = up.is;
      from = i;
      to = j;
      places = record {
        from_within = omega (arith, i_inside);
        to_within = omega (arith, j_inside);
        apart = λ e. let other : level up.firm.count up.firm.buys (part trades f up.firm.count on) j ≡ 0 =
            subst (λ (k : ℕ). level up.firm.count up.firm.buys (part trades f up.firm.count on) k ≡ 0) e low in
            omega (arith, high, other);
        rises = λ p. low;
        falls = λ p. high;
      };
      begin = node_at-trade trades f up.firm.count i i_inside ∙ up.owns;
      end = node_at-trade trades f up.firm.count j j_inside ∙ down.owns;
    }

-- an arc to null is one of the firm that its begin raises
to_null : (firms : List Firm) (trades : List Ends) (on u v f i : ℕ) → IsAtNode firms trades on 0 u f i
    → length trades ≡ v → IsMoveOf firms trades on u v f
to_null firms trades on u v f i up null =
    let i_inside = up.inside in
    let low = up.level_is in
    record {
      firm = up.firm;
      is = up.is;
      from = i;
      to = up.firm.count;
      places = record {
        from_within = omega (arith, i_inside);
        to_within = omega arith;
        apart = omega (arith, i_inside);
        rises = λ p. low;
        falls = λ p. absurd (omega (arith, p));
      };
      begin = node_at-trade trades f up.firm.count i i_inside ∙ up.owns;
      end = node_at-null trades f up.firm.count up.firm.count (omega arith) ∙ null;
    }

-- and one from null of the firm that its end lowers
from_null : (firms : List Firm) (trades : List Ends) (on u v f j : ℕ) → IsAtNode firms trades on 1 v f j
    → length trades ≡ u → IsMoveOf firms trades on u v f
from_null firms trades on u v f j down null =
    let j_inside = down.inside in
    let high = down.level_is in
    record {
      firm = down.firm;
      is = down.is;
      from = down.firm.count;
      to = j;
      places = record {
        from_within = omega arith;
        to_within = omega (arith, j_inside);
        apart = omega (arith, j_inside);
        rises = λ p. absurd (omega (arith, p));
        falls = λ p. high;
      };
      begin = node_at-null trades f down.firm.count down.firm.count (omega arith) ∙ null;
      end = node_at-trade trades f down.firm.count j j_inside ∙ down.owns;
    }

-- whether two numbers are nodes
nodes_or_not : (trades : List Ends) (u v : ℕ)
    → ((u ≤ length trades) × (v ≤ length trades) × ((nat_le u (length trades) && nat_le v (length trades)) ≡ true))
    ⊎ ((nat_le u (length trades) && nat_le v (length trades)) ≡ false)
nodes_or_not trades u v = elim (cases_Bool (nat_le u (length trades) && nat_le v (length trades))) [
  | inl inside ↦ let parts = and_parts (nat_le u (length trades)) (nat_le v (length trades)) inside in
      inl (leb-true u (length trades) parts.0, leb-true v (length trades) parts.1, inside)
  | inr outside ↦ inr outside
]

-- an arc has a firm, and leads from node to node
pub record IsFirmOfArc (trades : List Ends) (on u v f : ℕ) : Type 0 where
  pub begin : u ≤ length trades
  pub end : v ≤ length trades
  pub common : common_firm (raised_by trades on u) (lowered_by trades on v) ≡ Some f

pub firm_of_arc : (trades : List Ends) (on u v f : ℕ) → arc_firm trades on u v ≡ Some f → IsFirmOfArc trades on u v f
firm_of_arc trades on u v f is = elim (nodes_or_not trades u v) [
  | inl inside ↦ record { begin = inside.0; end = inside.1; common = sym (ap at inside.2) ∙ is }
  | inr outside ↦ absurd (let none : arc_firm trades on u v ≡ None = ap at outside in cc (none, is))
]
  where
    at : Bool → Option ℕ
    at b = if b then common_firm (raised_by trades on u) (lowered_by trades on v) else None

-- so it is a move of that firm
pub move_of_arc : (firms : List Firm) (trades : List Ends) → IsNetwork firms trades → (on u v f : ℕ)
    → arc_firm trades on u v ≡ Some f
    → IsMoveOf firms trades on u v f
move_of_arc firms trades network on u v f is =
    let at = firm_of_arc trades on u v f is in
    let u_inside = at.begin in
    let v_inside = at.end in
    elim (slice_get_cases trades u).1 [
      | inl p ↦ elim (slice_get_cases trades v).1 [
        | inl q ↦ trades_of (raised p.0 (has on u)) (lowered q.0 (has on v))
            (sym (ap₂ common_firm (raises u p.0 p.2) (lowers v q.0 q.2)) ∙ at.common)
            (at_raised firms trades network on u p.0 p.2) (at_lowered firms trades network on v q.0 q.2)
        | inr q ↦
            let here : (raised p.0 (has on u)).0 ≡ f =
            same_Some _ _ (sym (ap₂ common_firm (raises u p.0 p.2) (no_lower v q.1)) ∙ at.common) in
            to_null firms trades on u v f (raised p.0 (has on u)).1
            (subst (λ (g : ℕ). IsAtNode firms trades on 0 u g (raised p.0 (has on u)).1) here
            (at_raised firms trades network on u p.0 p.2))
            (let above = q.0 in omega (arith, above, v_inside))
      ]
      | inr p ↦ elim (slice_get_cases trades v).1 [
        | inl q ↦
            let here : (lowered q.0 (has on v)).0 ≡ f =
            same_Some _ _ (sym (ap₂ common_firm (no_raise u p.1) (lowers v q.0 q.2)) ∙ at.common) in
            from_null firms trades on u v f (lowered q.0 (has on v)).1
            (subst (λ (g : ℕ). IsAtNode firms trades on 1 v g (lowered q.0 (has on v)).1) here
            (at_lowered firms trades network on v q.0 q.2))
            (let above = p.0 in omega (arith, above, u_inside))
        | inr q ↦ absurd (let none = ap₂ common_firm (no_raise u p.1) (no_lower v q.1) in let some = at.common in
            cc (none, some))
      ]
    ]
  where
    raises : (t : ℕ) (trade : Ends) → slice_get trades t ≡ Some trade
        → raised_by trades on t ≡ Some (raised trade (has on t))
    raises t trade there = ap (option_map (λ z. raised z (has on t))) there

    lowers : (t : ℕ) (trade : Ends) → slice_get trades t ≡ Some trade
        → lowered_by trades on t ≡ Some (lowered trade (has on t))
    lowers t trade there = ap (option_map (λ z. lowered z (has on t))) there

    no_raise : (t : ℕ) → slice_get trades t ≡ None → raised_by trades on t ≡ None
    no_raise t none = ap (option_map (λ z. raised z (has on t))) none

    no_lower : (t : ℕ) → slice_get trades t ≡ None → lowered_by trades on t ≡ None
    no_lower t none = ap (option_map (λ z. lowered z (has on t))) none

    trades_of : (up down : ℕ × ℕ) → common_firm (Some up) (Some down) ≡ Some f → IsAtNode firms trades on 0 u up.0 up.1
        → IsAtNode firms trades on 1 v down.0 down.1 → IsMoveOf firms trades on u v f
    trades_of up down common at_up at_down = elim (cases_Bool (up.0 == down.0)) [
      | inr apart ↦ absurd (let none : common_firm (Some up) (Some down) ≡ None =
          ap (λ (b : Bool). if b then Some up.0 else None) apart in cc (none, common))
      | inl same ↦
          let here : up.0 ≡ f = same_Some _ _ (sym (ap (λ (b : Bool). if b then Some up.0 else None) same) ∙ common) in
          let there : down.0 ≡ f = sym (eqb-true up.0 down.0 same) ∙ here in
          both_trades firms trades on u v f up.1 down.1 (subst (λ (g : ℕ). IsAtNode firms trades on 0 u g up.1) here
          at_up)
          (subst (λ (g : ℕ). IsAtNode firms trades on 1 v g down.1) there at_down)
    ]

-- where there can be no arc there is none
no_arc_between : (firms : List Firm) (trades : List Ends) (on : ℕ) (up down : Option (ℕ × ℕ))
    → common_firm up down ≡ None → arc_between firms trades on up down ≡ None
no_arc_between firms trades on (Some up) (Some down) none = elim (cases_Bool (up.0 == down.0)) [
  | inl same ↦ absurd (let some : common_firm (Some up) (Some down) ≡ Some up.0 =
      ap (λ (b : Bool). if b then Some up.0 else None) same in cc (some, none))
  | inr apart ↦ ap (λ (b : Bool). if b then loss_at firms trades on up.0 (λ y. toggle (toggle y up.1) down.1)
      else None) apart
]
no_arc_between firms trades on (Some up) None none = absurd (cc none)
no_arc_between firms trades on None (Some down) none = absurd (cc none)
no_arc_between firms trades on None None none = refl

pub no_arc : (firms : List Firm) (trades : List Ends) (on u v : ℕ) → arc_firm trades on u v ≡ None
    → exchange_arc firms trades on u v ≡ None
unfolding exchange_arc
no_arc firms trades on u v none = elim (nodes_or_not trades u v) [
  | inl inside ↦
      ap at inside.2 ∙ no_arc_between firms trades on (raised_by trades on u) (lowered_by trades on v)
      (sym (ap firm_at inside.2) ∙ none)
  | inr outside ↦ ap at outside
]
  where
    at : Bool → Option ℤ
    at b = if b then arc_between firms trades on (raised_by trades on u) (lowered_by trades on v) else None

    firm_at : Bool → Option ℕ
    firm_at b = if b then common_firm (raised_by trades on u) (lowered_by trades on v) else None

-- an arc leads from node to node
pub arc_within : (firms : List Firm) (trades : List Ends) (on u v : ℕ) (cost : ℤ)
    → exchange_arc firms trades on u v ≡ Some cost
    → (u ≤ length trades) × (v ≤ length trades)
arc_within firms trades on u v cost is = by_case (arc_firm trades on u v) refl
  where
    by_case : (o : Option ℕ) → arc_firm trades on u v ≡ o → (u ≤ length trades) × (v ≤ length trades)
    by_case None none = absurd (let no = no_arc firms trades on u v none in cc (no, is))
    by_case (Some f) some = let at = firm_of_arc trades on u v f some in (at.begin, at.end)

-- an arc is a move of a firm, and costs what the firm loses by it
pub record ArcAt (firms : List Firm) (trades : List Ends) (on u v : ℕ) (cost : ℤ) : Type 0 where
  pub f : ℕ
  pub firm : Firm
  pub is : slice_get firms f ≡ Some firm
  pub from : ℕ
  pub to : ℕ
  pub places : AreArcPlaces firm (part trades f firm.count on) from to
  pub begin : node_at trades f firm.count from ≡ u
  pub end : node_at trades f firm.count to ≡ v
  pub costs : loss firm (part trades f firm.count on) (move firm.count (part trades f firm.count on) from to)
      ≡ Some cost

pub arc_from : (firms : List Firm) (trades : List Ends) → IsNetwork firms trades → (on u v : ℕ) (cost : ℤ)
    → exchange_arc firms trades on u v ≡ Some cost
    → ArcAt firms trades on u v cost
arc_from firms trades network on u v cost is = by_case (arc_firm trades on u v) refl
  where
    by_case : (o : Option ℕ) → arc_firm trades on u v ≡ o → ArcAt firms trades on u v cost
    by_case None none = absurd (let no = no_arc firms trades on u v none in cc (no, is))
    by_case (Some f) some =
        let at = move_of_arc firms trades network on u v f some in
        record {
          f = f;
          firm = at.firm;
          is = at.is;
          from = at.from;
          to = at.to;
          places = at.places;
          begin = at.begin;
          end = at.end;
          costs = sym (arc_at firms trades network on f at.firm at.is at.from at.to at.places)
              ∙ ap₂ (exchange_arc firms trades on) at.begin at.end ∙ is;
        }
