-- What a session stands on and what it holds.
use Rattle.std.proofs.Common.{◌≡◌, ◌≢◌, ℕ, zero, suc, ◌+◌, ◌-◌, ◌*◌, ◌<◌, ◌≤◌, Bool, true, false, not, ◌==◌, ◌||◌, ◌&&◌, inl, inr, refl, sym, ap, ◌∙◌, subst, arith, ℤ, pos, neg_ℤ, ◌-ℤ◌, List, [], ◌∷◌, length, map, slice_get, Some}
use Rattle.std.specs.Prelude.{◌≤ℤ◌}
use mathlib.Core.Bool.{beq}
use Rattle.std.proofs.lemmas.Int.{ints}
use Rattle.std.proofs.lemmas.List.{get_or_default}
use Rattle.std.proofs.lemmas.Nat.{mul-le}
use Rattle.std.proofs.lemmas.Bool.{cases_eq, cases_lt, eq-eqb, ne_eqb}
use Rattle.std.proofs.lemmas.List.FromFn.{get_or-map-range_with_len, length-map-range_with_len}
use Rattle.tn_base.specs.Sets.{has, toggle}
use Rattle.tn_base.proofs.SetLemmas.{has-toggle_same, has-toggle_other, toggle-toggle}
use Rattle.tn_base.specs.Arcs.{IsAtMost}
use Rattle.tn_base.specs.Firm.{Firm, MayAbstain}
use Rattle.tn_market.specs.Traded.{Traded}
use Rattle.tn_model.specs.declared.ends.Ends.{Ends}
use Rattle.tn_model.specs.Network.{IsNetwork}
use Rattle.tn_market.specs.Lawful.{IsLawful}
use Rattle.tn_market.specs.Valued.{IsWorthAtMost}
use Rattle.tn_model.specs.Prices.{price_at}
use Rattle.tn_graph.specs.Blocks.{CostBlocks}
use Rattle.tn_graph.specs.Reading.{IsExchangeAmong}
use Rattle.tn_cycle.specs.Reading.{Reading}
use Rattle.tn_cycle.specs.Answers.{AreLabels, AreNear, label_in}
use Rattle.tn_base.specs.Walks.{arcs_among, is_admitted}
use Rattle.tn_market.specs.Graph.{exchange_arc}
use Rattle.tn_market.specs.Widths.{most_market_trades}
use Rattle.tn_network_laws.specs.Laws.{MeetExchange}
use Rattle.tn_flow.specs.Underway.{AreKept, AreUnderWay}
use Rattle.tn_network_laws.proofs.EachLemmas.{each_firm, each_within, meet_all}
use Rattle.tn_network_laws.proofs.SupportLemmas.{arcs_small}
use Rattle.tn_network_laws.proofs.BarLemmas.{one_cycle_bars_a_trade}
use Rattle.tn_network_laws.specs.Kept.{IsKept}
use Rattle.tn_cycle.specs.GraphLemmas.{small-arcs_among}
use Rattle.tn_flow.proofs.RoundLemmas.{near-wider, before_joined}
use Rattle.tn_flow.proofs.SolverLemmas.{small_bound, solution_from}
use Rattle.tn_session.specs.Standing.{standing_of, differences, HoldsEquilibrium, HasSmallPrices, AreFirmsSmall, AreSettled, IsSession}
use Rattle.tn_session.specs.Widths.{most_path}
use Rattle.tn_cycle.specs.Widths.{label_step, most_label, most_read}
use Rattle.tn_base.specs.Widths.{most_cost}

-- ---- the firms of a market

pub record HasLaws {V : Type 0} (firm_of : V → Firm) (limit_of : V → ℕ) (market : Traded V) : Type 0 where
  pub network : IsNetwork (map firm_of market.firms) market.trades
  pub meet : MeetExchange (map firm_of market.firms)
  pub abstain : (f : ℕ) (firm : Firm) → slice_get (map firm_of market.firms) f ≡ Some firm → MayAbstain firm
  pub within : (v : V) → IsWorthAtMost (limit_of v) (firm_of v)

pub laws_of : {V : Type 0} (firm_of : V → Firm) (limit_of : V → ℕ) (market : Traded V)
    → IsNetwork (map firm_of market.firms) market.trades
    → ((v : V) → IsLawful (limit_of v) (firm_of v)) → HasLaws firm_of limit_of market
laws_of firm_of limit_of market network lawful = record {
  network = network;
  meet = meet_all firm_of market.firms lawful;
  abstain = each_firm firm_of MayAbstain market.firms (λ v. (lawful v).empty_is_possible);
  within = λ v. (lawful v).within;
}

-- no arc costs too much for a graph
pub firms_small : {V : Type 0} (limit_of : V → ℕ) (market : Traded V) → AreFirmsSmall limit_of market → (f : ℕ) (v : V)
    → slice_get market.firms f ≡ Some v → 2 * limit_of v ≤ most_cost
firms_small limit_of market small f v is = small_bound (limit_of v) (length market.trades) (let most = small f v is in
    omega (arith, most))

-- ---- one bound for all firms

-- what holds of each item's limit and of 0 holds of a bound of all limits
one_bound : {V : Type 0} (limit_of : V → ℕ) (P : ℕ → Type 0) → P 0 → (items : List V)
    → ((f : ℕ) (v : V) → slice_get items f ≡ Some v → P (limit_of v))
    → (bound : ℕ) × ((f : ℕ) (v : V) → slice_get items f ≡ Some v → limit_of v ≤ bound) × P bound
one_bound limit_of P none [] each = (0, λ f v is. absurd (cc is), none)
one_bound {V} limit_of P none (first ∷ items) each =
    with_rest (one_bound limit_of P none items (λ f v is. each (suc f) v is))
  where
    with_rest : (bound : ℕ) × ((f : ℕ) (v : V) → slice_get items f ≡ Some v → limit_of v ≤ bound) × P bound
        → (bound : ℕ) × ((f : ℕ) (v : V) → slice_get (first ∷ items) f ≡ Some v → limit_of v ≤ bound) × P bound
    with_rest rest = elim (cases_lt rest.0 (limit_of first)) [
      | inl above ↦ (
        limit_of first,
        all (limit_of first) (omega arith) (λ f v is. let low = rest.1 f v is in
            omega (arith, low, above)),
        each 0 first refl,
      )
      | inr most ↦ (rest.0, all rest.0 most rest.1, rest.2)
    ]
      where
        all : (bound : ℕ) → limit_of first ≤ bound → ((f : ℕ) (v : V) → slice_get items f ≡ Some v → limit_of v ≤ bound)
            → (f : ℕ) (v : V) → slice_get (first ∷ items) f ≡ Some v → limit_of v ≤ bound
        all bound here others zero v is = let same : first ≡ v = cc is in
            subst (λ (x : V). limit_of x ≤ bound) same here
        all bound here others (suc f) v is = others f v is

-- a bound that is small enough
pub small_bound_of : {V : Type 0} (limit_of : V → ℕ) (market : Traded V) → AreFirmsSmall limit_of market → (bound : ℕ)
    × ((f : ℕ) (v : V) → slice_get market.firms f ≡ Some v → limit_of v ≤ bound) × (2 * bound *
    (length market.trades + 1) ≤ most_path)
small_bound_of limit_of market small =
    one_bound limit_of (λ b. 2 * b * (length market.trades + 1) ≤ most_path) (omega arith) market.firms small

-- ---- the prices

one_each : (count : ℕ) (labels : List ℤ) → length (differences count labels) ≡ count
one_each count labels = length-map-range_with_len (λ t. label_in labels t -ℤ label_in labels count) 0 count

pub price-is : (count : ℕ) (labels : List ℤ) (t : ℕ) → t < count
    → price_at (differences count labels) t ≡ label_in labels t -ℤ label_in labels count
price-is count labels t below =
    get_or-map-range_with_len (λ t. label_in labels t -ℤ label_in labels count) 0 count t t (pos 0) below (omega arith)

-- the numbers that the prices are made of go no further than a path may cost
pub numbers_near : {V : Type 0} (firm_of : V → Firm) (limit_of : V → ℕ) (market : Traded V) (numbers : List ℤ)
    → ((v : V) → IsWorthAtMost (limit_of v) (firm_of v)) → AreFirmsSmall limit_of market
    → length numbers ≡ length market.trades + 1 → AreSettled firm_of market numbers → AreNear most_path numbers
numbers_near firm_of limit_of market numbers laws small counted settled t below =
    let bound = small_bound_of limit_of market small in
    let inside : t < length market.trades + 1 = subst (λ (n : ℕ). t < n) counted below in
    within bound.0 (length market.trades) bound.2 (settled.high t inside) (settled.low bound.0 t
    (each_within firm_of limit_of market.firms laws bound.0 bound.1) inside)
  where
    within : (bound count : ℕ) → 2 * bound * (count + 1) ≤ most_path → label_in numbers t ≤ℤ pos 0
        → neg_ℤ (pos (2 * bound * count)) ≤ℤ label_in numbers t → IsAtMost (label_in numbers t) most_path
    within bound count most high low =
        let e : 2 * bound * (count + 1) ≡ 2 * bound * count + 2 * bound = grind arith in
        record { low = omega (arith, ints, most, e, low); high = omega (arith, ints, high) }

pub numbers_small : {V : Type 0} (firm_of : V → Firm) (limit_of : V → ℕ) (market : Traded V) (numbers : List ℤ)
    → ((v : V) → IsWorthAtMost (limit_of v) (firm_of v)) → AreFirmsSmall limit_of market
    → length numbers ≡ length market.trades + 1 → AreSettled firm_of market numbers → (t : ℕ) → t < length numbers
    → IsAtMost (label_in numbers t) most_read
numbers_small firm_of limit_of market numbers laws small counted settled =
    near-wider most_path most_read numbers (omega arith)
    (numbers_near firm_of limit_of market numbers laws small counted settled)

-- one round goes no further than labels may
pub round_near : (count : ℕ) (labels : List ℤ) → count ≤ most_market_trades
    → AreNear (most_path + label_step (count + 1)) labels → AreNear most_label labels
round_near count labels few = near-wider (most_path + label_step (count + 1)) most_label labels (omega (arith, few))

-- ---- the equilibrium

-- labels that are found anew are small
pub settled : {V : Type 0} (firm_of : V → Firm) (limit_of : V
    → ℕ) (market : Traded V) (allowed on : ℕ) (labels : List ℤ) → HasLaws firm_of limit_of market
    → AreLabels (length market.trades + 1) (arcs_among (is_admitted (length market.trades) allowed)
    (exchange_arc (map firm_of market.firms) market.trades on)) labels
    → AreSettled firm_of market labels
settled firm_of limit_of market allowed on labels laws are = record {
  high = are.high;
  low = λ bound v bounded below.
      let e : (length market.trades + 1 - 1) * (2 * bound) ≡ 2 * bound * length market.trades = grind arith in
      subst (λ (n : ℕ). neg_ℤ (pos n) ≤ℤ label_in labels v) e
      (are.low (2 * bound) v (small-arcs_among (is_admitted (length market.trades) allowed) (2 * bound)
      (exchange_arc (map firm_of market.firms) market.trades on)
      (arcs_small (map firm_of market.firms) market.trades laws.network bound on bounded)) below);
}

pub holds : {V : Type 0} (firm_of : V → Firm) (limit_of : V
    → ℕ) (market : Traded V) (graph : CostBlocks) (finder : Reading) (allowed on : ℕ) → HasLaws firm_of limit_of market
    → AreUnderWay (map firm_of market.firms) market.trades graph finder allowed on
    → HoldsEquilibrium firm_of (standing_of market allowed on finder.labels)
holds firm_of limit_of market graph finder allowed on laws way =
    solution_from (map firm_of market.firms) market.trades graph finder allowed allowed on finder.labels
    (differences (length market.trades) finder.labels) laws.network laws.meet way refl way.labels.keeps
    (one_each (length market.trades) finder.labels) (price-is (length market.trades) finder.labels)

pub small_prices : {V : Type 0} (firm_of : V → Firm) (market : Traded V) (allowed on : ℕ) (numbers : List ℤ)
    → AreSettled firm_of market numbers → HasSmallPrices firm_of (standing_of market allowed on numbers)
small_prices firm_of market allowed on numbers are bound bounded k d below =
    let inside : k < length market.trades = subst (λ (n : ℕ). k < n) (one_each (length market.trades) numbers) below in
    subst (λ (z : ℤ). IsAtMost z (2 * bound * length market.trades))
    (sym (get_or_default (differences (length market.trades) numbers) k d (pos 0) below
    ∙ price-is (length market.trades) numbers k inside))
    (apart (2 * bound * length market.trades) _ _ (are.high k (omega (arith, inside)))
    (are.low bound k bounded (omega (arith, inside)))
    (are.high (length market.trades) (omega arith)) (are.low bound (length market.trades) bounded (omega arith)))
  where
    apart : (most : ℕ) (a b : ℤ) → a ≤ℤ pos 0 → neg_ℤ (pos most) ≤ℤ a → b ≤ℤ pos 0 → neg_ℤ (pos most) ≤ℤ b
        → IsAtMost (a -ℤ b) most
    apart most a b a_high a_low b_high b_low = record {
      low = omega (arith, ints, a_high, a_low, b_high, b_low);
      high =
          omega (arith, ints, a_high, a_low, b_high, b_low);
    }

-- ---- the admitted trades

-- with one more
pub gained : (before t k : ℕ) → has before t ≡ false → has (toggle before t) k ≡ (k == t || has before k)
gained before t k out = elim (cases_eq k t) [
  | inl e ↦ ap (has (toggle before t)) e ∙ has-toggle_same before t ∙ ap not out
      ∙ sym (ap (λ (b : Bool). b || has before k) (eq-eqb k t e))
  | inr other ↦ has-toggle_other before t k other ∙ sym (ap (λ (b : Bool). b || has before k) (ne_eqb k t other))
]

-- and with one less
pub lost : (before t k : ℕ) → has before t ≡ true → has (toggle before t) k ≡ (not (k == t) && has before k)
lost before t k there = elim (cases_eq k t) [
  | inl e ↦ ap (has (toggle before t)) e ∙ has-toggle_same before t ∙ ap not there
      ∙ sym (ap (λ (b : Bool). not b && has before k) (eq-eqb k t e))
  | inr other ↦ has-toggle_other before t k other ∙ sym (ap (λ (b : Bool). not b && has before k) (ne_eqb k t other))
]

-- the admitted trades before are those after with the trade
pub with_trade : (allowed t after : ℕ) → after ≡ toggle allowed t → (P : ℕ → ℕ → Type 0) (on : ℕ) → P allowed on
    → P (toggle after t) on
with_trade allowed t after e P on before =
    subst (λ (x : ℕ). P x on) (sym (ap (λ (x : ℕ). toggle x t) e ∙ toggle-toggle allowed t)) before

-- which isn't among these
pub without : (allowed t after : ℕ) → after ≡ toggle allowed t → has allowed t ≡ true → has after t ≡ false
without allowed t after e there = ap (λ (x : ℕ). has x t) e ∙ has-toggle_same allowed t ∙ ap not there

-- rounds that are under way stay so where a trade is barred that is off
pub under_way_off : (firms : List Firm) (trades : List Ends) (graph : CostBlocks) (finder : Reading)
    (allowed on t after : ℕ) → AreUnderWay firms trades graph finder allowed on → after ≡ toggle allowed t
    → has allowed t ≡ true → has on t ≡ false → AreUnderWay firms trades graph finder after on
under_way_off firms trades graph finder allowed on t after under_way e there off = record {
  arcs = before_joined firms trades on after t graph out
      (with_trade allowed t after e (λ x y. IsExchangeAmong firms trades y x graph) on under_way.arcs);
  sized = under_way.sized;
  kept = one_cycle_bars_a_trade.still firms trades after on t
      (with_trade allowed t after e (IsKept firms trades) on under_way.kept) out off;
  labels = record {
    one_each = under_way.labels.one_each;
    keeps = one_cycle_bars_a_trade.off_labels firms trades after on t out (label_in finder.labels)
        (with_trade allowed t after e (λ x y. AreKept firms trades x y finder.labels) on under_way.labels).keeps;
  };
}
  where
    out : has after t ≡ false
    out = without allowed t after e there

-- a session in which a trade is barred that is off
pub barred_off : {V : Type 0} (firm_of : V → Firm) (limit_of : V
    → ℕ) (width : ℕ) (market : Traded V) (graph : CostBlocks) (finder : Reading) (allowed on t after : ℕ)
    → IsSession firm_of limit_of width market graph finder allowed on → after ≡ toggle allowed t → has allowed t ≡ true
    → has on t ≡ false → IsSession firm_of limit_of width market graph finder after on
barred_off firm_of limit_of width market graph finder allowed on t after session e there off = record {
  network = session.network;
  wide = session.wide;
  small = session.small;
  fits_graph = session.fits_graph;
  under_way = under_way_off (map firm_of market.firms) market.trades graph finder allowed on t after session.under_way e
      there off;
  settled = session.settled;
}

-- ---- several trades

-- after a round for each of some trades labels are far from the limits of their type
pub moved_near : (t count : ℕ) (labels : List ℤ) → t ≤ count → count ≤ most_market_trades
    → AreNear (most_path + t * label_step (count + 1)) labels → AreNear most_label labels
moved_near t count labels within few =
    near-wider (most_path + t * label_step (count + 1)) most_label labels
    (let first : t * label_step (count + 1) ≤ most_market_trades * label_step (count + 1) =
    mul-le t (label_step (count + 1)) most_market_trades (label_step (count + 1)) (omega (arith, within, few))
    (omega arith) in
    omega (arith, first, few))

pub moved_next : (from t step : ℕ) (labels : List ℤ) → AreNear (from + t * step + step) labels
    → AreNear (from + (t + 1) * step) labels
moved_next from t step labels near =
    subst (λ (n : ℕ). AreNear n labels) (let e : from + t * step + step ≡ from + (t + 1) * step = grind arith in e) near

-- the trades below t are admitted where they are wanted
abbrev pub AreMovedBelow : ℕ → ℕ → ℕ → Type 0
AreMovedBelow wanted t allowed = (k : ℕ) → k < t → has allowed k ≡ has wanted k

pub one_moved : (wanted t before after : ℕ) (is_wanted : Bool) → AreMovedBelow wanted t before
    → is_wanted ≡ has wanted t → has after t ≡ is_wanted → ((k : ℕ) → k ≢ t → has after k ≡ has before k)
    → AreMovedBelow wanted (t + 1) after
one_moved wanted t before after is_wanted below wanted_is here elsewhere k inside = elim (cases_eq k t) [
  | inl e ↦ ap (has after) e ∙ here ∙ wanted_is ∙ sym (ap (has wanted) e)
  | inr apart ↦ elsewhere k apart ∙ below k (omega (arith, inside, apart))
]

-- a trade that is toggled where it isn't as it is wanted is then
pub toggled_here : (before t after : ℕ) (wanted : Bool) → beq (has before t) wanted ≡ false → after ≡ toggle before t
    → has after t ≡ wanted
toggled_here before t after wanted differs is =
    ap (λ (x : ℕ). has x t) is ∙ has-toggle_same before t ∙ by_case (has before t) wanted differs
  where
    by_case : (a b : Bool) → beq a b ≡ false → not a ≡ b
    by_case true true e = absurd (cc e)
    by_case true false e = refl
    by_case false true e = refl
    by_case false false e = absurd (cc e)

pub toggled_elsewhere : (before t after : ℕ) → after ≡ toggle before t → (k : ℕ) → k ≢ t
    → has after k ≡ has before k
toggled_elsewhere before t after is k apart = ap (λ (x : ℕ). has x k) is ∙ has-toggle_other before t k apart

-- a trade that isn't as it is wanted isn't admitted where it is
pub out_where : (is_in wanted : Bool) → beq is_in wanted ≡ false → wanted ≡ true → is_in ≡ false
out_where false wanted apart is = refl
out_where true true apart is = absurd (cc apart)
out_where true false apart is = absurd (cc is)
