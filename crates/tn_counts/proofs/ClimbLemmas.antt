-- Labels along the nodes around a trade, and the net counts within sets times the labels that they climb.
use Rattle.std.proofs.Common.{◌≡◌, ℕ, zero, suc, ◌+◌, ◌-◌, ◌<◌, Bool, true, false, ◌==◌, ◌&&◌, if◌then◌else◌, List, length, Option, Some, None, slice_get, sym, ap, ap₂, ◌∙◌, arith, inl, inr, ℤ, pos, ◌+ℤ◌, ◌-ℤ◌, ◌*ℤ◌}
use Rattle.std.proofs.lemmas.Int.{ints}
use Rattle.std.proofs.lemmas.Bool.{cases_Bool, cases_eq, eq-eqb, ne_eqb}
use Rattle.std.proofs.Math.IntN.{*ℤ-zero, *ℤ_comm}
use Rattle.tn_links.specs.Totals.{total}
use Rattle.tn_links.proofs.TotalLemmas.{times-minus, total-minus, total-same, total-swap, total-times, total-zero}
use Rattle.tn_counts.specs.Counts.{trade_at}
use Rattle.tn_counts.specs.Laminar.{holds}
use Rattle.tn_counts.specs.Markets.{AreLaminar}
use Rattle.tn_counts.specs.Tree.{first_from, inner_node, is_around, node_above, null_node, root_node}
use Rattle.tn_counts.specs.declared.market.UnitMarket.{UnitMarket}
use Rattle.tn_counts.specs.declared.set.CountSet.{CountSet}
use Rattle.tn_counts.specs.declared.trade.UnitTrade.{UnitTrade}
use Rattle.tn_counts.proofs.TreeLemmas.{above_is, around_in, around_parts}

-- the node above the set with a number
abbrev pub above_in : UnitMarket → ℕ → Option CountSet → ℕ
above_in market i None = null_node market
above_in market i (Some set) = node_above market i set.firm set.members.items

abbrev pub above : UnitMarket → ℕ → ℕ
above market i = above_in market i (slice_get market.sets.items i)

-- what the label of the node above a set is above its own
abbrev pub climb : UnitMarket → (ℕ → ℤ) → ℕ → ℤ
climb market label i = label (above market i) -ℤ label i

-- all that the sets around a trade climb
pub climbs : (market : UnitMarket) (f t : ℕ) (label : ℕ → ℤ) → AreLaminar market.sets.items
    → total (λ i. if is_around market.sets.items f t i then climb market label i else pos 0) (length market.sets.items)
    ≡ label (root_node market f) -ℤ label (inner_node market f t)
unfolding total
climbs market f t label laminar =
    let whole = so_far (length sets) 0 (omega arith) in
    omega (arith, ints, whole)
  where
    sets : List CountSet
    sets = market.sets.items

    root : ℕ
    root = root_node market f

    step : ℕ → ℤ
    step i = if is_around sets f t i then climb market label i else pos 0

    so_far : (i k : ℕ) → i + k ≡ length sets
        → total step i +ℤ label (first_from sets f t root (length sets) 0) ≡ label (first_from sets f t root k i)
    so_far zero k all =
        let same : length sets ≡ k = omega (arith, all) in
        let first = ap (λ (n : ℕ). label (first_from sets f t root n 0)) same in
        omega (arith, ints, first)
    so_far (suc i) k all = elim (cases_Bool (is_around sets f t i)) [
      | inl inside ↦
          let before = so_far i (suc k) (omega (arith, all)) in
          let found : label (first_from sets f t root (suc k) i) ≡ label i =
          ap (λ (b : Bool). label (if b then i else first_from sets f t root k (suc i))) inside in
          let here : step i ≡ climb market label i = ap (λ (b : Bool). if b then climb market label i else pos 0) inside in
          let around = around_parts sets f t i inside in
          let rest : length sets - suc i ≡ k = omega (arith, all) in
          let next : label (above market i) ≡ label (first_from sets f t root k (suc i)) =
          ap (λ (o : Option CountSet). label (above_in market i o)) around.is
          ∙ ap label (above_is market f t i laminar around)
          ∙ ap (λ (n : ℕ). label (first_from sets f t root n (suc i))) rest in
          omega (arith, ints, before, found, here, next)
      | inr outside ↦
          let before = so_far i (suc k) (omega (arith, all)) in
          let found : label (first_from sets f t root (suc k) i) ≡ label (first_from sets f t root k (suc i)) =
          ap (λ (b : Bool). label (if b then i else first_from sets f t root k (suc i))) outside in
          let here : step i ≡ pos 0 = ap (λ (b : Bool). if b then climb market label i else pos 0) outside in
          omega (arith, ints, before, found, here)
    ]

-- what is bought of a trade by the firm of a set, less what is sold, where seller and buyer may differ
abbrev pub moved : ℕ → UnitTrade → ℤ → ℤ → ℤ
moved f trade sold bought = (if f == trade.buyer then bought else pos 0) -ℤ (if f == trade.seller then sold else pos 0)

-- the same in sum within a set
abbrev pub moved_within : List UnitTrade → (ℕ → ℤ) → (ℕ → ℤ) → CountSet → ℤ
moved_within trades sold bought set =
    total (λ t. if holds set t then moved set.firm (trade_at trades t) (sold t) (bought t) else pos 0) (length trades)

abbrev pub moved_in : List UnitTrade → (ℕ → ℤ) → (ℕ → ℤ) → Option CountSet → ℤ
moved_in trades sold bought None = pos 0
moved_in trades sold bought (Some set) = moved_within trades sold bought set

-- what the trades' own ends climb to the roots
abbrev pub climbed : UnitMarket → (ℕ → ℤ) → (ℕ → ℤ) → (ℕ → ℤ) → ℕ → ℤ
climbed market label sold bought t =
    bought t *ℤ (label (root_node market (trade_at market.trades.items t).buyer)
    -ℤ label (inner_node market (trade_at market.trades.items t).buyer t))
    -ℤ sold t *ℤ (label (root_node market (trade_at market.trades.items t).seller)
    -ℤ label (inner_node market (trade_at market.trades.items t).seller t))

-- a number that is there by two tests, times another
one_part : (r z : ℤ) (h d e : Bool) → d ≡ e → r *ℤ (if h then (if d then z else pos 0) else pos 0)
    ≡ z *ℤ (if e && h then r else pos 0)
one_part r z true d true same = ap (λ (b : Bool). r *ℤ (if b then z else pos 0)) same ∙ *ℤ_comm r z
one_part r z true d false same = ap (λ (b : Bool). r *ℤ (if b then z else pos 0)) same ∙ *ℤ-zero r ∙ sym (*ℤ-zero z)
one_part r z false d true same = *ℤ-zero r ∙ sym (*ℤ-zero z)
one_part r z false d false same = *ℤ-zero r ∙ sym (*ℤ-zero z)

turned_eq : (a b : ℕ) → (a == b) ≡ (b == a)
turned_eq a b = elim (cases_eq a b) [
  | inl same ↦ eq-eqb a b same ∙ sym (eq-eqb b a (sym same))
  | inr other ↦ ne_eqb a b other ∙ sym (ne_eqb b a (λ e. other (sym e)))
]

both_parts_of : (r u v : ℤ) (h : Bool)
    → r *ℤ (if h then u -ℤ v else pos 0) ≡ r *ℤ (if h then u else pos 0) -ℤ r *ℤ (if h then v else pos 0)
both_parts_of r u v true = times-minus r u v
both_parts_of r u v false = let none = *ℤ-zero r in omega (arith, ints, none)

-- the moved units within a set, times a number
spread : (trades : List UnitTrade) (sold bought : ℕ → ℤ) (r : ℤ) (o : Option CountSet)
    → r *ℤ moved_in trades sold bought o
    ≡ total (λ t. bought t *ℤ (if around_in (trade_at trades t).buyer t o then r else pos 0)
    -ℤ sold t *ℤ (if around_in (trade_at trades t).seller t o then r else pos 0)) (length trades)
spread trades sold bought r None =
    *ℤ-zero r
    ∙ sym (total-zero (λ t. bought t *ℤ pos 0 -ℤ sold t *ℤ pos 0) (length trades)
    (λ t below. let first = *ℤ-zero (bought t) in let second = *ℤ-zero (sold t) in omega (arith, ints, first, second)))
spread trades sold bought r (Some set) =
    sym (total-times r (λ t. if holds set t then moved set.firm (trade_at trades t) (sold t) (bought t) else pos 0)
    (length trades))
    ∙ total-same (λ t. r *ℤ (if holds set t then moved set.firm (trade_at trades t) (sold t) (bought t) else pos 0))
    (λ t. bought t *ℤ (if around_in (trade_at trades t).buyer t (Some set) then r else pos 0)
    -ℤ sold t *ℤ (if around_in (trade_at trades t).seller t (Some set) then r else pos 0)) (length trades) each
  where
    each : (t : ℕ) → t < length trades
        → r *ℤ (if holds set t then moved set.firm (trade_at trades t) (sold t) (bought t) else pos 0)
        ≡ bought t *ℤ (if around_in (trade_at trades t).buyer t (Some set) then r else pos 0)
        -ℤ sold t *ℤ (if around_in (trade_at trades t).seller t (Some set) then r else pos 0)
    each t below =
        let buyer = (trade_at trades t).buyer in
        let seller = (trade_at trades t).seller in
        both_parts_of r (if set.firm == buyer then bought t else pos 0) (if set.firm == seller then sold t else pos 0)
        (holds set t)
        ∙ ap₂ (λ (x : ℤ) (y : ℤ). x -ℤ y)
        (one_part r (bought t) (holds set t) (set.firm == buyer) (buyer == set.firm) (turned_eq set.firm buyer))
        (one_part r (sold t) (holds set t) (set.firm == seller) (seller == set.firm) (turned_eq set.firm seller))

-- what the units within all sets climb is what those of the trades climb
pub sets_climb : (market : UnitMarket) (label sold bought : ℕ → ℤ) → AreLaminar market.sets.items
    → total (λ i. climb market label i *ℤ moved_in market.trades.items sold bought (slice_get market.sets.items i))
    (length market.sets.items) ≡ total (climbed market label sold bought) (length market.trades.items)
sets_climb market label sold bought laminar =
    total-same (λ i. climb market label i *ℤ moved_in trades sold bought (slice_get sets i)) (λ i. total (λ t. term i t) n) m
    (λ i below. spread trades sold bought (climb market label i) (slice_get sets i))
    ∙ total-swap term m n
    ∙ total-same (λ t. total (λ i. term i t) m) (climbed market label sold bought) n each
  where
    sets : List CountSet
    sets = market.sets.items

    trades : List UnitTrade
    trades = market.trades.items

    m : ℕ
    m = length sets

    n : ℕ
    n = length trades

    at : ℕ → ℕ → ℕ → ℤ
    at f t i = if is_around sets f t i then climb market label i else pos 0

    term : ℕ → ℕ → ℤ
    term i t = bought t *ℤ at (trade_at trades t).buyer t i -ℤ sold t *ℤ at (trade_at trades t).seller t i

    own : (f t : ℕ) (z : ℤ) → total (λ i. z *ℤ at f t i) m ≡ z *ℤ (label (root_node market f) -ℤ label (inner_node market f t))
    own f t z = total-times z (at f t) m ∙ ap (λ (y : ℤ). z *ℤ y) (climbs market f t label laminar)

    each : (t : ℕ) → t < n → total (λ i. term i t) m ≡ climbed market label sold bought t
    each t below =
        total-minus (λ i. bought t *ℤ at (trade_at trades t).buyer t i) (λ i. sold t *ℤ at (trade_at trades t).seller t i) m
        ∙ ap₂ (λ (x : ℤ) (y : ℤ). x -ℤ y) (own (trade_at trades t).buyer t (bought t))
        (own (trade_at trades t).seller t (sold t))
