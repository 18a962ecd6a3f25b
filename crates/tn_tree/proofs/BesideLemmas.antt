-- Counts by which all firms together gain at any prices beside given ones, and flows that settle beside them.
use Rattle.std.proofs.Common.{◌≡◌, ◌≢◌, ℕ, zero, suc, ◌+◌, ◌<◌, ◌≤◌, Bool, true, false, ◌==◌, if◌then◌else◌, List, ◌∷◌, length, map, get_or, Option, Some, None, slice_get, refl, sym, ap, ap₂, ◌∙◌, subst, arith, inl, inr, ℤ, pos, ◌+ℤ◌, ◌-ℤ◌, ◌≤ℤ◌, ◌*ℤ◌, ◌⊎◌, option_map}
use Rattle.std.specs.Prelude.{◌<ℤ◌}
use Rattle.std.specs.List.{range_with_len}
use Rattle.std.proofs.lemmas.Int.{by_lt_z, ints}
use Rattle.std.proofs.lemmas.Bool.{cases_eq, cases_lt, eq-eqb, ne_eqb}
use Rattle.std.proofs.lemmas.List.{get_or_past}
use Rattle.std.proofs.lemmas.List.Elements.{All-from_get_or}
use Rattle.std.proofs.lemmas.List.FromFn.{length-map-range_with_len}
use Rattle.std.proofs.lemmas.Option.{same_Some}
use Rattle.std.proofs.Math.IntN.{*ℤ-one, *ℤ_comm, zero-*ℤ}
use Rattle.tn_base.specs.Walks.{Avoids, IsCycle}
use Rattle.tn_base.proofs.SumLemmas.{times-plus}
use Rattle.tn_cycle.specs.Answers.{AreLabels, IsNegative, label_in}
use Rattle.tn_cycle.proofs.WalkLemmas.{avoids-head, avoids-tail}
use Rattle.tn_links.specs.declared.link.Link.{Link}
use Rattle.tn_links.specs.Flows.{IsKeptFlow}
use Rattle.tn_links.specs.Lots.{link_arc, pushed}
use Rattle.tn_links.specs.Totals.{total}
use Rattle.tn_links.proofs.RoundLemmas.{cycles_gain}
use Rattle.tn_links.proofs.TotalLemmas.{times-below, total-most, total-plus, total-same, total-times, total-zero, total_one}
use Rattle.tn_counts.specs.Counts.{payments, trade_at}
use Rattle.tn_counts.specs.Laminar.{firm_of, firms_of}
use Rattle.tn_counts.specs.Markets.{ArePins, IsWideMarket}
use Rattle.tn_counts.specs.Tree.{AreLinksOf, bought_at, counts_at, null_node, pin_place, price_by, sold_at, trade_node}
use Rattle.tn_counts.specs.declared.market.Pin.{Pin}
use Rattle.tn_counts.specs.declared.market.UnitMarket.{UnitMarket}
use Rattle.tn_counts.proofs.ApartLemmas.{firms_have, has_of, payments_apart, worth_is}
use Rattle.tn_counts.proofs.BoundLemmas.{firm_there}
use Rattle.tn_counts.proofs.FlowLemmas.{IsFlowOf}
use Rattle.tn_counts.proofs.NetLemmas.{between_at}
use Rattle.tn_counts.proofs.PlaceLemmas.{pin_term, shape_gain}
use Rattle.tn_counts.proofs.PlainLemmas.{links_plain}
use Rattle.tn_counts.proofs.SmallLemmas.{bought_within, sold_within}
use Rattle.tn_counts.proofs.SurplusLemmas.{have_firms, worth_same}
use Rattle.tn_counts.proofs.WelfareLemmas.{payments_cancel}
use Rattle.tn_tree.specs.Levels.{AreLevelsOf}
use Rattle.tn_tree.specs.declared.beside.SettledBeside.{SettledBeside}
use Rattle.tn_tree.specs.Lists.{count_in, own_counts}
use Rattle.tn_tree.specs.Pinned.{AreUnsupportedBeside, GainBeside, HavePins, IsSettledBeside, MarksTrades}
use Rattle.tn_tree.proofs.PinnedLemmas.{ArePricesBy, best_beside, idle_gain, own_are, paid_over, pays, pays_in, pins_pay, priced_beside}
use Rattle.tn_tree.proofs.SolveLemmas.{levels_read, read_at, sized_by}
use Rattle.tn_tree.proofs.StepLemmas.{AreCrossed, buyer_node, crossed_by, inner_below, seller_node}
use Rattle.tn_tree.proofs.WalkLemmas.{IsRounded, arcs_sum, never_less, off_walk, on, rounded}

-- a larger number grows by the factor at least
times-above : (d s t : ℤ) → pos 1 ≤ℤ d → s <ℤ t → (d *ℤ s +ℤ d) ≤ℤ (d *ℤ t)
times-above d s t least less = by_lt_z (d *ℤ t) (d *ℤ s +ℤ d) (λ fewer. absurd (by fewer)) (λ most. most)
  where
    by : (d *ℤ t) <ℤ (d *ℤ s +ℤ d) → ⊥
    by fewer =
        let sum = times-plus d s (pos 1) in
        let one = *ℤ-one d in
        let below = times-below d t (s +ℤ pos 1) least (omega (arith, ints, sum, one, fewer)) in
        let same : d *ℤ t ≡ d *ℤ (s +ℤ pos 1) = ap (λ (z : ℤ). d *ℤ z) (omega (arith, ints, below, less)) in
        omega (arith, ints, same, sum, one, fewer)

-- ---- what a unit round a negative cycle does to the units of a trade

met : (forth back : ℤ) (before after passed : ℕ) → pos 0 ≤ℤ back → (forth +ℤ back) ≤ℤ pos 1
    → (passed ≡ 0 → (forth ≡ pos 0) × (back ≡ pos 0)) → pos after ≡ pos before +ℤ (forth -ℤ back)
    → after ≤ before + passed
met forth back before after zero least once none moves =
    let is = none refl in
    let one = is.0 in
    let two = is.1 in
    omega (arith, ints, moves, one, two)
met forth back before after (suc passed) least once none moves = omega (arith, ints, moves, least, once)

-- where the cycle doesn't meet the trade there are as many as before, and else at most one more
met_units : (market : UnitMarket) (pins : List Pin) (links : List Link) (levels : List ℕ) (u : ℕ) (vs : List ℕ) (cost : ℤ)
    → IsFlowOf market pins links levels → cost <ℤ pos 0 → IsCycle (link_arc links levels 1) u vs cost → (k passed : ℕ)
    → k < length market.trades.items → (passed ≡ 0 → Avoids (trade_node market k) (u ∷ vs))
    → (sold_at market (pushed links 1 levels u vs u) k ≤ sold_at market levels k + passed)
    × (bought_at market (pushed links 1 levels u vs u) k ≤ bought_at market levels k + passed)
met_units market pins links levels u vs cost flow negative cycle k passed below marks = (
  met (arcs_sum (on s n) u vs u) (arcs_sum (on n s) u vs u) (sold_at market levels k)
      (sold_at market (pushed links 1 levels u vs u) k) passed (never_less n s u vs u) (round.once s n seller_off)
      (λ none. let off = off_walk n s u vs u (avoids-head n u vs (marks none)) (avoids-tail n u vs (marks none))
      (avoids-head n u vs (marks none)) in (off.1, off.0)) moves.sold,
  met (arcs_sum (on n b) u vs u) (arcs_sum (on b n) u vs u) (bought_at market levels k)
      (bought_at market (pushed links 1 levels u vs u) k) passed (never_less b n u vs u) (round.once n b buyer_off)
      (λ none. off_walk n b u vs u (avoids-head n u vs (marks none)) (avoids-tail n u vs (marks none))
      (avoids-head n u vs (marks none))) moves.bought,
)
  where
    s : ℕ
    s = seller_node market k

    b : ℕ
    b = buyer_node market k

    n : ℕ
    n = trade_node market k

    round : IsRounded links levels u vs
    round = rounded (suc (null_node market)) links levels u vs cost flow.plain flow.kept.one_each flow.kept.within negative
        cycle

    moves : AreCrossed market levels (pushed links 1 levels u vs u) u vs u k
    moves = crossed_by market pins links levels (pushed links 1 levels u vs u) u vs u k flow.of below round.level

    seller_off : s ≢ n
    seller_off = let low = inner_below market (trade_at market.trades.items k).seller k
        (between_at market flow.market_is k below).seller in
        λ e. omega (arith, e, low)

    buyer_off : n ≢ b
    buyer_off = let low = inner_below market (trade_at market.trades.items k).buyer k
        (between_at market flow.market_is k below).buyer in
        λ e. omega (arith, e, low)

-- ---- marks

-- there are none in zeros
pub none_marked : (passed : List ℕ) (n t : ℕ) → passed ≡ map (λ t. 0) (range_with_len 0 n) → count_in passed t ≤ 1
none_marked passed n t made = elim (cases_lt t n) [
  | inl below ↦ let zero = read_at (λ t. 0) passed n t 0 made below in omega (arith, zero)
  | inr past ↦
      let long = sized_by (λ t. 0) passed n n made refl in
      let zero = get_or_past passed t 0 (omega (arith, long, past)) in
      omega (arith, zero)
]

-- ---- a negative cycle

-- the trades of its nodes are passed on
marks_avoid : (market : UnitMarket) (listed passed : List ℕ)
    → MarksTrades (trade_node market 0) (length market.trades.items) listed passed → (t : ℕ)
    → t < length market.trades.items → count_in passed t ≡ 0 → Avoids (trade_node market t) listed
marks_avoid market listed passed marks t below none =
    All-from_get_or (λ v. v ≢ trade_node market t) listed 0
    (λ i inside same. let one = marks.marked t i below inside (omega (arith, same)) in omega (arith, one, none))

-- a unit round it makes all firms together gain what it costs
module _ (market : UnitMarket) (pins : List Pin) (links : List Link) (levels : List ℕ) (first : ℕ) (rest : List ℕ)
    (cost : ℤ) (counts : ℕ → ℕ) (passed : List ℕ) (is : IsWideMarket market)
    (are : ArePins (length market.trades.items) pins) (of : AreLinksOf market pins links) (kept : IsKeptFlow links levels)
    (have : AreLevelsOf market pins counts levels) (negative : cost <ℤ pos 0)
    (cycle : IsCycle (link_arc links levels 1) first rest cost)
    (marks : MarksTrades (trade_node market 0) (length market.trades.items) (first ∷ rest) passed) where
  abbrev after : List ℕ
  after = pushed links 1 levels first rest first

  flow : IsFlowOf market pins links levels
  flow = record { market_is = is; of = of; plain = links_plain market pins links is are of; kept = kept }

  round : IsFlowOf market pins links after
  round = record {
    market_is = is;
    of = of;
    plain = flow.plain;
    kept = (cycles_gain (suc (null_node market)) links levels 1 first rest cost flow.plain kept negative cycle).kept;
  }

  abbrev own : ℕ → ℤ
  own f = has_of market (counts_at market levels f) f

  abbrev later : ℕ → ℤ
  later f = has_of market (counts_at market after f) f

  near : (f t : ℕ) → t < length market.trades.items → counts_at market after f t ≤ counts t + count_in passed t
  near f t below = by (f == (trade_at market.trades.items t).seller)
    where
      met : (sold_at market after t ≤ sold_at market levels t + count_in passed t)
          × (bought_at market after t ≤ bought_at market levels t + count_in passed t)
      met = met_units market pins links levels first rest cost flow negative cycle t (count_in passed t) below
          (marks_avoid market (first ∷ rest) passed marks t below)

      by : (b : Bool) → (if b then sold_at market after t else bought_at market after t) ≤ counts t + count_in passed t
      by true = let most = met.0 in let same = have.sold t below in omega (arith, most, same)
      by false = let most = met.1 in let same = have.bought t below in omega (arith, most, same)

  within : (f t : ℕ) → t < length market.trades.items
      → counts_at market after f t ≤ (trade_at market.trades.items t).units
  within f t below = by (f == (trade_at market.trades.items t).seller)
    where
      by : (b : Bool) → (if b then sold_at market after t else bought_at market after t)
          ≤ (trade_at market.trades.items t).units
      by true = sold_within market pins links after round t below
      by false = bought_within market pins links after round t below

  more : (scale : ℤ) (prices : ℕ → ℤ) → pos 1 ≤ℤ scale → HavePins pins scale prices
      → (total (λ f. scale *ℤ own f +ℤ payments market.trades.items prices f counts) market.firms +ℤ scale)
      ≤ℤ total (λ f. scale *ℤ later f +ℤ payments market.trades.items prices f (counts_at market after f)) market.firms
  more scale prices least given =
      let now = firms_have market pins links levels flow in
      let next = firms_have market pins links after round in
      let none = idle_gain market pins levels have.pinned in
      let paid = paid_over market pins links after prices are round in
      let pinned = pins_pay market pins links after scale prices round given in
      let gained =
      (cycles_gain (suc (null_node market)) links levels 1 first rest cost flow.plain kept negative cycle).gained in
      let over : ℤ = total (pin_term shape_gain market pins after) (length pins) in
      let grows = times-above scale (total own market.firms) (total later market.firms +ℤ over) least
      (omega (arith, ints, now, next, none, gained, negative)) in
      let parts = times-plus scale (total later market.firms) over in
      let first_sum = total-plus (λ f. scale *ℤ own f) (λ f. payments market.trades.items prices f counts) market.firms in
      let second_sum = total-plus (λ f. scale *ℤ later f)
      (λ f. payments market.trades.items prices f (counts_at market after f)) market.firms in
      let first_times = total-times scale own market.firms in
      let second_times = total-times scale later market.firms in
      let sized = length-map-range_with_len (firm_of market) 0 market.firms in
      let count = ap (total (λ f. payments market.trades.items prices f counts)) sized in
      let cancels = payments_cancel (length (firms_of market)) market.trades.items prices counts (have_firms market is) in
      let apart = payments_apart market after prices is in
      omega (
        arith,
        ints,
        grows,
        parts,
        first_sum,
        second_sum,
        first_times,
        second_times,
        count,
        cancels,
        apart,
        paid,
        pinned,
      )

  pub gains : GainBeside market pins counts passed
  gains = record {
    one_each = marks.one_each;
    single = marks.single;
    after = counts_at market after;
    within = within;
    near = near;
    own = own;
    own_is = λ f below. worth_same market f counts (counts_at market levels f)
        (λ t inside. sym (own_are market pins counts levels have f t inside)) ∙ worth_is market pins links levels flow f;
    later = later;
    later_is = λ f below. worth_is market pins links after round f;
    more = more;
  }

-- so no prices beside the given ones make the counts an equilibrium
gains_bar : (market : UnitMarket) (pins : List Pin) (counts : ℕ → ℕ) (passed : List ℕ)
    → GainBeside market pins counts passed → AreUnsupportedBeside market pins counts
gains_bar market pins counts passed gain scale prices least given equal =
    let more = gain.more scale prices least given in
    let most = total-most (λ f. scale *ℤ gain.later f +ℤ payments market.trades.items prices f (gain.after f))
    (λ f. scale *ℤ gain.own f +ℤ payments market.trades.items prices f counts) market.firms each in
    omega (arith, ints, more, most, least)
  where
    each : (f : ℕ) → f < market.firms
        → (scale *ℤ gain.later f +ℤ payments market.trades.items prices f (gain.after f))
        ≤ℤ (scale *ℤ gain.own f +ℤ payments market.trades.items prices f counts)
    each f below =
        let best = equal f (firm_of market f) (firm_there market f below) in
        let value = same_Some _ best.0
        (sym (ap (option_map (λ worth. scale *ℤ worth +ℤ payments market.trades.items prices f counts)) (gain.own_is f below))
        ∙ best.1.is) in
        let most = best.1.most (gain.after f) _ (gain.within f)
        (ap (option_map (λ worth. scale *ℤ worth +ℤ payments market.trades.items prices f (gain.after f)))
        (gain.later_is f below)) in
        omega (arith, ints, value, most)

pub negative_beside : (market : UnitMarket) (pins : List Pin) (links : List Link) (levels listed passed : List ℕ)
    (nodes count : ℕ) (cost : ℤ) (counts : ℕ → ℕ) → IsWideMarket market → ArePins (length market.trades.items) pins
    → AreLinksOf market pins links → IsKeptFlow links levels → AreLevelsOf market pins counts levels
    → IsNegative nodes (link_arc links levels 1) listed cost count
    → MarksTrades (trade_node market 0) (length market.trades.items) listed passed
    → AreUnsupportedBeside market pins counts × GainBeside market pins counts passed
negative_beside market pins links levels listed passed nodes count cost counts is are of kept have found marks =
    let gain = gains market pins links levels found.first found.rest cost counts passed is are of kept have found.negative
    found.cycle (subst (λ (xs : List ℕ). MarksTrades (trade_node market 0) (length market.trades.items) xs passed)
    found.nodes_are marks) in
    (gains_bar market pins counts passed gain, gain)

-- ---- what is settled

-- of a trade that isn't pinned as much is sold as bought
traded_beside : (market : UnitMarket) (pins : List Pin) (links : List Link) (levels : List ℕ)
    → ArePins (length market.trades.items) pins → IsFlowOf market pins links levels → (t : ℕ)
    → t < length market.trades.items → ((k : ℕ) (pin : Pin) → slice_get pins k ≡ Some pin → pin.trade ≡ t → ⊥)
    → sold_at market levels t ≡ bought_at market levels t
traded_beside market pins links levels are flow t below free =
    let paid = paid_over market pins links levels single are flow in
    let ends = total-same (λ k. single k *ℤ (pos (sold_at market levels k) -ℤ pos (bought_at market levels k)))
    (λ k. if k == t then pos (sold_at market levels t) -ℤ pos (bought_at market levels t) else pos 0)
    (length market.trades.items) (λ k inside. at k (cases_eq k t)) in
    let one = total_one (pos (sold_at market levels t) -ℤ pos (bought_at market levels t)) t (length market.trades.items)
    below in
    let none = total-zero (pays market pins levels single) (length pins) (λ k inside. idle k (slice_get pins k) refl) in
    omega (arith, ints, paid, ends, one, none)
  where
    single : ℕ → ℤ
    single k = if k == t then pos 1 else pos 0

    one_times : (x : ℤ) → pos 1 *ℤ x ≡ x
    one_times x =
        let turned = *ℤ_comm (pos 1) x in
        let one = *ℤ-one x in
        omega (arith, ints, turned, one)

    at : (k : ℕ) → (k ≡ t) ⊎ (k ≢ t)
        → single k *ℤ (pos (sold_at market levels k) -ℤ pos (bought_at market levels k))
        ≡ (if k == t then pos (sold_at market levels t) -ℤ pos (bought_at market levels t) else pos 0)
    at k (inl same) =
        let test = eq-eqb k t same in
        let x : ℤ = pos (sold_at market levels k) -ℤ pos (bought_at market levels k) in
        ap (λ (b : Bool). (if b then pos 1 else pos 0) *ℤ x) test
        ∙ one_times x
        ∙ ap (λ (j : ℕ). pos (sold_at market levels j) -ℤ pos (bought_at market levels j)) same
        ∙ sym (ap (λ (b : Bool). if b then pos (sold_at market levels t) -ℤ pos (bought_at market levels t) else pos 0) test)
    at k (inr other) =
        let test = ne_eqb k t other in
        let x : ℤ = pos (sold_at market levels k) -ℤ pos (bought_at market levels k) in
        ap (λ (b : Bool). (if b then pos 1 else pos 0) *ℤ x) test
        ∙ zero-*ℤ x
        ∙ sym (ap (λ (b : Bool). if b then pos (sold_at market levels t) -ℤ pos (bought_at market levels t) else pos 0) test)

    idle : (k : ℕ) (o : Option Pin) → slice_get pins k ≡ o → pays_in single (get_or levels (pin_place market k) 0) o ≡ pos 0
    idle k None at = refl
    idle k (Some pin) at =
        ap (λ (b : Bool). (if b then pos 1 else pos 0) *ℤ (pos (get_or levels (pin_place market k) 0) -ℤ pos 4194304))
        (ne_eqb pin.trade t (λ same. free k pin at same))
        ∙ zero-*ℤ (pos (get_or levels (pin_place market k) 0) -ℤ pos 4194304)

pub settled_beside : (market : UnitMarket) (pins : List Pin) (links : List Link) (levels : List ℕ) (labels : List ℤ)
    (nodes : ℕ) (settled : SettledBeside) (n place after : ℕ) → IsWideMarket market
    → ArePins (length market.trades.items) pins → AreLinksOf market pins links → IsKeptFlow links levels
    → AreLabels nodes (link_arc links levels 1) labels → nodes ≡ null_node market + 1
    → n ≡ length market.trades.items → place ≡ trade_node market 0 → after ≡ place + n
    → settled.sold.items ≡ map (λ t. get_or levels (place + t) 0) (range_with_len 0 n)
    → settled.bought.items ≡ map (λ t. get_or levels (after + t) 0) (range_with_len 0 n)
    → settled.prices.items ≡ map (price_by market (label_in labels)) (range_with_len 0 (length market.trades.items))
    → IsSettledBeside market pins settled
settled_beside market pins links levels labels nodes settled n place after is are of kept labelled sized count at next first
    second made = record {
      sold_each = sized_by (λ t. get_or levels (place + t) 0) settled.sold.items n (length market.trades.items) first count;
      bought_each = sized_by (λ t. get_or levels (after + t) 0) settled.bought.items n (length market.trades.items) second count;
      one_each = priced.one_each;
      given = priced.given;
      best = λ f below. best_beside market pins links levels labels settled.prices.items nodes f
          (own_counts market.trades.items settled.sold.items settled.bought.items f) are flow labelled priced below
          (λ t inside. ap₂ (λ (x : ℕ) (y : ℕ). if f == (trade_at market.trades.items t).seller then x else y)
          (sold_is t inside) (bought_is t inside));
      traded = λ t inside free.
          sym (sold_is t inside) ∙ traded_beside market pins links levels are flow t inside free ∙ bought_is t inside;
      small = priced.small;
    }
  where
    flow : IsFlowOf market pins links levels
    flow = record { market_is = is; of = of; plain = links_plain market pins links is are of; kept = kept }

    priced : ArePricesBy market pins labels settled.prices.items
    priced = priced_beside market pins links levels labels nodes settled.prices.items are flow labelled sized made

    sold_is : (t : ℕ) → t < length market.trades.items → sold_at market levels t ≡ count_in settled.sold.items t
    sold_is t inside = levels_read levels settled.sold.items n place (length market.sets.items + market.firms) t first
        (omega (arith, inside, count)) (omega (arith, at))

    bought_is : (t : ℕ) → t < length market.trades.items → bought_at market levels t ≡ count_in settled.bought.items t
    bought_is t inside = levels_read levels settled.bought.items n after
        (length market.sets.items + market.firms + length market.trades.items) t second (omega (arith, inside, count))
        (omega (arith, at, next, count))
