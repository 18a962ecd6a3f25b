-- What flows between firms and trades, whatever flows within the firms.
use Rattle.std.proofs.Common.{◌≡◌, ◌≢◌, ℕ, ◌<◌, Bool, ◌==◌, if◌then◌else◌, List, length, get_or, slice_get, ap, ◌∙◌, arith, inl, inr, ℤ, pos, ◌+ℤ◌, ◌-ℤ◌, ◌*ℤ◌}
use Rattle.std.proofs.lemmas.Int.{ints}
use Rattle.std.proofs.lemmas.Bool.{cases_eq, eq-eqb, ne_eqb}
use Rattle.std.proofs.lemmas.Option.{slice_get-get_or}
use Rattle.std.proofs.Math.IntN.{*ℤ-one, *ℤ_comm, zero-*ℤ}
use Rattle.tn_links.specs.declared.link.Link.{Link}
use Rattle.tn_links.specs.Totals.{total}
use Rattle.tn_links.proofs.TotalLemmas.{minus-times, total-plus, total-same, total-zero, total_one}
use Rattle.tn_counts.specs.Counts.{trade_at}
use Rattle.tn_counts.specs.Markets.{IsBetween, IsMarketWithin}
use Rattle.tn_counts.specs.Tree.{bought_at, inner_node, null_node, root_node, sold_at, trade_node}
use Rattle.tn_counts.specs.declared.market.Pin.{Pin}
use Rattle.tn_counts.specs.declared.market.UnitMarket.{UnitMarket}
use Rattle.tn_counts.proofs.ClimbLemmas.{climb, climbed, moved_in, sets_climb}
use Rattle.tn_counts.proofs.FlowLemmas.{IsFlowOf, at_node, at_other, at_same, flow_in, kept_pull, none_amiss, none_times, set_pull}
use Rattle.tn_counts.proofs.PlaceLemmas.{buyer_term, pin_term, pull, root_term, seller_term, set_term}

-- what the two ends of a trade climb between the trade and their roots
abbrev pub end_term : UnitMarket → List ℕ → (ℕ → ℤ) → ℕ → ℤ
end_term market levels label t =
    (label (root_node market (trade_at market.trades.items t).buyer) -ℤ label (trade_node market t))
    *ℤ pos (bought_at market levels t)
    -ℤ (label (root_node market (trade_at market.trades.items t).seller) -ℤ label (trade_node market t))
    *ℤ pos (sold_at market levels t)

-- one end: to the root by way of the inner node
way : (root inner node count : ℤ) → (root -ℤ node) *ℤ count
    ≡ count *ℤ (root -ℤ inner) +ℤ (inner -ℤ node) *ℤ (count -ℤ pos 0)
way root inner node count =
    let flows : count -ℤ pos 0 ≡ count = omega (arith, ints) in
    let own = ap (λ (z : ℤ). (inner -ℤ node) *ℤ z) flows in
    let turned = *ℤ_comm count (root -ℤ inner) in
    let first = minus-times root inner count in
    let second = minus-times inner node count in
    let whole = minus-times root node count in
    omega (arith, ints, own, turned, first, second, whole)

pub end_parts : (market : UnitMarket) (levels : List ℕ) (label : ℕ → ℤ) (t : ℕ)
    → end_term market levels label t
    ≡ climbed market label (λ t. pos (sold_at market levels t)) (λ t. pos (bought_at market levels t)) t
    +ℤ (seller_term (pull label) market levels t +ℤ buyer_term (pull label) market levels t)
end_parts market levels label t =
    let buyer = (trade_at market.trades.items t).buyer in
    let seller = (trade_at market.trades.items t).seller in
    let node = label (trade_node market t) in
    let bought = pos (bought_at market levels t) in
    let sold = pos (sold_at market levels t) in
    let first = way (label (root_node market buyer)) (label (inner_node market buyer t)) node bought in
    let second = way (label (root_node market seller)) (label (inner_node market seller t)) node sold in
    let flows : sold -ℤ pos 0 ≡ sold = omega (arith, ints) in
    let back : (node -ℤ label (inner_node market seller t)) *ℤ (sold -ℤ pos 0)
    ≡ pos 0 -ℤ (label (inner_node market seller t) -ℤ node) *ℤ (sold -ℤ pos 0) =
    let one = minus-times node (label (inner_node market seller t)) (sold -ℤ pos 0) in
    let two = minus-times (label (inner_node market seller t)) node (sold -ℤ pos 0) in
    omega (arith, ints, one, two) in
    omega (arith, ints, first, second, back)

pub ends_pull : (market : UnitMarket) (pins : List Pin) (links : List Link) (levels : List ℕ) (label : ℕ → ℤ)
    → IsFlowOf market pins links levels
    → total (end_term market levels label) (length market.trades.items)
    +ℤ total (root_term (pull label) market levels) market.firms
    +ℤ total (pin_term (pull label) market pins levels) (length pins) ≡ pos 0
ends_pull market pins links levels label flow =
    let whole = kept_pull market pins links levels label flow in
    let sets = total-same (set_term (pull label) market levels)
    (λ i. climb market label i *ℤ moved_in market.trades.items sold bought (slice_get market.sets.items i)) m set_at in
    let net = sets_climb market label sold bought flow.market_is.laminar in
    let same = total-same (end_term market levels label)
    (λ t. climbed market label sold bought t
    +ℤ (seller_term (pull label) market levels t +ℤ buyer_term (pull label) market levels t)) n (λ t below. end_parts market levels label t) in
    let first = total-plus (climbed market label sold bought)
    (λ t. seller_term (pull label) market levels t +ℤ buyer_term (pull label) market levels t) n in
    let second = total-plus (seller_term (pull label) market levels) (buyer_term (pull label) market levels) n in
    omega (arith, ints, whole, sets, net, same, first, second)
  where
    m : ℕ
    m = length market.sets.items

    n : ℕ
    n = length market.trades.items

    sold : ℕ → ℤ
    sold t = pos (sold_at market levels t)

    bought : ℕ → ℤ
    bought t = pos (bought_at market levels t)

    set_at : (i : ℕ) → i < m → set_term (pull label) market levels i
        ≡ climb market label i *ℤ moved_in market.trades.items sold bought (slice_get market.sets.items i)
    set_at i below =
        let none = none_amiss market pins links levels flow i below in
        let same : flow_in levels i (slice_get market.sets.items i)
        ≡ moved_in market.trades.items sold bought (slice_get market.sets.items i) = omega (arith, ints, none) in
        set_pull market levels label i ∙ ap (λ (z : ℤ). climb market label i *ℤ z) same

-- each trade is between two firms
pub between_at : {trades limit : ℕ} (market : UnitMarket) → IsMarketWithin trades limit market → (t : ℕ) → t < length market.trades.items
    → IsBetween market.firms (trade_at market.trades.items t)
between_at market is t below =
    is.between t (trade_at market.trades.items t)
    (slice_get-get_or market.trades.items t (record { seller = 0; buyer = 0; units = 0 }) below)

pub minus_one : (a b : ℤ) → a ≡ pos 0 -ℤ pos 1 → a *ℤ b ≡ pos 0 -ℤ b
minus_one a b is =
    let first = ap (λ (z : ℤ). z *ℤ b) is in
    let parts = minus-times (pos 0) (pos 1) b in
    let none = zero-*ℤ b in
    let turned = *ℤ_comm (pos 1) b in
    let unit = *ℤ-one b in
    omega (arith, ints, first, parts, none, turned, unit)

-- a trade's node is its own
pub trade_nodes : (market : UnitMarket) (t k : ℕ) → t ≢ k → trade_node market t ≢ trade_node market k
trade_nodes market t k other e = other (omega (arith, e))

-- what a pinned trade's firms do not take from each other flows over its pin, and nothing where there is none
pub trade_flow : (market : UnitMarket) (pins : List Pin) (links : List Link) (levels : List ℕ)
    → IsFlowOf market pins links levels → (t : ℕ) → t < length market.trades.items
    → pos (sold_at market levels t) -ℤ pos (bought_at market levels t)
    +ℤ total (pin_term (pull (at_node (trade_node market t))) market pins levels) (length pins) ≡ pos 0
trade_flow market pins links levels flow t inside =
    let label : ℕ → ℤ = at_node (trade_node market t) in
    let whole = ends_pull market pins links levels label flow in
    let roots = total-zero (root_term (pull label) market levels) market.firms root_none in
    let z : ℤ = pos (sold_at market levels t) -ℤ pos (bought_at market levels t) in
    let ends = total-same (end_term market levels label) (λ k. if k == t then z else pos 0) (length market.trades.items)
    (λ k below. end_at k below) in
    let one = total_one z t (length market.trades.items) inside in
    omega (arith, ints, whole, roots, ends, one)
  where
    known : (k : ℕ) → k < length market.trades.items → IsBetween market.firms (trade_at market.trades.items k)
    known k below = between_at market flow.market_is k below

    root_none : (f : ℕ) → f < market.firms → root_term (pull (at_node (trade_node market t))) market levels f ≡ pos 0
    root_none f below =
        let null = at_other (trade_node market t) (null_node market) (λ e. omega (arith, e, inside)) in
        let root = at_other (trade_node market t) (root_node market f) (λ e. omega (arith, e, below)) in
        none_times (at_node (trade_node market t) (null_node market) -ℤ at_node (trade_node market t) (root_node market f))
        (pos (get_or levels (root_node market f) 0) -ℤ pos 4194304) (omega (arith, ints, null, root))

    end_at : (k : ℕ) → k < length market.trades.items → end_term market levels (at_node (trade_node market t)) k
        ≡ (if k == t then pos (sold_at market levels t) -ℤ pos (bought_at market levels t) else pos 0)
    end_at k below =
        let label : ℕ → ℤ = at_node (trade_node market t) in
        let buyer = (trade_at market.trades.items k).buyer in
        let seller = (trade_at market.trades.items k).seller in
        let first = at_other (trade_node market t) (root_node market buyer) (λ e. omega (arith, e, (known k below).buyer)) in
        let second = at_other (trade_node market t) (root_node market seller)
        (λ e. omega (arith, e, (known k below).seller)) in
        elim (cases_eq k t) [
          | inl same ↦
              let own = at_same (trade_node market t) (trade_node market k) (ap (trade_node market) same) in
              let bought = minus_one (label (root_node market buyer) -ℤ label (trade_node market k))
              (pos (bought_at market levels k)) (omega (arith, ints, first, own)) in
              let sold = minus_one (label (root_node market seller) -ℤ label (trade_node market k))
              (pos (sold_at market levels k)) (omega (arith, ints, second, own)) in
              let moved_to = ap (λ (j : ℕ). pos (sold_at market levels j) -ℤ pos (bought_at market levels j)) same in
              let test = ap (λ (b : Bool). if b then pos (sold_at market levels t) -ℤ pos (bought_at market levels t)
              else pos 0) (eq-eqb k t same) in
              omega (arith, ints, bought, sold, moved_to, test)
          | inr other ↦
              let own = at_other (trade_node market t) (trade_node market k) (trade_nodes market k t other) in
              let bought = none_times (label (root_node market buyer) -ℤ label (trade_node market k))
              (pos (bought_at market levels k)) (omega (arith, ints, first, own)) in
              let sold = none_times (label (root_node market seller) -ℤ label (trade_node market k))
              (pos (sold_at market levels k)) (omega (arith, ints, second, own)) in
              let test = ap (λ (b : Bool). if b then pos (sold_at market levels t) -ℤ pos (bought_at market levels t)
              else pos 0) (ne_eqb k t other) in
              omega (arith, ints, bought, sold, test)
        ]
