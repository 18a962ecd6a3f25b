-- From labels to prices.
use Rattle.std.proofs.Common.{◌≡◌, ℕ, ◌+◌, ◌*◌, ◌<◌, ◌≤◌, sym, ◌∙◌, subst, arith, ℤ, pos, ◌-ℤ◌, List, length}
use Rattle.std.specs.Prelude.{get_or}
use Rattle.std.proofs.lemmas.List.{get_or_default}
use Rattle.tn_base.specs.Arcs.{IsAtMost}
use Rattle.tn_base.specs.Firm.{Firm}
use Rattle.tn_base.specs.Walks.{arcs_among, is_admitted, KeepsArcs}
use Rattle.tn_base.specs.Widths.{most_cost}
use Rattle.tn_model.specs.declared.ends.Ends.{Ends}
use Rattle.tn_model.specs.Network.{IsNetwork}
use Rattle.tn_model.specs.Prices.{price_at}
use Rattle.tn_market.specs.Widths.{most_market_trades}
use Rattle.tn_market.specs.Graph.{exchange_arc}
use Rattle.tn_market.specs.Admitted.{admitted}
use Rattle.tn_graph.specs.Blocks.{CostBlocks, arcs_of}
use Rattle.tn_graph.specs.BlockLemmas.{arcs_of-small}
use Rattle.tn_cycle.specs.Reading.{Reading}
use Rattle.tn_cycle.specs.Answers.{AreLabels, label_in}
use Rattle.tn_cycle.specs.GraphLemmas.{small-arcs_among}
use Rattle.tn_cycle.specs.Widths.{most_read}
use Rattle.tn_cycle.proofs.DifferenceLemmas.{label_small, difference_within}
use Rattle.tn_network_laws.specs.Laws.{MeetExchange}
use Rattle.tn_network_laws.proofs.AdmittedLemmas.{admitted_network}
use Rattle.tn_network_laws.proofs.KeptLemmas.{one_cycle_for_each_trade}
use Rattle.tn_network_laws.proofs.EachLemmas.{same_prices}
use Rattle.tn_market.specs.Limits.{AreWorthsWithin}
use Rattle.tn_network_laws.proofs.SupportLemmas.{arcs_small}
use Rattle.tn_flow.specs.Underway.{AreUnderWay}
use Rattle.tn_flow.proofs.RoundLemmas.{admitted_same}
use Rattle.tn_flow.specs.Solved.{IsSolution, AreSmallPrices}

-- ---- numbers

pub small_bound : (limit count : ℕ) → 2 * limit * (count + 1) ≤ most_cost → 2 * limit ≤ most_cost
small_bound limit count small = let e : 2 * limit * (count + 1) ≡ 2 * limit * count + 2 * limit = grind arith in
    omega (arith, small, e)

-- the labels of a graph are small
pub labels_small : (firms : List Firm) (trades : List Ends) (graph : CostBlocks) (finder : Reading) (allowed on : ℕ)
    (labels : List ℤ) → AreUnderWay firms trades graph finder allowed on → length trades ≤ most_market_trades
    → AreLabels (length trades + 1) (arcs_among (is_admitted (length trades) allowed) (exchange_arc firms trades on))
    labels → (t : ℕ) → t < length labels → IsAtMost (label_in labels t) most_read
labels_small firms trades graph finder allowed on labels way few are =
    label_small (length trades + 1) _ labels are
    (λ u v cost is. small-arcs_among (is_admitted (length trades) allowed) most_cost (arcs_of graph)
    (arcs_of-small graph) u v cost (sym (admitted_same firms trades graph finder allowed on way u v) ∙ is))
    (omega (arith, few))

-- ---- prices

-- what the rounds come to is a solution
pub solution_from : (firms : List Firm) (trades : List Ends) (graph : CostBlocks) (finder : Reading) (allowed wanted on : ℕ)
    (labels prices : List ℤ) → IsNetwork firms trades → MeetExchange firms
    → AreUnderWay firms trades graph finder allowed on → allowed ≡ wanted
    → KeepsArcs (arcs_among (is_admitted (length trades) allowed) (exchange_arc firms trades on)) (label_in labels)
    → length prices ≡ length trades
    → ((t : ℕ) → t < length trades → price_at prices t ≡ label_in labels t -ℤ label_in labels (length trades))
    → IsSolution firms trades wanted (record { on = on; prices = prices })
solution_from firms trades graph finder allowed wanted on labels prices network meet way same keeps counted priced =
    subst (λ (x : ℕ). IsSolution firms trades x (record { on = on; prices = prices })) same (record {
      inside = way.kept.inside;
      one_each = counted;
      equilibrium =
          same_prices (admitted trades allowed firms) trades (pos 1) on (price_at prices) (λ t. label_in labels t
          -ℤ label_in labels (length trades))
          (admitted_network firms trades allowed network) priced
          (one_cycle_for_each_trade.ends firms trades allowed on network meet way.kept (label_in labels) keeps);
    })

-- and its prices are within the bound
pub prices_within : (firms : List Firm) (trades : List Ends) (allowed on : ℕ) (labels prices : List ℤ)
    → IsNetwork firms trades
    → AreLabels (length trades + 1) (arcs_among (is_admitted (length trades) allowed)
    (exchange_arc firms trades on)) labels → length prices ≡ length trades
    → ((t : ℕ) → t < length trades → price_at prices t ≡ label_in labels t -ℤ label_in labels (length trades))
    → (bound : ℕ) → AreWorthsWithin bound firms → AreSmallPrices (2 * bound * length trades) prices
prices_within firms trades allowed on labels prices network are counted priced bound bounded k d below =
    subst (λ (z : ℤ). IsAtMost z (2 * bound * length trades)) (sym (read ∙ priced k inside))
    (difference_within (length trades) (2 * bound) _ labels are
    (small-arcs_among (is_admitted (length trades) allowed) (2 * bound) (exchange_arc firms trades on)
    (arcs_small firms trades network bound on bounded)) k inside)
  where
    inside : k < length trades
    inside = omega (arith, below, counted)

    read : get_or prices k d ≡ price_at prices k
    read = get_or_default prices k d (pos 0) below
