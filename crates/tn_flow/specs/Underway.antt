-- Where the rounds of a solver stand.
use Rattle.std.specs.Prelude.{◌≡◌, ℕ, ◌+◌, nat_lt, ◌&&◌, ℤ, List, length}
use Rattle.tn_base.specs.Firm.{Firm}
use Rattle.tn_base.specs.Sets.{has, toggle}
use Rattle.tn_base.specs.Walks.{arcs_among, is_admitted, KeepsArcs}
use Rattle.tn_model.specs.declared.ends.Ends.{Ends}
use Rattle.tn_market.specs.Graph.{exchange_arc}
use Rattle.tn_graph.specs.Blocks.{CostBlocks}
use Rattle.tn_graph.specs.Reading.{IsExchangeAmong}
use Rattle.tn_cycle.specs.Reading.{Reading}
use Rattle.tn_cycle.specs.Answers.{label_in}
use Rattle.tn_cycle.specs.declared.answer.Path.{Path}
use Rattle.tn_cycle.specs.declared.answer.Path.TheVariants as path
use Rattle.tn_network_laws.specs.Along.{along}
use Rattle.tn_network_laws.specs.Kept.{IsKept}

-- a graph and a finder have room for so many trades and null
pub record HaveRoom (count : ℕ) (graph : CostBlocks) (finder : Reading) : Type 0 where
  pub graph_sized : graph.nodes ≡ count + 1
  pub finder_sized : finder.nodes ≡ count + 1

-- a label for each trade and null, which keep the arcs among the admitted trades and null
pub record AreKept (firms : List Firm) (trades : List Ends) (allowed on : ℕ) (labels : List ℤ) : Type 0 where
  pub one_each : length labels ≡ length trades + 1
  pub keeps : KeepsArcs (arcs_among (is_admitted (length trades) allowed) (exchange_arc firms trades on))
      (label_in labels)

-- the graph is the exchange graph at the set that is on, among the admitted trades and null; the set is what a round
-- leaves with the admitted trades, and so are the labels
pub record AreUnderWay (firms : List Firm) (trades : List Ends) (graph : CostBlocks) (finder : Reading)
    (allowed on : ℕ) : Type 0 where
  pub arcs : IsExchangeAmong firms trades on allowed graph
  pub sized : finder.nodes ≡ length trades + 1
  pub kept : IsKept firms trades allowed on
  pub labels : AreKept firms trades allowed on finder.labels

-- what follows from the answer of a search: the set with the trade admitted, as it is or along the listed cycle, and
-- the labels that the search leaves
abbrev pub IsNext : List Firm → List Ends → ℕ → ℕ → ℕ → Reading → Path → Type 0
IsNext firms trades allowed on t finder path.None = IsKept firms trades (toggle allowed t) on
    × AreKept firms trades (toggle allowed t) on finder.labels
IsNext firms trades allowed on t finder (path.Cycle cost count) =
    (count ≡ length finder.listed) × IsKept firms trades (toggle allowed t) (along (length trades) on finder.listed)
    × AreKept firms trades (toggle allowed t) (along (length trades) on finder.listed) finder.labels

-- the admitted trades are those of a set that are below t
abbrev pub AreAdmittedBelow : ℕ → ℕ → ℕ → Type 0
AreAdmittedBelow wanted t allowed = (k : ℕ) → has allowed k ≡ (nat_lt k t && has wanted k)
