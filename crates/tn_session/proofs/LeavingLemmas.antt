-- A trade that is on and admitted no longer: the cycle through it that is looked for is there.
use Rattle.std.proofs.Common.{◌≡◌, ℕ, ◌-◌, sym, ◌∙◌, subst, ℤ, ◌+ℤ◌, List, length, slice_get, Some}
use Rattle.tn_base.specs.Firm.{Firm, MayAbstain}
use Rattle.tn_base.specs.Walks.{arcs_among, is_looked_at, IsUnreached, KeepsArcs, KeepsArcsEntering}
use Rattle.tn_base.proofs.WalkLemmas.{SameArcs, walk-same, least_cycle-same}
use Rattle.tn_model.specs.declared.ends.Ends.{Ends}
use Rattle.tn_model.specs.Network.{IsNetwork}
use Rattle.tn_graph.specs.Blocks.{CostBlocks, arcs_of}
use Rattle.tn_cycle.specs.Reading.{Reading}
use Rattle.tn_cycle.specs.Answers.{IsLeastFound, label_in}
use Rattle.tn_network_laws.specs.Along.{along}
use Rattle.tn_network_laws.specs.Kept.{IsKept}
use Rattle.tn_network_laws.specs.Laws.{MeetExchange}
use Rattle.tn_network_laws.specs.Rounds.{arcs_with}
use Rattle.tn_network_laws.proofs.KeptLemmas.{keeps-same, entering-same, with_arcs}
use Rattle.tn_network_laws.proofs.BarLemmas.{one_cycle_bars_a_trade}
use Rattle.tn_flow.specs.Underway.{AreKept}
use Rattle.tn_flow.proofs.RoundLemmas.{last_node, looked_same as joined_same}
use Rattle.tn_session.specs.Standing.{IsLeaving}

-- the arcs that the search looks at
looked_same : (firms : List Firm) (trades : List Ends) (graph : CostBlocks) (finder : Reading) (allowed on t : ℕ)
    → IsLeaving firms trades graph finder allowed on t
    → SameArcs (arcs_with firms trades allowed on t) (arcs_among (is_looked_at (finder.nodes - 1) t allowed)
    (arcs_of graph))
looked_same firms trades graph finder allowed on t leaving u v =
    subst (λ (n : ℕ). arcs_with firms trades allowed on t u v
    ≡ arcs_among (is_looked_at n t allowed) (arcs_of graph) u v)
    (sym (last_node finder.nodes (length trades) leaving.under_way.sized))
    (sym (joined_same firms trades on allowed t graph leaving.out leaving.under_way.arcs u v))

-- what it asks for
pub leaving_asks : (firms : List Firm) (trades : List Ends) (graph : CostBlocks) (finder : Reading) (allowed on t : ℕ)
    → IsLeaving firms trades graph finder allowed on t
    → KeepsArcs (arcs_among (is_looked_at (finder.nodes - 1) t allowed) (arcs_of graph)) (label_in finder.labels)
leaving_asks firms trades graph finder allowed on t leaving =
    keeps-same _ _ (λ u v. sym (looked_same firms trades graph finder allowed on t leaving u v)
    ∙ with_arcs firms trades allowed on t leaving.out u v)
    (label_in finder.labels) leaving.under_way.labels.keeps

-- it can't find none
pub leaving_never : (firms : List Firm) (trades : List Ends) (graph : CostBlocks) (finder : Reading) (allowed on t : ℕ)
    → IsNetwork firms trades → MeetExchange firms
    → ((f : ℕ) (firm : Firm) → slice_get firms f ≡ Some firm → MayAbstain firm)
    → IsLeaving firms trades graph finder allowed on t
    → IsUnreached (arcs_among (is_looked_at (finder.nodes - 1) t allowed) (arcs_of graph)) t t → ⊥
leaving_never firms trades graph finder allowed on t network meet abstain leaving none =
    one_cycle_bars_a_trade.passed firms trades allowed on t network meet abstain leaving.under_way.kept leaving.trade
    leaving.out leaving.member
    (λ vs avoids. walk-same _ _ (looked_same firms trades graph finder allowed on t leaving) t vs t ∙ none vs)

-- and the set along what it finds is an equilibrium's without the trade, with the labels that it leaves
pub leaving_finds : (firms : List Firm) (trades : List Ends) (graph : CostBlocks) (finder : Reading) (allowed on t : ℕ)
    → IsNetwork firms trades → MeetExchange firms → IsLeaving firms trades graph finder allowed on t
    → (after : Reading) (cost : ℤ) (count : ℕ)
    → IsLeastFound (arcs_among (is_looked_at (finder.nodes - 1) t allowed) (arcs_of graph)) t after.listed cost
    count → length after.labels ≡ finder.nodes
    → KeepsArcsEntering (arcs_among (is_looked_at (finder.nodes - 1) t allowed) (arcs_of graph)) t
    (label_in after.labels t +ℤ cost) (label_in after.labels)
    → IsKept firms trades allowed (along (length trades) on after.listed)
    × AreKept firms trades allowed (along (length trades) on after.listed) after.labels
leaving_finds firms trades graph finder allowed on t network meet leaving after cost count found sized keeps =
    subst (λ (ls : List ℕ). IsKept firms trades allowed (along (length trades) on ls)
    × AreKept firms trades allowed (along (length trades) on ls) after.labels) (sym found.nodes_are) (
      one_cycle_bars_a_trade.turned firms trades allowed on t network meet leaving.under_way.kept leaving.trade
          leaving.out leaving.member found.rest cost
          (least_cycle-same _ _ same t found.rest cost found.least),
      record {
        one_each = sized ∙ leaving.under_way.sized;
        keeps = one_cycle_bars_a_trade.turned_labels firms trades allowed on t network meet leaving.under_way.kept
            leaving.trade leaving.out leaving.member found.rest cost (label_in after.labels)
            (least_cycle-same _ _ same t found.rest cost found.least)
            (entering-same _ _ same t (label_in after.labels t +ℤ cost) (label_in after.labels) keeps);
      },
    )
  where
    same : SameArcs (arcs_with firms trades allowed on t)
        (arcs_among (is_looked_at (finder.nodes - 1) t allowed) (arcs_of graph))
    same = looked_same firms trades graph finder allowed on t leaving
