-- Searches over the arcs that labels keep.
use Rattle.std.proofs.Common.{◌≡◌, ◌≢◌, ℕ, sym, ap, ◌∙◌, subst, inl, inr, List, [], ◌∷◌, ℤ, Option, Some, Bool, true, false, ◌==◌, if◌then◌else◌}
use Rattle.std.specs.Prelude.{◌||◌, ◌&&◌}
use Rattle.std.proofs.lemmas.Bool.{and_parts, ne_eqb, or_cases, false≢true, eqb-true}
use Rattle.tn_base.specs.Arcs.{AreBetweenNodes}
use Rattle.tn_base.specs.Sets.{has}
use Rattle.tn_base.specs.Walks.{KeepsArcs, arcs_among, is_admitted, is_looked_at, walk_cost}
use Rattle.tn_base.proofs.WalkLemmas.{both_are, walk_parts}
use Rattle.tn_cycle.specs.Answers.{IsFound}
use Rattle.tn_cycle.specs.GraphLemmas.{some_if}
use Rattle.tn_links.specs.Rounds.{GoesRound}
use Rattle.tn_links.specs.Shown.{kept_only, shown_arc}
use Rattle.tn_links.specs.ShownLemmas.{kept_is, shown_is}
use Rattle.tn_links.proofs.RoundLemmas.{round_by}

-- a node that isn't admitted is none of those that are
not_node : (null allowed node v : ℕ) → has allowed node ≡ false → node ≢ null → is_admitted null allowed v ≡ true → v ≢ node
not_node null allowed node v out other is same =
    let here : is_admitted null allowed node ≡ true = subst (λ (z : ℕ). is_admitted null allowed z ≡ true) same is in
    elim (or_cases (node == null) (has allowed node) here) [
      | inl null_is ↦ other (eqb-true node null null_is)
      | inr has_is ↦ false≢true (sym out ∙ has_is)
    ]

-- labels keep the arcs that are shown off the node
pub keeps_shown : (label : ℕ → ℤ) (node null allowed : ℕ) (arc : ℕ → ℕ → Option ℤ) → has allowed node ≡ false
    → node ≢ null → KeepsArcs (arcs_among (is_admitted null allowed) (shown_arc label node arc)) label
keeps_shown label node null allowed arc out other u v cost is =
    let two = some_if (is_admitted null allowed u && is_admitted null allowed v) (shown_arc label node arc u v) cost is in
    let tests = and_parts (is_admitted null allowed u) (is_admitted null allowed v) two.0 in
    let first = ne_eqb u node (not_node null allowed node u out other tests.0) in
    let second = ne_eqb v node (not_node null allowed node v out other tests.1) in
    let kept : kept_only (label u) (label v) (arc u v) ≡ Some cost =
    sym (ap (λ (t : Bool). if t || v == node then arc u v else kept_only (label u) (label v) (arc u v)) first
    ∙ ap (λ (t : Bool). if t then arc u v else kept_only (label u) (label v) (arc u v)) second) ∙ two.1 in
    (kept_is (label u) (label v) cost (arc u v) kept).1

-- a walk in a part of a graph is one in the graph
walk_whole : (part arc : ℕ → ℕ → Option ℤ) → ((a b : ℕ) (cost : ℤ) → part a b ≡ Some cost → arc a b ≡ Some cost)
    → (u : ℕ) (vs : List ℕ) (w : ℕ) (cost : ℤ) → walk_cost part u vs w ≡ Some cost → walk_cost arc u vs w ≡ Some cost
walk_whole part arc whole u [] w cost is = whole u w cost is
walk_whole part arc whole u (v ∷ vs) w cost is =
    let two = walk_parts part u v vs w cost is in
    both_are (arc u v) (walk_cost arc v vs w) two.first two.second (whole u v two.first two.first_is)
    (walk_whole part arc whole v vs w two.second two.second_is) ∙ ap (λ (z : ℤ). Some z) (sym two.sum_is)

-- a cycle that a search over them finds goes round
pub found_round : (nodes null allowed node : ℕ) (label : ℕ → ℤ) (arc : ℕ → ℕ → Option ℤ) (listed : List ℕ) (cost : ℤ)
    (count : ℕ) → AreBetweenNodes nodes arc
    → IsFound (arcs_among (is_looked_at null node allowed) (shown_arc label node arc)) node listed cost count
    → GoesRound nodes arc listed
found_round nodes null allowed node label arc listed cost count between found =
    round_by nodes arc listed node found.rest cost between found.nodes_are found.negative (record {
      walk = walk_whole (arcs_among (is_looked_at null node allowed) (shown_arc label node arc)) arc
          (λ a b c is. shown_is label node arc a b c
          (some_if (is_looked_at null node allowed a && is_looked_at null node allowed b) (shown_arc label node arc a b) c
          is).1) node found.rest node cost found.least.cycle.walk;
      different = found.least.cycle.different;
    })
