-- How far from 0 labels are that a search answers.
use Rattle.std.proofs.Common.{ℕ, ◌<◌, ◌≤◌, arith, List, ℤ}
use Rattle.std.proofs.lemmas.Int.{ints}
use Rattle.tn_cycle.specs.Answers.{AreLabels, AreNear}
use Rattle.tn_cycle.specs.Widths.{most_graph_nodes, most_label}
use Rattle.tn_links.specs.declared.link.Link.{Link}
use Rattle.tn_links.specs.Links.{ArePlain}
use Rattle.tn_links.specs.LotLemmas.{light_units}
use Rattle.tn_links.specs.Lots.{link_arc}

pub labels_near : (nodes : ℕ) (links : List Link) (levels : List ℕ) (labels : List ℤ) → ArePlain nodes links
    → nodes ≤ most_graph_nodes → AreLabels nodes (link_arc links levels 1) labels → AreNear most_label labels
labels_near nodes links levels labels plain few are v below =
    let inside : v < nodes = let sized = are.one_each in omega (arith, sized, below) in
    let high = are.high v inside in
    let low = are.low 1000000000000000000 v (light_units nodes links levels plain) inside in
    record { low = omega (arith, ints, low, few); high = omega (arith, ints, high) }
