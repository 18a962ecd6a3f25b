-- What shows the clauses of `finds_labels_and_walks` of `src/cycle.rt`.
use Rattle.std.proofs.Common.{ℤ, List, false, subst, sym}
use Rattle.tn_base.specs.Walks.{KeepsArcs}
use Rattle.tn_cycle.specs.Answers.{AreNear, label_in}
use Rattle.tn_tests.specs.Ring.{ring}
use Rattle.tn_cycle.specs.Widths.{most_label}
use Rattle.tn_tests.proofs.RingLemmas.{all_zero_keep, all_zero_near, zeros_keep_all}
use Rattle.tn_tests.proofs.cycle.finds_labels_and_walks.Goals as goal

pub least_to-requires-clause-keeps : goal.least_to-requires-clause-keeps
least_to-requires-clause-keeps g c =
    all_zero_keep (ring 4 false) c.label_all.new.self.labels c.label_all.ensures.zero (zeros_keep_all 4)

pub least_from-requires-clause-near : goal.least_from-requires-clause-near
least_from-requires-clause-near g c =
    subst (AreNear most_label) (sym c.label_as.ensures.labels)
    (all_zero_near c.label_all.new.self.labels c.label_all.ensures.zero)

pub least_from-requires-clause-keeps : goal.least_from-requires-clause-keeps
least_from-requires-clause-keeps g c =
    subst (λ (labels : List ℤ). KeepsArcs (ring 4 false) (label_in labels)) (sym c.label_as.ensures.labels)
    (all_zero_keep (ring 4 false) c.label_all.new.self.labels c.label_all.ensures.zero (zeros_keep_all 4))
