-- Firms so far gain nothing.
use Rattle.tn_unit_answers.specs.Judged.{AreContentBefore}
use Rattle.tn_unit_answers.proofs.judged.verdict_of.Given as goal

abbrev pub invariant-loop-f : goal.invariant-loop-f
invariant-loop-f l = AreContentBefore l.firms l.f
