-- What the loops of `run_cases` of `src/casing.rt` keep.
use Rattle.tn_run.specs.Cases.{AreFailed}
use Rattle.tn_run.proofs.casing.run_cases.Given as goal

abbrev pub invariant-loop-k : goal.invariant-loop-k
invariant-loop-k g l = AreFailed l.k l.book l.failed.items
