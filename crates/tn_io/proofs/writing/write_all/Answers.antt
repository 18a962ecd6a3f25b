-- What shows the clauses of `write_all` of `src/writing.rt`.
use Rattle.std.proofs.Common.{arith}
use Rattle.tn_io.proofs.Grown.{Grows-slice, slice-within}
use Rattle.tn_io.proofs.writing.write_all.Goals as goal

pub loop-done-preserved : goal.loop-done-preserved
loop-done-preserved g c = record {
  within = slice-within c.args.bytes.now _ _ c.loop-done.invariant.within c.in_ok-count.ensures.bound;
  grown = Grows-slice _ _ _ c.args.bytes.now _ _ c.loop-done.invariant.grown c.in_ok-count.ensures.bytes;
  later = omega arith;
}
