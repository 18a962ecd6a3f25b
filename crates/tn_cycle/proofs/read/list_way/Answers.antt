-- What shows the clauses of `list_way` of `src/read.rt`.
use Rattle.std.proofs.Common.{◌<◌, length, arith}
use Rattle.tn_cycle.specs.Cells.{cell_at}
use Rattle.tn_cycle.proofs.ReadLemmas.{listed-next, inside-next}
use Rattle.tn_cycle.proofs.read.list_way.Goals as goal

pub loop-k-preserved : goal.loop-k-preserved
loop-k-preserved c =
    let inside : c.loop-k.k < length c.loop-k.path = omega (arith, c.loop-k-test.true, c.requires.listable.few) in
    record {
      inside = inside-next (cell_at c.args.row.now) (length c.args.row.now) _ c.loop-k.k c.loop-k.at c.loop-k-test.true
          c.loop-k.invariant.inside;
      so_far = listed-next (cell_at c.args.row.now) c.loop-k.path _ c.loop-k.k c.loop-k.at _ c.loop-k-test.true inside
          c.loop-k.invariant.so_far;
    }
