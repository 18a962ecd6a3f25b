-- What shows the clauses of `split_sets` of `src/split.rt`.
use Rattle.std.proofs.Common.{length, ap, ◌∙◌, ◌∷◌, [], arith}
use Rattle.std.proofs.lemmas.List.{length-append}
use Rattle.tn_unit_judge.proofs.MadeLemmas.{sets_more}
use Rattle.tn_unit_judge.proofs.split.split_sets.Goals as goal

pub loop-i-preserved : goal.loop-i-preserved
loop-i-preserved c =
    let long = ap length c.in_ok-push.ensures.items
    ∙ length-append c.loop-i.splits.items (c.in_ok-split_set.field-0 ∷ []) in
    let sized = c.loop-i.invariant.sized in
    record {
      sized = omega (arith, long, sized);
      each = sets_more c.args.over c.args.from.now c.args.sets.now c.loop-i.splits.items c.push.new.self.items c.loop-i.i
          c.index-sets-i.result c.in_ok-split_set.field-0 c.loop-i.invariant.sized c.in_ok-push.ensures.items
          c.index-sets-i.is c.loop-i-test.true c.in_ok-split_set.ensures c.loop-i.invariant.each;
    }
