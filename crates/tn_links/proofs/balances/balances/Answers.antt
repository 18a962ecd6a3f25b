-- What shows the clauses of `balances` of `src/balances.rt`.
use Rattle.std.proofs.Common.{◌≡◌, ◌<◌, ◌∙◌, get_or, length, Some, sym, ap, arith}
use Rattle.std.specs.Prelude.{slice_get}
use Rattle.std.proofs.lemmas.Int.{ints}
use Rattle.std.proofs.lemmas.Option.{slice_get-get_or}
use Rattle.tn_links.proofs.BalanceLemmas.{balance-more, small_more}
use Rattle.tn_links.proofs.balances.balances.Goals as goal

pub bring-requires-clause-tail : goal.bring-requires-clause-tail
bring-requires-clause-tail c =
    let below : c.loop-j.j < length c.args.links.now = omega arith in
    let link : slice_get c.args.links.now c.loop-j.j ≡ Some c.index-links-j.result =
    slice_get-get_or c.args.links.now c.loop-j.j c.index-links-j.result below ∙ ap Some (sym c.index-links-j.is) in
    let inside = (c.requires.each c.loop-j.j c.index-links-j.result link).tail_inside in
    let sized = c.loop-j.invariant.sized in
    omega (arith, inside, sized)

pub bring-requires-clause-head : goal.bring-requires-clause-head
bring-requires-clause-head c =
    let below : c.loop-j.j < length c.args.links.now = omega arith in
    let link : slice_get c.args.links.now c.loop-j.j ≡ Some c.index-links-j.result =
    slice_get-get_or c.args.links.now c.loop-j.j c.index-links-j.result below ∙ ap Some (sym c.index-links-j.is) in
    let inside = (c.requires.each c.loop-j.j c.index-links-j.result link).head_inside in
    let sized = c.loop-j.invariant.sized in
    omega (arith, inside, sized)

pub loop-j-preserved : goal.loop-j-preserved
loop-j-preserved c =
    let below : c.loop-j.j < length c.args.links.now = omega arith in
    let link : slice_get c.args.links.now c.loop-j.j ≡ Some c.index-links-j.result =
    slice_get-get_or c.args.links.now c.loop-j.j c.index-links-j.result below ∙ ap Some (sym c.index-links-j.is) in
    let level : slice_get c.args.levels.now c.loop-j.j ≡ Some (get_or c.args.levels.now c.loop-j.j 0) =
    slice_get-get_or c.args.levels.now c.loop-j.j 0 (omega (arith, below, c.requires.one_each)) in
    let steps = (c.requires.each c.loop-j.j c.index-links-j.result link).steps in
    let back = steps.back_within in
    let few = steps.few_units in
    record {
      sized = c.bring.ensures.sized ∙ c.loop-j.invariant.sized;
      all = λ v.
          let so_far = c.loop-j.invariant.all v in
          let more = balance-more c.args.links.now c.args.levels.now c.loop-j.j (get_or c.args.levels.now c.loop-j.j 0)
          c.index-links-j.result v link level in
          let own = c.bring.ensures.brought v in
          omega (arith, ints, so_far, more, own);
      small = λ v. small_more c.loop-j.balances.items c.bring.new.balances.items c.index-links-j.result
          (get_or c.args.levels.now c.loop-j.j 0) c.loop-j.j v (omega arith) (omega (arith, back, few)) (c.loop-j.invariant.small v)
          (c.bring.ensures.brought v);
    }
