-- What shows the clauses of `most_of` of `src/light.rt`.
use Rattle.std.proofs.Common.{◌≡◌, ◌∙◌, ap, subst, sym, arith, Some}
use Rattle.std.specs.Prelude.{slice_get}
use Rattle.std.proofs.lemmas.Int.{ints}
use Rattle.std.proofs.lemmas.Option.{slice_get-get_or, slice_get_within}
use Rattle.tn_links.specs.declared.link.Link.{Link}
use Rattle.tn_links.specs.Links.{AddAtMost}
use Rattle.tn_links.proofs.CheckLemmas.{holds_more}
use Rattle.tn_links.proofs.light.most_of.Goals as goal

pub loop-j-preserved : goal.loop-j-preserved
loop-j-preserved c =
    let links = c.args.links.now.links.items in
    let more = c.most_added-most.ensures.before in
    let at : slice_get links c.loop-j.j ≡ Some c.index-link.result.now =
    slice_get-get_or links c.loop-j.j c.index-link.result.now (omega arith) ∙ ap Some (sym c.index-link.ensures) in
    holds_more (λ i (one : Link). AddAtMost c.most_added-most.result one.steps.items) links c.loop-j.j
    c.index-link.result.now at
    (subst (AddAtMost c.most_added-most.result) c.deref.ensures.value c.most_added-most.ensures.own)
    (λ i one less is k step its.
    let own = c.loop-j.invariant i one less is k step its in
    record { low = omega (arith, ints, own.low, more); high = omega (arith, ints, own.high, more) })

pub returns : goal.returns
returns c j link at =
    let below = slice_get_within c.args.links.now.links.items j link at in
    c.loop-j.invariant j link (omega (arith, below, c.loop-j-test.false)) at
