-- What shows the clauses of `are_links` of `src/checks.rt`.
use Rattle.std.proofs.Common.{◌≡◌, Some, refl, arith, length}
use Rattle.std.proofs.lemmas.Option.{slice_get_read, slice_get_within}
use Rattle.std.specs.Prelude.{slice_get}
use Rattle.tn_links.specs.Links.{IsLink}
use Rattle.tn_links.proofs.CheckLemmas.{holds_more}
use Rattle.tn_links.proofs.checks.are_links.Goals as goal

pub returns-then-not-is_link-clause-no : goal.returns-then-not-is_link-clause-no
returns-then-not-is_link-clause-no c is each =
    let at : slice_get c.args.links.now c.loop-link.link-index ≡ Some c.link-item.result =
    slice_get_read c.args.links.now (length c.args.links.now) c.loop-link.link-index c.link-item.result refl
    c.loop-link-test.true c.link-item.is in
    c.is_link.ensures.no c.if-not-is_link.true (each c.loop-link.link-index c.link-item.result at)

pub loop-link-preserved : goal.loop-link-preserved
loop-link-preserved c =
    let at : slice_get c.args.links.now c.loop-link.link-index ≡ Some c.link-item.result =
    slice_get_read c.args.links.now (length c.args.links.now) c.loop-link.link-index c.link-item.result refl
    c.loop-link-test.true c.link-item.is in
    holds_more (λ j link. IsLink c.args.nodes link) c.args.links.now c.loop-link.link-index c.link-item.result at
    (c.is_link.ensures.yes c.if-not-is_link.false) c.loop-link.invariant

pub returns-clause-yes : goal.returns-clause-yes
returns-clause-yes c is j link at =
    let below = slice_get_within c.args.links.now j link at in
    c.loop-link.invariant j link (omega (arith, below, c.loop-link-test.false)) at
