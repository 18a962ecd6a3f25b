-- What shows the clauses of `each_offer` of `src/contracts.rt`.
use Rattle.std.proofs.lemmas.Result.{err_from_is_err_and}
use Rattle.tn_read_parts.specs.Lists.{list_place}
use Rattle.tn_read_claims.specs.Members.{one_offer}
use Rattle.tn_read_shapes.proofs.EachLemmas.{each_goes_on, each_is_done, each_fails}
use Rattle.tn_read_claims.proofs.contracts.each_offer.Goals as goal

pub returns-in_err-add_offer : goal.returns-in_err-add_offer
returns-in_err-add_offer c =
    let p = err_from_is_err_and c.from_residual.result c.from_residual.ensures.1 in
    rw (p.1, p.2) (each_fails (one_offer c.args.head.now.names.trades (list_place c.args.at) c.args.limit)
    c.in_err-add_offer.field-0.0 c.args.entries.now c.loop-entry.entry-index c.entry-item.result _ _
    c.loop-entry-test.true (rw (← c.entry-item.is) c.in_err-add_offer.ensures) c.loop-entry.invariant)

pub loop-entry-preserved : goal.loop-entry-preserved
loop-entry-preserved c =
    each_goes_on (one_offer c.args.head.now.names.trades (list_place c.args.at) c.args.limit) c.args.entries.now
    c.loop-entry.entry-index c.entry-item.result _ _ _ c.loop-entry-test.true
    (rw (← c.entry-item.is) c.in_ok-add_offer.ensures) c.loop-entry.invariant

pub returns : goal.returns
returns c = each_is_done (one_offer c.args.head.now.names.trades (list_place c.args.at) c.args.limit) c.args.entries.now
    c.loop-entry.entry-index _ _ c.loop-entry-test.false c.loop-entry.invariant
