-- What shows the clauses of `holdings_of` of `src/firms.rt`.
use Rattle.std.proofs.Common.{arith}
use Rattle.std.proofs.lemmas.Option.{slice_get_read}
use Rattle.tn_unit_answers.proofs.FirmLemmas.{told_more}
use Rattle.tn_unit_answers.proofs.firms.holdings_of.Goals as goal

pub loop-f-preserved : goal.loop-f-preserved
loop-f-preserved c =
    let count = c.len-f-end.ensures in
    let sized = c.args.judged.now.firms.ok.0 in
    told_more c.args.trades.now c.args.counts.now c.args.judged.now.best.sold.items c.args.judged.now.best.bought.items
    c.args.judged.now.firms.items c.loop-f.holdings.items c.push.new.self.items c.loop-f.f c.index-said.result.now
    c.in_ok-holding_of.field-0 c.loop-f.invariant.0 c.loop-f.invariant.1
    (slice_get_read c.args.judged.now.firms.items c.len-f-end.result c.loop-f.f c.index-said.result.now
    (omega (arith, count, sized)) c.loop-f-test.true c.index-said.ensures)
    c.in_ok-holding_of.ensures c.in_ok-push.ensures.items
