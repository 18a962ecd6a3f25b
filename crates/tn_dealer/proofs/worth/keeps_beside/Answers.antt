-- What shows the clauses of `keeps_beside` of `src/worth.rt`.
use Rattle.tn_market.specs.OwnNumbers.{own_number}
use Rattle.tn_dealer.proofs.CertificateLemmas.{beside_more}
use Rattle.tn_dealer.proofs.worth.keeps_beside.Goals as goal

pub loop-sell-preserved : goal.loop-sell-preserved
loop-sell-preserved c =
    beside_more c.args.priced c.args.costs.now (own_number c.args.numbers.now) c.args.sales c.args.buy c.loop-sell.sell
    c.loop-sell.invariant (c.breaks.ensures c.if-breaks.false)
