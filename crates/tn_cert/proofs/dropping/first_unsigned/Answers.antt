-- What shows the clauses of `first_unsigned` of `src/dropping.rt`.
use Rattle.std.proofs.Common.{◌≡◌, subst, arith}
use Rattle.tn_cert.proofs.KeptLemmas.{FindsOpen, finds_unsigned}
use Rattle.tn_cert.proofs.dropping.first_unsigned.Goals as goal

pub returns : goal.returns
returns g c =
    let done : c.loop-k.k ≡ (g.V.Valuation.firm c.firm.result.now).count =
    omega (arith, c.loop-k-test.false, c.loop-k.auto.k-end, c.trades-k-end.ensures.count) in
    finds_unsigned c.args.market.now.trades c.args.outcome.now c.args.f c.args.keeps
    (g.V.Valuation.firm c.firm.result.now).count c.loop-k.first
    (c.requires.own c.firm.result.now c.firm.ensures)
    (subst (λ (n : _). FindsOpen n c.args.market.now.trades c.args.outcome.now.contracts c.args.f c.args.keeps
    c.loop-k.first) done c.loop-k.invariant)
