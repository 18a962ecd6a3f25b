-- What shows the clauses of `add_halves` of `src/halves.rt`.
use Rattle.std.proofs.Common.{◌≡◌, ◌∙◌, arith, ap, suc, ◌+◌, take, ℕ}
use Rattle.tn_residual.specs.Residual.{sold_to, bought_from, halves_from}
use Rattle.tn_residual.proofs.MakingLemmas.{halves_from-next, two_more}
use Rattle.tn_residual.proofs.halves.add_halves.Goals as goal

pub loop-c-preserved : goal.loop-c-preserved
loop-c-preserved g c =
    let trades = c.args.market.now.trades in
    let contracts = c.args.outcome.now.contracts in
    let outside = c.args.firms + c.loop-c.c in
    let next : c.loop-c.c + 1 ≡ suc c.loop-c.c = omega arith in
    two_more c.loop-c.trades.items c.push.new.self.items c.push-in-loop-c.new.self.items c.sold_to.result
    c.bought_from.result
    (sold_to (c.args.firms + c.loop-c.c) c.ends-trade.result)
    (bought_from (c.args.firms + c.loop-c.c) c.ends-trade.result)
    c.args.trades.now.items (halves_from c.args.market.now.trades c.args.firms
    (take c.loop-c.c c.args.outcome.now.contracts)) (halves_from trades c.args.firms
    (take (c.loop-c.c + 1) contracts))
    c.in_ok-push.ensures.items c.in_ok-push-2.ensures.items c.loop-c.invariant c.sold_to.ensures c.bought_from.ensures
    (ap (λ (n : ℕ). halves_from trades c.args.firms (take n contracts)) next
    ∙ halves_from-next trades c.args.firms c.loop-c.c contracts c.at.result c.ends-trade.result c.at.ensures
    c.ends-trade.ensures)
