-- What shows the clauses of `listed_trades` of `src/cycle.rt`.
use Rattle.std.proofs.Common.{◌≡◌, ℕ, arith, subst}
use Rattle.tn_chain.specs.Listed.{HasNodes}
use Rattle.tn_chain.proofs.CycleLemmas.{no_nodes, one_node}
use Rattle.tn_chain.proofs.cycle.listed_trades.Goals as goal

pub loop-k-init : goal.loop-k-init
loop-k-init c = no_nodes c.args.null c.args.finder.now.listed c.empty-trades.result c.empty-trades.ensures

pub loop-k-preserved : goal.loop-k-preserved
loop-k-preserved c =
    one_node c.args.null c.args.finder.now.listed c.loop-k.k c.at.result c.loop-k.trades c.toggle_trade.new.set
    c.requires.different c.loop-k.invariant c.at.ensures c.toggle_trade.ensures

pub returns : goal.returns
returns c =
    let test = c.loop-k-test.false in
    let end = c.loop-k.auto.k-end in
    let done : c.loop-k.k ≡ c.args.count = omega (arith, test, end) in
    subst (λ (n : ℕ). HasNodes c.args.null c.args.finder.now.listed n c.loop-k.trades) done c.loop-k.invariant
