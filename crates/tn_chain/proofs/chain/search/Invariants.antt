-- What the loops of `search` of `src/chain.rt` keep.
use Rattle.std.proofs.Common.{◌≡◌, ◌+◌, map, length}
use Rattle.tn_base.specs.Sets.{size}
use Rattle.tn_chain.specs.Search.{HasCycle}
use Rattle.tn_chain.proofs.chain.search.Given as goal

abbrev pub invariant-loop-on : goal.invariant-loop-on
invariant-loop-on g l = record {
  has_cycle : HasCycle (map g.V.Valuation.firm l.market.firms) l.market.trades l.outcome.over l.outcome.contracts
      l.left;
  finder_sized : l.finder.nodes ≡ length l.market.trades + 1;
  solver_sized : length l.solver.prices ≡ length l.residual.trades;
}

-- how many trades are left
abbrev pub decreases-loop-on : goal.decreases-loop-on
decreases-loop-on g l = size l.left
