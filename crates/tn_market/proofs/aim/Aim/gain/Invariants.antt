-- What the loops of `Aim::gain` of `src/aim.rt` keep.
use Rattle.std.proofs.Common.{◌≡◌, ◌*◌}
use Rattle.tn_base.specs.Arcs.{IsAtMost}
use Rattle.tn_base.specs.Sets.{sum_over}
use Rattle.tn_model.specs.Prices.{price_at}
use Rattle.tn_market.proofs.aim.Aim.gain.Given as goal
use Rattle.tn_market.specs.Widths.{most_utility}

abbrev pub invariant-loop-k : goal.invariant-loop-k
invariant-loop-k g l = record {
  sum : l.total ≡ sum_over (price_at l.self.gains.now) l.k l.x;
  small : IsAtMost l.total (l.k * (2 * most_utility));
}
