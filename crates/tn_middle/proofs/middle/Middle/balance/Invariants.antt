-- What the loops of `Middle::balance` of `src/middle.rt` keep.
use Rattle.std.proofs.Common.{◌≡◌, ◌*◌}
use Rattle.tn_base.specs.Arcs.{IsAtMost}
use Rattle.tn_base.specs.Sets.{sum_over}
use Rattle.tn_base.specs.Firm.{payments}
use Rattle.tn_market.specs.OwnNumbers.{own_number}
use Rattle.tn_middle.proofs.middle.Middle.balance.Given as goal
use Rattle.tn_base.specs.Widths.{most_amount}

abbrev pub invariant-loop-k : goal.invariant-loop-k
invariant-loop-k l = record {
  sum : l.total ≡ sum_over (payments l.self.buys (own_number l.self.numbers.items)) l.k l.x;
  small : IsAtMost l.total (l.k * most_amount);
}
