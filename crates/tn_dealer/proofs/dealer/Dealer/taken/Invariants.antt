-- What the loops of `Dealer::taken` of `src/worth.rt` keep.
use Rattle.std.proofs.Common.{◌*◌}
use Rattle.std.specs.Prelude.{neg_ℤ}
use Rattle.tn_base.specs.Arcs.{IsAtMost}
use Rattle.tn_dealer.specs.Pairs.{matched_worth}
use Rattle.tn_firm_laws.specs.Worths.{IsWorth}
use Rattle.tn_dealer.proofs.dealer.Dealer.taken.Given as goal
use Rattle.tn_base.specs.Widths.{most_amount}

abbrev pub invariant-loop-k : goal.invariant-loop-k
invariant-loop-k l = record {
  worth : IsWorth (matched_worth l.self.pairs.items) l.bundle (neg_ℤ l.cost);
  small : IsAtMost l.cost (l.k * most_amount);
}
