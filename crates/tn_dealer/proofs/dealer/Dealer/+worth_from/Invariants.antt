-- What the loops of `Dealer::+worth_from` of `src/worth.rt` keep.
use Rattle.std.proofs.Common.{◌-◌, length}
use Rattle.tn_dealer.proofs.dealer.Dealer.+worth_from.Given as goal

abbrev pub decreases-worth_from : goal.decreases-worth_from
decreases-worth_from l = length l.self.now.pairs.items - l.from
