-- What the loops of `keeps_beside` of `src/worth.rt` keep.
use Rattle.tn_dealer.specs.Certificates.{KeepsBeside}
use Rattle.tn_market.specs.OwnNumbers.{own_number}
use Rattle.tn_dealer.proofs.worth.keeps_beside.Given as goal

abbrev pub invariant-loop-sell : goal.invariant-loop-sell
invariant-loop-sell l = KeepsBeside l.priced l.costs (own_number l.numbers) l.sales l.buy l.sell
