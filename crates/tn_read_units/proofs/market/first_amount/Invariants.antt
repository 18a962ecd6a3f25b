-- What the loops of `first_amount` of `src/market.rt` keep.
use Rattle.std.proofs.Common.{◌≡◌, drop}
use Rattle.tn_read_units.specs.Placed.{first_amount}
use Rattle.tn_read_units.proofs.market.first_amount.Given as goal

abbrev pub invariant-loop-amount : goal.invariant-loop-amount
invariant-loop-amount l = first_amount (drop l.amount-index l.amounts) l.t ≡ first_amount l.amounts l.t
