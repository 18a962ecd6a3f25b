-- What shows the clauses of `first_amount` of `src/market.rt`.
use Rattle.std.proofs.Common.{arith, pos, rules}
use Rattle.std.proofs.lemmas.Int.{to_z-of_z}
use Rattle.tn_base.specs.declared.side.Side.TheVariants.{Buy}
use Rattle.tn_read_units.specs.Placed.{first_amount}
use Rattle.tn_read_units.specs.declared.amounts.Amount.{Amount}
use Rattle.tn_read_units.proofs.LoopLemmas.{amount_here}
use Rattle.tn_read_units.proofs.market.first_amount.Goals as goal

pub returns-then-amount-t : goal.returns-then-amount-t
returns-then-amount-t c =
    let none : Amount = record { trade = 0; side = Buy; number = pos 0 } in
    let here = amount_here c.args.amounts.now c.args.t c.loop-amount.amount-index none
    (first_amount c.args.amounts.now c.args.t) c.loop-amount-test.true c.if-amount-t.true c.loop-amount.invariant in
    first_of (search (rules, here), grind (arith, to_z-of_z, here))
