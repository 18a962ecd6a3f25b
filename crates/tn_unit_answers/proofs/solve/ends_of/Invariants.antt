-- The ends so far.
use Rattle.std.proofs.Common.{◌≡◌, map, take}
use Rattle.tn_unit_answers.specs.Solve.{unit_ends}
use Rattle.tn_unit_answers.proofs.solve.ends_of.Given as goal

abbrev pub invariant-loop-trade : goal.invariant-loop-trade
invariant-loop-trade l = l.list.items ≡ map unit_ends (take l.trade-index l.trades)
