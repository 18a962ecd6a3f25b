-- What the loops of `holding` of `src/checks.rt` keep.
use Rattle.std.proofs.Common.{◌≡◌, ◌≤◌, take}
use Rattle.tn_read_units.specs.Checks.{holding}
use Rattle.tn_read_units.proofs.checks.holding.Given as goal

abbrev pub invariant-loop-set : goal.invariant-loop-set
invariant-loop-set l = record {
  counted : l.count ≡ holding (take l.set-index l.sets) l.t;
  few : l.count ≤ l.set-index;
}
