-- What the loops of `firms` of `src/firms.rt` keep.
use Rattle.std.proofs.Common.{◌≡◌, map}
use Rattle.std.specs.List.{range_with_len}
use Rattle.tn_firm.specs.Firms.{firm_of}
use Rattle.tn_drill.specs.Drill.{firm_in}
use Rattle.tn_drill.proofs.firms.firms.Given as goal

abbrev pub invariant-loop-f : goal.invariant-loop-f
invariant-loop-f l = map firm_of l.firms.items ≡ map (firm_in l.trades l.draws) (range_with_len 0 l.f)
