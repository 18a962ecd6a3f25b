-- What the loops of `Aim::step` of `src/aim.rt` keep.
use Rattle.std.proofs.Common.{◌≡◌, ◌+◌, ◌*◌, ◌≤◌}
use Rattle.tn_base.specs.Sets.{has, set_of}
use Rattle.tn_market.specs.Ascent.{aimed, TriesNearby}
use Rattle.tn_market.proofs.aim.Aim.step.Given as goal

abbrev pub invariant-loop-i : goal.invariant-loop-i
invariant-loop-i g l = record {
  tried : TriesNearby (aimed l.self.allowed l.self.scale l.self.gains.now (g.V.Valuation.firm l.self.firm.now)).worth
      l.from.bundle l.i l.from l.best;
  earlier : l.earlier ≡ set_of (has l.self.allowed) l.i;
  asked : l.steps ≤ l.initial.steps + l.i * (g.V.Valuation.firm l.self.firm.now).count;
}
