-- What the loops of `Aim::climb` of `src/aim.rt` keep.
use Rattle.std.proofs.Common.{◌^◌, pos, ◌-ℤ◌}
use borrow.Author.Differences.{up}
use Rattle.tn_market.specs.Ascent.{AsksFew, aimed, IsValued, StaysAt}
use Rattle.tn_market.proofs.aim.Aim.climb.Given as goal

abbrev pub invariant-loop-found : goal.invariant-loop-found
invariant-loop-found g l = record {
  valued : IsValued (aimed l.self.allowed l.self.scale l.self.gains.now (g.V.Valuation.firm l.self.firm.now)).worth
      l.found;
  kept : StaysAt (aimed l.self.allowed l.self.scale l.self.gains.now (g.V.Valuation.firm l.self.firm.now)).worth
      l.fn.from l.found.bundle;
  asked : AsksFew (aimed l.self.allowed l.self.scale l.self.gains.now (g.V.Valuation.firm l.self.firm.now)).worth
      l.fn.from 1 l.fn.steps l.steps;
}

abbrev pub decreases-loop-found : goal.decreases-loop-found
decreases-loop-found g l = up (pos (2 ^ 127) -ℤ l.found.value)
