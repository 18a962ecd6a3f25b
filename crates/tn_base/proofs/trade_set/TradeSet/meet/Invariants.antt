-- What the loops of `TradeSet::meet` of `src/trade_set.rt` keep.
use Rattle.tn_base.specs.Sets.{meet}
use Rattle.tn_base.proofs.LimbLemmas.{AreDone}
use Rattle.tn_base.proofs.trade_set.TradeSet.meet.Given as goal

abbrev pub invariant-loop-k : goal.invariant-loop-k
invariant-loop-k g l = AreDone meet l.initial.limb-items l.other-inside.limbs l.limb-items l.k
