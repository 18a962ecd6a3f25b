-- What the loops of `TradeSet::union` of `src/trade_set.rt` keep.
use Rattle.tn_base.specs.Sets.{union}
use Rattle.tn_base.proofs.LimbLemmas.{AreDone}
use Rattle.tn_base.proofs.trade_set.TradeSet.union.Given as goal

abbrev pub invariant-loop-k : goal.invariant-loop-k
invariant-loop-k g l = AreDone union l.initial.limb-items l.other-inside.limbs l.limb-items l.k
