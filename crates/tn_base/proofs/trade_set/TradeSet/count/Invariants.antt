-- What the loops of `TradeSet::count` of `src/trade_set.rt` keep.
use Rattle.tn_base.proofs.LimbLemmas.{AreCounted}
use Rattle.tn_base.proofs.trade_set.TradeSet.count.Given as goal

abbrev pub invariant-loop-limb : goal.invariant-loop-limb
invariant-loop-limb g l = AreCounted l.limb-items l.limb-index l.count
