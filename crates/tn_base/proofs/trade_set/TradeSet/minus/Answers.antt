-- What shows the clauses of `TradeSet::minus` of `src/trade_set.rt`.
use Rattle.std.proofs.Common.{◌∙◌, ap₂, arith}
use Rattle.tn_base.specs.Sets.{minus}
use Rattle.tn_base.proofs.LimbLemmas.{one_done, minus_done, joined_within}
use Rattle.tn_base.proofs.trade_set.TradeSet.minus.Goals as goal

pub loop-k-preserved : goal.loop-k-preserved
unfolding minus
loop-k-preserved g c =
    one_done minus c.self.inside.limbs c.other.inside.limbs c.loop-k.limb-items c.loop-k.k c.loop-k.invariant
    (omega (arith, c.self.told, c.loop-k-test.true))

pub invariant_of-result : goal.invariant_of-result
invariant_of-result g c = (
  c.self.invariant.0,
  (minus_done g.row.W _ _ _ _ c.self.invariant.1 c.other.invariant.1 c.loop-k.invariant c.loop-k-test.false).0,
)

pub returns-clause-members : goal.returns-clause-members
returns-clause-members g c =
    (minus_done g.row.W _ _ _ _ c.self.invariant.1 c.other.invariant.1 c.loop-k.invariant c.loop-k-test.false).1
    ∙ ap₂ minus c.self.view_is c.other.view_is

pub returns-clause-within : goal.returns-clause-within
returns-clause-within g c =
    joined_within g.row.W _ (minus_done g.row.W _ _ _ _ c.self.invariant.1 c.other.invariant.1 c.loop-k.invariant
    c.loop-k-test.false).0
