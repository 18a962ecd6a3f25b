-- What shows the clauses of `TradeSet::count` of `src/trade_set.rt`.
use Rattle.std.proofs.Common.{◌≡◌, length, ap, ◌∙◌, arith}
use Rattle.tn_base.specs.Sets.{size}
use Rattle.tn_base.proofs.LimbLemmas.{none_counted, one_counted, all_counted, size-joined}
use Rattle.std.proofs.lemmas.Nat.{ones-le}
use Rattle.tn_base.proofs.trade_set.TradeSet.count.Goals as goal

pub loop-limb-init : goal.loop-limb-init
loop-limb-init g c = none_counted c.self.inside.limbs

pub loop-limb-preserved : goal.loop-limb-preserved
loop-limb-preserved g c =
    one_counted c.self.inside.limbs c.loop-limb.limb-index c.loop-limb.count c.self.invariant.1.words
    (omega (arith, c.self.told, c.loop-limb-test.true)) c.loop-limb.invariant

pub overflow_add-count : goal.overflow_add-count
overflow_add-count g c =
    let few = ones-le 64 _ (c.self.invariant.1.words c.loop-limb.limb-index) in
    omega (arith, few, c.loop-limb.invariant.few, c.self.invariant.0, c.loop-limb-test.true)

pub returns-clause-members : goal.returns-clause-members
returns-clause-members g c =
    let all : c.loop-limb.limb-index ≡ length c.self.inside.limbs =
    omega (arith, c.self.told, c.loop-limb-test.false, c.loop-limb.auto.limb-index-end) in
    all_counted c.self.inside.limbs c.loop-limb.limb-index c.loop-limb.count c.loop-limb.invariant all
    ∙ size-joined g.row.W c.self.inside.limbs c.self.invariant.1 ∙ ap size c.self.view_is

pub returns-clause-few : goal.returns-clause-few
returns-clause-few g c = omega (
  arith,
  c.loop-limb.invariant.few,
  c.loop-limb-test.false,
  c.loop-limb.auto.limb-index-end,
)
