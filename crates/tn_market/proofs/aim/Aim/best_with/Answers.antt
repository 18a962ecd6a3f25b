-- What shows the clauses of `Aim::best_with` of `src/aim.rt`.
use Rattle.std.proofs.Common.{◌≡◌, ◌+◌, ℕ, sym, subst, ◌∙◌}
use Rattle.tn_base.specs.Sets.{minus}
use Rattle.tn_base.proofs.SetLemmas.{has_from_minus-zero}
use Rattle.tn_market.specs.declared.bundle_value.BundleValue.{BundleValue}
use Rattle.tn_market.specs.Ascent.{aimed, TriesOne, TriesOthers}
use Rattle.tn_market.proofs.AscentLemmas.{allowed_within, toggled_within, others_more, others_same}
use Rattle.tn_market.proofs.aim.Aim.best_with.Goals as goal
use Rattle.tn_market.proofs.aim.Aim.best_with.Goals.{then-has, else-has}

pub row-requires-clause-own : goal.row-requires-clause-own
row-requires-clause-own g c =
    allowed_within c.args.x.now.bundle c.args.self.now.allowed _ c.args.self.now.fits.own c.requires.within

pub row-requires-clause-own_wanted : goal.row-requires-clause-own_wanted
row-requires-clause-own_wanted g c =
    allowed_within c.args.others c.args.self.now.allowed _ c.args.self.now.fits.own c.requires.others

pub better-best-requires-clause-within : goal.better-best-requires-clause-within
better-best-requires-clause-within g c =
    let allowed = c.args.self.now.allowed in
    let member =
    has_from_minus-zero c.args.others allowed c.loop-k.k c.requires.others (sym c.has.ensures ∙ c.if-has.true) in
    subst (λ (y : ℕ). minus y allowed ≡ 0) (sym c.toggled.ensures.bundle)
    (toggled_within c.args.x.now.bundle allowed c.loop-k.k c.requires.within member)

pub loop-k-preserved : goal.loop-k-preserved
loop-k-preserved g c =
    let aim = c.args.self.now in
    let values = (aimed aim.allowed aim.scale aim.gains.now (g.V.Valuation.firm aim.firm.now)).worth in
    elim c.if-has.branch [
      | then-has w ↦
          let one = subst (λ (y : ℕ). TriesOne values y c.loop-k.best w.better-best.result) w.toggled.ensures.bundle
          w.better-best.ensures in
          subst (λ (best : BundleValue). TriesOthers values c.args.x.now.bundle c.args.others (c.loop-k.k + 1) c.args.best best)
          (sym w.best-is)
          (others_more values c.args.x.now.bundle c.args.others c.loop-k.k c.args.best c.loop-k.best w.better-best.result
          c.loop-k.invariant one)
      | else-has w ↦
          subst (λ (best : BundleValue). TriesOthers values c.args.x.now.bundle c.args.others (c.loop-k.k + 1) c.args.best best)
          (sym w.best-is)
          (others_same values c.args.x.now.bundle c.args.others c.loop-k.k c.args.best c.loop-k.best c.loop-k.invariant
          (sym c.has.ensures ∙ w.if-has.false))
    ]
