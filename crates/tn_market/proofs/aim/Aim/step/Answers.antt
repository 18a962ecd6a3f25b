-- What shows the clauses of `Aim::step` of `src/aim.rt`.
use Rattle.std.proofs.Common.{◌≡◌, ◌+◌, ◌*◌, ◌<◌, ◌≤◌, ℕ, arith, sym, subst, ◌∙◌}
use Rattle.tn_base.specs.Sets.{minus}
use Rattle.tn_base.proofs.SizeLemmas.{size_le}
use Rattle.tn_market.specs.declared.bundle_value.BundleValue.{BundleValue}
use Rattle.tn_market.specs.Ascent.{aimed, TriesOne, TriesOthers, TriesNearby}
use Rattle.tn_market.proofs.AscentLemmas.{allowed_within, toggled_within, earlier_none, earlier_more, earlier_same, earlier_within, none_tried, beside_tried, beside_outside, position_tried, one_row_more}
use Rattle.tn_market.proofs.aim.Aim.step.Goals as goal
use Rattle.tn_market.proofs.aim.Aim.step.Goals.{then-has, else-has}

pub row-requires-clause-own : goal.row-requires-clause-own
row-requires-clause-own g c =
    allowed_within c.args.from.now.bundle c.args.self.now.allowed _ c.args.self.now.fits.own c.requires.within

pub loop-i-init : goal.loop-i-init
loop-i-init g c =
    let aim = c.args.self.now in
    record {
      tried = none_tried (aimed aim.allowed aim.scale aim.gains.now (g.V.Valuation.firm aim.firm.now)).worth
          c.args.from.now.bundle c.args.from.now;
      earlier = c.empty-earlier.ensures ∙ earlier_none aim.allowed;
      asked = omega arith;
    }

pub better-best-requires-clause-within : goal.better-best-requires-clause-within
better-best-requires-clause-within g c =
    let allowed = c.args.self.now.allowed in
    subst (λ (y : ℕ). minus y allowed ≡ 0) (sym c.toggled-toggled.ensures.bundle)
    (toggled_within c.args.from.now.bundle allowed c.loop-i.i c.requires.within (sym c.has.ensures ∙ c.if-has.true))

pub best_with-best-requires-clause-within : goal.best_with-best-requires-clause-within
best_with-best-requires-clause-within g c =
    let allowed = c.args.self.now.allowed in
    subst (λ (y : ℕ). minus y allowed ≡ 0) (sym c.toggled-toggled.ensures.bundle)
    (toggled_within c.args.from.now.bundle allowed c.loop-i.i c.requires.within (sym c.has.ensures ∙ c.if-has.true))

pub best_with-best-requires-clause-others : goal.best_with-best-requires-clause-others
best_with-best-requires-clause-others g c =
    earlier_within c.args.self.now.allowed c.loop-i.i c.loop-i.earlier c.loop-i.invariant.earlier

pub loop-i-preserved : goal.loop-i-preserved
loop-i-preserved g c =
    let aim = c.args.self.now in
    let firm = g.V.Valuation.firm aim.firm.now in
    let values = (aimed aim.allowed aim.scale aim.gains.now firm).worth in
    let from = c.args.from.now in
    let count = c.trades-i-end.ensures.count in
    let below = c.loop-i-test.true in
    let inside : c.loop-i.i < firm.count = omega (arith, count, below) in
    elim c.if-has.branch [
      | then-has w ↦
          let one = subst (λ (y : ℕ). TriesOne values y c.loop-i.best w.better-best.result) w.toggled-toggled.ensures.bundle
          w.better-best.ensures in
          let pairs = subst (λ (y : ℕ). TriesOthers values y c.loop-i.earlier firm.count w.better-best.result
          w.best_with-best.result) w.toggled-toggled.ensures.bundle w.best_with-best.ensures.tried in
          let beside =
          beside_tried aim.allowed aim.scale aim.gains.now firm from.bundle c.loop-i.i c.loop-i.earlier firm.count
          c.loop-i.best w.better-best.result w.best_with-best.result
          c.requires.within inside c.loop-i.invariant.earlier one pairs in
          record {
            tried = subst (λ (best : BundleValue). TriesNearby values from.bundle (c.loop-i.i + 1) from best)
                (sym w.best-is)
                (position_tried values from.bundle c.loop-i.i from c.loop-i.best w.best_with-best.result
                c.loop-i.invariant.tried beside);
            earlier = w.earlier-is ∙ w.toggle-earlier.ensures ∙ earlier_more aim.allowed c.loop-i.i c.loop-i.earlier
                c.loop-i.invariant.earlier (sym c.has.ensures ∙ w.if-has.true);
            asked =
                let few = size_le firm.count c.loop-i.earlier (allowed_within c.loop-i.earlier aim.allowed firm.count
                aim.fits.own (earlier_within aim.allowed c.loop-i.i c.loop-i.earlier c.loop-i.invariant.earlier)) in
                let more = one_row_more c.loop-i.i firm.count in
                omega (arith, w.steps-is, w.best_with-best.ensures.asked, c.loop-i.invariant.asked, few, more);
          }
      | else-has w ↦
          let absent = sym c.has.ensures ∙ w.if-has.false in
          let beside =
          beside_outside aim.allowed aim.scale aim.gains.now firm from.bundle c.loop-i.i c.loop-i.best
          c.requires.within absent in
          record {
            tried = subst (λ (best : BundleValue). TriesNearby values from.bundle (c.loop-i.i + 1) from best)
                (sym w.best-is)
                (position_tried values from.bundle c.loop-i.i from c.loop-i.best c.loop-i.best c.loop-i.invariant.tried
                beside);
            earlier = w.earlier-is ∙ earlier_same aim.allowed c.loop-i.i c.loop-i.earlier c.loop-i.invariant.earlier
                absent;
            asked =
                let more = one_row_more c.loop-i.i firm.count in
                omega (arith, w.steps-is, c.loop-i.invariant.asked, more);
          }
    ]

pub returns-clause-asked : goal.returns-clause-asked
returns-clause-asked g c =
    let aim = c.args.self.now in
    let firm = g.V.Valuation.firm aim.firm.now in
    let few = size_le firm.count aim.allowed aim.fits.own in
    let count = c.trades-i-end.ensures.count in
    let past = c.loop-i-test.false in
    let end = c.loop-i.auto.i-end in
    let all : c.loop-i.i ≡ firm.count = omega (arith, count, past, end) in
    let rows = subst (λ (i : ℕ). c.loop-i.steps ≤ c.row.new.steps + i * firm.count) all c.loop-i.invariant.asked in
    omega (arith, rows, few, c.row.ensures.asked)
