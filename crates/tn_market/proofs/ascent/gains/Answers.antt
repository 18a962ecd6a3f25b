-- What shows the clauses of `gains` of `src/ascent.rt`.
use Rattle.std.proofs.Common.{arith, rules, refl, ap₂, get_or, ◌∙◌, ◌+ℤ◌, pos, if◌then◌else◌, Bool, ◌*◌}
use Rattle.std.proofs.lemmas.Int.{ints, to_z-of_z}
use Rattle.std.proofs.lemmas.List.Elements.{All-replicate}
use mir.Syntax.{w128}
use mir.Val.{SFits}
use Rattle.tn_base.specs.Arcs.{IsAtMost}
use Rattle.tn_base.specs.declared.side.Side.{Side}
use Rattle.tn_model.specs.Prices.{price_at}
use Rattle.tn_market.specs.Ascent.{payment_of}
use Rattle.tn_market.proofs.BonusLemmas.{none_listed, one_listed}
use Rattle.tn_market.proofs.ascent.gains.Goals as goal
use Rattle.tn_market.specs.Widths.{most_utility, most_own}

pub loop-k-init : goal.loop-k-init
loop-k-init g c =
    none_listed (g.V.Valuation.firm c.args.firm.now).buys c.args.need c.args.prices.now _ refl
    (All-replicate (λ z. IsAtMost z (2 * most_utility)) most_own (pos 0) (record {
      low = omega (arith, ints);
      high =
          omega (arith, ints);
    }))

pub loop-k-preserved : goal.loop-k-preserved
loop-k-preserved g c =
    let gain : SFits w128 c.gain.result = search rules in
    let price : SFits w128 (get_or c.args.prices.now c.loop-k.k (pos 0)) = search rules in
    let value = simp to_z-of_z at c.gain.ensures.value in
    let few = c.requires.few in
    let count = c.trades-k-end.ensures.count in
    let inside = c.loop-k-test.true in
    let is = value ∙ ap₂ (λ (side : Side) (wanted : Bool). payment_of side (price_at c.args.prices.now c.loop-k.k)
    +ℤ (if wanted then pos most_utility else pos 0))
    c.side.ensures c.has.ensures in
    simp to_z-of_z (one_listed (g.V.Valuation.firm c.args.firm.now).buys c.args.need c.args.prices.now c.loop-k.gains
    c.loop-k.k c.gain.result c.loop-k.invariant
    (omega (arith, few, count, inside)) is c.gain.ensures.small)
