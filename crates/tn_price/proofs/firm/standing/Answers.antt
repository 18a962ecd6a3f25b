-- What shows the clauses of `standing` of `src/firm.rt`.
use Rattle.std.proofs.Common.{◌≡◌, ◌∙◌, sym, subst, ℤ, Option, Some, arith}
use Rattle.std.specs.Option.{IfSome}
use Rattle.std.proofs.lemmas.Bool.{eqb-true, eq-eqb, true≢false}
use Rattle.std.proofs.lemmas.Int.{ints, to_z-of_z}
use mir.Syntax.{w128}
use mir.Val.{SFits}
use Rattle.tn_base.specs.Arcs.{IsAtMost}
use Rattle.tn_base.specs.Firm.{utility, IsBest}
use Rattle.tn_model.specs.Prices.{price_at}
use Rattle.tn_market.specs.Widths.{most_utility, most_worth}
use Rattle.tn_market.proofs.AscentLemmas.{smaller}
use Rattle.tn_market.proofs.AskLemmas.{as_is}
use Rattle.tn_price.specs.Standings.{IsBestWorth, IsBettered}
use Rattle.tn_price.proofs.JudgeLemmas.{best_worth, bettered, gain_is}
use Rattle.tn_price.proofs.firm.standing.Goals as goal

pub returns-then-eq : goal.returns-then-eq
returns-then-eq g c =
    let firm = g.V.Valuation.firm c.args.firm.now in
    let fits : SFits w128 c.args.scale = c.ranges.scale in
    let value_of = utility c.args.scale (price_at c.args.prices.now) firm in
    let best = subst (λ (scale : ℤ). IsBest (utility scale (price_at c.args.prices.now) firm)
    c.greatest_from-bundle.result.0 c.greatest_from-bundle.result.1)
    (to_z-of_z w128 c.args.scale fits) c.greatest_from-bundle.ensures.best in
    let worth_is = sym c.in-Some.ensures in
    let small = smaller c.in-Some.worth (g.V.Valuation.limit c.args.firm.now) most_worth c.requires.small_worths
    ((g.met.V.Valuation.lawful c.args.firm.now).within c.args.own c.in-Some.worth worth_is) in
    let plain = as_is c.in-Some.worth (smaller c.in-Some.worth most_worth most_utility (omega arith) small) in
    subst (λ (z : ℤ). IsBestWorth firm.worth value_of c.args.own z) (sym plain)
    (best_worth firm.worth value_of c.args.own c.greatest_from-bundle.result.0 c.in-Some.worth
    c.greatest_from-bundle.result.1 worth_is small best
    (eqb-true c.greatest_from-bundle.result.0 c.args.own (sym c.eq.ensures ∙ c.if-eq.true)))

pub overflow_sub-result : goal.overflow_sub-result
overflow_sub-result g c =
    let most = c.greatest_from-bundle.ensures.small in
    let value = subst (λ (o : Option ℤ). IfSome o (λ v. IsAtMost v most_utility)) c.unwrap-value.ensures
    c.utility_of.ensures.small in
    omega (arith, ints, most.low, most.high, value.low, value.high)

pub returns : goal.returns
returns g c =
    let firm = g.V.Valuation.firm c.args.firm.now in
    let fits : SFits w128 c.args.scale = c.ranges.scale in
    let plain_scale = to_z-of_z w128 c.args.scale fits in
    let value_of = utility c.args.scale (price_at c.args.prices.now) firm in
    let best = subst (λ (scale : ℤ). IsBest (utility scale (price_at c.args.prices.now) firm)
    c.greatest_from-bundle.result.0 c.greatest_from-bundle.result.1)
    plain_scale c.greatest_from-bundle.ensures.best in
    let kept = subst (λ (scale : ℤ). (value : ℤ)
    → IsBest (utility scale (price_at c.args.prices.now) firm) c.args.own value
    → c.greatest_from-bundle.result.0 ≡ c.args.own)
    plain_scale c.greatest_from-bundle.ensures.kept in
    let own_is =
    subst (λ (scale : ℤ). utility scale (price_at c.args.prices.now) firm c.args.own ≡ Some c.unwrap-value.result)
    plain_scale (sym c.utility_of.ensures.value ∙ c.unwrap-value.ensures) in
    let value_small =
    subst (λ (o : Option ℤ). IfSome o (λ v. IsAtMost v most_utility)) c.unwrap-value.ensures
    c.utility_of.ensures.small in
    subst (IsBettered value_of c.args.own c.greatest_from-bundle.result.0)
    (sym (gain_is c.greatest_from-bundle.result.1 c.unwrap-value.result c.greatest_from-bundle.ensures.small
    value_small))
    (bettered value_of c.args.own c.greatest_from-bundle.result.0 c.unwrap-value.result c.greatest_from-bundle.result.1
    own_is best kept
    (λ same. true≢false (sym (eq-eqb c.greatest_from-bundle.result.0 c.args.own same) ∙ sym c.eq.ensures
    ∙ c.if-eq.false)))
