-- What shows the clauses of `reduced_best_beside` of `src/worth.rt`.
use Rattle.std.proofs.Common.{rules, refl, option_map, ◌∙◌, ap, sym, subst, take, ◌^◌, ◌<◌, ℕ, ℤ}
use Rattle.std.proofs.lemmas.Int.{to_z-of_z}
use mir.Syntax.{w128}
use mir.Val.{SFits}
use Rattle.tn_base.specs.Sets.{meet}
use Rattle.tn_base.specs.Firm.{utility}
use Rattle.tn_base.proofs.SetLemmas.{union_within, set_of_within}
use Rattle.tn_market.specs.Best.{GivesBest}
use Rattle.tn_model.specs.Prices.{price_at}
use Rattle.tn_market.specs.Signed.{signed_bundle, contract_utility}
use Rattle.tn_residual.specs.Held.{GivesPart}
use Rattle.tn_outcome_laws.proofs.ReducedLemmas.{reduced_worths_are_greatest}
use Rattle.tn_residual.proofs.HeldLemmas.{best_at_held, part_of_best, same_utility}
use Rattle.tn_residual.proofs.worth.reduced_best_beside.Goals as goal

pub best-requires-clause-apart : goal.best-requires-clause-apart
best-requires-clause-apart g c =
    let holds = c.requires.held c.firm-firm.result.now c.firm-firm.ensures in
    ap (meet c.args.x) holds.bundle ∙ c.requires.unsigned c.firm-firm.result.now c.firm-firm.ensures

pub best-requires-clause-own : goal.best-requires-clause-own
best-requires-clause-own g c =
    let firm = g.V.Valuation.firm c.firm-firm.result.now in
    let holds = c.requires.held c.firm-firm.result.now c.firm-firm.ensures in
    let within : c.args.held.now.signed < 2 ^ (g.V.Valuation.firm c.firm-firm.result.now).count =
    subst (λ (x : ℕ). x < 2 ^ (g.V.Valuation.firm c.firm-firm.result.now).count) (sym holds.bundle)
    (set_of_within _ firm.count) in
    union_within c.args.x c.args.held.now.signed firm.count
    (c.requires.own c.firm-firm.result.now c.firm-firm.ensures) within

pub returns-clause-part : goal.returns-clause-part
returns-clause-part g c = λ v is.
    let fits : SFits w128 c.args.outcome.now.over = search rules in
    let holds = c.requires.held c.firm-firm.result.now c.firm-firm.ensures in
    let best = subst (λ (scale : ℤ). GivesBest c.args.x c.args.held.now.signed
    (utility scale (price_at (take c.trades.result c.args.held.now.prices))
    (g.V.Valuation.firm c.firm-firm.result.now)) c.best.result)
    (to_z-of_z w128 c.args.outcome.now.over fits) c.best.ensures in
    let given = signed_bundle c.args.market.now.trades c.args.outcome.now.contracts c.args.firm (g.V.Valuation.firm v)
    in
    let value_of =
    contract_utility c.args.market.now.trades c.args.outcome.now.over c.args.outcome.now.contracts c.args.firm
    (g.V.Valuation.firm v) in
    subst (GivesPart c.args.x given value_of) (sym c.without.ensures)
    (part_of_best c.args.x given value_of c.best.result
    (best_at_held g.V.Valuation.firm c.args.market.now.firms c.args.market.now.trades c.args.outcome.now.over
    c.args.outcome.now.contracts c.args.firm c.trades.result
    c.args.held.now.signed c.args.x c.args.held.now.prices c.best.result c.firm-firm.result.now
    c.firm-firm.ensures c.trades.ensures.count
    (c.requires.limits.few_own c.args.firm c.firm-firm.result.now c.firm-firm.ensures) holds best v is))

pub returns-clause-worth : goal.returns-clause-worth
returns-clause-worth g c = λ v is.
    let fits : SFits w128 c.args.outcome.now.over = search rules in
    let holds = c.requires.held c.firm-firm.result.now c.firm-firm.ensures in
    let best = subst (λ (scale : ℤ). GivesBest c.args.x c.args.held.now.signed
    (utility scale (price_at (take c.trades.result c.args.held.now.prices))
    (g.V.Valuation.firm c.firm-firm.result.now)) c.best.result)
    (to_z-of_z w128 c.args.outcome.now.over fits) c.best.ensures in
    let found = best_at_held g.V.Valuation.firm c.args.market.now.firms c.args.market.now.trades c.args.outcome.now.over
    c.args.outcome.now.contracts c.args.firm c.trades.result
    c.args.held.now.signed c.args.x c.args.held.now.prices c.best.result c.firm-firm.result.now
    c.firm-firm.ensures c.trades.ensures.count
    (c.requires.limits.few_own c.args.firm c.firm-firm.result.now c.firm-firm.ensures) holds best v is in
    ap (option_map (λ (p : ℕ × ℤ). p.1)) c.without.ensures ∙ same_utility c.args.x c.best.result
    ∙ sym ((reduced_worths_are_greatest c.args.market.now.trades c.args.outcome.now.over c.args.outcome.now.contracts
    c.args.firm (g.V.Valuation.firm v) c.args.x
    (option_map (λ found. found.1) c.best.result) (g.met.V.Valuation.lawful v).own_bundles (c.requires.unsigned v is)).1
    (c.best.result, found, refl))
