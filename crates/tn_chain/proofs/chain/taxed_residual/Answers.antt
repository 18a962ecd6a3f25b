-- What shows the clauses of `taxed_residual` of `src/chain.rt`.
use Rattle.std.proofs.Common.{rules, ◌∙◌, ℕ, ℤ, pos, map, length, arith, sym, ap, subst, ◌*ℤ◌, ◌≤ℤ◌}
use Rattle.std.proofs.lemmas.Int.{to_z-of_z}
use Rattle.std.proofs.lemmas.List.{length-map}
use mir.Syntax.{w128}
use mir.Val.{SFits, to_z, of_z}
use Rattle.tn_market.specs.Parties.{party_firm, party_limit}
use Rattle.tn_model.specs.Limits.{most_claimed_over}
use Rattle.tn_chain.specs.Search.{chain_scale}
use Rattle.tn_chain.proofs.SizeLemmas.{scale_small, is_residual}
use Rattle.tn_chain.proofs.ChainLemmas.{three_ok}
use Rattle.tn_chain.proofs.chain.taxed_residual.Goals as goal

pub residual-requires-clause-small_scale : goal.residual-requires-clause-small_scale
residual-requires-clause-small_scale g c =
    let fits : SFits w128 c.chain_scale-scale.result = search rules in
    let count = c.trades.ensures.count in
    let few = c.requires.few in
    subst (λ (s : ℤ). (c.args.outcome.now.over *ℤ s) ≤ℤ pos most_claimed_over)
    (sym (to_z-of_z w128 c.chain_scale-scale.result fits ∙ c.chain_scale-scale.ensures))
    (scale_small c.args.outcome.now.over c.trades.result c.args.outcome.now.contracts (omega (arith, count, few))
    c.requires.outcome.least c.requires.outcome.most)

pub returns : goal.returns
returns g c =
    let fits : SFits w128 c.chain_scale-scale.result = search rules in
    let scale = to_z-of_z w128 c.chain_scale-scale.result fits ∙ c.chain_scale-scale.ensures
    ∙ ap (λ (n : ℕ). chain_scale n c.args.outcome.now.contracts) c.trades.ensures.count in
    three_ok _ _ _ _ c.residual.result
    (is_residual (party_firm g.V.Valuation) (party_limit g.V.Valuation) (map g.V.Valuation.firm c.args.market.now.firms)
    (length c.args.market.now.firms) c.args.market.now.trades
    c.args.outcome.now.over c.args.outcome.now.contracts (to_z w128 (of_z w128 c.chain_scale-scale.result))
    (sym (length-map c.args.market.now.firms g.V.Valuation.firm)) c.requires.few
    c.requires.outcome scale) c.residual.ensures.firms c.residual.ensures.trades c.residual.ensures.limits
