-- What shows the clauses of `blocking_over` of `src/judging.rt`.
use Rattle.std.proofs.Common.{rules, ◌∙◌, ◌+◌, ◌*◌, ℤ, ◌*ℤ◌, sym, ap₂, subst, arith}
use Rattle.std.proofs.lemmas.Int.{to_z-of_z, ints}
use mir.Syntax.{w128}
use mir.Val.{SFits}
use Rattle.tn_base.specs.Arcs.{IsAtMost}
use Rattle.tn_chain.specs.Search.{chain_scale}
use Rattle.tn_chain.specs.Limits.{most_judged_trades}
use Rattle.tn_model.specs.Limits.{most_over}
use Rattle.tn_chain.proofs.SizeLemmas.{scale_bound}
use Rattle.tn_judge.proofs.judging.blocking_over.Goals as goal

small_fits : (z : ℤ) → IsAtMost z (most_over * (2 * most_judged_trades + 1)) → SFits w128 z
small_fits z small = let low = small.low in let high = small.high in omega (arith, ints, low, high)

pub overflow_mul-result : goal.overflow_mul-result
overflow_mul-result c =
    let first : SFits w128 c.args.outcome.now.over = search rules in
    let second : SFits w128 c.chain_scale.result = search rules in
    subst (SFits w128)
    (sym (ap₂ (λ (a b : ℤ). a *ℤ b) (to_z-of_z w128 c.args.outcome.now.over first)
    (to_z-of_z w128 c.chain_scale.result second ∙ c.chain_scale.ensures)))
    (small_fits (c.args.outcome.now.over *ℤ chain_scale c.args.count c.args.outcome.now.contracts)
    (scale_bound c.args.outcome.now.over c.args.count c.args.outcome.now.contracts c.requires.few c.requires.from_one
    c.requires.small))

pub returns : goal.returns
returns c =
    let first : SFits w128 c.args.outcome.now.over = search rules in
    let second : SFits w128 c.chain_scale.result = search rules in
    to_z-of_z w128 _ (overflow_mul-result c)
    ∙ ap₂ (λ (a b : ℤ). a *ℤ b) (to_z-of_z w128 c.args.outcome.now.over first)
    (to_z-of_z w128 c.chain_scale.result second ∙ c.chain_scale.ensures)
