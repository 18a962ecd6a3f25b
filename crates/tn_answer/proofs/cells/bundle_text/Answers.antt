-- What shows the clauses of `bundle_text` of `src/cells.rt`.
use Rattle.std.proofs.Common.{ap, ap₂, ◌∙◌, ◌++◌, arith}
use Rattle.tn_answer.specs.Rows.{bundle_text, name_text}
use Rattle.tn_answer.proofs.MapLemmas.{take-whole}
use Rattle.tn_answer.proofs.BundleLemmas.{spaced-more}
use Rattle.tn_answer.proofs.cells.bundle_text.Goals as goal

pub returns : goal.returns
returns c = c.loop-k.invariant ∙ ap (bundle_text c.args.names.now.trades)
    (take-whole c.args.trades.now c.loop-k.k (omega (arith, c.len-k-end.ensures)))

pub loop-k-preserved : goal.loop-k-preserved
loop-k-preserved c =
    c.in_ok-push_str-2.ensures.bytes ∙ ap₂ (λ a b. a ++ b) (c.in_ok-push_str.ensures.bytes
    ∙ ap₂ (λ a b. a ++ b) c.loop-k.invariant c.blank_before.ensures) c.name_at.ensures
    ∙ spaced-more (name_text c.args.names.now.trades) c.args.trades.now c.loop-k.k c.at.result c.at.ensures
