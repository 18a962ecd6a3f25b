-- What shows the clauses of `take_edit` of `src/session.rt`.
use Rattle.std.proofs.Common.{Bool, List, ℕ, refl, map, length, ap, ◌∙◌}
use Rattle.std.specs.Prelude.{unwrap_or}
use Rattle.std.specs.List.{range_with_len}
use Rattle.tn_counts.specs.Counts.{trade_at}
use Rattle.tn_counts.specs.declared.trade.UnitTrade.{UnitTrade}
use Rattle.tn_tree.specs.Lists.{count_in}
use Rattle.tn_unit_answers.specs.Session.{admitted_by, away_by}
use Rattle.tn_unit_answers.specs.Standing.{away_in}
use Rattle.tn_unit_answers.proofs.EditedLemmas.{edit_kept, edit_stands}
use Rattle.tn_unit_answers.proofs.session.take_edit.Goals as goal

pub returns-clause-standing : goal.returns-clause-standing
returns-clause-standing c =
    edit_stands c.args.document.now c.args.standing.now _ c.args.edit c.requires.standing c.requires.known refl
    (c.in_ok-admitted.ensures
    ∙ ap (λ (xs : List UnitTrade). map (λ t. unwrap_or (admitted_by t (trade_at xs t).units c.args.edit)
    (count_in c.deref.result.now t)) (range_with_len 0 (length xs))) c.trades.ensures.is
    ∙ ap (λ (xs : List ℕ). map (λ t. unwrap_or (admitted_by t (trade_at c.args.document.now.head.trades t).units c.args.edit)
    (count_in xs t)) (range_with_len 0 (length c.args.document.now.head.trades))) c.deref.ensures.value)
    (c.in_ok-away.ensures
    ∙ ap (λ (xs : List Bool). map (λ f. unwrap_or (away_by f c.args.edit) (away_in xs f)) (range_with_len 0 (length xs)))
    c.deref-2.ensures.value)

pub returns-clause-after : goal.returns-clause-after
returns-clause-after c = λ edits before.
    edit_kept c.args.document.now c.args.standing.now _ edits c.args.edit c.requires.standing before
    (c.in_ok-admitted.ensures
    ∙ ap (λ (xs : List UnitTrade). map (λ t. unwrap_or (admitted_by t (trade_at xs t).units c.args.edit)
    (count_in c.deref.result.now t)) (range_with_len 0 (length xs))) c.trades.ensures.is
    ∙ ap (λ (xs : List ℕ). map (λ t. unwrap_or (admitted_by t (trade_at c.args.document.now.head.trades t).units c.args.edit)
    (count_in xs t)) (range_with_len 0 (length c.args.document.now.head.trades))) c.deref.ensures.value)
    (c.in_ok-away.ensures
    ∙ ap (λ (xs : List Bool). map (λ f. unwrap_or (away_by f c.args.edit) (away_in xs f)) (range_with_len 0 (length xs)))
    c.deref-2.ensures.value)
