-- What shows the clauses of `states_from` of `src/session.rt`.
use Rattle.std.proofs.Common.{◌++◌, ◌∷◌, [], List, take, sym, ◌∙◌, subst, ap, length, arith}
use Rattle.std.specs.Prelude.{All}
use Rattle.std.proofs.lemmas.List.{length-append}
use Rattle.std.proofs.lemmas.List.Elements.{All-push}
use Rattle.std.proofs.lemmas.Option.{get_or_from_slice_get, slice_get_within}
use Rattle.tn_answer.specs.Kept.{IsWithinUnitState}
use Rattle.tn_said.specs.declared.session.UnitEdit.{UnitEdit}
use Rattle.tn_read_unit_parts.specs.Edited.{IsKnownUnitEdit}
use Rattle.tn_unit_answers.specs.Standing.{StandsAfter}
use Rattle.tn_unit_answers.proofs.StandingLemmas.{state_after, states_more, take_one}
use Rattle.tn_unit_answers.proofs.session.states_from.Goals as goal

pub take_edit-requires-clause-known : goal.take_edit-requires-clause-known
take_edit-requires-clause-known c =
    let edit = c.at.result.now in
    subst (IsKnownUnitEdit (length c.args.document.now.head.names.firms) c.args.document.now.head.trades)
    (get_or_from_slice_get c.args.edits.now c.loop-k.k edit edit c.at.ensures)
    (c.requires.known c.loop-k.k edit (slice_get_within c.args.edits.now c.loop-k.k edit c.at.ensures))

pub loop-k-preserved : goal.loop-k-preserved
loop-k-preserved c =
    let all = take_one c.args.edits.now c.loop-k.k c.at.result.now c.at.ensures in
    let before = c.in_ok-take_edit.ensures.after (take c.loop-k.k c.args.edits.now) c.loop-k.invariant.after in
    let state = c.in_ok-next_state.field-0 in
    let told = state_after c.args.document.now c.trades-trades.ensures.kept c.args.edits.now c.loop-k.k
    (take c.loop-k.k c.args.edits.now ++ c.at.result.now ∷ []) c.take_edit.new.standing state before (sym all)
    c.in_ok-next_state.ensures.state in
    let made = c.in_ok-push.ensures.items in
    let count = c.loop-k.invariant.count in
    let longer = ap length made ∙ length-append c.loop-k.states.items (state ∷ []) in
    record {
      standing = c.in_ok-next_state.ensures.standing;
      after = subst (λ (list : List UnitEdit). StandsAfter c.args.document.now list c.next_state.new.standing) (sym all)
          (record {
            admitted = c.in_ok-next_state.ensures.admitted ∙ before.admitted;
            away = c.in_ok-next_state.ensures.away ∙ before.away;
          });
      count = omega (arith, longer, count);
      each = states_more c.args.document.now c.trades-trades.ensures.kept c.args.edits.now c.loop-k.k
          c.loop-k.states.items c.push.new.self.items state count c.loop-k.invariant.each told made;
      within = subst (All IsWithinUnitState) (sym made)
          (All-push IsWithinUnitState c.loop-k.states.items state c.loop-k.invariant.within
          c.in_ok-next_state.ensures.within);
    }
