-- What shows the clauses of `states_from` of `src/session.rt`.
use Rattle.std.proofs.Common.{◌+◌, List, All, map, subst, sym, arith}
use Rattle.tn_said.specs.declared.session.State.{State}
use Rattle.tn_answer.specs.Kept.{IsWithinState}
use Rattle.tn_firm.specs.Firms.{firm_of}
use Rattle.tn_flow.proofs.RoundLemmas.{worths_all, worths_step}
use Rattle.tn_commands.specs.declared.session.Kept.{Kept}
use Rattle.tn_commands.specs.Session.{AreStates, StandsAfter, edit_worths}
use Rattle.tn_commands.proofs.EditLemmas.{AreStatesBefore, all_states, no_states, one_more_state, one_more_within, stands_at_first}
use Rattle.tn_commands.proofs.session.states_from.Goals as goal

pub loop-k-init : goal.loop-k-init
loop-k-init c = record {
  before = no_states c.args.market.now.firms c.args.market.now.trades c.args.edits.now c.in_ok-states.states.items
      c.in_ok-states.ensures.items;
  stands = subst (λ (kept : Kept). StandsAfter c.args.market.now.firms c.args.market.now.trades _ kept
      c.args.session.now) (sym c.nothing_kept-kept.ensures)
      (stands_at_first c.args.market.now.firms c.args.market.now.trades c.args.session.now
      c.requires.none_admitted c.requires.stands);
  within = subst (All IsWithinState) (sym c.in_ok-states.ensures.items)
      (λ k d below. absurd (omega (arith, below)));
  asked = omega arith;
}

pub state_of-requires-clause-stands : goal.state_of-requires-clause-stands
state_of-requires-clause-stands c = c.make.ensures.stands.stands

pub loop-k-preserved : goal.loop-k-preserved
loop-k-preserved c = record {
  before = subst (AreStatesBefore c.args.market.now.firms c.args.market.now.trades c.args.edits.now (c.loop-k.k + 1))
      (sym c.in_ok-push.ensures.items)
      (one_more_state c.args.market.now.firms c.args.market.now.trades c.args.edits.now c.loop-k.k c.loop-k.states.items
      c.in_ok-state_of.field-0 c.make.new.session c.loop-k.invariant.before
      (λ t trade is. (c.make.ensures.stands.each t trade is).usable) c.in_ok-state_of.ensures.state);
  stands = c.make.ensures.stands;
  within = subst (All IsWithinState) (sym c.in_ok-push.ensures.items)
      (one_more_within c.loop-k.states.items c.in_ok-state_of.field-0 c.loop-k.invariant.within
      c.in_ok-state_of.ensures.within);
  asked = worths_step c.args.steps.now c.loop-k.steps c.make.new.steps
      (edit_worths (map firm_of c.args.market.now.firms) c.args.market.now.trades) c.loop-k.k
      c.loop-k.invariant.asked c.make.ensures.asked;
}

pub returns-clause-states : goal.returns-clause-states
returns-clause-states c =
    let end = c.loop-k-test.false in
    let most = c.loop-k.auto.k-end in
    let count = c.len-k-end.ensures in
    subst (λ (states : List State). AreStates (map firm_of c.args.market.now.firms) c.args.market.now.trades
    c.args.edits.now states) (sym c.from_vec.ensures)
    (all_states c.args.market.now.firms c.args.market.now.trades c.args.edits.now c.loop-k.k c.loop-k.states.items
    c.loop-k.invariant.before (omega (arith, most, count)) (omega (arith, end, count)))

pub returns-clause-within : goal.returns-clause-within
returns-clause-within c = subst (All IsWithinState) (sym c.from_vec.ensures) c.loop-k.invariant.within

pub returns-clause-asked : goal.returns-clause-asked
returns-clause-asked c =
    worths_all c.args.steps.now c.loop-k.steps
    (edit_worths (map firm_of c.args.market.now.firms) c.args.market.now.trades) c.loop-k.k _
    c.loop-k.invariant.asked
    (omega (arith, c.loop-k-test.false, c.loop-k.auto.k-end, c.len-k-end.ensures))
