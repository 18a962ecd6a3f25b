-- What shows the clauses of `next_state` of `src/session.rt`.
use Rattle.std.proofs.Common.{List, length, refl, sym, ap, ◌∙◌, subst, arith}
use Rattle.std.specs.Prelude.{ℤ}
use Rattle.tn_base.specs.Arcs.{IsAtMost}
use Rattle.tn_counts.specs.Widths.{most_unit_surplus}
use Rattle.tn_counts.specs.declared.trade.UnitTrade.{UnitTrade}
use Rattle.tn_tree.specs.Lists.{count_in}
use Rattle.tn_unit_answers.specs.Session.{priced}
use Rattle.tn_unit_answers.specs.Standing.{away_in}
use Rattle.tn_unit_answers.proofs.StandingLemmas.{lowered, made_usable}
use Rattle.tn_unit_answers.proofs.StateLemmas.{state_is, state_within}
use Rattle.tn_unit_answers.proofs.session.next_state.Goals as goal

pub solve_market-requires : goal.solve_market-requires
solve_market-requires c =
    (lowered c.args.document.now c.trades-trades.ensures.kept c.args.standing.now c.requires _ refl
    (made_usable c.args.document.now c.args.standing.now c.trades-trades.result.now c.in_ok-usable.usable.items
    c.deref.result.now c.deref-2.result.now c.in_ok-usable.ensures c.deref.ensures.value c.deref-2.ensures.value
    c.trades-trades.ensures.is) refl refl).is

pub state_of-requires-clause-few : goal.state_of-requires-clause-few
state_of-requires-clause-few c =
    let few = (lowered c.args.document.now c.trades-trades.ensures.kept c.args.standing.now c.requires
    (record {
      firms = c.args.standing.now.market.firms;
      trades = c.in_ok-usable.usable;
      amounts = c.args.standing.now.market.amounts;
      sets = c.args.standing.now.market.sets;
    }) refl
    (made_usable c.args.document.now c.args.standing.now c.trades-trades.result.now c.in_ok-usable.usable.items
    c.deref.result.now c.deref-2.result.now c.in_ok-usable.ensures c.deref.ensures.value c.deref-2.ensures.value
    c.trades-trades.ensures.is) refl refl).is.few_trades in
    let same = ap length c.deref-3.ensures.value in
    omega (arith, few, same)

pub returns-clause-standing : goal.returns-clause-standing
returns-clause-standing c = record {
  market = lowered c.args.document.now c.trades-trades.ensures.kept c.args.standing.now c.requires _ refl
      (made_usable c.args.document.now c.args.standing.now c.trades-trades.result.now c.in_ok-usable.usable.items
      c.deref.result.now c.deref-2.result.now c.in_ok-usable.ensures c.deref.ensures.value c.deref-2.ensures.value
      c.trades-trades.ensures.is) refl refl;
  counted = c.requires.counted;
  within = c.requires.within;
  listed = c.requires.listed;
}

pub returns-clause-state : goal.returns-clause-state
returns-clause-state c =
    let units = made_usable c.args.document.now c.args.standing.now c.trades-trades.result.now
    c.in_ok-usable.usable.items c.deref.result.now c.deref-2.result.now c.in_ok-usable.ensures c.deref.ensures.value
    c.deref-2.ensures.value c.trades-trades.ensures.is in
    state_is c.args.document.now c.trades-trades.ensures.kept (count_in c.args.standing.now.admitted.items)
    (away_in c.args.standing.now.away.items) c.requires.within (record {
      firms = c.args.standing.now.market.firms;
      trades = c.in_ok-usable.usable;
      amounts = c.args.standing.now.market.amounts;
      sets = c.args.standing.now.market.sets;
    }) c.in_ok-solved.solved.counts.items c.in_ok-solved.solved.prices.items c.in_ok-solved.solved.surplus
    c.in_ok-state.state (returns-clause-standing c).market units c.in_ok-solved.ensures.equilibrium
    c.in_ok-solved.ensures.surplus c.in_ok-solved.ensures.counts c.in_ok-solved.ensures.prices
    c.in_ok-state.ensures.on (c.in_ok-state.ensures.prices
    ∙ ap (λ (xs : List UnitTrade). priced xs c.in_ok-solved.solved.prices.items) c.deref-3.ensures.value)
    c.in_ok-state.ensures.surplus

pub returns-clause-within : goal.returns-clause-within
returns-clause-within c =
    let units = made_usable c.args.document.now c.args.standing.now c.trades-trades.result.now
    c.in_ok-usable.usable.items c.deref.result.now c.deref-2.result.now c.in_ok-usable.ensures c.deref.ensures.value
    c.deref-2.ensures.value c.trades-trades.ensures.is in
    state_within c.args.document.now c.trades-trades.ensures.kept (count_in c.args.standing.now.admitted.items)
    (away_in c.args.standing.now.away.items) c.requires.within c.in_ok-solved.solved.prices.items c.in_ok-state.state
    (returns-clause-state c)
    (c.in_ok-state.ensures.prices
    ∙ ap (λ (xs : List UnitTrade). priced xs c.in_ok-solved.solved.prices.items) (c.deref-3.ensures.value ∙ units))
    (c.in_ok-solved.ensures.prices ∙ ap length units) c.in_ok-solved.ensures.small_prices
    (subst (λ (z : ℤ). IsAtMost z most_unit_surplus) (sym c.in_ok-state.ensures.surplus)
    c.in_ok-solved.ensures.small_surplus)
