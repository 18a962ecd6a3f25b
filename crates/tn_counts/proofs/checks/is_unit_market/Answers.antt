-- What shows the clauses of `is_unit_market` of `src/checks.rt`.
use Rattle.std.proofs.Common.{◌≤◌, List, sum_by, sym, subst}
use Rattle.tn_counts.specs.Markets.{AreBetween, AreCountSets, AreLaminar, HaveSmallAmounts}
use Rattle.tn_counts.specs.Widths.{most_market_units}
use Rattle.tn_counts.specs.declared.set.CountSet.{CountSet}
use Rattle.tn_counts.specs.declared.trade.UnitTrade.{UnitTrade}
use Rattle.tn_counts.proofs.checks.is_unit_market.Goals as goal

pub returns-then-not-have_small_amounts-clause-no : goal.returns-then-not-have_small_amounts-clause-no
returns-then-not-have_small_amounts-clause-no c is market =
    c.have_small_amounts.ensures.no c.if-not-have_small_amounts.true
    (subst HaveSmallAmounts (sym c.deref-3.ensures.value) market.small)

pub returns-then-not-are_count_sets-clause-no : goal.returns-then-not-are_count_sets-clause-no
returns-then-not-are_count_sets-clause-no c is market =
    c.are_count_sets.ensures.no c.if-not-are_count_sets.true
    (subst (λ (sets : List CountSet). AreCountSets c.args.market.now.firms sets) (sym c.deref-4.ensures.value) market.each)

pub returns-clause-yes : goal.returns-clause-yes
returns-clause-yes c is =
    let room = c.has_room.ensures.yes c.if-not-has_room.false in
    record {
      few_firms = room.few_firms;
      few_trades = room.few_trades;
      few_sets = room.few_sets;
      few_units = subst (λ (trades : List UnitTrade). sum_by (λ trade. trade.units) trades ≤ most_market_units)
          c.deref.ensures.value (c.have_few_units.ensures.yes c.if-not-have_few_units.false);
      between = subst (λ (trades : List UnitTrade). AreBetween c.args.market.now.firms trades) c.deref-2.ensures.value
          (c.are_between.ensures.yes c.if-not-are_between.false);
      as_many = room.as_many;
      small = subst HaveSmallAmounts c.deref-3.ensures.value
          (c.have_small_amounts.ensures.yes c.if-not-have_small_amounts.false);
      each = subst (λ (sets : List CountSet). AreCountSets c.args.market.now.firms sets) c.deref-4.ensures.value
          (c.are_count_sets.ensures.yes c.if-not-are_count_sets.false);
      laminar = subst AreLaminar c.deref-5.ensures.value (c.are_laminar.ensures.yes is);
    }
