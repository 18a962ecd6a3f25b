-- What the answers say of the unit network.
use Rattle.std.proofs.Common.{◌≡◌, ℕ, suc, ◌<◌, Bool, true, false, if◌then◌else◌, List, Option, Some, None, sym, ◌∙◌, arith, ℤ, pos, neg_ℤ, ◌+ℤ◌, ◌-ℤ◌}
use Rattle.std.proofs.lemmas.Int.{ints}
use Rattle.tn_market.specs.Ranges.{IsHighest, IsLowest, IsPriceOf}
use Rattle.tn_counts.specs.Counts.{CountFirm, IsEfficientByCounts}
use Rattle.tn_counts.specs.Ranges.{IsHighestByCounts, IsLowestByCounts, IsPriceByCounts}
use Rattle.tn_counts.specs.declared.trade.UnitTrade.{UnitTrade}
use Rattle.tn_file.specs.Readings.{units}
use Rattle.tn_file.proofs.ReadingLemmas.{documents_are}
use Rattle.tn_read_units.specs.Firms.{UnitDocument}
use Rattle.tn_read_units.specs.Worths.{written_firms}
use Rattle.tn_said.specs.declared.units.UnitStep.{UnitStep}
use Rattle.tn_tree.specs.Lists.{count_in}
use Rattle.tn_unit_answers.specs.Range.{AreOwnSteps, LoseByCounts, ShowsHigh, ShowsLow}
use Rattle.tn_unit_laws.specs.Laws.{FitByCounts, HasOneMore, LoseApart}
use Rattle.tn_unit_laws.specs.Units.{first_units, price_of_unit, trade_of, unit_count, unit_firms, unit_trades, units_on}
use Rattle.tn_unit_laws.proofs.BoundLemmas.{losses_bound}
use Rattle.tn_unit_laws.proofs.BundleLemmas.{fits_network}
use Rattle.tn_unit_laws.proofs.EquilibriumLemmas.{no_bundle, same_surplus}
use Rattle.tn_unit_laws.proofs.StableLemmas.{equilibria_stable, more_bars}
use Rattle.tn_unit_run_laws.specs.Laws.{AnswersAreStableUnits, AnswersBarUnitPrices, DocumentsMakeUnitNetworks, RangesAreOfUnits, ReadsUnits}
use Rattle.tn_unit_run_laws.proofs.WrittenLemmas.{document_fits}

fits : (bytes : List ℕ) (doc : UnitDocument) → ReadsUnits bytes doc → FitByCounts (written_firms doc) doc.head.trades
fits bytes doc read =
    document_fits doc (documents_are read.command bytes (units doc read.extra) read.reads).0.network

pub make_networks : DocumentsMakeUnitNetworks
make_networks bytes doc read =
    let fit = fits bytes doc read in
    record { network = fits_network (written_firms doc) doc.head.trades fit; fit = fit }

pub are_stable : AnswersAreStableUnits
are_stable = record {
  solved = λ bytes doc counts prices surplus ends read solution. equilibria_stable (written_firms doc) doc.head.trades
      (pos 1) _ _ (fits bytes doc read) (omega (arith, ints)) solution.equilibrium;
  checked = λ bytes doc counts prices surplus read verdict. equilibria_stable (written_firms doc) doc.head.trades
      (pos 1) _ _ (fits bytes doc read) (omega (arith, ints)) verdict.equilibrium;
  supported = λ bytes doc counts listed prices ends read support. equilibria_stable (written_firms doc) doc.head.trades
      (pos 1) _ _ (fits bytes doc read) (omega (arith, ints)) support.0.equilibrium;
}

pub bar_prices : AnswersBarUnitPrices
bar_prices = record {
  cycle = λ bytes doc counts nodes cost read answer on have.
      let fit = fits bytes doc read in
      let steps = answer.0 in
      let negative = steps.negative in
      more_bars (written_firms doc) doc.head.trades on steps.after fit (record {
        within = steps.within;
        less = steps.surplus;
        less_is = same_surplus (written_firms doc) doc.head.trades (units_on doc.head.trades on) (count_in counts) fit have
            ∙ steps.is;
        more = steps.surplus +ℤ neg_ℤ cost;
        more_is = steps.gained;
        above = omega (arith, ints, negative);
      });
  impossible = λ bytes doc counts f read answer on have scale prices least equal.
      no_bundle (written_firms doc) doc.head.trades (fits bytes doc read) f answer.0.firm answer.0.is on (count_in counts)
      have answer.0.none scale prices equal;
}

-- ---- ranges

module _ (firms : List CountFirm) (trades : List UnitTrade) (fit : FitByCounts firms trades) (counts : ℕ → ℕ)
    (efficient : IsEfficientByCounts firms trades counts) where
  lose_apart : (sold bought : ℕ → ℕ) (cost : ℤ) → LoseByCounts firms trades counts sold bought cost
      → LoseApart firms trades counts sold bought cost
  lose_apart sold bought cost lose = record {
    sold_within = lose.sold_within;
    bought_within = lose.bought_within;
    surplus = lose.surplus;
    is = lose.is;
    worths = lose.worths;
    each = lose.each;
    sum = lose.sum;
  }

  one_more : (t : ℕ) (own : UnitStep) (steps : List (Option UnitStep)) (more fewer : ℕ → ℕ)
      → AreOwnSteps trades counts t own steps more fewer → HasOneMore trades t more fewer
  one_more t own steps more fewer made = record {
    here = by own.more made.own_more made.own_fewer;
    others = λ k below other. sym (made.others k below other).1;
  }
    where
      by : (b : Bool) → pos (more t) ≡ pos (counts t) +ℤ (if b then pos 1 else pos 0)
          → pos (fewer t) ≡ pos (counts t) +ℤ (if b then pos 0 else pos 0 -ℤ pos 1) → more t ≡ suc (fewer t)
      by true first second = omega (arith, ints, first, second)
      by false first second = omega (arith, ints, first, second)

  module _ (u : ℕ) (inside : u < unit_count trades) where
    price_of : (price : ℤ) → IsPriceByCounts firms trades (trade_of trades u) price
        → IsPriceOf (unit_firms trades firms) (unit_trades trades) u price
    price_of price has = record {
      on = first_units trades has.counts;
      prices = price_of_unit trades has.prices;
      equilibrium = (equilibria_stable firms trades (pos 1) has.counts has.prices fit (omega (arith, ints))
          has.equilibrium).equilibrium;
      is = has.is;
    }

    pub highest_of : (high : Option ℤ) (steps : List (Option UnitStep))
        → IsHighestByCounts firms trades (trade_of trades u) high
        → ShowsHigh firms trades counts (trade_of trades u) high steps
        → IsHighest (unit_firms trades firms) (unit_trades trades) u high
    highest_of None steps far shown = λ bound.
        let found = far bound in (found.0, price_of found.0 found.1, found.2)
    highest_of (Some high) steps is shown = (
      price_of high is.0,
      λ price has.
          let most = losses_bound.above firms trades counts shown.sold shown.bought high u fit efficient
          (lose_apart shown.sold shown.bought high shown.lose) inside
          (one_more (trade_of trades u) shown.own steps shown.sold shown.bought shown.made) (pos 1) has.on has.prices
          (omega (arith, ints)) has.equilibrium in
          let same = has.is in
          omega (arith, ints, most, same),
    )

    pub lowest_of : (low : Option ℤ) (steps : List (Option UnitStep))
        → IsLowestByCounts firms trades (trade_of trades u) low
        → ShowsLow firms trades counts (trade_of trades u) low steps
        → IsLowest (unit_firms trades firms) (unit_trades trades) u low
    lowest_of None steps far shown = λ bound.
        let found = far bound in (found.0, price_of found.0 found.1, found.2)
    lowest_of (Some low) steps is shown = (
      price_of low is.0,
      λ price has.
          let most = losses_bound.below firms trades counts shown.sold shown.bought (neg_ℤ low) u fit efficient
          (lose_apart shown.sold shown.bought (neg_ℤ low) shown.lose) inside
          (one_more (trade_of trades u) shown.own steps shown.bought shown.sold shown.made) (pos 1) has.on has.prices
          (omega (arith, ints)) has.equilibrium in
          let same = has.is in
          omega (arith, ints, most, same),
    )

pub ranges_are : RangesAreOfUnits
ranges_are bytes doc counts ranges ends read told u range inside at =
    let fit = fits bytes doc read in
    let each = told.0.each (trade_of doc.head.trades u) range at in
    record {
      lowest = lowest_of (written_firms doc) doc.head.trades fit (count_in counts) told.0.efficient u inside range.low
          range.low_path each.lowest each.low_shown;
      highest = highest_of (written_firms doc) doc.head.trades fit (count_in counts) told.0.efficient u inside range.high
          range.high_path each.highest each.high_shown;
    }
