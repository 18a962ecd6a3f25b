-- What supports counts of a market supports those of firms with the same worths.
use Rattle.std.proofs.Common.{◌≡◌, ℕ, List, map, Option, Result, Ok, Err, option_map, refl, sym, ap, ◌∙◌, subst, arith, ℤ, pos, ◌+ℤ◌}
use Rattle.std.specs.Prelude.{◌*ℤ◌, All, IfOk}
use Rattle.std.proofs.lemmas.Int.{ints}
use Rattle.std.proofs.lemmas.List.Elements.{All-weaker}
use Rattle.std.proofs.lemmas.Option.{none-some}
use Rattle.tn_base.specs.Arcs.{IsAtMost}
use Rattle.tn_base.specs.declared.memory.OutOfMemory.{OutOfMemory}
use Rattle.tn_answer.specs.Kept.{IsWithinPrices}
use Rattle.tn_counts.specs.Counts.{AreCounts, CountFirm, payments}
use Rattle.tn_counts.specs.Laminar.{firms_of}
use Rattle.tn_counts.specs.Markets.{IsUnitMarket}
use Rattle.tn_counts.specs.Widths.{most_unit_price}
use Rattle.tn_counts.specs.declared.market.UnitMarket.{UnitMarket}
use Rattle.tn_counts.specs.declared.trade.UnitTrade.{UnitTrade}
use Rattle.tn_counts.proofs.PlaceLemmas.{item_at}
use Rattle.tn_counts.proofs.SurplusLemmas.{have_firms}
use Rattle.tn_counts.proofs.WelfareLemmas.{equilibria_efficient}
use Rattle.tn_read_unit_parts.specs.Arranged.{AreCountsOf}
use Rattle.tn_read_units.specs.Firms.{UnitDocument}
use Rattle.tn_read_units.specs.Worths.{written_firms}
use Rattle.tn_said.specs.declared.said.Said.{Said}
use Rattle.tn_said.specs.declared.said.Said.TheVariants.{CycleByCounts, Impossible, SupportedByCounts}
use Rattle.tn_tree.specs.declared.steps.UnitStep.{UnitStep as MarketStep}
use Rattle.tn_tree.specs.Lists.{count_in, price_in}
use Rattle.tn_tree.specs.Steps.{AreOnce}
use Rattle.tn_tree.specs.Supports.{AreGain, AreSupports, IsFirstUnable, IsUnsupported}
use Rattle.tn_unit_answers.specs.Solve.{unit_ends}
use Rattle.tn_unit_answers.specs.Steps.{said_steps}
use Rattle.tn_unit_answers.specs.Support.{HaveNoPrices, HavePrices, IsFirstWithout, StepsGain, SupportsCounts}
use Rattle.tn_unit_answers.proofs.AlikeLemmas.{IsMadeOf, IsMarketOf, efficient_alike, of_document}
use Rattle.tn_unit_answers.proofs.StepLemmas.{steps_back, steps_known, units_said}

-- what holds of an answer holds of a result that is it
pub if_ok : (P : Said → Type 0) (result : Result Said OutOfMemory) (said : Said) → P said
    → IfOk result (λ one. one ≡ said) → IfOk result P
if_ok P (Ok one) said holds is = subst P (sym is) holds
if_ok P (Err error) said holds is = tt

pub prices_within : (prices : List ℤ) → All (λ price. IsAtMost price most_unit_price) prices → All IsWithinPrices prices
prices_within prices small =
    All-weaker (λ price. IsAtMost price most_unit_price) IsWithinPrices
    (λ price at. record { low = omega (arith, ints, at.low); high = omega (arith, ints, at.high) }) prices small

module _ (market : UnitMarket) (firms : List CountFirm) (of : IsMarketOf market firms) (counts : ℕ → ℕ)
    (within : AreCounts market.trades.items counts) where
  no_prices : IsUnsupported market counts → HaveNoPrices firms market.trades.items counts
  no_prices none = λ scale prices least equal. none scale prices least (of.same.back scale counts prices equal)

  have_prices : (prices : List ℤ) → IsUnitMarket market → AreSupports market counts prices
      → HavePrices firms market.trades.items counts prices
  have_prices prices is are = record {
    priced = are.one_each;
    equilibrium = of.same.equilibria (pos 1) counts (price_in prices) are.equilibrium;
    efficient = efficient_alike market firms of counts
        (equilibria_efficient (firms_of market) market.trades.items (pos 1) counts (price_in prices)
        (have_firms market is) (omega (arith, ints)) are.equilibrium);
  }

  first_without : (f : ℕ) → IsFirstUnable market counts f → IsFirstWithout firms counts f
  first_without f first =
      let known = first.known in
      let count = of.count in
      let found = item_at firms f (omega (arith, known, count)) in
      record {
        firm = found.0;
        is = found.1;
        none = sym (of.worths f found.0 found.1 counts within) ∙ first.none;
        earlier = λ g other below at. let before = first.earlier g below in
            (before.0, sym (of.worths g other at counts within) ∙ before.1);
      }

  -- what is impossible isn't best at any prices
  without_prices : (f : ℕ) → IsFirstWithout firms counts f → HaveNoPrices firms market.trades.items counts
  without_prices f first = λ scale prices least equal.
      let best = equal f first.firm first.is in
      let utility : Option ℤ → Option ℤ =
      option_map (λ (worth : ℤ). scale *ℤ worth +ℤ payments market.trades.items prices f counts) in
      none-some best.0 (sym (ap utility first.none) ∙ best.1.is)

  steps_gain : (steps : List (Option MarketStep)) (cost : ℤ) → AreGain market counts steps cost
      → StepsGain firms market.trades.items counts (said_steps steps) cost
  steps_gain steps cost gain = record {
    negative = gain.negative;
    known = steps_known market.trades.items steps gain.known;
    once = subst AreOnce (sym (steps_back steps)) gain.once;
    after = gain.after;
    within = gain.more.within;
    stepped = λ t below. units_said steps t (counts t) (gain.after t) (gain.stepped t below);
    surplus = gain.more.surplus;
    is = sym (of.same.surplus counts within) ∙ gain.more.is;
    gained = sym (of.same.surplus gain.after gain.more.within) ∙ gain.more.gained;
  }

-- ---- of the market that is made of a document

module _ (document : UnitDocument) (market : UnitMarket) (made : IsMadeOf document market) (counts : List ℕ)
    (are : AreCountsOf document.head.trades counts) where
  within : AreCounts market.trades.items (count_in counts)
  within = subst (λ (trades : List UnitTrade). AreCounts trades (count_in counts)) (sym made.trades) are.within

  pub prices_told : (prices : List ℤ) → AreSupports market (count_in counts) prices
      → SupportsCounts document counts (SupportedByCounts counts prices (map unit_ends document.head.trades))
  prices_told prices supports = (
    subst (λ (trades : List UnitTrade). HavePrices (written_firms document) trades (count_in counts) prices) made.trades
        (have_prices market (written_firms document) (of_document document market made) (count_in counts) within prices
        made.market_is supports),
    refl,
    refl,
  )

  pub first_told : (f : ℕ) → IsFirstUnable market (count_in counts) f → SupportsCounts document counts (Impossible f)
  first_told f first =
      let without = first_without market (written_firms document) (of_document document market made) (count_in counts)
      within f first in (
        without,
        subst (λ (trades : List UnitTrade). HaveNoPrices (written_firms document) trades (count_in counts)) made.trades
            (without_prices market (written_firms document) (of_document document market made) (count_in counts) within f
            without),
      )

  pub cycle_told : (steps : List (Option MarketStep)) (cost : ℤ)
      → AreGain market (count_in counts) steps cost × IsUnsupported market (count_in counts)
      → SupportsCounts document counts (CycleByCounts (said_steps steps) cost)
  cycle_told steps cost cycle = (
    subst (λ (trades : List UnitTrade). StepsGain (written_firms document) trades (count_in counts) (said_steps steps) cost)
        made.trades (steps_gain market (written_firms document) (of_document document market made) (count_in counts) within
        steps cost cycle.0),
    subst (λ (trades : List UnitTrade). HaveNoPrices (written_firms document) trades (count_in counts)) made.trades
        (no_prices market (written_firms document) (of_document document market made) (count_in counts) within cycle.1),
  )
