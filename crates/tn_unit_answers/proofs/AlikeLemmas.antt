-- What holds of a market by counts holds of firms with the same worths.
use Rattle.std.proofs.Common.{◌≡◌, ℕ, ◌≤◌, ◌==◌, Bool, true, false, if◌then◌else◌, length, slice_get, Option, Some, None, sym, subst, ap, ◌∙◌, arith, ℤ, pos}
use Rattle.std.proofs.lemmas.Option.{slice_get_within}
use Rattle.std.specs.Prelude.{List}
use Rattle.tn_counts.specs.Counts.{AreCounts, CountFirm, IsEfficientByCounts, trade_at}
use Rattle.tn_counts.specs.Laminar.{firm_of, firms_of}
use Rattle.tn_counts.specs.Ranges.{IsHighestByCounts, IsLowestByCounts, IsPriceByCounts, LoseTogether, apart_counts}
use Rattle.tn_counts.specs.declared.market.UnitMarket.{UnitMarket}
use Rattle.tn_counts.specs.declared.trade.UnitTrade.{UnitTrade}
use Rattle.tn_links.specs.Totals.{total}
use Rattle.tn_counts.specs.Markets.{IsUnitMarket}
use Rattle.tn_read_units.specs.Documents.{IsUnitDocument}
use Rattle.tn_read_units.specs.Firms.{UnitDocument}
use Rattle.tn_read_units.specs.Laws.{AreTheSame}
use Rattle.tn_read_units.specs.Worths.{written_firms}
use Rattle.tn_read_units.proofs.SameLemmas.{same_market}
use Rattle.tn_unit_answers.specs.Range.{LoseByCounts}
use Rattle.tn_unit_answers.proofs.SolutionLemmas.{has_worths}

-- a market of firms: as many, with the same worths of counts within the units
pub record IsMarketOf (market : UnitMarket) (firms : List CountFirm) : Type 0 where
  pub count : market.firms ≡ length firms
  pub worths : (f : ℕ) (firm : CountFirm) → slice_get firms f ≡ Some firm → (counts : ℕ → ℕ)
      → AreCounts market.trades.items counts → (firm_of market f).worth counts ≡ firm.worth counts
  pub same : AreTheSame (firms_of market) firms market.trades.items

-- the market that is made of a document
pub record IsMadeOf (document : UnitDocument) (market : UnitMarket) : Type 0 where
  pub document_is : IsUnitDocument document
  pub market_is : IsUnitMarket market
  pub firms : market.firms ≡ length document.head.names.firms
  pub trades : market.trades.items ≡ document.head.trades
  pub worths : (f : ℕ) (firm : CountFirm) → slice_get (written_firms document) f ≡ Some firm → (counts : ℕ → ℕ)
      → AreCounts document.head.trades counts → (firm_of market f).worth counts ≡ firm.worth counts

pub of_document : (document : UnitDocument) (market : UnitMarket) → IsMadeOf document market
    → IsMarketOf market (written_firms document)
of_document document market made =
    let has = has_worths document market made.document_is made.firms made.worths in
    record {
      count = has.count;
      worths = λ f firm at counts within. has.worths f firm at counts
          (subst (λ (trades : List UnitTrade). AreCounts trades counts) made.trades within);
      same = subst (λ (trades : List UnitTrade). AreTheSame (firms_of market) (written_firms document) trades)
          (sym made.trades) (same_market document market has);
    }

-- units of which each firm has one kind or the other
pub apart_within : (trades : List UnitTrade) (sold bought : ℕ → ℕ) (f : ℕ) → AreCounts trades sold
    → AreCounts trades bought → AreCounts trades (apart_counts trades sold bought f)
apart_within trades sold bought f first second t below =
    by (f == (trade_at trades t).seller) (first t below) (second t below)
  where
    by : (b : Bool) → sold t ≤ (trade_at trades t).units → bought t ≤ (trade_at trades t).units
        → (if b then sold t else bought t) ≤ (trade_at trades t).units
    by true one other = one
    by false one other = other

module _ (market : UnitMarket) (firms : List CountFirm) (of : IsMarketOf market firms) where
  pub efficient_alike : (counts : ℕ → ℕ) → IsEfficientByCounts (firms_of market) market.trades.items counts
      → IsEfficientByCounts firms market.trades.items counts
  efficient_alike counts best = (
    best.0,
    record {
      within = best.1.within;
      is = sym (of.same.surplus counts best.1.within) ∙ best.1.is;
      most = λ others other within is. best.1.most others other within (of.same.surplus others within ∙ is);
    },
  )

  price_alike : (t : ℕ) (price : ℤ) → IsPriceByCounts (firms_of market) market.trades.items t price
      → IsPriceByCounts firms market.trades.items t price
  price_alike t price has = record {
    counts = has.counts;
    prices = has.prices;
    equilibrium = of.same.equilibria (pos 1) has.counts has.prices has.equilibrium;
    is = has.is;
  }

  pub highest_alike : (t : ℕ) (high : Option ℤ) → IsHighestByCounts (firms_of market) market.trades.items t high
      → IsHighestByCounts firms market.trades.items t high
  highest_alike t (Some high) highest = (
    price_alike t high highest.0,
    λ scale counts prices least equal. highest.1 scale counts prices least (of.same.back scale counts prices equal),
  )
  highest_alike t None highest = λ bound.
      let found = highest bound in (found.0, price_alike t found.0 found.1, found.2)

  pub lowest_alike : (t : ℕ) (low : Option ℤ) → IsLowestByCounts (firms_of market) market.trades.items t low
      → IsLowestByCounts firms market.trades.items t low
  lowest_alike t (Some low) lowest = (
    price_alike t low lowest.0,
    λ scale counts prices least equal. lowest.1 scale counts prices least (of.same.back scale counts prices equal),
  )
  lowest_alike t None lowest = λ bound.
      let found = lowest bound in (found.0, price_alike t found.0 found.1, found.2)

  pub lose_alike : (counts sold bought : ℕ → ℕ) (cost : ℤ) → AreCounts market.trades.items counts
      → LoseTogether market counts sold bought cost → LoseByCounts firms market.trades.items counts sold bought cost
  lose_alike counts sold bought cost within lose = record {
    sold_within = lose.sold_within;
    bought_within = lose.bought_within;
    surplus = lose.surplus;
    is = sym (of.same.surplus counts within) ∙ lose.is;
    worths = lose.worths;
    each = λ f firm at.
        let inside = slice_get_within firms f firm at in
        let count = of.count in
        sym (of.worths f firm at (apart_counts market.trades.items sold bought f)
        (apart_within market.trades.items sold bought f lose.sold_within lose.bought_within))
        ∙ lose.each f (omega (arith, inside, count));
    sum = ap (total lose.worths) (sym of.count) ∙ lose.sum;
  }
