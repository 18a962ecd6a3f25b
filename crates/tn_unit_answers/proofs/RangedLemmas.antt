-- The ranges of a market are those of firms with the same worths.
use Rattle.std.proofs.Common.{◌≡◌, ℕ, zero, suc, List, [], ◌∷◌, map, slice_get, Option, Some, None, option_map, refl, sym, ap, ◌∙◌, subst, arith, ℤ, pos}
use Rattle.std.specs.Prelude.{All, neg_ℤ}
use Rattle.std.proofs.lemmas.Int.{ints}
use Rattle.std.proofs.lemmas.List.{length-map, map-append}
use Rattle.std.proofs.lemmas.List.Elements.{All-map, All-weaker}
use Rattle.std.proofs.lemmas.Option.{IfSome_then, none-some, same_Some}
use Rattle.tn_base.specs.Arcs.{IsAtMost}
use Rattle.tn_answer.specs.Kept.{HasWithinUnitBounds, IsWithinPrices}
use Rattle.tn_counts.specs.Counts.{AreCounts, CountFirm}
use Rattle.tn_counts.specs.Widths.{most_unit_price}
use Rattle.tn_counts.specs.declared.market.UnitMarket.{UnitMarket}
use Rattle.tn_counts.specs.declared.trade.UnitTrade.{UnitTrade}
use Rattle.tn_read_units.specs.Firms.{UnitDocument}
use Rattle.tn_read_units.specs.Worths.{written_firms}
use Rattle.tn_said.specs.declared.units.UnitRange.{UnitRange}
use Rattle.tn_said.specs.declared.units.UnitStep.{UnitStep}
use Rattle.tn_tree.specs.declared.range.UnitRange.{UnitRange as MarketRange}
use Rattle.tn_tree.specs.declared.steps.UnitStep.{UnitStep as MarketStep}
use Rattle.tn_tree.specs.Lists.{count_in}
use Rattle.tn_tree.specs.Ranges.{AreRangesByCounts, IsHighPath, IsLowPath, IsSmallRange, ShowsHighest, ShowsLowest}
use Rattle.tn_tree.specs.Steps.{AreOnce}
use Rattle.tn_unit_answers.specs.Range.{AreRangesOf, IsHighWalk, IsLowWalk, IsRangeOf, ShowsHigh, ShowsLow}
use Rattle.tn_unit_answers.specs.Said.{said_range}
use Rattle.tn_unit_answers.specs.Steps.{said_step, said_steps}
use Rattle.tn_unit_answers.proofs.AlikeLemmas.{IsMadeOf, IsMarketOf, efficient_alike, highest_alike, lose_alike, lowest_alike, of_document}
use Rattle.tn_unit_answers.proofs.StepLemmas.{steps_back, steps_known, units_said}

-- ---- a range in its list

said_at : (ranges : List MarketRange) (t : ℕ) (range : UnitRange) → slice_get (map said_range ranges) t ≡ Some range
    → (one : MarketRange) × (slice_get ranges t ≡ Some one) × (said_range one ≡ range)
said_at [] t range at = absurd (none-some range at)
said_at (first ∷ ranges) zero range at = (first, refl, same_Some (said_range first) range at)
said_at (first ∷ ranges) (suc t) range at = said_at ranges t range at

said_get : (ranges : List MarketRange) (t : ℕ) (one : MarketRange) → slice_get ranges t ≡ Some one
    → slice_get (map said_range ranges) t ≡ Some (said_range one)
said_get [] t one at = absurd (none-some one at)
said_get (first ∷ ranges) zero one at = ap (λ (range : MarketRange). Some (said_range range)) (same_Some first one at)
said_get (first ∷ ranges) (suc t) one at = said_get ranges t one at

-- ---- its prices

bounds : (range : MarketRange) → IsSmallRange range → HasWithinUnitBounds (said_range range)
bounds range small = record {
  high = IfSome_then range.high small.high (λ price at. within price at);
  low = IfSome_then range.low small.low (λ price at. within price at);
}
  where
    within : (price : ℤ) → IsAtMost price most_unit_price → IsWithinPrices price
    within price at = record { low = omega (arith, ints, at.low); high = omega (arith, ints, at.high) }

pub ranges_within : (ranges : List MarketRange) → All IsSmallRange ranges
    → All HasWithinUnitBounds (map said_range ranges)
ranges_within ranges small =
    All-map HasWithinUnitBounds said_range ranges
    (All-weaker IsSmallRange (λ range. HasWithinUnitBounds (said_range range)) bounds ranges small)

-- ---- its steps

module _ (market : UnitMarket) (firms : List CountFirm) (of : IsMarketOf market firms) (counts : ℕ → ℕ)
    (within : AreCounts market.trades.items counts) where
  high_walk : (t : ℕ) (steps : List (Option MarketStep)) (cost : ℤ) → IsHighPath market counts t steps cost
      → IsHighWalk firms market.trades.items counts t (said_steps steps) cost
  high_walk t steps cost path = record {
    own = said_step path.own;
    inner = said_steps path.inner;
    steps_are = ap said_steps path.steps_are
        ∙ ap (λ (xs : List (Option UnitStep)). None ∷ xs)
        (map-append (option_map said_step) path.inner (Some path.own ∷ []));
    sold = path.sold;
    bought = path.bought;
    made = record {
      trade = path.trade;
      known = steps_known market.trades.items steps path.known;
      once = subst AreOnce (sym (steps_back steps)) path.once;
      others = λ k below other. let at = path.others k below other in (units_said steps k (counts k) (path.sold k) at.0, at.1);
      own_more = path.sold_own;
      own_fewer = path.bought_own;
    };
    lose = lose_alike market firms of counts path.sold path.bought cost within path.lose;
  }

  low_walk : (t : ℕ) (steps : List (Option MarketStep)) (cost : ℤ) → IsLowPath market counts t steps cost
      → IsLowWalk firms market.trades.items counts t (said_steps steps) cost
  low_walk t steps cost path = record {
    own = said_step path.own;
    inner = said_steps path.inner;
    steps_are = ap said_steps path.steps_are
        ∙ ap (λ (xs : List (Option UnitStep)). Some (said_step path.own) ∷ xs)
        (map-append (option_map said_step) path.inner (None ∷ []));
    sold = path.sold;
    bought = path.bought;
    made = record {
      trade = path.trade;
      known = steps_known market.trades.items steps path.known;
      once = subst AreOnce (sym (steps_back steps)) path.once;
      others = λ k below other. let at = path.others k below other in
          (units_said steps k (counts k) (path.bought k) (ap pos at.1 ∙ at.0), sym at.1);
      own_more = path.bought_own;
      own_fewer = path.sold_own;
    };
    lose = lose_alike market firms of counts path.sold path.bought cost within path.lose;
  }

  high_shown : (t : ℕ) (high : Option ℤ) (steps : List (Option MarketStep)) → ShowsHighest market counts t high steps
      → ShowsHigh firms market.trades.items counts t high (said_steps steps)
  high_shown t (Some high) steps shown = high_walk t steps high shown
  high_shown t None steps shown = ap said_steps shown

  low_shown : (t : ℕ) (low : Option ℤ) (steps : List (Option MarketStep)) → ShowsLowest market counts t low steps
      → ShowsLow firms market.trades.items counts t low (said_steps steps)
  low_shown t (Some low) steps shown = low_walk t steps (neg_ℤ low) shown
  low_shown t None steps shown = ap said_steps shown

pub ranged : (market : UnitMarket) (firms : List CountFirm) (counts : List ℕ) (ranges : List MarketRange)
    → IsMarketOf market firms → AreRangesByCounts market counts ranges
    → AreRangesOf firms market.trades.items counts (map said_range ranges)
ranged market firms counts ranges of are =
    let within = are.efficient.1.within in
    record {
      counted = are.count_each;
      efficient = efficient_alike market firms of (count_in counts) are.efficient;
      ranged = length-map ranges said_range ∙ are.one_each;
      each = λ t range at.
          let found = said_at ranges t range at in
          let one = found.0 in
          let is = are.each t one found.1 in
          subst (IsRangeOf firms market.trades.items (count_in counts) t) found.2 (record {
            lowest = lowest_alike market firms of t one.low is.lowest;
            low_shown = low_shown market firms of (count_in counts) within t one.low one.low_path.items is.low_shown;
            highest = highest_alike market firms of t one.high is.highest;
            high_shown = high_shown market firms of (count_in counts) within t one.high one.high_path.items is.high_shown;
          });
      highs = λ prices each. of.same.equilibria (pos 1) (count_in counts) prices
          (are.highs prices (λ t one at. each t (said_range one) (said_get ranges t one at)));
      lows = λ prices each. of.same.equilibria (pos 1) (count_in counts) prices
          (are.lows prices (λ t one at. each t (said_range one) (said_get ranges t one at)));
    }

-- so are those of the market that is made of a document
pub ranges_told : (document : UnitDocument) (market : UnitMarket) (counts : List ℕ) (found : List MarketRange)
    (ranges : List UnitRange) → IsMadeOf document market → AreRangesByCounts market counts found
    → ranges ≡ map said_range found → AreRangesOf (written_firms document) document.head.trades counts ranges
ranges_told document market counts found ranges made are said =
    subst (AreRangesOf (written_firms document) document.head.trades counts) (sym said)
    (subst (λ (trades : List UnitTrade). AreRangesOf (written_firms document) trades counts (map said_range found))
    made.trades (ranged market (written_firms document) counts found (of_document document market made) are))
