-- What is said of each firm's counts at given prices, and of the best that it could have.
use Rattle.std.specs.Prelude.{◌≡◌, ℕ, ◌+◌, ◌<◌, ℤ, pos, ◌+ℤ◌, ◌-ℤ◌, ◌*ℤ◌, List, length, get_or, Option, Some, None, option_map, unwrap_or}
use Rattle.tn_base.specs.Arcs.{IsAtMost}
use Rattle.tn_counts.specs.Counts.{CountFirm, IsBestCount, count_utility, trade_at}
use Rattle.tn_counts.specs.Laminar.{amount_sum, firm_of}
use Rattle.tn_counts.specs.Outcomes.{HasEnd}
use Rattle.tn_counts.specs.Widths.{most_unit_surplus}
use Rattle.tn_counts.specs.declared.market.UnitMarket.{UnitMarket}
use Rattle.tn_counts.specs.declared.trade.UnitAmounts.{UnitAmounts}
use Rattle.tn_counts.specs.declared.trade.UnitTrade.{UnitTrade}
use Rattle.tn_tree.specs.Lists.{count_in, own_counts, price_in}
use Rattle.tn_tree.specs.Nets.{most_count_worth, most_paid}
use Rattle.tn_tree.specs.declared.held.FirmCount.{FirmCount}

-- the utility of counts to firm f at the prices
abbrev pub utility_at : List UnitTrade → List ℤ → ℕ → CountFirm → (ℕ → ℕ) → Option ℤ
utility_at trades prices f firm = count_utility trades (pos 1) (price_in prices) f firm

-- a number of a claim, or none
abbrev pub IsSmall : Option ℤ → Type 0
IsSmall number = (value : ℤ) → number ≡ Some value → IsAtMost value most_unit_surplus

-- of firm f: what its counts are worth, their utility at the prices, the best it could have, and what it would gain
pub record IsHeldAt (trades : List UnitTrade) (f : ℕ) (firm : CountFirm) (counts : List ℕ) (prices : List ℤ)
    (sold bought : List ℕ) (said : FirmCount) : Type 0 where
  pub worth_is : said.worth ≡ firm.worth (count_in counts)
  pub utility_is : said.utility ≡ utility_at trades prices f firm (count_in counts)
  pub best_is : IsBestCount trades (utility_at trades prices f firm) (own_counts trades sold bought f) said.best
  pub gain_is : said.gain ≡ option_map (λ utility. said.best -ℤ utility) said.utility
  -- where no counts have more than its own, the best ones are its own
  pub own : said.gain ≡ Some (pos 0) → (t : ℕ) → t < length trades → HasEnd f (trade_at trades t)
      → own_counts trades sold bought f t ≡ count_in counts t

-- the same, where each number is one of a claim
pub record IsHeld (trades : List UnitTrade) (f : ℕ) (firm : CountFirm) (counts : List ℕ) (prices : List ℤ)
    (sold bought : List ℕ) (said : FirmCount) : Type 0 where
  pub worth_is : said.worth ≡ firm.worth (count_in counts)
  pub utility_is : said.utility ≡ utility_at trades prices f firm (count_in counts)
  pub best_is : IsBestCount trades (utility_at trades prices f firm) (own_counts trades sold bought f) said.best
  pub gain_is : said.gain ≡ option_map (λ utility. said.best -ℤ utility) said.utility
  -- where no counts have more than its own, the best ones are its own
  pub own : said.gain ≡ Some (pos 0) → (t : ℕ) → t < length trades → HasEnd f (trade_at trades t)
      → own_counts trades sold bought f t ≡ count_in counts t
  -- the numbers
  pub small_worth : IsSmall said.worth
  pub small_utility : IsSmall said.utility
  pub small_best : IsAtMost said.best most_unit_surplus
  pub small_gain : IsSmall said.gain

-- what is said of a firm by the worth of its counts, their utility and the best one
abbrev pub firm_count : Option ℤ → Option ℤ → Option ℤ → FirmCount
firm_count worth utility best = record {
  worth = worth;
  utility = utility;
  best = unwrap_or best (pos 0);
  gain = option_map (λ value. unwrap_or best (pos 0) -ℤ value) utility;
}

-- what a firm would gain, by its number
abbrev pub gain_at : List FirmCount → ℕ → Option ℤ
gain_at firms f =
    (get_or firms f (record { worth = None; utility = None; best = pos 0; gain = None })).gain

-- a count of a firm that gains nothing is its own
pub record IsKept (gain : Option ℤ) (own best kept : ℕ) : Type 0 where
  pub content : gain ≡ Some (pos 0) → kept ≡ own
  pub other : (gain ≡ Some (pos 0) → ⊥) → kept ≡ best

-- the counts that are kept of the two ends of each trade
pub record AreKept (trades : List UnitTrade) (firms : List FirmCount) (counts sold bought kept_sold kept_bought : List ℕ)
    : Type 0 where
  pub sellers : (t : ℕ) → t < length trades → IsKept (gain_at firms (trade_at trades t).seller) (count_in counts t)
      (count_in sold t) (count_in kept_sold t)
  pub buyers : (t : ℕ) → t < length trades → IsKept (gain_at firms (trade_at trades t).buyer) (count_in counts t)
      (count_in bought t) (count_in kept_bought t)

-- what the utilities of a list are by
pub record AreValues (market : UnitMarket) (rates : List UnitAmounts) (sold bought : List ℕ)
    (worths utilities : List (Option ℤ)) : Type 0 where
  pub worths_are : (f : ℕ) → f < market.firms
      → get_or worths f None ≡ (firm_of market f).worth (own_counts market.trades.items sold bought f)
  pub utilities_are : (f : ℕ) → f < market.firms → get_or utilities f None
      ≡ option_map (λ value. pos 1 *ℤ value
      +ℤ amount_sum market.trades.items rates f (own_counts market.trades.items sold bought f))
      ((firm_of market f).worth (own_counts market.trades.items sold bought f))

-- utilities of a list are small
abbrev pub AreSmallValues : List (Option ℤ) → Type 0
AreSmallValues utilities =
    (f : ℕ) (value : ℤ) → get_or utilities f None ≡ Some value → IsAtMost value (most_count_worth + most_paid)
