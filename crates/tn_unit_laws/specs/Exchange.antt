-- The exchange property by counts. A firm's places are its trades, and null, which has the number after all trades and
-- stands for the net count. Counts have a level at each place, and the levels of all places sum to nothing.
use Rattle.std.specs.Prelude.{◌≡◌, ℕ, ◌+◌, ◌-◌, ◌≤◌, ℤ, pos, neg_ℤ, ◌+ℤ◌, ◌≤ℤ◌, ◌<ℤ◌, List, length, ◌==◌, if◌then◌else◌, Some}
use Rattle.tn_links.specs.Totals.{total}
use Rattle.tn_counts.specs.Counts.{AreCounts, CountFirm, trade_at}
use Rattle.tn_counts.specs.Laminar.{bought_by}
use Rattle.tn_counts.specs.declared.trade.UnitTrade.{UnitTrade}

-- the level at a trade: the units that the firm buys of it, or minus those that it sells; at null minus its net count
abbrev pub count_level : List UnitTrade → ℕ → (ℕ → ℕ) → ℕ → ℤ
count_level trades f counts place = if place == length trades
    then neg_ℤ (total (λ t. bought_by f (trade_at trades t) (pos (counts t))) (length trades))
    else bought_by f (trade_at trades place) (pos (counts place))

-- the counts with the level at a trade raised by a unit: one more is bought, or one fewer is sold
abbrev pub raised_at : List UnitTrade → ℕ → ℕ → (ℕ → ℕ) → ℕ → ℕ
raised_at trades f place counts t = if t == place
    then (if f == (trade_at trades t).buyer then counts t + 1 else counts t - 1) else counts t

-- or lowered by one
abbrev pub lowered_at : List UnitTrade → ℕ → ℕ → (ℕ → ℕ) → ℕ → ℕ
lowered_at trades f place counts t = if t == place
    then (if f == (trade_at trades t).buyer then counts t - 1 else counts t + 1) else counts t

-- beside a place, some place where the first counts have the lower level can be moved by a unit in both, towards the other
-- counts, and together they are then worth at least the total
pub record SwapsByCounts (trades : List UnitTrade) (f : ℕ) (firm : CountFirm) (counts others : ℕ → ℕ) (total : ℤ)
    (place : ℕ) : Type 0 where
  pub at : ℕ
  pub is_place : at ≤ length trades
  pub is_lower : count_level trades f counts at <ℤ count_level trades f others at
  pub first : ℤ
  pub second : ℤ
  pub first_is : firm.worth (raised_at trades f at (lowered_at trades f place counts)) ≡ Some first
  pub second_is : firm.worth (lowered_at trades f at (raised_at trades f place others)) ≡ Some second
  pub enough : total ≤ℤ (first +ℤ second)

-- firm f exchanges by counts: for all possible counts within the units, each place where the first have the greater level
-- swaps with one where they have the lower
abbrev pub ExchangesByCounts : List UnitTrade → ℕ → CountFirm → Type 0
ExchangesByCounts trades f firm = (counts others : ℕ → ℕ) (a b : ℤ) → AreCounts trades counts → AreCounts trades others
    → firm.worth counts ≡ Some a → firm.worth others ≡ Some b → (place : ℕ) → place ≤ length trades
    → count_level trades f others place <ℤ count_level trades f counts place
    → SwapsByCounts trades f firm counts others (a +ℤ b) place
