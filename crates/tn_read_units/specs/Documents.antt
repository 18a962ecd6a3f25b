-- What every document of units is that is read, in words that know nothing of the reading.
use Rattle.std.specs.Prelude.{◌≡◌, ℕ, ◌⊎◌, ◌<◌, ◌≤◌, ℤ, pos, neg_ℤ, ◌≤ℤ◌, unsigned_abs, List, [], ◌∷◌, ◌++◌, length, map, reverse, slice_get, Bool, true, false, ◌==◌, All, IfSome, Option, Some, None, option_and_then}
use Rattle.std.specs.List.{list_any, sum_by}
use Rattle.tn_base.specs.Arcs.{IsAtMost}
use Rattle.tn_base.specs.Sets.{has, size}
use Rattle.tn_base.specs.declared.side.Side.{Side}
use Rattle.tn_links.specs.Links.{AreFalling, room}
use Rattle.tn_links.specs.declared.link.Step.{Step}
use Rattle.tn_counts.specs.Widths.{most_count_sets}
use Rattle.tn_counts.specs.declared.trade.UnitTrade.{UnitTrade}
use Rattle.tn_read_units.specs.Checks.{steps_after}
use Rattle.tn_read_units.specs.Firms.{OwnAmounts, UnitDocument, WrittenFirm}
use Rattle.tn_read_units.specs.Heads.{AreUnitTrades}
use Rattle.tn_read_units.specs.Limits.{most_number}
use Rattle.tn_read_units.specs.Own.{Members, side_at}
use Rattle.tn_read_units.specs.Sets.{AreNumbers, SetNumbers, WrittenSet}
use Rattle.tn_read_units.specs.Steps.{AreSteps}
use Rattle.tn_read_units.specs.declared.amounts.Amount.{Amount}

-- a trade of which the firm is this end
abbrev pub IsOwn : List UnitTrade → ℕ → ℕ → Side → Type 0
IsOwn trades f t side = option_and_then (side_at f) (slice_get trades t) ≡ Some side

-- an amount is that of an own trade, and small
pub record IsOwnAmount (trades : List UnitTrade) (f : ℕ) (amount : Amount) : Type 0 where
  pub own : IsOwn trades f amount.trade amount.side
  pub small : IsAtMost amount.number most_number

-- whether a trade has an amount
abbrev pub has_amount : List Amount → ℕ → Bool
has_amount amounts t = list_any (λ amount. amount.trade == t) amounts

-- no two amounts are of one trade
abbrev pub AreOnce : List Amount → Type 0
AreOnce [] = Unit {0}
AreOnce (amount ∷ amounts) = (has_amount amounts amount.trade ≡ false) × AreOnce amounts

pub record AreOwnAmounts (trades : List UnitTrade) (f : ℕ) (amounts : OwnAmounts) : Type 0 where
  pub each : All (IsOwnAmount trades f) amounts.entries
  pub once : AreOnce amounts.entries
  pub named : (t : ℕ) → has amounts.named t ≡ has_amount amounts.entries t

-- whether a set has a trade
abbrev pub has_member : Members → ℕ → Bool
has_member members t = list_any (λ k. k == t) members.trades

-- the members of a set are different own trades
pub record AreMembers (trades : List UnitTrade) (f : ℕ) (members : Members) : Type 0 where
  pub own : All (λ t. (side : Side) × IsOwn trades f t side) members.trades
  pub named : (t : ℕ) → has members.named t ≡ has_member members t
  pub count : size members.named ≡ length members.trades

-- a unit less sold takes away what it added
abbrev pub turned : Step → Step
turned step = record { units = step.units; each = neg_ℤ step.each }

-- what further net units add, from the fewest on: first less and less is sold, and then more and more is bought
abbrev pub net_steps : Option SetNumbers → List Step → List Step → List Step
net_steps (Some set) bought sold = steps_after None set.numbers
net_steps None bought sold = reverse (map turned sold) ++ bought

-- how many units the fewest net count is below 0
abbrev pub net_back : Option SetNumbers → List Step → ℕ
net_back (Some set) sold = unsigned_abs set.low
net_back None sold = room sold

abbrev pub steps_of : WrittenSet → List Step
steps_of set = net_steps set.numbers set.bought set.sold

abbrev pub back_of : WrittenSet → ℕ
back_of set = net_back set.numbers set.sold

-- small numbers, of which one is for the net count 0
pub record AreAroundNone (set : SetNumbers) : Type 0 where
  pub are : AreNumbers set.numbers
  pub from : set.low ≤ℤ pos 0
  pub inside : unsigned_abs set.low < length set.numbers

-- a set of own trades, with a concave function on net counts around 0
pub record IsWrittenSet (trades : List UnitTrade) (f : ℕ) (set : WrittenSet) : Type 0 where
  pub members : AreMembers trades f set.members
  pub numbers : IfSome set.numbers AreAroundNone
  pub bought : AreSteps set.bought
  pub sold : AreSteps set.sold
  pub around : back_of set ≤ room (steps_of set)
  pub concave : AreFalling (steps_of set)

-- all trades of one set are trades of the other
abbrev pub IsWithin : WrittenSet → WrittenSet → Type 0
IsWithin inner outer = (t : ℕ) → has_member inner.members t ≡ true → has_member outer.members t ≡ true

-- of two sets that share a trade one is within the other
abbrev pub AreNested : WrittenSet → WrittenSet → Type 0
AreNested one other = (t : ℕ) → has_member one.members t ≡ true → has_member other.members t ≡ true
    → IsWithin one other ⊎ IsWithin other one

-- a laminar firm
pub record IsWrittenFirm (trades : List UnitTrade) (f : ℕ) (firm : WrittenFirm) : Type 0 where
  pub amounts : AreOwnAmounts trades f firm.amounts
  pub sets : All (IsWrittenSet trades f) firm.sets
  pub laminar : (i k : ℕ) (one other : WrittenSet) → slice_get firm.sets i ≡ Some one
      → slice_get firm.sets k ≡ Some other → AreNested one other

-- laminar firms, one for each name, over trades within the limits, with few sets in all
pub record IsUnitDocument (document : UnitDocument) : Type 0 where
  pub head : AreUnitTrades document.head
  pub named : length document.firms ≡ length document.head.names.firms
  pub few_sets : sum_by (λ firm. length firm.sets) document.firms ≤ most_count_sets
  pub each : (f : ℕ) (firm : WrittenFirm) → slice_get document.firms f ≡ Some firm
      → IsWrittenFirm document.head.trades f firm
