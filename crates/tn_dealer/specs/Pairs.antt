-- A dealer: items that are bought and sold on, one to one, in listed pairs.
use Rattle.std.specs.Prelude.{◌≡◌, ℕ, ◌^◌, ◌<◌, ◌≤◌, ◌==◌, ◌&&◌, true, false, ℤ, pos, ◌-ℤ◌, if◌then◌else◌, List, [], ◌∷◌, length, slice_get, All, Option, Some, None, option_map}
use Rattle.tn_base.specs.Arcs.{IsAtMost}
use Rattle.tn_base.specs.Sets.{has, toggle}
use Rattle.tn_base.specs.Firm.{Firm}
use Rattle.tn_base.specs.Table.{buys_of}
use Rattle.tn_base.specs.declared.side.Side.{Side}
use Rattle.tn_market.specs.Reduced.{greater}
use Rattle.tn_dealer.specs.declared.pair.Pair.{Pair}
use Rattle.tn_dealer.specs.declared.pair.DealerRefusal.{DealerRefusal}
use Rattle.tn_dealer.specs.declared.pair.DealerRefusal.TheVariants.{OutOfMemory, SamePair}
use Rattle.tn_base.specs.Widths.{most_amount}
use Rattle.tn_market.specs.Widths.{most_own}

-- what a bundle is worth where this pair is matched: the bundle without both its trades, less its cost
abbrev pub with_pair : Pair → (ℕ → Option ℤ) → ℕ → Option ℤ
with_pair pair worth x =
    if has x pair.buy && has x pair.sell
    then option_map (λ a. a -ℤ pair.cost) (worth (toggle (toggle x pair.buy) pair.sell))
    else None

-- with no pair only the empty bundle is possible, and worth 0; with one pair more a bundle is worth the greater of what
-- it is worth without this pair and with it
unfoldable pub matched_worth : List Pair → ℕ → Option ℤ
matched_worth [] x = if x == 0 then Some (pos 0) else None
matched_worth (pair ∷ pairs) x = greater (matched_worth pairs x) (with_pair pair (matched_worth pairs) x)

abbrev pub dealing : ℕ → ℕ → List Pair → Firm
dealing count buys pairs = record { count = count; buys = buys; worth = matched_worth pairs }

abbrev pub dealer_firm : List Side → List Pair → Firm
dealer_firm sides pairs = dealing (length sides) (buys_of sides) pairs

-- a pair of an own purchase and an own sale, at a cost of at most 10^9 in size
pub record IsOwnPair (count buys : ℕ) (pair : Pair) : Type 0 where
  pub purchase : pair.buy < count
  pub bought : has buys pair.buy ≡ true
  pub sale : pair.sell < count
  pub sold : has buys pair.sell ≡ false
  pub small : IsAtMost pair.cost most_amount

-- the pair at a place has the purchase and the sale of one that stands before it
pub record IsRepeated (pairs : List Pair) (k : ℕ) : Type 0 where
  pub at : ℕ
  pub earlier : Pair
  pub pair : Pair
  pub before : at < k
  pub earlier_is : slice_get pairs at ≡ Some earlier
  pub pair_is : slice_get pairs k ≡ Some pair
  pub same_buy : earlier.buy ≡ pair.buy
  pub same_sell : earlier.sell ≡ pair.sell

-- no pair before a place is repeated
abbrev pub AreDifferentBelow : List Pair → ℕ → Type 0
AreDifferentBelow pairs k = (j : ℕ) → j < k → IsRepeated pairs j → ⊥

-- no two pairs have the same purchase and the same sale
abbrev pub AreUnrepeated : List Pair → Type 0
AreUnrepeated pairs = (j : ℕ) → IsRepeated pairs j → ⊥

-- the first place whose pair is repeated
pub record IsFirstRepeated (pairs : List Pair) (k : ℕ) : Type 0 where
  pub repeated : IsRepeated pairs k
  pub first : AreDifferentBelow pairs k

-- the first place whose pair is repeated, or none
abbrev pub GivesFirstRepeated : List Pair → Option ℕ → Type 0
GivesFirstRepeated pairs None = AreUnrepeated pairs
GivesFirstRepeated pairs (Some k) = IsFirstRepeated pairs k

-- why pairs make no dealer: the first repeated one, or want of memory where none is repeated
abbrev pub IsRefusedFor : List Pair → DealerRefusal → Type 0
IsRefusedFor pairs (SamePair index) = IsFirstRepeated pairs index
IsRefusedFor pairs OutOfMemory = AreUnrepeated pairs

-- both positions are below 60
pub record IsNear (pair : Pair) : Type 0 where
  pub buy : pair.buy < most_own
  pub sell : pair.sell < most_own

-- what every dealer keeps
pub record IsDealer (count buys : ℕ) (pairs : List Pair) : Type 0 where
  pub few : count ≤ most_own
  pub bought : buys < 2 ^ count
  pub own : All (IsOwnPair count buys) pairs
