-- What the definitions of networks that go by recursion come to.
use Rattle.std.specs.Prelude.{◌≡◌, ℕ, ◌<◌, true, ◌↔◌, List, Contains, slice_get, Some}
use Rattle.std.specs.List.Sorted.{IsStrictlyIncreasing}
use Rattle.tn_base.specs.Sets.{has}
use Rattle.tn_base.specs.Firm.{Firm}
use Rattle.tn_model.specs.declared.ends.Ends.{Ends}
use Rattle.tn_model.specs.Network.{own, part, stands_at, trades_of, IsNetwork, HaveAscendingPositions}

-- trade t stands at position k of firm f
pub record StandsThere (trades : List Ends) (f k t : ℕ) : Type 0 where
  pub trade : Ends
  pub is : slice_get trades t ≡ Some trade
  pub stands : stands_at trade f k ≡ true

-- trade t stands at a position of firm f that is below n and in the bundle x
pub record IsTradeOf (trades : List Ends) (f n x t : ℕ) : Type 0 where
  pub at : ℕ
  pub below : at < n
  pub has_it : has x at ≡ true
  pub there : StandsThere trades f at t

pub record ArePositions : Type 0 where
  -- the trade at a position of a firm is the one that stands there, and no other
  pub one : (firms : List Firm) (trades : List Ends) (f k t : ℕ) (firm : Firm) → IsNetwork firms trades
      → slice_get firms f ≡ Some firm → k < firm.count
      → (own trades f k ≡ t) ↔ StandsThere trades f k t
  -- a firm's bundle of a set of trades has the positions whose trade is in the set
  pub bundled : (trades : List Ends) (f n on k : ℕ) → (has (part trades f n on) k ≡ true)
      ↔ ((k < n) × (has on (own trades f k) ≡ true))

-- the list of a bundle's trades has exactly them, and ascends strictly where the trades ascend with the positions
pub record AreBundleLists : Type 0 where
  pub whole : (firms : List Firm) (trades : List Ends) (f x t : ℕ) (firm : Firm) → IsNetwork firms trades
      → slice_get firms f ≡ Some firm
      → Contains (trades_of trades f firm.count x) t ↔ IsTradeOf trades f firm.count x t
  pub ascending : (firms : List Firm) (trades : List Ends) (f x : ℕ) (firm : Firm) → HaveAscendingPositions firms trades
      → slice_get firms f ≡ Some firm
      → IsStrictlyIncreasing (trades_of trades f firm.count x)
