-- A network: firms, each by its worths, and trades, each from a seller to a buyer. A trade stands at one position of
-- its seller and at one of its buyer.
use Rattle.std.specs.Prelude.{◌≡◌, ◌≢◌, ℕ, zero, suc, ◌+◌, ◌<◌, List, [], ◌∷◌, ◌++◌, length, slice_get, Bool, true, false, ◌==◌, ◌&&◌, ◌||◌, if◌then◌else◌, Some}
use Rattle.tn_base.specs.Sets.{has, set_of}
use Rattle.tn_base.specs.Firm.{Firm}
use Rattle.tn_model.specs.declared.ends.Ends.{Ends}

-- whether a trade stands at position k of firm f
abbrev pub stands_at : Ends → ℕ → ℕ → Bool
stands_at trade f k = (trade.seller == f && trade.at_seller == k) || (trade.buyer == f && trade.at_buyer == k)

-- the trade at position k of firm f
abbrev pub own : List Ends → ℕ → ℕ → ℕ
own [] f k = 0
own (trade ∷ trades) f k = if stands_at trade f k then 0 else own trades f k + 1

-- the bundle that a firm of n own trades has of a set of trades
abbrev pub part : List Ends → ℕ → ℕ → ℕ → ℕ
part trades f n on = set_of (λ k. has on (own trades f k)) n

-- the trades at the positions below n of firm f that are in a bundle, in ascending order of positions
abbrev pub trades_of : List Ends → ℕ → ℕ → ℕ → List ℕ
trades_of trades f zero x = []
trades_of trades f (suc n) x = trades_of trades f n x ++ (if has x n then own trades f n ∷ [] else [])

-- the trades below n that are in a set, ascending
abbrev pub trades_on : ℕ → ℕ → List ℕ
trades_on on zero = []
trades_on on (suc n) = trades_on on n ++ (if has on n then n ∷ [] else [])

-- firms and trades fit together
pub record IsNetwork (firms : List Firm) (trades : List Ends) : Type 0 where
  -- a trade has two different firms
  pub apart : (t : ℕ) (trade : Ends) → slice_get trades t ≡ Some trade → trade.seller ≢ trade.buyer
  -- its seller sells it at its position, and its buyer buys it at its own
  pub sold : (t : ℕ) (trade : Ends) → slice_get trades t ≡ Some trade
      → (firm : Firm) × (slice_get firms trade.seller ≡ Some firm) × (trade.at_seller < firm.count)
      × (has firm.buys trade.at_seller ≡ false)
  pub bought : (t : ℕ) (trade : Ends) → slice_get trades t ≡ Some trade
      → (firm : Firm) × (slice_get firms trade.buyer ≡ Some firm) × (trade.at_buyer < firm.count)
      × (has firm.buys trade.at_buyer ≡ true)
  -- a trade stands at each position of a firm
  pub whole : (f k : ℕ) (firm : Firm) → slice_get firms f ≡ Some firm → k < firm.count → own trades f k < length trades
  -- and only one
  pub once : (f k s t : ℕ) (one other : Ends) → slice_get trades s ≡ Some one → slice_get trades t ≡ Some other
      → stands_at one f k ≡ true → stands_at other f k ≡ true → s ≡ t

-- the trades at a firm's positions ascend with the positions
abbrev pub HaveAscendingPositions : List Firm → List Ends → Type 0
HaveAscendingPositions firms trades = (f i j : ℕ) (firm : Firm) → slice_get firms f ≡ Some firm → i < j → j < firm.count
    → own trades f i < own trades f j
