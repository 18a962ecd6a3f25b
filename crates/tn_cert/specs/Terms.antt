-- The best prices at which a firm can have its trades from a list of contracts, where one contract may be left out.
use Rattle.std.specs.Prelude.{◌≡◌, ◌≢◌, ℕ, ◌^◌, ◌<◌, ℤ, ◌≤ℤ◌, List, length, slice_get, All, Bool, true, false, ◌==◌, Option, Some, None, option_map, unwrap_or}
use Rattle.std.specs.Int.{int_max, int_min}
use Rattle.tn_base.specs.Arcs.{IsAtMost}
use Rattle.tn_base.specs.Sets.{has}
use Rattle.tn_model.specs.declared.contract.Contract.{Contract}
use Rattle.tn_model.specs.declared.ends.Ends.{Ends}
use Rattle.tn_model.specs.Prices.{price_at}
use Rattle.tn_model.specs.Network.{own}
use Rattle.tn_market.specs.Widths.{most_asked_price, most_own}

-- whether firm f is the buyer of trade t
abbrev pub is_bought : List Ends → ℕ → ℕ → Bool
is_bought trades f t = unwrap_or (option_map (λ trade. trade.buyer == f) (slice_get trades t)) false

-- the better of a price that was found and one more: the lower one for a buyer, the higher one for a seller
abbrev pub better : Bool → Option ℤ → ℤ → ℤ
better buys None price = price
better true (Some best) price = int_min best price
better false (Some best) price = int_max best price

-- a price is at least as good as another one for a buyer or a seller
abbrev pub IsAsGood : Bool → ℤ → ℤ → Type 0
IsAsGood true price other = price ≤ℤ other
IsAsGood false price other = other ≤ℤ price

-- the contract with index k is on trade t, and isn't left out
pub record IsOnTrade (contracts : List Contract) (left_out : Option ℕ) (t k : ℕ) (contract : Contract) : Type 0 where
  pub is : slice_get contracts k ≡ Some contract
  pub trade : contract.trade ≡ t
  pub kept : left_out ≢ Some k

-- of the first n contracts that one with index `at` has the best price for trade t
pub record IsTerm (contracts : List Contract) (left_out : Option ℕ) (t : ℕ) (buys : Bool) (n : ℕ) (price : ℤ)
    (at : ℕ) : Type 0 where
  pub below : at < n
  pub contract : Contract
  pub offered : IsOnTrade contracts left_out t at contract
  pub price_is : contract.price ≡ price
  pub best : (k : ℕ) (other : Contract) → k < n → IsOnTrade contracts left_out t k other
      → IsAsGood buys price other.price

-- the best price for trade t among the first n contracts, none where none of them is on it
abbrev pub FindsTerm : List Contract → Option ℕ → ℕ → Bool → ℕ → Option ℤ → Type 0
FindsTerm contracts left_out t buys n (Some price) = (at : ℕ) × IsTerm contracts left_out t buys n price at
FindsTerm contracts left_out t buys n None = (k : ℕ) (other : Contract) → k < n → IsOnTrade contracts left_out t k other
    → ⊥

-- the first n positions of firm f at which a contract is offered, with the best price at each of them, 0 elsewhere
pub record HasTerms (trades : List Ends) (contracts : List Contract) (left_out : Option ℕ) (f n free : ℕ)
    (prices : List ℤ) : Type 0 where
  pub within : free < 2 ^ n
  pub counted : length prices ≡ most_own
  pub small : All (λ price. IsAtMost price most_asked_price) prices
  pub at : ℕ → ℕ
  pub terms : (k : ℕ) → k < n → has free k ≡ true
      → IsTerm contracts left_out (own trades f k) (is_bought trades f (own trades f k)) (length contracts)
      (price_at prices k) (at k)
  pub none : (k : ℕ) → k < n → has free k ≡ false → (j : ℕ) (other : Contract)
      → IsOnTrade contracts left_out (own trades f k) j other → ⊥
