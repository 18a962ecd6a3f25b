-- What a firm has signed, by positions.
use Rattle.std.specs.Prelude.{◌≡◌, ℕ, ◌<◌, ◌≤◌, ℤ, pos, List, length, All, if◌then◌else◌, Option, Some, None, ◌≤ℤ◌}
use Rattle.tn_base.specs.Arcs.{IsAtMost}
use Rattle.tn_base.specs.Sets.{union}
use Rattle.tn_model.specs.declared.ends.Ends.{Ends}
use Rattle.tn_model.specs.declared.contract.Contract.{Contract}
use Rattle.tn_model.specs.Network.{own, part}
use Rattle.tn_model.specs.Limits.{most_numerator}
use Rattle.tn_market.specs.Best.{IsSubset}
use Rattle.tn_model.specs.Prices.{price_at}
use Rattle.tn_market.specs.Signed.{is_signed, signed, signed_price}
use Rattle.tn_market.specs.Widths.{most_own}

-- the price of the contract on trade t, none where it isn't signed
abbrev pub contract_price : List Contract → ℕ → Option ℤ
contract_price contracts t = if is_signed contracts t then Some (signed_price contracts t) else None

-- the signed ones of the first n positions of firm f, with the price at each position, which is 0 where it isn't signed
pub record HoldsSigned (trades : List Ends) (contracts : List Contract) (f n held : ℕ) (prices : List ℤ) : Type 0 where
  pub bundle : held ≡ part trades f n (signed (length trades) contracts)
  pub counted : length prices ≡ most_own
  pub small : All (λ p. IsAtMost p most_numerator) prices
  pub each : (k : ℕ) → k < n → price_at prices k ≡ signed_price contracts (own trades f k)
  pub rest : (k : ℕ) → n ≤ k → price_at prices k ≡ pos 0

-- a part of the given positions with which x has this value, and with no other part more
pub record IsBestPart (x given : ℕ) (value_of : ℕ → Option ℤ) (part : ℕ) (value : ℤ) : Type 0 where
  pub inside : IsSubset part given
  pub is : value_of (union x part) ≡ Some value
  pub most : (other_part : ℕ) (other : ℤ) → IsSubset other_part given → value_of (union x other_part) ≡ Some other
      → other ≤ℤ value

-- such a part with the value, or none where x is impossible with each of them
abbrev pub GivesPart : ℕ → ℕ → (ℕ → Option ℤ) → Option (ℕ × ℤ) → Type 0
GivesPart x given value_of (Some found) = IsBestPart x given value_of found.0 found.1
GivesPart x given value_of None = (part : ℕ) → IsSubset part given → value_of (union x part) ≡ None
