-- The trades that an outcome signs, their prices, and prices for all trades that complete it.
use Rattle.std.specs.Prelude.{◌≡◌, ℕ, ℤ, pos, List, [], ◌∷◌, length, slice_get, Bool, false, ◌==◌, ◌||◌, if◌then◌else◌, Option, Some}
use Rattle.tn_base.specs.Sets.{set_of}
use Rattle.tn_base.specs.Firm.{Firm}
use Rattle.tn_model.specs.declared.ends.Ends.{Ends}
use Rattle.tn_model.specs.declared.contract.Contract.{Contract}
use Rattle.tn_model.specs.Network.{part}
use Rattle.tn_market.specs.Best.{IsBestBetween}
use Rattle.tn_market.specs.Equilibrium.{utility_at, IsEquilibrium}

-- whether one of the contracts is on trade t
abbrev pub is_signed : List Contract → ℕ → Bool
is_signed [] t = false
is_signed (contract ∷ contracts) t = contract.trade == t || is_signed contracts t

-- the signed trades, of n trades in all
abbrev pub signed : ℕ → List Contract → ℕ
signed n contracts = set_of (is_signed contracts) n

-- the price of the contract on trade t, and 0 where it has none
abbrev pub signed_price : List Contract → ℕ → ℤ
signed_price [] t = pos 0
signed_price (contract ∷ contracts) t = if contract.trade == t then contract.price else signed_price contracts t

-- the bundle of firm f of its signed trades
abbrev pub signed_bundle : List Ends → List Contract → ℕ → Firm → ℕ
signed_bundle trades contracts f firm = part trades f firm.count (signed (length trades) contracts)

-- the utility of each bundle of firm f at a scale, where signed trades have the prices of their contracts, and unsigned
-- ones none
abbrev pub contract_utility : List Ends → ℤ → List Contract → ℕ → Firm → ℕ → Option ℤ
contract_utility trades over contracts f firm = utility_at trades over (signed_price contracts) f firm

-- individually rational, by bundles: each firm's signed trades are best among their parts
abbrev pub HaveBestSigned : List Firm → List Ends → ℤ → List Contract → Type 0
HaveBestSigned firms trades over contracts = (f : ℕ) (firm : Firm) → slice_get firms f ≡ Some firm
    → (value : ℤ)
    × IsBestBetween 0 (signed_bundle trades contracts f firm) (contract_utility trades over contracts f firm)
    (signed_bundle trades contracts f firm) value

-- prices complete an outcome over a denominator: they give each of its trades the price of its contract, and with them
-- its trades are an equilibrium at this scale
pub record Completes (firms : List Firm) (trades : List Ends) (over : ℤ) (contracts : List Contract) (prices : ℕ
    → ℤ) : Type 0 where
  pub agree : (k : ℕ) (contract : Contract) → slice_get contracts k ≡ Some contract
      → prices contract.trade ≡ contract.price
  pub equilibrium : IsEquilibrium firms trades over (signed (length trades) contracts) prices
