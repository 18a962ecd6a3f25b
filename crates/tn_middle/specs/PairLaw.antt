-- What a middleman's bundles are worth, bundle by bundle.
use Rattle.std.specs.Prelude.{◌≡◌, ℕ, ◌<◌, ◌⊎◌, true, false, ℤ, pos, ◌-ℤ◌, List, Option, Some, option_map}
use Rattle.tn_base.specs.Sets.{has, toggle}
use Rattle.tn_base.specs.Firm.{Firm}
use Rattle.tn_base.specs.declared.side.Side.{Side}
use Rattle.tn_middle.specs.Pairs.{middle_firm}
use Rattle.tn_market.specs.OwnNumbers.{own_number}

-- the position is a purchase
pub record IsPurchase (firm : Firm) (k : ℕ) : Type 0 where
  pub own : k < firm.count
  pub bought : has firm.buys k ≡ true

-- the position is a sale
pub record IsSale (firm : Firm) (k : ℕ) : Type 0 where
  pub own : k < firm.count
  pub sold : has firm.buys k ≡ false

-- the bundle is one purchase
pub record IsOnePurchase (firm : Firm) (x : ℕ) : Type 0 where
  pub at : ℕ
  pub purchase : IsPurchase firm at
  pub is : x ≡ toggle 0 at

-- the bundle is one purchase and one sale
pub record IsPair (firm : Firm) (x : ℕ) : Type 0 where
  pub from : ℕ
  pub to : ℕ
  pub purchase : IsPurchase firm from
  pub sale : IsSale firm to
  pub is : x ≡ toggle (toggle 0 from) to

pub record IsPairing (firm : Firm) (numbers : List ℤ) (keep : Option ℤ) : Type 0 where
  -- no trade is worth 0
  pub none : firm.worth 0 ≡ Some (pos 0)
  -- a purchase alone is worth what it is kept for less its cost, where it may be kept
  pub kept : (b : ℕ) → IsPurchase firm b → firm.worth (toggle 0 b)
      ≡ option_map (λ number. number -ℤ own_number numbers b) keep
  -- a purchase with a sale is worth the gain less the cost
  pub paired : (b s : ℕ) → IsPurchase firm b → IsSale firm s
      → firm.worth (toggle (toggle 0 b) s) ≡ Some (own_number numbers s -ℤ own_number numbers b)
  -- nothing else is possible
  pub only : (x : ℕ) (a : ℤ) → firm.worth x ≡ Some a → (x ≡ 0) ⊎ (IsOnePurchase firm x ⊎ IsPair firm x)

abbrev pub MiddlemenPair : Type 0
MiddlemenPair = (sides : List Side) (numbers : List ℤ) (keep : Option ℤ)
    → IsPairing (middle_firm sides numbers keep) numbers keep
