-- What may be said of an outcome.
use Rattle.std.specs.Prelude.{◌≡◌, ℕ, ◌<◌, ℤ, ◌-ℤ◌, List, length, slice_get, All, Option, Some, option_map}
use Rattle.tn_base.specs.Arcs.{IsAtMost}
use Rattle.tn_base.specs.Firm.{Firm}
use Rattle.tn_model.specs.declared.ends.Ends.{Ends}
use Rattle.tn_model.specs.declared.contract.Contract.{Contract}
use Rattle.tn_model.specs.Prices.{price_at}
use Rattle.tn_model.specs.Choices.{bundle_by, part_utility, own_part, IsChoice}
use Rattle.tn_market.specs.Signed.{Completes}
use Rattle.tn_judge.specs.Limits.{most_completing_price}

-- each firm before f would keep all its contracts
abbrev pub AreKeptBefore : List Firm → List Ends → ℤ → List Contract → ℕ → Type 0
AreKeptBefore firms trades over contracts f = (g : ℕ) (firm : Firm) → g < f → slice_get firms g ≡ Some firm
    → IsChoice trades over g firm contracts (own_part trades g contracts)

-- a firm doesn't choose all its contracts from them; the bundle is that of one of its choices, and the gain is the
-- utility of that choice less the utility of its contracts, none where they are an impossible bundle
pub record WouldDrop (trades : List Ends) (over : ℤ) (contracts : List Contract) (f : ℕ) (firm : Firm) (keeps : ℕ)
    (gain : Option ℤ) : Type 0 where
  pub fails : IsChoice trades over f firm contracts (own_part trades f contracts) → ⊥
  pub kept : ℕ
  pub choice : IsChoice trades over f firm contracts kept
  pub bundle : bundle_by trades f firm.count contracts kept ≡ keeps
  pub gains : gain ≡ option_map (λ own. choice.value -ℤ own)
      (part_utility trades over f firm contracts (own_part trades f contracts))

-- firm f is the first that would drop contracts
pub record IsFirstDrop (firms : List Firm) (trades : List Ends) (over : ℤ) (contracts : List Contract) (f keeps : ℕ)
    (gain : Option ℤ) : Type 0 where
  pub before : AreKeptBefore firms trades over contracts f
  pub firm : Firm
  pub is : slice_get firms f ≡ Some firm
  pub drops : WouldDrop trades over contracts f firm keeps gain

-- small prices, one for each trade, complete the outcome
pub record IsCompletedBy (firms : List Firm) (trades : List Ends) (over : ℤ) (contracts : List Contract)
    (prices : List ℤ) : Type 0 where
  pub one_each : length prices ≡ length trades
  pub small : All (λ p. IsAtMost p most_completing_price) prices
  pub completes : Completes firms trades over contracts (price_at prices)

-- no prices complete it
abbrev pub IsIncomplete : List Firm → List Ends → ℤ → List Contract → Type 0
IsIncomplete firms trades over contracts = (prices : ℕ → ℤ) → Completes firms trades over contracts prices → ⊥
