-- What an equilibrium implies, and a plan against prices.
use Rattle.std.specs.Prelude.{ℕ, ℤ, pos, List, length}
use Rattle.tn_base.specs.Firm.{Firm}
use Rattle.tn_said.specs.Claim.{Claim, on_market, on_firms}
use Rattle.tn_said.specs.declared.claim.MarketClaim.TheVariants.{Equilibrium, Supported, Solved, Completes}
use Rattle.tn_said.specs.declared.claim.FirmClaim.TheVariants.{NoPrices}
use Rattle.tn_model.specs.declared.contract.Contract.{Contract}
use Rattle.tn_model.specs.declared.ends.Ends.{Ends}
use Rattle.tn_model.specs.Prices.{price_at}
use Rattle.tn_model.specs.Choices.{contracts_of, IsStable}
use Rattle.tn_market.specs.Equilibrium.{IsEfficient}
use Rattle.tn_market.specs.Signed.{signed}
use Rattle.tn_cert.specs.Plans.{HaveNoPrices}

-- no set of trades has a greater surplus, and no contracts over any denominator block the outcome of these trades at
-- these prices
pub record IsEfficientAndStable (firms : List Firm) (trades : List Ends) (on : ℕ) (prices : ℕ → ℤ) : Type 0 where
  pub efficient : IsEfficient firms trades on
  pub stable : IsStable firms trades (pos 1) (contracts_of on prices (length trades))

-- no set of trades has a greater surplus than the signed ones, and no contracts over any denominator block the outcome
pub record IsLastingOutcome (firms : List Firm) (trades : List Ends) (over : ℤ) (contracts : List Contract) : Type
    0 where
  pub efficient : IsEfficient firms trades (signed (length trades) contracts)
  pub stable : IsStable firms trades over contracts

-- what a claim implies where it is valid: that of an equilibrium, a solution or prices for its trades, that of a
-- completed outcome for this, and that no prices over any denominator make a set of trades an equilibrium
abbrev pub ClaimImplies : List Firm → List Ends → Claim → Type 0
ClaimImplies firms trades (on_market (Equilibrium at surplus)) = IsEfficientAndStable firms trades at.on (price_at at.prices)
ClaimImplies firms trades (on_market (Solved at surplus)) = IsEfficientAndStable firms trades at.on (price_at at.prices)
ClaimImplies firms trades (on_market (Supported on prices)) = IsEfficientAndStable firms trades on (price_at prices)
ClaimImplies firms trades (on_market (Completes outcome prices over)) = IsLastingOutcome firms trades outcome.over outcome.contracts
ClaimImplies firms trades (on_firms (NoPrices plan over)) = HaveNoPrices firms trades
ClaimImplies firms trades claim = Unit {0}
