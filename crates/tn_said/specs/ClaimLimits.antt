-- The limits of claims.
use Rattle.std.specs.Prelude.{◌≡◌, ℕ, ◌^◌, ◌<◌, ◌≤◌, ℤ, pos, ◌≤ℤ◌, List, length, slice_get, All, Option, Some, IfSome}
use Rattle.tn_base.specs.Arcs.{IsAtMost}
use Rattle.tn_base.specs.Firm.{Firm}
use Rattle.tn_said.specs.Claim.{Claim, on_market, on_firms}
use Rattle.tn_said.specs.declared.claim.MarketClaim.TheVariants.{Equilibrium, Better, Impossible, Supported, Cycle, Solved, Drops, Completes, Blocks}
use Rattle.tn_said.specs.declared.claim.FirmClaim.TheVariants.{Accepted, ExchangeFails, NoPrices}
use Rattle.tn_model.specs.declared.contract.Contract.{Contract}
use Rattle.tn_model.specs.declared.ends.Ends.{Ends}
use Rattle.tn_said.specs.declared.part.Part.{Part}
use Rattle.tn_model.specs.Choices.{IsFeasible}
use Rattle.tn_model.specs.Limits.{most_price, most_number, most_claimed_over, most_planned_trades, most_parts, least_nodes, most_nodes}
use Rattle.tn_model.specs.OutcomeLimits.{IsOutcomeWithin}

-- a price of at most so much in size for each trade
pub record ArePricesWithin (trades limit : ℕ) (prices : List ℤ) : Type 0 where
  pub one_each : length prices ≡ trades
  pub small : All (λ price. IsAtMost price limit) prices

-- a denominator of a claim, and any other number of it
pub record IsOverWithin (over : ℤ) : Type 0 where
  pub least : pos 1 ≤ℤ over
  pub most : over ≤ℤ pos most_claimed_over

abbrev pub IsNumberWithin : ℤ → Type 0
IsNumberWithin number = IsAtMost number most_number

-- contracts of a claim, in any order: no two on one trade
pub record AreOffersWithin (trades : List Ends) (contracts : List Contract) : Type 0 where
  pub feasible : IsFeasible trades contracts
  pub small : All (λ contract. IsNumberWithin contract.price) contracts

-- neither too few nodes nor too many, each of them null or a trade
pub record AreNodesWithin (trades : ℕ) (nodes : List (Option ℕ)) : Type 0 where
  pub least : least_nodes ≤ length nodes
  pub most : length nodes ≤ most_nodes
  pub known : All (λ node. IfSome node (λ t. t < trades)) nodes

-- f is a firm, of which a property holds
abbrev pub IsFirmWith : List Firm → ℕ → (Firm → Type 0) → Type 0
IsFirmWith firms f holds = (firm : Firm) × (slice_get firms f ≡ Some firm) × holds firm

-- a part of a plan is a bundle of a firm, with a weight
abbrev pub IsPartWithin : List Firm → Part → Type 0
IsPartWithin firms part = IsFirmWith firms part.firm (λ firm. part.bundle < 2 ^ firm.count) × IsOverWithin part.weight

-- a claim on a network speaks of its firms, trades and positions, within the limits of numbers
abbrev pub IsClaimWithin : List Firm → List Ends → Claim → Type 0
IsClaimWithin firms trades (on_market (Equilibrium at surplus)) = (at.on < 2 ^ length trades)
    × ArePricesWithin (length trades) most_price at.prices × IsNumberWithin surplus
IsClaimWithin firms trades (on_market (Better at f x gain)) = (at.on < 2 ^ length trades)
    × ArePricesWithin (length trades) most_price at.prices × IsFirmWith firms f (λ firm. x < 2 ^ firm.count)
    × IsNumberWithin gain
IsClaimWithin firms trades (on_market (Impossible on f)) = (on < 2 ^ length trades) × (f < length firms)
IsClaimWithin firms trades (on_firms Accepted) = Unit {0}
IsClaimWithin firms trades (on_firms (ExchangeFails f x y at)) = IsFirmWith firms f
    (λ firm. (x < 2 ^ firm.count) × (y < 2 ^ firm.count) × IfSome at (λ k. k < firm.count))
IsClaimWithin firms trades (on_market (Supported on prices)) = (on < 2 ^ length trades)
    × ArePricesWithin (length trades) most_number prices
IsClaimWithin firms trades (on_market (Cycle on nodes cost)) = (on < 2 ^ length trades) × AreNodesWithin (length trades) nodes
    × IsNumberWithin cost
IsClaimWithin firms trades (on_market (Solved at surplus)) = (at.on < 2 ^ length trades)
    × ArePricesWithin (length trades) most_number at.prices × IsNumberWithin surplus
IsClaimWithin firms trades (on_market (Drops outcome f keeps gain over)) = IsOutcomeWithin (length trades) outcome
    × IsFirmWith firms f (λ firm. keeps < 2 ^ firm.count) × IfSome gain IsNumberWithin × IsOverWithin over
IsClaimWithin firms trades (on_market (Completes outcome prices over)) = IsOutcomeWithin (length trades) outcome
    × ArePricesWithin (length trades) most_number prices × IsOverWithin over
IsClaimWithin firms trades (on_market (Blocks outcome contracts over)) = IsOutcomeWithin (length trades) outcome
    × AreOffersWithin trades contracts × IsOverWithin over
IsClaimWithin firms trades (on_firms (NoPrices plan over)) = (length trades ≤ most_planned_trades) × All (IsPartWithin firms) plan
    × IsOverWithin over × (length plan ≤ most_parts)
