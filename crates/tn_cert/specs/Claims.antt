-- When a claim is valid, in the words of the definitions alone: nothing here asks who made it, or how.
use Rattle.std.specs.Prelude.{◌≡◌, ℕ, ℤ, pos, ◌-ℤ◌, ◌<ℤ◌, List, [], ◌∷◌, length, map, slice_get, true, Option, Some, None, IsSome, IfSome}
use Rattle.tn_base.specs.Sets.{has}
use Rattle.tn_base.specs.Firm.{Firm}
use Rattle.tn_base.specs.Walks.{walk_cost}
use Rattle.tn_base.specs.Exchange.{MeetsExchange, Fails}
use Rattle.tn_said.specs.Claim.{Claim, on_market, on_firms}
use Rattle.tn_said.specs.declared.claim.MarketClaim.TheVariants.{Equilibrium, Better, Impossible, Supported, Cycle, Solved, Drops, Completes as CompletesIs, Blocks as BlocksIs}
use Rattle.tn_said.specs.declared.claim.FirmClaim.TheVariants.{Accepted, ExchangeFails, NoPrices}
use Rattle.tn_model.specs.declared.contract.Outcome.{Outcome}
use Rattle.tn_model.specs.declared.ends.Ends.{Ends}
use Rattle.tn_model.specs.Prices.{price_at}
use Rattle.tn_model.specs.Choices.{Blocks}
use Rattle.tn_said.specs.ClaimLimits.{IsFirmWith}
use Rattle.tn_market.specs.Equilibrium.{utility_at, IsEquilibrium, surplus_of}
use Rattle.tn_market.specs.Graph.{exchange_arc, ArePossible}
use Rattle.tn_model.specs.Network.{own, part}
use Rattle.tn_cert.specs.Plans.{IsPlanAgainst}
use Rattle.tn_market.specs.Signed.{is_signed, signed_bundle, signed_price, Completes}

-- what firm f gains where it has x in place of y, both possible
pub record Gains (trades : List Ends) (scale : ℤ) (prices : ℕ
    → ℤ) (f : ℕ) (firm : Firm) (x y : ℕ) (gain : ℤ) : Type 0 where
  pub value : ℤ
  pub value_is : utility_at trades scale prices f firm x ≡ Some value
  pub other : ℤ
  pub other_is : utility_at trades scale prices f firm y ≡ Some other
  pub gain_is : gain ≡ value -ℤ other

-- what firm f gains where it keeps a bundle of its contracts and drops the others: none where they are an impossible
-- bundle together
abbrev pub GainsByKeeping : List Ends → Outcome → ℕ → Firm → ℕ → Option ℤ → Type 0
GainsByKeeping trades outcome f firm keeps (Some gain) =
    Gains trades outcome.over (signed_price outcome.contracts) f firm keeps
    (signed_bundle trades outcome.contracts f firm) gain
GainsByKeeping trades outcome f firm keeps None = IsSome (firm.worth keeps)
    × (firm.worth (signed_bundle trades outcome.contracts f firm) ≡ None)

abbrev pub IsPositive : ℤ → Type 0
IsPositive gain = pos 0 <ℤ gain

-- each trade of firm f's bundle has a contract
abbrev pub AreSigned : List Ends → Outcome → ℕ → ℕ → Type 0
AreSigned trades outcome f keeps = (k : ℕ) → has keeps k ≡ true → is_signed outcome.contracts (own trades f k) ≡ true

-- the number of a node that is said: null is the node after all trades
abbrev pub node_of : ℕ → Option ℕ → ℕ
node_of null None = null
node_of null (Some t) = t

-- from the first node through the others and back to the first, on arcs whose costs sum to this
abbrev pub GoesRound : (ℕ → ℕ → Option ℤ) → List ℕ → ℤ → Type 0
GoesRound arc [] cost = ⊥
GoesRound arc (first ∷ rest) cost = walk_cost arc first rest first ≡ Some cost

abbrev pub IsValid : List Firm → List Ends → Claim → Type 0
IsValid firms trades (on_market (Equilibrium at surplus)) = IsEquilibrium firms trades (pos 1) at.on (price_at at.prices)
    × (surplus_of firms trades at.on ≡ Some surplus)
IsValid firms trades (on_market (Solved at surplus)) = IsEquilibrium firms trades (pos 1) at.on (price_at at.prices)
    × (surplus_of firms trades at.on ≡ Some surplus)
IsValid firms trades (on_market (Supported on prices)) = IsEquilibrium firms trades (pos 1) on (price_at prices)
IsValid firms trades (on_market (Better at f x gain)) =
    IsFirmWith firms f (λ firm. Gains trades (pos 1) (price_at at.prices) f firm x (part trades f firm.count at.on)
    gain) × IsPositive gain
IsValid firms trades (on_market (Impossible on f)) = IsFirmWith firms f (λ firm. firm.worth (part trades f firm.count on) ≡ None)
IsValid firms trades (on_market (Cycle on nodes cost)) = ArePossible firms trades on
    × GoesRound (exchange_arc firms trades on) (map (node_of (length trades)) nodes) cost × (cost <ℤ pos 0)
IsValid firms trades (on_market (Drops outcome f keeps gain over)) = (over ≡ outcome.over) × AreSigned trades outcome f keeps
    × IsFirmWith firms f (λ firm. GainsByKeeping trades outcome f firm keeps gain) × IfSome gain IsPositive
IsValid firms trades (on_market (CompletesIs outcome prices over)) = (over ≡ outcome.over)
    × Completes firms trades over outcome.contracts (price_at prices)
IsValid firms trades (on_market (BlocksIs outcome contracts over)) =
    Blocks firms trades outcome.over outcome.contracts over contracts
IsValid firms trades (on_firms Accepted) = (f : ℕ) (firm : Firm) → slice_get firms f ≡ Some firm → MeetsExchange firm
IsValid firms trades (on_firms (ExchangeFails f x y at)) = IsFirmWith firms f (λ firm. Fails firm x y at)
IsValid firms trades (on_firms (NoPrices plan over)) = IsPlanAgainst firms trades plan over
