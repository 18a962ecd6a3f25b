-- What holds of every claim that is read, and of every fault of one, in words that know nothing of the reading.
use Rattle.std.specs.Prelude.{◌≡◌, ◌≤◌, pos, ◌≤ℤ◌, List, length, All, Bool, true, false, Ok, Err}
use Rattle.serde_json.specs.Data.{Data}
use Rattle.tn_said.specs.declared.fault.FaultKind.{FaultKind}
use Rattle.tn_said.specs.declared.fault.FaultKind.TheVariants.{NotJson, TooLong, Shape, BadName, SameName, UnknownFirm, SelfTrade, UnknownTrade, Limit, AmountRange, NotOwnTrade, SameBundle, NoEmpty, NotLaminar, NotConcave, ExchangeFails, SameTrade, PriceMissing, BadOver, SamePair}
use Rattle.tn_base.specs.Firm.{Firm}
use Rattle.tn_said.specs.declared.said.Fault.{Fault}
use Rattle.tn_said.specs.Claim.{Claim, is_raw, on_market, on_firms}
use Rattle.tn_said.specs.declared.claim.MarketClaim.TheVariants.{Cycle, Drops, Completes, Blocks}
use Rattle.tn_said.specs.declared.claim.FirmClaim.TheVariants.{NoPrices}
use Rattle.tn_model.specs.declared.limits.Limits.{Limits}
use Rattle.tn_said.specs.ClaimLimits.{IsClaimWithin}
use Rattle.tn_model.specs.Network.{IsNetwork}
use Rattle.tn_read_references.specs.Ordered.{Listed, AreTrades}
use Rattle.tn_read_claims.specs.Claimed.{claim_of, claims_raw}

-- a claim of a document whose firms and trades are a network speaks of its firms, trades and positions, within the
-- limits of claims
abbrev pub ClaimsAreWithin : Type 0
ClaimsAreWithin = (listed : Listed) (firms : List Firm) (top : Data) (claim : Claim) → AreTrades listed
    → length listed.names.firms ≡ length firms → IsNetwork firms listed.ends
    → claim_of listed top ≡ Ok claim → IsClaimWithin firms listed.ends claim

-- the nodes of a claim, its denominator and its weights are within some limits
abbrev pub KeepsClaimLimits : Limits → Claim → Type 0
KeepsClaimLimits limits (on_market (Cycle on nodes cost)) = length nodes ≤ limits.nodes
KeepsClaimLimits limits (on_market (Drops outcome f keeps gain over)) = over ≤ℤ pos limits.claimed_over
KeepsClaimLimits limits (on_market (Completes outcome prices over)) = over ≤ℤ pos limits.claimed_over
KeepsClaimLimits limits (on_market (Blocks outcome contracts over)) = over ≤ℤ pos limits.claimed_over
KeepsClaimLimits limits (on_firms (NoPrices plan over)) = (over ≤ℤ pos limits.claimed_over)
    × All (λ part. part.weight ≤ℤ pos limits.claimed_over) plan
KeepsClaimLimits limits claim = Unit {0}

-- they are within the limits of its document
abbrev pub ClaimsKeepLimits : Type 0
ClaimsKeepLimits = (listed : Listed) (top : Data) (claim : Claim) → claim_of listed top ≡ Ok claim
    → KeepsClaimLimits listed.limits claim

-- whether its network is read raw is told before it is read
abbrev pub RawClaimsAreTold : Type 0
RawClaimsAreTold = (listed : Listed) (top : Data) (claim : Claim) → claim_of listed top ≡ Ok claim
    → claims_raw top ≡ is_raw claim

-- the kinds of faults that a claim, or the part that it speaks of, may have
abbrev pub is_claim_fault : FaultKind → Bool
is_claim_fault NotJson = false
is_claim_fault TooLong = false
is_claim_fault Shape = true
is_claim_fault BadName = false
is_claim_fault SameName = false
is_claim_fault UnknownFirm = true
is_claim_fault SelfTrade = false
is_claim_fault UnknownTrade = true
is_claim_fault Limit = true
is_claim_fault AmountRange = true
is_claim_fault NotOwnTrade = true
is_claim_fault SameBundle = false
is_claim_fault NoEmpty = false
is_claim_fault NotLaminar = false
is_claim_fault NotConcave = false
is_claim_fault ExchangeFails = false
is_claim_fault SameTrade = true
is_claim_fault PriceMissing = true
is_claim_fault BadOver = true
is_claim_fault SamePair = false

abbrev pub FaultsOfClaims : Type 0
FaultsOfClaims = (listed : Listed) (top : Data) (fault : Fault) → claim_of listed top ≡ Err fault
    → is_claim_fault fault.kind ≡ true
