-- What is claimed of a network.
use Rattle.std.specs.Prelude.{Bool, true, false}
use Rattle.tn_said.specs.declared.claim.FirmClaim.{FirmClaim}
use Rattle.tn_said.specs.declared.claim.MarketClaim.{MarketClaim}

-- a claim is one on a market, whose firms meet exchange, or one on firms as they are listed
pub data Claim : Type 0 where
  on_market : MarketClaim → Claim
  on_firms : FirmClaim → Claim

-- whether its network is read raw: as firms that are listed
abbrev pub is_raw : Claim → Bool
is_raw (on_market claim) = false
is_raw (on_firms claim) = true
