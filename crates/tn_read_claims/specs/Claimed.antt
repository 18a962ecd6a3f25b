-- The claim of a document: an object as answers are, which is read after the part of the document that it speaks of.
use Rattle.std.specs.Prelude.{nat_le, length, codes, Bool, true, false, Some, Result, Ok}
use Rattle.serde_json.specs.Data.{Data}
use Rattle.serde_json.specs.Find.{get}
use Rattle.tn_said.specs.declared.fault.FaultKind.TheVariants.{Shape, Limit}
use Rattle.tn_model.specs.Limits.{most_planned_trades}
use Rattle.tn_said.specs.Claim.{Claim, on_market, on_firms}
use Rattle.tn_said.specs.declared.claim.FirmClaim.{FirmClaim}
use Rattle.tn_said.specs.declared.claim.FirmClaim.TheVariants.{Accepted, ExchangeFails, NoPrices}
use Rattle.tn_said.specs.declared.claim.MarketClaim.{MarketClaim}
use Rattle.tn_said.specs.declared.claim.MarketClaim.TheVariants.{Equilibrium, Better, Impossible, Supported, Cycle, Solved, Drops, Completes, Blocks}
use Rattle.tn_said.specs.declared.place.Word.TheVariants.{Answer, At, Bundle, Cost, Gain, Keeps, Surplus, X, Y}
use Rattle.tn_said.specs.declared.said.Fault.{Fault}
use Rattle.tn_read_shapes.specs.declared.claims.ClaimKind.{ClaimKind}
use Rattle.tn_read_shapes.specs.declared.claims.ClaimKind.TheVariants.{OnMarket, OnFirms}
use Rattle.tn_read_shapes.specs.declared.claims.FirmClaimKind.{FirmClaimKind}
use Rattle.tn_read_shapes.specs.declared.claims.FirmClaimKind.TheVariants.{Accepted as AcceptedKind, ExchangeFails as ExchangeFailsKind, NoPrices as NoPricesKind}
use Rattle.tn_read_shapes.specs.declared.claims.MarketClaimKind.{MarketClaimKind}
use Rattle.tn_read_shapes.specs.declared.claims.MarketClaimKind.TheVariants.{Equilibrium as EquilibriumKind, Better as BetterKind, Impossible as ImpossibleKind, Supported as SupportedKind, Cycle as CycleKind, Solved as SolvedKind, Drops as DropsKind, Completes as CompletesKind, Blocks as BlocksKind}
use Rattle.tn_read_shapes.specs.declared.members.ObjectKind.TheVariants.{Claim as ClaimObject}
use Rattle.tn_read_shapes.specs.Claims.{claim_named}
use Rattle.tn_read_shapes.specs.Reading.{◌>>=◌, holds, wanted}
use Rattle.tn_read_shapes.specs.Shapes.{object_at, object_of, text_at}
use Rattle.tn_read_references.specs.Ordered.{Listed}
use Rattle.tn_read_parts.specs.Arranged.{arrangement_of, trades_on_of}
use Rattle.tn_read_parts.specs.Signed.{outcome_of}
use Rattle.tn_read_claims.specs.Members.{claim_place, member_place, claimed_number, gain_or_null, claimed_firm, claimed_bundle, own_or_null, claimed_over, claimed_on, claimed_prices, claimed_nodes, claimed_contracts}
use Rattle.tn_read_claims.specs.Planned.{claimed_plan}

-- a claim of a kind has the members of its answer alone
abbrev pub frame_of : ClaimKind → Data → Result (Unit {0}) Fault
frame_of kind claim = object_of (ClaimObject kind) claim_place (Some claim)

-- Each kind: the extra part that it speaks of, its allowed members, and then these in the order of their bytes, but the
-- firm before its position and its bundle.
unfoldable pub equilibrium_of : Listed → Data → Data → Result MarketClaim Fault
equilibrium_of listed top claim = do
  at ← arrangement_of listed top
  frame ← frame_of (OnMarket EquilibriumKind) claim
  surplus ← claimed_number listed Surplus (get (codes "surplus") claim)
  Ok (Equilibrium (record { on = at.on; prices = at.prices }) surplus)

unfoldable pub better_of : Listed → Data → Data → Result MarketClaim Fault
better_of listed top claim = do
  at ← arrangement_of listed top
  frame ← frame_of (OnMarket BetterKind) claim
  firm ← claimed_firm listed.names.firms claim
  bundle ← claimed_bundle listed firm Bundle (get (codes "bundle") claim)
  gain ← claimed_number listed Gain (get (codes "gain") claim)
  Ok (Better (record { on = at.on; prices = at.prices }) firm bundle gain)

unfoldable pub impossible_of : Listed → Data → Data → Result MarketClaim Fault
impossible_of listed top claim = do
  on ← trades_on_of listed.names.trades top
  frame ← frame_of (OnMarket ImpossibleKind) claim
  firm ← claimed_firm listed.names.firms claim
  Ok (Impossible on firm)

unfoldable pub accepted_of : Data → Result FirmClaim Fault
accepted_of claim = do
  frame ← frame_of (OnFirms AcceptedKind) claim
  Ok Accepted

unfoldable pub failure_of : Listed → Data → Result FirmClaim Fault
failure_of listed claim = do
  frame ← frame_of (OnFirms ExchangeFailsKind) claim
  firm ← claimed_firm listed.names.firms claim
  at ← own_or_null listed firm (member_place At) (get (codes "at") claim)
  x ← claimed_bundle listed firm X (get (codes "x") claim)
  y ← claimed_bundle listed firm Y (get (codes "y") claim)
  Ok (ExchangeFails firm x y at)

unfoldable pub supported_of : Listed → Data → Data → Result MarketClaim Fault
supported_of listed top claim = do
  on ← trades_on_of listed.names.trades top
  frame ← frame_of (OnMarket SupportedKind) claim
  prices ← claimed_prices listed claim
  Ok (Supported on prices)

unfoldable pub cycle_of : Listed → Data → Data → Result MarketClaim Fault
cycle_of listed top claim = do
  on ← trades_on_of listed.names.trades top
  frame ← frame_of (OnMarket CycleKind) claim
  cost ← claimed_number listed Cost (get (codes "cost") claim)
  nodes ← claimed_nodes listed claim
  Ok (Cycle on nodes cost)

unfoldable pub solved_of : Listed → Data → Result MarketClaim Fault
solved_of listed claim = do
  frame ← frame_of (OnMarket SolvedKind) claim
  on ← claimed_on listed.names.trades claim
  prices ← claimed_prices listed claim
  surplus ← claimed_number listed Surplus (get (codes "surplus") claim)
  Ok (Solved (record { on = on; prices = prices }) surplus)

unfoldable pub drops_of : Listed → Data → Data → Result MarketClaim Fault
drops_of listed top claim = do
  outcome ← outcome_of listed top
  frame ← frame_of (OnMarket DropsKind) claim
  firm ← claimed_firm listed.names.firms claim
  gain ← gain_or_null listed (get (codes "gain") claim)
  keeps ← claimed_bundle listed firm Keeps (get (codes "keeps") claim)
  over ← claimed_over listed claim
  Ok (Drops outcome firm keeps gain over)

unfoldable pub completes_of : Listed → Data → Data → Result MarketClaim Fault
completes_of listed top claim = do
  outcome ← outcome_of listed top
  frame ← frame_of (OnMarket CompletesKind) claim
  over ← claimed_over listed claim
  prices ← claimed_prices listed claim
  Ok (Completes outcome prices over)

unfoldable pub blocks_of : Listed → Data → Data → Result MarketClaim Fault
blocks_of listed top claim = do
  outcome ← outcome_of listed top
  frame ← frame_of (OnMarket BlocksKind) claim
  contracts ← claimed_contracts listed claim
  over ← claimed_over listed claim
  Ok (Blocks outcome contracts over)

-- a plan is held against every set of trades: a document of more trades than that serves for is refused before the
-- claim's members are read
unfoldable pub no_prices_of : Listed → Data → Result FirmClaim Fault
no_prices_of listed claim = do
  few ← holds Limit claim_place (nat_le (length listed.ends) most_planned_trades)
  frame ← frame_of (OnFirms NoPricesKind) claim
  over ← claimed_over listed claim
  plan ← claimed_plan listed claim
  Ok (NoPrices plan over)

abbrev pub market_claim_by : Listed → MarketClaimKind → Data → Data → Result MarketClaim Fault
market_claim_by listed EquilibriumKind top claim = equilibrium_of listed top claim
market_claim_by listed BetterKind top claim = better_of listed top claim
market_claim_by listed ImpossibleKind top claim = impossible_of listed top claim
market_claim_by listed SupportedKind top claim = supported_of listed top claim
market_claim_by listed CycleKind top claim = cycle_of listed top claim
market_claim_by listed SolvedKind top claim = solved_of listed claim
market_claim_by listed DropsKind top claim = drops_of listed top claim
market_claim_by listed CompletesKind top claim = completes_of listed top claim
market_claim_by listed BlocksKind top claim = blocks_of listed top claim

abbrev pub firm_claim_by : Listed → FirmClaimKind → Data → Result FirmClaim Fault
firm_claim_by listed AcceptedKind claim = accepted_of claim
firm_claim_by listed ExchangeFailsKind claim = failure_of listed claim
firm_claim_by listed NoPricesKind claim = no_prices_of listed claim

abbrev pub claim_by : Listed → ClaimKind → Data → Data → Result Claim Fault
claim_by listed (OnMarket kind) top claim = do
  read ← market_claim_by listed kind top claim
  Ok (on_market read)
claim_by listed (OnFirms kind) top claim = do
  read ← firm_claim_by listed kind claim
  Ok (on_firms read)

-- the kind of a claim, by its answer
unfoldable pub kind_of : Data → Result ClaimKind Fault
kind_of claim = do
  answer ← text_at (member_place Answer) (get (codes "answer") claim)
  wanted Shape (member_place Answer) (claim_named answer)

-- the claim of a document, with its kind
unfoldable pub named_claim : Data → Result (ClaimKind × Data) Fault
named_claim top = do
  claim ← wanted Shape claim_place (get (codes "claim") top)
  object ← object_at claim_place (Some claim)
  kind ← kind_of claim
  Ok (kind, claim)

unfoldable pub claim_of : Listed → Data → Result Claim Fault
claim_of listed top = do
  named ← named_claim top
  claim_by listed named.0 top named.1

-- a claim on firms is made of them as they are listed, whether they meet exchange or not
abbrev pub is_on_firms : Result (ClaimKind × Data) Fault → Bool
is_on_firms (Ok (OnFirms kind, claim)) = true
is_on_firms named = false

-- whether a document's claim is one on firms, by its answer
abbrev pub claims_raw : Data → Bool
claims_raw top = is_on_firms (named_claim top)
