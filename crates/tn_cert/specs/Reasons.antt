-- Why a claim isn't valid: the first of its conditions that fails, in an order that is stated here.
use Rattle.std.specs.Prelude.{◌≡◌, ◌≢◌, ◌⊎◌, ℕ, ◌+◌, ◌<◌, ◌≤◌, ℤ, pos, ◌*ℤ◌, ◌<ℤ◌, List, [], length, map, slice_get, ◌==◌, if◌then◌else◌, true, false, Option, Some, None, option_and_then, option_map, IsSome, IfSome}
use Rattle.tn_base.specs.Sets.{has}
use Rattle.tn_base.specs.Firm.{Firm}
use Rattle.tn_base.specs.Exchange.{MeetsExchange, Fails}
use Rattle.tn_exchange.specs.TestOrder.{Triple}
use Rattle.tn_local.specs.First.{IsFirstTriple}
use Rattle.tn_said.specs.Claim.{Claim, on_market, on_firms}
use Rattle.tn_said.specs.declared.claim.MarketClaim.TheVariants.{Equilibrium, Better, Impossible, Supported, Cycle, Solved, Drops, Completes as CompletesIs, Blocks as BlocksIs}
use Rattle.tn_said.specs.declared.claim.FirmClaim.TheVariants.{Accepted, ExchangeFails, NoPrices}
use Rattle.tn_model.specs.declared.contract.Contract.{Contract}
use Rattle.tn_model.specs.declared.contract.Outcome.{Outcome}
use Rattle.tn_model.specs.declared.ends.Ends.{Ends}
use Rattle.tn_said.specs.declared.reason.Reason.{Reason}
use Rattle.tn_said.specs.declared.reason.Reason.TheVariants.{Impossible as ImpossibleIs, Better as BetterIs, Possible, Surplus, Gain, Exchange, Holds, Arc, Cost, Contract as ContractIs, Over, Price, Empty, Signed, Choice}
use Rattle.tn_model.specs.Prices.{price_at}
use Rattle.tn_model.specs.Choices.{is_of, IsChoice, together}
use Rattle.tn_said.specs.ClaimLimits.{IsFirmWith}
use Rattle.tn_market.specs.Equilibrium.{IsEquilibrium, surplus_of}
use Rattle.tn_market.specs.Graph.{exchange_arc, ArePossible}
use Rattle.tn_market.specs.Judged.{IsFirstImpossible, IsFirstBettered}
use Rattle.tn_model.specs.Network.{own, part, trades_of}
use Rattle.tn_market.specs.Signed.{is_signed, signed}
use Rattle.tn_market.specs.Supported.{IsFirstUnable}
use Rattle.tn_cert.specs.Plans.{RefutesPlan}
use Rattle.tn_cert.specs.Claims.{Gains, GainsByKeeping, IsPositive, AreSigned, node_of, GoesRound}

-- the first firm without a best bundle: its own is impossible, or another one, a best one, has more
abbrev pub LacksBest : List Firm → List Ends → ℤ → ℕ → (ℕ → ℤ) → Reason → Type 0
LacksBest firms trades scale on prices (ImpossibleIs f) = IsFirstImpossible firms trades scale on prices f
LacksBest firms trades scale on prices (BetterIs f bundle) = (x : ℕ) × (gain : ℤ)
    × (first : IsFirstBettered firms trades scale on prices f x gain) × (bundle ≡ trades_of trades f first.firm.count x)
LacksBest firms trades scale on prices reason = ⊥

-- an equilibrium first, then its surplus
abbrev pub RefutesEquilibrium : List Firm → List Ends → ℕ → (ℕ → ℤ) → ℤ → Reason → Type 0
RefutesEquilibrium firms trades on prices claimed (Surplus surplus) = IsEquilibrium firms trades (pos 1) on prices
    × (surplus_of firms trades on ≡ Some surplus) × (surplus ≢ claimed)
RefutesEquilibrium firms trades on prices claimed reason = LacksBest firms trades (pos 1) on prices reason

-- both bundles possible first, then the gain
abbrev pub RefutesBetter : List Firm → List Ends → ℕ → (ℕ → ℤ) → ℕ → ℕ → ℤ → Reason → Type 0
RefutesBetter firms trades on prices f x claimed (ImpossibleIs g) = (g ≡ f)
    × IsFirmWith firms f (λ firm. (firm.worth (part trades f firm.count on) ≡ None) ⊎ (firm.worth x ≡ None))
RefutesBetter firms trades on prices f x claimed (Gain g (Some gain)) = (g ≡ f)
    × IsFirmWith firms f (λ firm. Gains trades (pos 1) prices f firm x (part trades f firm.count on) gain)
    × (IsPositive gain → gain ≡ claimed → ⊥)
RefutesBetter firms trades on prices f x claimed reason = ⊥

-- the node after the one with index k, and after the last one the first
abbrev pub following : List ℕ → ℕ → Option ℕ
following nodes k = if k + 1 == length nodes then slice_get nodes 0 else slice_get nodes (k + 1)

-- the cost of the arc from the node with index k to the one after it
abbrev pub arc_after : (ℕ → ℕ → Option ℤ) → List ℕ → ℕ → Option ℤ
arc_after arc nodes k = option_and_then (λ u. option_and_then (arc u) (following nodes k)) (slice_get nodes k)

pub record IsFirstBreak (arc : ℕ → ℕ → Option ℤ) (nodes : List ℕ) (index : ℕ) : Type 0 where
  pub within : index < length nodes
  pub before : (k : ℕ) → k < index → IsSome (arc_after arc nodes k)
  pub broken : arc_after arc nodes index ≡ None

-- all bundles possible first, then the arcs, then their costs
abbrev pub RefutesCycle : List Firm → List Ends → ℕ → List ℕ → ℤ → Reason → Type 0
RefutesCycle firms trades on nodes claimed (ImpossibleIs f) = IsFirstUnable firms trades on f
RefutesCycle firms trades on nodes claimed (Arc index) = ArePossible firms trades on
    × IsFirstBreak (exchange_arc firms trades on) nodes index
RefutesCycle firms trades on nodes claimed (Cost cost) = ArePossible firms trades on
    × GoesRound (exchange_arc firms trades on) nodes cost × (cost <ℤ pos 0 → cost ≡ claimed → ⊥)
RefutesCycle firms trades on nodes claimed reason = ⊥

-- t is the first trade of firm f's bundle without a contract
pub record IsFirstUnsigned (trades : List Ends) (outcome : Outcome) (f keeps t : ℕ) : Type 0 where
  pub at : ℕ
  pub member : has keeps at ≡ true
  pub is : own trades f at ≡ t
  pub unsigned : is_signed outcome.contracts t ≡ false
  pub first : (k : ℕ) → has keeps k ≡ true → is_signed outcome.contracts (own trades f k) ≡ false → t ≤ own trades f k

-- the denominator first, then that all that is kept has contracts, then that it is possible, then the gain
abbrev pub RefutesDrops : List Firm → List Ends → Outcome → ℕ → ℕ → Option ℤ → ℤ → Reason → Type 0
RefutesDrops firms trades outcome f keeps claimed over (Over true_over) = (true_over ≡ outcome.over)
    × (over ≢ outcome.over)
RefutesDrops firms trades outcome f keeps claimed over (ContractIs t) = (over ≡ outcome.over)
    × IsFirstUnsigned trades outcome f keeps t
RefutesDrops firms trades outcome f keeps claimed over (ImpossibleIs g) = (over ≡ outcome.over)
    × AreSigned trades outcome f keeps × (g ≡ f) × IsFirmWith firms f (λ firm. firm.worth keeps ≡ None)
RefutesDrops firms trades outcome f keeps claimed over (Gain g gain) = (over ≡ outcome.over)
    × AreSigned trades outcome f keeps × (g ≡ f)
    × IsFirmWith firms f (λ firm. GainsByKeeping trades outcome f firm keeps gain)
    × (IfSome gain IsPositive → gain ≡ claimed → ⊥)
RefutesDrops firms trades outcome f keeps claimed over reason = ⊥

-- the contracts before index k have the prices
abbrev pub AgreeBefore : List Contract → (ℕ → ℤ) → ℕ → Type 0
AgreeBefore contracts prices k = (j : ℕ) (contract : Contract) → j < k → slice_get contracts j ≡ Some contract
    → prices contract.trade ≡ contract.price

-- the first contract whose price is another one is that on trade t
pub record IsFirstMispriced (contracts : List Contract) (prices : ℕ → ℤ) (t : ℕ) : Type 0 where
  pub at : ℕ
  pub contract : Contract
  pub is : slice_get contracts at ≡ Some contract
  pub trade : contract.trade ≡ t
  pub other : prices t ≢ contract.price
  pub before : AgreeBefore contracts prices at

-- the denominator first, then the prices of the contracts, then the equilibrium
abbrev pub RefutesCompletes : List Firm → List Ends → Outcome → (ℕ → ℤ) → ℤ → Reason → Type 0
RefutesCompletes firms trades outcome prices over (Over true_over) = (true_over ≡ outcome.over) × (over ≢ outcome.over)
RefutesCompletes firms trades outcome prices over (Price t) = (over ≡ outcome.over)
    × IsFirstMispriced outcome.contracts prices t
RefutesCompletes firms trades outcome prices over reason = (over ≡ outcome.over)
    × AgreeBefore outcome.contracts prices (length outcome.contracts)
    × LacksBest firms trades over (signed (length trades) outcome.contracts) prices reason

-- a contract over e is the same as one of an outcome
pub record IsContractOf (outcome : Outcome) (e : ℤ) (offer : Contract) : Type 0 where
  pub at : ℕ
  pub contract : Contract
  pub is : slice_get outcome.contracts at ≡ Some contract
  pub trade : offer.trade ≡ contract.trade
  pub price : offer.price *ℤ outcome.over ≡ contract.price *ℤ e

abbrev pub NoneIsSigned : Outcome → ℤ → List Contract → Type 0
NoneIsSigned outcome e offers = (k : ℕ) (offer : Contract) → slice_get offers k ≡ Some offer
    → IsContractOf outcome e offer → ⊥

-- of the contracts that are the outcome's, t is the first trade
pub record IsFirstSigned (outcome : Outcome) (e : ℤ) (offers : List Contract) (t : ℕ) : Type 0 where
  pub at : ℕ
  pub offer : Contract
  pub is : slice_get offers at ≡ Some offer
  pub trade : offer.trade ≡ t
  pub same : IsContractOf outcome e offer
  pub first : (k : ℕ) (other : Contract) → slice_get offers k ≡ Some other → IsContractOf outcome e other
      → t ≤ other.trade

-- each choice of firm f from offers and outcome together has this offer
abbrev pub IsInEveryChoice : List Ends → Outcome → ℤ → List Contract → ℕ → Firm → ℕ → Type 0
IsInEveryChoice trades outcome e offers f firm k = (x : ℕ)
    → IsChoice trades (outcome.over *ℤ e) f firm (together e offers outcome.over outcome.contracts) x → has x k ≡ true

-- firm f is the first with an own offer that isn't in each of its choices, and t the first trade of these offers
pub record IsFirstToLeave (firms : List Firm) (trades : List Ends) (outcome : Outcome) (e : ℤ) (offers : List Contract)
    (f t : ℕ) : Type 0 where
  pub before : (g : ℕ) (firm : Firm) (k : ℕ) (offer : Contract) → g < f → slice_get firms g ≡ Some firm
      → slice_get offers k ≡ Some offer → is_of trades g offer ≡ true
      → IsInEveryChoice trades outcome e offers g firm k
  pub firm : Firm
  pub is : slice_get firms f ≡ Some firm
  pub at : ℕ
  pub offer : Contract
  pub offered : slice_get offers at ≡ Some offer
  pub trade : offer.trade ≡ t
  pub own : is_of trades f offer ≡ true
  pub choice : ℕ
  pub chosen : IsChoice trades (outcome.over *ℤ e) f firm (together e offers outcome.over outcome.contracts) choice
  pub without : has choice at ≡ false
  pub earlier : (k : ℕ) (other : Contract) → slice_get offers k ≡ Some other → is_of trades f other ≡ true
      → other.trade < t
      → IsInEveryChoice trades outcome e offers f firm k

-- a contract first, then that none is the outcome's, then the choices
abbrev pub RefutesBlocks : List Firm → List Ends → Outcome → List Contract → ℤ → Reason → Type 0
RefutesBlocks firms trades outcome offers e Empty = offers ≡ []
RefutesBlocks firms trades outcome offers e (Signed t) = IsFirstSigned outcome e offers t
RefutesBlocks firms trades outcome offers e (Choice f t) = (0 < length offers) × NoneIsSigned outcome e offers
    × IsFirstToLeave firms trades outcome e offers f t
RefutesBlocks firms trades outcome offers e reason = ⊥

-- each firm before f meets exchange
abbrev pub MeetBefore : List Firm → ℕ → Type 0
MeetBefore firms f = (g : ℕ) (firm : Firm) → g < f → slice_get firms g ≡ Some firm → MeetsExchange firm

-- firm f is the first that fails exchange, with its first triple in trade numbers
pub record IsFirstToFail (firms : List Firm) (trades : List Ends) (f : ℕ) (x y : List ℕ) (at : Option ℕ) : Type 0 where
  pub before : MeetBefore firms f
  pub firm : Firm
  pub is : slice_get firms f ≡ Some firm
  pub triple : Triple
  pub first : IsFirstTriple firm triple
  pub x_is : x ≡ trades_of trades f firm.count triple.x
  pub y_is : y ≡ trades_of trades f firm.count triple.y
  pub at_is : at ≡ option_map (own trades f) triple.at

-- the reason against a claim: its first condition that fails
abbrev pub Refutes : List Firm → List Ends → Claim → Reason → Type 0
Refutes firms trades (on_market (Equilibrium at surplus)) reason =
    RefutesEquilibrium firms trades at.on (price_at at.prices) surplus reason
Refutes firms trades (on_market (Solved at surplus)) reason =
    RefutesEquilibrium firms trades at.on (price_at at.prices) surplus reason
Refutes firms trades (on_market (Supported on prices)) reason = LacksBest firms trades (pos 1) on (price_at prices) reason
Refutes firms trades (on_market (Better at f x gain)) reason = RefutesBetter firms trades at.on (price_at at.prices) f x gain reason
Refutes firms trades (on_market (Impossible on f)) (Possible g) = (g ≡ f)
    × IsFirmWith firms f (λ firm. IsSome (firm.worth (part trades f firm.count on)))
Refutes firms trades (on_market (Impossible on f)) reason = ⊥
Refutes firms trades (on_market (Cycle on nodes cost)) reason =
    RefutesCycle firms trades on (map (node_of (length trades)) nodes) cost reason
Refutes firms trades (on_market (Drops outcome f keeps gain over)) reason =
    RefutesDrops firms trades outcome f keeps gain over reason
Refutes firms trades (on_market (CompletesIs outcome prices over)) reason =
    RefutesCompletes firms trades outcome (price_at prices) over reason
Refutes firms trades (on_market (BlocksIs outcome contracts over)) reason = RefutesBlocks firms trades outcome contracts over reason
Refutes firms trades (on_firms Accepted) (Exchange f x y at) = IsFirstToFail firms trades f x y at
Refutes firms trades (on_firms Accepted) reason = ⊥
Refutes firms trades (on_firms (ExchangeFails f x y at)) Holds = IsFirmWith firms f (λ firm. Fails firm x y at → ⊥)
Refutes firms trades (on_firms (ExchangeFails f x y at)) reason = ⊥
Refutes firms trades (on_firms (NoPrices plan over)) reason = RefutesPlan firms trades plan over reason
