-- What the program's answers keep to: how large their numbers are, and how their lists of trades are ordered.
use Rattle.std.specs.Prelude.{◌<◌, ◌≤◌, ◌^◌, ℤ, List, map, All, IfSome}
use Rattle.std.specs.List.Sorted.{IsStrictlyIncreasing}
use Rattle.tn_base.specs.Arcs.{IsAtMost}
use Rattle.tn_model.specs.Limits.{most_number, most_price}
use Rattle.tn_said.specs.declared.holding.Holding.{Holding}
use Rattle.tn_model.specs.declared.range.Range.{Range}
use Rattle.tn_said.specs.declared.session.State.{State}
use Rattle.tn_said.specs.declared.session.UnitState.{UnitState}
use Rattle.tn_said.specs.declared.units.TradeUnits.{TradeUnits}
use Rattle.tn_said.specs.declared.units.UnitHolding.{UnitHolding}
use Rattle.tn_said.specs.declared.units.UnitRange.{UnitRange}
use Rattle.tn_said.specs.declared.said.Said.{Said}
use Rattle.tn_said.specs.declared.said.Said.TheVariants.{Usage, ReadFault, NoMemory, Fault as FaultIs, Equilibrium, Better, BetterByCounts, Impossible, Accepted, ExchangeFails, Supported, SupportedByCounts, Cycle, CycleByCounts, Solved, SolvedByCounts, Drill, Ranges, RangesByCounts, Session, SessionByCounts, Drops, DropsByCounts, Completes, CompletesByCounts, Blocks, Valid, Invalid, Cases, Page as PageIs, Firms, FirmsByCounts}
use Rattle.tn_names.specs.Named.{IsAscendingTriple}
use Rattle.tn_answer.specs.ReasonText.{IsReasonWithin, HasAscendingBundles}

-- no number of a claim is above this size
abbrev pub IsWithinClaim : ℤ → Type 0
IsWithinClaim z = IsAtMost z most_number

-- no price that `support`, `solve`, `range` and `session` answer is above this size
abbrev pub IsWithinPrices : ℤ → Type 0
IsWithinPrices z = IsAtMost z most_price

-- the prices of a range, the numbers of a state, and those of what a firm has are within the limits
pub record HasWithinBounds (range : Range) : Type 0 where
  pub high : IfSome range.high IsWithinPrices
  pub low : IfSome range.low IsWithinPrices

pub record IsWithinState (state : State) : Type 0 where
  pub prices : All (λ contract. IsWithinPrices contract.price) state.prices
  pub surplus : IsWithinClaim state.surplus

pub record IsWithinHolding (holding : Holding) : Type 0 where
  pub best_utility : IsWithinClaim holding.best_utility
  pub gain : IfSome holding.gain IsWithinClaim
  pub utility : IfSome holding.utility IsWithinClaim
  pub worth : IfSome holding.worth IsWithinClaim

-- the same of trades with units, with how many units of each trade a bundle has
abbrev pub IsWithinEntry : TradeUnits → Type 0
IsWithinEntry entry = entry.units < 2 ^ 32

pub record HasWithinUnitBounds (range : UnitRange) : Type 0 where
  pub high : IfSome range.high IsWithinPrices
  pub low : IfSome range.low IsWithinPrices

pub record IsWithinUnitHolding (holding : UnitHolding) : Type 0 where
  pub best : All IsWithinEntry holding.best
  pub best_utility : IsWithinClaim holding.best_utility
  pub gain : IfSome holding.gain IsWithinClaim
  pub has : All IsWithinEntry holding.has
  pub utility : IfSome holding.utility IsWithinClaim
  pub worth : IfSome holding.worth IsWithinClaim

pub record IsWithinUnitState (state : UnitState) : Type 0 where
  pub on : All IsWithinEntry state.on
  pub prices : All (λ contract. IsWithinPrices contract.price) state.prices
  pub surplus : IsWithinClaim state.surplus

-- the numbers of an answer are within the limits of claims
abbrev pub IsWithinClaims : Said → Type 0
IsWithinClaims Usage = Unit {0}
IsWithinClaims ReadFault = Unit {0}
IsWithinClaims NoMemory = Unit {0}
IsWithinClaims (FaultIs fault) = Unit {0}
IsWithinClaims (Equilibrium surplus) = IsWithinClaim surplus
IsWithinClaims (Better firm bundle gain) = IsWithinClaim gain
IsWithinClaims (BetterByCounts firm bundle gain) = All IsWithinEntry bundle × IsWithinClaim gain
IsWithinClaims (Impossible firm) = Unit {0}
IsWithinClaims Accepted = Unit {0}
IsWithinClaims (ExchangeFails firm x y at) = Unit {0}
IsWithinClaims (Supported on prices ends) = All IsWithinPrices prices
IsWithinClaims (SupportedByCounts counts prices ends) = All (λ n. n < 2 ^ 32) counts × All IsWithinPrices prices
IsWithinClaims (Cycle nodes cost) = IsWithinClaim cost
IsWithinClaims (CycleByCounts nodes cost) = IsWithinClaim cost
IsWithinClaims (Solved on prices surplus ends) = All IsWithinPrices prices × IsWithinClaim surplus
IsWithinClaims (SolvedByCounts counts prices surplus ends) = All (λ n. n < 2 ^ 32) counts × All IsWithinPrices prices
    × IsWithinClaim surplus
IsWithinClaims (Drill size start firms surplus) = (size < 2 ^ 32) × (start < 2 ^ 32) × (firms < 2 ^ 32)
    × IsWithinClaim surplus
IsWithinClaims (Ranges on ranges ends) = All HasWithinBounds ranges
IsWithinClaims (RangesByCounts counts ranges ends) = All (λ n. n < 2 ^ 32) counts × All HasWithinUnitBounds ranges
IsWithinClaims (Session edits) = All IsWithinState edits
IsWithinClaims (SessionByCounts edits) = All IsWithinUnitState edits
IsWithinClaims (Drops firm keeps gain over) = IfSome gain IsWithinClaim × IsWithinClaim over
IsWithinClaims (DropsByCounts firm keeps gain over) = All IsWithinEntry keeps × IfSome gain IsWithinClaim
    × IsWithinClaim over
IsWithinClaims (Completes prices over) = All IsWithinClaim prices × IsWithinClaim over
IsWithinClaims (CompletesByCounts prices over) = All (λ contract. IsWithinClaim contract.price) prices
    × IsWithinClaim over
IsWithinClaims (Blocks contracts over) = All (λ contract. IsWithinClaim contract.price) contracts × IsWithinClaim over
IsWithinClaims Valid = Unit {0}
IsWithinClaims (Invalid reason) = IsReasonWithin reason
IsWithinClaims (Cases count failed) = (count < 2 ^ 32) × All (λ n. n < 2 ^ 32) failed
IsWithinClaims (PageIs page) = Unit {0}
IsWithinClaims (Firms content firms surplus) = (content < 2 ^ 32) × All IsWithinHolding firms
    × IfSome surplus IsWithinClaim
IsWithinClaims (FirmsByCounts content firms surplus) = (content < 2 ^ 32) × All IsWithinUnitHolding firms
    × IfSome surplus IsWithinClaim

-- the trades of a state that are on, and those that have a price, ascend strictly
pub record IsAscendingState (state : State) : Type 0 where
  pub on : IsStrictlyIncreasing state.on
  pub prices : IsStrictlyIncreasing (map (λ contract. contract.trade) state.prices)

-- and so do the trades that a firm has, and those of its best bundle
pub record IsAscendingHolding (holding : Holding) : Type 0 where
  pub best : IsStrictlyIncreasing holding.best
  pub has : IsStrictlyIncreasing holding.has

-- the trades of a bundle with units ascend strictly, and it has some units of each
pub record IsUnitBundle (bundle : List TradeUnits) : Type 0 where
  pub ascending : IsStrictlyIncreasing (map (λ entry. entry.trade) bundle)
  pub some : All (λ entry. 1 ≤ entry.units) bundle

pub record HasUnitBundles (holding : UnitHolding) : Type 0 where
  pub best : IsUnitBundle holding.best
  pub has : IsUnitBundle holding.has

pub record IsAscendingUnitState (state : UnitState) : Type 0 where
  pub on : IsUnitBundle state.on
  pub prices : IsStrictlyIncreasing (map (λ contract. contract.trade) state.prices)

-- each list of trades in an answer ascends strictly, and where it has units, some of each trade
abbrev pub HasAscendingTrades : Said → Type 0
HasAscendingTrades Usage = Unit {0}
HasAscendingTrades ReadFault = Unit {0}
HasAscendingTrades NoMemory = Unit {0}
HasAscendingTrades (FaultIs fault) = IfSome fault.shown IsAscendingTriple
HasAscendingTrades (Equilibrium surplus) = Unit {0}
HasAscendingTrades (Better firm bundle gain) = IsStrictlyIncreasing bundle
HasAscendingTrades (BetterByCounts firm bundle gain) = IsUnitBundle bundle
HasAscendingTrades (Impossible firm) = Unit {0}
HasAscendingTrades Accepted = Unit {0}
HasAscendingTrades (ExchangeFails firm x y at) = IsAscendingTriple (record { x = x; y = y; at = at })
HasAscendingTrades (Supported on prices ends) = IsStrictlyIncreasing on
HasAscendingTrades (SupportedByCounts counts prices ends) = Unit {0}
HasAscendingTrades (Cycle nodes cost) = Unit {0}
HasAscendingTrades (CycleByCounts nodes cost) = Unit {0}
HasAscendingTrades (Solved on prices surplus ends) = IsStrictlyIncreasing on
HasAscendingTrades (SolvedByCounts counts prices surplus ends) = Unit {0}
HasAscendingTrades (Drill size start firms surplus) = Unit {0}
HasAscendingTrades (Ranges on ranges ends) = IsStrictlyIncreasing on
HasAscendingTrades (RangesByCounts counts ranges ends) = Unit {0}
HasAscendingTrades (Session edits) = All IsAscendingState edits
HasAscendingTrades (SessionByCounts edits) = All IsAscendingUnitState edits
HasAscendingTrades (Drops firm keeps gain over) = IsStrictlyIncreasing keeps
HasAscendingTrades (DropsByCounts firm keeps gain over) = IsUnitBundle keeps
HasAscendingTrades (Completes prices over) = Unit {0}
HasAscendingTrades (CompletesByCounts prices over) = IsStrictlyIncreasing (map (λ contract. contract.trade) prices)
HasAscendingTrades (Blocks contracts over) = Unit {0}
HasAscendingTrades Valid = Unit {0}
HasAscendingTrades (Invalid reason) = HasAscendingBundles reason
HasAscendingTrades (Cases count failed) = IsStrictlyIncreasing failed
HasAscendingTrades (PageIs page) = Unit {0}
HasAscendingTrades (Firms content firms surplus) = All IsAscendingHolding firms
HasAscendingTrades (FirmsByCounts content firms surplus) = All HasUnitBundles firms
