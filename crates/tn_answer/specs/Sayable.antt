-- Which answers can be written: their numbers fit 64 bits.
use Rattle.std.specs.Prelude.{◌<◌, ◌^◌, All, IfSome, FitsSigned}
use Rattle.std.specs.Int.{w64}
use Rattle.tn_said.specs.declared.holding.Holding.{Holding}
use Rattle.tn_model.specs.declared.range.Range.{Range}
use Rattle.tn_said.specs.declared.session.State.{State}
use Rattle.tn_said.specs.declared.session.UnitState.{UnitState}
use Rattle.tn_said.specs.declared.units.TradeUnits.{TradeUnits}
use Rattle.tn_said.specs.declared.units.UnitHolding.{UnitHolding}
use Rattle.tn_said.specs.declared.units.UnitRange.{UnitRange}
use Rattle.tn_said.specs.declared.said.Said.{Said}
use Rattle.tn_said.specs.declared.said.Said.TheVariants.{Usage, ReadFault, NoMemory, Fault as FaultIs, Equilibrium, Better, BetterByCounts, Impossible, Accepted, ExchangeFails, Supported, SupportedByCounts, Cycle, CycleByCounts, Solved, SolvedByCounts, Drill, Ranges, RangesByCounts, Session, SessionByCounts, Drops, DropsByCounts, Completes, CompletesByCounts, Blocks, Valid, Invalid, Cases, Page as PageIs, Firms, FirmsByCounts}
use Rattle.tn_answer.specs.ReasonText.{IsShortReason}

-- the numbers of a range, of a state, and of what a firm has fit 64 bits
pub record HasShortBounds (range : Range) : Type 0 where
  pub high : IfSome range.high (FitsSigned w64)
  pub low : IfSome range.low (FitsSigned w64)

pub record IsShortState (state : State) : Type 0 where
  pub prices : All (λ contract. FitsSigned w64 contract.price) state.prices
  pub surplus : FitsSigned w64 state.surplus

pub record IsShortHolding (holding : Holding) : Type 0 where
  pub best_utility : FitsSigned w64 holding.best_utility
  pub gain : IfSome holding.gain (FitsSigned w64)
  pub utility : IfSome holding.utility (FitsSigned w64)
  pub worth : IfSome holding.worth (FitsSigned w64)

-- and so do the numbers of trades with units, and how many units of each trade a bundle has
abbrev pub IsShortEntry : TradeUnits → Type 0
IsShortEntry entry = entry.units < 2 ^ 64

pub record HasShortUnitBounds (range : UnitRange) : Type 0 where
  pub high : IfSome range.high (FitsSigned w64)
  pub low : IfSome range.low (FitsSigned w64)

pub record IsShortUnitHolding (holding : UnitHolding) : Type 0 where
  pub best : All IsShortEntry holding.best
  pub best_utility : FitsSigned w64 holding.best_utility
  pub gain : IfSome holding.gain (FitsSigned w64)
  pub has : All IsShortEntry holding.has
  pub utility : IfSome holding.utility (FitsSigned w64)
  pub worth : IfSome holding.worth (FitsSigned w64)

pub record IsShortUnitState (state : UnitState) : Type 0 where
  pub on : All IsShortEntry state.on
  pub prices : All (λ contract. FitsSigned w64 contract.price) state.prices
  pub surplus : FitsSigned w64 state.surplus

abbrev pub IsSayable : Said → Type 0
IsSayable Usage = Unit {0}
IsSayable ReadFault = Unit {0}
IsSayable NoMemory = Unit {0}
IsSayable (FaultIs fault) = Unit {0}
IsSayable (Equilibrium surplus) = FitsSigned w64 surplus
IsSayable (Better firm bundle gain) = FitsSigned w64 gain
IsSayable (BetterByCounts firm bundle gain) = All IsShortEntry bundle × FitsSigned w64 gain
IsSayable (Impossible firm) = Unit {0}
IsSayable Accepted = Unit {0}
IsSayable (ExchangeFails firm x y at) = Unit {0}
IsSayable (Supported on prices ends) = All (FitsSigned w64) prices
IsSayable (SupportedByCounts counts prices ends) = All (λ n. n < 2 ^ 64) counts × All (FitsSigned w64) prices
IsSayable (Cycle nodes cost) = FitsSigned w64 cost
IsSayable (CycleByCounts nodes cost) = FitsSigned w64 cost
IsSayable (Solved on prices surplus ends) = All (FitsSigned w64) prices × FitsSigned w64 surplus
IsSayable (SolvedByCounts counts prices surplus ends) = All (λ n. n < 2 ^ 64) counts × All (FitsSigned w64) prices
    × FitsSigned w64 surplus
IsSayable (Drill size start firms surplus) = (size < 2 ^ 64) × (start < 2 ^ 64) × (firms < 2 ^ 64)
    × FitsSigned w64 surplus
IsSayable (Ranges on ranges ends) = All HasShortBounds ranges
IsSayable (RangesByCounts counts ranges ends) = All (λ n. n < 2 ^ 64) counts × All HasShortUnitBounds ranges
IsSayable (Session edits) = All IsShortState edits
IsSayable (SessionByCounts edits) = All IsShortUnitState edits
IsSayable (Drops firm keeps gain over) = IfSome gain (FitsSigned w64) × FitsSigned w64 over
IsSayable (DropsByCounts firm keeps gain over) = All IsShortEntry keeps × IfSome gain (FitsSigned w64)
    × FitsSigned w64 over
IsSayable (Completes prices over) = All (FitsSigned w64) prices × FitsSigned w64 over
IsSayable (CompletesByCounts prices over) = All (λ contract. FitsSigned w64 contract.price) prices × FitsSigned w64 over
IsSayable (Blocks contracts over) = All (λ contract. FitsSigned w64 contract.price) contracts × FitsSigned w64 over
IsSayable Valid = Unit {0}
IsSayable (Invalid reason) = IsShortReason reason
IsSayable (Cases count failed) = (count < 2 ^ 64) × All (λ n. n < 2 ^ 64) failed
IsSayable (PageIs page) = Unit {0}
IsSayable (Firms content firms surplus) = (content < 2 ^ 64) × All IsShortHolding firms
    × IfSome surplus (FitsSigned w64)
IsSayable (FirmsByCounts content firms surplus) = (content < 2 ^ 64) × All IsShortUnitHolding firms
    × IfSome surplus (FitsSigned w64)
