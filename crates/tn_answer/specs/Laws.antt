-- What holds of every answer's text.
use Rattle.std.specs.Prelude.{◌≡◌, ℕ, Bool, true, false, ◌&&◌, ◌==◌, List, [], ◌∷◌, Option, None, Some, is_none}
use Rattle.std.specs.List.{list_all}
use Rattle.tn_said.specs.declared.place.PlaceStep.{PlaceStep}
use Rattle.tn_said.specs.declared.place.PlaceStep.TheVariants.{Key, Index, Trade}
use Rattle.tn_said.specs.declared.said.Shown.{Shown}
use Rattle.tn_said.specs.declared.session.State.{State}
use Rattle.tn_said.specs.declared.session.UnitState.{UnitState}
use Rattle.tn_said.specs.declared.said.Said.{Said}
use Rattle.tn_said.specs.declared.said.Said.TheVariants.{Usage, ReadFault, NoMemory, Fault as FaultIs, Equilibrium, Better, BetterByCounts, Impossible, Accepted, ExchangeFails, Supported, SupportedByCounts, Cycle, CycleByCounts, Solved, SolvedByCounts, Drill, Ranges, RangesByCounts, Session, SessionByCounts, Drops, DropsByCounts, Completes, CompletesByCounts, Blocks, Valid, Invalid, Cases, Page as PageIs, Firms, FirmsByCounts}
use Rattle.tn_names.specs.Names.{NameLists}
use Rattle.tn_answer.specs.ReasonText.{reason_names_nothing}
use Rattle.tn_answer.specs.Sayable.{IsSayable}
use Rattle.tn_answer.specs.Kept.{IsWithinClaims}
use Rattle.tn_answer.specs.AnswerText.{answer_line}
use Rattle.tn_answer.specs.declared.layout.Layout.{Layout}

abbrev pub names_no_trade_at : PlaceStep → Bool
names_no_trade_at (Key word) = true
names_no_trade_at (Index k) = true
names_no_trade_at (Trade t) = false

abbrev pub are_none : List ℕ → Bool
are_none [] = true
are_none (k ∷ ks) = false

abbrev pub is_empty : {A : Type 0} → List A → Bool
is_empty [] = true
is_empty (x ∷ xs) = false

-- no trade has a unit
abbrev pub has_no_units : List ℕ → Bool
has_no_units counts = list_all (λ n. n == 0) counts

abbrev pub state_names_nothing : State → Bool
state_names_nothing state = are_none state.on && is_empty state.prices

abbrev pub unit_state_names_nothing : UnitState → Bool
unit_state_names_nothing state = is_empty state.on && is_empty state.prices

abbrev pub names_no_trade_in : Option Shown → Bool
names_no_trade_in None = true
names_no_trade_in (Some shown) = are_none shown.x && are_none shown.y && is_none shown.at

-- whether an answer names no firm and no trade
abbrev pub names_nothing : Said → Bool
names_nothing Usage = true
names_nothing ReadFault = true
names_nothing NoMemory = true
names_nothing (FaultIs fault) = list_all names_no_trade_at fault.place && names_no_trade_in fault.shown
names_nothing (Equilibrium surplus) = true
names_nothing (Better firm bundle gain) = false
names_nothing (BetterByCounts firm bundle gain) = false
names_nothing (Impossible firm) = false
names_nothing Accepted = true
names_nothing (ExchangeFails firm x y at) = false
names_nothing (Supported on prices ends) = is_empty prices
names_nothing (SupportedByCounts counts prices ends) = is_empty prices
names_nothing (Cycle nodes cost) = list_all is_none nodes
names_nothing (CycleByCounts nodes cost) = list_all is_none nodes
names_nothing (Solved on prices surplus ends) = are_none on && is_empty prices
names_nothing (SolvedByCounts counts prices surplus ends) = has_no_units counts && is_empty prices
names_nothing (Drill size start firms surplus) = true
names_nothing (Ranges on ranges ends) = are_none on && is_empty ranges
names_nothing (RangesByCounts counts ranges ends) = has_no_units counts && is_empty ranges
names_nothing (Session edits) = list_all state_names_nothing edits
names_nothing (SessionByCounts edits) = list_all unit_state_names_nothing edits
names_nothing (Drops firm keeps gain over) = false
names_nothing (DropsByCounts firm keeps gain over) = false
names_nothing (Completes prices over) = is_empty prices
names_nothing (CompletesByCounts prices over) = is_empty prices
names_nothing (Blocks contracts over) = is_empty contracts
names_nothing Valid = true
names_nothing (Invalid reason) = reason_names_nothing reason
names_nothing (Cases count failed) = true
names_nothing (PageIs page) = true
names_nothing (Firms content firms surplus) = is_empty firms
names_nothing (FirmsByCounts content firms surplus) = is_empty firms

-- the text of such an answer is the same over any names, in each layout
abbrev pub NeedsNoNames : Type 0
NeedsNoNames = (layout : Layout) (said : Said) (names others : NameLists) → names_nothing said ≡ true
    → answer_line layout names said ≡ answer_line layout others said

-- an answer within the limits of claims can be written
abbrev pub IsSayableWithinClaims : Type 0
IsSayableWithinClaims = (said : Said) → IsWithinClaims said → IsSayable said
