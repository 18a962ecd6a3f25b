-- What is asked about a network: its command, and the part of the document that it speaks of.
use Rattle.std.specs.Prelude.{Option, Some, None}
use Rattle.tn_file.specs.Readings.{UnitExtra, no_part, arranged, counts_on, unit_edits}
use Rattle.tn_said.specs.Claim.{on_market, on_firms}
use Rattle.tn_file.specs.declared.asked.Asked.{Asked}
use Rattle.tn_file.specs.declared.asked.Asked.TheVariants.{Check, Judge, Range, Replay, Session, Solve, Support}
use Rattle.tn_file.specs.declared.asked.RawAsked.{RawAsked}
use Rattle.tn_file.specs.declared.asked.RawAsked.TheVariants.{Firms, Replay as RawReplay, Test}
use Rattle.tn_file.specs.declared.asked.UnitAsked.{UnitAsked}
use Rattle.tn_file.specs.declared.asked.UnitAsked.TheVariants.{Check as UnitCheck, Firms as UnitFirms, Range as UnitRange, Session as UnitSession, Solve as UnitSolve, Support as UnitSupport, Test as UnitTest}
use Rattle.tn_file.specs.declared.command.UnitCommand.{UnitCommand}
use Rattle.tn_file.specs.declared.command.UnitCommand.TheVariants.{Check as AskCheck, Firms as AskFirms, Range as AskRange, Session as AskSession, Solve as AskSolve, Support as AskSupport, Test as AskTest}
use Rattle.tn_file.specs.declared.command.Command.{Command}
use Rattle.tn_file.specs.declared.command.Command.TheVariants.{Check as CheckIs, Firms as FirmsIs, Judge as JudgeIs, Range as RangeIs, Replay as ReplayIs, Session as SessionIs, Solve as SolveIs, Support as SupportIs, Test as TestIs}
use Rattle.tn_file.specs.Document.{ExtraData, nothing, arrangement, on_alone, outcome, edits, claim}

abbrev pub asked_by : Asked → Command
asked_by (Check at) = CheckIs
asked_by (Judge signed) = JudgeIs
asked_by Range = RangeIs
asked_by (Replay read) = ReplayIs
asked_by (Session listed) = SessionIs
asked_by Solve = SolveIs
asked_by (Support on) = SupportIs

abbrev pub part_of : Asked → ExtraData
part_of (Check at) = arrangement (record { on = at.on; prices = at.prices })
part_of (Judge signed) = outcome signed
part_of Range = nothing
part_of (Replay read) = claim (on_market read)
part_of (Session listed) = edits listed
part_of Solve = nothing
part_of (Support on) = on_alone on

abbrev pub raw_asked_by : RawAsked → Command
raw_asked_by (Firms at) = FirmsIs
raw_asked_by (RawReplay read) = ReplayIs
raw_asked_by Test = TestIs

abbrev pub raw_part_of : RawAsked → ExtraData
raw_part_of (Firms at) = arrangement (record { on = at.on; prices = at.prices })
raw_part_of (RawReplay read) = claim (on_firms read)
raw_part_of Test = nothing

abbrev pub unit_asked_by : UnitAsked → Command
unit_asked_by (UnitCheck at) = CheckIs
unit_asked_by (UnitFirms at) = FirmsIs
unit_asked_by UnitRange = RangeIs
unit_asked_by (UnitSession listed) = SessionIs
unit_asked_by UnitSolve = SolveIs
unit_asked_by (UnitSupport counts) = SupportIs
unit_asked_by UnitTest = TestIs

abbrev pub unit_part_of : UnitAsked → UnitExtra
unit_part_of (UnitCheck at) = arranged (record { counts = at.counts.items; prices = at.prices.items })
unit_part_of (UnitFirms at) = arranged (record { counts = at.counts.items; prices = at.prices.items })
unit_part_of UnitRange = no_part
unit_part_of (UnitSession listed) = unit_edits listed
unit_part_of UnitSolve = no_part
unit_part_of (UnitSupport counts) = counts_on counts.items
unit_part_of UnitTest = no_part

-- the command that asks for it
abbrev pub command_for : UnitCommand → Command
command_for AskCheck = CheckIs
command_for AskFirms = FirmsIs
command_for AskRange = RangeIs
command_for AskSession = SessionIs
command_for AskSolve = SolveIs
command_for AskSupport = SupportIs
command_for AskTest = TestIs

-- what a command asks about a document whose trades have units, none where it answers none
abbrev pub unit_command : Command → Option UnitCommand
unit_command CheckIs = Some AskCheck
unit_command FirmsIs = Some AskFirms
unit_command JudgeIs = None
unit_command RangeIs = Some AskRange
unit_command ReplayIs = None
unit_command SessionIs = Some AskSession
unit_command SolveIs = Some AskSolve
unit_command SupportIs = Some AskSupport
unit_command TestIs = Some AskTest
