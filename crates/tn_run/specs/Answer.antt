-- What the program may say of what it read.
use Rattle.std.specs.Prelude.{◌≡◌, ◌≢◌, ℕ, ℤ, ◌+◌, ◌≤◌, ◌⊎◌, pos, List, [], length, Option, None, IfSome, Result, Ok, Err}
use Rattle.std.specs.Io.KnownBytes.{Consumes, IsAtEnd}
use Rattle.tn_said.specs.declared.fault.FaultKind.TheVariants.{TooLong}
use Rattle.tn_said.specs.declared.said.Fault.{Fault as FaultIs}
use Rattle.tn_said.specs.declared.said.Said.{Said}
use Rattle.tn_said.specs.declared.said.Said.TheVariants.{Usage, ReadFault, NoMemory, Fault, Accepted, Equilibrium}
use Rattle.tn_model.specs.Prices.{price_at}
use Rattle.tn_commands.specs.Check.{ChecksArrangement}
use Rattle.tn_io.specs.Counts.{Rose}
use Rattle.tn_io.specs.Source.{TakesFirst, TakesAtMost}
use Rattle.tn_answer.specs.Apart.{HasShortNumbers, IsNamedAnswer}
use Rattle.tn_answer.specs.Kept.{HasAscendingTrades, IsWithinClaims}
use Rattle.tn_names.specs.Names.{NameLists, IsNameList}
use Rattle.tn_read_head.specs.Beside.{Stop}
use Rattle.tn_file.specs.Document.{DocumentData, ExtraData, arrangement, on_alone, outcome, edits, claim}
use Rattle.tn_file.specs.Readings.{AnyDocument, UnitExtra, network, units, arranged, counts_on, unit_edits, any_reading_of, names_in}
use Rattle.tn_file.specs.declared.command.Command.{Command}
use Rattle.tn_file.specs.declared.command.Command.TheVariants.{Check, Firms, Judge, Range, Replay, Session, Solve, Support, Test}
use Rattle.tn_commands.specs.Implied.{IsEfficientAndStable}
use Rattle.tn_commands.specs.Replay.{DecidesClaim}
use Rattle.tn_commands.specs.Session.{TellsStates}
use Rattle.tn_commands.specs.Judge.{JudgesOutcome}
use Rattle.tn_commands.specs.Range.{TellsRanges}
use Rattle.tn_commands.specs.Solve.{Solves}
use Rattle.tn_commands.specs.Support.{SupportsSet}
use Rattle.tn_raw_answers.specs.Firms.{TellsHoldings}
use Rattle.tn_raw_answers.specs.Test.{Tests}
use Rattle.tn_read_units.specs.Firms.{UnitDocument}
use Rattle.tn_unit_answers.specs.Check.{ChecksByCounts}
use Rattle.tn_unit_answers.specs.Firms.{TellsHoldingsByCounts}
use Rattle.tn_unit_answers.specs.Range.{TellsRangesByCounts}
use Rattle.tn_unit_answers.specs.Session.{TellsUnitStates}
use Rattle.tn_unit_answers.specs.Solve.{SolvesByCounts}
use Rattle.tn_unit_answers.specs.Support.{SupportsCounts}

-- how many bytes a document may have
abbrev pub document_limit : ℕ
document_limit = 4194304

-- the verdict on the arrangement of a document, at scale 1; where that is an equilibrium, what it implies
abbrev pub ChecksExtra : DocumentData → ExtraData → Said → Type 0
ChecksExtra doc (arrangement at) said = ChecksArrangement doc.firms doc.ends (pos 1) at.on (price_at at.prices) said
    × ((surplus : ℤ) → said ≡ Equilibrium surplus → IsEfficientAndStable doc.firms doc.ends at.on (price_at at.prices))
ChecksExtra doc extra said = ⊥

-- what each firm has in the arrangement of a document, whether the firms meet exchange or not
abbrev pub FirmsExtra : DocumentData → ExtraData → Said → Type 0
FirmsExtra doc (arrangement at) said = TellsHoldings doc.firms doc.ends at.on (price_at at.prices) said
FirmsExtra doc extra said = ⊥

-- the verdict on a document's outcome
abbrev pub JudgesExtra : DocumentData → ExtraData → Said → Type 0
JudgesExtra doc (outcome signed) said = JudgesOutcome doc.firms doc.ends signed.over signed.contracts said
JudgesExtra doc extra said = ⊥

-- the decision on a document's claim
abbrev pub ReplaysExtra : DocumentData → ExtraData → Said → Type 0
ReplaysExtra doc (claim claimed) said = DecidesClaim doc.firms doc.ends claimed said
ReplaysExtra doc extra said = ⊥

-- prices for the trades of a document's arrangement that are on
abbrev pub SupportsExtra : DocumentData → ExtraData → Said → Type 0
SupportsExtra doc (on_alone on) said = SupportsSet doc.firms doc.ends on said
SupportsExtra doc extra said = ⊥

-- the states after the edits of a document
abbrev pub SessionExtra : DocumentData → ExtraData → Said → Type 0
SessionExtra doc (edits listed) said = TellsStates doc.firms doc.ends listed said
SessionExtra doc extra said = ⊥

-- the defined answer of a command on a document
abbrev pub IsAnswerOf : Command → DocumentData → Said → Type 0
IsAnswerOf Check doc said = ChecksExtra doc doc.extra said
IsAnswerOf Firms doc said = FirmsExtra doc doc.extra said
IsAnswerOf Judge doc said = JudgesExtra doc doc.extra said
IsAnswerOf Range doc said = TellsRanges doc.firms doc.ends said
IsAnswerOf Replay doc said = ReplaysExtra doc doc.extra said
IsAnswerOf Session doc said = SessionExtra doc doc.extra said
IsAnswerOf Solve doc said = Solves doc.firms doc.ends said
IsAnswerOf Support doc said = SupportsExtra doc doc.extra said
IsAnswerOf Test doc said = Tests doc.firms doc.ends said

-- the verdict on the arrangement of a document whose trades have units
abbrev pub ChecksUnits : UnitDocument → UnitExtra → Said → Type 0
ChecksUnits doc (arranged at) said = ChecksByCounts doc at.counts at.prices said
ChecksUnits doc extra said = ⊥

-- what each firm has in it
abbrev pub HoldsUnits : UnitDocument → UnitExtra → Said → Type 0
HoldsUnits doc (arranged at) said = TellsHoldingsByCounts doc at.counts at.prices said
HoldsUnits doc extra said = ⊥

-- prices for its counts
abbrev pub SupportsUnits : UnitDocument → UnitExtra → Said → Type 0
SupportsUnits doc (counts_on counts) said = SupportsCounts doc counts said
SupportsUnits doc extra said = ⊥

-- an equilibrium after each of its edits
abbrev pub SessionsUnits : UnitDocument → UnitExtra → Said → Type 0
SessionsUnits doc (unit_edits listed) said = TellsUnitStates doc listed said
SessionsUnits doc extra said = ⊥

-- the defined answer of a command on a document whose trades have units; its firms are laminar, so they meet exchange
abbrev pub IsUnitAnswerOf : Command → UnitDocument → UnitExtra → Said → Type 0
IsUnitAnswerOf Check doc extra said = ChecksUnits doc extra said
IsUnitAnswerOf Firms doc extra said = HoldsUnits doc extra said
IsUnitAnswerOf Range doc extra said = TellsRangesByCounts doc said
IsUnitAnswerOf Session doc extra said = SessionsUnits doc extra said
IsUnitAnswerOf Solve doc extra said = SolvesByCounts doc said
IsUnitAnswerOf Support doc extra said = SupportsUnits doc extra said
IsUnitAnswerOf Test doc extra said = said ≡ Accepted
IsUnitAnswerOf command doc extra said = ⊥

-- the defined answer of a command on a document of any version
abbrev pub IsAnyAnswerOf : Command → AnyDocument → Said → Type 0
IsAnyAnswerOf command (network doc) said = IsAnswerOf command doc said
IsAnyAnswerOf command (units doc extra) said = IsUnitAnswerOf command doc extra said

-- the defined answer where the bytes read so, over the names that are read
abbrev pub IsAnswerTo : Command → Result AnyDocument Stop → NameLists → Said → Type 0
IsAnswerTo command (Ok doc) names said = IsAnyAnswerOf command doc said × (names ≡ names_in doc)
IsAnswerTo command (Err stop) names said = (said ≡ Fault stop.fault) × (names ≡ stop.names)

-- the answer speaks only of firms and trades that have a name, its numbers are short and within the limits of claims,
-- its lists of trades ascend strictly, it isn't that the document is too long, and the names keep the rules
pub record KeepsRules (names : NameLists) (said : Said) : Type 0 where
  pub named : IsNamedAnswer names said
  pub short : HasShortNumbers said
  pub within : IsWithinClaims said
  pub ascending : HasAscendingTrades said
  pub not_too_long : (fault : FaultIs) → said ≡ Fault fault → fault.kind ≢ TooLong
  pub firm_names : IsNameList names.firms
  pub trade_names : IsNameList names.trades

-- the source was taken to its end, and the answer is the defined one for the bytes that it gave
pub record AnswersWhole (command : Command) (old new : Option (List ℕ)) (names : NameLists) (said : Said) : Type 0 where
  pub bytes : List ℕ
  pub few : length bytes ≤ document_limit
  pub taken : Consumes old new bytes
  pub end : IsAtEnd new
  -- a source that tells its bytes told these
  pub told : IfSome old (λ all. bytes ≡ all)
  pub answer : IsAnswerTo command (any_reading_of command bytes) names said
  pub kept : KeepsRules names said

-- that the document is too long
abbrev pub too_long : Said
too_long = Fault (record { kind = TooLong; place = []; shown = None })

-- one byte more than the limit was taken
pub record FindsTooLong (old new : Option (List ℕ)) (said : Said) : Type 0 where
  pub said_is : said ≡ too_long
  pub taken : TakesFirst old new (document_limit + 1)

-- what is said of the bytes of a source: that they are too long, or the defined answer
abbrev pub AnswersBytes : Command → Option (List ℕ) → Option (List ℕ) → NameLists → Said → Type 0
AnswersBytes command old new names said = FindsTooLong old new said ⊎ AnswersWhole command old new names said

-- what may be said after a command has read a source, by what the source told before and after, and by its counts of
-- faults; memory may run out at any time, and even then at most one byte more than the limit was taken
abbrev pub MayBeSaid : Command → Option (List ℕ) → Option (List ℕ) → ℕ → ℕ → NameLists → Said → Type 0
MayBeSaid command old new faults_old faults_new names Usage = ⊥
MayBeSaid command old new faults_old faults_new names ReadFault = Rose faults_old faults_new
    × TakesAtMost old new document_limit
MayBeSaid command old new faults_old faults_new names NoMemory = TakesAtMost old new (document_limit + 1)
MayBeSaid command old new faults_old faults_new names said = AnswersBytes command old new names said
