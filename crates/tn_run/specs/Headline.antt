-- The headline: what the answer of `solve` and of `judge` is, whatever bytes they read.
use Rattle.std.specs.Prelude.{◌≡◌, ℕ, ◌⊎◌, Bool, true, false, List, Option, Ok, Err}
use Rattle.std.specs.Io.KnownBytes.{Consumes, IsAtEnd}
use Rattle.tn_commands.specs.Solve.{Solves}
use Rattle.tn_file.specs.Document.{DocumentData}
use Rattle.tn_file.specs.Readings.{AnyDocument, network, units, any_reading_of}
use Rattle.tn_io.specs.Counts.{Rose}
use Rattle.tn_read_head.specs.Beside.{Stop}
use Rattle.tn_said.specs.declared.said.Said.{Said}
use Rattle.tn_said.specs.declared.said.Said.TheVariants.{ReadFault, NoMemory, Fault}
use Rattle.tn_file.specs.declared.command.Command.{Command}
use Rattle.tn_file.specs.declared.command.Command.TheVariants.{Check, Firms, Judge, Range, Replay, Session, Solve, Support, Test}
use Rattle.tn_read_units.specs.Firms.{UnitDocument}
use Rattle.tn_run.specs.Answer.{FindsTooLong, JudgesExtra}
use Rattle.tn_unit_answers.specs.Solve.{SolvesByCounts}

-- whether the headline speaks of a command
abbrev pub is_headlined : Command → Bool
is_headlined Check = false
is_headlined Firms = false
is_headlined Judge = true
is_headlined Range = false
is_headlined Replay = false
is_headlined Session = false
is_headlined Solve = true
is_headlined Support = false
is_headlined Test = false

-- for `solve`, trades and whole prices for all trades at which every firm's bundle is among its best, so no trades have
-- more surplus and no contracts block; for `judge`, a firm that drops contracts, prices that complete an equilibrium,
-- so no trades have more surplus and no contracts block the outcome, or contracts that block it
abbrev pub IsPromised : Command → DocumentData → Said → Type 0
IsPromised Solve doc said = Solves doc.firms doc.ends said
IsPromised Judge doc said = JudgesExtra doc doc.extra said
IsPromised command doc said = ⊥

-- where trades have units, for `solve`, how many units of each go, and whole prices of a unit, at which every firm's counts
-- are among its best over all counts, so no counts have more surplus
abbrev pub IsPromisedByCounts : Command → UnitDocument → Said → Type 0
IsPromisedByCounts Solve doc said = SolvesByCounts doc said
IsPromisedByCounts command doc said = ⊥

abbrev pub IsAnyPromised : Command → AnyDocument → Said → Type 0
IsAnyPromised command (network doc) said = IsPromised command doc said
IsAnyPromised command (units doc extra) said = IsPromisedByCounts command doc said

-- the bytes stand for a document, of which the answer is what is promised
pub record KeepsPromise (command : Command) (bytes : List ℕ) (said : Said) : Type 0 where
  pub doc : AnyDocument
  pub reads : any_reading_of command bytes ≡ Ok doc
  pub promised : IsAnyPromised command doc said

-- the answer is the first fault of the bytes
pub record ShowsFault (command : Command) (bytes : List ℕ) (said : Said) : Type 0 where
  pub stop : Stop
  pub reads : any_reading_of command bytes ≡ Err stop
  pub said_is : said ≡ Fault stop.fault

-- a source was taken to its end, and its bytes have that answer
pub record AnswersInput (command : Command) (old new : Option (List ℕ)) (said : Said) : Type 0 where
  pub bytes : List ℕ
  pub taken : Consumes old new bytes
  pub end : IsAtEnd new
  pub answer : KeepsPromise command bytes said ⊎ ShowsFault command bytes said

-- the answer is what is promised; or a fault that the input shows, its length among them, or that the source shows by
-- its count of faults; or memory ran out
abbrev pub IsHeadline : Command → Option (List ℕ) → Option (List ℕ) → ℕ → ℕ → Said → Type 0
IsHeadline command old new before after said =
    AnswersInput command old new said ⊎ (FindsTooLong old new said
    ⊎ (((said ≡ ReadFault) × Rose before after) ⊎ (said ≡ NoMemory)))
