-- What a whole run comes to.
use Rattle.std.specs.Prelude.{◌≡◌, ℕ, ◌==◌, ◌⊎◌, List, [], ◌∷◌, length, if◌then◌else◌, Option}
use Rattle.tn_said.specs.declared.said.Said.{Said}
use Rattle.tn_said.specs.declared.said.Said.TheVariants.{Usage, ReadFault, NoMemory, Fault, Equilibrium, Better, BetterByCounts, Impossible, Accepted, ExchangeFails, Supported, SupportedByCounts, Cycle, CycleByCounts, Solved, SolvedByCounts, Drill, Ranges, RangesByCounts, Session, SessionByCounts, Drops, DropsByCounts, Completes, CompletesByCounts, Blocks, Valid, Invalid, Cases, Page as PageIs, Firms, FirmsByCounts}
use Rattle.tn_io.specs.Counts.{Rose}
use Rattle.tn_io.specs.Sink.{Grows, GrowsByPrefix}
use Rattle.tn_names.specs.Names.{NameLists}
use Rattle.tn_answer.specs.AnswerText.{answer_line}
use Rattle.tn_answer.specs.declared.layout.Layout.{Layout}
use Rattle.tn_run.specs.Status.{status_number}
use Rattle.tn_run.specs.declared.status.Status.{Status}
use Rattle.tn_run.specs.declared.status.Status.TheVariants.{Yes, Fault as FaultStatus, Usage as UsageStatus, ReadFailed, WriteFailed, NoMemory as NoMemoryStatus, No}

-- the exit status of an answer that was written whole
abbrev pub status_of : Said → Status
status_of (Equilibrium surplus) = Yes
status_of (Fault fault) = FaultStatus
status_of Usage = UsageStatus
status_of ReadFault = ReadFailed
status_of NoMemory = NoMemoryStatus
status_of (Better firm bundle gain) = No
status_of (BetterByCounts firm bundle gain) = No
status_of (Impossible firm) = No
status_of Accepted = Yes
status_of (ExchangeFails firm x y at) = No
status_of (Supported on prices ends) = Yes
status_of (SupportedByCounts counts prices ends) = Yes
status_of (Cycle nodes cost) = No
status_of (CycleByCounts nodes cost) = No
status_of (Solved on prices surplus ends) = Yes
status_of (SolvedByCounts counts prices surplus ends) = Yes
status_of (Drill size start firms surplus) = Yes
status_of (Ranges on ranges ends) = Yes
status_of (RangesByCounts counts ranges ends) = Yes
status_of (Session edits) = Yes
status_of (SessionByCounts edits) = Yes
status_of (Drops firm keeps gain over) = No
status_of (DropsByCounts firm keeps gain over) = No
status_of (Completes prices over) = Yes
status_of (CompletesByCounts prices over) = Yes
status_of (Blocks contracts over) = No
status_of Valid = Yes
status_of (Invalid reason) = No
status_of (Cases count []) = Yes
status_of (Cases count (number ∷ numbers)) = No
status_of (PageIs page) = Yes
status_of (Firms content firms surplus) = if content == length firms then Yes else No
status_of (FirmsByCounts content firms surplus) = if content == length firms then Yes else No

-- the text of the answer in a layout was written whole
pub record IsWrittenWhole (old new : Option (List ℕ)) (layout : Layout) (names : NameLists) (said : Said)
    (status : ℕ) : Type 0 where
  pub status_is : status ≡ status_number (status_of said)
  pub grown : Grows old new (answer_line layout names said)

-- a write failed, and a prefix of the text was written
pub record IsCutShort (old new : Option (List ℕ)) (faults_old faults_new : ℕ) (layout : Layout) (names : NameLists)
    (said : Said) (status : ℕ) : Type 0 where
  pub status_is : status ≡ status_number WriteFailed
  pub cause : Rose faults_old faults_new
  pub grown : GrowsByPrefix old new (answer_line layout names said)

-- what was written of an answer in a layout over some names, and the exit status
abbrev pub IsWritten : Option (List ℕ) → Option (List ℕ) → ℕ → ℕ → Layout → NameLists → Said → ℕ → Type 0
IsWritten old new faults_old faults_new layout names said status = IsWrittenWhole old new layout names said status
    ⊎ IsCutShort old new faults_old faults_new layout names said status
