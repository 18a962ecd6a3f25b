-- What runs answer to documents whose trades have units.
use Rattle.std.proofs.Common.{◌≡◌, ℕ, List, refl, ℤ}
use Rattle.std.specs.Prelude.{Result, Ok, Err}
use Rattle.tn_model.specs.declared.ends.Ends.{Ends}
use Rattle.tn_file.specs.Readings.{AnyDocument, any_reading_of, network, units}
use Rattle.tn_file.specs.declared.command.Command.TheVariants.{Range, Solve}
use Rattle.tn_names.specs.Names.{NameLists}
use Rattle.tn_read_head.specs.Beside.{Stop}
use Rattle.tn_run.specs.Answer.{IsAnswerTo}
use Rattle.tn_said.specs.declared.said.Said.TheVariants.{RangesByCounts, SolvedByCounts}
use Rattle.tn_said.specs.declared.units.UnitRange.{UnitRange}
use Rattle.tn_unit_run_laws.specs.Laws.{ReadsUnits}
use Rattle.tn_unit_run_laws.specs.Runs.{RangesUnits, RunsSpeakOfUnits, SolvesUnits}
use Rattle.tn_unit_run_laws.proofs.AnswerLemmas.{are_stable, ranges_are}

solved_by : (bytes : List ℕ) (names : NameLists) (counts : List ℕ) (prices : List ℤ) (surplus : ℤ) (ends : List Ends)
    (read : Result AnyDocument Stop) → any_reading_of Solve bytes ≡ read
    → IsAnswerTo Solve read names (SolvedByCounts counts prices surplus ends) → SolvesUnits bytes counts prices
solved_by bytes names counts prices surplus ends (Ok (network doc)) reads answer = absurd answer.0
solved_by bytes names counts prices surplus ends (Ok (units doc extra)) reads answer =
    let stands : ReadsUnits bytes doc = record { command = Solve; extra = extra; reads = reads } in
    record {
      doc = doc;
      reads = stands;
      stable = are_stable.solved bytes doc counts prices surplus ends stands answer.0;
    }
solved_by bytes names counts prices surplus ends (Err stop) reads answer = absurd (cc (answer.0))

ranged_by : (bytes : List ℕ) (names : NameLists) (counts : List ℕ) (ranges : List UnitRange) (ends : List Ends)
    (read : Result AnyDocument Stop) → any_reading_of Range bytes ≡ read
    → IsAnswerTo Range read names (RangesByCounts counts ranges ends) → RangesUnits bytes ranges
ranged_by bytes names counts ranges ends (Ok (network doc)) reads answer = absurd answer.0
ranged_by bytes names counts ranges ends (Ok (units doc extra)) reads answer =
    let stands : ReadsUnits bytes doc = record { command = Range; extra = extra; reads = reads } in
    record { doc = doc; reads = stands; each = ranges_are bytes doc counts ranges ends stands answer.0 }
ranged_by bytes names counts ranges ends (Err stop) reads answer = absurd (cc (answer.0))

pub runs_speak : RunsSpeakOfUnits
runs_speak = record {
  solved = λ bytes names counts prices surplus ends answer.
      solved_by bytes names counts prices surplus ends (any_reading_of Solve bytes) refl answer;
  ranged = λ bytes names counts ranges ends answer.
      ranged_by bytes names counts ranges ends (any_reading_of Range bytes) refl answer;
}
