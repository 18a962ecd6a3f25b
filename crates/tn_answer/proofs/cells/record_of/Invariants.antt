-- What the loops of `record_of` of `src/cells.rt` keep.
use Rattle.std.proofs.Common.{◌≡◌, [], map, take}
use Rattle.csv.specs.Records.{fields_of, partial_of}
use Rattle.tn_answer.specs.Cells.{cell_text}
use Rattle.tn_answer.proofs.cells.record_of.Given as goal

abbrev pub invariant-loop-cell : goal.invariant-loop-cell
invariant-loop-cell l = (fields_of l.row ≡ map (cell_text l.names) (take l.cell-index l.cells))
    × (partial_of l.row ≡ [])
