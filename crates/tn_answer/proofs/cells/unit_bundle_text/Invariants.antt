-- What the loops of `unit_bundle_text` of `src/cells.rt` keep.
use Rattle.std.proofs.Common.{◌≡◌, take, string_bytes}
use Rattle.tn_answer.specs.Rows.{unit_bundle_text}
use Rattle.tn_answer.proofs.cells.unit_bundle_text.Given as goal

abbrev pub invariant-loop-k : goal.invariant-loop-k
invariant-loop-k l = string_bytes l.text ≡ unit_bundle_text l.names.trades (take l.k l.bundle)
