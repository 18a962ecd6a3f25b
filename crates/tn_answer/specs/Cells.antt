-- The fields of a row that is being written.
use Rattle.std.specs.Prelude.{ℕ, List, IfSome, FitsSigned}
use Rattle.std.specs.Fmt.{decimal, signed_decimal}
use Rattle.std.specs.Int.{w64}
use Rattle.tn_names.specs.Names.{NameLists}
use Rattle.tn_answer.specs.Rows.{bound_text, bundle_text, flag_text, on_flags, on_units, unit_bundle_text}
use Rattle.tn_answer.specs.declared.cells.Cell.{Cell}
use Rattle.tn_answer.specs.declared.cells.Cell.TheVariants.{Name, Flag, Natural, Number, Bound, Bundle, UnitBundle}
use Rattle.tn_answer.specs.declared.rows.OnColumn.{OnColumn}
use Rattle.tn_answer.specs.declared.rows.OnColumn.TheVariants.{Flags, Units}

-- a field as text
abbrev pub cell_text : NameLists → Cell → List ℕ
cell_text names (Name text) = text.now
cell_text names (Flag flag) = flag_text flag
cell_text names (Natural n) = decimal n
cell_text names (Number z) = signed_decimal z
cell_text names (Bound bound) = bound_text bound
cell_text names (Bundle trades) = bundle_text names.trades trades.now
cell_text names (UnitBundle bundle) = unit_bundle_text names.trades bundle.now

-- its number fits 64 bits
abbrev pub IsShortCell : Cell → Type 0
IsShortCell (Name text) = Unit {0}
IsShortCell (Flag flag) = Unit {0}
IsShortCell (Natural n) = Unit {0}
IsShortCell (Number z) = FitsSigned w64 z
IsShortCell (Bound bound) = IfSome bound (FitsSigned w64)
IsShortCell (Bundle trades) = Unit {0}
IsShortCell (UnitBundle bundle) = Unit {0}

-- the texts of the column `on`
abbrev pub on_text : OnColumn → ℕ → List ℕ
on_text (Flags on) = on_flags on.now
on_text (Units counts) = on_units counts.now
