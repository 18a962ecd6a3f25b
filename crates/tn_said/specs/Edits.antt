-- Edits of the trades that a market admits, and of the firms that are there.
use Rattle.std.specs.Prelude.{ℕ, ◌<◌, ◌≤◌, List, length, All}
use Rattle.tn_said.specs.declared.session.Edit.{Edit}
use Rattle.tn_said.specs.declared.session.Edit.TheVariants.{Admit, AdmitAll, Bar, BarAll, Join, Leave}
use Rattle.tn_model.specs.Limits.{most_edits}

-- an edit of one of so many firms, or of one or all of so many trades
abbrev pub IsKnownEdit : ℕ → ℕ → Edit → Type 0
IsKnownEdit firms trades (Admit t) = t < trades
IsKnownEdit firms trades (Bar t) = t < trades
IsKnownEdit firms trades AdmitAll = Unit {0}
IsKnownEdit firms trades BarAll = Unit {0}
IsKnownEdit firms trades (Leave f) = f < firms
IsKnownEdit firms trades (Join f) = f < firms

-- not too many edits, each of firms and trades among so many
pub record AreEdits (firms trades : ℕ) (edits : List Edit) : Type 0 where
  pub few : length edits ≤ most_edits
  pub known : All (IsKnownEdit firms trades) edits
