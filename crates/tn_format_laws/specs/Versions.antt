-- That of the version of a document its limits alone are seen.
use Rattle.std.specs.Prelude.{◌≡◌, ◌⊎◌, ℕ, codes, Some, Result, Ok, Err}
use Rattle.serde_json.specs.Data.{Data, number, object, put, unsigned}
use Rattle.tn_said.specs.declared.fault.FaultKind.{FaultKind}
use Rattle.tn_said.specs.declared.fault.FaultKind.TheVariants.{AmountRange, BadOver, Limit}
use Rattle.tn_model.specs.Limits.{limits_of}
use Rattle.tn_model.specs.declared.limits.Limits.{Limits}
use Rattle.tn_read_head.specs.Beside.{Stop}
use Rattle.tn_read_head.specs.Listing.{limits_at}
use Rattle.tn_file.specs.declared.command.Command.{Command}
use Rattle.tn_file.specs.Document.{DocumentData, document_of}

-- the document with this version, in place of its own
unfoldable pub with_version : ℕ → Data → Data
with_version version (object members) = object (put (codes "version") (number (unsigned version)) members)
with_version version top = top

-- one value says one version, the other is the same but for a second version
pub record AreOfVersions (top other : Data) : Type 0 where
  pub limits : Limits
  pub says : limits_at top ≡ Ok limits
  pub second : ℕ
  pub second_limits : Limits
  pub there_is : limits_of second ≡ Some second_limits
  pub same : other ≡ with_version second top

-- a fault of a limit: too many of something, a number that is too far or too large, a denominator out of its bounds
abbrev pub IsOfLimit : FaultKind → Type 0
IsOfLimit kind = (kind ≡ Limit) ⊎ (kind ≡ AmountRange) ⊎ (kind ≡ BadOver)

-- reading stops at such a fault
abbrev pub StopsAtLimit : Result DocumentData Stop → Type 0
StopsAtLimit (Ok doc) = ⊥
StopsAtLimit (Err stop) = IsOfLimit stop.fault.kind

-- two readings are the same, document or fault, unless one of them stops at a limit
abbrev pub MeetButForLimits : Result DocumentData Stop → Result DocumentData Stop → Type 0
MeetButForLimits reading other = (reading ≡ other) ⊎ StopsAtLimit reading ⊎ StopsAtLimit other

-- so it is of every value that says a version, and the same value with another version
abbrev pub ReadingsMeetButForLimits : Type 0
ReadingsMeetButForLimits = (command : Command) (top other : Data) → AreOfVersions top other
    → MeetButForLimits (document_of command top) (document_of command other)
