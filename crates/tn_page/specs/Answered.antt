-- What may be answered to a request and a document.
use Rattle.std.specs.Prelude.{◌≡◌, ℕ, ◌⊎◌, List}
use Rattle.tn_answer.specs.Kept.{IsWithinClaims}
use Rattle.tn_names.specs.Names.{NameLists}
use Rattle.tn_said.specs.declared.said.Said.{Said}
use Rattle.tn_said.specs.declared.said.Said.TheVariants.{NoMemory}
use Rattle.tn_run.specs.Complete.{SaysOfAll}
use Rattle.tn_run.specs.declared.request.Request.{Request}

-- the defined answer to a request and all bytes of a document, or want of memory; its numbers are within the limits of
-- claims
abbrev pub MayBeAnswered : Request → List ℕ → NameLists → Said → Type 0
MayBeAnswered request document names said =
    ((said ≡ NoMemory) ⊎ SaysOfAll request document names said) × IsWithinClaims said
