-- What a run may say on a request.
use Rattle.std.specs.Prelude.{◌≡◌, ℕ, Bool, true, false, List, Option}
use Rattle.tn_names.specs.Names.{NameLists}
use Rattle.tn_said.specs.declared.said.Said.{Said}
use Rattle.tn_said.specs.declared.said.Said.TheVariants.{Usage as UsageIs, ReadFault, NoMemory, Page as PageIs}
use Rattle.tn_run.specs.Answer.{MayBeSaid}
use Rattle.tn_run.specs.Cases.{MayBeCases}
use Rattle.tn_run.specs.Drilled.{MayBeDrilled}
use Rattle.tn_run.specs.declared.request.Request.{Request}
use Rattle.tn_run.specs.declared.request.Request.TheVariants.{Usage, Document, Lines, Drill, Cases, Page}

-- what may be said on a request that reads no document; a run with one answer has none line by line
abbrev pub MaySayUnread : Request → Said → Type 0
MaySayUnread Usage said = said ≡ UsageIs
MaySayUnread (Document command layout) said = ⊥
MaySayUnread (Lines command) said = said ≡ UsageIs
MaySayUnread (Drill size start) said = MayBeDrilled size start said
MaySayUnread Cases said = MayBeCases said
MaySayUnread (Page page) said = said ≡ PageIs page

-- what may be said on a request, by what its source tells and by its count of faults: a document is read of the source
-- and answered, over some names; else the source stays as it was
abbrev pub MaySay : {S : Type 0} → (S → Option (List ℕ)) → (S → ℕ) → Request → S → S → NameLists → Said → Type 0
MaySay left faults (Document command layout) old new names said =
    MayBeSaid command (left old) (left new) (faults old) (faults new) names said
MaySay left faults request old new names said = (new ≡ old) × MaySayUnread request said

-- whether the text of an answer stands in the program, so that it takes no memory
abbrev pub has_fixed_text : Said → Bool
has_fixed_text UsageIs = true
has_fixed_text ReadFault = true
has_fixed_text NoMemory = true
has_fixed_text (PageIs page) = true
has_fixed_text said = false
