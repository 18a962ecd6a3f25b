-- The answer of a run where nothing failed.
use Rattle.std.proofs.Common.{◌≡◌, ℕ, ◌+◌, ◌≤◌, List, length, subst, refl, arith, ◌⊎◌, inl, inr}
use Rattle.std.specs.Prelude.{Option, Some, None}
use Rattle.tn_said.specs.declared.said.Said.{Said}
use Rattle.tn_said.specs.declared.said.Said.TheVariants.{Usage, ReadFault, NoMemory}
use Rattle.tn_answer.specs.declared.layout.Layout.{Layout}
use Rattle.tn_io.specs.Source.{TakesFirst}
use Rattle.tn_names.specs.Names.{NameLists}
use Rattle.tn_file.specs.Readings.{any_reading_of}
use Rattle.tn_file.specs.declared.command.Command.{Command}
use Rattle.tn_run.specs.Answer.{document_limit, IsAnswerTo, AnswersBytes, FindsTooLong, MayBeSaid}
use Rattle.tn_run.specs.declared.request.Request.{Request}
use Rattle.tn_run.specs.declared.request.Request.TheVariants.{Document}
use Rattle.tn_run.specs.Complete.{NoneCounted, IsAnswerToAll, SaysOfAll, AnswersAll}
use Rattle.tn_run.specs.Request.{layout_of}
use Rattle.tn_run.specs.Run.{IsWrittenWhole, IsWritten}
use Rattle.tn_run.specs.Saying.{MaySay}

-- a source that tells its bytes has as many as are taken
has_taken : (all : List ℕ) (new : Option (List ℕ)) (n : ℕ) → TakesFirst (Some all) new n → n ≤ length all
has_taken all None n taken = absurd taken
has_taken all (Some rest) n taken = taken.0

-- what is said of the bytes is the answer to all of them
all_answered : (command : Command) (all : List ℕ) (new : Option (List ℕ)) (names : NameLists) (said : Said)
    → AnswersBytes command (Some all) new names said → IsAnswerToAll command all names said
all_answered command all new names said answers = elim answers [
  | inl long ↦ record {
    few = λ few. absurd (not_few long few);
    kept = λ few. absurd (not_few long few);
    many = λ many. long.said_is;
  }
  | inr whole ↦ record {
    few = λ few. subst (λ (bytes : List ℕ). IsAnswerTo command (any_reading_of command bytes) names said)
        whole.told whole.answer;
    kept = λ few. whole.kept;
    many = λ many. let few = subst (λ (bytes : List ℕ). length bytes ≤ document_limit) whole.told whole.few in
        absurd (omega (arith, few, many));
  }
]
  where
    not_few : FindsTooLong (Some all) new said → length all ≤ document_limit → ⊥
    not_few long few = let more : document_limit + 1 ≤ length all = has_taken all new (document_limit + 1) long.taken
        in
        absurd (omega (arith, few, more))

-- the answer to all bytes, or want of memory, where the source counted no fault
said_of_all : (command : Command) (all : List ℕ) (new : Option (List ℕ)) (before after : ℕ) (names : NameLists)
    (said : Said)
    → NoneCounted before after → MayBeSaid command (Some all) new before after names said → (said ≡ NoMemory)
    ⊎ IsAnswerToAll command all names said
said_of_all command all new before after names Usage quiet may = absurd may
said_of_all command all new before after names ReadFault quiet may = absurd (quiet may.0)
said_of_all command all new before after names NoMemory quiet may = inl refl
said_of_all command all new before after names said quiet may = inr (all_answered command all new names said may)

-- what was written is the whole text, where the sink counted no fault
whole_written : (old new : Option (List ℕ)) (before after : ℕ) (layout : Layout) (names : NameLists) (said : Said)
    (status : ℕ)
    → NoneCounted before after → IsWritten old new before after layout names said status
    → IsWrittenWhole old new layout names said status
whole_written old new before after layout names said status quiet written =
    elim written [ inl whole ↦ whole | inr cut ↦ absurd (quiet cut.cause) ]

-- what is said on a request is said of all bytes, where the source tells them and counted no fault
says_of_all : {S : Type 0} (left : S → Option (List ℕ)) (faults : S → ℕ) (request : Request) (all : List ℕ)
    (source last : S) (names : NameLists) (said : Said)
    → left source ≡ Some all → NoneCounted (faults source) (faults last)
    → MaySay left faults request source last names said → SaysOfAll request all names said
says_of_all left faults (Document command layout) all source last names said tells quiet may =
    said_of_all command all (left last) (faults source) (faults last) names said quiet
    (subst (λ (told : Option (List ℕ)). MayBeSaid command told (left last) (faults source) (faults last) names said)
    tells may)
says_of_all left faults request all source last names said tells quiet may = may.1

-- a run is complete where neither end counted a fault
pub complete_run : {S : Type 0} (left : S → Option (List ℕ)) (faults : S → ℕ) (request : Request) (all : List ℕ)
    (source last : S) (old new : Option (List ℕ)) (before after : ℕ) (names : NameLists) (said : Said) (status : ℕ)
    → left source ≡ Some all → NoneCounted (faults source) (faults last) → NoneCounted before after
    → MaySay left faults request source last names said
    → IsWritten old new before after (layout_of request) names said status
    → AnswersAll request all old new names said status
complete_run left faults request all source last old new before after names said status tells quiet_source quiet_sink
    may written =
    record {
      answer = says_of_all left faults request all source last names said tells quiet_source may;
      written = whole_written old new before after (layout_of request) names said status quiet_sink written;
    }
