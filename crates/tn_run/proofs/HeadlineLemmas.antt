-- The headline, from what may be said.
use Rattle.std.proofs.Common.{◌≡◌, ℕ, true, List, Ok, Err, refl, sym, true≢false, ◌⊎◌, inl, inr}
use Rattle.std.specs.Prelude.{Option, Result}
use Rattle.tn_file.specs.Readings.{AnyDocument, network, units, any_reading_of}
use Rattle.tn_read_head.specs.Beside.{Stop}
use Rattle.tn_said.specs.declared.said.Said.{Said}
use Rattle.tn_said.specs.declared.said.Said.TheVariants.{Usage, ReadFault, NoMemory}
use Rattle.tn_names.specs.Names.{NameLists}
use Rattle.tn_file.specs.declared.command.Command.{Command}
use Rattle.tn_file.specs.declared.command.Command.TheVariants.{Check, Firms, Judge, Range, Replay, Session, Solve, Support, Test}
use Rattle.tn_run.specs.Answer.{AnswersBytes, IsAnswerTo, MayBeSaid}
use Rattle.tn_run.specs.Headline.{IsHeadline, KeepsPromise, ShowsFault, is_headlined}
use Rattle.tn_run.specs.declared.request.Request.{Request}
use Rattle.tn_run.specs.declared.request.Request.TheVariants.{Document}
use Rattle.tn_run.specs.Request.{IfDocument}
use Rattle.tn_run.specs.Saying.{MaySay}

-- what is promised of the document that the bytes stand for, or their first fault
pub kept_or_shown : (command : Command) (bytes : List ℕ) (read : Result AnyDocument Stop) (names : NameLists)
    (said : Said) → is_headlined command ≡ true
    → any_reading_of command bytes ≡ read → IsAnswerTo command read names said → KeepsPromise command bytes said
    ⊎ ShowsFault command bytes said
kept_or_shown command bytes (Err stop) names said headlined reads answer =
    inr (record { stop = stop; reads = reads; said_is = answer.0 })
kept_or_shown Solve bytes (Ok (network doc)) names said headlined reads answer =
    inl (record { doc = network doc; reads = reads; promised = answer.0 })
kept_or_shown Solve bytes (Ok (units doc extra)) names said headlined reads answer =
    inl (record { doc = units doc extra; reads = reads; promised = answer.0 })
kept_or_shown Judge bytes (Ok (network doc)) names said headlined reads answer =
    inl (record { doc = network doc; reads = reads; promised = answer.0 })
kept_or_shown Judge bytes (Ok (units doc extra)) names said headlined reads answer = absurd answer.0
kept_or_shown Check bytes (Ok doc) names said headlined reads answer = absurd (true≢false (sym headlined))
kept_or_shown Firms bytes (Ok doc) names said headlined reads answer = absurd (true≢false (sym headlined))
kept_or_shown Range bytes (Ok doc) names said headlined reads answer = absurd (true≢false (sym headlined))
kept_or_shown Replay bytes (Ok doc) names said headlined reads answer = absurd (true≢false (sym headlined))
kept_or_shown Session bytes (Ok doc) names said headlined reads answer = absurd (true≢false (sym headlined))
kept_or_shown Support bytes (Ok doc) names said headlined reads answer = absurd (true≢false (sym headlined))
kept_or_shown Test bytes (Ok doc) names said headlined reads answer = absurd (true≢false (sym headlined))

headline_of_bytes : (command : Command) (old new : Option (List ℕ)) (before after : ℕ) (names : NameLists) (said : Said)
    → is_headlined command ≡ true
    → AnswersBytes command old new names said → IsHeadline command old new before after said
headline_of_bytes command old new before after names said headlined answers = elim answers [
  | inl long ↦ inr (inl long)
  | inr whole ↦ inl (record {
    bytes = whole.bytes;
    taken = whole.taken;
    end = whole.end;
    answer = kept_or_shown command whole.bytes (any_reading_of command whole.bytes) names said headlined refl
        whole.answer;
  })
]

-- the headline, from what may be said after a document was read
headline : (command : Command) (old new : Option (List ℕ)) (before after : ℕ) (names : NameLists) (said : Said)
    → is_headlined command ≡ true
    → MayBeSaid command old new before after names said → IsHeadline command old new before after said
headline command old new before after names Usage headlined may = absurd may
headline command old new before after names ReadFault headlined may = inr (inr (inl (refl, may.0)))
headline command old new before after names NoMemory headlined may = inr (inr (inr refl))
headline command old new before after names said headlined may =
    headline_of_bytes command old new before after names said headlined may

-- the headline of a request, from what may be said on it
pub headline_on : {S : Type 0} (left : S → Option (List ℕ)) (faults : S → ℕ) (request : Request) (old new : S)
    (names : NameLists) (said : Said) → MaySay left faults request old new names said
    → IfDocument request (λ command layout. is_headlined command ≡ true
    → IsHeadline command (left old) (left new) (faults old) (faults new) said)
headline_on left faults (Document command layout) old new names said may = λ headlined.
    headline command (left old) (left new) (faults old) (faults new) names said headlined may
headline_on left faults request old new names said may = tt
