-- A run by lines, from one line after another.
use Rattle.std.proofs.Common.{◌≡◌, ℕ, ◌+◌, ◌≤◌, ◌==◌, ◌||◌, Bool, true, false, if◌then◌else◌, List, [], ◌∷◌, ◌++◌, length, take, refl, sym, ap, subst, ◌∙◌, ◌⊎◌, inl, inr, arith, append-nil}
use Rattle.std.specs.Prelude.{Option, None, Some, IfSome}
use Rattle.std.specs.Io.KnownBytes.{Consumes, IsAtEnd, prepend_known}
use Rattle.std.proofs.lemmas.Bool.{cases_lt}
use Rattle.std.proofs.lemmas.List.{map-append, length-map, length_push}
use Rattle.std.proofs.lemmas.List.Concat.{flat_map-append}
use Rattle.std.proofs.lemmas.List.Elements.{All-push}
use Rattle.std.proofs.lemmas.List.Folds.{list_any-append}
use Rattle.tn_said.specs.declared.said.Said.{Said}
use Rattle.tn_said.specs.declared.said.Said.TheVariants.{Usage, ReadFault, NoMemory, Fault, Equilibrium, Better, BetterByCounts, Impossible, Accepted, ExchangeFails, Supported, SupportedByCounts, Cycle, CycleByCounts, Solved, SolvedByCounts, Drill, Ranges, RangesByCounts, Session, SessionByCounts, Drops, DropsByCounts, Completes, CompletesByCounts, Blocks, Valid, Invalid, Cases, Page as PageIs, Firms, FirmsByCounts}
use Rattle.tn_names.specs.Names.{NameLists, no_names}
use Rattle.tn_answer.specs.AnswerText.{answer_line}
use Rattle.tn_answer.specs.Kept.{IsWithinClaims}
use Rattle.tn_answer.specs.declared.layout.Layout.TheVariants.{Object}
use Rattle.tn_file.specs.Readings.{any_reading_of}
use Rattle.tn_io.specs.Counts.{Rose}
use Rattle.tn_io.specs.Lines.{TakesLines, TakesPart, most_turns}
use Rattle.tn_io.specs.Sink.{Grows, GrowsByPrefix}
use Rattle.tn_io.proofs.Grown.{Grows-trans}
use Rattle.tn_io.proofs.LineLemmas.{TakesLines-end, TakesLines-kept, TakesLines-most, TakesLines-trans, still_known, told_end}
use Rattle.tn_file.specs.declared.command.Command.{Command}
use Rattle.tn_run.specs.Answer.{document_limit}
use Rattle.tn_run.specs.Complete.{NoneCounted}
use Rattle.tn_run.specs.Headline.{is_headlined}
use Rattle.tn_run.specs.Lined.{AnswersLines, AnswersNext, AreAnswered, Entry, FailsBehind, IsLineAnswer, IsLineHeadline, IsLinedRun, IsNextText, StopsAtWrite, has_status, lines_of, lines_status, texts_of, with_status}
use Rattle.tn_run.specs.Run.{IsWritten, IsWrittenWhole, status_of}
use Rattle.tn_run.specs.Status.{status_number}
use Rattle.tn_run.specs.declared.status.Status.{Status}
use Rattle.tn_run.specs.declared.status.Status.TheVariants.{Yes, Fault as HasFault, NoMemory as RanOut, No}
use Rattle.tn_run.proofs.HeadlineLemmas.{kept_or_shown}

-- ---- the answer to a line

line_headline : (command : Command) (entry : Entry) → is_headlined command ≡ true → IsLineAnswer command entry
    → IsLineHeadline command entry
line_headline command entry headlined answer = elim answer [
  | inl none ↦ inr (inr none)
  | inr all ↦ elim (cases_lt document_limit (length entry.line)) [
    | inl many ↦ inr (inl (many, all.many many))
    | inr few ↦ inl (kept_or_shown command entry.line (any_reading_of command entry.line) entry.names entry.said
        headlined refl (all.few few))
  ]
]

-- its numbers are within the limits of claims
line_within : (command : Command) (entry : Entry) → IsLineAnswer command entry → IsWithinClaims entry.said
line_within command entry answer = elim answer [
  | inl none ↦ subst IsWithinClaims (sym none) tt
  | inr all ↦ elim (cases_lt document_limit (length entry.line)) [
    | inl many ↦ subst IsWithinClaims (sym (all.many many)) tt
    | inr few ↦ (all.kept few).within
  ]
]

-- ---- one more line

answered_more : (command : Command) (entries : List Entry) (entry : Entry) → AreAnswered command entries
    → IsLineAnswer command entry → AreAnswered command (entries ++ entry ∷ [])
answered_more command entries entry answered answer = record {
  answers = All-push (IsLineAnswer command) entries entry answered.answers answer;
  within = All-push (λ (e : Entry). IsWithinClaims e.said) entries entry answered.within
      (line_within command entry answer);
  headline = λ headlined. All-push (IsLineHeadline command) entries entry (answered.headline headlined)
      (line_headline command entry headlined answer);
}

texts_more : (entries : List Entry) (entry : Entry)
    → texts_of (entries ++ entry ∷ []) ≡ texts_of entries ++ answer_line Object entry.names entry.said
texts_more entries entry = flat_map-append (λ (e : Entry). answer_line Object e.names e.said) entries (entry ∷ [])
    ∙ ap (λ l. texts_of entries ++ l) (append-nil (answer_line Object entry.names entry.said))

or_false : (b : Bool) → (b || false) ≡ b
or_false true = refl
or_false false = refl

has_more : (status : Status) (entries : List Entry) (entry : Entry)
    → has_status status (entries ++ entry ∷ [])
    ≡ (has_status status entries || (status_number (status_of entry.said) == status_number status))
has_more status entries entry =
    list_any-append (λ (e : Entry). status_number (status_of e.said) == status_number status) entries (entry ∷ [])
    ∙ ap (λ (b : Bool). has_status status entries || b)
    (or_false (status_number (status_of entry.said) == status_number status))

abbrev status_for : Bool → Bool → ℕ
status_for ran_out fault = if ran_out then 5 else if fault then 1 else 0

status_for_more : (ran_out fault : Bool) (answer : ℕ)
    → with_status (status_for ran_out fault) answer ≡ status_for (ran_out || (answer == 5)) (fault || (answer == 1))
status_for_more true fault answer = refl
status_for_more false true answer = refl
status_for_more false false answer = refl

status_more : (entries : List Entry) (entry : Entry)
    → with_status (lines_status entries) (status_number (status_of entry.said)) ≡ lines_status (entries ++ entry ∷ [])
status_more entries entry =
    status_for_more (has_status RanOut entries) (has_status HasFault entries) (status_number (status_of entry.said))
    ∙ ap (λ (b : Bool). status_for b (has_status HasFault entries || (status_number (status_of entry.said) == 1)))
    (sym (has_more RanOut entries entry))
    ∙ ap (λ (b : Bool). status_for (has_status RanOut (entries ++ entry ∷ [])) b) (sym (has_more HasFault entries entry))

-- ---- the lines so far

-- the lines of the source up to here are answered, and that alone is written
pub record SoFar (command : Command) (told left old new : Option (List ℕ)) (turns status : ℕ) : Type 0 where
  pub entries : List Entry
  pub answered : AreAnswered command entries
  pub lines : TakesLines told left (lines_of entries)
  pub written : Grows old new (texts_of entries)
  pub status_is : status ≡ lines_status entries
  pub turns_are : length entries ≡ turns

-- a line that was taken and its answer, as they are told of a call
pub record NextAnswer (command : Command) (left after : Option (List ℕ)) (names : NameLists) (said : Said) : Type
    0 where
  pub line : List ℕ
  pub taken : TakesLines left after (line ∷ [])
  pub answer : IsLineAnswer command (record { line = line; names = names; said = said })

-- what was told may be want of memory in its place
pub may_run_out : (command : Command) (left after : Option (List ℕ)) (names : NameLists) (said told : Said)
    → (line : List ℕ) × TakesLines left after (line ∷ [])
    × IsLineAnswer command (record { line = line; names = names; said = said })
    → (told ≡ said) ⊎ (told ≡ NoMemory) → NextAnswer command left after names told
may_run_out command left after names said told next is = record {
  line = next.0;
  taken = next.1;
  answer = elim is [
    | inl same ↦
        subst (λ (s : Said). IsLineAnswer command (record { line = next.0; names = names; said = s })) (sym same) next.2
    | inr none ↦ inl none
  ];
}

module _ (command : Command) (told left after : Option (List ℕ)) (names : NameLists) (said : Said) where
  abbrev entry_of : NextAnswer command left after names said → Entry
  entry_of next = record { line = next.line; names = names; said = said }

  lines_more : (entries : List Entry) (next : NextAnswer command left after names said)
      → TakesLines told left (lines_of entries) → TakesLines told after (lines_of (entries ++ entry_of next ∷ []))
  lines_more entries next lines =
      subst (TakesLines told after) (sym (map-append (λ (e : Entry). e.line) entries (entry_of next ∷ [])))
      (TakesLines-trans told left after (lines_of entries) (next.line ∷ []) lines next.taken)

  -- the answer to the next line, after which some bytes are read ahead
  pub next_text : (ahead : List ℕ) (gone : Option (List ℕ)) (entries : List Entry)
      (next : NextAnswer command left after names said) → after ≡ prepend_known ahead gone
      → AreAnswered command entries → TakesLines told left (lines_of entries)
      → AnswersNext command told gone entries (answer_line Object names said)
  next_text ahead gone entries next is answered lines = record {
    entry = entry_of next;
    answered = answered_more command entries (entry_of next) answered next.answer;
    ahead = ahead;
    lines = subst (λ (known : Option (List ℕ)). TakesLines told known (lines_of (entries ++ entry_of next ∷ []))) is
        (lines_more entries next lines);
    text_is = refl;
  }

  pub one_more : (old middle new : Option (List ℕ)) (turns before status : ℕ)
      → SoFar command told left old middle turns before → NextAnswer command left after names said
      → Grows middle new (answer_line Object names said) → status ≡ with_status before (status_number (status_of said))
      → SoFar command told after old new (turns + 1) status
  one_more old middle new turns before status so_far next grown is = record {
    entries = so_far.entries ++ entry_of next ∷ [];
    answered = answered_more command so_far.entries (entry_of next) so_far.answered next.answer;
    lines = lines_more so_far.entries next so_far.lines;
    written = subst (Grows old new) (sym (texts_more so_far.entries (entry_of next)))
        (Grows-trans old middle new (texts_of so_far.entries) (answer_line Object names said) so_far.written grown);
    status_is = is ∙ ap (λ (n : ℕ). with_status n (status_number (status_of said))) so_far.status_is
        ∙ status_more so_far.entries (entry_of next);
    turns_are = length_push so_far.entries (entry_of next) ∙ ap (λ (n : ℕ). n + 1) so_far.turns_are;
  }

-- ---- the end of the run

-- a call that finds the end takes nothing
pub at_end : (command : Command) (told left gone old new : Option (List ℕ)) (turns status : ℕ)
    → SoFar command told left old new turns status → IsAtEnd left → Consumes left gone []
    → AnswersLines command told gone old new status
at_end command told left gone old new turns status so_far end rest = record {
  entries = so_far.entries;
  answered = so_far.answered;
  lines = TakesLines-end told left (lines_of so_far.entries) so_far.lines end;
  taken = TakesLines-kept told left gone (lines_of so_far.entries) so_far.lines rest;
  written = so_far.written;
  status_is = so_far.status_is;
}

-- more lines were answered than few bytes have
pub all_turns : (command : Command) (told left : Option (List ℕ)) (ahead : List ℕ) (old new : Option (List ℕ))
    (turns status : ℕ)
    → SoFar command told (prepend_known ahead left) old new turns status → most_turns ≤ turns
    → AnswersLines command told left old new status
all_turns command told left ahead old new turns status so_far most =
    let many : most_turns ≤ length so_far.entries = omega (arith, so_far.turns_are, most) in
    let many_lines : most_turns ≤ length (lines_of so_far.entries) =
    subst (λ (n : ℕ). most_turns ≤ n) (sym (length-map so_far.entries (λ (e : Entry). e.line))) many in
    record {
      entries = so_far.entries;
      answered = so_far.answered;
      lines = TakesLines-most told (prepend_known ahead left) (Some []) (lines_of so_far.entries) so_far.lines many_lines
          (told_end (prepend_known ahead left));
      taken = TakesLines-most told (prepend_known ahead left) left (lines_of so_far.entries) so_far.lines many_lines
          (still_known ahead left);
      written = so_far.written;
      status_is = so_far.status_is;
    }

-- a count that rose after it had not fallen rose
pub Rose_later : (first middle last : ℕ) → first ≤ middle → Rose middle last → Rose first last
Rose_later first middle last later rose = elim rose [
  | inl more ↦ inl (omega (arith, later, more))
  | inr full ↦
      inr full
]

abbrev status_if : Bool → ℕ
status_if holds = status_number (if holds then Yes else No)

never_failed_if : (holds : Bool) → status_if holds ≡ 4 → ⊥
never_failed_if true e = absurd (omega (arith, e))
never_failed_if false e = absurd (omega (arith, e))

-- no answer has the status of a failed write
never_failed : (said : Said) → status_number (status_of said) ≡ 4 → ⊥
never_failed Usage is = absurd (omega (arith, is))
never_failed ReadFault is = absurd (omega (arith, is))
never_failed NoMemory is = absurd (omega (arith, is))
never_failed (Fault fault) is = absurd (omega (arith, is))
never_failed (Equilibrium surplus) is = absurd (omega (arith, is))
never_failed (Better firm bundle gain) is = absurd (omega (arith, is))
never_failed (BetterByCounts firm bundle gain) is = absurd (omega (arith, is))
never_failed (Impossible firm) is = absurd (omega (arith, is))
never_failed Accepted is = absurd (omega (arith, is))
never_failed (ExchangeFails firm x y at) is = absurd (omega (arith, is))
never_failed (Supported on prices ends) is = absurd (omega (arith, is))
never_failed (SupportedByCounts counts prices ends) is = absurd (omega (arith, is))
never_failed (Cycle nodes cost) is = absurd (omega (arith, is))
never_failed (CycleByCounts nodes cost) is = absurd (omega (arith, is))
never_failed (Solved on prices surplus ends) is = absurd (omega (arith, is))
never_failed (SolvedByCounts counts prices surplus ends) is = absurd (omega (arith, is))
never_failed (Drill size start firms surplus) is = absurd (omega (arith, is))
never_failed (Ranges on ranges ends) is = absurd (omega (arith, is))
never_failed (RangesByCounts counts ranges ends) is = absurd (omega (arith, is))
never_failed (Session edits) is = absurd (omega (arith, is))
never_failed (SessionByCounts edits) is = absurd (omega (arith, is))
never_failed (Drops firm keeps gain over) is = absurd (omega (arith, is))
never_failed (DropsByCounts firm keeps gain over) is = absurd (omega (arith, is))
never_failed (Completes prices over) is = absurd (omega (arith, is))
never_failed (CompletesByCounts prices over) is = absurd (omega (arith, is))
never_failed (Blocks contracts over) is = absurd (omega (arith, is))
never_failed Valid is = absurd (omega (arith, is))
never_failed (Invalid reason) is = absurd (omega (arith, is))
never_failed (Cases count []) is = absurd (omega (arith, is))
never_failed (Cases count (number ∷ numbers)) is = absurd (omega (arith, is))
never_failed (PageIs page) is = absurd (omega (arith, is))
never_failed (Firms content firms surplus) is = never_failed_if (content == length firms) is
never_failed (FirmsByCounts content firms surplus) is = never_failed_if (content == length firms) is

-- how a run's source and sink counted their faults: at first, before the last answer and after it
pub record Faults : Type 0 where
  pub source_first : ℕ
  pub source_last : ℕ
  pub sink_first : ℕ
  pub sink_middle : ℕ
  pub sink_last : ℕ

-- what was written of the text after those of the entries, where a write failed
cut_text : (command : Command) (told left old middle new : Option (List ℕ)) (faults : Faults) (entries : List Entry)
    (text : List ℕ) (status : ℕ)
    → AreAnswered command entries
    → IsNextText command told left faults.source_first faults.source_last entries text
    → Grows old middle (texts_of entries)
    → faults.sink_first ≤ faults.sink_middle → Rose faults.sink_middle faults.sink_last → GrowsByPrefix middle new text
    → status ≡ 4
    → StopsAtWrite command told left faults.source_first faults.source_last old new faults.sink_first faults.sink_last
    status
cut_text command told left old middle new faults entries text status answered next written later rose cut is = record {
  entries = entries;
  answered = answered;
  text = text;
  next = next;
  cause = Rose_later faults.sink_first faults.sink_middle faults.sink_last later rose;
  count = cut.0;
  within = cut.1;
  written = Grows-trans old middle new (texts_of entries) (take cut.0 text) written cut.2;
  status_is = is;
}

-- a read failed behind the lines so far
failed_behind : (command : Command) (told left gone old new : Option (List ℕ)) (turns status : ℕ) (faults : Faults)
    (so_far : SoFar command told left old new turns status) → Rose faults.source_first faults.source_last
    → TakesPart left gone → FailsBehind told gone faults.source_first faults.source_last so_far.entries
failed_behind command told left gone old new turns status faults so_far rose part =
    record { cause = rose; rest = left; lines = so_far.lines; part = part }

-- a read failed, and that was written or cut short
pub read_failed : (command : Command) (told left gone old middle new : Option (List ℕ)) (turns before status : ℕ)
    (faults : Faults) → SoFar command told left old middle turns before
    → Rose faults.source_first faults.source_last → TakesPart left gone → faults.sink_first ≤ faults.sink_middle
    → IsWritten middle new faults.sink_middle faults.sink_last Object no_names ReadFault status
    → IsLinedRun command told gone faults.source_first faults.source_last old new faults.sink_first faults.sink_last
    status
read_failed command told left gone old middle new turns before status faults so_far rose part later written =
    let failed = failed_behind command told left gone old middle turns before faults so_far rose part in
    elim written [
      | inl whole ↦ inr (inl (record {
        entries = so_far.entries;
        answered = so_far.answered;
        failed = failed;
        written = Grows-trans old middle new (texts_of so_far.entries) (answer_line Object no_names ReadFault)
            so_far.written whole.grown;
        status_is = whole.status_is;
      }))
      | inr cut ↦ inr
          (inr (cut_text command told gone old middle new faults so_far.entries (answer_line Object no_names ReadFault)
          status so_far.answered
          (inr (failed, refl)) so_far.written later cut.cause cut.grown cut.status_is))
    ]

-- the answer to a line was cut short
pub write_failed : (command : Command) (told left after gone old middle new : Option (List ℕ)) (ahead : List ℕ)
    (turns before status : ℕ) (faults : Faults) (names : NameLists) (said : Said)
    → SoFar command told left old middle turns before → NextAnswer command left after names said
    → after ≡ prepend_known ahead gone → faults.sink_first ≤ faults.sink_middle
    → IsWritten middle new faults.sink_middle faults.sink_last Object names said status → status ≡ 4
    → IsLinedRun command told gone faults.source_first faults.source_last old new faults.sink_first faults.sink_last 4
write_failed command told left after gone old middle new ahead turns before status faults names said so_far next is_after
    later written is =
    elim written [
      | inl whole ↦ absurd (never_failed said (sym whole.status_is ∙ is))
      | inr cut ↦ inr
          (inr (cut_text command told gone old middle new faults so_far.entries (answer_line Object names said) 4
          so_far.answered
          (inl (next_text command told left after names said ahead gone so_far.entries next is_after so_far.answered
          so_far.lines))
          so_far.written later cut.cause cut.grown refl))
    ]

-- an answer whose status isn't that of a failed write was written whole
pub whole_answer : (old new : Option (List ℕ)) (before after : ℕ) (names : NameLists) (said : Said) (status : ℕ)
    → IsWritten old new before after Object names said status
    → (status ≡ 4 → ⊥) → IsWrittenWhole old new Object names said status
whole_answer old new before after names said status written kept =
    elim written [ inl whole ↦ whole | inr cut ↦ absurd (kept cut.status_is) ]

-- all lines are answered where neither end counts a fault
complete_lines : (command : Command) (told left old new : Option (List ℕ))
    (source_before source_after sink_before sink_after status : ℕ)
    → IsLinedRun command told left source_before source_after old new sink_before sink_after status
    → NoneCounted source_before source_after → NoneCounted sink_before sink_after
    → AnswersLines command told left old new status
complete_lines command told left old new source_before source_after sink_before sink_after status run quiet_source
    quiet_sink = elim run [
      | inl all ↦ all
      | inr stops ↦ elim stops [
        | inl read ↦ absurd (quiet_source read.failed.cause)
        | inr write ↦ absurd (quiet_sink write.cause)
      ]
    ]

-- what a run by lines came to, of the command that is asked for and of the program's exit status
pub lined_as_asked : (asked : Option Command) (ran : Command) (told left old new : Option (List ℕ)) (faults : Faults)
    (status exit : ℕ) → asked ≡ Some ran → exit ≡ status
    → IsLinedRun ran told left faults.source_first faults.source_last old new faults.sink_first faults.sink_last status
    → IfSome asked (λ command. IsLinedRun command told left faults.source_first faults.source_last old new
    faults.sink_first faults.sink_last exit)
lined_as_asked asked ran told left old new faults status exit asks is run =
    subst (λ (found : Option Command). IfSome found (λ command. IsLinedRun command told left faults.source_first
    faults.source_last old new faults.sink_first faults.sink_last exit)) (sym asks)
    (subst (λ (n : ℕ). IsLinedRun ran told left faults.source_first faults.source_last old new faults.sink_first
    faults.sink_last n) (sym is) run)

-- all lines are answered where neither end counts a fault
pub complete_as_asked : (asked : Option Command) (told left old new : Option (List ℕ)) (faults : Faults) (exit : ℕ)
    → IfSome asked (λ command. IsLinedRun command told left faults.source_first faults.source_last old new
    faults.sink_first faults.sink_last exit)
    → IfSome asked (λ command. NoneCounted faults.source_first faults.source_last
    → NoneCounted faults.sink_first faults.sink_last → AnswersLines command told left old new exit)
complete_as_asked (Some command) told left old new faults exit run = λ quiet_source quiet_sink.
    complete_lines command told left old new faults.source_first faults.source_last faults.sink_first faults.sink_last exit
    run quiet_source quiet_sink
complete_as_asked None told left old new faults exit run = tt
