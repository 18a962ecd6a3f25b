-- How much of a source is taken, whatever is said; and what is told where memory runs out.
use Rattle.std.proofs.Common.{◌≡◌, ℕ, ◌+◌, ◌≤◌, List, length, true, sym, subst, ap, arith, ◌⊎◌, inl, inr, ◌∙◌}
use Rattle.std.specs.Prelude.{Option}
use Rattle.tn_said.specs.declared.said.Said.{Said}
use Rattle.tn_said.specs.declared.said.Said.TheVariants.{Usage, ReadFault, NoMemory}
use Rattle.tn_io.specs.Source.{TakesAtMost}
use Rattle.tn_io.proofs.Taken.{Consumes-TakesFirst}
use Rattle.tn_names.specs.Names.{NameLists}
use Rattle.tn_file.specs.declared.command.Command.{Command}
use Rattle.tn_run.specs.declared.request.Request.{Request}
use Rattle.tn_run.specs.declared.request.Request.TheVariants.{Document, Drill, Cases}
use Rattle.tn_run.specs.Answer.{document_limit, AnswersBytes, MayBeSaid}
use Rattle.tn_run.specs.Cases.{MayBeCases}
use Rattle.tn_run.specs.Drilled.{MayBeDrilled}
use Rattle.tn_run.specs.Saying.{MaySay, has_fixed_text}

-- what is within the limit is within one byte more
one_past : (old new : Option (List ℕ)) → TakesAtMost old new document_limit → TakesAtMost old new (document_limit + 1)
one_past old new taken = let few : taken.0 ≤ document_limit = taken.1 in (taken.0, omega (arith, few), taken.2)

-- a document that is too long, or read whole, takes at most one byte more than the limit
taken_or_long : (command : Command) (old new : Option (List ℕ)) (names : NameLists) (said : Said)
    → AnswersBytes command old new names said
    → TakesAtMost old new (document_limit + 1)
taken_or_long command old new names said answer = elim answer [
  | inl long ↦ (document_limit + 1, omega arith, long.taken)
  | inr whole ↦ let few : length whole.bytes ≤ document_limit = whole.few in
      (length whole.bytes, omega (arith, few), Consumes-TakesFirst old new whole.bytes whole.taken)
]

-- whatever may be said, at most one byte more than the limit was taken
taken_at_most : (command : Command) (old new : Option (List ℕ)) (before after : ℕ) (names : NameLists) (said : Said)
    → MayBeSaid command old new before after names said → TakesAtMost old new (document_limit + 1)
taken_at_most command old new before after names Usage may = absurd may
taken_at_most command old new before after names ReadFault may = one_past old new may.1
taken_at_most command old new before after names NoMemory may = may
taken_at_most command old new before after names said may = taken_or_long command old new names said may

-- where something may be said, it may be said that memory ran out
may_run_out : (command : Command) (old new : Option (List ℕ)) (before after : ℕ) (names : NameLists)
    (said told : Said)
    → MayBeSaid command old new before after names said → (told ≡ said) ⊎ (told ≡ NoMemory)
    → MayBeSaid command old new before after names told
may_run_out command old new before after names said told may which = elim which [
  | inl e ↦ subst (MayBeSaid command old new before after names) (sym e) may
  | inr e ↦ subst (MayBeSaid command old new before after names) (sym e)
      (taken_at_most command old new before after names said may)
]

-- where something may be said on a request, that is told of it, or that memory ran out unless its text is fixed
pub may_be_told : {S : Type 0} (left : S → Option (List ℕ)) (faults : S → ℕ) (request : Request) (old new : S)
    (names : NameLists) (said told : Said)
    → MaySay left faults request old new names said → (told ≡ said) ⊎ (told ≡ NoMemory)
    → (has_fixed_text said ≡ true → told ≡ said) → MaySay left faults request old new names told
may_be_told left faults (Document command layout) old new names said told may which fixed =
    may_run_out command (left old) (left new) (faults old) (faults new) names said told may which
may_be_told left faults (Drill size start) old new names said told may which fixed = (
  may.0,
  elim which [ inl same ↦ subst (MayBeDrilled size start) (sym same) may.1 | inr none ↦ inl none ],
)
may_be_told left faults Cases old new names said told may which fixed = (
  may.0,
  elim which [ inl same ↦ subst MayBeCases (sym same) may.1 | inr none ↦ inl none ],
)
may_be_told left faults request old new names said told may which fixed =
    (may.0, fixed (ap has_fixed_text may.1) ∙ may.1)
