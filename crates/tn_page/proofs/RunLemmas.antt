-- A count that stays 0, and the text of want of memory.
use Rattle.std.proofs.Common.{◌≡◌, ℕ, length, refl, arith, inl, inr}
use Rattle.json.specs.Print.{escape_byte}
use Rattle.tn_answer.specs.AnswerText.{answer_line}
use Rattle.tn_answer.specs.declared.layout.Layout.{Layout}
use Rattle.tn_names.specs.Names.{NameLists}
use Rattle.tn_said.specs.declared.said.Said.TheVariants.{NoMemory}
use Rattle.tn_run.specs.Complete.{NoneCounted}

-- a count that is 0 after a call didn't rise in it
pub none_counted : (before after : ℕ) → after ≡ 0 → NoneCounted before after
none_counted before after none rose = elim rose [
  | inl less ↦ absurd (omega (arith, none, less))
  | inr last ↦
      absurd (omega (arith, none, last))
]

-- the text of want of memory is short
pub no_memory_length : (layout : Layout) (names : NameLists) → length (answer_line layout names NoMemory) ≡ 23
unfolding answer_line escape_byte
no_memory_length layout names = refl
