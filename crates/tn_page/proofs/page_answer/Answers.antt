-- What shows the clauses of `page_answer` of `src/lib.rt`.
use Rattle.std.proofs.Common.{ℕ, List, length, ap, refl, subst, arith, inl}
use Rattle.tn_names.specs.Names.{no_names}
use Rattle.tn_said.specs.declared.said.Said.TheVariants.{NoMemory}
use Rattle.tn_answer.specs.declared.layout.Layout.TheVariants.{Object}
use Rattle.tn_run.specs.Request.{layout_of, request_of}
use Rattle.tn_page.specs.Told.{IsTold}
use Rattle.tn_page.specs.Words.{words_in}
use Rattle.tn_page.proofs.RunLemmas.{no_memory_length}
use Rattle.tn_page.proofs.page_answer.Goals as goal

pub tell-requires-in-Err : goal.tell-requires-in-Err
tell-requires-in-Err c = omega (
  arith,
  ap length (c.no_memory_text.ensures Object no_names),
  no_memory_length Object no_names,
)

pub returns-in-Err : goal.returns-in-Err
returns-in-Err c = (
  no_names,
  NoMemory,
  (inl refl, tt),
  subst (λ (text : List ℕ). IsTold text 5 c.args.out.now c.tell-in-Err.new.out c.tell-in-Err.result)
      (c.no_memory_text.ensures (layout_of (request_of (words_in c.args.words.now))) no_names)
      (rw c.number.ensures at c.tell-in-Err.ensures),
)
