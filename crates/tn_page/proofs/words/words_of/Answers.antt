-- What shows the clauses of `words_of` of `src/words.rt`.
use Rattle.std.proofs.Common.{◌==◌, sym, ap, arith, ◌∙◌}
use Rattle.std.specs.List.{slice_split}
use Rattle.std.proofs.lemmas.Iterator.Consumers.{YieldsList-end}
use Rattle.std.proofs.lemmas.Iterator.Splits.{YieldsList-from_str_split}
use Rattle.tn_page.proofs.WordLemmas.{no_words, split_words}
use Rattle.tn_page.proofs.words.words_of.Goals as goal

pub returns-in_default : goal.returns-in_default
returns-in_default c = rw (c.new-words.ensures.items) (sym (no_words c.args.bytes.now c.in_default.ensures.cases.0))

pub returns : goal.returns
returns c =
    let text = c.in-Ok.text.now in
    let all = YieldsList-end (YieldsList-from_str_split 0 text (omega arith) (cc) (cc) (cc)) c.loop-word.yielded _
    c.loop-word.yielded_by _ _ c.in-None.is c.next.ensures.steps in
    c.loop-word.invariant ∙ all.0 ∙ ap (slice_split (λ byte. byte == 0)) c.in-Ok.ensures.cases.0
    ∙ sym (split_words c.args.bytes.now c.in-Ok.ensures.cases.1)
