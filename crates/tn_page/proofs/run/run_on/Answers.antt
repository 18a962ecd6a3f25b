-- What shows the clauses of `run_on` of `src/run.rt`.
use Rattle.std.proofs.Common.{◌≡◌, ℕ, List, ◌++◌, map, string_bytes, refl, ap, subst, arith, inr, ◌∙◌}
use Rattle.std.specs.Prelude.{Some}
use Rattle.tn_answer.specs.AnswerText.{answer_line}
use Rattle.tn_run.specs.Complete.{SaysOfAll}
use Rattle.tn_run.specs.Request.{layout_of, request_of}
use Rattle.tn_page.specs.Words.{words_in}
use Rattle.tn_page.proofs.RunLemmas.{none_counted}
use Rattle.tn_page.proofs.run.run_on.Goals as goal

pub returns-clause-answer : goal.returns-clause-answer
returns-clause-answer c =
    let said = c.run_market.result.said in
    let answer = c.run_market.ensures.answer in
    let names = answer.0 in
    let asked = map string_bytes c.as_slice.result.now in
    let document = c.args.document.now in
    let are_words : asked ≡ words_in c.args.words.now =
    ap (map string_bytes) c.as_slice.ensures.value ∙ c.in_ok-words.ensures in
    let is_document = ap (λ source. Some source.unread) c.new-source.ensures ∙ ap Some c.in_ok-from_slice.ensures.items
    in
    let quiet = none_counted c.new-sink.result.faults c.run_market.new.sink.faults (omega (arith, c.if-sink-gt0.false))
    in
    let all = answer.2 document is_document (none_counted 0 0 refl) quiet in (
      names,
      said,
      (
        inr
            (subst (λ (words : List (List ℕ)). SaysOfAll (request_of words) document names said) are_words all.answer),
        c.run_market.ensures.within,
      ),
      all.written.grown ∙ ap (λ (bytes : List ℕ). bytes ++ answer_line (layout_of (request_of asked)) names said)
          c.new-sink.ensures.bytes
          ∙ ap (λ (words : List (List ℕ)). answer_line (layout_of (request_of words)) names said) are_words,
      c.status_of_run-status.ensures ∙ all.written.status_is,
    )
