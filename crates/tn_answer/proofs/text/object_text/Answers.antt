-- What shows the clauses of `object_text` of `src/text.rt`.
use Rattle.std.proofs.Common.{ap, sym, ◌∙◌}
use Rattle.tn_said.specs.declared.said.Said.{Said}
use Rattle.tn_answer.specs.AnswerText.{answer_form, form_text}
use Rattle.tn_answer.proofs.text.object_text.Goals as goal

pub returns-in_ok-to_vec-in-Page : goal.returns-in_ok-to_vec-in-Page
returns-in_ok-to_vec-in-Page c =
    c.in_ok-to_vec-in-Page.ensures.items_if_clones_equal (λ x y same. same) ∙ c.page_lines.ensures
    ∙ ap (λ (said : Said). form_text (answer_form c.args.names.now said)) (sym c.in-Page.is)
