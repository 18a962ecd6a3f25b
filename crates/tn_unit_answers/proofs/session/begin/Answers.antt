-- What shows the clauses of `begin` of `src/session.rt`.
use Rattle.std.proofs.Common.{List, ℕ, false, length, replicate, ap, ◌∙◌}
use Rattle.tn_counts.specs.declared.trade.UnitTrade.{UnitTrade}
use Rattle.tn_read_units.specs.Firms.{WrittenFirm}
use Rattle.tn_unit_answers.proofs.EditedLemmas.{begins}
use Rattle.tn_unit_answers.proofs.session.begin.Goals as goal

pub returns-clause-after : goal.returns-clause-after
returns-clause-after c =
    let firms = c.firms.ensures in
    begins c.args.document.now _ (c.in_ok-admitted.ensures.items_if_clones_equal (λ y same. same)
    ∙ ap (λ (xs : List UnitTrade). replicate (length xs) 0) c.trades.ensures.is)
    (c.in_ok-away.ensures.items_if_clones_equal (λ y same. same)
    ∙ ap (λ (xs : List WrittenFirm). replicate (length xs) false) firms.is
    ∙ ap (λ (n : ℕ). replicate n false) firms.kept.named)
