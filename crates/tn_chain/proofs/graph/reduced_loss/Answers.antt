-- What shows the clauses of `reduced_loss` of `src/graph.rt`.
use Rattle.std.proofs.Common.{◌≡◌, ◌∙◌, ℤ, ◌-ℤ◌, ◌+ℤ◌, neg_ℤ, Some, sym, ap, arith, inl, inr}
use Rattle.std.proofs.lemmas.Int.{ints}
use Rattle.std.proofs.lemmas.Option.{slice_get_cases}
use Rattle.tn_market.specs.Reduced.{reduced}
use Rattle.tn_base.specs.Sets.{meet}
use Rattle.tn_market.proofs.AscentLemmas.{emptied, not_emptied}
use Rattle.tn_market.proofs.LevyLemmas.{difference_fits, difference_is}
use Rattle.tn_network_laws.proofs.SupportLemmas.{loss_of}
use Rattle.tn_chain.proofs.MoveLemmas.{item_small, known_small, found_small, loss_none, worth_none}
use Rattle.tn_chain.proofs.graph.reduced_loss.Goals as goal

pub returns-then-ne : goal.returns-then-ne
returns-then-ne g c = record {
  loss = λ v is.
      let holds = (c.requires.kept v is).holds in
      let firm = reduced c.args.market.now.trades c.args.outcome.now.over c.args.outcome.now.contracts c.args.f
      (g.V.Valuation.firm v) in
      let signed = not_emptied c.meet.result c.empty.result c.ne.result c.ne.ensures c.if-ne.true c.empty.ensures in
      sym (loss_none firm 0 c.args.bundle (worth_none c.args.market.now.trades c.args.outcome.now.over
      c.args.outcome.now.contracts c.args.f (g.V.Valuation.firm v) c.args.bundle
      (λ e. signed (c.meet.ensures ∙ ap (meet c.args.bundle) holds.bundle ∙ e))));
}

pub reduced_best_beside-requires-clause-held : goal.reduced_best_beside-requires-clause-held
reduced_best_beside-requires-clause-held g c = λ v is. (c.requires.kept v is).holds

pub reduced_best_beside-requires-clause-unsigned : goal.reduced_best_beside-requires-clause-unsigned
reduced_best_beside-requires-clause-unsigned g c = λ v is.
    let holds = (c.requires.kept v is).holds in
    ap (meet c.args.bundle) (sym holds.bundle) ∙ sym c.meet.ensures
    ∙ emptied c.meet.result c.empty.result c.ne.result c.ne.ensures c.if-ne.false c.empty.ensures

pub overflow_sub-result : goal.overflow_sub-result
overflow_sub-result g c = elim (slice_get_cases c.args.market.now.firms c.args.f).1 [
  | inr past ↦ absurd (let above = past.0 in let inside = c.requires.firm in omega (arith, above, inside))
  | inl item ↦
      let small = item_small g.V.Valuation.firm g.V.Valuation.limit c.args.market.now c.args.outcome.now.over
      c.args.outcome.now.contracts c.requires.limits c.requires.outcome
      (λ v. (g.met.V.Valuation.lawful v).within) c.args.f item.0 item.2 in
      let firm = reduced c.args.market.now.trades c.args.outcome.now.over c.args.outcome.now.contracts c.args.f
      (g.V.Valuation.firm item.0) in
      difference_fits c.in_ok-before.before c.in_ok-after.after
      (known_small firm.worth 0 c.args.kept.now.worth c.in_ok-before.before small (c.requires.kept item.0 item.2).worth
      c.in_ok-before.was).0
      (found_small firm.worth c.args.bundle c.reduced_best_beside.result c.in_ok-after.field-0-0 c.in_ok-after.after small
      (c.reduced_best_beside.ensures.worth item.0 item.2) (c.in_ok-after.was)).0
]

pub returns : goal.returns
returns g c = record {
  loss = λ v is.
      let small = item_small g.V.Valuation.firm g.V.Valuation.limit c.args.market.now c.args.outcome.now.over
      c.args.outcome.now.contracts c.requires.limits c.requires.outcome
      (λ v. (g.met.V.Valuation.lawful v).within) c.args.f v is in
      let firm = reduced c.args.market.now.trades c.args.outcome.now.over c.args.outcome.now.contracts c.args.f
      (g.V.Valuation.firm v) in
      let before =
      known_small firm.worth 0 c.args.kept.now.worth c.in_ok-before.before small (c.requires.kept v is).worth c.in_ok-before.was
      in
      let after = found_small firm.worth c.args.bundle c.reduced_best_beside.result c.in_ok-after.field-0-0 c.in_ok-after.after
      small (c.reduced_best_beside.ensures.worth v is) (c.in_ok-after.was) in
      ap (λ (z : ℤ). Some z) (difference_is c.in_ok-before.before c.in_ok-after.after before.0 after.0
      ∙ minus c.in_ok-before.before c.in_ok-after.after)
      ∙ sym (loss_of firm 0 c.args.bundle c.in_ok-before.before c.in_ok-after.after before.1 after.1);
}
  where
    minus : (a b : ℤ) → a -ℤ b ≡ a +ℤ neg_ℤ b
    minus a b = omega (arith, ints)
