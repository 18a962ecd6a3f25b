-- What shows the clauses of `best_term` of `src/terms.rt`.
use Rattle.std.proofs.Common.{rules, ◌∙◌, ◌+◌, sym, ap, subst, ℤ, Some}
use Rattle.std.proofs.lemmas.Int.{to_z-of_z}
use mir.Syntax.{w128}
use mir.Val.{SFits}
use Rattle.std.proofs.lemmas.Option.{same_Some}
use Rattle.tn_model.specs.declared.contract.Contract.{Contract}
use Rattle.tn_cert.specs.Terms.{better, IsOnTrade, FindsTerm}
use Rattle.tn_cert.proofs.TermLemmas.{is_left_out, is_kept, term_more, term_same}
use Rattle.tn_cert.proofs.terms.best_term.Goals.{then-contract-t+then-ne, else-contract-t, else-contract-t-via-then-contract-t+else-ne, else-contract-t-via-else-contract-t}
use Rattle.tn_cert.proofs.terms.best_term.Goals as goal

pub loop-k-preserved : goal.loop-k-preserved
loop-k-preserved c = elim c.if-contract-t.branch [
  | then-contract-t+then-ne w ↦
      let offered : IsOnTrade c.args.contracts.now c.args.left_out c.args.t c.loop-k.k c.at-contract.result = record {
        is = c.at-contract.ensures;
        trade = w.if-contract-t.true;
        kept = is_kept c.args.left_out c.loop-k.k (sym w.ne.ensures ∙ w.if-ne.true);
      } in
      let fits : SFits w128 w.better.result = search rules in
      let price_fits : SFits w128 c.at-contract.result.price = search rules in
      let best = w.best-is ∙ ap (λ (z : ℤ). Some z) (to_z-of_z w128 w.better.result fits ∙ w.better.ensures
      ∙ ap (better c.args.buys c.loop-k.best) (to_z-of_z w128 c.at-contract.result.price price_fits)) in
      subst (FindsTerm c.args.contracts.now c.args.left_out c.args.t c.args.buys (c.loop-k.k + 1)) (sym best)
      (term_more c.args.contracts.now c.args.left_out c.args.t c.args.buys c.loop-k.k c.loop-k.best c.at-contract.result
      c.loop-k.invariant offered)
  | else-contract-t w ↦ elim w.else-contract-t.branch [
    | else-contract-t-via-then-contract-t+else-ne u ↦
        subst (FindsTerm c.args.contracts.now c.args.left_out c.args.t c.args.buys (c.loop-k.k + 1)) (sym w.best-is)
        (term_same c.args.contracts.now c.args.left_out c.args.t c.args.buys c.loop-k.k c.loop-k.best c.loop-k.invariant
        (λ other offered. offered.kept (is_left_out c.args.left_out c.loop-k.k (sym u.ne.ensures ∙ u.if-ne.false))))
    | else-contract-t-via-else-contract-t u ↦
        subst (FindsTerm c.args.contracts.now c.args.left_out c.args.t c.args.buys (c.loop-k.k + 1)) (sym w.best-is)
        (term_same c.args.contracts.now c.args.left_out c.args.t c.args.buys c.loop-k.k c.loop-k.best c.loop-k.invariant
        (λ other offered. u.if-contract-t.false (ap (λ (z : Contract). z.trade)
        (same_Some _ _ (sym c.at-contract.ensures ∙ offered.is)) ∙ offered.trade)))
  ]
]
