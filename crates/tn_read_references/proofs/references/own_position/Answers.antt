-- What shows the clauses of `own_position` of `src/references.rt`.
use Rattle.std.proofs.Common.{sym, ◌∙◌, arith}
use Rattle.std.proofs.lemmas.Option.{slice_get-get_or}
use Rattle.tn_model.specs.declared.ends.Ends.{Ends}
use Rattle.tn_read_references.proofs.EndsLemmas.{found_within, position_on-within}
use Rattle.tn_read_references.proofs.references.own_position.Goals as goal

pub returns-clause-own : goal.returns-clause-own
returns-clause-own c =
    let ends = c.args.head.now.ends in
    let nobody : Ends = record { seller = 0; buyer = 0; at_seller = 0; at_buyer = 0 } in
    found_within c.found.result _ _ c.found.ensures.found (λ k at.
    position_on-within _ c.args.f ends c.in_ok-t.t _ c.ends.ensures.trades.order
    (slice_get-get_or ends c.in_ok-t.t nobody (omega (arith, c.in_ok-t.ensures.known, c.ends.ensures.trades.named)))
    c.args.side k (rw (← c.ends.ensures.is) (sym c.position_on-position.ensures ∙ at)))
