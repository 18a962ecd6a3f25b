-- What shows the clauses of `Fixed::unraised` of `src/fixed.rt`.
use Rattle.std.proofs.Common.{◌∙◌, ◌*◌, sym, ap₂}
use Rattle.tn_model.specs.Limits.{most_over}
use Rattle.tn_outcome_laws.specs.Fixed.{lesser}
use Rattle.tn_judge.specs.FixingLemmas.{unraised_small}
use Rattle.tn_judge.specs.Limits.{most_exchange_cost}
use Rattle.tn_judge.proofs.CompletionLemmas.{small_if}
use Rattle.tn_judge.proofs.fixed.Fixed.unraised.Goals as goal

pub returns-clause-small : goal.returns-clause-small
returns-clause-small c =
    let fixed = c.args.self.now in
    small_if (most_over * most_exchange_cost) c.lesser.result (λ z is.
    unraised_small fixed.graph.now fixed.over fixed.null fixed.prices.now fixed.fits c.args.a c.args.b z
    (sym (c.lesser.ensures ∙ ap₂ lesser c.exchange.ensures c.fixing.ensures) ∙ is))
