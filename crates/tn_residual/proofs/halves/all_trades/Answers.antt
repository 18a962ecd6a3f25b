-- What shows the clauses of `all_trades` of `src/halves.rt`.
use Rattle.std.proofs.Common.{◌∙◌, arith, ap₂, ◌++◌, ℕ, List}
use Rattle.tn_model.specs.declared.ends.Ends.{Ends}
use Rattle.tn_residual.specs.Residual.{halves_from}
use Rattle.tn_residual.proofs.MakingLemmas.{contracts_few}
use Rattle.tn_residual.proofs.halves.all_trades.Goals as goal

pub add_halves-requires-clause-few : goal.add_halves-requires-clause-few
add_halves-requires-clause-few g c =
    let few = contracts_few c.args.market.now.trades c.args.outcome.now.over c.args.outcome.now.contracts
    c.requires.outcome in
    let most = c.requires.limits.few_trades in
    omega (arith, few, most)

pub returns-clause-trades : goal.returns-clause-trades
returns-clause-trades g c =
    c.in_ok-add_halves.ensures
    ∙ ap₂ (λ (xs : List Ends) (n : ℕ). xs ++ halves_from c.args.market.now.trades n c.args.outcome.now.contracts)
    c.in_ok-trades.ensures c.firms-firms.ensures.count
