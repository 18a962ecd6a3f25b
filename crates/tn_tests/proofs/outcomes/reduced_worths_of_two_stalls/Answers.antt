-- What shows the clauses of `reduced_worths_of_two_stalls` of `src/outcomes.rt`.
use Rattle.std.proofs.Common.{◌≡◌, length, rules}
use Rattle.tn_market.proofs.AskLemmas.{none_meet}
use Rattle.tn_tests.proofs.StallLemmas.{stalls-within}
use Rattle.tn_tests.proofs.outcomes.reduced_worths_of_two_stalls.Goals as goal

pub reduced_best-seller-requires-clause-unsigned : goal.reduced_best-seller-requires-clause-unsigned
reduced_best-seller-requires-clause-unsigned g c = λ v is. none_meet c.empty-none.result _ c.empty-none.ensures

pub reduced_best-buyer-requires-clause-unsigned : goal.reduced_best-buyer-requires-clause-unsigned
reduced_best-buyer-requires-clause-unsigned g c = λ v is. none_meet c.empty-none.result _ c.empty-none.ensures

pub reduced_best-seller-requires-clause-limits : goal.reduced_best-seller-requires-clause-limits
reduced_best-seller-requires-clause-limits g c =
    let firms : length c.expect-market.result.firms ≡ 2 = search rules in
    let trades : length c.expect-market.result.trades ≡ 2 = search rules in
    stalls-within c.expect-market.result firms trades

pub reduced_best-buyer-requires-clause-limits : goal.reduced_best-buyer-requires-clause-limits
reduced_best-buyer-requires-clause-limits g c =
    let firms : length c.expect-market.result.firms ≡ 2 = search rules in
    let trades : length c.expect-market.result.trades ≡ 2 = search rules in
    stalls-within c.expect-market.result firms trades

pub residual-requires-clause-limits : goal.residual-requires-clause-limits
residual-requires-clause-limits g c =
    let firms : length c.expect-market.result.firms ≡ 2 = search rules in
    let trades : length c.expect-market.result.trades ≡ 2 = search rules in
    stalls-within c.expect-market.result firms trades
