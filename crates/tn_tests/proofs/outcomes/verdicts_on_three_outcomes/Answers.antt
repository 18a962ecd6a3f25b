-- What shows the clauses of `verdicts_on_three_outcomes` of `src/outcomes.rt`.
use Rattle.std.proofs.Common.{◌≡◌, length, rules}
use Rattle.tn_tests.proofs.StallLemmas.{stalls-within}
use Rattle.tn_tests.proofs.outcomes.verdicts_on_three_outcomes.Goals as goal

pub judge-requires-clause-limits : goal.judge-requires-clause-limits
judge-requires-clause-limits g c =
    let firms : length c.expect-market.result.firms ≡ 2 = search rules in
    let trades : length c.expect-market.result.trades ≡ 2 = search rules in
    stalls-within c.expect-market.result firms trades

pub judge-requires-2-clause-limits : goal.judge-requires-2-clause-limits
judge-requires-2-clause-limits g c =
    let firms : length c.expect-market.result.firms ≡ 2 = search rules in
    let trades : length c.expect-market.result.trades ≡ 2 = search rules in
    stalls-within c.expect-market.result firms trades

pub judge-requires-3-clause-limits : goal.judge-requires-3-clause-limits
judge-requires-3-clause-limits g c =
    let firms : length c.expect-market.result.firms ≡ 2 = search rules in
    let trades : length c.expect-market.result.trades ≡ 2 = search rules in
    stalls-within c.expect-market.result firms trades
