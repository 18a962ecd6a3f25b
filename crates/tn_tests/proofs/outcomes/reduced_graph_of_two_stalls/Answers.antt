-- What shows the clauses of `reduced_graph_of_two_stalls` of `src/outcomes.rt`.
use Rattle.std.proofs.Common.{◌≡◌, length, rules}
use Rattle.tn_tests.proofs.StallLemmas.{stalls-within}
use Rattle.tn_tests.proofs.outcomes.reduced_graph_of_two_stalls.Goals as goal

pub reduced_graph-requires-clause-limits : goal.reduced_graph-requires-clause-limits
reduced_graph-requires-clause-limits g c =
    let firms : length c.expect-market.result.firms ≡ 2 = search rules in
    let trades : length c.expect-market.result.trades ≡ 2 = search rules in
    stalls-within c.expect-market.result firms trades
