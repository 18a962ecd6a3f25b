-- What shows the clauses of `all_pairs` of `src/dealer.rt`.
use Rattle.std.proofs.Common.{rules, ◌≡◌, [], ◌∷◌}
use Rattle.tn_tests.proofs.DealerLemmas.{two_items, pair_at, list_own, all_pairs}
use Rattle.tn_tests.proofs.dealer.all_pairs.Goals as goal

pub new-requires-clause-own : goal.new-requires-clause-own
new-requires-clause-own c =
    let sides : c.in_ok-sides.sides.items ≡ two_items = search rules in
    let pairs : c.in_ok-pairs.pairs.items ≡ pair_at 0 2 1 ∷ pair_at 0 3 3 ∷ pair_at 1 2 2 ∷ pair_at 1 3 1 ∷ [] =
    search rules in
    list_own c.in_ok-sides.sides.items c.in_ok-pairs.pairs.items _ sides pairs all_pairs
