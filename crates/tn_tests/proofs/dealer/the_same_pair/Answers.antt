-- What shows the clauses of `the_same_pair` of `src/dealer.rt`.
use Rattle.std.proofs.Common.{rules, ◌≡◌, [], ◌∷◌}
use Rattle.tn_tests.proofs.DealerLemmas.{two_items, pair_at, list_own, same_pair}
use Rattle.tn_tests.proofs.dealer.the_same_pair.Goals as goal

pub new-requires-clause-own : goal.new-requires-clause-own
new-requires-clause-own g c =
    let sides : c.in_ok-sides.sides.items ≡ two_items = search rules in
    let pairs : c.in_ok-pairs.pairs.items ≡ pair_at 0 2 1 ∷ pair_at 0 3 3 ∷ pair_at 1 2 2 ∷ pair_at 1 3 1 ∷ pair_at 0 2
    7 ∷ [] = search rules in
    list_own c.in_ok-sides.sides.items c.in_ok-pairs.pairs.items _ sides pairs same_pair
