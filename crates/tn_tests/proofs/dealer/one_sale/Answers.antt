-- What shows the clauses of `one_sale` of `src/dealer.rt`.
use Rattle.std.proofs.Common.{rules, ◌≡◌, [], ◌∷◌}
use Rattle.tn_tests.proofs.DealerLemmas.{two_items, pair_at, list_own, one_sale}
use Rattle.tn_tests.proofs.dealer.one_sale.Goals as goal

pub new-requires-clause-own : goal.new-requires-clause-own
new-requires-clause-own c =
    let sides : c.in_ok-sides.sides.items ≡ two_items = search rules in
    let pairs : c.in_ok-pairs.pairs.items ≡ pair_at 0 2 1 ∷ pair_at 1 2 2 ∷ [] = search rules in
    list_own c.in_ok-sides.sides.items c.in_ok-pairs.pairs.items _ sides pairs one_sale
