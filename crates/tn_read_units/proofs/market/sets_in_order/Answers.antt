-- What shows the clauses of `sets_in_order` of `src/market.rt`.
use Rattle.std.proofs.Common.{List, length, rules, subst}
use Rattle.std.specs.Prelude.{map}
use Rattle.std.specs.List.Sorted.{IsPermutation}
use Rattle.std.proofs.lemmas.List.Sorted.{IsNonDecreasingBy-from_sort_by_key, IsPermutation-map}
use Rattle.tn_counts.specs.declared.set.CountSet.{CountSet}
use Rattle.tn_read_units.specs.Placed.{PlacedSet, as_placed}
use Rattle.tn_read_units.proofs.market.sets_in_order.Goals as goal

pub returns-clause-permutation : goal.returns-clause-permutation
returns-clause-permutation c =
    subst (λ (l : List PlacedSet). IsPermutation l (map as_placed c.sort_by_key.new.self.items)) c.in_ok-sets.ensures
    (IsPermutation-map as_placed c.in_ok-sets.sets.items c.sort_by_key.new.self.items
    c.in_ok-sort_by_key.ensures.permutation)

pub returns-clause-sorted : goal.returns-clause-sorted
returns-clause-sorted c =
    IsNonDecreasingBy-from_sort_by_key (λ (set : CountSet). length set.members.items) _
    c.in_ok-sort_by_key.ensures.sorted (λ a r q k. search rules)
