-- What shows the clauses of `dealer` of `src/firm.rt`.
use Rattle.std.proofs.Common.{rules, ◌≡◌, List, [], ◌∷◌, length, refl, sym, subst, arith, pos}
use Rattle.std.specs.Prelude.{All}
use Rattle.std.proofs.lemmas.Int.{ints}
use Rattle.std.proofs.lemmas.List.Elements.{All-nil, All-cons}
use Rattle.tn_base.specs.Sets.{has}
use Rattle.tn_base.specs.Table.{buys_of}
use Rattle.tn_base.specs.declared.side.Side.{Side}
use Rattle.tn_base.specs.declared.side.Side.TheVariants.{Buy, Sell}
use Rattle.tn_dealer.specs.declared.pair.Pair.{Pair}
use Rattle.tn_dealer.specs.Pairs.{IsOwnPair}
use Rattle.tn_tests.proofs.firm.dealer.Goals as goal

abbrev one_pair : Pair
one_pair = record { buy = 0; sell = 1; cost = pos 2 }

one_own : IsOwnPair 2 1 one_pair
unfolding has
one_own = record {
  purchase = omega arith;
  bought = refl;
  sale = omega arith;
  sold = refl;
  small = record { low = omega (arith, ints); high = omega (arith, ints) };
}

list_own : (sides : List Side) (pairs : List Pair) → sides ≡ Buy ∷ Sell ∷ [] → pairs ≡ one_pair ∷ []
    → All (IsOwnPair (length sides) (buys_of sides)) pairs
list_own sides pairs sides_is pairs_is =
    subst (λ s. All (IsOwnPair (length s) (buys_of s)) pairs) (sym sides_is)
    (subst (All (IsOwnPair 2 1)) (sym pairs_is) (All-cons (IsOwnPair 2 1) one_pair [] one_own
    (All-nil (IsOwnPair 2 1))))

pub new-requires-clause-own : goal.new-requires-clause-own
new-requires-clause-own c =
    let sides : c.in_ok-sides.sides.items ≡ Buy ∷ Sell ∷ [] = search rules in
    let pairs : c.in_ok-pairs.pairs.items ≡ one_pair ∷ [] = search rules in
    list_own c.in_ok-sides.sides.items c.in_ok-pairs.pairs.items sides pairs
