-- The pairs of the tests, whose dealer buys the items 0 and 1 and sells 2 and 3, are pairs of own trades.
use Rattle.std.proofs.Common.{◌≡◌, ℕ, ◌<◌, ◌≤◌, true, false, List, [], ◌∷◌, length, refl, sym, subst, arith, pos}
use Rattle.std.specs.Prelude.{All}
use Rattle.std.proofs.lemmas.Int.{ints}
use Rattle.std.proofs.lemmas.List.Elements.{All-nil, All-cons}
use Rattle.tn_base.specs.Sets.{has}
use Rattle.tn_base.specs.Table.{buys_of}
use Rattle.tn_base.specs.declared.side.Side.{Side}
use Rattle.tn_base.specs.declared.side.Side.TheVariants.{Buy, Sell}
use Rattle.tn_dealer.specs.declared.pair.Pair.{Pair}
use Rattle.tn_dealer.specs.Pairs.{IsOwnPair}
use Rattle.tn_base.specs.Widths.{most_amount}

abbrev pub two_items : List Side
two_items = Buy ∷ Buy ∷ Sell ∷ Sell ∷ []

abbrev pub pair_at : ℕ → ℕ → ℕ → Pair
pair_at b s cost = record { buy = b; sell = s; cost = pos cost }

own_at : (b s cost : ℕ) → b < 4 → has 3 b ≡ true → s < 4 → has 3 s ≡ false → cost ≤ most_amount
    → IsOwnPair 4 3 (pair_at b s cost)
own_at b s cost purchase bought sale sold few = record {
  purchase = purchase;
  bought = bought;
  sale = sale;
  sold = sold;
  small = record { low = omega (arith, ints); high = omega (arith, ints, few) };
}

own-0-2 : (cost : ℕ) → cost ≤ most_amount → IsOwnPair 4 3 (pair_at 0 2 cost)
unfolding has
own-0-2 cost few = own_at 0 2 cost (omega arith) refl (omega arith) refl few

own-0-3 : (cost : ℕ) → cost ≤ most_amount → IsOwnPair 4 3 (pair_at 0 3 cost)
unfolding has
own-0-3 cost few = own_at 0 3 cost (omega arith) refl (omega arith) refl few

own-1-2 : (cost : ℕ) → cost ≤ most_amount → IsOwnPair 4 3 (pair_at 1 2 cost)
unfolding has
own-1-2 cost few = own_at 1 2 cost (omega arith) refl (omega arith) refl few

own-1-3 : (cost : ℕ) → cost ≤ most_amount → IsOwnPair 4 3 (pair_at 1 3 cost)
unfolding has
own-1-3 cost few = own_at 1 3 cost (omega arith) refl (omega arith) refl few

pub list_own : (sides : List Side) (pairs listed : List Pair) → sides ≡ two_items → pairs ≡ listed
    → All (IsOwnPair 4 3) listed → All (IsOwnPair (length sides) (buys_of sides)) pairs
list_own sides pairs listed sides_is pairs_is all =
    subst (λ s. All (IsOwnPair (length s) (buys_of s)) pairs) (sym sides_is)
    (subst (All (IsOwnPair 4 3)) (sym pairs_is) all)

pub all_pairs : All (IsOwnPair 4 3) (pair_at 0 2 1 ∷ pair_at 0 3 3 ∷ pair_at 1 2 2 ∷ pair_at 1 3 1 ∷ [])
all_pairs = All-cons (IsOwnPair 4 3) (pair_at 0 2 1) (pair_at 0 3 3 ∷ pair_at 1 2 2 ∷ pair_at 1 3 1 ∷ [])
    (own-0-2 1 (omega arith)) (All-cons (IsOwnPair 4 3) (pair_at 0 3 3) (pair_at 1 2 2 ∷ pair_at 1 3 1 ∷ [])
    (own-0-3 3 (omega arith)) (All-cons (IsOwnPair 4 3) (pair_at 1 2 2) (pair_at 1 3 1 ∷ []) (own-1-2 2 (omega arith))
    (All-cons (IsOwnPair 4 3) (pair_at 1 3 1) ([]) (own-1-3 1 (omega arith)) (All-nil (IsOwnPair 4 3)))))

pub one_sale : All (IsOwnPair 4 3) (pair_at 0 2 1 ∷ pair_at 1 2 2 ∷ [])
one_sale = All-cons (IsOwnPair 4 3) (pair_at 0 2 1) (pair_at 1 2 2 ∷ []) (own-0-2 1 (omega arith))
    (All-cons (IsOwnPair 4 3) (pair_at 1 2 2) ([]) (own-1-2 2 (omega arith)) (All-nil (IsOwnPair 4 3)))

pub same_pair : All (IsOwnPair 4 3) (pair_at 0 2 1 ∷ pair_at 0 3 3 ∷ pair_at 1 2 2 ∷ pair_at 1 3 1 ∷ pair_at 0 2 7 ∷ [])
same_pair = All-cons (IsOwnPair 4 3) (pair_at 0 2 1)
    (pair_at 0 3 3 ∷ pair_at 1 2 2 ∷ pair_at 1 3 1 ∷ pair_at 0 2 7 ∷ []) (own-0-2 1 (omega arith))
    (All-cons (IsOwnPair 4 3) (pair_at 0 3 3) (pair_at 1 2 2 ∷ pair_at 1 3 1 ∷ pair_at 0 2 7 ∷ [])
    (own-0-3 3 (omega arith)) (All-cons (IsOwnPair 4 3) (pair_at 1 2 2) (pair_at 1 3 1 ∷ pair_at 0 2 7 ∷ [])
    (own-1-2 2 (omega arith)) (All-cons (IsOwnPair 4 3) (pair_at 1 3 1) (pair_at 0 2 7 ∷ []) (own-1-3 1 (omega arith))
    (All-cons (IsOwnPair 4 3) (pair_at 0 2 7) ([]) (own-0-2 7 (omega arith)) (All-nil (IsOwnPair 4 3))))))
