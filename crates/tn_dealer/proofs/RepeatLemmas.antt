-- Pairs of which no two have the same purchase and the same sale are few.
use Rattle.std.proofs.Common.{◌≡◌, ◌≢◌, ℕ, zero, suc, ◌+◌, ◌*◌, ◌^◌, ◌<◌, ◌≤◌, true, false, sym, ◌∙◌, arith, inl, inr, List, length, get_or}
use Rattle.std.specs.Prelude.{All, pos}
use Rattle.std.proofs.lemmas.Nat.{pow_pos}
use Rattle.std.proofs.lemmas.Bool.{cases_eq, cases_Bool, false≢true}
use Rattle.std.proofs.lemmas.Option.{slice_get_within, slice_get-get_or}
use Rattle.std.proofs.lemmas.List.Elements.{All-get_or}
use Rattle.tn_base.specs.Sets.{has, toggle, size}
use Rattle.tn_base.proofs.SetLemmas.{has-zero, has-toggle_other, toggle_within}
use Rattle.tn_base.proofs.SizeLemmas.{size-toggle_in, size-zero, size_le}
use Rattle.tn_dealer.specs.declared.pair.Pair.{Pair}
use Rattle.tn_dealer.specs.Pairs.{IsNear, AreDifferentBelow, AreUnrepeated}
use Rattle.tn_market.specs.Widths.{most_own}

-- ---- numbers below n of which no two are equal are at most n

-- the set of the first numbers
unfoldable pub numbers_below : (ℕ → ℕ) → ℕ → ℕ
numbers_below f zero = 0
numbers_below f (suc k) = toggle (numbers_below f k) (f k)

pub record AreCounted (f : ℕ → ℕ) (n k : ℕ) : Type 0 where
  pub within : numbers_below f k < 2 ^ n
  pub counted : size (numbers_below f k) ≡ k
  pub only : (c : ℕ) → has (numbers_below f k) c ≡ true → (i : ℕ) × (i < k) × (f i ≡ c)

counted_more : (f : ℕ → ℕ) (n k : ℕ) → f k < n → ((i : ℕ) → i < k → f i ≢ f k) → AreCounted f n k
    → AreCounted f n (suc k)
unfolding numbers_below
counted_more f n k below apart before = record {
  within = toggle_within (numbers_below f k) (f k) n before.within below;
  counted = (let more = size-toggle_in (numbers_below f k) (f k) new in let p = before.counted in
      omega (arith, more, p));
  only = λ c there. elim (cases_eq c (f k)) [
    | inl e ↦ (k, omega arith, sym e)
    | inr d ↦
        let found = before.only c (sym (has-toggle_other (numbers_below f k) (f k) c d) ∙ there) in
        (found.0, (let p = found.1 in omega (arith, p)), found.2)
  ];
}
  where
    new : has (numbers_below f k) (f k) ≡ false
    new = elim (cases_Bool (has (numbers_below f k) (f k))) [
      | inl there ↦ (let found = before.only (f k) there in absurd (apart found.0 found.1 found.2))
      | inr none ↦ none
    ]

counted : (f : ℕ → ℕ) (n k : ℕ) → ((i : ℕ) → i < k → f i < n) → ((i j : ℕ) → i < j → j < k → f i ≢ f j)
    → AreCounted f n k
unfolding numbers_below
counted f n zero below apart = record {
  within = pow_pos n;
  counted = size-zero;
  only =
      λ c there. absurd (false≢true (sym (has-zero c) ∙ there));
}
counted f n (suc k) below apart =
    counted_more f n k (below k (omega arith)) (λ i h. apart i k h (omega arith))
    (counted f n k (λ i h. below i (omega (arith, h))) (λ i j h m. apart i j h (omega (arith, m))))

few_numbers : (f : ℕ → ℕ) (n k : ℕ) → ((i : ℕ) → i < k → f i < n) → ((i j : ℕ) → i < j → j < k → f i ≢ f j) → k ≤ n
few_numbers f n k below apart =
    let all = counted f n k below apart in
    let p = all.counted in
    let q = size_le n (numbers_below f k) all.within in
    omega (arith, p, q)

-- ---- pairs

abbrev pub no_pair : Pair
no_pair = record { buy = 0; sell = 0; cost = pos 0 }

abbrev pub pair_at : List Pair → ℕ → Pair
pair_at pairs k = get_or pairs k no_pair

-- the number of a pair among all of purchases and sales below 60
abbrev pub number_of : List Pair → ℕ → ℕ
number_of pairs k = (pair_at pairs k).buy * most_own + (pair_at pairs k).sell

same_number : (a b c d : ℕ) → b < most_own → d < most_own → a * most_own + b ≡ c * most_own + d → (a ≡ c) × (b ≡ d)
same_number a b c d p q e = (omega (arith, p, q, e), omega (arith, p, q, e))

-- where no pair before a place is repeated, the place is at most 60 * 60
pub few_different : (pairs : List Pair) (k : ℕ) → k ≤ length pairs → All IsNear pairs → AreDifferentBelow pairs k
    → k ≤ most_own * most_own
few_different pairs k within near different = few_numbers (number_of pairs) (most_own * most_own) k below apart
  where
    near_at : (i : ℕ) → i < k → IsNear (pair_at pairs i)
    near_at i h = All-get_or IsNear pairs i no_pair (omega (arith, h, within)) near

    below : (i : ℕ) → i < k → number_of pairs i < most_own * most_own
    below i h = let p = (near_at i h).buy in let q = (near_at i h).sell in omega (arith, p, q)

    apart : (i j : ℕ) → i < j → j < k → number_of pairs i ≢ number_of pairs j
    apart i j h m e =
        let i_below : i < k = omega (arith, h, m) in
        let same = same_number (pair_at pairs i).buy (pair_at pairs i).sell (pair_at pairs j).buy (pair_at pairs j).sell
        (near_at i i_below).sell (near_at j m).sell e in
        different j m (record {
          at = i;
          earlier = pair_at pairs i;
          pair = pair_at pairs j;
          before = h;
          earlier_is = slice_get-get_or pairs i no_pair (omega (arith, i_below, within));
          pair_is = slice_get-get_or pairs j no_pair (omega (arith, m, within));
          same_buy = same.0;
          same_sell = same.1;
        })

pub different_all : (pairs : List Pair) (k : ℕ) → length pairs ≤ k → AreDifferentBelow pairs k → AreUnrepeated pairs
different_all pairs k end before j repeated =
    let inside = slice_get_within pairs j repeated.pair repeated.pair_is in
    before j (omega (arith, inside, end)) repeated
