-- Sets as machine words: what an operation on the words is on the set.
use Rattle.std.proofs.Common.{◌≡◌, ◌≢◌, ℕ, zero, suc, ◌+◌, ◌*◌, ◌/◌, ◌%◌, ◌^◌, ◌<◌, ◌≤◌, not, ◌&&◌, ◌||◌, refl, sym, ap, ◌∙◌, subst, arith, inl, inr, List, [], ◌∷◌, length, get_or, set, take, replicate}
use Rattle.std.specs.Int.Count.{ones}
use Rattle.std.specs.List.{sum_by}
use Rattle.std.proofs.Common.{pow-add}
use Rattle.std.proofs.Math.Seq.{take-length}
use Rattle.std.proofs.lemmas.List.{get_or-set_same, get_or-set_other, get_or_past, length-set}
use Rattle.std.proofs.lemmas.List.Sums.{sum_by-cons, sum_by_more}
use Rattle.std.proofs.lemmas.Bool.{cases_eq, cases_lt, cases_Bool, eq-eqb, ne_eqb}
use Rattle.std.proofs.lemmas.Nat.{pow_pos, mul-add-lt, ones_cat, ones-le}
use Rattle.tn_base.specs.Sets.{has, toggle, union, meet, minus, size}
use Rattle.std.specs.Prelude.{nat_eq}
use Rattle.std.specs.Cmp.Lexicographic.{pointwise, same_text, other_text}
use Rattle.tn_base.specs.Limbs.{joined, AreLimbs, limbs_of}
use Rattle.tn_base.specs.LimbLemmas.{limbs_of-joined}
use Rattle.tn_base.proofs.SetLemmas.{same_set, has-zero, has-union, has-meet, has-minus, has-toggle_same, has-toggle_other, has-low, has-high, union_within, meet_within, minus_within, toggle_within}
use Rattle.tn_base.proofs.SizeLemmas.{ones_is, size_at}

-- words make a number below 2 to the power of all their digits
pub joined_within : (count : ℕ) (limbs : List ℕ) → AreLimbs count limbs → joined limbs < 2 ^ (64 * count)
unfolding joined
joined_within count [] fine = let h : 0 < 2 ^ (64 * count) = pow_pos (64 * count) in h
joined_within zero (limb ∷ limbs) fine = absurd (omega (arith, fine.counted))
joined_within (suc count) (limb ∷ limbs) fine =
    let rest = joined_within count limbs (record {
      counted = omega (arith, fine.counted);
      words =
          λ k. fine.words (suc k);
    }) in
    let h = mul-add-lt (joined limbs) (2 ^ 64) limb (2 ^ (64 * count)) rest (fine.words 0) in
    let e : 2 ^ 64 * 2 ^ (64 * count) ≡ 2 ^ (64 * suc count) =
    sym (pow-add 2 64 (64 * count)) ∙ ap (λ (n : ℕ). 2 ^ n) (omega arith) in
    subst (λ (n : ℕ). joined (limb ∷ limbs) < n) e h

-- a member stands in its own word
pub has-joined : (limbs : List ℕ) (q r : ℕ) → ((k : ℕ) → get_or limbs k 0 < 2 ^ 64) → r < 64
    → has (joined limbs) (q * 64 + r) ≡ has (get_or limbs q 0) r
unfolding joined
has-joined [] q r words low = has-zero (q * 64 + r) ∙ sym (has-zero r)
has-joined (limb ∷ limbs) zero r words low =
    let e : 0 * 64 + r ≡ r = omega arith in
    ap (has (joined (limb ∷ limbs))) e ∙ has-low (joined limbs) 64 limb r low
has-joined (limb ∷ limbs) (suc q) r words low =
    let e : suc q * 64 + r ≡ 64 + (q * 64 + r) = omega arith in
    ap (has (joined (limb ∷ limbs))) e ∙ has-high (joined limbs) 64 limb (q * 64 + r) (words 0)
    ∙ has-joined limbs q r (λ k. words (suc k)) low

-- the same at a position
pub has-limb : (limbs : List ℕ) (t : ℕ) → ((k : ℕ) → get_or limbs k 0 < 2 ^ 64)
    → has (joined limbs) t ≡ has (get_or limbs (t / 64) 0) (t % 64)
has-limb limbs t words =
    let e : t ≡ t / 64 * 64 + t % 64 = omega arith in
    ap (has (joined limbs)) e ∙ has-joined limbs (t / 64) (t % 64) words (omega arith)

-- no word holds no member
pub joined-zeros : (count : ℕ) → joined (replicate count 0) ≡ 0
unfolding joined
joined-zeros zero = refl
joined-zeros (suc count) = let h = joined-zeros count in omega (arith, h)

-- word by word the members of either
pub joined-union : (xs ys zs : List ℕ) → ((k : ℕ) → get_or xs k 0 < 2 ^ 64) → ((k : ℕ) → get_or ys k 0 < 2 ^ 64)
    → ((k : ℕ) → get_or zs k 0 ≡ union (get_or xs k 0) (get_or ys k 0)) → joined zs ≡ union (joined xs) (joined ys)
joined-union xs ys zs x_words y_words same = same_set _ _ (λ t.
    has-limb zs t (λ k. subst (λ (z : ℕ). z < 2 ^ 64) (sym (same k))
    (union_within (get_or xs k 0) (get_or ys k 0) 64 (x_words k) (y_words k)))
    ∙ ap (λ (z : ℕ). has z (t % 64)) (same (t / 64)) ∙ has-union (get_or xs (t / 64) 0) (get_or ys (t / 64) 0) (t % 64)
    ∙ ap (λ b. b || has (get_or ys (t / 64) 0) (t % 64)) (sym (has-limb xs t x_words))
    ∙ ap (λ b. has (joined xs) t || b) (sym (has-limb ys t y_words)) ∙ sym (has-union (joined xs) (joined ys) t))

-- word by word the members of both
pub joined-meet : (xs ys zs : List ℕ) → ((k : ℕ) → get_or xs k 0 < 2 ^ 64) → ((k : ℕ) → get_or ys k 0 < 2 ^ 64)
    → ((k : ℕ) → get_or zs k 0 ≡ meet (get_or xs k 0) (get_or ys k 0)) → joined zs ≡ meet (joined xs) (joined ys)
joined-meet xs ys zs x_words y_words same = same_set _ _ (λ t.
    has-limb zs t (λ k. subst (λ (z : ℕ). z < 2 ^ 64) (sym (same k))
    (meet_within (get_or xs k 0) (get_or ys k 0) 64 (x_words k)))
    ∙ ap (λ (z : ℕ). has z (t % 64)) (same (t / 64)) ∙ has-meet (get_or xs (t / 64) 0) (get_or ys (t / 64) 0) (t % 64)
    ∙ ap (λ b. b && has (get_or ys (t / 64) 0) (t % 64)) (sym (has-limb xs t x_words))
    ∙ ap (λ b. has (joined xs) t && b) (sym (has-limb ys t y_words)) ∙ sym (has-meet (joined xs) (joined ys) t))

-- word by word the members of the first that are not in the second
pub joined-minus : (xs ys zs : List ℕ) → ((k : ℕ) → get_or xs k 0 < 2 ^ 64) → ((k : ℕ) → get_or ys k 0 < 2 ^ 64)
    → ((k : ℕ) → get_or zs k 0 ≡ minus (get_or xs k 0) (get_or ys k 0)) → joined zs ≡ minus (joined xs) (joined ys)
joined-minus xs ys zs x_words y_words same = same_set _ _ (λ t.
    has-limb zs t (λ k. subst (λ (z : ℕ). z < 2 ^ 64) (sym (same k))
    (minus_within (get_or xs k 0) (get_or ys k 0) 64 (x_words k)))
    ∙ ap (λ (z : ℕ). has z (t % 64)) (same (t / 64)) ∙ has-minus (get_or xs (t / 64) 0) (get_or ys (t / 64) 0) (t % 64)
    ∙ ap (λ b. b && not (has (get_or ys (t / 64) 0) (t % 64))) (sym (has-limb xs t x_words))
    ∙ ap (λ b. has (joined xs) t && not b) (sym (has-limb ys t y_words)) ∙ sym (has-minus (joined xs) (joined ys) t))

-- two numbers of one word differ within it
same_place : (t i : ℕ) → t / 64 ≡ i / 64 → t % 64 ≡ i % 64 → t ≡ i
same_place t i q r = omega (arith, q, r)

-- a member is toggled in its own word
pub joined-toggle : (xs zs : List ℕ) (i : ℕ) → ((k : ℕ) → get_or xs k 0 < 2 ^ 64)
    → get_or zs (i / 64) 0 ≡ toggle (get_or xs (i / 64) 0) (i % 64)
    → ((k : ℕ) → k ≢ i / 64 → get_or zs k 0 ≡ get_or xs k 0)
    → joined zs ≡ toggle (joined xs) i
joined-toggle xs zs i words here there = same_set _ _ (λ t. has-limb zs t z_words ∙ at_place t)
  where
    z_words : (k : ℕ) → get_or zs k 0 < 2 ^ 64
    z_words k = elim (cases_eq k (i / 64)) [
      | inl e ↦ subst (λ (j : ℕ). get_or zs j 0 < 2 ^ 64) (sym e)
          (subst (λ (z : ℕ). z < 2 ^ 64) (sym here) (toggle_within (get_or xs (i / 64) 0) (i % 64) 64 (words (i / 64))
          (omega arith)))
      | inr d ↦ subst (λ (z : ℕ). z < 2 ^ 64) (sym (there k d)) (words k)
    ]

    kept : (t : ℕ) → t ≢ i → has (get_or zs (t / 64) 0) (t % 64) ≡ has (get_or xs (t / 64) 0) (t % 64)
    kept t d = elim (cases_eq (t / 64) (i / 64)) [
      | inl e ↦ subst (λ (q : ℕ). has (get_or zs q 0) (t % 64) ≡ has (get_or xs q 0) (t % 64)) (sym e)
          (ap (λ (z : ℕ). has z (t % 64)) here
          ∙ has-toggle_other (get_or xs (i / 64) 0) (i % 64) (t % 64) (λ r. d (same_place t i e r)))
      | inr p ↦ ap (λ (z : ℕ). has z (t % 64)) (there (t / 64) p)
    ]

    at_place : (t : ℕ) → has (get_or zs (t / 64) 0) (t % 64) ≡ has (toggle (joined xs) i) t
    at_place t = elim (cases_eq t i) [
      | inl e ↦ subst (λ (j : ℕ). has (get_or zs (j / 64) 0) (j % 64) ≡ has (toggle (joined xs) i) j) (sym e)
          (ap (λ (z : ℕ). has z (i % 64)) here ∙ has-toggle_same (get_or xs (i / 64) 0) (i % 64)
          ∙ ap not (sym (has-limb xs i words)) ∙ sym (has-toggle_same (joined xs) i))
      | inr d ↦ kept t d ∙ sym (has-limb xs t words) ∙ sym (has-toggle_other (joined xs) i t d)
    ]

-- the set digits of all words are those of the number
pub ones-joined : (limbs : List ℕ) → ((k : ℕ) → get_or limbs k 0 < 2 ^ 64) → ones (joined limbs) ≡ sum_by ones limbs
unfolding joined ones
ones-joined [] words = refl
ones-joined (limb ∷ limbs) words =
    let rest = ones-joined limbs (λ k. words (suc k)) in
    let cut = ones_cat 64 (joined limbs) limb (words 0) in
    let sum = sum_by-cons ones limb limbs in
    omega (arith, rest, cut, sum)

-- the set digits of all words are as many as there are members
pub size-joined : (count : ℕ) (limbs : List ℕ) → AreLimbs count limbs → sum_by ones limbs ≡ size (joined limbs)
size-joined count limbs fine =
    let below = joined_within count limbs fine in
    sym (ones-joined limbs fine.words) ∙ ones_is (64 * count) (joined limbs) below
    ∙ sym (size_at (64 * count) (joined limbs) below)

-- the words below k are worked on, and the others are as they were
pub record AreDone (work : ℕ → ℕ → ℕ) (xs ys zs : List ℕ) (k : ℕ) : Type 0 where
  pub counted : length zs ≡ length xs
  pub below : (j : ℕ) → j < k → get_or zs j 0 ≡ work (get_or xs j 0) (get_or ys j 0)
  pub above : (j : ℕ) → k ≤ j → get_or zs j 0 ≡ get_or xs j 0

-- one word more is done
pub one_done : (work : ℕ → ℕ → ℕ) (xs ys zs : List ℕ) (k : ℕ) → AreDone work xs ys zs k → k < length xs
    → AreDone work xs ys (set zs k (work (get_or zs k 0) (get_or ys k 0))) (k + 1)
one_done work xs ys zs k before inside = record {
  counted = length-set zs k (work (get_or zs k 0) (get_or ys k 0)) ∙ before.counted;
  below = below;
  above = λ j h. get_or-set_other zs k j (work (get_or zs k 0) (get_or ys k 0)) 0 (omega (arith, h))
      ∙ before.above j (omega (arith, h));
}
  where
    new : ℕ
    new = work (get_or zs k 0) (get_or ys k 0)

    here : get_or (set zs k new) k 0 ≡ work (get_or xs k 0) (get_or ys k 0)
    here = get_or-set_same zs k new 0 (omega (arith, before.counted, inside))
        ∙ ap (λ (x : ℕ). work x (get_or ys k 0)) (before.above k (omega arith))

    below : (j : ℕ) → j < k + 1 → get_or (set zs k new) j 0 ≡ work (get_or xs j 0) (get_or ys j 0)
    below j h = elim (cases_eq j k) [
      | inl e ↦ subst (λ (i : ℕ). get_or (set zs k new) i 0 ≡ work (get_or xs i 0) (get_or ys i 0)) (sym e) here
      | inr d ↦ get_or-set_other zs k j new 0 d ∙ before.below j (omega (arith, h, d))
    ]

-- all is done
pub all_done : (work : ℕ → ℕ → ℕ) (xs ys zs : List ℕ) (k : ℕ) → AreDone work xs ys zs k → work 0 0 ≡ 0 → length xs ≤ k
    → length ys ≤ k
    → (j : ℕ) → get_or zs j 0 ≡ work (get_or xs j 0) (get_or ys j 0)
all_done work xs ys zs k done nothing x_short y_short j = elim (cases_lt j k) [
  | inl h ↦ done.below j h
  | inr h ↦ get_or_past zs j 0 (omega (arith, h, done.counted, x_short)) ∙ sym nothing
      ∙ ap (λ (x : ℕ). work x 0) (sym (get_or_past xs j 0 (omega (arith, h, x_short))))
      ∙ ap (work (get_or xs j 0)) (sym (get_or_past ys j 0 (omega (arith, h, y_short))))
]

-- the set digits of the words below k are counted, at most 64 for each
pub record AreCounted (limbs : List ℕ) (k count : ℕ) : Type 0 where
  pub counted : count ≡ sum_by ones (take k limbs)
  pub few : count ≤ 64 * k

-- no word is counted at first
pub none_counted : (limbs : List ℕ) → AreCounted limbs 0 0
none_counted limbs = record { counted = refl; few = omega arith }

-- one word more is counted
pub one_counted : (limbs : List ℕ) (k count : ℕ) → ((j : ℕ) → get_or limbs j 0 < 2 ^ 64) → k < length limbs
    → AreCounted limbs k count
    → AreCounted limbs (k + 1) (count + ones (get_or limbs k 0))
one_counted limbs k count words inside before =
    let step = sum_by_more ones limbs k 0 inside in
    let few = ones-le 64 (get_or limbs k 0) (words k) in
    record {
      counted = ap (λ (n : ℕ). n + ones (get_or limbs k 0)) before.counted ∙ sym step;
      few = omega (arith, before.few, few);
    }

-- all words are counted
pub all_counted : (limbs : List ℕ) (k count : ℕ) → AreCounted limbs k count → k ≡ length limbs
    → count ≡ sum_by ones limbs
all_counted limbs k count done all =
    done.counted ∙ ap (λ (n : ℕ). sum_by ones (take n limbs)) all ∙ ap (sum_by ones) (take-length limbs)

-- words that are worked on one by one make as many words
limbs_done : (work : ℕ → ℕ → ℕ) → ((x y : ℕ) → x < 2 ^ 64 → y < 2 ^ 64 → work x y < 2 ^ 64)
    → (count : ℕ) (xs ys zs : List ℕ)
    → AreLimbs count xs → AreLimbs count ys → length zs ≡ length xs
    → ((j : ℕ) → get_or zs j 0 ≡ work (get_or xs j 0) (get_or ys j 0))
    → AreLimbs count zs
limbs_done work fits count xs ys zs x_fine y_fine same_length same = record {
  counted = same_length ∙ x_fine.counted;
  words = λ j. subst (λ (z : ℕ). z < 2 ^ 64) (sym (same j))
      (fits (get_or xs j 0) (get_or ys j 0) (x_fine.words j) (y_fine.words j));
}

-- once all words are joined, they make the union
pub union_done : (count : ℕ) (xs ys zs : List ℕ) (k : ℕ) → AreLimbs count xs → AreLimbs count ys
    → AreDone union xs ys zs k → count ≤ k
    → AreLimbs count zs × (joined zs ≡ union (joined xs) (joined ys))
unfolding union
union_done count xs ys zs k x_fine y_fine done all =
    let same : (j : ℕ) → get_or zs j 0 ≡ union (get_or xs j 0) (get_or ys j 0) =
    all_done union xs ys zs k done refl (omega (arith, x_fine.counted, all)) (omega (arith, y_fine.counted, all)) in (
      limbs_done union (λ x y. union_within x y 64) count xs ys zs x_fine y_fine done.counted same,
      joined-union xs ys zs x_fine.words y_fine.words same,
    )

-- once all words are met, they make the intersection
pub meet_done : (count : ℕ) (xs ys zs : List ℕ) (k : ℕ) → AreLimbs count xs → AreLimbs count ys
    → AreDone meet xs ys zs k → count ≤ k
    → AreLimbs count zs × (joined zs ≡ meet (joined xs) (joined ys))
unfolding meet
meet_done count xs ys zs k x_fine y_fine done all =
    let same : (j : ℕ) → get_or zs j 0 ≡ meet (get_or xs j 0) (get_or ys j 0) =
    all_done meet xs ys zs k done refl (omega (arith, x_fine.counted, all)) (omega (arith, y_fine.counted, all)) in (
      limbs_done meet (λ x y x_fits y_fits. meet_within x y 64 x_fits) count xs ys zs x_fine y_fine done.counted same,
      joined-meet xs ys zs x_fine.words y_fine.words same,
    )

-- once all words are without the other's, they make the difference
pub minus_done : (count : ℕ) (xs ys zs : List ℕ) (k : ℕ) → AreLimbs count xs → AreLimbs count ys
    → AreDone minus xs ys zs k → count ≤ k
    → AreLimbs count zs × (joined zs ≡ minus (joined xs) (joined ys))
unfolding minus
minus_done count xs ys zs k x_fine y_fine done all =
    let same : (j : ℕ) → get_or zs j 0 ≡ minus (get_or xs j 0) (get_or ys j 0) =
    all_done minus xs ys zs k done refl (omega (arith, x_fine.counted, all)) (omega (arith, y_fine.counted, all)) in (
      limbs_done minus (λ x y x_fits y_fits. minus_within x y 64 x_fits) count xs ys zs x_fine y_fine done.counted same,
      joined-minus xs ys zs x_fine.words y_fine.words same,
    )

-- the words with t moved in or out
abbrev pub toggled : List ℕ → ℕ → List ℕ
toggled limbs t = set limbs (t / 64) (toggle (get_or limbs (t / 64) 0) (t % 64))

-- they are as many words, and make the set with t moved
pub toggle_done : (count : ℕ) (limbs : List ℕ) (t : ℕ) → AreLimbs count limbs → t < 64 * count
    → AreLimbs count (toggled limbs t) × (joined (toggled limbs t) ≡ toggle (joined limbs) t)
toggle_done count limbs t fine inside = (
  record { counted = length-set limbs (t / 64) new ∙ fine.counted; words = words },
  joined-toggle limbs (toggled limbs t) t fine.words here there,
)
  where
    new : ℕ
    new = toggle (get_or limbs (t / 64) 0) (t % 64)

    here : get_or (set limbs (t / 64) new) (t / 64) 0 ≡ new
    here = get_or-set_same limbs (t / 64) new 0 (omega (arith, fine.counted, inside))

    there : (k : ℕ) → k ≢ t / 64 → get_or (set limbs (t / 64) new) k 0 ≡ get_or limbs k 0
    there k d = get_or-set_other limbs (t / 64) k new 0 d

    words : (k : ℕ) → get_or (set limbs (t / 64) new) k 0 < 2 ^ 64
    words k = elim (cases_eq k (t / 64)) [
      | inl e ↦ subst (λ (j : ℕ). get_or (set limbs (t / 64) new) j 0 < 2 ^ 64) (sym e)
          (subst (λ (z : ℕ). z < 2 ^ 64) (sym here) (toggle_within (get_or limbs (t / 64) 0) (t % 64) 64
          (fine.words (t / 64)) (omega arith)))
      | inr d ↦ subst (λ (z : ℕ). z < 2 ^ 64) (sym (there k d)) (fine.words k)
    ]

-- words are equal exactly where the numbers are
pub same_words : (count : ℕ) (xs ys : List ℕ) → AreLimbs count xs → AreLimbs count ys
    → pointwise nat_eq xs ys ≡ nat_eq (joined xs) (joined ys)
same_words count xs ys x_fine y_fine = elim (cases_Bool (pointwise nat_eq xs ys)) [
  | inl e ↦ e ∙ sym (eq-eqb (joined xs) (joined ys) (ap joined (same_text xs ys (sym e))))
  | inr e ↦ e ∙ sym (ne_eqb (joined xs) (joined ys) (λ same. other_text xs ys (sym e) (words_from same)))
]
  where
    words_from : joined xs ≡ joined ys → xs ≡ ys
    words_from same =
        sym (limbs_of-joined count xs x_fine.counted x_fine.words) ∙ ap (limbs_of count) same
        ∙ limbs_of-joined count ys y_fine.counted y_fine.words
