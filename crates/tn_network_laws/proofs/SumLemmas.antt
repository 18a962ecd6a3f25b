-- Sums over the positions of all firms, and over trades.
use Rattle.std.proofs.Common.{◌≡◌, ◌≢◌, ℕ, zero, suc, ◌+◌, ◌<◌, ◌≤◌, Bool, ◌==◌, ◌&&◌, if◌then◌else◌, List, [], ◌∷◌, Some, slice_get, refl, sym, ap, ◌∙◌, subst, arith, inl, inr, ℤ, pos, ◌+ℤ◌}
use Rattle.std.proofs.lemmas.Int.{ints}
use Rattle.std.proofs.lemmas.Bool.{cases_eq, cases_Bool, eq-eqb, ne_eqb}
use Rattle.std.proofs.lemmas.Option.{none-some, same_Some}
use Rattle.tn_base.specs.Firm.{Firm}

-- the sum of a term for each number below n
abbrev pub sum_to : (ℕ → ℤ) → ℕ → ℤ
sum_to g zero = pos 0
sum_to g (suc n) = sum_to g n +ℤ g n

pub sum_to-plus : (g h : ℕ → ℤ) (n : ℕ) → sum_to (λ k. g k +ℤ h k) n ≡ sum_to g n +ℤ sum_to h n
sum_to-plus g h zero = refl
sum_to-plus g h (suc n) = let rest = sum_to-plus g h n in omega (arith, ints, rest)

pub sum_to-zero : (n : ℕ) → sum_to (λ k. pos 0) n ≡ pos 0
sum_to-zero zero = refl
sum_to-zero (suc n) = let rest = sum_to-zero n in omega (arith, ints, rest)

pub sum_to-same : (g h : ℕ → ℤ) (n : ℕ) → ((k : ℕ) → k < n → g k ≡ h k) → sum_to g n ≡ sum_to h n
sum_to-same g h zero same = refl
sum_to-same g h (suc n) same =
    let rest = sum_to-same g h n (λ k below. same k (omega (arith, below))) in
    let last = same n (omega arith) in
    omega (arith, ints, rest, last)

-- a fact of each item of a list with its number, counted from s
abbrev pub AllFrom : {A : Type 0} → (ℕ → A → Type 0) → ℕ → List A → Type 0
AllFrom P s [] = Unit {0}
AllFrom P s (x ∷ xs) = P s x × AllFrom P (s + 1) xs

pub all_from : {A : Type 0} (P : ℕ → A → Type 0) (s : ℕ) (xs : List A)
    → ((i f : ℕ) (x : A) → f ≡ s + i → slice_get xs i ≡ Some x → P f x)
    → AllFrom P s xs
all_from P s [] each = tt
all_from P s (x ∷ xs) each = (
  each 0 s x (omega arith) refl,
  all_from P (s + 1) xs (λ i f y at is. each (suc i) f y (omega (arith, at)) is),
)

pub all_at : {A : Type 0} (P : ℕ → A → Type 0) (s : ℕ) (xs : List A) → AllFrom P s xs → (i f : ℕ) (x : A) → f ≡ s + i
    → slice_get xs i ≡ Some x → P f x
all_at P s [] all i f x at is = absurd (none-some x is)
all_at P s (first ∷ xs) all zero f x at is = let here : s ≡ f = omega (arith, at) in
    subst (λ g. P g x) here (subst (P s) (same_Some first x is) all.0)
all_at P s (first ∷ xs) all (suc i) f x at is = all_at P (s + 1) xs all.1 i f x (omega (arith, at)) is

-- the sum of a term for each item of a list with its number, counted from s
abbrev pub sum_list : {A : Type 0} → (ℕ → A → ℤ) → ℕ → List A → ℤ
sum_list g s [] = pos 0
sum_list g s (x ∷ xs) = g s x +ℤ sum_list g (s + 1) xs

pub sum_list-plus : {A : Type 0} (g h : ℕ → A → ℤ) (s : ℕ) (xs : List A)
    → sum_list (λ i x. g i x +ℤ h i x) s xs ≡ sum_list g s xs +ℤ sum_list h s xs
sum_list-plus g h s [] = refl
sum_list-plus g h s (x ∷ xs) = let rest = sum_list-plus g h (s + 1) xs in omega (arith, ints, rest)

pub sum_list-same : {A : Type 0} (g h : ℕ → A → ℤ) (s : ℕ) (xs : List A) → AllFrom (λ i x. g i x ≡ h i x) s xs
    → sum_list g s xs ≡ sum_list h s xs
sum_list-same g h s [] same = refl
sum_list-same g h s (x ∷ xs) same =
    let rest = sum_list-same g h (s + 1) xs same.1 in
    let first = same.0 in
    omega (arith, ints, rest, first)

pub sum_list-none : {A : Type 0} (g : ℕ → A → ℤ) (s : ℕ) (xs : List A) → AllFrom (λ i x. g i x ≡ pos 0) s xs
    → sum_list g s xs ≡ pos 0
sum_list-none g s [] none = refl
sum_list-none g s (x ∷ xs) none =
    let rest = sum_list-none g (s + 1) xs none.1 in
    let first = none.0 in
    omega (arith, ints, rest, first)

-- the sum of a term for each position of each firm
abbrev pub over_all : (ℕ → ℕ → ℤ) → ℕ → List Firm → ℤ
over_all h s firms = sum_list (λ f firm. sum_to (h f) firm.count) s firms

pub over_all-plus : (g h : ℕ → ℕ → ℤ) (s : ℕ) (firms : List Firm)
    → over_all (λ f k. g f k +ℤ h f k) s firms ≡ over_all g s firms +ℤ over_all h s firms
over_all-plus g h s [] = refl
over_all-plus g h s (firm ∷ firms) =
    let rest = over_all-plus g h (s + 1) firms in
    let first = sum_to-plus (g s) (h s) firm.count in
    omega (arith, ints, rest, first)

pub over_all-zero : (s : ℕ) (firms : List Firm) → over_all (λ f k. pos 0) s firms ≡ pos 0
over_all-zero s [] = refl
over_all-zero s (firm ∷ firms) =
    let rest = over_all-zero (s + 1) firms in
    let first = sum_to-zero firm.count in
    omega (arith, ints, rest, first)

-- a term at one position of one firm alone
abbrev pub placed_at : ℕ → ℕ → ℤ → ℕ → ℕ → ℤ
placed_at a b v f k = if a == f && b == k then v else pos 0

pub placed-here : (a b f k : ℕ) (v : ℤ) → a ≡ f → b ≡ k → placed_at a b v f k ≡ v
placed-here a b f k v same at =
    ap (λ (c : Bool). if c && b == k then v else pos 0) (eq-eqb a f same) ∙ ap (λ (c : Bool). if c then v
    else pos 0) (eq-eqb b k at)

pub placed-other_firm : (a b f k : ℕ) (v : ℤ) → a ≢ f → placed_at a b v f k ≡ pos 0
placed-other_firm a b f k v different = ap (λ (c : Bool). if c && b == k then v else pos 0) (ne_eqb a f different)

placed-other_position : (a b f k : ℕ) (v : ℤ) → b ≢ k → placed_at a b v f k ≡ pos 0
placed-other_position a b f k v different = elim (cases_Bool (a == f)) [
  | inl e ↦ ap (λ (c : Bool). if c && b == k then v else pos 0) e ∙ ap (λ (c : Bool). if c then v
      else pos 0) (ne_eqb b k different)
  | inr e ↦ ap (λ (c : Bool). if c && b == k then v else pos 0) e
]

sum_to-other_firm : (a b f n : ℕ) (v : ℤ) → a ≢ f → sum_to (placed_at a b v f) n ≡ pos 0
sum_to-other_firm a b f n v different =
    sum_to-same (placed_at a b v f) (λ k. pos 0) n (λ k below. placed-other_firm a b f k v different) ∙ sum_to-zero n

sum_to-before : (a b f n : ℕ) (v : ℤ) → n ≤ b → sum_to (placed_at a b v f) n ≡ pos 0
sum_to-before a b f n v above =
    sum_to-same (placed_at a b v f) (λ k. pos 0) n (λ k below. placed-other_position a b f k v
    (λ e. omega (arith, above, below, e))) ∙ sum_to-zero n

sum_to-placed : (a b n : ℕ) (v : ℤ) → b < n → sum_to (placed_at a b v a) n ≡ v
sum_to-placed a b zero v below = absurd (omega (arith, below))
sum_to-placed a b (suc n) v below = elim (cases_eq b n) [
  | inl e ↦
      let rest = sum_to-before a b a n v (omega (arith, e)) in
      let last = placed-here a b a n v refl e in
      omega (arith, ints, rest, last)
  | inr d ↦
      let rest = sum_to-placed a b n v (omega (arith, below, d)) in
      let last = placed-other_position a b a n v d in
      omega (arith, ints, rest, last)
]

over_all-before : (a b s : ℕ) (v : ℤ) (firms : List Firm) → a < s → over_all (placed_at a b v) s firms ≡ pos 0
over_all-before a b s v [] below = refl
over_all-before a b s v (firm ∷ firms) below =
    let rest = over_all-before a b (s + 1) v firms (omega (arith, below)) in
    let first = sum_to-other_firm a b s firm.count v (λ e. omega (arith, below, e)) in
    omega (arith, ints, rest, first)

-- the sum over all positions has it once
pub over_all-placed : (a b s i : ℕ) (v : ℤ) (firms : List Firm) (firm : Firm) → a ≡ s + i
    → slice_get firms i ≡ Some firm → b < firm.count
    → over_all (placed_at a b v) s firms ≡ v
over_all-placed a b s i v [] firm at is below = cc
over_all-placed a b s zero v (first ∷ firms) firm at is below =
    let same : first ≡ firm = cc in
    let inside : b < first.count = subst (λ (x : Firm). b < x.count) (sym same) below in
    let here : s ≡ a = omega (arith, at) in
    let one : sum_to (placed_at a b v s) first.count ≡ v =
    subst (λ (f : ℕ). sum_to (placed_at a b v f) first.count ≡ v) (sym here) (sum_to-placed a b first.count v inside) in
    let rest = over_all-before a b (s + 1) v firms (omega (arith, here)) in
    omega (arith, ints, one, rest)
over_all-placed a b s (suc i) v (first ∷ firms) firm at is below =
    let rest = over_all-placed a b (s + 1) i v firms firm (omega (arith, at)) is below in
    let one = sum_to-other_firm a b s first.count v (λ e. omega (arith, at, e)) in
    omega (arith, ints, rest, one)
