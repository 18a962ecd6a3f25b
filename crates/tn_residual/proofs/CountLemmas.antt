-- Each trade of a set stands at two positions of all firms.
use Rattle.std.proofs.Common.{◌≡◌, ℕ, zero, suc, ◌+◌, ◌*◌, ◌^◌, ◌<◌, Bool, true, false, if◌then◌else◌, List, [], ◌∷◌, length, refl, sym, ap, ◌∙◌, arith, ℤ, pos, ◌+ℤ◌}
use Rattle.std.proofs.lemmas.Int.{ints}
use Rattle.tn_base.specs.Sets.{has, size, size_below}
use Rattle.tn_base.specs.Firm.{Firm}
use Rattle.tn_base.proofs.SetLemmas.{set_of_within}
use Rattle.tn_base.proofs.SizeLemmas.{size_at}
use Rattle.tn_model.specs.declared.ends.Ends.{Ends}
use Rattle.tn_model.specs.Network.{own, part, IsNetwork}
use Rattle.tn_market.proofs.GraphLemmas.{has-part}
use Rattle.tn_network_laws.proofs.SumLemmas.{sum_to, sum_to-plus, sum_to-same, all_from, sum_list, sum_list-same}
use Rattle.tn_network_laws.proofs.WelfareLemmas.{at_side, ends_total}

-- 1 for a member
one_in : ℕ → ℕ → ℤ
one_in x t = if has x t then pos 1 else pos 0

-- how many members there are is a sum
size_is : (n x : ℕ) → sum_to (one_in x) n ≡ pos (size_below n x)
unfolding one_in size_below
size_is zero x = refl
size_is (suc n) x = next (has x n) (size_below n x) (sum_to (λ k. if has x k then pos 1 else pos 0) n) (size_is n x)
  where
    next : (b : Bool) (k : ℕ) (s : ℤ) → s ≡ pos k → s +ℤ (if b then pos 1 else pos 0) ≡ pos (k + (if b then 1 else 0))
    next true k s e = omega (arith, ints, e)
    next false k s e = omega (arith, ints, e)

-- a sum from its first term on
sum_to-front : (g : ℕ → ℤ) (n : ℕ) → sum_to g (suc n) ≡ g 0 +ℤ sum_to (λ i. g (suc i)) n
sum_to-front g zero = omega (arith, ints)
sum_to-front g (suc n) = let rest = sum_to-front g n in omega (arith, ints, rest)

-- a sum over a list that goes by numbers alone
sum_list-numbers : {A : Type 0} (g : ℕ → ℤ) (s : ℕ) (xs : List A)
    → sum_list (λ i x. g i) s xs ≡ sum_to (λ i. g (s + i)) (length xs)
sum_list-numbers g s [] = refl
sum_list-numbers g s (x ∷ xs) =
    let rest = sum_list-numbers g (s + 1) xs in
    let front = sum_to-front (λ i. g (s + i)) (length xs) in
    let first : g s ≡ g (s + 0) = (let at : s ≡ s + 0 = omega arith in ap g at) in
    let same : sum_to (λ i. g (s + 1 + i)) (length xs) ≡ sum_to (λ i. g (s + suc i)) (length xs) =
    sum_to-same (λ i. g (s + 1 + i)) (λ i. g (s + suc i)) (length xs) (λ k below. (let at : s + 1 + k ≡ s + suc k =
    omega arith in ap g at)) in
    add _ _ _ _ _ _ rest front first same
  where
    add : (head rest whole head' tail tail' : ℤ) → rest ≡ tail → whole ≡ head' +ℤ tail' → head ≡ head' → tail ≡ tail'
        → head +ℤ rest ≡ whole
    add head rest whole head' tail tail' a b c d = omega (arith, ints, a, b, c, d)

-- the sizes of the firms' parts sum to twice the size of the set
pub sizes_total : (firms : List Firm) (trades : List Ends) → IsNetwork firms trades → (x : ℕ) → x < 2 ^ length trades
    → sum_list (λ f firm. pos (size (part trades f firm.count x))) 0 firms ≡ pos (2 * size x)
unfolding one_in
sizes_total firms trades network x within =
    sum_list-same (λ f firm. pos (size (part trades f firm.count x)))
    (λ f firm. sum_to (at_side trades (one_in x) (one_in x) f firm) firm.count) 0 firms
    (all_from _ 0 firms (λ i f firm at is. firm_size f firm))
    ∙ ends_total firms trades network (one_in x) (one_in x)
    ∙ sum_list-numbers (λ t. one_in x t +ℤ one_in x t) 0 trades
    ∙ sum_to-same (λ i. one_in x (0 + i) +ℤ one_in x (0 + i)) (λ i. one_in x i +ℤ one_in x i) (length trades)
    (λ k below. (let at : 0 + k ≡ k = omega arith in ap (λ (i : ℕ). one_in x i +ℤ one_in x i) at))
    ∙ sum_to-plus (one_in x) (one_in x) (length trades)
    ∙ double (sum_to (one_in x) (length trades)) (size x) (size_is (length trades) x
    ∙ ap (λ (k : ℕ). pos k) (sym (size_at (length trades) x within)))
  where
    same_side : (b : Bool) (v : ℤ) → (if b then v else v) ≡ v
    same_side true v = refl
    same_side false v = refl

    firm_size : (f : ℕ) (firm : Firm) → pos (size (part trades f firm.count x))
        ≡ sum_to (at_side trades (one_in x) (one_in x) f firm) firm.count
    firm_size f firm =
        ap (λ (k : ℕ). pos k) (size_at firm.count (part trades f firm.count x)
        (set_of_within (λ k. has x (own trades f k)) firm.count))
        ∙ sym (size_is firm.count (part trades f firm.count x))
        ∙ sum_to-same (one_in (part trades f firm.count x)) (at_side trades (one_in x) (one_in x) f firm) firm.count
        (λ k below.
        ap (λ (b : Bool). if b then pos 1 else pos 0) (has-part trades f firm.count x k below)
        ∙ sym (same_side (has firm.buys k) (one_in x (own trades f k))))

    double : (s : ℤ) (k : ℕ) → s ≡ pos k → s +ℤ s ≡ pos (2 * k)
    double s k e = omega (arith, ints, e)
