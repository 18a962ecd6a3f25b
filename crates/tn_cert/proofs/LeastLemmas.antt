-- The least trade of those numbers below n that fail a test, where each number has a trade.
use Rattle.std.proofs.Common.{◌≡◌, ℕ, ◌+◌, ◌<◌, Bool, Option, Some, None, if◌then◌else◌, refl, sym, ap, subst, arith, inl, inr}
use Rattle.std.proofs.lemmas.Bool.{cases_eq, cases_lt, lt-ltb, le-ltb}
use Rattle.tn_cert.specs.Least.{earlier}

-- t is the trade of a number that fails, and each number of a lesser trade passes
pub record IsLeast (n : ℕ) (trade : ℕ → ℕ) (Fails Passes : ℕ → Type 0) (t : ℕ) : Type 0 where
  pub at : ℕ
  pub below : at < n
  pub is : trade at ≡ t
  pub fails : Fails at
  pub first : (k : ℕ) → k < n → trade k < t → Passes k

-- the least such trade, none where each number passes
abbrev pub FindsLeast : ℕ → (ℕ → ℕ) → (ℕ → Type 0) → (ℕ → Type 0) → Option ℕ → Type 0
FindsLeast n trade Fails Passes None = (k : ℕ) → k < n → Passes k
FindsLeast n trade Fails Passes (Some t) = IsLeast n trade Fails Passes t

-- one more number that passes
pub least_passes : (n : ℕ) (trade : ℕ → ℕ) (Fails Passes : ℕ → Type 0) (found : Option ℕ)
    → FindsLeast n trade Fails Passes found → Passes n
    → FindsLeast (n + 1) trade Fails Passes found
least_passes n trade Fails Passes None before passes = λ k below. elim (cases_eq k n) [
  | inl e ↦ subst Passes (sym e) passes
  | inr d ↦ before k (omega (arith, below, d))
]
least_passes n trade Fails Passes (Some t) before passes =
    let inside = before.below in
    record {
      at = before.at;
      below = omega (arith, inside);
      is = before.is;
      fails = before.fails;
      first = λ k below less. elim (cases_eq k n) [
        | inl e ↦ subst Passes (sym e) passes
        | inr d ↦ before.first k (omega (arith, below, d)) less
      ];
    }

-- and one that fails
pub least_fails : (n : ℕ) (trade : ℕ → ℕ) (Fails Passes : ℕ → Type 0) (found : Option ℕ)
    → FindsLeast n trade Fails Passes found → Fails n
    → FindsLeast (n + 1) trade Fails Passes (Some (earlier found (trade n)))
least_fails n trade Fails Passes None before fails = record {
  at = n;
  below = omega arith;
  is = refl;
  fails = fails;
  first = λ k below less. elim (cases_eq k n) [
    | inl e ↦ absurd (let same = ap trade e in omega (arith, same, less))
    | inr d ↦ before k (omega (arith, below, d))
  ];
}
least_fails n trade Fails Passes (Some t) before fails = elim (cases_lt t (trade n)) [
  | inl less ↦
      let inside = before.below in
      subst (IsLeast (n + 1) trade Fails Passes) (sym (ap (λ (b : Bool). if b then t
      else trade n) (lt-ltb t (trade n) less))) (record {
        at = before.at;
        below = omega (arith, inside);
        is = before.is;
        fails = before.fails;
        first = λ k below lesser. elim (cases_eq k n) [
          | inl e ↦ absurd (let same = ap trade e in omega (arith, same, lesser, less))
          | inr d ↦ before.first k (omega (arith, below, d)) lesser
        ];
      })
  | inr more ↦
      subst (IsLeast (n + 1) trade Fails Passes) (sym (ap (λ (b : Bool). if b then t
      else trade n) (le-ltb t (trade n) more))) (record {
        at = n;
        below = omega arith;
        is = refl;
        fails = fails;
        first = λ k below lesser. elim (cases_eq k n) [
          | inl e ↦ absurd (let same = ap trade e in omega (arith, same, lesser))
          | inr d ↦ before.first k (omega (arith, below, d)) (omega (arith, lesser, more))
        ];
      })
]
