-- Prices that move in favour of a best bundle keep it best.
use Rattle.std.proofs.Common.{◌≡◌, ℕ, zero, suc, ◌<◌, Bool, true, false, ap, arith, if◌then◌else◌, ℤ, pos, ◌+ℤ◌, ◌*ℤ◌, option_map}
use Rattle.std.specs.Prelude.{◌≤ℤ◌}
use Rattle.std.proofs.lemmas.Int.{ints}
use Rattle.tn_base.specs.Sets.{has, sum_over}
use Rattle.tn_base.specs.Firm.{Firm, plus_sum, IsBest}
use Rattle.tn_firm_laws.proofs.KeepLemmas.{option_map-some}

-- a term is at least the old one at a member of x, and at most the old one elsewhere
abbrev pub IsFavoured : Bool → ℤ → ℤ → Type 0
IsFavoured true new old = old ≤ℤ new
IsFavoured false new old = new ≤ℤ old

abbrev pub Favours : ℕ → ℕ → (ℕ → ℤ) → (ℕ → ℤ) → Type 0
Favours n x new old = (k : ℕ) → k < n → IsFavoured (has x k) (new k) (old k)

-- no bundle gains more than x
gained : (n x y : ℕ) (new old : ℕ → ℤ) → Favours n x new old
    → (sum_over new n y +ℤ sum_over old n x) ≤ℤ (sum_over new n x +ℤ sum_over old n y)
unfolding sum_over
gained zero x y new old favours = omega (arith, ints)
gained (suc n) x y new old favours =
    let before = gained n x y new old (λ k h. favours k (omega (arith, h))) in
    let here = by (has x n) (has y n) (favours n (omega arith)) in
    omega (arith, ints, before, here)
  where
    by : (a b : Bool) → IsFavoured a (new n) (old n)
        → ((if b then new n else pos 0) +ℤ (if a then old n else pos 0))
        ≤ℤ ((if a then new n else pos 0) +ℤ (if b then old n else pos 0))
    by true true more = omega (arith, ints)
    by true false more = omega (arith, ints, more)
    by false true less = omega (arith, ints, less)
    by false false less = omega (arith, ints)

-- so a best bundle stays best
pub favoured_best : (scale : ℤ) (firm : Firm) (new old : ℕ → ℤ) (x : ℕ) (value : ℤ)
    → IsBest (plus_sum scale old firm).worth x value → Favours firm.count x new old
    → (other : ℤ) × IsBest (plus_sum scale new firm).worth x other
favoured_best scale firm new old x value best favours =
    let mine = option_map-some (λ a. scale *ℤ a +ℤ sum_over old firm.count x) (firm.worth x) value best.is in (
      scale *ℤ mine.0 +ℤ sum_over new firm.count x,
      record {
        is = ap (option_map (λ a. scale *ℤ a +ℤ sum_over new firm.count x)) mine.1;
        most = λ y other other_is.
            let theirs = option_map-some (λ a. scale *ℤ a +ℤ sum_over new firm.count y) (firm.worth y) other other_is in
            let most = best.most y (scale *ℤ theirs.0 +ℤ sum_over old firm.count y)
            (ap (option_map (λ a. scale *ℤ a +ℤ sum_over old firm.count y)) theirs.1) in
            let gain = gained firm.count x y new old favours in
            below (scale *ℤ theirs.0) (scale *ℤ mine.0) _ _ _ _ value other theirs.2 mine.2 most gain;
      },
    )
  where
    below : (b a ny nx oy ox value other : ℤ) → b +ℤ ny ≡ other → a +ℤ ox ≡ value → (b +ℤ oy) ≤ℤ value
        → (ny +ℤ ox) ≤ℤ (nx +ℤ oy) → other ≤ℤ (a +ℤ nx)
    below b a ny nx oy ox value other theirs mine most gain = omega (arith, ints, theirs, mine, most, gain)
