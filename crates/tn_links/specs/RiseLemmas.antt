-- What units add one by one.
use Rattle.std.proofs.Common.{◌≡◌, ℕ, zero, suc, ◌+◌, ◌-◌, ◌*◌, ◌<◌, ◌≤◌, refl, sym, ap, subst, arith, inl, inr, List, [], ◌∷◌, length, drop, get_or, ℤ, pos, ◌+ℤ◌, ◌-ℤ◌, Bool, if◌then◌else◌, nat_lt}
use Rattle.std.specs.Prelude.{◌*ℤ◌, min}
use Rattle.std.proofs.lemmas.Int.{ints}
use Rattle.std.proofs.lemmas.Bool.{cases_lt, lt-ltb, le-ltb}
use Rattle.std.proofs.lemmas.List.{drop_more}
use Rattle.std.proofs.lemmas.Option.{slice_get-get_or}
use Rattle.std.proofs.Math.IntN.{*ℤ_comm, *ℤ-zero, suc_ℤ-*ℤ}
use Rattle.tn_base.specs.Arcs.{IsAtMost}
use Rattle.tn_links.specs.declared.link.Step.{Step}
use Rattle.tn_links.specs.Links.{AddAtMost, AreSlight, rise}
use Rattle.tn_links.specs.Widths.{most_each}

-- one more in the second factor
pub times_suc : (a : ℤ) (n : ℕ) → a *ℤ pos (suc n) ≡ a *ℤ pos n +ℤ a
times_suc a n =
    let first = *ℤ_comm a (pos (suc n)) in
    let one : pos (suc n) *ℤ a ≡ pos n *ℤ a +ℤ a = suc_ℤ-*ℤ (pos n) a in
    let back = *ℤ_comm (pos n) a in
    omega (arith, ints, first, one, back)

-- so many units add little
pub times_small : (a : ℤ) (n limit : ℕ) → IsAtMost a limit → IsAtMost (a *ℤ pos n) (n * limit)
times_small a zero limit small =
    let none = *ℤ-zero a in record { low = omega (arith, ints, none); high = omega (arith, ints, none) }
times_small a (suc n) limit small =
    let before = times_small a n limit small in
    let one = times_suc a n in
    record {
      low = omega (arith, ints, before.low, small.low, one);
      high = omega (arith, ints, before.high, small.high, one);
    }

-- what the unit after n others adds
abbrev pub slope : List Step → ℕ → ℤ
slope [] n = pos 0
slope (step ∷ steps) n = if nat_lt n step.units then step.each else slope steps (n - step.units)

pub slope_in : (step : Step) (steps : List Step) (n : ℕ) → n < step.units → slope (step ∷ steps) n ≡ step.each
slope_in step steps n below =
    ap (λ (b : Bool). if b then step.each else slope steps (n - step.units)) (lt-ltb n step.units below)

pub slope_past : (step : Step) (steps : List Step) (n : ℕ) → step.units ≤ n
    → slope (step ∷ steps) n ≡ slope steps (n - step.units)
slope_past step steps n past =
    ap (λ (b : Bool). if b then step.each else slope steps (n - step.units)) (le-ltb n step.units past)

pub rise-suc : (steps : List Step) (n : ℕ) → rise steps (n + 1) ≡ rise steps n +ℤ slope steps n
rise-suc [] n = refl
rise-suc (step ∷ steps) n = elim (cases_lt n step.units) [
  | inl below ↦
      let first : step.each *ℤ pos (min (n + 1) step.units) ≡ step.each *ℤ pos (suc n) =
      ap (λ (k : ℕ). step.each *ℤ pos k) (omega (arith, below)) in
      let second : step.each *ℤ pos (min n step.units) ≡ step.each *ℤ pos n =
      ap (λ (k : ℕ). step.each *ℤ pos k) (omega (arith, below)) in
      let rest : rise steps (n + 1 - step.units) ≡ rise steps (n - step.units) =
      ap (rise steps) (omega (arith, below)) in
      omega (arith, ints, first, second, rest, times_suc step.each n, slope_in step steps n below)
  | inr past ↦
      let first : step.each *ℤ pos (min (n + 1) step.units) ≡ step.each *ℤ pos (min n step.units) =
      ap (λ (k : ℕ). step.each *ℤ pos k) (omega (arith, past)) in
      let rest : rise steps (n + 1 - step.units) ≡ rise steps (n - step.units + 1) =
      ap (rise steps) (omega (arith, past)) in
      omega (arith, ints, first, rest, rise-suc steps (n - step.units), slope_past step steps n past)
]

tail_at_most : (limit : ℕ) (step : Step) (steps : List Step) → AddAtMost limit (step ∷ steps) → AddAtMost limit steps
tail_at_most limit step steps small i one is = small (suc i) one is

slope_at_most : (limit : ℕ) (steps : List Step) (n : ℕ) → AddAtMost limit steps → IsAtMost (slope steps n) limit
slope_at_most limit [] n small = record { low = omega (arith, ints); high = omega (arith, ints) }
slope_at_most limit (step ∷ steps) n small = elim (cases_lt n step.units) [
  | inl below ↦ subst (λ (z : ℤ). IsAtMost z limit) (sym (slope_in step steps n below)) (small 0 step refl)
  | inr past ↦ subst (λ (z : ℤ). IsAtMost z limit) (sym (slope_past step steps n past))
      (slope_at_most limit steps (n - step.units) (tail_at_most limit step steps small))
]

-- so many units more add no more than so often the limit
pub rise_at_most : (limit : ℕ) (steps : List Step) (n d : ℕ) → AddAtMost limit steps
    → IsAtMost (rise steps (n + d) -ℤ rise steps n) (d * limit)
rise_at_most limit steps n zero small =
    let same : rise steps (n + 0) ≡ rise steps n = ap (rise steps) (omega arith) in
    record { low = omega (arith, ints, same); high = omega (arith, ints, same) }
rise_at_most limit steps n (suc d) small =
    let before = rise_at_most limit steps n d small in
    let one = rise-suc steps (n + d) in
    let same : rise steps (n + suc d) ≡ rise steps (n + d + 1) = ap (rise steps) (omega arith) in
    let last = slope_at_most limit steps (n + d) small in
    record {
      low = omega (arith, ints, before.low, one, same, last.low);
      high = omega (arith, ints, before.high, one, same, last.high);
    }

-- the units of one step more
pub rise_more : (steps : List Step) (k left : ℕ) (d : Step) (sum whole : ℤ) → k < length steps
    → whole ≡ sum +ℤ rise (drop k steps) left
    → whole ≡ (sum +ℤ (get_or steps k d).each *ℤ pos (min left (get_or steps k d).units))
    +ℤ rise (drop (k + 1) steps) (left - min left (get_or steps k d).units)
rise_more steps k left d sum whole below is =
    let step = get_or steps k d in
    let parts : rise (drop k steps) left
    ≡ step.each *ℤ pos (min left step.units) +ℤ rise (drop (k + 1) steps) (left - step.units) =
    ap (λ (rest : List Step). rise rest left) (drop_more steps k d below) in
    let same : rise (drop (k + 1) steps) (left - step.units) ≡ rise (drop (k + 1) steps) (left - min left step.units) =
    ap (rise (drop (k + 1) steps)) (omega arith) in
    omega (arith, ints, is, parts, same)

pub slight_at : (steps : List Step) (k : ℕ) (d : Step) → AreSlight steps → k < length steps
    → IsAtMost (get_or steps k d).each most_each
slight_at steps k d slight below = slight k (get_or steps k d) (slice_get-get_or steps k d below)
