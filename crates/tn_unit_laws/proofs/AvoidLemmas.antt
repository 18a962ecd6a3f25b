-- Counts below the units of a trade are those of a set without a given twin of it.
use Rattle.std.proofs.Common.{◌≡◌, ◌≢◌, ℕ, zero, suc, ◌+◌, ◌<◌, Bool, true, false, not, ◌==◌, ◌&&◌, List, ◌⊎◌, inl, inr, refl, sym, ap, ◌∙◌, arith}
use Rattle.std.proofs.lemmas.Bool.{cases_Bool, cases_eq, eq-eqb, eqb-true, ne_eqb}
use Rattle.tn_base.specs.Sets.{has, toggle}
use Rattle.tn_base.proofs.SetLemmas.{has-toggle_other, has-toggle_same}
use Rattle.tn_counts.specs.Counts.{AreCounts, trade_at}
use Rattle.tn_counts.specs.declared.trade.UnitTrade.{UnitTrade}
use Rattle.tn_unit_laws.specs.Laws.{HasOneMore}
use Rattle.tn_unit_laws.specs.Units.{HasCounts, count_below, first_units, trade_of, unit_count, units_on}
use Rattle.tn_unit_laws.proofs.CountLemmas.{count-twins, one, trade_of-within}
use Rattle.tn_unit_laws.proofs.EquilibriumLemmas.{first_have}
use Rattle.tn_unit_laws.proofs.TwinLemmas.{count-in, count-swap}

-- a number that passes one test and not the other
pub record Missing (f g : ℕ → Bool) (n : ℕ) : Type 0 where
  pub at : ℕ
  pub below : at < n
  pub passes : g at ≡ true
  pub fails : f at ≡ false

missing : (f g : ℕ → Bool) (n : ℕ) → count_below f n < count_below g n → Missing f g n
unfolding count_below
missing f g zero less = absurd (omega (arith, less))
missing f g (suc n) less = by (f n) (g n) refl refl less (missing f g n)
  where
    later : Missing f g n → Missing f g (suc n)
    later found = let below = found.below in
        record { at = found.at; below = omega (arith, below); passes = found.passes; fails = found.fails }

    by : (x y : Bool) → f n ≡ x → g n ≡ y → count_below f n + one x < count_below g n + one y
        → (count_below f n < count_below g n → Missing f g n) → Missing f g (suc n)
    by false true first second less rest = record { at = n; below = omega arith; passes = second; fails = first }
    by true true first second less rest = later (rest (omega (arith, less)))
    by true false first second less rest = later (rest (omega (arith, less)))
    by false false first second less rest = later (rest (omega (arith, less)))

-- a set with so many twins of each trade, and without one twin
pub record HasWithout (trades : List UnitTrade) (counts : ℕ → ℕ) (u : ℕ) : Type 0 where
  pub set : ℕ
  pub counted : HasCounts trades set counts
  pub without : has set u ≡ false

pub has_without : (trades : List UnitTrade) (counts : ℕ → ℕ) (u : ℕ) → AreCounts trades counts → u < unit_count trades
    → counts (trade_of trades u) < (trade_at trades (trade_of trades u)).units → HasWithout trades counts u
has_without trades counts u within below few = elim (cases_Bool (has first u)) [
  | inr off ↦ record { set = first; counted = first_have trades counts within; without = off }
  | inl on ↦
      let have = first_have trades counts within t (trade_of-within trades u below) in
      let twins = count-twins trades t in
      let found = missing (λ v. has first v && t == trade_of trades v) (λ v. t == trade_of trades v) (unit_count trades)
      (omega (arith, have, twins, few)) in
      let same : t ≡ trade_of trades found.at = eqb-true t (trade_of trades found.at) found.passes in
      let off : has first found.at ≡ false =
      by (has first found.at) (t == trade_of trades found.at) found.passes found.fails in
      let other : u ≢ found.at = λ e. differ (sym on ∙ ap (has first) e ∙ off) in
      record {
        set = toggle (toggle first u) found.at;
        counted = λ s inside.
            count-swap (λ v. s == trade_of trades v) first u found.at (unit_count trades) below found.below on off
            (ap (λ (r : ℕ). s == r) same) ∙ first_have trades counts within s inside;
        without = has-toggle_other (toggle first u) found.at u other ∙ has-toggle_same first u ∙ ap not on;
      }
]
  where
    t : ℕ
    t = trade_of trades u

    first : ℕ
    first = first_units trades counts

    differ : true ≡ false → ⊥
    differ e = absurd (cc)

    by : (x y : Bool) → y ≡ true → (x && y) ≡ false → x ≡ false
    by true y passes fails = absurd (differ (sym passes ∙ fails))
    by false y passes fails = refl

-- with it, the set has one unit more of its trade
pub has_with : (trades : List UnitTrade) (more fewer : ℕ → ℕ) (u set : ℕ) → u < unit_count trades
    → HasOneMore trades (trade_of trades u) more fewer → HasCounts trades set fewer → has set u ≡ false
    → HasCounts trades (toggle set u) more
has_with trades more fewer u set below one_more have off s inside =
    by (cases_eq s (trade_of trades u))
  where
    next : units_on trades (toggle set u) s ≡ units_on trades set s + one (s == trade_of trades u)
    next = count-in (λ v. s == trade_of trades v) set u (unit_count trades) below off

    by : (s ≡ trade_of trades u) ⊎ (s ≡ trade_of trades u → ⊥) → units_on trades (toggle set u) s ≡ more s
    by (inl same) =
        let passes = ap one (eq-eqb s (trade_of trades u) same) in
        let before = have s inside in
        let here = ap more same in
        let fewer_here = ap fewer same in
        let step = one_more.here in
        omega (arith, next, passes, before, here, fewer_here, step)
    by (inr other) =
        let fails = ap one (ne_eqb s (trade_of trades u) other) in
        let before = have s inside in
        let same = one_more.others s inside other in
        omega (arith, next, fails, before, same)
