-- Shifts of a best bundle that are tight, in an order without a shortcut, are possible all together and keep it best.
use Rattle.std.proofs.Common.{◌≡◌, ◌≢◌, ℕ, suc, ◌+◌, ◌<◌, ◌≤◌, refl, sym, ap, ◌∙◌, arith, inl, inr, ℤ, ◌+ℤ◌, List, [], ◌∷◌}
use Rattle.std.specs.Prelude.{◌≤ℤ◌, Some, All, AllPairs, length, get_or}
use Rattle.std.proofs.lemmas.Bool.{cases_eq}
use Rattle.std.proofs.lemmas.Option.{same_Some}
use Rattle.std.proofs.lemmas.Int.{ints}
use Rattle.std.proofs.lemmas.List.Elements.{All-head, All-tail}
use Rattle.tn_base.specs.Firm.{Firm, HasOwnBundles, IsBest}
use Rattle.tn_base.specs.Exchange.{MeetsExchange}
use Rattle.tn_firm_laws.specs.Places.{level, move, one_at, CanRise, CanFall, ArePlaces, ExchangesOverPlaces, SwapsAt}
use Rattle.tn_firm_laws.specs.Ordered.{Shift, shifted, IsTight, IsShiftBefore, AreOrdered}
use Rattle.tn_firm_laws.proofs.SumLemmas.{one_at-same, one_at-other}
use Rattle.tn_firm_laws.proofs.PlaceLemmas.{places}
use Rattle.tn_firm_laws.proofs.ExchangeLemmas.{exchange_to_places}

-- what is said of each element and each later one is said of the first and the rest
pub AllPairs-first : {X : Type 0} (R : X → X → Type 0) (x : X) (xs : List X) → AllPairs R (x ∷ xs) → All (R x) xs
AllPairs-first R x xs pairs = λ k d below. pairs 0 (suc k) d (omega arith) (omega (arith, below))

pub AllPairs-rest : {X : Type 0} (R : X → X → Type 0) (x : X) (xs : List X) → AllPairs R (x ∷ xs) → AllPairs R xs
AllPairs-rest R x xs pairs =
    λ j k d before below. pairs (suc j) (suc k) d (omega (arith, before)) (omega (arith, below))

-- no shift of the list raises or lowers place k
abbrev pub AreElsewhere : ℕ → List Shift → Type 0
AreElsewhere k shifts = All (λ s. (s.up ≢ k) × (s.down ≢ k)) shifts

-- what is before all of them is elsewhere
before_up : (firm : Firm) (x : ℕ) (value : ℤ) (shift : Shift) (shifts : List Shift)
    → All (IsShiftBefore firm x value shift) shifts → AreElsewhere shift.up shifts
before_up firm x value shift shifts all = λ k d below. let b = all k d below in
    (λ e. b.up_up (sym e), λ e. b.up_down (sym e))

before_down : (firm : Firm) (x : ℕ) (value : ℤ) (shift : Shift) (shifts : List Shift)
    → All (IsShiftBefore firm x value shift) shifts → AreElsewhere shift.down shifts
before_down firm x value shift shifts all = λ k d below. let b = all k d below in
    (λ e. b.down_up (sym e), λ e. b.down_down (sym e))

-- the levels after all shifts: a place that they leave has the level of before, and one with a smaller level is lowered
-- by one of them
record HasLevels (firm : Firm) (x : ℕ) (shifts : List Shift) : Type 0 where
  same : (k : ℕ) → k ≤ firm.count → AreElsewhere k shifts
      → level firm.count firm.buys (shifted firm.count x shifts) k ≡ level firm.count firm.buys x k
  lowered : (k : ℕ) → k ≤ firm.count → level firm.count firm.buys (shifted firm.count x shifts) k
      < level firm.count firm.buys x k
      → (m : ℕ) × (m < length shifts) × ((d : Shift) → (get_or shifts m d).down ≡ k)

levels_step : (firm : Firm) (x : ℕ) (value : ℤ) (shift : Shift) (shifts : List Shift)
    → AreOrdered firm x value (shift ∷ shifts)
    → HasLevels firm x shifts → HasLevels firm x (shift ∷ shifts)
levels_step firm x value shift shifts ordered before = record {
  same = λ k within apart.
      let here = All-head (λ (s : Shift). (s.up ≢ k) × (s.down ≢ k)) shift shifts apart in
      let rest = before.same k within (All-tail (λ (s : Shift). (s.up ≢ k) × (s.down ≢ k)) shift shifts apart) in
      let after = levels k within in
      let up = one_at-other shift.up k here.0 in
      let down = one_at-other shift.down k here.1 in
      omega (arith, rest, after, up, down);
  lowered = λ k within less. elim (cases_eq shift.down k) [
    | inl e ↦ (0, omega arith, λ d. e)
    | inr other ↦
        let after = levels k within in
        let down = one_at-other shift.down k other in
        let found = before.lowered k within (omega (arith, less, after, down)) in
        (suc found.0, let h = found.1 in omega (arith, h), found.2)
  ];
}
  where
    tight : IsTight firm x value shift
    tight = All-head (IsTight firm x value) shift shifts ordered.tight

    later : All (IsShiftBefore firm x value shift) shifts
    later = AllPairs-first (IsShiftBefore firm x value) shift shifts ordered.before

    levels : (k : ℕ) → k ≤ firm.count
        → level firm.count firm.buys (shifted firm.count x (shift ∷ shifts)) k + one_at shift.down k
        ≡ level firm.count firm.buys (shifted firm.count x shifts) k + one_at shift.up k
    levels k within =
        (places firm.count firm.buys).levels (shifted firm.count x shifts) shift.up shift.down k tight.up_place
        tight.down_place tight.apart
        (λ p. before.same shift.up tight.up_place (before_up firm x value shift shifts later) ∙ tight.rises p)
        (λ p. before.same shift.down tight.down_place (before_down firm x value shift shifts later) ∙ tight.falls p)
        within

later_ordered : (firm : Firm) (x : ℕ) (value : ℤ) (shift : Shift) (shifts : List Shift)
    → AreOrdered firm x value (shift ∷ shifts) → AreOrdered firm x value shifts
later_ordered firm x value shift shifts ordered = record {
  tight = All-tail (IsTight firm x value) shift shifts ordered.tight;
  before = AllPairs-rest (IsShiftBefore firm x value) shift shifts ordered.before;
}

has_levels : (firm : Firm) (x : ℕ) (value : ℤ) (shifts : List Shift) → AreOrdered firm x value shifts
    → HasLevels firm x shifts
has_levels firm x value [] ordered = record {
  same = λ k within apart. refl;
  lowered = λ k within less. absurd (omega (arith, less));
}
has_levels firm x value (shift ∷ shifts) ordered =
    levels_step firm x value shift shifts ordered (has_levels firm x value shifts
    (later_ordered firm x value shift shifts ordered))

-- the worths of a best bundle sum with another to at least twice the value only where the other is best too
other_is_best : (a b value : ℤ) → a ≤ℤ value → b ≤ℤ value → (value +ℤ value) ≤ℤ (a +ℤ b) → (a ≡ value) × (b ≡ value)
other_is_best a b value first second enough = (
  omega (arith, ints, first, second, enough),
  omega (arith, ints, first, second, enough),
)

-- where all later shifts keep the value, so does the first one with them
keep_step : (firm : Firm) → ExchangesOverPlaces firm → (x : ℕ) (value : ℤ) → IsBest firm.worth x value
    → (shift : Shift) (shifts : List Shift) → AreOrdered firm x value (shift ∷ shifts)
    → firm.worth (shifted firm.count x shifts) ≡ Some value
    → firm.worth (shifted firm.count x (shift ∷ shifts)) ≡ Some value
keep_step firm over x value best shift shifts ordered later_is =
    elim (cases_eq swap.at shift.up) [
      | inl e ↦
          ap firm.worth (are.order (shifted firm.count x shifts) shift.up shift.down
          ∙ ap (λ (j : ℕ). move firm.count (shifted firm.count x shifts) shift.down j) (sym e))
          ∙ swap.enough.first_is ∙ ap (λ (z : ℤ). Some z) both_best.0
      | inr other ↦ absurd (shortcut other)
    ]
  where
    are : ArePlaces firm.count (level firm.count firm.buys) (move firm.count)
    are = places firm.count firm.buys

    tight : IsTight firm x value shift
    tight = All-head (IsTight firm x value) shift shifts ordered.tight

    before : All (IsShiftBefore firm x value shift) shifts
    before = AllPairs-first (IsShiftBefore firm x value) shift shifts ordered.before

    after : HasLevels firm x shifts
    after = has_levels firm x value shifts (later_ordered firm x value shift shifts ordered)

    alone_levels : (k : ℕ) → k ≤ firm.count
        → level firm.count firm.buys (move firm.count x shift.up shift.down) k + one_at shift.down k
        ≡ level firm.count firm.buys x k + one_at shift.up k
    alone_levels k within =
        are.levels x shift.up shift.down k tight.up_place tight.down_place tight.apart tight.rises tight.falls within

    is_up : level firm.count firm.buys (move firm.count x shift.up shift.down) shift.down
        < level firm.count firm.buys (shifted firm.count x shifts) shift.down
    is_up =
        let same = after.same shift.down tight.down_place (before_down firm x value shift shifts before) in
        let fell = alone_levels shift.down tight.down_place in
        let one = one_at-same shift.down in
        let none = one_at-other shift.up shift.down tight.apart in
        omega (arith, same, fell, one, none)

    swap : SwapsAt firm (shifted firm.count x shifts) (move firm.count x shift.up shift.down) (value +ℤ value)
        shift.down
    swap = over (shifted firm.count x shifts) (move firm.count x shift.up shift.down) value value later_is tight.keeps
        shift.down tight.down_place is_up

    both_best : (swap.enough.first ≡ value) × (swap.enough.second ≡ value)
    both_best = other_is_best swap.enough.first swap.enough.second value
        (best.most _ swap.enough.first swap.enough.first_is) (best.most _ swap.enough.second swap.enough.second_is)
        swap.enough.enough

    -- any other place than the one that is raised would make a shortcut
    shortcut : swap.at ≢ shift.up → ⊥
    shortcut other =
        let rose = alone_levels swap.at swap.is_place in
        let none = one_at-other shift.up swap.at (λ e. other (sym e)) in
        let down = swap.is_down in
        let found = after.lowered swap.at swap.is_place (omega (arith, rose, none, down)) in
        (before found.0 shift found.1).no_shortcut
        (ap (λ (j : ℕ). firm.worth (move firm.count x shift.up j)) (found.2 shift)
        ∙ ap firm.worth (sym (are.through x shift.up shift.down swap.at))
        ∙ swap.enough.second_is ∙ ap (λ (z : ℤ). Some z) both_best.1)

ordered_keep : (firm : Firm) → ExchangesOverPlaces firm → (x : ℕ) (value : ℤ) → IsBest firm.worth x value
    → (shifts : List Shift) → AreOrdered firm x value shifts → firm.worth (shifted firm.count x shifts) ≡ Some value
ordered_keep firm over x value best [] ordered = best.is
ordered_keep firm over x value best (shift ∷ shifts) ordered =
    keep_step firm over x value best shift shifts ordered
    (ordered_keep firm over x value best shifts (later_ordered firm x value shift shifts ordered))

pub ordered_keep_best : (firm : Firm) → HasOwnBundles firm → MeetsExchange firm → (x : ℕ) (value : ℤ)
    → IsBest firm.worth x value
    → (shifts : List Shift) → AreOrdered firm x value shifts → IsBest firm.worth (shifted firm.count x shifts) value
ordered_keep_best firm own meets x value best shifts ordered = record {
  is = ordered_keep firm (exchange_to_places firm own meets) x value best shifts ordered;
  most = best.most;
}

-- ---- two tight shifts, of which one lowers null and the other raises it

-- what the first raises and the second lowers is a tight shift by itself
pub through_null : (firm : Firm) → ExchangesOverPlaces firm → (x : ℕ) (value : ℤ) → IsBest firm.worth x value
    → (i j : ℕ) → i < firm.count → j < firm.count → i ≢ j
    → CanRise firm.count (level firm.count firm.buys x) i → CanFall firm.count (level firm.count firm.buys x) j
    → firm.worth (move firm.count x i firm.count) ≡ Some value
    → firm.worth (move firm.count x firm.count j) ≡ Some value
    → firm.worth (move firm.count x i j) ≡ Some value
through_null firm over x value best i j i_in j_in apart rises falls raised_is lowered_is =
    elim (cases_eq swap.at firm.count) [
      | inl e ↦
          let first_is : firm.worth (move firm.count x i j) ≡ Some swap.enough.first =
          ap firm.worth (sym (are.through x i firm.count j) ∙ are.order raised firm.count j
          ∙ ap (move firm.count raised j) (sym e)) ∙ swap.enough.first_is in
          let second_is : firm.worth x ≡ Some swap.enough.second =
          ap firm.worth (sym (are.same x firm.count) ∙ sym (are.through x firm.count j firm.count)
          ∙ ap (move firm.count lowered j) (sym e)) ∙ swap.enough.second_is in
          let second : swap.enough.second ≡ value = same_Some _ _ (sym second_is ∙ best.is) in
          let most = best.most (move firm.count x i j) swap.enough.first first_is in
          let enough = swap.enough.enough in
          first_is ∙ ap (λ (z : ℤ). Some z) (equal swap.enough.first swap.enough.second value second most enough)
      | inr other ↦
          let down = swap.is_down in
          let up_level = raised_levels swap.at swap.is_place in
          let low_level = lowered_levels swap.at swap.is_place in
          let none = one_at-other firm.count swap.at (λ e. other (sym e)) in
          absurd (omega (arith, down, up_level, low_level, none))
    ]
  where
    are : ArePlaces firm.count (level firm.count firm.buys) (move firm.count)
    are = places firm.count firm.buys

    raised : ℕ
    raised = move firm.count x i firm.count

    lowered : ℕ
    lowered = move firm.count x firm.count j

    raised_levels : (k : ℕ) → k ≤ firm.count
        → level firm.count firm.buys (move firm.count x i firm.count) k + one_at firm.count k
        ≡ level firm.count firm.buys x k + one_at i k
    raised_levels k within =
        are.levels x i firm.count k (omega (arith, i_in)) (omega arith) (omega (arith, i_in)) rises
        (λ p. absurd (omega (arith, p))) within

    lowered_levels : (k : ℕ) → k ≤ firm.count
        → level firm.count firm.buys (move firm.count x firm.count j) k + one_at j k ≡ level firm.count firm.buys x k
        + one_at firm.count k
    lowered_levels k within =
        are.levels x firm.count j k (omega arith) (omega (arith, j_in)) (omega (arith, j_in))
        (λ p. absurd (omega (arith, p))) falls within

    is_up : level firm.count firm.buys (move firm.count x firm.count j) j
        < level firm.count firm.buys (move firm.count x i firm.count) j
    is_up =
        let up_level = raised_levels j (omega (arith, j_in)) in
        let low_level = lowered_levels j (omega (arith, j_in)) in
        let here = one_at-same j in
        let null = one_at-other firm.count j (λ e. absurd (omega (arith, e, j_in))) in
        omega (arith, up_level, low_level, here, null)

    swap : SwapsAt firm (move firm.count x i firm.count) (move firm.count x firm.count j) (value +ℤ value) j
    swap = over (move firm.count x i firm.count) (move firm.count x firm.count j) value value raised_is lowered_is j
        (omega (arith, j_in)) is_up

    equal : (a b v : ℤ) → b ≡ v → a ≤ℤ v → (v +ℤ v) ≤ℤ (a +ℤ b) → a ≡ v
    equal a b v same most enough = omega (arith, ints, same, most, enough)
