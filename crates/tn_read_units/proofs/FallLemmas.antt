-- Steps of which later ones add no more.
use Rattle.std.proofs.Common.{◌≡◌, ℕ, zero, suc, ◌+◌, refl, sym, subst, arith, List, [], ◌∷◌, ◌++◌, ℤ, pos, ◌+ℤ◌, ◌≤ℤ◌, Bool, true, false, if◌then◌else◌, Option, Some, None}
use Rattle.std.specs.Prelude.{slice_get, All}
use Rattle.std.proofs.lemmas.Int.{ints}
use Rattle.std.proofs.lemmas.List.Elements.{All-append, All-cons, All-head, All-nil, All-push, All-tail, All-weaker}
use Rattle.std.proofs.lemmas.Option.{get_or_from_slice_get, none-some, same_Some, slice_get_within}
use Rattle.tn_links.specs.Links.{AreFalling}
use Rattle.tn_links.specs.declared.link.Step.{Step}
use Rattle.tn_read_units.specs.Checks.{first_rise, rises, rises_at_none}
use Rattle.tn_read_units.specs.Documents.{turned}
use Rattle.tn_read_units.proofs.StepLemmas.{back, back-cons}

-- what holds of all holds of the one at a place
pub all_at : {A : Type 0} (P : A → Type 0) (xs : List A) (k : ℕ) (x : A) → All P xs → slice_get xs k ≡ Some x → P x
all_at P xs k x all is = subst P (get_or_from_slice_get xs k x x is) (all k x (slice_get_within xs k x is))

-- each step adds at most so much
abbrev AddAtMost : ℤ → List Step → Type 0
AddAtMost limit steps = All (λ step. step.each ≤ℤ limit) steps

-- each step adds no more than those before it
abbrev pub Fall : List Step → Type 0
Fall [] = Unit {0}
Fall (step ∷ steps) = AddAtMost step.each steps × Fall steps

at_most_more : (limit more : ℤ) (steps : List Step) → limit ≤ℤ more → AddAtMost limit steps → AddAtMost more steps
at_most_more limit more steps order few =
    All-weaker (λ step. step.each ≤ℤ limit) (λ step. step.each ≤ℤ more) (λ step h. omega
    (arith, ints, h, order)) steps few

pub falling_from : (steps : List Step) → Fall steps → AreFalling steps
falling_from [] fall i k a b less first second = absurd (none-some a first)
falling_from (step ∷ steps) fall i zero a b less first second = absurd (omega (arith, less))
falling_from (step ∷ steps) fall zero (suc k) a b less first second =
    subst (λ (s : Step). b.each ≤ℤ s.each) (same_Some step a first)
    (all_at (λ other. other.each ≤ℤ step.each) steps k b fall.0 second)
falling_from (step ∷ steps) fall (suc i) (suc k) a b less first second =
    falling_from steps fall.1 i k a b (omega (arith, less)) first second

-- steps of which none rises, after another one or after none
abbrev FallAfter : Option Step → List Step → Type 0
FallAfter None steps = Fall steps
FallAfter (Some before) steps = AddAtMost before.each steps × Fall steps

first_falls : (before : Option Step) (step : Step) (steps : List Step) → rises before step ≡ false
    → FallAfter (Some step) steps → FallAfter before (step ∷ steps)
first_falls None step steps falls rest = rest
first_falls (Some before) step steps falls rest =
    let order : step.each ≤ℤ before.each = grind (arith, ints, falls) in (
      All-cons (λ (s : Step). s.each ≤ℤ before.each) step steps order
          (at_most_more step.each before.each steps order rest.0),
      rest,
    )

pub fall_after : (k : ℕ) (before : Option Step) (steps : List Step) → first_rise k before steps ≡ None
    → FallAfter before steps
fall_after k None [] none = tt
fall_after k (Some before) [] none = (All-nil (λ (s : Step). s.each ≤ℤ before.each), tt)
fall_after k before (step ∷ steps) none =
    by (λ q. fall_after (k + 1) (Some step) steps q) (rises before step) refl none
  where
    by : (first_rise (k + 1) (Some step) steps ≡ None → FallAfter (Some step) steps) → (t : Bool)
        → rises before step ≡ t
        → (if t then Some k else first_rise (k + 1) (Some step) steps) ≡ None → FallAfter before (step ∷ steps)
    by rest true rise q = absurd (none-some k (sym q))
    by rest false falls q = first_falls before step steps falls (rest q)

pub fall_tested : (steps : List Step) → first_rise 0 None steps ≡ None → Fall steps
fall_tested steps none = fall_after 0 None steps none

pub fall-append : (xs ys : List Step) → Fall xs → Fall ys → All (λ x. AddAtMost x.each ys) xs → Fall (xs ++ ys)
fall-append [] ys first second between = second
fall-append (x ∷ xs) ys first second between = (
  All-append (λ (s : Step). s.each ≤ℤ x.each) xs ys first.0 (All-head (λ (s : Step). AddAtMost s.each ys) x xs between),
  fall-append xs ys first.1 second (All-tail (λ (s : Step). AddAtMost s.each ys) x xs between),
)

pub all-back : (P : Step → Type 0) (xs : List Step) → All (λ x. P (turned x)) xs → All P (back xs)
all-back P [] all = All-nil P
all-back P (x ∷ xs) all =
    subst (All P) (sym (back-cons x xs)) (All-push P (back xs) (turned x)
    (all-back P xs (All-tail (λ (s : Step). P (turned s)) x xs all)) (All-head (λ (s : Step). P (turned s)) x xs all))

pub fall-back : (xs : List Step) → Fall xs → Fall (back xs)
fall-back [] fall = tt
fall-back (x ∷ xs) fall =
    subst Fall (sym (back-cons x xs)) (fall-append (back xs) (turned x ∷ []) (fall-back xs fall.1)
    (All-nil (λ (s : Step). s.each ≤ℤ (turned x).each), tt)
    (all-back (λ (s : Step). AddAtMost s.each (turned x ∷ [])) xs
    (All-weaker (λ (s : Step). s.each ≤ℤ x.each) (λ (s : Step). AddAtMost (turned s).each (turned x ∷ []))
    (λ s h. All-cons (λ (o : Step). o.each ≤ℤ (turned s).each) (turned x) [] (omega (arith, ints, h))
    (All-nil (λ (o : Step). o.each ≤ℤ (turned s).each))) xs fall.0)))

-- what is bought adds no more than what is sold takes away
meet_at_none : (bought sold : List Step) → Fall bought → Fall sold → rises_at_none bought sold ≡ false
    → All (λ x. AddAtMost (turned x).each bought) sold
meet_at_none [] sold bought_fall sold_fall none =
    All-weaker (λ (s : Step). s ≡ s) (λ (s : Step). AddAtMost (turned s).each [])
    (λ s h. All-nil (λ (o : Step). o.each ≤ℤ (turned s).each)) sold (λ k d inside. refl)
meet_at_none (first ∷ bought) [] bought_fall sold_fall none = All-nil (λ (s : Step). AddAtMost (turned s).each
    (first ∷ bought))
meet_at_none (first ∷ bought) (other ∷ sold) bought_fall sold_fall none =
    let meet : (first.each +ℤ other.each) ≤ℤ pos 0 = grind (arith, ints, none) in
    All-weaker (λ (s : Step). s.each ≤ℤ other.each) (λ (s : Step). AddAtMost (turned s).each (first ∷ bought))
    (λ s h. All-cons (λ (o : Step). o.each ≤ℤ (turned s).each) first bought (omega (arith, ints, h, meet))
    (at_most_more first.each (turned s).each bought (omega (arith, ints, h, meet)) bought_fall.0))
    (other ∷ sold) (All-cons (λ (s : Step). s.each ≤ℤ other.each) other sold (omega (arith, ints)) sold_fall.0)

-- steps of units sold, turned round, and then those of units bought
pub fall-joined : (bought sold : List Step) → Fall bought → Fall sold → rises_at_none bought sold ≡ false
    → Fall (back sold ++ bought)
fall-joined bought sold bought_fall sold_fall none =
    fall-append (back sold) bought (fall-back sold sold_fall) bought_fall
    (all-back (λ (s : Step). AddAtMost s.each bought) sold (meet_at_none bought sold bought_fall sold_fall none))
