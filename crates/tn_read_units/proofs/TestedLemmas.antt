-- What the tests of the sets of a firm say of them.
use Rattle.std.proofs.Common.{◌≡◌, ℕ, zero, suc, ◌<◌, ◌≤◌, ◌⊎◌, refl, sym, ap, subst, ◌∙◌, arith, inl, inr, List, [], ◌∷◌, ◌++◌, length, pos, neg_ℤ, ◌≤ℤ◌, Bool, true, false, ◌==◌, Option, Some, None}
use Rattle.std.specs.Prelude.{◌&&◌, ◌||◌, ◌<ℤ◌, not, slice_get, unsigned_abs, IfSome}
use Rattle.std.specs.List.{list_any}
use Rattle.std.proofs.lemmas.Bool.{cases_eq, cases_lt, eqb-true}
use Rattle.std.proofs.lemmas.Int.{ints}
use Rattle.std.proofs.lemmas.List.Folds.{list_any-append}
use Rattle.std.proofs.lemmas.Option.{none-some, same_Some}
use Rattle.tn_base.specs.Sets.{has, meet, minus}
use Rattle.tn_base.proofs.SetLemmas.{has-meet, has-zero, has_from_minus-zero}
use Rattle.tn_links.specs.Links.{AreFalling, room}
use Rattle.tn_links.specs.declared.link.Step.{Step}
use Rattle.tn_said.specs.declared.fault.FaultKind.TheVariants.{NoEmpty, NotConcave, NotLaminar}
use Rattle.tn_said.specs.declared.place.Word.{Word}
use Rattle.tn_said.specs.declared.place.Word.TheVariants.{Bought, Sold}
use Rattle.tn_read_shapes.proofs.LeadLemmas.{Leads, is_true_not, leads_as, leads_bind, leads_holds, leads_ok}
use Rattle.tn_read_units.specs.Checks.{check_form, check_numbers, check_set, check_sets, check_steps, crosses, first_rise, has_none, rises_at_none, steps_after, unless_bent, unless_rising}
use Rattle.tn_read_units.specs.Documents.{AreNested, IsWithin, has_member, net_back, net_steps}
use Rattle.tn_read_units.specs.Sets.{SetNumbers, WrittenSet}
use Rattle.tn_read_units.specs.declared.steps.SetAt.{SetAt}
use Rattle.tn_read_units.proofs.FallLemmas.{fall-joined, fall_tested, falling_from}
use Rattle.tn_read_units.proofs.NumberLemmas.{room-joined, room-numbers}

rising_leads : (at : SetAt) (word : Word) (rise : Option ℕ) → Leads (λ _. rise ≡ None) (unless_rising at word rise)
rising_leads at word None = leads_ok (λ _. None ≡ None) tt refl
rising_leads at word (Some k) = record { at = λ u e. absurd (cc) }

bent_leads : (at : SetAt) (rise : Option ℕ) → Leads (λ _. rise ≡ None) (unless_bent at rise)
bent_leads at None = leads_ok (λ _. None ≡ None) tt refl
bent_leads at (Some k) = record { at = λ u e. absurd (cc) }

-- a concave function on net counts around 0
pub record IsTested (numbers : Option SetNumbers) (bought sold : List Step) : Type 0 where
  pub around : net_back numbers sold ≤ room (net_steps numbers bought sold)
  pub concave : AreFalling (net_steps numbers bought sold)
  pub from : IfSome numbers (λ set. (set.low ≤ℤ pos 0) × (unsigned_abs set.low < length set.numbers))

steps_tested : (bought sold : List Step) → first_rise 0 None bought ≡ None → first_rise 0 None sold ≡ None
    → rises_at_none bought sold ≡ false → IsTested None bought sold
steps_tested bought sold first second meet = record {
  around = omega (arith, room-joined bought sold);
  concave = falling_from (net_steps None bought sold) (fall-joined bought sold (fall_tested bought first)
      (fall_tested sold second) meet);
  from = tt;
}

steps_lead : (at : SetAt) (set : WrittenSet) → Leads (λ _. IsTested None set.bought set.sold) (check_steps at set)
unfolding check_steps
steps_lead at set =
    leads_bind (λ _. first_rise 0 None set.bought ≡ None) (λ _. IsTested None set.bought set.sold) _ _
    (rising_leads at Bought (first_rise 0 None set.bought)) (λ u first.
    leads_bind (λ _. first_rise 0 None set.sold ≡ None) (λ _. IsTested None set.bought set.sold) _ _
    (rising_leads at Sold (first_rise 0 None set.sold)) (λ v second.
    leads_as (λ _. not (rises_at_none set.bought set.sold) ≡ true) (λ _. IsTested None set.bought set.sold) _
    (λ w meet. steps_tested set.bought set.sold first second (is_true_not (rises_at_none set.bought set.sold) meet))
    (leads_holds NotConcave _ (not (rises_at_none set.bought set.sold)))))

numbers_tested : (set : SetNumbers) (bought sold : List Step) → has_none set ≡ true
    → first_rise 0 None (steps_after None set.numbers) ≡ None → IsTested (Some set) bought sold
numbers_tested set bought sold none falls =
    let from : set.low ≤ℤ pos 0 = grind (arith, ints, none) in
    let inside : neg_ℤ set.low <ℤ pos (length set.numbers) = grind (arith, ints, none) in
    record {
      around = omega (arith, ints, from, inside, room-numbers set.numbers);
      concave = falling_from (steps_after None set.numbers) (fall_tested (steps_after None set.numbers) falls);
      from = (from, omega (arith, ints, from, inside));
    }

numbers_lead : (at : SetAt) (set : SetNumbers) (bought sold : List Step)
    → Leads (λ _. IsTested (Some set) bought sold) (check_numbers at set)
unfolding check_numbers
numbers_lead at set bought sold =
    leads_bind (λ _. has_none set ≡ true) (λ _. IsTested (Some set) bought sold) _ _
    (leads_holds NoEmpty _ (has_none set)) (λ u none.
    leads_as (λ _. first_rise 0 None (steps_after None set.numbers) ≡ None) (λ _. IsTested (Some set) bought sold) _
    (λ v falls. numbers_tested set bought sold none falls)
    (bent_leads at (first_rise 0 None (steps_after None set.numbers))))

form_leads : (at : SetAt) (set : WrittenSet) (numbers : Option SetNumbers)
    → Leads (λ _. IsTested numbers set.bought set.sold) (check_form at set numbers)
form_leads at set None = steps_lead at set
form_leads at set (Some numbers) = numbers_lead at numbers set.bought set.sold

-- what is known of a set after earlier ones
pub record IsBeside (earlier : List WrittenSet) (set : WrittenSet) : Type 0 where
  pub form : IsTested set.numbers set.bought set.sold
  pub nested : list_any (crosses set) earlier ≡ false

set_leads : (at : SetAt) (earlier : List WrittenSet) (set : WrittenSet)
    → Leads (λ _. IsBeside earlier set) (check_set at earlier set)
unfolding check_set
set_leads at earlier set =
    leads_bind (λ _. IsTested set.numbers set.bought set.sold) (λ _. IsBeside earlier set) _ _
    (form_leads at set set.numbers) (λ u form.
    leads_bind (λ _. not (list_any (crosses set) earlier) ≡ true) (λ _. IsBeside earlier set) _ _
    (leads_holds NotLaminar _ (not (list_any (crosses set) earlier))) (λ v nested.
    record { at = λ w e. record { form = form; nested = is_true_not (list_any (crosses set) earlier) nested } }))

-- each set is beside all before it
pub record AreTested (earlier sets : List WrittenSet) : Type 0 where
  pub each : (k : ℕ) (set : WrittenSet) → slice_get sets k ≡ Some set → IsTested set.numbers set.bought set.sold
  pub beside : (k : ℕ) (set : WrittenSet) → slice_get sets k ≡ Some set → list_any (crosses set) earlier ≡ false
  pub nested : (i k : ℕ) (one other : WrittenSet) → i < k → slice_get sets i ≡ Some one → slice_get sets k ≡ Some other
      → crosses other one ≡ false

pub or_parts : (a b : Bool) → (a || b) ≡ false → (a ≡ false) × (b ≡ false)
or_parts true b none = absurd (cc)
or_parts false b none = (refl, none)

none_of : (p : WrittenSet → Bool) (sets : List WrittenSet) (set : WrittenSet) → list_any p (sets ++ set ∷ []) ≡ false
    → (list_any p sets ≡ false) × (p set ≡ false)
none_of p sets set none =
    let two = or_parts (list_any p sets) (list_any p (set ∷ [])) (sym (list_any-append p sets (set ∷ [])) ∙ none) in
    (two.0, (or_parts (p set) false two.1).0)

more_tested : (earlier : List WrittenSet) (set : WrittenSet) (sets : List WrittenSet) → IsBeside earlier set
    → AreTested (earlier ++ set ∷ []) sets → AreTested earlier (set ∷ sets)
more_tested earlier set sets beside rest = record { each = each; beside = before; nested = nested }
  where
    each : (k : ℕ) (one : WrittenSet) → slice_get (set ∷ sets) k ≡ Some one → IsTested one.numbers one.bought one.sold
    each zero one is =
        subst (λ (s : WrittenSet). IsTested s.numbers s.bought s.sold) (same_Some set one is) beside.form
    each (suc k) one is = rest.each k one is

    before : (k : ℕ) (one : WrittenSet) → slice_get (set ∷ sets) k ≡ Some one → list_any (crosses one) earlier ≡ false
    before zero one is =
        subst (λ (s : WrittenSet). list_any (crosses s) earlier ≡ false) (same_Some set one is) beside.nested
    before (suc k) one is = (none_of (crosses one) earlier set (rest.beside k one is)).0

    nested : (i k : ℕ) (one other : WrittenSet) → i < k → slice_get (set ∷ sets) i ≡ Some one
        → slice_get (set ∷ sets) k ≡ Some other → crosses other one ≡ false
    nested i zero one other less first second = absurd (omega (arith, less))
    nested zero (suc k) one other less first second =
        subst (λ (s : WrittenSet). crosses other s ≡ false) (same_Some set one first)
        (none_of (crosses other) earlier set (rest.beside k other second)).1
    nested (suc i) (suc k) one other less first second =
        rest.nested i k one other (omega (arith, less)) first second

pub sets_lead : (f : ℕ) (earlier sets : List WrittenSet) → Leads (λ _. AreTested earlier sets)
    (check_sets f earlier sets)
sets_lead f earlier [] = leads_ok (λ _. AreTested earlier []) tt (record {
  each = λ k set is. absurd (none-some set is);
  beside = λ k set is. absurd (none-some set is);
  nested = λ i k one other less first second. absurd (none-some one first);
})
sets_lead f earlier (set ∷ sets) =
    leads_bind (λ _. IsBeside earlier set) (λ _. AreTested earlier (set ∷ sets)) _ _
    (set_leads (record { firm = f; set = length earlier }) earlier set) (λ u beside.
    leads_as (λ _. AreTested (earlier ++ set ∷ []) sets) (λ _. AreTested earlier (set ∷ sets)) _
    (λ v rest. more_tested earlier set sets beside rest) (sets_lead f (earlier ++ set ∷ []) sets))

-- the members of a set are those that its number has
abbrev pub IsNamed : WrittenSet → Type 0
IsNamed set = (t : ℕ) → has set.members.named t ≡ has_member set.members t

one_of : (a b c : Bool) → (not a && not b && not c) ≡ false → (a ≡ true) ⊎ (b ≡ true) ⊎ (c ≡ true)
one_of true b c none = inl refl
one_of false true c none = inr (inl refl)
one_of false false true none = inr (inr refl)
one_of false false false none = absurd (cc)

apart : (x y t : ℕ) → meet x y ≡ 0 → has x t ≡ true → has y t ≡ true → ⊥
apart x y t none first second =
    let both : has (meet x y) t ≡ (has x t && has y t) = has-meet x y t in
    let zero_has : has (meet x y) t ≡ false = ap (λ (z : ℕ). has z t) none ∙ has-zero t in
    cc (first, second, both, zero_has)

within_from : (inner outer : WrittenSet) → IsNamed inner → IsNamed outer
    → minus inner.members.named outer.members.named ≡ 0 → IsWithin inner outer
within_from inner outer inner_named outer_named none t member =
    sym (outer_named t)
    ∙ has_from_minus-zero inner.members.named outer.members.named t none (inner_named t ∙ member)

not_crossing : (one other : WrittenSet) → IsNamed one → IsNamed other → crosses one other ≡ false → AreNested one other
not_crossing one other one_named other_named none t first second =
    let x = one.members.named in
    let y = other.members.named in
    elim (one_of (meet x y == 0) (minus y x == 0) (minus x y == 0) none) [
      | inl disjoint ↦ absurd (apart x y t (eqb-true (meet x y) 0 disjoint) (one_named t ∙ first) (other_named t
          ∙ second))
      | inr rest ↦ elim rest [
        | inl contains ↦ inr (within_from other one other_named one_named (eqb-true (minus y x) 0 contains))
        | inr lies ↦ inl (within_from one other one_named other_named (eqb-true (minus x y) 0 lies))
      ]
    ]

nested_back : (one other : WrittenSet) → AreNested one other → AreNested other one
nested_back one other nested t second first = elim (nested t first second) [
  | inl lies ↦ inr lies
  | inr contains ↦ inl contains
]

-- of any two sets that share a trade one is within the other
pub nested_sets : (sets : List WrittenSet) → AreTested [] sets
    → ((k : ℕ) (set : WrittenSet) → slice_get sets k ≡ Some set → IsNamed set)
    → (i k : ℕ) (one other : WrittenSet) → slice_get sets i ≡ Some one → slice_get sets k ≡ Some other
    → AreNested one other
nested_sets sets tested named i k one other first second = elim (cases_lt i k) [
  | inl less ↦ nested_back other one (not_crossing other one (named k other second) (named i one first)
      (tested.nested i k one other less first second))
  | inr most ↦ elim (cases_eq i k) [
    | inl same ↦
        let equal : one ≡ other = same_Some one other (sym first ∙ ap (slice_get sets) same ∙ second) in
        (λ t member also. inl (λ u inside. subst (λ (s : WrittenSet). has_member s.members u ≡ true) equal inside))
    | inr apart ↦ not_crossing one other (named i one first) (named k other second)
        (tested.nested k i other one (omega (arith, most, apart)) second first)
  ]
]
