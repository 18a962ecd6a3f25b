-- Members of sets, and sets that are nested in later ones.
use Rattle.std.proofs.Common.{◌≡◌, ℕ, zero, suc, ◌+◌, ◌<◌, ◌==◌, true, List, [], ◌∷◌, Some, slice_get, sym, ap, ◌∙◌, subst, arith, inl, inr}
use Rattle.std.specs.List.{list_any}
use Rattle.std.proofs.lemmas.Bool.{cases_lt, eq-eqb, eqb-true, false≢true, or_cases, or_left, or_right}
use Rattle.std.proofs.lemmas.Int.{ints}
use Rattle.std.proofs.lemmas.Option.{none-some, same_Some}
use Rattle.tn_counts.specs.Laminar.{holds}
use Rattle.tn_links.specs.Links.{HasSteps}
use Rattle.tn_counts.specs.Markets.{AreLaminar, IsCountSet, IsNested}
use Rattle.tn_counts.specs.declared.set.CountSet.{CountSet}

-- a trade that is among the members stands at a place
pub place_of : (members : List ℕ) (t : ℕ) → list_any (λ k. k == t) members ≡ true → (i : ℕ) × (slice_get members i ≡ Some t)
place_of [] t has = absurd (false≢true has)
place_of (k ∷ members) t has = elim (or_cases (k == t) (list_any (λ m. m == t) members) has) [
  | inl first ↦ (0, ap Some (eqb-true k t first))
  | inr rest ↦ let there = place_of members t rest in (suc there.0, there.1)
]

-- one that stands at a place is among them
pub has_at : (members : List ℕ) (i t : ℕ) → slice_get members i ≡ Some t → list_any (λ k. k == t) members ≡ true
has_at [] i t is = absurd (none-some t is)
has_at (k ∷ members) zero t is = or_left (k == t) (list_any (λ m. m == t) members) (eq-eqb k t (same_Some k t is))
has_at (k ∷ members) (suc i) t is = or_right (k == t) (list_any (λ m. m == t) members) (has_at members i t is)

-- what holds of each member holds of each trade that the set has
pub of_members : (P : ℕ → Type 0) (set : CountSet)
    → ((i t : ℕ) → slice_get set.members.items i ≡ Some t → P t) → (t : ℕ) → holds set t ≡ true → P t
of_members P set each t has = let there = place_of set.members.items t has in each there.0 t there.1

-- each of the first so many sets is nested in one
abbrev pub AreNestedBelow : List CountSet → ℕ → ℕ → Type 0
AreNestedBelow sets n k = (i : ℕ) (inner outer : CountSet) → i < n → slice_get sets i ≡ Some inner
    → slice_get sets k ≡ Some outer → IsNested inner outer

pub nested_more : (sets : List CountSet) (n k : ℕ) (inner outer : CountSet) → slice_get sets n ≡ Some inner
    → slice_get sets k ≡ Some outer → IsNested inner outer → AreNestedBelow sets n k → AreNestedBelow sets (n + 1) k
nested_more sets n k inner outer at_inner at_outer here before i one other less at_one at_other = elim (cases_lt i n) [
  | inl earlier ↦ before i one other earlier at_one at_other
  | inr last ↦
      let same : n ≡ i = omega (arith, less, last) in
      let first : inner ≡ one = same_Some inner one (sym at_inner ∙ ap (slice_get sets) same ∙ at_one) in
      let second : outer ≡ other = same_Some outer other (sym at_outer ∙ at_other) in
      subst (λ z. IsNested one z) second (subst (λ z. IsNested z outer) first here)
]

-- all sets before each are nested in it
pub laminar_by : (sets : List CountSet) → ((k : ℕ) (outer : CountSet) → slice_get sets k ≡ Some outer → AreNestedBelow sets k k)
    → AreLaminar sets
laminar_by sets nested i k t u inner outer less at_inner at_outer firm in_inner in_outer other =
    nested k outer at_outer i inner outer less at_inner at_outer t u firm in_inner in_outer other

pub nested_by : (sets : List CountSet) (k : ℕ) → AreLaminar sets → AreNestedBelow sets k k
nested_by sets k laminar i inner outer less at_inner at_outer t u firm in_inner in_outer other =
    laminar i k t u inner outer less at_inner at_outer firm in_inner in_outer other

-- the steps of a set are such as a link takes
pub steps_of : (firms : ℕ) (set : CountSet) → IsCountSet firms set → HasSteps set.back set.steps.items
steps_of firms set is = record {
  back_within = is.around;
  few_units = let few = is.few in omega (arith, few);
  falling = is.concave;
  slight = λ k step at.
      let small = is.small k step at in
      record { low = omega (arith, ints, small.low); high = omega (arith, ints, small.high) };
}
