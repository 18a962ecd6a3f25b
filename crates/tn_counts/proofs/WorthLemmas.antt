-- What a laminar firm has by counts, as sums over its sets and its trades.
use Rattle.std.proofs.Common.{◌≡◌, ℕ, zero, suc, ◌≤◌, Bool, ◌==◌, if◌then◌else◌, List, [], ◌∷◌, length, Option, Some, None, slice_get, refl, sym, ap, ◌∙◌, subst, arith, inl, inr, ℤ, pos, ◌+ℤ◌, ◌-ℤ◌, ◌*ℤ◌, nat_le}
use Rattle.std.specs.Prelude.{min, unwrap_or}
use Rattle.std.proofs.lemmas.Int.{ints}
use Rattle.std.proofs.lemmas.Bool.{cases_eq, eq-eqb, ne_eqb, le-leb, leb-true}
use Rattle.std.proofs.lemmas.Option.{cond_some, none-some, same_Some}
use Rattle.std.proofs.Math.IntN.{negsuc, *ℤ-zero}
use Rattle.tn_base.specs.Options.{both}
use Rattle.tn_base.proofs.WalkLemmas.{both_are, both_parts}
use Rattle.tn_links.specs.Links.{rise, room}
use Rattle.tn_links.specs.Totals.{total}
use Rattle.tn_links.proofs.TotalLemmas.{total-first}
use Rattle.tn_counts.specs.Laminar.{added_at, set_number, set_sum}
use Rattle.tn_counts.specs.Tree.{even}
use Rattle.tn_counts.specs.declared.set.CountSet.{CountSet}
use Rattle.tn_counts.specs.declared.trade.UnitTrade.{UnitTrade}

-- the level at which a set adds a number
pub record IsLevel (set : CountSet) (z value : ℤ) : Type 0 where
  pub level : ℕ
  pub is : z ≡ pos level
  pub within : level ≤ room set.steps.items
  pub value_is : value ≡ set.constant +ℤ (rise set.steps.items level -ℤ rise set.steps.items set.back)

pub level_of : (set : CountSet) (z value : ℤ) → added_at set z ≡ Some value → IsLevel set z value
level_of set (pos level) value is =
    let there = cond_some (nat_le level (room set.steps.items))
    (set.constant +ℤ (rise set.steps.items level -ℤ rise set.steps.items set.back)) value is in
    record {
      level = level;
      is = refl;
      within = leb-true level (room set.steps.items) there.0;
      value_is = sym there.1;
    }
level_of set (negsuc k) value is = absurd (none-some value is)

pub added_there : (set : CountSet) (z : ℤ) (level : ℕ) → z ≡ pos level → level ≤ room set.steps.items
    → added_at set z ≡ Some (set.constant +ℤ (rise set.steps.items level -ℤ rise set.steps.items set.back))
added_there set z level is within =
    ap (added_at set) is
    ∙ ap (λ (b : Bool). if b
    then Some (set.constant +ℤ (rise set.steps.items level -ℤ rise set.steps.items set.back)) else None)
    (le-leb level (room set.steps.items) within)

-- what the set at a place adds to what a firm has
abbrev pub value_in : List UnitTrade → ℕ → (ℕ → ℕ) → Option CountSet → ℤ
value_in trades f counts None = pos 0
value_in trades f counts (Some set) = if f == set.firm then unwrap_or (set_number trades set counts) (pos 0) else pos 0

-- each of its sets adds a number
abbrev pub AreThere : List UnitTrade → ℕ → (ℕ → ℕ) → List CountSet → Type 0
AreThere trades f counts sets = (i : ℕ) (set : CountSet) → slice_get sets i ≡ Some set → f ≡ set.firm
    → (value : ℤ) × (set_number trades set counts ≡ Some value)

abbrev pub sets_value : List UnitTrade → ℕ → (ℕ → ℕ) → List CountSet → ℤ
sets_value trades f counts sets = total (λ i. value_in trades f counts (slice_get sets i)) (length sets)

pub set_sum_parts : (trades : List UnitTrade) (f : ℕ) (counts : ℕ → ℕ) (sets : List CountSet) (sum : ℤ)
    → set_sum trades f counts sets ≡ Some sum → (sum ≡ sets_value trades f counts sets) × AreThere trades f counts sets
unfolding total
set_sum_parts trades f counts [] sum is =
    (sym (same_Some (pos 0) sum is), λ i set at own. absurd (none-some set at))
set_sum_parts trades f counts (set ∷ sets) sum is = elim (cases_eq f set.firm) [
  | inl own ↦
      let test = eq-eqb f set.firm own in
      let parts = both_parts (set_number trades set counts) (set_sum trades f counts sets) sum
      (sym (ap (λ (b : Bool). if b then both (set_number trades set counts) (set_sum trades f counts sets)
      else set_sum trades f counts sets) test) ∙ is) in
      let rest = set_sum_parts trades f counts sets parts.second parts.second_is in
      let rest_is = rest.0 in
      let first = total-first (λ i. value_in trades f counts (slice_get (set ∷ sets) i)) (length sets) in
      let here : value_in trades f counts (Some set) ≡ parts.first =
      ap (λ (b : Bool). if b then unwrap_or (set_number trades set counts) (pos 0) else pos 0) test
      ∙ ap (λ (o : Option ℤ). unwrap_or o (pos 0)) parts.first_is in
      let sum_is = parts.sum_is in (
        omega (arith, ints, sum_is, rest_is, first, here),
        there set sets rest.1 (λ one. (parts.first, parts.first_is)),
      )
  | inr other ↦
      let test = ne_eqb f set.firm other in
      let rest = set_sum_parts trades f counts sets sum
      (sym (ap (λ (b : Bool). if b then both (set_number trades set counts) (set_sum trades f counts sets)
      else set_sum trades f counts sets) test) ∙ is) in
      let rest_is = rest.0 in
      let first = total-first (λ i. value_in trades f counts (slice_get (set ∷ sets) i)) (length sets) in
      let here : value_in trades f counts (Some set) ≡ pos 0 =
      ap (λ (b : Bool). if b then unwrap_or (set_number trades set counts) (pos 0) else pos 0) test in
      (omega (arith, ints, rest_is, first, here), there set sets rest.1 (λ own. absurd (other own)))
]
  where
    there : (first : CountSet) (later : List CountSet) → AreThere trades f counts later
        → (f ≡ first.firm → (value : ℤ) × (set_number trades first counts ≡ Some value))
        → AreThere trades f counts (first ∷ later)
    there first later rest here zero one at own =
        let same = same_Some first one at in
        subst (λ (s : CountSet). f ≡ s.firm → (value : ℤ) × (set_number trades s counts ≡ Some value)) same here own
    there first later rest here (suc i) one at own = rest i one at own

pub set_sum_from : (trades : List UnitTrade) (f : ℕ) (counts : ℕ → ℕ) (sets : List CountSet)
    → AreThere trades f counts sets → set_sum trades f counts sets ≡ Some (sets_value trades f counts sets)
unfolding total
set_sum_from trades f counts [] there = refl
set_sum_from trades f counts (set ∷ sets) there =
    let rest = set_sum_from trades f counts sets (λ i one at own. there (suc i) one at own) in
    let first = total-first (λ i. value_in trades f counts (slice_get (set ∷ sets) i)) (length sets) in
    elim (cases_eq f set.firm) [
      | inl own ↦
          let test = eq-eqb f set.firm own in
          let number = there 0 set refl own in
          let here : value_in trades f counts (Some set) ≡ number.0 =
          ap (λ (b : Bool). if b then unwrap_or (set_number trades set counts) (pos 0) else pos 0) test
          ∙ ap (λ (o : Option ℤ). unwrap_or o (pos 0)) number.1 in
          let sum : number.0 +ℤ sets_value trades f counts sets ≡ sets_value trades f counts (set ∷ sets) =
          omega (arith, ints, first, here) in
          ap (λ (b : Bool). if b then both (set_number trades set counts) (set_sum trades f counts sets)
          else set_sum trades f counts sets) test
          ∙ both_are (set_number trades set counts) (set_sum trades f counts sets) number.0
          (sets_value trades f counts sets) number.1 rest ∙ ap Some sum
      | inr other ↦
          let test = ne_eqb f set.firm other in
          let here : value_in trades f counts (Some set) ≡ pos 0 =
          ap (λ (b : Bool). if b then unwrap_or (set_number trades set counts) (pos 0) else pos 0) test in
          let sum : sets_value trades f counts sets ≡ sets_value trades f counts (set ∷ sets) =
          omega (arith, ints, first, here) in
          ap (λ (b : Bool). if b then both (set_number trades set counts) (set_sum trades f counts sets)
          else set_sum trades f counts sets) test ∙ rest ∙ ap Some sum
    ]

-- what units of one step add
pub even_rise : (units n : ℕ) (each : ℤ) → n ≤ units → rise (even units each) n ≡ each *ℤ pos n
even_rise units n each within =
    let few : min n units ≡ n = omega (arith, within) in
    let same = ap (λ (k : ℕ). each *ℤ pos k) few in
    omega (arith, ints, same)

pub even_gain : (units n : ℕ) (each : ℤ) → n ≤ units
    → rise (even units each) n -ℤ rise (even units each) 0 ≡ each *ℤ pos n
even_gain units n each within =
    let own = even_rise units n each within in
    let none = even_rise units 0 each (omega arith) in
    let zero_is = *ℤ-zero each in
    omega (arith, ints, own, none, zero_is)
