-- What a toggle changes of the sum of the sets' numbers, set by set.
use Rattle.std.proofs.Common.{◌≡◌, ℕ, zero, suc, ◌+◌, ◌*◌, ◌^◌, ◌<◌, ◌≤◌, Bool, true, false, not, ◌&&◌, if◌then◌else◌, refl, sym, ap, ap₂, ◌∙◌, subst, arith, inl, inr, ◌⊎◌, add-one, List, length, map, get_or, Option, Some, None, ℤ, pos, neg_ℤ, ◌+ℤ◌, ◌-ℤ◌, ◌≤ℤ◌}
use Rattle.std.specs.Prelude.{All, ◌<ℤ◌, slice_get, IfSome, int_le}
use Rattle.std.proofs.lemmas.Int.{ints}
use Rattle.std.proofs.lemmas.Bool.{and_parts, cases_Bool, cases_eq, lt-ltb}
use Rattle.std.proofs.lemmas.List.{get_or-set_same, get_or-set_other, get_or_read}
use Rattle.tn_base.specs.Arcs.{IsAtMost}
use Rattle.tn_base.specs.Firm.{net}
use Rattle.tn_base.specs.Options.{both}
use Rattle.tn_base.specs.Sets.{has, meet, toggle, sum_over}
use Rattle.tn_base.proofs.SetLemmas.{has-zero, has-meet, has-toggle_same, has-toggle_other, has_below}
use Rattle.tn_base.proofs.FirmLemmas.{meet-toggle_in, meet-toggle_out, net-toggle_buy_in, net-toggle_buy_out, net-toggle_sell_in, net-toggle_sell_out}
use Rattle.tn_base.proofs.SumLemmas.{sum_over-toggle_in, sum_over-toggle_out}
use Rattle.tn_firm_laws.specs.Nested.{count_sum, listed_from}
use Rattle.tn_laminar.specs.declared.set.LaminarSet.{LaminarSet}
use Rattle.tn_laminar.specs.declared.row.Slope.{Slope}
use Rattle.tn_laminar.specs.LawLemmas.{numbers_small, amounts_small}
use Rattle.tn_laminar.specs.WithinLemmas.{all_at, listed_within}
use Rattle.tn_laminar.specs.Rows.{most_counted, counted_or_unlisted, listed_sum, counted_sum, counted_beside, IsSlope, step_of, counted_change, AreChanges}
use Rattle.tn_laminar.specs.Sum.{HasNumbersWithin, IsLaminar, IsOwnSet, laminar_sum, set_number, term_of}
use Rattle.tn_market.specs.OwnNumbers.{own_number}
use Rattle.tn_laminar.specs.declared.masks.Masks.{Masks}
use Rattle.tn_laminar.specs.Masked.{masks_of, net_within}
use Rattle.tn_laminar.proofs.ValueLemmas.{net_by_masks, CountsSoFar, counts_none, counts_more, counts_stop, counts_all}
use Rattle.tn_base.specs.Widths.{most_amount}
use Rattle.tn_market.specs.Widths.{most_own}
use Rattle.tn_model.specs.Limits.{most_sets}
use mir.Syntax.{w128}
use mir.Val.{SFits}
use Rattle.std.specs.Prelude.{set as set_at}

-- ---- what numbers count

counted-some : (o : Option ℤ) (number : ℤ) → o ≡ Some number → counted_or_unlisted o ≡ number
unfolding counted_or_unlisted
counted-some o number is = ap counted_or_unlisted is

counted-none : (o : Option ℤ) → o ≡ None → counted_or_unlisted o ≡ neg_ℤ (pos most_counted)
unfolding counted_or_unlisted
counted-none o is = ap counted_or_unlisted is

-- a number of at most 10^9 in size, or none, counts at most 10^12
pub counted_small : (o : Option ℤ) → IfSome o (λ number. IsAtMost number most_amount)
    → IsAtMost (counted_or_unlisted o) most_counted
unfolding counted_or_unlisted
counted_small None small = record { low = omega (arith, ints); high = omega (arith, ints) }
counted_small (Some number) small = let low = small.low in let high = small.high in
    record { low = omega (arith, ints, low); high = omega (arith, ints, high) }

number_of_small : (buys x : ℕ) (sets : List LaminarSet) (k : ℕ) → All HasNumbersWithin sets
    → IfSome (set_number buys x (slice_get sets k)) (λ number. IsAtMost number most_amount)
number_of_small buys x sets k all = by (slice_get sets k) refl
  where
    some : (set : LaminarSet) (o : Option ℤ) → slice_get sets k ≡ Some set
        → listed_from set.low set.numbers (net buys (meet x set.members)) ≡ o
        → IfSome o (λ number. IsAtMost number most_amount)
    some set None is e = tt
    some set (Some u) is e =
        listed_within set most_amount (all_at HasNumbersWithin sets k set all is).small
        (net buys (meet x set.members)) u e

    by : (o : Option LaminarSet) → slice_get sets k ≡ o
        → IfSome (set_number buys x o) (λ number. IsAtMost number most_amount)
    by None e = tt
    by (Some set) e = some set (listed_from set.low set.numbers (net buys (meet x set.members))) e refl

pub counted_sum-next : (buys : ℕ) (sets : List LaminarSet) (k x : ℕ)
    → counted_sum buys sets (k + 1) x ≡ counted_sum buys sets k x +ℤ counted_or_unlisted (set_number buys x (slice_get sets k))
unfolding counted_sum
counted_sum-next buys sets k x = rw add-one refl

pub counted_sum-none : (buys : ℕ) (sets : List LaminarSet) (x : ℕ) → counted_sum buys sets 0 x ≡ pos 0
unfolding counted_sum
counted_sum-none buys sets x = refl

pub counted_sum_small : (buys : ℕ) (sets : List LaminarSet) (k x : ℕ) → All HasNumbersWithin sets
    → IsAtMost (counted_sum buys sets k x) (k * most_counted)
counted_sum_small buys sets zero x all =
    let none = counted_sum-none buys sets x in
    record { low = omega (arith, ints, none); high = omega (arith, ints, none) }
counted_sum_small buys sets (suc k) x all =
    let one : suc k ≡ k + 1 = omega arith in
    let next : counted_sum buys sets (suc k) x ≡ counted_sum buys sets k x
    +ℤ counted_or_unlisted (set_number buys x (slice_get sets k)) =
    ap (λ (j : ℕ). counted_sum buys sets j x) one ∙ counted_sum-next buys sets k x in
    let rest = counted_sum_small buys sets k x all in
    let here = counted_small (set_number buys x (slice_get sets k)) (number_of_small buys x sets k all) in
    let a = rest.low in
    let b = rest.high in
    let p = here.low in
    let q = here.high in
    record { low = omega (arith, ints, next, a, p); high = omega (arith, ints, next, b, q) }

-- ---- what was counted tells the sum

-- so far all numbers were listed, or one wasn't, and then the sum is far too low
abbrev IsCounted : ℕ → List LaminarSet → ℕ → ℕ → Type 0
IsCounted buys sets x k = CountsSoFar buys sets x k (counted_sum buys sets k x)
    ⊎ ((None ≡ count_sum buys (map term_of sets) x)
    × (counted_sum buys sets k x ≤ℤ (neg_ℤ (pos most_counted) +ℤ pos (k * most_amount))))

counted_most : (o : Option ℤ) → IfSome o (λ number. IsAtMost number most_amount) → counted_or_unlisted o ≤ℤ pos most_amount
unfolding counted_or_unlisted
counted_most None small = omega (arith, ints)
counted_most (Some number) small = small.high

is_counted : (buys : ℕ) (sets : List LaminarSet) (x k : ℕ) → All HasNumbersWithin sets → k ≤ length sets
    → IsCounted buys sets x k
is_counted buys sets x zero all within =
    inl (subst (λ (z : ℤ). CountsSoFar buys sets x 0 z) (sym (counted_sum-none buys sets x)) (counts_none buys sets x))
is_counted buys sets x (suc k) all within =
    let one : suc k ≡ k + 1 = omega arith in
    subst (λ (j : ℕ). IsCounted buys sets x j) (sym one)
    (next (set_number buys x (slice_get sets k)) refl (is_counted buys sets x k all (omega (arith, within))))
  where
    inside : k < length sets
    inside = omega (arith, within)

    small : IfSome (set_number buys x (slice_get sets k)) (λ number. IsAtMost number most_amount)
    small = number_of_small buys x sets k all

    sum_is : counted_sum buys sets (k + 1) x ≡ counted_sum buys sets k x
        +ℤ counted_or_unlisted (set_number buys x (slice_get sets k))
    sum_is = counted_sum-next buys sets k x

    next : (o : Option ℤ) → set_number buys x (slice_get sets k) ≡ o → IsCounted buys sets x k
        → IsCounted buys sets x (k + 1)
    next (Some number) is (inl so_far) =
        let fits : IsAtMost number most_amount =
        subst (λ (p : Option ℤ). IfSome p (λ a. IsAtMost a most_amount)) is small in
        let counts : counted_or_unlisted (set_number buys x (slice_get sets k)) ≡ number = counted-some _ number is in
        inl (subst (λ (z : ℤ). CountsSoFar buys sets x (k + 1) z)
        (sym (sum_is ∙ ap (λ (z : ℤ). counted_sum buys sets k x +ℤ z) counts))
        (counts_more buys sets x k (counted_sum buys sets k x) number inside is fits so_far))
    next None is (inl so_far) =
        let counts : counted_or_unlisted (set_number buys x (slice_get sets k)) ≡ neg_ℤ (pos most_counted) = counted-none _ is in
        let high = so_far.small.high in
        inr (
          counts_stop buys sets x k (counted_sum buys sets k x) inside is so_far,
          omega (arith, ints, sum_is, counts, high),
        )
    next o is (inr gone) =
        let most = counted_most (set_number buys x (slice_get sets k)) small in
        let low = gone.1 in
        inr (gone.0, omega (arith, ints, sum_is, most, low))

listed_sum-high : (total : ℤ) → neg_ℤ (pos (10 ^ 11)) ≤ℤ total → listed_sum total ≡ Some total
unfolding listed_sum
listed_sum-high total high = elim (cases_Bool (int_le (neg_ℤ (pos (10 ^ 11))) total)) [
  | inl is ↦ ap (λ (b : Bool). if b then Some total else None) is
  | inr off ↦ absurd (grind (arith, ints))
]

listed_sum-low : (total : ℤ) → total <ℤ neg_ℤ (pos (10 ^ 11)) → listed_sum total ≡ None
unfolding listed_sum
listed_sum-low total low = elim (cases_Bool (int_le (neg_ℤ (pos (10 ^ 11))) total)) [
  | inl is ↦ absurd (grind (arith, ints))
  | inr off ↦ ap (λ (b : Bool). if b then Some total else None) off
]

-- the sum that is told is that of the sets' numbers
pub listed_sum_is : (buys : ℕ) (sets : List LaminarSet) (x : ℕ) → All HasNumbersWithin sets → length sets ≤ most_sets
    → listed_sum (counted_sum buys sets (length sets) x) ≡ count_sum buys (map term_of sets) x
listed_sum_is buys sets x all few = by (is_counted buys sets x (length sets) all (omega arith))
  where
    by : IsCounted buys sets x (length sets) → listed_sum (counted_sum buys sets (length sets) x)
        ≡ count_sum buys (map term_of sets) x
    by (inl so_far) =
        let low = so_far.small.low in
        listed_sum-high _ (omega (arith, ints, low, few)) ∙ counts_all buys sets x (length sets) _ (omega arith) so_far
    by (inr gone) =
        let low = gone.1 in
        listed_sum-low _ (omega (arith, ints, low, few)) ∙ gone.0

-- ---- one toggle

-- a toggle within the set moves its net count by one, and so its number by a step
member_change : (buys x j : ℕ) (set : LaminarSet) (slope : Slope) → IsSlope buys x set slope → has set.members j ≡ true
    → counted_or_unlisted (set_number buys (toggle x j) (Some set)) -ℤ counted_or_unlisted (set_number buys x (Some set)) ≡ step_of buys x slope j
member_change buys x j set slope is member = by (has buys j) (has x j) refl refl
  where
    number_at : ℤ → ℤ
    number_at count = counted_or_unlisted (listed_from set.low set.numbers count)

    toggled : net buys (meet (toggle x j) set.members) ≡ net buys (toggle (meet x set.members) j)
    toggled = ap (net buys) (meet-toggle_in x set.members j member)

    in_both : (b : Bool) → has x j ≡ b → has (meet x set.members) j ≡ b
    in_both b e = has-meet x set.members j ∙ ap₂ (λ (p q : Bool). p && q) e member ∙ and_true b
      where
        and_true : (b : Bool) → (b && true) ≡ b
        and_true true = refl
        and_true false = refl

    here : counted_beside buys x set (pos 0) ≡ number_at (net buys (meet x set.members))
    here = ap number_at (omega (arith, ints))

    down_at : number_at (net buys (meet x set.members) -ℤ pos 1) ≡ counted_beside buys x set (neg_ℤ (pos 1))
    down_at = ap number_at (omega (arith, ints))

    up : number_at (net buys (meet x set.members) +ℤ pos 1) -ℤ number_at (net buys (meet x set.members)) ≡ slope.up
    up = ap (λ (z : ℤ). number_at (net buys (meet x set.members) +ℤ pos 1) -ℤ z) (sym here) ∙ sym is.up

    down : number_at (net buys (meet x set.members) -ℤ pos 1) -ℤ number_at (net buys (meet x set.members)) ≡ slope.down
    down = ap₂ (λ (y z : ℤ). y -ℤ z) down_at (sym here) ∙ sym is.down

    by : (p q : Bool) → has buys j ≡ p → has x j ≡ q
        → number_at (net buys (meet (toggle x j) set.members)) -ℤ number_at (net buys (meet x set.members))
        ≡ (if has buys j then (if has x j then slope.down else slope.up)
        else (if has x j then slope.up else slope.down))
    by true true bought inside =
        ap (λ (z : ℤ). number_at z -ℤ number_at (net buys (meet x set.members))) (toggled
        ∙ net-toggle_buy_out buys (meet x set.members) j bought (in_both true inside))
        ∙ down ∙ sym (ap₂ (λ (p q : Bool). if p then (if q then slope.down else slope.up)
        else (if q then slope.up else slope.down)) bought inside)
    by true false bought outside =
        ap (λ (z : ℤ). number_at z -ℤ number_at (net buys (meet x set.members))) (toggled
        ∙ net-toggle_buy_in buys (meet x set.members) j bought (in_both false outside))
        ∙ up ∙ sym (ap₂ (λ (p q : Bool). if p then (if q then slope.down else slope.up)
        else (if q then slope.up else slope.down)) bought outside)
    by false true sold inside =
        ap (λ (z : ℤ). number_at z -ℤ number_at (net buys (meet x set.members))) (toggled
        ∙ net-toggle_sell_out buys (meet x set.members) j sold (in_both true inside))
        ∙ up ∙ sym (ap₂ (λ (p q : Bool). if p then (if q then slope.down else slope.up)
        else (if q then slope.up else slope.down)) sold inside)
    by false false sold outside =
        ap (λ (z : ℤ). number_at z -ℤ number_at (net buys (meet x set.members))) (toggled
        ∙ net-toggle_sell_in buys (meet x set.members) j sold (in_both false outside))
        ∙ down ∙ sym (ap₂ (λ (p q : Bool). if p then (if q then slope.down else slope.up)
        else (if q then slope.up else slope.down)) sold outside)

-- one set more changes a position's sum by what its own number changes
change_next : (buys : ℕ) (sets : List LaminarSet) (k x j : ℕ) → counted_change buys sets (k + 1) x j
    ≡ counted_change buys sets k x j +ℤ (counted_or_unlisted (set_number buys (toggle x j) (slice_get sets k))
    -ℤ counted_or_unlisted (set_number buys x (slice_get sets k)))
change_next buys sets k x j =
    let first = counted_sum-next buys sets k (toggle x j) in
    let second = counted_sum-next buys sets k x in
    omega (arith, ints, first, second)

pub member_changes : (buys : ℕ) (sets : List LaminarSet) (k x j : ℕ) (set : LaminarSet) (slope : Slope)
    → slice_get sets k ≡ Some set → IsSlope buys x set slope
    → has set.members j ≡ true → counted_change buys sets (k + 1) x j ≡ counted_change buys sets k x j
    +ℤ step_of buys x slope j
member_changes buys sets k x j set slope is slope_is member =
    change_next buys sets k x j
    ∙ ap (λ (o : Option LaminarSet). counted_change buys sets k x j
    +ℤ (counted_or_unlisted (set_number buys (toggle x j) o) -ℤ counted_or_unlisted (set_number buys x o))) is
    ∙ ap (λ (z : ℤ). counted_change buys sets k x j +ℤ z) (member_change buys x j set slope slope_is member)

-- by nothing, if the set doesn't hold it
pub other_changes : (buys : ℕ) (sets : List LaminarSet) (k x j : ℕ) (set : LaminarSet) → slice_get sets k ≡ Some set
    → has set.members j ≡ false
    → counted_change buys sets (k + 1) x j ≡ counted_change buys sets k x j
other_changes buys sets k x j set is absent =
    let same : counted_or_unlisted (set_number buys (toggle x j) (Some set)) ≡ counted_or_unlisted (set_number buys x (Some set)) =
    ap (λ (y : ℕ). counted_or_unlisted (listed_from set.low set.numbers (net buys y))) (meet-toggle_out x set.members j absent) in
    let one =
    change_next buys sets k x j
    ∙ ap (λ (o : Option LaminarSet). counted_change buys sets k x j
    +ℤ (counted_or_unlisted (set_number buys (toggle x j) o) -ℤ counted_or_unlisted (set_number buys x o))) is in
    omega (arith, ints, same, one)

-- the slope that the code reads off
pub slope_is : (buys x : ℕ) (sets : List LaminarSet) (masks : List Masks) (k : ℕ) (set : LaminarSet) (mask : Masks)
    (here above below : ℤ)
    → masks ≡ map (λ set. masks_of buys set.members) sets → slice_get sets k ≡ Some set → slice_get masks k ≡ Some mask
    → here ≡ counted_or_unlisted (listed_from set.low set.numbers (net_within mask x))
    → above ≡ counted_or_unlisted (listed_from set.low set.numbers (net_within mask x +ℤ pos 1))
    → below ≡ counted_or_unlisted (listed_from set.low set.numbers (net_within mask x -ℤ pos 1))
    → IsSlope buys x set (record { up = above -ℤ here; down = below -ℤ here })
slope_is buys x sets masks k set mask here above below masked set_is mask_is here_is above_is below_is = record {
  up = ap₂ (λ (y z : ℤ). y -ℤ z) (above_is ∙ ap (λ (n : ℤ). number_at (n +ℤ pos 1)) count) (here_is ∙ at_count);
  down = ap₂ (λ (y z : ℤ). y -ℤ z) (below_is ∙ ap number_at less) (here_is ∙ at_count);
}
  where
    number_at : ℤ → ℤ
    number_at count = counted_or_unlisted (listed_from set.low set.numbers count)

    count : net_within mask x ≡ net buys (meet x set.members)
    count = net_by_masks buys sets masks x k set mask masked set_is mask_is

    at_count : number_at (net_within mask x) ≡ counted_beside buys x set (pos 0)
    at_count = ap number_at (omega (arith, ints, count))

    less : net_within mask x -ℤ pos 1 ≡ net buys (meet x set.members) +ℤ neg_ℤ (pos 1)
    less = omega (arith, ints, count)

-- ---- one set, member by member

-- the changes by the first k sets at wanted positions, with the set at place k too for all but the rest of its members
pub record IsAdding (buys : ℕ) (sets : List LaminarSet) (k x wanted members rest : ℕ) (changes : List ℤ) : Type 0 where
  pub within : (i : ℕ) → has rest i ≡ true → has members i ≡ true
  pub asked : (i : ℕ) → has rest i ≡ true → has wanted i ≡ true
  pub are : (i : ℕ) → has wanted i ≡ true → get_or changes i (pos 0) ≡ (if has rest i then counted_change buys sets k x i
      else counted_change buys sets (k + 1) x i)

second_in : (a b : Bool) → b ≡ true → (a && b) ≡ a
second_in true b q = q
second_in false b q = refl

pub adding_start : (buys : ℕ) (sets : List LaminarSet) (k x wanted : ℕ) (set : LaminarSet) (rest : ℕ)
    (changes : List ℤ) → slice_get sets k ≡ Some set → rest ≡ meet set.members wanted
    → AreChanges buys sets k x wanted changes → IsAdding buys sets k x wanted set.members rest changes
adding_start buys sets k x wanted set rest changes is rest_is so_far = record {
  within = λ i h. (and_parts _ _ (sym (rest_has i) ∙ h)).0;
  asked = λ i h. (and_parts _ _ (sym (rest_has i) ∙ h)).1;
  are = λ i wants. so_far i wants ∙ elim (cases_Bool (has set.members i)) [
    | inl member ↦
        sym (ap (λ (b : Bool). if b then counted_change buys sets k x i
        else counted_change buys sets (k + 1) x i) (rest_has i ∙ second_in _ _ wants ∙ member))
    | inr absent ↦
        sym (ap (λ (b : Bool). if b then counted_change buys sets k x i
        else counted_change buys sets (k + 1) x i) (rest_has i ∙ second_in _ _ wants ∙ absent)
        ∙ other_changes buys sets k x i set is absent)
  ];
}
  where
    rest_has : (i : ℕ) → has rest i ≡ (has set.members i && has wanted i)
    rest_has i = ap (λ (y : ℕ). has y i) rest_is ∙ has-meet set.members wanted i

pub adding_more : (buys : ℕ) (sets : List LaminarSet) (k x wanted : ℕ) (set : LaminarSet) (slope : Slope) (rest j : ℕ)
    (changes : List ℤ) → slice_get sets k ≡ Some set
    → IsSlope buys x set slope → IsAdding buys sets k x wanted set.members rest changes → has rest j ≡ true
    → j < length changes → (sum : ℤ)
    → sum ≡ counted_change buys sets k x j +ℤ step_of buys x slope j
    → IsAdding buys sets k x wanted set.members (toggle rest j) (set_at changes j sum)
adding_more buys sets k x wanted set slope rest j changes is slope_is adding member inside sum sum_is = record {
  within = λ i h. elim (cases_eq i j) [
    | inl e ↦ subst (λ (m : ℕ). has set.members m ≡ true) (sym e) (adding.within j member)
    | inr d ↦ adding.within i (sym (has-toggle_other rest j i d) ∙ h)
  ];
  asked = λ i h. elim (cases_eq i j) [
    | inl e ↦ subst (λ (m : ℕ). has wanted m ≡ true) (sym e) (adding.asked j member)
    | inr d ↦ adding.asked i (sym (has-toggle_other rest j i d) ∙ h)
  ];
  are = λ i wants. elim (cases_eq i j) [
    | inl e ↦
        let gone : has (toggle rest j) i ≡ false = ap (has (toggle rest j)) e ∙ has-toggle_same rest j ∙ ap not member
        in
        ap (λ (m : ℕ). get_or (set_at changes j sum) m (pos 0)) e ∙ get_or-set_same changes j sum (pos 0) inside
        ∙ sum_is
        ∙ sym (member_changes buys sets k x j set slope is slope_is (adding.within j member))
        ∙ ap (λ (m : ℕ). counted_change buys sets (k + 1) x m) (sym e)
        ∙ sym (ap (λ (b : Bool). if b then counted_change buys sets k x i
        else counted_change buys sets (k + 1) x i) gone)
    | inr d ↦
        get_or-set_other changes j i sum (pos 0) d ∙ adding.are i wants
        ∙ ap (λ (b : Bool). if b then counted_change buys sets k x i
        else counted_change buys sets (k + 1) x i) (sym (has-toggle_other rest j i d))
  ];
}

pub adding_end : (buys : ℕ) (sets : List LaminarSet) (k x wanted members rest : ℕ) (changes : List ℤ)
    → IsAdding buys sets k x wanted members rest changes → rest ≡ 0
    → AreChanges buys sets (k + 1) x wanted changes
adding_end buys sets k x wanted members rest changes adding none i wants =
    adding.are i wants ∙ ap (λ (b : Bool). if b then counted_change buys sets k x i
    else counted_change buys sets (k + 1) x i) (ap (λ (y : ℕ). has y i) none ∙ has-zero i)

-- a member of the rest is one of the firm's positions, and its change is by the first k sets alone
pub rest_own : (buys : ℕ) (sets : List LaminarSet) (k x n wanted : ℕ) (set : LaminarSet) (rest j : ℕ)
    (changes : List ℤ) → All (IsOwnSet n) sets → slice_get sets k ≡ Some set
    → IsAdding buys sets k x wanted set.members rest changes → has rest j ≡ true → j < n
rest_own buys sets k x n wanted set rest j changes own is adding member =
    has_below set.members n j (all_at (IsOwnSet n) sets k set own is) (adding.within j member)

pub rest_change : (buys : ℕ) (sets : List LaminarSet) (k x wanted : ℕ) (set : LaminarSet) (rest j : ℕ)
    (changes : List ℤ)
    → IsAdding buys sets k x wanted set.members rest changes → has rest j ≡ true
    → get_or changes j (pos 0) ≡ counted_change buys sets k x j
rest_change buys sets k x wanted set rest j changes adding member =
    adding.are j (adding.asked j member) ∙ ap (λ (b : Bool). if b then counted_change buys sets k x j
    else counted_change buys sets (k + 1) x j) member

-- the code's numbers fit
pub change_small : (buys : ℕ) (sets : List LaminarSet) (k x j : ℕ) → All HasNumbersWithin sets
    → IsAtMost (counted_change buys sets k x j) (2 * (k * most_counted))
change_small buys sets k x j all =
    let first = counted_sum_small buys sets k (toggle x j) all in
    let second = counted_sum_small buys sets k x all in
    record { low = omega (arith, ints, first.low, second.high); high = omega (arith, ints, first.high, second.low) }

-- no set changes nothing
pub changes_none : (buys : ℕ) (sets : List LaminarSet) (x wanted : ℕ) (changes : List ℤ)
    → ((j : ℕ) → has wanted j ≡ true → get_or changes j (pos 0) ≡ pos 0) → AreChanges buys sets 0 x wanted changes
changes_none buys sets x wanted changes zeros j wants =
    let first = counted_sum-none buys sets (toggle x j) in
    let second = counted_sum-none buys sets x in
    let here = zeros j wants in
    omega (arith, ints, first, second, here)

-- ---- the worth

-- the worth of an own bundle is the sum of its amounts and numbers
pub worth_at : (count buys : ℕ) (amounts : List ℤ) (sets : List LaminarSet) (y : ℕ) → y < 2 ^ count
    → both (Some (sum_over (own_number amounts) count y)) (count_sum buys (map term_of sets) y)
    ≡ (laminar_sum count buys amounts sets).worth y
worth_at count buys amounts sets y own =
    sym (ap (λ (b : Bool). if b
    then both (Some (sum_over (own_number amounts) count y)) (count_sum buys (map term_of sets) y)
    else None) (lt-ltb y (2 ^ count) own))

-- so it is by what the numbers count, where one isn't listed and where all are
pub worth_none : (count buys : ℕ) (amounts : List ℤ) (sets : List LaminarSet) (y : ℕ) → y < 2 ^ count
    → All HasNumbersWithin sets → length sets ≤ most_sets
    → listed_sum (counted_sum buys sets (length sets) y) ≡ None → None ≡ (laminar_sum count buys amounts sets).worth y
worth_none count buys amounts sets y own all few none =
    ap (both (Some (sum_over (own_number amounts) count y))) (sym none ∙ listed_sum_is buys sets y all few)
    ∙ worth_at count buys amounts sets y own

worth_some : (count buys : ℕ) (amounts : List ℤ) (sets : List LaminarSet) (y : ℕ) (numbers : ℤ) → y < 2 ^ count
    → All HasNumbersWithin sets → length sets ≤ most_sets
    → listed_sum (counted_sum buys sets (length sets) y) ≡ Some numbers
    → (IsAtMost numbers (most_sets * most_amount))
    × (Some (sum_over (own_number amounts) count y +ℤ numbers) ≡ (laminar_sum count buys amounts sets).worth y)
worth_some count buys amounts sets y numbers own all few some =
    let is : Some numbers ≡ count_sum buys (map term_of sets) y = sym some ∙ listed_sum_is buys sets y all few in (
      numbers_small buys y sets few all numbers (sym is),
      ap (both (Some (sum_over (own_number amounts) count y))) is ∙ worth_at count buys amounts sets y own,
    )

-- ---- the amounts

-- the amount with a position toggled, which is in the range of the code's
pub record IsToggledAmount (count : ℕ) (amounts : List ℤ) (x k : ℕ) (z : ℤ) : Type 0 where
  pub sum : z ≡ sum_over (own_number amounts) count (toggle x k)
  pub small : IsAtMost z (most_own * most_amount)
  pub fits : SFits w128 z

toggled_amount : (count : ℕ) (amounts : List ℤ) (x k : ℕ) (z : ℤ) → count ≤ most_own → length amounts ≡ count
    → All (λ a. IsAtMost a most_amount) amounts → z ≡ sum_over (own_number amounts) count (toggle x k)
    → IsToggledAmount count amounts x k z
toggled_amount count amounts x k z few as_many all is =
    let small : IsAtMost z (most_own * most_amount) =
    subst (λ (sum : ℤ). IsAtMost sum (most_own * most_amount)) (sym is)
    (amounts_small count amounts (toggle x k) few as_many all) in
    let low = small.low in
    let high = small.high in
    record { sum = is; small = small; fits = omega (arith, ints, low, high) }

-- an amount less where the position is moved out, and one more where it is moved in
module _ (count buys : ℕ) (amounts : List ℤ) (sets : List LaminarSet) (masks : List Masks)
    (is : IsLaminar count buys amounts sets masks) (x k : ℕ) (amount own : ℤ) (below : k < count)
    (amount_is : amount ≡ sum_over (own_number amounts) count x) (own_is : own ≡ get_or amounts k own) where
  read : own ≡ own_number amounts k
  read = let many = is.as_many in get_or_read amounts k own (omega (arith, below, many)) own_is (pos 0)

  pub amount_out : has x k ≡ true → IsToggledAmount count amounts x k (amount -ℤ own)
  amount_out present =
      let toggled = sum_over-toggle_out (own_number amounts) count x k below present in
      let own_there = read in
      toggled_amount count amounts x k (amount -ℤ own) is.few is.as_many is.small
      (omega (arith, ints, toggled, amount_is, own_there))

  pub amount_in : has x k ≡ false → IsToggledAmount count amounts x k (amount +ℤ own)
  amount_in absent =
      let toggled = sum_over-toggle_in (own_number amounts) count x k below absent in
      let own_there = read in
      toggled_amount count amounts x k (amount +ℤ own) is.few is.as_many is.small
      (omega (arith, ints, toggled, amount_is, own_there))

-- the numbers' sum with that of the amounts: the worth, in the range of the code's
pub record IsSum (count buys : ℕ) (amounts : List ℤ) (sets : List LaminarSet) (y : ℕ)
    (amount numbers : ℤ) : Type 0 where
  pub number_fits : SFits w128 numbers
  pub fits : SFits w128 (amount +ℤ numbers)
  pub worth : Some (amount +ℤ numbers) ≡ (laminar_sum count buys amounts sets).worth y

pub sum_with : (count buys : ℕ) (amounts : List ℤ) (sets : List LaminarSet) (y : ℕ) (amount numbers : ℤ)
    → y < 2 ^ count → All HasNumbersWithin sets → length sets ≤ most_sets
    → listed_sum (counted_sum buys sets (length sets) y) ≡ Some numbers
    → amount ≡ sum_over (own_number amounts) count y → IsAtMost amount (most_own * most_amount)
    → IsSum count buys amounts sets y amount numbers
sum_with count buys amounts sets y amount numbers own all few some amount_is small =
    let there = worth_some count buys amounts sets y numbers own all few some in
    let number_low = there.0.low in
    let number_high = there.0.high in
    let low = small.low in
    let high = small.high in
    record {
      number_fits = omega (arith, ints, number_low, number_high);
      fits = omega (arith, ints, number_low, number_high, low, high);
      worth = ap (λ (z : ℤ). Some (z +ℤ numbers)) amount_is ∙ there.1;
    }

-- what the numbers count, with a position's change
pub toggled_numbers : (buys : ℕ) (sets : List LaminarSet) (x j : ℕ) (numbers change : ℤ) → All HasNumbersWithin sets
    → length sets ≤ most_sets
    → numbers ≡ counted_sum buys sets (length sets) x → change ≡ counted_change buys sets (length sets) x j
    → (numbers +ℤ change ≡ counted_sum buys sets (length sets) (toggle x j))
    × IsAtMost change (2 * (most_sets * most_counted))
toggled_numbers buys sets x j numbers change all few numbers_are change_is =
    let small = change_small buys sets (length sets) x j all in
    let low = small.low in
    let high = small.high in (
      omega (arith, ints, numbers_are, change_is),
      record {
        low = omega (arith, ints, change_is, low, few);
        high =
            omega (arith, ints, change_is, high, few);
      },
    )
