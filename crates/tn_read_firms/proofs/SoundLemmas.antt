-- The checks of a laminar firm's sets against what is said of the sets.
use Rattle.std.proofs.Common.{◌≡◌, ◌≢◌, ℕ, zero, suc, ◌+◌, ◌-◌, ◌<◌, ◌≤◌, Bool, true, false, not, ◌&&◌, add-one, List, [], ◌∷◌, ◌++◌, length, get_or, slice_get, Option, Some, None, is_some, Result, Ok, Err, inl, inr, refl, sym, ap, subst, ◌∙◌, arith, length-append, append_assoc}
use Rattle.std.specs.Prelude.{ℤ, pos, ◌+ℤ◌, ◌*ℤ◌, ◌≤ℤ◌, ◌<ℤ◌, ◌||◌, nat_eq, if◌then◌else◌}
use Rattle.std.specs.List.{list_any}
use Rattle.std.proofs.lemmas.Int.{ints}
use Rattle.std.proofs.lemmas.Bool.{cases_eq, ne_eqb, false≢true, true≢false}
use Rattle.std.proofs.lemmas.Option.{none-some, same_Some, slice_get_within}
use Rattle.tn_base.specs.Sets.{minus}
use Rattle.tn_said.specs.declared.fault.FaultKind.TheVariants.{NoEmpty, NotLaminar}
use Rattle.tn_firm_laws.specs.Nested.{Cross, IsConcaveList, listed_from}
use Rattle.tn_laminar.specs.declared.set.LaminarSet.{LaminarSet}
use Rattle.tn_laminar.specs.declared.refusal.LaminarRefusal.{LaminarRefusal}
use Rattle.tn_laminar.specs.declared.refusal.LaminarRefusal.TheVariants.{NoEmpty as NoEmptyIs, NotConcave as NotConcaveIs, NotLaminar as NotLaminarIs, OutOfMemory as OutOfMemoryIs}
use Rattle.tn_laminar.specs.Faults.{AreSound, CrossesEarlier, IsBend, IsFaultOf, IsFirstBend, IsFirstFault, IsRefusedFor, IsSound}
use Rattle.tn_said.specs.declared.said.Fault.{Fault}
use Rattle.tn_read_shapes.specs.declared.error.ReadError.{ReadError}
use Rattle.tn_read_shapes.specs.declared.error.ReadError.TheVariants.{Fault as FaultIs, OutOfMemory}
use Rattle.tn_read_shapes.specs.Reading.{◌>>=◌, FailsAsRead, holds}
use Rattle.tn_read_firms.specs.Laminars.{IsRefusal, bends, check_set, check_sets, crosses, first_bend, set_place, unless_bent}

-- ---- places at which a list bends

-- the number after place p is below the middle of its neighbours
abbrev bends_after : List ℤ → ℕ → Bool
bends_after numbers p =
    bends (get_or numbers p (pos 0)) (get_or numbers (suc p) (pos 0)) (get_or numbers (suc (suc p)) (pos 0))

no_bend : (k : ℕ) (numbers : List ℤ) → first_bend k numbers ≡ None → (p : ℕ) → p + 2 < length numbers
    → bends_after numbers p ≡ false
no_bend k [] none p h = absurd (omega (arith, h))
no_bend k (a ∷ []) none p h = absurd (omega (arith, h))
no_bend k (a ∷ b ∷ []) none p h = absurd (omega (arith, h))
no_bend k (a ∷ b ∷ c ∷ ns) none p h = by_test (bends a b c) refl none (no_bend (k + 1) (b ∷ c ∷ ns)) p h
  where
    by_test : (t : Bool) → bends a b c ≡ t → (if t then Some (k + 1) else first_bend (k + 1) (b ∷ c ∷ ns)) ≡ None
        → (first_bend (k + 1) (b ∷ c ∷ ns) ≡ None → (p : ℕ) → p + 2 < length (b ∷ c ∷ ns)
        → bends_after (b ∷ c ∷ ns) p ≡ false)
        → (p : ℕ) → p + 2 < length (a ∷ b ∷ c ∷ ns) → bends_after (a ∷ b ∷ c ∷ ns) p ≡ false
    by_test true e none rest p h = absurd (none-some (k + 1) (sym none))
    by_test false e none rest zero h = e
    by_test false e none rest (suc p) h = rest none p (omega (arith, h))

none_bends : (k : ℕ) (numbers : List ℤ) → ((p : ℕ) → p + 2 < length numbers → bends_after numbers p ≡ false)
    → first_bend k numbers ≡ None
none_bends k [] each = refl
none_bends k (a ∷ []) each = refl
none_bends k (a ∷ b ∷ []) each = refl
none_bends k (a ∷ b ∷ c ∷ ns) each = ap (λ t. if t then Some (k + 1)
    else first_bend (k + 1) (b ∷ c ∷ ns)) (each 0 (omega arith))
    ∙ none_bends (k + 1) (b ∷ c ∷ ns) (λ p h. each (suc p) (omega (arith, h)))

first_bends : (k : ℕ) (numbers : List ℤ) (q : ℕ) → q + 2 < length numbers → bends_after numbers q ≡ true
    → ((p : ℕ) → p < q → bends_after numbers p ≡ false) → first_bend k numbers ≡ Some (k + q + 1)
first_bends k [] q h bent first = absurd (omega (arith, h))
first_bends k (a ∷ []) q h bent first = absurd (omega (arith, h))
first_bends k (a ∷ b ∷ []) q h bent first = absurd (omega (arith, h))
first_bends k (a ∷ b ∷ c ∷ ns) zero h bent first = ap (λ t. if t then Some (k + 1)
    else first_bend (k + 1) (b ∷ c ∷ ns)) bent ∙ ap Some (omega arith)
first_bends k (a ∷ b ∷ c ∷ ns) (suc q) h bent first =
    ap (λ t. if t then Some (k + 1) else first_bend (k + 1) (b ∷ c ∷ ns)) (first 0 (omega arith))
    ∙ first_bends (k + 1) (b ∷ c ∷ ns) q (omega (arith, h)) bent (λ p below. first (suc p) (omega (arith, below)))
    ∙ ap Some (omega arith)

bent_below : (a b c : ℤ) → bends a b c ≡ true → (pos 2 *ℤ b) <ℤ (a +ℤ c)
bent_below a b c e = search (arith, ints, e)

below_bent : (a b c : ℤ) → (pos 2 *ℤ b) <ℤ (a +ℤ c) → bends a b c ≡ true
below_bent a b c h = search (arith, ints, h)

straight_from : (a b c : ℤ) → bends a b c ≡ false → (a +ℤ c) ≤ℤ (pos 2 *ℤ b)
straight_from a b c e = search (arith, ints, e)

from_straight : (a b c : ℤ) → (a +ℤ c) ≤ℤ (pos 2 *ℤ b) → bends a b c ≡ false
from_straight a b c h = search (arith, ints, h)

add-two : (n : ℕ) → n + 2 ≡ suc (suc n)
add-two n = omega arith

pub concave_from : (numbers : List ℤ) → first_bend 0 numbers ≡ None → IsConcaveList numbers
concave_from numbers none p h =
    rw (add-one p, add-two p) (straight_from (get_or numbers p (pos 0)) (get_or numbers (suc p) (pos 0))
    (get_or numbers (suc (suc p)) (pos 0)) (no_bend 0 numbers none p h))

pub from_concave : (numbers : List ℤ) → IsConcaveList numbers → first_bend 0 numbers ≡ None
from_concave numbers concave =
    none_bends 0 numbers (λ p h. from_straight (get_or numbers p (pos 0)) (get_or numbers (suc p) (pos 0))
    (get_or numbers (suc (suc p)) (pos 0)) (rw (add-one p, add-two p) at (concave p h)))

-- the number at place p is below the middle of its neighbours
bend_at : (numbers : List ℤ) (p : ℕ) → suc p + 1 < length numbers → bends_after numbers p ≡ true
    → IsBend numbers (suc p)
bend_at numbers p h e = record {
  after_first = omega arith;
  before_last = h;
  below = subst (λ (before : ℕ). (pos 2 *ℤ get_or numbers (suc p) (pos 0))
      <ℤ (get_or numbers before (pos 0) +ℤ get_or numbers (suc p + 1) (pos 0))) (one_before p)
      (subst (λ (after : ℕ). (pos 2 *ℤ get_or numbers (suc p) (pos 0))
      <ℤ (get_or numbers p (pos 0) +ℤ get_or numbers after (pos 0))) (one_after p)
      (bent_below (get_or numbers p (pos 0)) (get_or numbers (suc p) (pos 0)) (get_or numbers (suc (suc p)) (pos 0))
      e));
}
  where
    one_before : (p : ℕ) → p ≡ suc p - 1
    one_before p = omega arith

    one_after : (p : ℕ) → suc (suc p) ≡ suc p + 1
    one_after p = omega arith

bend_after : (numbers : List ℤ) (p : ℕ) → IsBend numbers (suc p) → bends_after numbers p ≡ true
bend_after numbers p is =
    below_bent (get_or numbers p (pos 0)) (get_or numbers (suc p) (pos 0)) (get_or numbers (suc (suc p)) (pos 0))
    (subst (λ (after : ℕ). (pos 2 *ℤ get_or numbers (suc p) (pos 0))
    <ℤ (get_or numbers p (pos 0) +ℤ get_or numbers after (pos 0))) (one_after p)
    (subst (λ (before : ℕ). (pos 2 *ℤ get_or numbers (suc p) (pos 0))
    <ℤ (get_or numbers before (pos 0) +ℤ get_or numbers (suc p + 1) (pos 0))) (one_before p) is.below))
  where
    one_before : (p : ℕ) → suc p - 1 ≡ p
    one_before p = omega arith

    one_after : (p : ℕ) → suc p + 1 ≡ suc (suc p)
    one_after p = omega arith

pub from_first_bend : (numbers : List ℤ) (place : ℕ) → IsFirstBend numbers place → first_bend 0 numbers ≡ Some place
from_first_bend numbers zero is = absurd (let h = is.bend.after_first in omega (arith, h))
from_first_bend numbers (suc q) is =
    let inside = is.bend.before_last in
    first_bends 0 numbers q (omega (arith, inside)) (bend_after numbers q is.bend)
    (λ p h. by_test p h (bends_after numbers p) refl) ∙ ap Some (omega arith)
  where
    by_test : (p : ℕ) → p < q → (t : Bool) → bends_after numbers p ≡ t → t ≡ false
    by_test p h false e = refl
    by_test p h true e =
        absurd (is.first (suc p) (omega (arith, h)) (bend_at numbers p (let inside = is.bend.before_last in
        omega (arith, h, inside)) e))

-- ---- sets that cross

and_parts : (a b c : Bool) → (a && b && c) ≡ true → (a ≡ true) × (b ≡ true) × (c ≡ true)
and_parts true true true e = (refl, refl, refl)
and_parts true true false e = absurd (false≢true e)
and_parts true false c e = absurd (false≢true e)
and_parts false b c e = absurd (false≢true e)

differs : (n : ℕ) → not (nat_eq n 0) ≡ true → n ≢ 0
differs n e same = absurd (grind (arith, same, e))

is_other : (n : ℕ) → n ≢ 0 → not (nat_eq n 0) ≡ true
is_other n differ = ap not (ne_eqb n 0 differ)

cross_from : (set other : LaminarSet) → crosses set other ≡ true → Cross other.members set.members
cross_from set other e =
    let parts = and_parts _ _ _ e in
    (differs _ parts.0, differs _ parts.1, differs _ parts.2)

from_cross : (set other : LaminarSet) → Cross other.members set.members → crosses set other ≡ true
from_cross set other cross =
    ap (λ b. b && not (nat_eq (minus other.members set.members) 0) && not (nat_eq (minus set.members other.members) 0))
    (is_other _ cross.0)
    ∙ ap (λ b. b && not (nat_eq (minus set.members other.members) 0)) (is_other _ cross.1)
    ∙ is_other _ cross.2

abbrev FoundIn : LaminarSet → List LaminarSet → Type 0
FoundIn set earlier = (at : ℕ) × (other : LaminarSet) × (slice_get earlier at ≡ Some other) × (crosses set other ≡ true)

found_in : (set : LaminarSet) (earlier : List LaminarSet) → list_any (crosses set) earlier ≡ true → FoundIn set earlier
found_in set [] e = absurd (false≢true e)
found_in set (first ∷ earlier) e = by_test (crosses set first) refl e (found_in set earlier)
  where
    by_test : (t : Bool) → crosses set first ≡ t → (t || list_any (crosses set) earlier) ≡ true
        → (list_any (crosses set) earlier ≡ true → FoundIn set earlier) → FoundIn set (first ∷ earlier)
    by_test true is e rest = (0, first, refl, is)
    by_test false is e rest = let found = rest e in (suc found.0, found.1, found.2, found.3)

in_found : (set other : LaminarSet) (earlier : List LaminarSet) (at : ℕ) → slice_get earlier at ≡ Some other
    → crosses set other ≡ true → list_any (crosses set) earlier ≡ true
in_found set other [] at is cross = absurd (none-some other is)
in_found set other (first ∷ earlier) zero is cross =
    ap (λ b. b || list_any (crosses set) earlier) (ap (crosses set) (same_Some first other is) ∙ cross)
in_found set other (first ∷ earlier) (suc at) is cross =
    ap (λ b. crosses set first || b) (in_found set other earlier at is cross) ∙ or-true (crosses set first)
  where
    or-true : (b : Bool) → (b || true) ≡ true
    or-true true = refl
    or-true false = refl

-- ---- one set after earlier ones

get-earlier : (earlier sets : List LaminarSet) (at : ℕ) → at < length earlier
    → slice_get (earlier ++ sets) at ≡ slice_get earlier at
get-earlier [] sets at h = absurd (omega (arith, h))
get-earlier (first ∷ earlier) sets zero h = refl
get-earlier (first ∷ earlier) sets (suc at) h = get-earlier earlier sets at (omega (arith, h))

get-next : (earlier sets : List LaminarSet) (set : LaminarSet)
    → slice_get (earlier ++ set ∷ sets) (length earlier) ≡ Some set
get-next [] sets set = refl
get-next (first ∷ earlier) sets set = get-next earlier sets set

module _ (earlier sets : List LaminarSet) (set : LaminarSet) where
  crossing_from : list_any (crosses set) earlier ≡ true → CrossesEarlier (earlier ++ set ∷ sets) (length earlier)
  crossing_from e =
      let found = found_in set earlier e in
      let before = slice_get_within earlier found.0 found.1 found.2 in
      record {
        at = found.0;
        earlier = found.1;
        set = set;
        before = before;
        earlier_is = get-earlier earlier (set ∷ sets) found.0 before ∙ found.2;
        set_is = get-next earlier sets set;
        cross = cross_from set found.1 found.3;
      }

  from_crossing : CrossesEarlier (earlier ++ set ∷ sets) (length earlier) → list_any (crosses set) earlier ≡ true
  from_crossing is =
      let same : is.set ≡ set = same_Some is.set set (sym is.set_is ∙ get-next earlier sets set) in
      in_found set is.earlier earlier is.at (sym (get-earlier earlier (set ∷ sets) is.at is.before) ∙ is.earlier_is)
      (from_cross set is.earlier (subst (λ (s : LaminarSet). Cross is.earlier.members s.members) same is.cross))

  uncrossed_test : (CrossesEarlier (earlier ++ set ∷ sets) (length earlier) → ⊥)
      → list_any (crosses set) earlier ≡ false
  uncrossed_test none = by_test (list_any (crosses set) earlier) refl
    where
      by_test : (t : Bool) → list_any (crosses set) earlier ≡ t → t ≡ false
      by_test false e = refl
      by_test true e = absurd (none (crossing_from e))

  -- a set that passes
  pub check_set-sound : (f : ℕ) → IsSound (earlier ++ set ∷ sets) (length earlier) set → check_set f earlier set ≡ Ok tt
  unfolding check_set
  check_set-sound f sound =
      rw (sound.empty, from_concave set.numbers sound.concave, uncrossed_test sound.uncrossed) refl

  -- what passing says
  pub sound_from : (f : ℕ) → check_set f earlier set ≡ Ok tt → IsSound (earlier ++ set ∷ sets) (length earlier) set
  unfolding check_set
  sound_from f e =
      by_tests (is_some (listed_from set.low set.numbers (pos 0))) (first_bend 0 set.numbers)
      (list_any (crosses set) earlier) refl refl refl e
    where
      by_tests : (empty : Bool) (bend : Option ℕ) (crossing : Bool)
          → is_some (listed_from set.low set.numbers (pos 0)) ≡ empty → first_bend 0 set.numbers ≡ bend
          → list_any (crosses set) earlier ≡ crossing
          → (holds NoEmpty (set_place f (length earlier)) empty >>= λ u. unless_bent f (length earlier) bend >>= λ v.
          holds NotLaminar (set_place f (length earlier)) (not crossing)) ≡ Ok tt
          → IsSound (earlier ++ set ∷ sets) (length earlier) set
      by_tests false bend crossing empty_is bend_is crossing_is e = absurd (cc)
      by_tests true (Some place) crossing empty_is bend_is crossing_is e = absurd (cc)
      by_tests true None true empty_is bend_is crossing_is e = absurd (cc)
      by_tests true None false empty_is bend_is crossing_is e = record {
        empty = empty_is;
        concave = concave_from set.numbers bend_is;
        uncrossed = λ is. true≢false (sym (from_crossing is) ∙ crossing_is);
      }

  -- a set that is refused
  pub check_set-fails : (f : ℕ) (refusal : LaminarRefusal) (error : ReadError)
      → IsFaultOf (earlier ++ set ∷ sets) (length earlier) set refusal → IsRefusal f refusal error
      → FailsAsRead error (check_set f earlier set)
  unfolding check_set
  check_set-fails f (NoEmptyIs s) OutOfMemory fault refusal = tt
  check_set-fails f (NotConcaveIs s place) OutOfMemory fault refusal = tt
  check_set-fails f (NotLaminarIs s) OutOfMemory fault refusal = tt
  check_set-fails f OutOfMemoryIs error fault refusal = absurd fault
  check_set-fails f (NoEmptyIs s) (FaultIs shown) fault refusal = rw (refusal, fault.0, fault.1) refl
  check_set-fails f (NotConcaveIs s place) (FaultIs shown) fault refusal =
      rw (refusal, fault.0, fault.1, from_first_bend set.numbers place fault.2) refl
  check_set-fails f (NotLaminarIs s) (FaultIs shown) fault refusal =
      rw (refusal, fault.0, fault.1, from_concave set.numbers fault.2, from_crossing fault.3) refl

-- ---- all sets

module _ (f : ℕ) where
  sound_after : (earlier sets : List LaminarSet) → ((k : ℕ) (set : LaminarSet) → length earlier ≤ k
      → slice_get (earlier ++ sets) k ≡ Some set → IsSound (earlier ++ sets) k set) → check_sets f earlier sets ≡ Ok tt
  sound_after earlier [] each = refl
  sound_after earlier (set ∷ sets) each =
      let whole : (earlier ++ set ∷ []) ++ sets ≡ earlier ++ set ∷ sets = append_assoc earlier (set ∷ []) sets in
      let more : length (earlier ++ set ∷ []) ≡ length earlier + 1 = length-append earlier (set ∷ []) in
      ap (λ r. r >>= λ met. check_sets f (earlier ++ set ∷ []) sets)
      (check_set-sound earlier sets set f (each (length earlier) set (omega arith) (get-next earlier sets set)))
      ∙ sound_after (earlier ++ set ∷ []) sets (λ k other after is.
      (subst (λ (all : List LaminarSet). IsSound all k other) (sym whole)
      (each k other (omega (arith, after, more)) (subst (λ (all : List LaminarSet). slice_get all k ≡ Some other) whole
      is))))

  pub check_sets-sound : (sets : List LaminarSet) → AreSound sets → check_sets f [] sets ≡ Ok tt
  check_sets-sound sets sound = sound_after [] sets (λ k set after is. sound k set is)

  sound_rest : (earlier sets : List LaminarSet) → check_sets f earlier sets ≡ Ok tt → (k : ℕ) (set : LaminarSet)
      → length earlier ≤ k → slice_get (earlier ++ sets) k ≡ Some set → IsSound (earlier ++ sets) k set
  sound_rest earlier [] e k other after is =
      absurd (omega (arith, after, slice_get_within (earlier ++ []) k other is, length-append earlier []))
  sound_rest earlier (set ∷ sets) e k other after is =
      let whole : (earlier ++ set ∷ []) ++ sets ≡ earlier ++ set ∷ sets = append_assoc earlier (set ∷ []) sets in
      let more : length (earlier ++ set ∷ []) ≡ length earlier + 1 = length-append earlier (set ∷ []) in
      let parts = both_ok (check_set f earlier set) (check_sets f (earlier ++ set ∷ []) sets) e in
      elim (cases_eq (length earlier) k) [
        | inl same ↦
            let set_is : set ≡ other =
            same_Some set other (sym (get-next earlier sets set) ∙ ap (slice_get (earlier ++ set ∷ sets)) same ∙ is)
            in
            subst (λ (n : ℕ). IsSound (earlier ++ set ∷ sets) n other) same
            (subst (λ (s : LaminarSet). IsSound (earlier ++ set ∷ sets) (length earlier) s) set_is
            (sound_from earlier sets set f parts.0))
        | inr differ ↦ subst (λ (all : List LaminarSet). IsSound all k other) whole
            (sound_rest (earlier ++ set ∷ []) sets parts.1 k other (omega (arith, after, more, differ))
            (subst (λ (all : List LaminarSet). slice_get all k ≡ Some other) (sym whole) is))
      ]
    where
      both_ok : (r s : Result (Unit {0}) Fault) → (r >>= λ met. s) ≡ Ok tt → (r ≡ Ok tt) × (s ≡ Ok tt)
      both_ok (Ok tt) s e = (refl, e)
      both_ok (Err stop) s e = absurd (cc)

  pub sound_sets : (sets : List LaminarSet) → check_sets f [] sets ≡ Ok tt → AreSound sets
  sound_sets sets e k set is = sound_rest [] sets e k set (omega arith) is

  -- sets that are refused
  fails_after : (refusal : LaminarRefusal) (error : ReadError) → IsRefusal f refusal error
      → (earlier sets : List LaminarSet) (first : IsFirstFault (earlier ++ sets) refusal) → length earlier ≤ first.at
      → FailsAsRead error (check_sets f earlier sets)
  fails_after refusal error told earlier [] first after =
      absurd (omega (
        arith,
        after,
        slice_get_within (earlier ++ []) first.at first.set first.set_is,
        length-append earlier [],
      ))
  fails_after refusal error told earlier (set ∷ sets) first after = elim (cases_eq (length earlier) first.at) [
    | inl same ↦
        let set_is : first.set ≡ set =
        same_Some first.set set (sym first.set_is ∙ ap (slice_get (earlier ++ set ∷ sets)) (sym same)
        ∙ get-next earlier sets set) in
        stops error (check_set f earlier set) (check_sets f (earlier ++ set ∷ []) sets)
        (check_set-fails earlier sets set f refusal error (subst
        (λ (s : LaminarSet). IsFaultOf (earlier ++ set ∷ sets) (length earlier) s refusal) set_is
        (subst (λ (n : ℕ). IsFaultOf (earlier ++ set ∷ sets) n first.set refusal) (sym same) first.fault)) told)
    | inr differ ↦
        let more : length (earlier ++ set ∷ []) ≡ length earlier + 1 = length-append earlier (set ∷ []) in
        let whole : earlier ++ set ∷ sets ≡ (earlier ++ set ∷ []) ++ sets = sym (append_assoc earlier (set ∷ []) sets)
        in
        let passed =
        check_set-sound earlier sets set f (first.before (length earlier) set (omega (arith, after, differ))
        (get-next earlier sets set)) in
        subst (FailsAsRead error) (sym (ap (λ r. r >>= λ met. check_sets f (earlier ++ set ∷ []) sets) passed))
        (fails_after refusal error told (earlier ++ set ∷ []) sets (moved whole first)
        (omega (arith, after, differ, more)))
  ]
    where
      stops : (error : ReadError) (r s : Result (Unit {0}) Fault) → FailsAsRead error r → FailsAsRead error (r >>= λ met. s)
      stops OutOfMemory r s h = tt
      stops (FaultIs shown) r s h = ap (λ r. r >>= λ met. s) h

      moved : {one other : List LaminarSet} → one ≡ other → IsFirstFault one refusal → IsFirstFault other refusal
      moved same first = record {
        at = first.at;
        set = first.set;
        set_is = subst (λ (all : List LaminarSet). slice_get all first.at ≡ Some first.set) same first.set_is;
        fault = subst (λ (all : List LaminarSet). IsFaultOf all first.at first.set refusal) same first.fault;
        before = λ j set below is. (subst (λ (all : List LaminarSet). IsSound all j set) same
            (first.before j set below (subst (λ (all : List LaminarSet). slice_get all j ≡ Some set) (sym same) is)));
      }

  pub check_sets-fails : (sets : List LaminarSet) (refusal : LaminarRefusal) (error : ReadError)
      → IsRefusedFor sets refusal → IsRefusal f refusal error → FailsAsRead error (check_sets f [] sets)
  check_sets-fails sets (NoEmptyIs s) error first told =
      fails_after (NoEmptyIs s) error told [] sets first (omega arith)
  check_sets-fails sets (NotConcaveIs s place) error first told =
      fails_after (NotConcaveIs s place) error told [] sets first (omega arith)
  check_sets-fails sets (NotLaminarIs s) error first told =
      fails_after (NotLaminarIs s) error told [] sets first (omega arith)
  check_sets-fails sets OutOfMemoryIs OutOfMemory first told = tt
  check_sets-fails sets OutOfMemoryIs (FaultIs shown) first told = absurd (cc)
