-- What is said of the value that reading gives.
use Rattle.std.proofs.Common.{◌≡◌, ◌≢◌, ℕ, suc, ◌+◌, ◌≤◌, Bool, true, false, List, Option, Some, None, Result, Ok, Err, refl, ap, subst, arith}
use Rattle.std.specs.Prelude.{ℤ, unsigned_abs, nat_le, nat_eq, not}
use Rattle.std.proofs.lemmas.Int.{ints}
use Rattle.serde_json.specs.Data.{Data, Items, no_items, item}
use Rattle.serde_json.specs.Events.{items_len}
use Rattle.tn_base.specs.Arcs.{IsAtMost}
use Rattle.tn_said.specs.declared.fault.FaultKind.{FaultKind}
use Rattle.tn_said.specs.declared.place.PlaceStep.{PlaceStep}
use Rattle.tn_said.specs.declared.said.Fault.{Fault}
use Rattle.tn_read_shapes.specs.Reading.{◌>>=◌, each, wanted, holds}

pub record Leads {A E : Type 0} (P : A → Type 0) (r : Result A E) : Type 0 where
  pub at : (x : A) → r ≡ Ok x → P x

abbrev give : {A E : Type 0} → A → Result A E
give x = Ok x

ok_is : {A E : Type 0} (x y : A) → give {E = E} x ≡ give y → x ≡ y
ok_is x y e = cc

module _ {E : Type 0} where
  pub leads_ok : {A : Type 0} (P : A → Type 0) (x : A) → P x → Leads {E = E} P (Ok x)
  leads_ok P x p = record { at = λ y e. subst P (ok_is {E = E} x y e) p }

  pub leads_bind : {A B : Type 0} (Q : A → Type 0) (P : B → Type 0) (r : Result A E) (f : A → Result B E) → Leads Q r
      → ((x : A) → Q x → Leads P (f x)) → Leads P (r >>= f)
  leads_bind Q P (Ok x) f first rest = rest x (first.at x refl)
  leads_bind Q P (Err e) f first rest = record { at = λ y is. absurd (cc) }

  -- nothing is said of the value before
  pub leads_after : {A B : Type 0} (P : B → Type 0) (r : Result A E) (f : A → Result B E) → ((x : A) → Leads P (f x))
      → Leads P (r >>= f)
  leads_after P (Ok x) f rest = rest x
  leads_after P (Err e) f rest = record { at = λ y is. absurd (cc) }

  pub leads_each : {A : Type 0} (P : A → Type 0) (step : A → Data → Result A E)
      → ((found : A) (d : Data) → P found → Leads P (step found d)) → (found : A) (ds : Items) → P found
      → Leads P (each step found ds)
  unfolding each
  leads_each P step one found no_items start = leads_ok P found start
  leads_each P step one found (item d ds) start =
      leads_bind P P (step found d) _ (one found d start) (λ next kept. leads_each P step one next ds kept)

pub leads_wanted : {A : Type 0} (kind : FaultKind) (place : List PlaceStep) (found : Option A)
    → Leads (λ x. found ≡ Some x) (wanted kind place found)
leads_wanted kind place (Some x) = record { at = λ y e. ap Some (ok_is {E = Fault} x y e) }
leads_wanted kind place None = record { at = λ y e. absurd (cc) }

pub leads_holds : (kind : FaultKind) (place : List PlaceStep) (test : Bool)
    → Leads (λ _. test ≡ true) (holds kind place test)
leads_holds kind place true = record { at = λ y e. refl }
leads_holds kind place false = record { at = λ y e. absurd (cc) }

pub small_from_test : (z : ℤ) (limit : ℕ) → nat_le (unsigned_abs z) limit ≡ true → IsAtMost z limit
small_from_test z limit e = search (arith, ints, e)

pub le_from_test : (n m : ℕ) → nat_le n m ≡ true → n ≤ m
le_from_test n m e = grind (arith, e)

pub is_true_not : (b : Bool) → not b ≡ true → b ≡ false
is_true_not true e = absurd (cc)
is_true_not false e = refl

pub apart_from_test : (m n : ℕ) → not (nat_eq m n) ≡ true → m ≢ n
apart_from_test m n e same = absurd (grind (arith, same, e))

pub leads_as : {A E : Type 0} (Q P : A → Type 0) (r : Result A E) → ((x : A) → Q x → P x) → Leads Q r → Leads P r
leads_as Q P r turn first = record { at = λ x e. turn x (first.at x e) }

-- how many items there were
pub leads_count : {A E : Type 0} (size : A → ℕ) (step : A → Data → Result A E)
    → ((found : A) (d : Data) → Leads (λ next. size next ≡ size found + 1) (step found d))
    → (found : A) (ds : Items) → Leads (λ end. size end ≡ size found + items_len ds) (each step found ds)
unfolding each
leads_count {A} {E} size step one found no_items = leads_ok (λ end. size end ≡ size found + 0) found (omega arith)
leads_count {A} {E} size step one found (item d ds) =
    leads_bind (λ next. size next ≡ size found + 1) (λ end. size end ≡ size found + suc (items_len ds)) (step found d) _
    (one found d)
    (λ next more. leads_as (λ end. size end ≡ size next + items_len ds) _ _ (λ end e. omega (arith, e, more))
    (leads_count size step one next ds))

-- both are said of the value
pub leads_both : {A E : Type 0} (P Q : A → Type 0) (r : Result A E) → Leads P r → Leads Q r → Leads (λ x. P x × Q x) r
leads_both P Q r p q = record { at = λ x e. (p.at x e, q.at x e) }
