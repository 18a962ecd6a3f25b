-- Readings that meet: both give values that fit, or the same fault, unless one of them stops at a limit.
use Rattle.std.proofs.Common.{◌≡◌, ℕ, ◌⊎◌, inl, inr, Bool, true, false, List, Result, Ok, Err, refl, ap, subst}
use Rattle.std.specs.Prelude.{nat_le, unsigned_abs, Option, int_le, pos, ◌&&◌}
use Rattle.serde_json.specs.Data.{Data, Items, no_items, item}
use Rattle.serde_json.specs.Events.{items_len}
use Rattle.tn_said.specs.declared.fault.FaultKind.{FaultKind}
use Rattle.tn_said.specs.declared.fault.FaultKind.TheVariants.{AmountRange, BadOver, Limit}
use Rattle.tn_said.specs.declared.place.PlaceStep.{PlaceStep}
use Rattle.tn_said.specs.declared.said.Fault.{Fault}
use Rattle.tn_names.specs.Names.{NameLists}
use Rattle.tn_read_head.specs.Beside.{Stop, with_names}
use Rattle.tn_read_shapes.specs.Reading.{◌>>=◌, each, holds}
use Rattle.tn_read_shapes.specs.Shapes.{few_at, list_at, number_in, whole_at}
use Rattle.tn_read_parts.specs.Signed.{over_at}
use Rattle.tn_format_laws.specs.Versions.{IsOfLimit}

-- ---- over any faults, of which some are of limits

module _ {E : Type 0} (OfLimit : E → Type 0) where
  abbrev pub AreMet : {A B : Type 0} → (A → B → Type 0) → Result A E → Result B E → Type 0
  AreMet Fit (Ok x) (Ok y) = Fit x y
  AreMet Fit (Ok x) (Err e) = OfLimit e
  AreMet Fit (Err e) (Ok y) = OfLimit e
  AreMet Fit (Err e) (Err d) = (e ≡ d) ⊎ OfLimit e ⊎ OfLimit d

pub record Meet {E : Type 0} (OfLimit : E → Type 0) {A B : Type 0} (Fit : A → B → Type 0) (r : Result A E)
    (s : Result B E) : Type 0 where
  pub at : AreMet OfLimit Fit r s

module _ {E : Type 0} (OfLimit : E → Type 0) where
  pub meet_ok : {A B : Type 0} (Fit : A → B → Type 0) (x : A) (y : B) → Fit x y → Meet OfLimit Fit (Ok x) (Ok y)
  meet_ok Fit x y fit = record { at = fit }

  pub meet_same : {A : Type 0} (r : Result A E) → Meet OfLimit (λ x y. x ≡ y) r r
  meet_same (Ok x) = record { at = refl }
  meet_same (Err e) = record { at = inl refl }

  pub meet_equal : {A : Type 0} (r s : Result A E) → r ≡ s → Meet OfLimit (λ x y. x ≡ y) r s
  meet_equal r s e = subst (λ t. Meet OfLimit (λ x y. x ≡ y) r t) e (meet_same r)

  stops_left : {A B : Type 0} (Fit : A → B → Type 0) (e : E) (s : Result B E) → OfLimit e
      → Meet OfLimit Fit (Err e) s
  stops_left Fit e (Ok y) stops = record { at = stops }
  stops_left Fit e (Err d) stops = record { at = inr (inl stops) }

  stops_right : {A B : Type 0} (Fit : A → B → Type 0) (r : Result A E) (e : E) → OfLimit e
      → Meet OfLimit Fit r (Err e)
  stops_right Fit (Ok x) e stops = record { at = stops }
  stops_right Fit (Err d) e stops = record { at = inr (inr stops) }

  pub meet_bind : {A B C D : Type 0} (Fit : A → B → Type 0) (Then : C → D → Type 0) (r : Result A E)
      (s : Result B E) (f : A → Result C E) (g : B → Result D E) → Meet OfLimit Fit r s
      → ((x : A) (y : B) → Fit x y → Meet OfLimit Then (f x) (g y)) → Meet OfLimit Then (r >>= f) (s >>= g)
  meet_bind Fit Then (Ok x) (Ok y) f g first rest = rest x y first.at
  meet_bind Fit Then (Ok x) (Err e) f g first rest = stops_right Then (f x) e first.at
  meet_bind Fit Then (Err e) (Ok y) f g first rest = stops_left Then e (g y) first.at
  meet_bind Fit Then (Err e) (Err d) f g first rest = record { at = first.at }

  -- both go on with the same value
  pub meet_next : {A C D : Type 0} (Then : C → D → Type 0) (r s : Result A E) (f : A → Result C E)
      (g : A → Result D E) → Meet OfLimit (λ x y. x ≡ y) r s → ((x : A) → Meet OfLimit Then (f x) (g x))
      → Meet OfLimit Then (r >>= f) (s >>= g)
  meet_next Then r s f g first rest =
      meet_bind (λ x y. x ≡ y) Then r s f g first (λ x y e. subst (λ z. Meet OfLimit Then (f x) (g z)) e (rest x))

  pub meet_each : {A : Type 0} (step other : A → Data → Result A E)
      → ((found : A) (d : Data) → Meet OfLimit (λ x y. x ≡ y) (step found d) (other found d)) → (found : A) (ds : Items)
      → Meet OfLimit (λ x y. x ≡ y) (each step found ds) (each other found ds)
  unfolding each
  meet_each step other one found no_items = meet_same (Ok found)
  meet_each step other one found (item d ds) =
      meet_next (λ x y. x ≡ y) (step found d) (other found d) _ _ (one found d)
      (λ next. meet_each step other one next ds)

-- ---- readers of a document

abbrev pub OfLimit : Fault → Type 0
OfLimit fault = IsOfLimit fault.kind

abbrev pub StopOfLimit : Stop → Type 0
StopOfLimit stop = IsOfLimit stop.fault.kind

-- readers give the same, unless one of them stops at a limit
abbrev pub Agree : {A : Type 0} → Result A Fault → Result A Fault → Type 0
Agree r s = Meet OfLimit (λ x y. x ≡ y) r s

pub same : {A : Type 0} (r : Result A Fault) → Agree r r
same r = meet_same OfLimit r

pub equal : {A : Type 0} (r s : Result A Fault) → r ≡ s → Agree r s
equal r s e = meet_equal OfLimit r s e

pub next : {A C : Type 0} (r s : Result A Fault) (f g : A → Result C Fault) → Agree r s
    → ((x : A) → Agree (f x) (g x)) → Agree (r >>= f) (s >>= g)
next r s f g first rest = meet_next OfLimit (λ x y. x ≡ y) r s f g first rest

-- after a reading that asks for no limit
pub after : {A C : Type 0} (r : Result A Fault) (f g : A → Result C Fault) → ((x : A) → Agree (f x) (g x))
    → Agree (r >>= f) (r >>= g)
after r f g rest = next r r f g (same r) rest

pub all : {A : Type 0} (step other : A → Data → Result A Fault)
    → ((found : A) (d : Data) → Agree (step found d) (other found d)) → (found : A) (ds : Items)
    → Agree (each step found ds) (each other found ds)
all step other one found ds = meet_each OfLimit step other one found ds

-- ---- limits

limit_agrees : (kind : FaultKind) → IsOfLimit kind → (place : List PlaceStep) (test other : Bool)
    → Agree (holds kind place test) (holds kind place other)
limit_agrees kind limit place true true = same _
limit_agrees kind limit place true false = record { at = limit }
limit_agrees kind limit place false true = record { at = limit }
limit_agrees kind limit place false false = same _

pub count_agrees : (place : List PlaceStep) (test other : Bool)
    → Agree (holds Limit place test) (holds Limit place other)
count_agrees place test other = limit_agrees Limit (inl refl) place test other

pub range_agrees : (place : List PlaceStep) (test other : Bool)
    → Agree (holds AmountRange place test) (holds AmountRange place other)
range_agrees place test other = limit_agrees AmountRange (inr (inl refl)) place test other

pub few_agree : (m n : ℕ) (place : List PlaceStep) (value other : Option Data) → value ≡ other
    → Agree (few_at m place value) (few_at n place other)
unfolding few_at
few_agree m n place value other one =
    next _ _ _ _ (equal (list_at place value) (list_at place other) (ap (list_at place) one)) (λ items.
    next _ _ _ _ (count_agrees place (nat_le (items_len items) m) (nat_le (items_len items) n)) (λ few. same _))

pub number_agrees : (m n : ℕ) (place : List PlaceStep) (value : Option Data)
    → Agree (number_in m place value) (number_in n place value)
unfolding number_in
number_agrees m n place value =
    after (whole_at place value) _ _ (λ z.
    next _ _ _ _ (range_agrees place (nat_le (unsigned_abs z) m) (nat_le (unsigned_abs z) n)) (λ small. same _))

pub over_agrees : (m n : ℕ) (place : List PlaceStep) (value : Option Data)
    → Agree (over_at m place value) (over_at n place value)
unfolding over_at
over_agrees m n place value =
    after (whole_at place value) _ _ (λ over.
    next _ _ _ _ (limit_agrees BadOver (inr (inr refl)) place (int_le (pos 1) over && int_le over (pos m))
    (int_le (pos 1) over && int_le over (pos n))) (λ within. same _))

-- ---- with the names beside a fault

pub beside : {A : Type 0} (names : NameLists) (r s : Result A Fault) → Agree r s
    → Meet StopOfLimit (λ x y. x ≡ y) (with_names names r) (with_names names s)
beside names (Ok x) (Ok y) first = record { at = first.at }
beside names (Ok x) (Err e) first = record { at = first.at }
beside names (Err e) (Ok y) first = record { at = first.at }
beside names (Err e) (Err d) first = record { at = stopped names e d first.at }
  where
    stopped : (names : NameLists) (e d : Fault) → (e ≡ d) ⊎ OfLimit e ⊎ OfLimit d
        → AreMet StopOfLimit {A = Unit {0}} {B = Unit {0}} (λ x y. x ≡ y)
        (Err (record { fault = e; names = names })) (Err (record { fault = d; names = names }))
    stopped names e d (inl one) = inl (cc)
    stopped names e d (inr (inl left)) = inr (inl left)
    stopped names e d (inr (inr right)) = inr (inr right)
