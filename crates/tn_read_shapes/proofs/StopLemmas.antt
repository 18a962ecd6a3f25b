-- What is said of the fault, or of the stop, at which reading ends.
use Rattle.std.proofs.Common.{◌≡◌, ℕ, ◌+◌, ◌≤◌, Bool, true, false, List, [], ◌∷◌, ◌++◌, Option, Some, None, Result, Ok, Err, refl, subst, arith}
use Rattle.serde_json.specs.Data.{Data, Items, no_items, item}
use Rattle.serde_json.specs.Events.{items_len}
use Rattle.tn_said.specs.declared.fault.FaultKind.{FaultKind}
use Rattle.tn_said.specs.declared.fault.FaultKind.TheVariants.{NotJson, TooLong, Shape, BadName, SameName, UnknownFirm, SelfTrade, UnknownTrade, Limit, AmountRange, NotOwnTrade, SameBundle, NoEmpty, NotLaminar, NotConcave, ExchangeFails, SameTrade, PriceMissing, BadOver, SamePair}
use Rattle.tn_said.specs.declared.place.PlaceStep.{PlaceStep}
use Rattle.tn_said.specs.declared.place.PlaceStep.TheVariants.{Key, Index, Trade}
use Rattle.tn_said.specs.declared.said.Fault.{Fault}
use Rattle.tn_read_shapes.specs.Reading.{◌>>=◌, fault, each, wanted, holds}
use Rattle.tn_read_shapes.proofs.LeadLemmas.{Leads}

-- reading ends with no error, or with one of which this is said
pub record Stops {A E : Type 0} (Q : E → Type 0) (r : Result A E) : Type 0 where
  pub at : (e : E) → r ≡ Err e → Q e

abbrev stop : {A E : Type 0} → E → Result A E
stop e = Err e

err_is : {A E : Type 0} (d e : E) → stop {A = A} d ≡ stop e → d ≡ e
err_is d e same = cc

module _ {E : Type 0} (Q : E → Type 0) where
  pub stops_ok : {A : Type 0} (x : A) → Stops Q (Ok x)
  stops_ok x = record { at = λ e is. absurd (cc) }

  pub stops_err : {A : Type 0} (d : E) → Q d → Stops {A = A} Q (Err d)
  stops_err {A} d q = record { at = λ e is. subst Q (err_is {A = A} d e is) q }

  pub stops_bind : {A B : Type 0} (r : Result A E) (f : A → Result B E) → Stops Q r → ((x : A) → Stops Q (f x))
      → Stops Q (r >>= f)
  stops_bind (Ok x) f first rest = rest x
  stops_bind {A} {B} (Err d) f first rest = stops_err d (first.at d refl)

  -- what is said of the value holds of what is read after it
  pub stops_after : {A B : Type 0} (P : A → Type 0) (r : Result A E) (f : A → Result B E) → Leads P r → Stops Q r
      → ((x : A) → P x → Stops Q (f x)) → Stops Q (r >>= f)
  stops_after P (Ok x) f lead first rest = rest x (lead.at x refl)
  stops_after P (Err d) f lead first rest = stops_err d (first.at d refl)

  -- what each step keeps holds before each
  pub stops_each : {A : Type 0} (P : A → Type 0) (step : A → Data → Result A E)
      → ((found : A) (d : Data) → P found → Leads P (step found d))
      → ((found : A) (d : Data) → P found → Stops Q (step found d))
      → (found : A) (ds : Items) → P found → Stops Q (each step found ds)
  unfolding each
  stops_each P step lead one found no_items start = stops_ok found
  stops_each P step lead one found (item d ds) start =
      stops_after P (step found d) _ (lead found d start) (one found d start)
      (λ next kept. stops_each P step lead one next ds kept)

  -- each step adds one, and so no more are there before a step than items
  pub stops_each_few : {A : Type 0} (P : A → Type 0) (size : A → ℕ) (most : ℕ) (step : A → Data → Result A E)
      → ((found : A) (d : Data) → P found → Leads (λ next. P next × (size next ≡ size found + 1)) (step found d))
      → ((found : A) (d : Data) → P found → size found + 1 ≤ most → Stops Q (step found d))
      → (found : A) (ds : Items) → P found → size found + items_len ds ≤ most → Stops Q (each step found ds)
  unfolding each
  stops_each_few P size most step lead one found no_items start few = stops_ok found
  stops_each_few P size most step lead one found (item d ds) start few =
      stops_after (λ next. P next × (size next ≡ size found + 1)) (step found d) _ (lead found d start)
      (one found d start (omega (arith, few)))
      (λ next kept. stops_each_few P size most step lead one next ds kept.0 (let more = kept.1 in
      omega (arith, few, more)))

-- less may be said of the error
pub stops_as : {A E : Type 0} (Q R : E → Type 0) (r : Result A E) → ((e : E) → Q e → R e) → Stops Q r → Stops R r
stops_as Q R r turn first = record { at = λ e is. turn e (first.at e is) }

-- whether a kind is neither that the input is too long, which no reading of it says, nor that exchange fails, beside
-- which a triple is shown
abbrev pub is_plain_kind : FaultKind → Bool
is_plain_kind NotJson = true
is_plain_kind TooLong = false
is_plain_kind Shape = true
is_plain_kind BadName = true
is_plain_kind SameName = true
is_plain_kind UnknownFirm = true
is_plain_kind SelfTrade = true
is_plain_kind UnknownTrade = true
is_plain_kind Limit = true
is_plain_kind AmountRange = true
is_plain_kind NotOwnTrade = true
is_plain_kind SameBundle = true
is_plain_kind NoEmpty = true
is_plain_kind NotLaminar = true
is_plain_kind NotConcave = true
is_plain_kind ExchangeFails = false
is_plain_kind SameTrade = true
is_plain_kind PriceMissing = true
is_plain_kind BadOver = true
is_plain_kind SamePair = true

-- a step to a member, or to one of the first items of a list
abbrev pub IsPlainStep : PlaceStep → Type 0
IsPlainStep (Key word) = Unit {0}
IsPlainStep (Index k) = k ≤ 16384
IsPlainStep (Trade t) = ⊥

-- a place of such steps alone
abbrev pub IsPlainPlace : List PlaceStep → Type 0
IsPlainPlace [] = Unit {0}
IsPlainPlace (step ∷ place) = IsPlainStep step × IsPlainPlace place

-- a fault at such a place that shows no triple
pub record IsPlain (fault : Fault) : Type 0 where
  pub other : is_plain_kind fault.kind ≡ true
  pub place : IsPlainPlace fault.place
  pub none : fault.shown ≡ None

-- reading stops with plain faults alone
abbrev pub StopsPlainly : {A : Type 0} → Result A Fault → Type 0
StopsPlainly r = Stops IsPlain r

pub plain_fault : (kind : FaultKind) (place : List PlaceStep) → is_plain_kind kind ≡ true → IsPlainPlace place
    → IsPlain (fault kind place)
plain_fault kind place other plain = record { other = other; place = plain; none = refl }

pub plain_wanted : {A : Type 0} (kind : FaultKind) (place : List PlaceStep) (found : Option A)
    → is_plain_kind kind ≡ true → IsPlainPlace place → StopsPlainly (wanted kind place found)
plain_wanted kind place (Some x) other plain = stops_ok IsPlain x
plain_wanted kind place None other plain = stops_err IsPlain (fault kind place) (plain_fault kind place other plain)

pub plain_holds : (kind : FaultKind) (place : List PlaceStep) (test : Bool) → is_plain_kind kind ≡ true
    → IsPlainPlace place → StopsPlainly (holds kind place test)
plain_holds kind place true other plain = stops_ok IsPlain tt
plain_holds kind place false other plain = stops_err IsPlain (fault kind place) (plain_fault kind place other plain)

-- a place within a place
pub plain_within : (place rest : List PlaceStep) → IsPlainPlace place → IsPlainPlace rest → IsPlainPlace (place ++ rest)
plain_within [] rest plain more = more
plain_within (step ∷ place) rest plain more = (plain.0, plain_within place rest plain.1 more)
