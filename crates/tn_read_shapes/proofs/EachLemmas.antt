-- Reading the items of a list one after the other, as a loop does: what is still read gives what all of it gives.
use Rattle.std.proofs.Common.{◌≡◌, ℕ, zero, suc, ◌+◌, ◌<◌, ◌≤◌, List, [], ◌∷◌, length, drop, get_or, Result, Ok, Err, refl, sym, ap, ◌∙◌, add-one, arith}
use Rattle.serde_json.specs.Data.{Data}
use Rattle.serde_json.specs.View.{view, items_view}
use Rattle.serde_json.specs.declared.value.Value.{Value}
use Rattle.tn_said.specs.declared.said.Fault.{Fault}
use Rattle.tn_read_shapes.specs.declared.error.ReadError.{ReadError}
use Rattle.tn_read_shapes.specs.declared.error.ReadError.TheVariants.{Fault as FaultIs, OutOfMemory}
use Rattle.tn_read_shapes.specs.Reading.{◌>>=◌, each, FailsAsRead}

module _ {A E : Type 0} (step : A → Data → Result A E) where
  -- the next item
  pub each_at : (vs : List Value) (k : ℕ) (d : Value) (found : A) → k < length vs
      → each step found (items_view (drop k vs))
      ≡ (step found (view (get_or vs k d)) >>= λ next. each step next (items_view (drop (suc k) vs)))
  unfolding each
  each_at [] k d found h = absurd (omega (arith, h))
  each_at (v ∷ vs) zero d found h = refl
  each_at (v ∷ vs) (suc k) d found h = each_at vs k d found (omega (arith, h))

  pub each_goes_on : (vs : List Value) (k : ℕ) (d : Value) (found next : A) (total : Result A E) → k < length vs
      → step found (view (get_or vs k d)) ≡ Ok next
      → each step found (items_view (drop k vs)) ≡ total → each step next (items_view (drop (k + 1) vs)) ≡ total
  each_goes_on vs k d found next total h is so_far = ap (λ (n : ℕ). each step next (items_view (drop n vs))) (add-one k)
      ∙ sym (ap (λ r. r >>= λ next. each step next (items_view (drop (suc k) vs))) is) ∙ sym (each_at vs k d found h)
      ∙ so_far

  pub each_is_done : (vs : List Value) (k : ℕ) (found : A) (total : Result A E) → length vs ≤ k
      → each step found (items_view (drop k vs)) ≡ total → total ≡ Ok found
  unfolding each
  each_is_done [] zero found total h so_far = sym so_far
  each_is_done [] (suc k) found total h so_far = sym so_far
  each_is_done (v ∷ vs) zero found total h so_far = absurd (omega (arith, h))
  each_is_done (v ∷ vs) (suc k) found total h so_far = each_is_done vs k found total (omega (arith, h)) so_far

  pub each_stops_at : (vs : List Value) (k : ℕ) (d : Value) (found : A) (stop : E) (total : Result A E) → k < length vs
      → step found (view (get_or vs k d)) ≡ Err stop
      → each step found (items_view (drop k vs)) ≡ total → total ≡ Err stop
  each_stops_at vs k d found stop total h is so_far =
      sym so_far ∙ each_at vs k d found h ∙ ap (λ r. r >>= λ next. each step next (items_view (drop (suc k) vs))) is

pub each_fails : {A : Type 0} (step : A → Data → Result A Fault) (e : ReadError) (vs : List Value) (k : ℕ) (d : Value)
    (found : A) (total : Result A Fault) → k < length vs
    → FailsAsRead e (step found (view (get_or vs k d)))
    → each step found (items_view (drop k vs)) ≡ total → FailsAsRead e total
each_fails step OutOfMemory vs k d found total h fails so_far = tt
each_fails step (FaultIs f) vs k d found total h fails so_far = each_stops_at step vs k d found f total h fails so_far

-- what stops reading stops what follows too
pub fails_then : {A B : Type 0} (e : ReadError) (r : Result A Fault) (f : A → Result B Fault) → FailsAsRead e r
    → FailsAsRead e (r >>= f)
fails_then OutOfMemory r f h = tt
fails_then (FaultIs fault) r f h = ap (λ r. r >>= f) h
