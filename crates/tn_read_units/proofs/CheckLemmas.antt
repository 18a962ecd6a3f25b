-- The tests of sets, as loops go through them.
use Rattle.std.proofs.Common.{◌≡◌, ℕ, ◌+◌, ◌<◌, ◌≤◌, Bool, true, false, if◌then◌else◌, refl, sym, ap, subst, ◌∙◌, arith, List, [], ◌∷◌, ◌++◌, length, get_or, take, drop, Option, Some, None, Result, Ok, ℤ}
use Rattle.std.proofs.lemmas.List.{at_drop_all, at_drop_more, length-take-le, take_more}
use Rattle.tn_links.specs.declared.link.Step.{Step}
use Rattle.tn_said.specs.declared.said.Fault.{Fault}
use Rattle.tn_read_shapes.specs.Reading.{◌>>=◌, FailsAsRead}
use Rattle.tn_read_shapes.specs.declared.error.ReadError.{ReadError}
use Rattle.tn_read_shapes.proofs.EachLemmas.{fails_then}
use Rattle.tn_read_units.specs.Checks.{between, check_set, check_sets, first_rise, rises, steps_after}
use Rattle.tn_read_units.specs.Sets.{WrittenSet}

-- the first step that rises, among those that are left
module _ (steps : List Step) (k : ℕ) (d : Step) (before : Option Step) (total : Option ℕ) where
  abbrev next : Step
  next = get_or steps k d

  split : k < length steps → first_rise k before (drop k steps)
      ≡ (if rises before next then Some k else first_rise (k + 1) (Some next) (drop (k + 1) steps))
  split inside = at_drop_more (first_rise k before) steps k d inside

  pub rise_next : k < length steps → first_rise k before (drop k steps) ≡ total → rises before next ≡ false
      → first_rise (k + 1) (Some next) (drop (k + 1) steps) ≡ total
  rise_next inside so_far falls =
      sym (split inside
      ∙ ap (λ (b : Bool). if b then Some k else first_rise (k + 1) (Some next) (drop (k + 1) steps)) falls)
      ∙ so_far

  pub rise_here : k < length steps → first_rise k before (drop k steps) ≡ total → rises before next ≡ true
      → Some k ≡ total
  rise_here inside so_far rise =
      sym (split inside
      ∙ ap (λ (b : Bool). if b then Some k else first_rise (k + 1) (Some next) (drop (k + 1) steps)) rise)
      ∙ so_far

  pub rise_none : length steps ≤ k → first_rise k before (drop k steps) ≡ total → None ≡ total
  rise_none past so_far = sym (at_drop_all (first_rise k before) steps k past) ∙ so_far

append-assoc : (xs ys zs : List Step) → (xs ++ ys) ++ zs ≡ xs ++ (ys ++ zs)
append-assoc [] ys zs = refl
append-assoc (x ∷ xs) ys zs = ap (λ (l : List Step). x ∷ l) (append-assoc xs ys zs)

append-none : (xs : List Step) → xs ++ [] ≡ xs
append-none [] = refl
append-none (x ∷ xs) = ap (λ (l : List Step). x ∷ l) (append-none xs)

-- the units between numbers, among those that are left
module _ (numbers : List ℤ) (k : ℕ) (d : ℤ) (before : Option ℤ) (steps total : List Step) where
  pub between_next : k < length numbers → steps ++ steps_after before (drop k numbers) ≡ total
      → (steps ++ between before (get_or numbers k d)) ++ steps_after (Some (get_or numbers k d)) (drop (k + 1) numbers)
      ≡ total
  between_next inside so_far =
      append-assoc steps (between before (get_or numbers k d))
      (steps_after (Some (get_or numbers k d)) (drop (k + 1) numbers))
      ∙ ap (λ (rest : List Step). steps ++ rest) (sym (at_drop_more (steps_after before) numbers k d inside))
      ∙ so_far

  pub between_all : length numbers ≤ k → steps ++ steps_after before (drop k numbers) ≡ total → steps ≡ total
  between_all past so_far =
      sym (append-none steps)
      ∙ ap (λ (rest : List Step). steps ++ rest) (sym (at_drop_all (steps_after before) numbers k past)) ∙ so_far

-- the sets that are left
module _ (f : ℕ) (sets : List WrittenSet) (k : ℕ) (d : WrittenSet) (total : Result (Unit {0}) Fault) where
  tested : k < length sets → check_sets f (take k sets) (drop k sets)
      ≡ (check_set (record { firm = f; set = k }) (take k sets) (get_or sets k d)
      >>= λ met. check_sets f (take (k + 1) sets) (drop (k + 1) sets))
  tested inside =
      at_drop_more (check_sets f (take k sets)) sets k d inside
      ∙ ap (λ (n : ℕ). check_set (record { firm = f; set = n }) (take k sets) (get_or sets k d)
      >>= λ met. check_sets f (take k sets ++ get_or sets k d ∷ []) (drop (k + 1) sets))
      (length-take-le k sets (omega (arith, inside)))
      ∙ ap (λ (earlier : List WrittenSet). check_set (record { firm = f; set = k }) (take k sets) (get_or sets k d)
      >>= λ met. check_sets f earlier (drop (k + 1) sets)) (sym (take_more sets k d inside))

  pub checks_next : k < length sets → check_sets f (take k sets) (drop k sets) ≡ total
      → check_set (record { firm = f; set = k }) (take k sets) (get_or sets k d) ≡ Ok tt
      → check_sets f (take (k + 1) sets) (drop (k + 1) sets) ≡ total
  checks_next inside so_far met =
      sym (tested inside ∙ ap (λ (r : Result (Unit {0}) Fault). r >>= λ met.
      check_sets f (take (k + 1) sets) (drop (k + 1) sets)) met) ∙ so_far

  pub checks_fail : (e : ReadError) → k < length sets → check_sets f (take k sets) (drop k sets) ≡ total
      → FailsAsRead e (check_set (record { firm = f; set = k }) (take k sets) (get_or sets k d)) → FailsAsRead e total
  checks_fail e inside so_far fails =
      subst (FailsAsRead e) (sym (tested inside) ∙ so_far)
      (fails_then e (check_set (record { firm = f; set = k }) (take k sets) (get_or sets k d))
      (λ met. check_sets f (take (k + 1) sets) (drop (k + 1) sets)) fails)

  pub checks_all : length sets ≤ k → check_sets f (take k sets) (drop k sets) ≡ total → total ≡ Ok tt
  checks_all past so_far = sym so_far ∙ at_drop_all (check_sets f (take k sets)) sets k past
