-- Loops over amounts and steps, as they go through them.
use Rattle.std.proofs.Common.{◌≡◌, ℕ, zero, suc, ◌+◌, ◌*◌, ◌<◌, ◌≤◌, sym, ap, ◌∙◌, arith, List, [], ◌∷◌, ◌++◌, length, get_or, drop, ℤ, Bool, if◌then◌else◌}
use Rattle.std.specs.Prelude.{map, min, All}
use Rattle.std.proofs.lemmas.Bool.{eq-eqb}
use Rattle.std.proofs.lemmas.List.{append-nil, at_drop_all, at_drop_more}
use Rattle.std.proofs.lemmas.List.Elements.{All-head, All-tail}
use Rattle.tn_links.specs.Links.{room}
use Rattle.tn_links.specs.declared.link.Step.{Step}
use Rattle.tn_read_units.specs.Documents.{turned}
use Rattle.tn_read_units.specs.Limits.{most_steps, most_units_at_once}
use Rattle.tn_read_units.specs.Placed.{first_amount, first_units}
use Rattle.tn_read_units.specs.Steps.{AreSteps, IsStep}
use Rattle.tn_read_units.specs.declared.amounts.Amount.{Amount}
use Rattle.tn_read_units.proofs.NumberLemmas.{room-first}

-- the first amount of the trade
pub amount_here : (amounts : List Amount) (t k : ℕ) (d : Amount) (total : ℤ) → k < length amounts
    → (get_or amounts k d).trade ≡ t → first_amount (drop k amounts) t ≡ total → (get_or amounts k d).number ≡ total
amount_here amounts t k d total inside is so_far =
    sym (at_drop_more (λ (rest : List Amount). first_amount rest t) amounts k d inside
    ∙ ap (λ (b : Bool). if b then (get_or amounts k d).number else first_amount (drop (k + 1) amounts) t)
    (eq-eqb (get_or amounts k d).trade t is))
    ∙ so_far

-- no step is left
module _ (more : List Step) (k left : ℕ) (steps total : List Step) (past : length more ≤ k) where
  pub first_all : steps ++ first_units left (drop k more) ≡ total → steps ≡ total
  first_all so_far =
      sym (append-nil steps)
      ∙ ap (λ (rest : List Step). steps ++ rest) (sym (at_drop_all (first_units left) more k past)) ∙ so_far

  pub turned_all : steps ++ map turned (first_units left (drop k more)) ≡ total → steps ≡ total
  turned_all so_far =
      sym (append-nil steps)
      ∙ ap (λ (rest : List Step). steps ++ rest)
      (sym (at_drop_all (λ (rest : List Step). map turned (first_units left rest)) more k past)) ∙ so_far

-- how many units the first units are
pub first_room : (most : ℕ) (steps : List Step) → room (first_units most steps) ≡ min (room steps) most
first_room most steps = room-first most steps

room_most : (steps : List Step) (n : ℕ) → All IsStep steps → length steps ≤ n → room steps ≤ n * most_units_at_once
room_most [] n all few = omega arith
room_most (step ∷ steps) zero all few = absurd (omega (arith, few))
room_most (step ∷ steps) (suc n) all few =
    let here = (All-head IsStep step steps all).few in
    let rest = room_most steps n (All-tail IsStep step steps all) (omega (arith, few)) in
    omega (arith, here, rest)

-- how many units steps have at most
pub few_units : (steps : List Step) → AreSteps steps → room steps ≤ most_steps * most_units_at_once
few_units steps are = room_most steps most_steps are.each are.few

-- the units of a step more
pub room_next : (steps : List Step) (k : ℕ) (d : Step) → k < length steps
    → room (drop k steps) ≡ (get_or steps k d).units + room (drop (k + 1) steps)
room_next steps k d inside = at_drop_more room steps k d inside
