-- What stands beside the first word that is a text, said by cases: of a written list of words that is a chain of `if`.
use Rattle.std.proofs.Common.{◌≡◌, ◌∙◌, Bool, true, false, List, [], ◌∷◌, refl, ap}
use Rattle.std.specs.Prelude.{Option, Some, None, if◌then◌else◌, option_map}
use Rattle.std.specs.List.{find}

module _ {A B : Type 0} (is : A → Bool) (value : A → B) where
  abbrev pub first_value : List A → Option B
  first_value [] = None
  first_value (x ∷ xs) = if is x then Some (value x) else first_value xs

  pub found_value : (xs : List A) → option_map value (find is xs) ≡ first_value xs
  found_value [] = refl
  found_value (x ∷ xs) = by_case (is x) (find is xs) ∙ ap (λ rest. if is x then Some (value x) else rest) (found_value xs)
    where
      by_case : (b : Bool) (rest : Option A) → option_map value (if b then Some x else rest)
          ≡ (if b then Some (value x) else option_map value rest)
      by_case true rest = refl
      by_case false rest = refl
