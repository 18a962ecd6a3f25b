-- What trades are to a firm, trade after trade.
use Rattle.std.proofs.Common.{◌≡◌, ℕ, ◌+◌, ◌<◌, List, [], ◌∷◌, ◌++◌, take, get_or, length, Option, Some, None, ap, ◌∙◌, ℤ, append-nil}
use Rattle.std.specs.List.{filter_map, cons_option}
use Rattle.std.proofs.lemmas.List.{take_more}
use Rattle.std.proofs.lemmas.List.Elements.{filter_map-append}
use Rattle.tn_drill.specs.declared.draws.Drawn.{Drawn}
use Rattle.tn_drill.specs.Drill.{number_to}

numbers_next : (f : ℕ) (draws : List Drawn) (i : ℕ) (d : Drawn) → i < length draws
    → filter_map (number_to f) (take (i + 1) draws) ≡ filter_map (number_to f) (take i draws)
    ++ cons_option (number_to f (get_or draws i d)) []
numbers_next f draws i d inside =
    ap (filter_map (number_to f)) (take_more draws i d inside)
    ∙ filter_map-append (number_to f) (take i draws) (get_or draws i d ∷ [])

pub numbers_own : (f : ℕ) (draws : List Drawn) (i : ℕ) (d : Drawn) (number : ℤ) → i < length draws
    → number_to f (get_or draws i d) ≡ Some number
    → filter_map (number_to f) (take (i + 1) draws) ≡ filter_map (number_to f) (take i draws) ++ number ∷ []
numbers_own f draws i d number inside is =
    numbers_next f draws i d inside ∙ ap (λ (o : Option ℤ). filter_map (number_to f) (take i draws) ++ cons_option o [])
    is

pub numbers_other : (f : ℕ) (draws : List Drawn) (i : ℕ) (d : Drawn) → i < length draws
    → number_to f (get_or draws i d) ≡ None
    → filter_map (number_to f) (take (i + 1) draws) ≡ filter_map (number_to f) (take i draws)
numbers_other f draws i d inside is =
    numbers_next f draws i d inside ∙ ap (λ (o : Option ℤ). filter_map (number_to f) (take i draws) ++ cons_option o [])
    is ∙ append-nil (filter_map (number_to f) (take i draws))
