-- What the first arcs cost.
use Rattle.std.proofs.Common.{◌≡◌, ℕ, ◌+◌, ◌<◌, ap, arith, List, ◌∷◌, length, drop, get_or, ℤ, pos, ◌+ℤ◌}
use Rattle.std.specs.Prelude.{◌*ℤ◌}
use Rattle.std.proofs.lemmas.Int.{ints}
use Rattle.std.proofs.lemmas.List.{drop_more}
use Rattle.tn_dimacs.specs.declared.problem.Arc.{Arc}
use Rattle.tn_dimacs.specs.Circulations.{cost_of}

-- the cost of one arc more
pub cost_more : (arcs : List Arc) (flows : List ℕ) (k : ℕ) (d : Arc) (sum whole : ℤ) → k < length arcs → k < length flows
    → whole ≡ sum +ℤ cost_of (drop k arcs) (drop k flows)
    → whole ≡ (sum +ℤ (get_or arcs k d).cost *ℤ pos (get_or flows k 0)) +ℤ cost_of (drop (k + 1) arcs) (drop (k + 1) flows)
cost_more arcs flows k d sum whole arc flow is =
    let first : cost_of (drop k arcs) (drop k flows) ≡ cost_of (get_or arcs k d ∷ drop (k + 1) arcs) (drop k flows) =
    ap (λ (rest : List Arc). cost_of rest (drop k flows)) (drop_more arcs k d arc) in
    let second : cost_of (get_or arcs k d ∷ drop (k + 1) arcs) (drop k flows)
    ≡ (get_or arcs k d).cost *ℤ pos (get_or flows k 0) +ℤ cost_of (drop (k + 1) arcs) (drop (k + 1) flows) =
    ap (cost_of (get_or arcs k d ∷ drop (k + 1) arcs)) (drop_more flows k 0 flow) in
    omega (arith, ints, is, first, second)
