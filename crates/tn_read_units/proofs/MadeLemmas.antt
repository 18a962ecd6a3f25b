-- Loops that make the amounts and the sets of a market, as they go through a document.
use Rattle.std.proofs.Common.{◌≡◌, ℕ, ◌+◌, ◌-◌, ◌<◌, sym, ap, ◌∙◌, add-one, append_assoc, arith, inl, inr, List, [], ◌∷◌, ◌++◌, length, get_or, drop, take, pos}
use Rattle.std.specs.Prelude.{map}
use Rattle.std.proofs.lemmas.Bool.{cases_lt}
use Rattle.std.proofs.lemmas.List.{at_drop_more, get_or-append_right, get_or_append_left, map_more}
use Rattle.tn_counts.specs.Laminar.{amounts_at}
use Rattle.tn_counts.specs.declared.trade.UnitAmounts.{UnitAmounts}
use Rattle.tn_read_units.specs.Firms.{WrittenFirm}
use Rattle.tn_read_units.specs.Placed.{PlacedSet, all_placed, placed}
use Rattle.tn_read_units.specs.Sets.{WrittenSet}

-- the amounts of a trade more
pub amounts_more : (amounts : List UnitAmounts) (n : ℕ) (next : UnitAmounts) (all : ℕ → UnitAmounts)
    → length amounts ≡ n
    → ((k : ℕ) → k < n → amounts_at amounts k ≡ all k) → next ≡ all n
    → (k : ℕ) → k < n + 1 → amounts_at (amounts ++ next ∷ []) k ≡ all k
amounts_more amounts n next all count before is k below =
    let none : UnitAmounts = record { seller = pos 0; buyer = pos 0 } in
    elim (cases_lt k n) [
      | inl earlier ↦
          get_or_append_left amounts (next ∷ []) none k (omega (arith, count, earlier)) ∙ before k earlier
      | inr past ↦
          let here : k ≡ n = omega (arith, below, past) in
          let place : k - n ≡ 0 = omega (arith, here) in
          get_or-append_right amounts (next ∷ []) n k none count past
          ∙ ap (λ (i : ℕ). get_or (next ∷ []) i none) place ∙ is ∙ ap all (sym here)
    ]

-- a set of a firm more
pub set_more : (old items : List PlacedSet) (f : ℕ) (written : List WrittenSet) (k : ℕ) (d : WrittenSet)
    (next : PlacedSet)
    → k < length written → next ≡ placed f (get_or written k d) → items ≡ old ++ map (placed f) (take k written)
    → items ++ next ∷ [] ≡ old ++ map (placed f) (take (k + 1) written)
set_more old items f written k d next inside is before =
    ap (λ (sets : List PlacedSet). sets ++ next ∷ []) before
    ∙ append_assoc old (map (placed f) (take k written)) (next ∷ [])
    ∙ ap (λ (set : PlacedSet). old ++ (map (placed f) (take k written) ++ set ∷ [])) is
    ∙ ap (λ (sets : List PlacedSet). old ++ sets) (sym (map_more (placed f) written k d inside))

-- the sets of a firm more
pub firm_more : (items more total : List PlacedSet) (firms : List WrittenFirm) (k : ℕ) (d : WrittenFirm)
    → k < length firms → more ≡ map (placed k) (get_or firms k d).sets
    → items ++ all_placed k (drop k firms) ≡ total → (items ++ more) ++ all_placed (k + 1) (drop (k + 1) firms) ≡ total
firm_more items more total firms k d inside is before =
    append_assoc items more (all_placed (k + 1) (drop (k + 1) firms))
    ∙ ap (λ (sets : List PlacedSet). items ++ (sets ++ all_placed (k + 1) (drop (k + 1) firms))) is
    ∙ ap (λ (n : ℕ). items ++ (map (placed k) (get_or firms k d).sets ++ all_placed n (drop (k + 1) firms))) (add-one k)
    ∙ ap (λ (sets : List PlacedSet). items ++ sets) (sym (at_drop_more (all_placed k) firms k d inside)) ∙ before
