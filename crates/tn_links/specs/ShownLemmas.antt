-- What a part of a graph needs to be searched.
use Rattle.std.proofs.Common.{◌≡◌, ◌≢◌, ℕ, refl, ap, ◌∙◌, arith, ℤ, ◌+ℤ◌, ◌≤ℤ◌, Option, Some, None, Bool, true, false, ◌==◌, if◌then◌else◌}
use Rattle.std.specs.Prelude.{◌||◌, ◌<ℤ◌}
use Rattle.std.proofs.lemmas.Int.{ints}
use Rattle.std.proofs.lemmas.Bool.{ne_eqb}
use Rattle.std.proofs.lemmas.Option.{none-some, same_Some}
use lib.Signed.{lt_z}
use Rattle.tn_base.specs.Arcs.{AreBetweenNodes, AreSmall, ListsPredecessors, ListsSuccessors}
use Rattle.tn_links.specs.Shown.{kept_only, shown_arc}

-- what is kept only where labels keep it
pub kept_is : (begin end cost : ℤ) (arc : Option ℤ) → kept_only begin end arc ≡ Some cost
    → (arc ≡ Some cost) × (end ≤ℤ (begin +ℤ cost))
kept_is begin end cost None e = absurd (none-some cost e)
kept_is begin end cost (Some own) e = by (lt_z (begin +ℤ own) end) refl e
  where
    by : (t : Bool) → lt_z (begin +ℤ own) end ≡ t → (if t then None else Some own) ≡ Some cost
        → (Some own ≡ Some cost) × (end ≤ℤ (begin +ℤ cost))
    by true broken q = absurd (none-some cost q)
    by false kept q =
        let same : own ≡ cost = same_Some own cost q in
        let order : end ≤ℤ (begin +ℤ own) = grind (arith, ints, kept) in
        (q, omega (arith, ints, same, order))

-- an arc that is shown is an arc
pub shown_is : (label : ℕ → ℤ) (node : ℕ) (arc : ℕ → ℕ → Option ℤ) (u v : ℕ) (cost : ℤ)
    → shown_arc label node arc u v ≡ Some cost → arc u v ≡ Some cost
shown_is label node arc u v cost e = by (u == node || v == node) e
  where
    by : (t : Bool) → (if t then arc u v else kept_only (label u) (label v) (arc u v)) ≡ Some cost → arc u v ≡ Some cost
    by true q = q
    by false q = (kept_is (label u) (label v) cost (arc u v) q).0

pub between-shown : (label : ℕ → ℤ) (node nodes : ℕ) (arc : ℕ → ℕ → Option ℤ) → AreBetweenNodes nodes arc
    → AreBetweenNodes nodes (shown_arc label node arc)
between-shown label node nodes arc between a b cost e = between a b cost (shown_is label node arc a b cost e)

pub small-shown : (label : ℕ → ℤ) (node limit : ℕ) (arc : ℕ → ℕ → Option ℤ) → AreSmall arc limit
    → AreSmall (shown_arc label node arc) limit
small-shown label node limit arc small a b cost e = small a b cost (shown_is label node arc a b cost e)

pub lists_predecessors-shown : (label : ℕ → ℤ) (node nodes : ℕ) (arc : ℕ → ℕ → Option ℤ) (b count : ℕ) (at : ℕ → ℕ)
    → ListsPredecessors nodes arc b count at → ListsPredecessors nodes (shown_arc label node arc) b count at
lists_predecessors-shown label node nodes arc b count at lists = record {
  inside = lists.inside;
  all = λ a cost is. lists.all a cost (shown_is label node arc a b cost is);
  once = lists.once;
}

pub lists_successors-shown : (label : ℕ → ℤ) (node nodes : ℕ) (arc : ℕ → ℕ → Option ℤ) (a count : ℕ) (at : ℕ → ℕ)
    → ListsSuccessors nodes arc a count at → ListsSuccessors nodes (shown_arc label node arc) a count at
lists_successors-shown label node nodes arc a count at lists = record {
  inside = lists.inside;
  all = λ b cost is. lists.all b cost (shown_is label node arc a b cost is);
  once = lists.once;
}

pub kept_none : (begin end cost : ℤ) (arc : Option ℤ) → arc ≡ Some cost → (begin +ℤ cost) <ℤ end
    → kept_only begin end arc ≡ None
kept_none begin end cost arc is order =
    let broken : lt_z (begin +ℤ cost) end ≡ true = grind (arith, ints) in
    ap (kept_only begin end) is ∙ ap (λ (t : Bool). if t then None else Some cost) broken

pub kept_some : (begin end cost : ℤ) (arc : Option ℤ) → arc ≡ Some cost → end ≤ℤ (begin +ℤ cost)
    → kept_only begin end arc ≡ Some cost
kept_some begin end cost arc is order =
    let kept : lt_z (begin +ℤ cost) end ≡ false = grind (arith, ints) in
    ap (kept_only begin end) is ∙ ap (λ (t : Bool). if t then None else Some cost) kept

-- off the node
pub shown_off : (label : ℕ → ℤ) (node : ℕ) (arc : ℕ → ℕ → Option ℤ) (u v : ℕ) → u ≢ node → v ≢ node
    → shown_arc label node arc u v ≡ kept_only (label u) (label v) (arc u v)
shown_off label node arc u v first second =
    ap (λ (t : Bool). if t || v == node then arc u v else kept_only (label u) (label v) (arc u v)) (ne_eqb u node first)
    ∙ ap (λ (t : Bool). if t then arc u v else kept_only (label u) (label v) (arc u v)) (ne_eqb v node second)
