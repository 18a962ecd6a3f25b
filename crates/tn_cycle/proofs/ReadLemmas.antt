-- Listing the nodes of a walk.
use Rattle.std.proofs.Common.{◌≡◌, ℕ, zero, suc, ◌+◌, ◌-◌, ◌<◌, ◌≤◌, refl, sym, ap, ◌∙◌, subst, arith, List, [], ◌∷◌, ◌++◌, length, take}
use Rattle.std.specs.Prelude.{All, slice_set}
use Rattle.std.proofs.lemmas.List.{append_assoc, take-take, take-append-le, take_at}
use Rattle.std.proofs.lemmas.List.Elements.{All-tail}
use Rattle.std.proofs.Math.Seq.{take-suc-set}
use Rattle.tn_cycle.specs.declared.cell.Cell.{Cell}
use Rattle.tn_cycle.specs.Cells.{trail}
use Rattle.tn_cycle.specs.Reading.{way}

-- the nodes after v begin with the next one
pub trail-next : (cell : ℕ → Cell) (v m j : ℕ) → m ≡ suc j → trail cell m v ≡ (cell v).next ∷ trail cell j (cell v).next
trail-next cell v m j e = ap (λ (k : ℕ). trail cell k v) e

pub length-trail : (cell : ℕ → Cell) (k v : ℕ) → length (trail cell k v) ≡ k
length-trail cell zero v = refl
length-trail cell (suc k) v = ap suc (length-trail cell k (cell v).next)

-- one node more is listed
pub listed-next : (cell : ℕ → Cell) (path : List ℕ) (count k v : ℕ) (whole : List ℕ) → k < count → k < length path
    → take k path ++ (v ∷ trail cell (count - k) v) ≡ whole
    → take (k + 1) (slice_set path k v) ++ ((cell v).next ∷ trail cell (count - (k + 1)) (cell v).next) ≡ whole
listed-next cell path count k v whole fewer inside before =
    let e : k + 1 ≡ suc k = omega arith in
    let onward = (cell v).next ∷ trail cell (count - (k + 1)) (cell v).next in
    ap (λ (n : ℕ). take n (slice_set path k v) ++ onward) e
    ∙ ap (λ (xs : List ℕ). xs ++ onward) (take-suc-set path k v inside)
    ∙ append_assoc (take k path) (v ∷ []) onward
    ∙ ap (λ (xs : List ℕ). take k path ++ (v ∷ xs)) (sym
    (trail-next cell v (count - k) (count - (k + 1)) (omega (arith, fewer))))
    ∙ before

-- the nodes that are left are inside
pub inside-next : (cell : ℕ → Cell) (places count k v : ℕ) → k < count
    → All (λ u. u < places) (v ∷ trail cell (count - k) v)
    → All (λ u. u < places) ((cell v).next ∷ trail cell (count - (k + 1)) (cell v).next)
inside-next cell places count k v fewer inside =
    subst (All (λ u. u < places)) (trail-next cell v (count - k) (count - (k + 1)) (omega (arith, fewer)))
    (All-tail (λ u. u < places) v (trail cell (count - k) v) inside)

-- what was written to the front of a list is read there
pub front-written : {A : Type 0} (written rest : List A) (count places : ℕ) → count ≤ places → count ≤ length written
    → take count (take places (written ++ rest)) ≡ take count written
front-written written rest count places within inside =
    take-take count places (written ++ rest) within ∙ take-append-le count written rest inside

-- the listed walk without its end
pub way-front : (end : ℕ) (cell : ℕ → Cell) (v : ℕ) (path : List ℕ) (count : ℕ) → count ≡ (cell v).inner_nodes + 1
    → take (count + 1) path ≡ way end cell v
    → take count path ≡ v ∷ trail cell (cell v).inner_nodes v
way-front end cell v path count counted whole =
    let size : length (v ∷ trail cell (cell v).inner_nodes v) ≡ count =
    omega (arith, length-trail cell (cell v).inner_nodes v, counted) in
    let e = take-take count (count + 1) path (omega arith) in
    sym e ∙ ap (take count) whole ∙ take_at (v ∷ trail cell (cell v).inner_nodes v) (end ∷ []) count size
