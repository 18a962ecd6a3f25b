-- Lists that are made item by item.
use Rattle.std.proofs.Common.{◌≡◌, ℕ, zero, suc, ◌+◌, List, [], ◌∷◌, ◌++◌, length, map, take, Some, refl, sym, ap, ap₂, ◌∙◌, arith, append_assoc}
use Rattle.std.specs.Prelude.{slice_get}
use Rattle.std.specs.List.{range_with_len}
use Rattle.std.proofs.lemmas.List.{map-append}
use Rattle.std.proofs.lemmas.List.FromFn.{map-range_with_len_more}
use Rattle.std.proofs.lemmas.Option.{none-some, same_Some}
use Rattle.tn_links.specs.declared.link.Link.{Link}
use Rattle.tn_counts.specs.Tree.{LinkShape, set_shape, shape_of}
use Rattle.tn_counts.specs.declared.market.UnitMarket.{UnitMarket}
use Rattle.tn_counts.specs.declared.set.CountSet.{CountSet}
use Rattle.tn_tree.specs.Shapes.{set_shapes}

-- one item more of a list by number
pub items_more : {A : Type 0} (f : ℕ → A) (list after : List A) (x : A) (k : ℕ) → after ≡ list ++ x ∷ []
    → list ≡ map f (range_with_len 0 k) → x ≡ f k → after ≡ map f (range_with_len 0 (k + 1))
items_more f list after x k made before is =
    let place : 0 + k ≡ k = omega arith in
    made ∙ ap₂ (λ xs y. xs ++ y ∷ []) before is ∙ sym (map-range_with_len_more f 0 k k place)

-- one link more
pub shapes_more : (links after : List Link) (link : Link) (before more after_more : List LinkShape) (shape : LinkShape)
    → after ≡ links ++ link ∷ [] → map shape_of links ≡ before ++ more → shape_of link ≡ shape
    → after_more ≡ more ++ shape ∷ [] → map shape_of after ≡ before ++ after_more
shapes_more links after link before more after_more shape made is one next =
    ap (map shape_of) made ∙ map-append shape_of links (link ∷ [])
    ∙ ap₂ (λ xs y. xs ++ y ∷ []) is one ∙ append_assoc before more (shape ∷ []) ∙ ap (λ xs. before ++ xs) (sym next)

-- one item more after others, the first of which has number 0
pub append_more : {A : Type 0} (f : ℕ → A) (start old new : List A) (x : A) (k : ℕ) → new ≡ old ++ x ∷ []
    → old ≡ start ++ map f (range_with_len 0 k) → x ≡ f k → new ≡ start ++ map f (range_with_len 0 (k + 1))
append_more f start old new x k made is own =
    made ∙ ap₂ (λ xs y. xs ++ y ∷ []) is own ∙ append_assoc start (map f (range_with_len 0 k)) (f k ∷ [])
    ∙ ap (λ xs. start ++ xs) (sym (map-range_with_len_more f 0 k k (omega arith)))

-- the shapes of one set more
pub set_shapes_more : (market : UnitMarket) (sets : List CountSet) (i k : ℕ) (set : CountSet)
    → slice_get sets k ≡ Some set
    → set_shapes market i (take (k + 1) sets) ≡ set_shapes market i (take k sets) ++ set_shape market (i + k) set ∷ []
set_shapes_more market [] i k set at = absurd (none-some set at)
set_shapes_more market (first ∷ sets) i zero set at =
    let place : i ≡ i + 0 = omega arith in
    ap₂ (λ (j : ℕ) (s : CountSet). set_shape market j s ∷ []) place (same_Some first set at)
set_shapes_more market (first ∷ sets) i (suc k) set at =
    let next : suc k + 1 ≡ suc (k + 1) = omega arith in
    let place : suc i + k ≡ i + suc k = omega arith in
    ap (λ (n : ℕ). set_shapes market i (take n (first ∷ sets))) next
    ∙ ap (λ (xs : List LinkShape). set_shape market i first ∷ xs) (set_shapes_more market sets (suc i) k set at)
    ∙ ap (λ (n : ℕ). set_shape market i first ∷ (set_shapes market (suc i) (take k sets) ++ set_shape market n set ∷ [])) place

-- what stands before others
pub take_whole : (xs ys : List ℕ) (n : ℕ) → n ≡ length xs → take n (xs ++ ys) ≡ xs
take_whole [] ys n sized = ap (λ (k : ℕ). take k ys) sized
take_whole (x ∷ xs) ys n sized =
    ap (λ (k : ℕ). take k (x ∷ (xs ++ ys))) sized ∙ ap (λ (rest : List ℕ). x ∷ rest) (take_whole xs ys (length xs) refl)
