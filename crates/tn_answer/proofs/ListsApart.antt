-- Lists of which the data are equal are alike item by item.
use Rattle.std.proofs.Common.{◌≡◌, ℕ, suc, List, [], ◌∷◌, map, All, sym, ap, arith}
use Rattle.std.proofs.lemmas.List.Elements.{All-head, All-tail}
use Rattle.std.specs.List.{AllZip, each_same}
use Rattle.serde_json.specs.Data.{Data, array}
use Rattle.serde_json.specs.View.{items_of}
use Rattle.serde_json.specs.Events.{items_len}
use Rattle.tn_answer.specs.Rows.{each_from}
use Rattle.tn_answer.proofs.DataParts.{first_in, items_in, rest_in}

-- items whose data depend on their places, of two sorts
module _ {A B : Type 0} (data_of : ℕ → A → Data) (other_of : ℕ → B → Data) (IsKnown : A → Type 0)
    (IsOther : B → Type 0) (IsAlike : A → B → Type 0)
    (one : (k : ℕ) (x : A) (y : B) → IsKnown x → IsOther y → data_of k x ≡ other_of k y → IsAlike x y) where
  pub alike_each : (k : ℕ) (xs : List A) (ys : List B) → All IsKnown xs → All IsOther ys
      → array (items_of (each_from data_of k xs)) ≡ array (items_of (each_from other_of k ys)) → AllZip IsAlike xs ys
  alike_each k [] [] h i e = tt
  alike_each k [] (y ∷ ys) h i e = absurd (omega (arith, ap (λ d. items_len (items_in d)) e))
  alike_each k (x ∷ xs) [] h i e = absurd (omega (arith, ap (λ d. items_len (items_in d)) e))
  alike_each k (x ∷ xs) (y ∷ ys) h i e = (
    one k x y (All-head IsKnown x xs h) (All-head IsOther y ys i) (ap first_in e),
    alike_each (suc k) xs ys (All-tail IsKnown x xs h) (All-tail IsOther y ys i) (ap rest_in e),
  )

module _ {A : Type 0} (data_of : ℕ → A → Data) (IsKnown : A → Type 0)
    (one : (k : ℕ) (x y : A) → IsKnown x → IsKnown y → data_of k x ≡ data_of k y → x ≡ y) where
  pub same_each : (k : ℕ) (xs ys : List A) → All IsKnown xs → All IsKnown ys
      → array (items_of (each_from data_of k xs)) ≡ array (items_of (each_from data_of k ys)) → xs ≡ ys
  same_each k xs ys h i e = sym (each_same xs ys
      (alike_each data_of data_of IsKnown IsKnown (λ x y. y ≡ x) (λ j x y there there' same. sym (one j x y there
      there' same)) k xs ys h i e))

-- and items whose data don't
module _ {A B : Type 0} (data_of : A → Data) (other_of : B → Data) (IsKnown : A → Type 0) (IsOther : B → Type 0)
    (IsAlike : A → B → Type 0)
    (one : (x : A) (y : B) → IsKnown x → IsOther y → data_of x ≡ other_of y → IsAlike x y) where
  pub alike_items : (xs : List A) (ys : List B) → All IsKnown xs → All IsOther ys
      → array (items_of (map data_of xs)) ≡ array (items_of (map other_of ys)) → AllZip IsAlike xs ys
  alike_items [] [] h i e = tt
  alike_items [] (y ∷ ys) h i e = absurd (omega (arith, ap (λ d. items_len (items_in d)) e))
  alike_items (x ∷ xs) [] h i e = absurd (omega (arith, ap (λ d. items_len (items_in d)) e))
  alike_items (x ∷ xs) (y ∷ ys) h i e = (
    one x y (All-head IsKnown x xs h) (All-head IsOther y ys i) (ap first_in e),
    alike_items xs ys (All-tail IsKnown x xs h) (All-tail IsOther y ys i) (ap rest_in e),
  )

module _ {A : Type 0} (data_of : A → Data) (IsKnown : A → Type 0)
    (one : (x y : A) → IsKnown x → IsKnown y → data_of x ≡ data_of y → x ≡ y) where
  pub same_items : (xs ys : List A) → All IsKnown xs → All IsKnown ys
      → array (items_of (map data_of xs)) ≡ array (items_of (map data_of ys)) → xs ≡ ys
  same_items xs ys h i e = sym (each_same xs ys
      (alike_items data_of data_of IsKnown IsKnown (λ x y. y ≡ x) (λ x y there there' same. sym (one x y there there'
      same)) xs ys h i e))
