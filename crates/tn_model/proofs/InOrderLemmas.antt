-- Trades in order, and the sides on which a firm stands in them.
use Rattle.std.proofs.Common.{◌≡◌, ℕ, zero, suc, ◌+◌, ◌<◌, true, false, List, [], ◌∷◌, ◌++◌, length, take, get_or, slice_get, Option, Some, None, is_some, inl, inr, ◌⊎◌, refl, sym, ap, subst, ◌∙◌, add-one, arith, length-append}
use Rattle.std.specs.List.{cons_option}
use Rattle.std.proofs.lemmas.List.{take_at, take-append-le}
use Rattle.std.proofs.lemmas.Option.{none-some, same_Some, slice_get_within}
use Rattle.tn_base.specs.declared.side.Side.{Side}
use Rattle.tn_model.specs.declared.ends.Ends.{Ends}
use Rattle.tn_model.specs.InOrder.{side_in, sides_of, ComesNext, AreInOrder}

-- an element of a list with one more is one of the list, or the new one
pub push_cases : {X : Type 0} (xs : List X) (y : X) (k : ℕ) (x : X) → slice_get (xs ++ y ∷ []) k ≡ Some x
    → (slice_get xs k ≡ Some x) ⊎ ((k ≡ length xs) × (x ≡ y))
push_cases [] y zero x at = inr (refl, sym (same_Some _ _ at))
push_cases [] y (suc k) x at = absurd (cc at)
push_cases (first ∷ xs) y zero x at = inl at
push_cases (first ∷ xs) y (suc k) x at =
    elim (push_cases xs y k x at) [ inl earlier ↦ inl earlier | inr last ↦ inr (omega (arith, last.0), last.1) ]

-- one more trade that comes next
pub AreInOrder-push : (firms : ℕ) (es : List Ends) (e : Ends) → AreInOrder firms es → ComesNext firms es e
    → AreInOrder firms (es ++ e ∷ [])
AreInOrder-push firms es e order next t trade is =
    elim (push_cases es e t trade is) [
      | inl h ↦ subst (λ (before : List Ends). ComesNext firms before trade)
          (sym (take-append-le t es (e ∷ []) (let within = slice_get_within es t trade h in omega (arith, within))))
          (order t trade h)
      | inr h ↦ subst (λ (k : ℕ). ComesNext firms (take k (es ++ e ∷ [])) trade) (sym h.0)
          (subst (λ (before : List Ends). ComesNext firms before trade) (sym (take_at es (e ∷ []) (length es) refl))
          (subst (ComesNext firms es) (sym h.1) next))
    ]

-- the sides of a firm in one trade more
module _ (f : ℕ) where
  abbrev pub with_next : Option Side → List Side → List Side
  with_next None sides = sides
  with_next (Some side) sides = sides ++ side ∷ []

  front-next : (first next : Option Side) (sides : List Side)
      → cons_option first (with_next next sides) ≡ with_next next (cons_option first sides)
  front-next None None sides = refl
  front-next None (Some t) sides = refl
  front-next (Some s) None sides = refl
  front-next (Some s) (Some t) sides = refl

  pub sides_of-next : (es : List Ends) (k : ℕ) (d : Ends) → k < length es
      → sides_of (take (suc k) es) f ≡ with_next (side_in f (get_or es k d)) (sides_of (take k es) f)
  unfolding sides_of
  sides_of-next [] k d h = absurd (omega (arith, h))
  sides_of-next (e ∷ es) zero d h = front-nil (side_in f e)
    where
      front-nil : (side : Option Side) → cons_option side [] ≡ with_next side []
      front-nil None = refl
      front-nil (Some s) = refl
  sides_of-next (e ∷ es) (suc k) d h = ap (cons_option (side_in f e)) (sides_of-next es k d (omega (arith, h)))
      ∙ front-next (side_in f e) (side_in f (get_or es k d)) (sides_of (take k es) f)

  pub sides_of-own : (es : List Ends) (k : ℕ) (d : Ends) (side : Side) → k < length es
      → side_in f (get_or es k d) ≡ Some side → sides_of (take (k + 1) es) f ≡ sides_of (take k es) f ++ side ∷ []
  sides_of-own es k d side h is = ap (λ (n : ℕ). sides_of (take n es) f) (add-one k) ∙ sides_of-next es k d h
      ∙ ap (λ (next : Option Side). with_next next (sides_of (take k es) f)) is

  pub sides_of-other : (es : List Ends) (k : ℕ) (d : Ends) → k < length es → side_in f (get_or es k d) ≡ None
      → sides_of (take (k + 1) es) f ≡ sides_of (take k es) f
  sides_of-other es k d h is = ap (λ (n : ℕ). sides_of (take n es) f) (add-one k) ∙ sides_of-next es k d h
      ∙ ap (λ (next : Option Side). with_next next (sides_of (take k es) f)) is

pub sides_of-none : (f : ℕ) → sides_of [] f ≡ []
unfolding sides_of
sides_of-none f = refl

pub count-own : (f : ℕ) (es : List Ends) (k : ℕ) (d : Ends) → k < length es → is_some (side_in f (get_or es k d)) ≡ true
    → length (sides_of (take (k + 1) es) f) ≡ length (sides_of (take k es) f) + 1
count-own f es k d h is = by_side (side_in f (get_or es k d)) refl is
  where
    by_side : (side : Option Side) → side_in f (get_or es k d) ≡ side → is_some side ≡ true
        → length (sides_of (take (k + 1) es) f) ≡ length (sides_of (take k es) f) + 1
    by_side None e there = absurd cc
    by_side (Some s) e there = ap length (sides_of-own f es k d s h e)
        ∙ omega (arith, length-append (sides_of (take k es) f) (s ∷ []))

pub count-other : (f : ℕ) (es : List Ends) (k : ℕ) (d : Ends) → k < length es
    → is_some (side_in f (get_or es k d)) ≡ false → length (sides_of (take (k + 1) es) f)
    ≡ length (sides_of (take k es) f)
count-other f es k d h is = by_side (side_in f (get_or es k d)) refl is
  where
    by_side : (side : Option Side) → side_in f (get_or es k d) ≡ side → is_some side ≡ false
        → length (sides_of (take (k + 1) es) f) ≡ length (sides_of (take k es) f)
    by_side None e there = ap length (sides_of-other f es k d h e)
    by_side (Some s) e there = absurd cc

-- a firm stands in a trade on the side that its own trades have at the trade's position
pub own_side : (f : ℕ) (es : List Ends) (t : ℕ) (e : Ends) (side : Side) → slice_get es t ≡ Some e
    → side_in f e ≡ Some side
    → slice_get (sides_of es f) (length (sides_of (take t es) f)) ≡ Some side
unfolding sides_of
own_side f [] t e side is at = absurd (none-some _ is)
own_side f (x ∷ es) zero e side is at =
    ap (λ (s : Option Side). slice_get (cons_option s (sides_of es f)) 0) (ap (side_in f) (same_Some _ _ is) ∙ at)
own_side f (x ∷ es) (suc t) e side is at = after (side_in f x) (own_side f es t e side is at)
  where
    after : (first : Option Side) → slice_get (sides_of es f) (length (sides_of (take t es) f)) ≡ Some side
        → slice_get (cons_option first (sides_of es f)) (length (cons_option first (sides_of (take t es) f)))
        ≡ Some side
    after None is = is
    after (Some s) is = is
