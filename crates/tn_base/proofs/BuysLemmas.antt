-- The set of the purchases, position by position.
use Rattle.std.proofs.Common.{◌≡◌, ℕ, suc, ◌+◌, false, ◌&&◌, refl, sym, ap, ◌∙◌, arith, inl, inr, List, length}
use Rattle.std.specs.Prelude.{Some, slice_get}
use Rattle.std.proofs.lemmas.Bool.{cases_lt, lt-ltb, le-ltb, false_from_ne_true}
use Rattle.tn_base.specs.declared.side.Side.{Side}
use Rattle.tn_base.specs.declared.side.Side.TheVariants.{Buy}
use Rattle.tn_base.specs.Sets.{has, toggle, set_of}
use Rattle.tn_base.specs.Table.{buys_of}
use Rattle.tn_base.proofs.SetLemmas.{same_set, has-set_of, has_above}
use Rattle.tn_base.proofs.TableLemmas.{buys_of_within, bought_from, side_from}

-- no position is below 0
pub buys_none : (sides : List Side) → 0 ≡ set_of (has (buys_of sides)) 0
unfolding set_of
buys_none sides = refl

-- a position of a purchase is put in
pub buys_more : (sides : List Side) (k b : ℕ) → slice_get sides k ≡ Some Buy → b ≡ set_of (has (buys_of sides)) k
    → toggle b k ≡ set_of (has (buys_of sides)) (k + 1)
unfolding set_of
buys_more sides k b bought is =
    let next : k + 1 ≡ suc k = omega arith in
    rw (next, bought_from sides k bought) (ap (λ (x : ℕ). toggle x k) is)

-- a position of a sale isn't
pub buys_same : (sides : List Side) (k b : ℕ) → (slice_get sides k ≡ Some Buy → ⊥) → b ≡ set_of (has (buys_of sides)) k
    → b ≡ set_of (has (buys_of sides)) (k + 1)
unfolding set_of
buys_same sides k b sold is =
    let next : k + 1 ≡ suc k = omega arith in
    let none : has (buys_of sides) k ≡ false = false_from_ne_true _ (λ h. sold (side_from sides k h)) in
    rw (next, none) is

-- then all positions are looked at
pub buys_all : (sides : List Side) → set_of (has (buys_of sides)) (length sides) ≡ buys_of sides
buys_all sides =
    same_set _ _ (λ k. has-set_of (has (buys_of sides)) (length sides) k ∙ elim (cases_lt k (length sides)) [
      | inl h ↦ ap (λ b. b && has (buys_of sides) k) (lt-ltb k _ h)
      | inr h ↦ ap (λ b. b && has (buys_of sides) k) (le-ltb k _ h)
          ∙ sym (has_above (buys_of sides) (length sides) k (buys_of_within sides) h)
    ])
