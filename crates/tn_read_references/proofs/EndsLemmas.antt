-- The positions of a firm's own trades, and its sides in them.
use Rattle.std.proofs.Common.{◌≡◌, ℕ, ◌<◌, Bool, true, false, List, length, take, slice_get, Option, Some, None, refl, sym, ap, ◌∙◌}
use Rattle.std.specs.Prelude.{nat_eq, cond, IfOk, Result, Ok, Err}
use Rattle.std.proofs.lemmas.Option.{none-some, same_Some, slice_get_within}
use Rattle.std.proofs.lemmas.Bool.{eqb-true}
use Rattle.tn_base.specs.declared.side.Side.{Side}
use Rattle.tn_base.specs.declared.side.Side.TheVariants.{Buy, Sell}
use Rattle.tn_model.specs.declared.ends.Ends.{Ends}
use Rattle.tn_read_shapes.specs.declared.error.ReadError.{ReadError}
use Rattle.tn_read_references.specs.References.{position_in, position_on}
use Rattle.tn_read_references.specs.Ordered.{side_in, sides_of, AreInOrder}
use Rattle.tn_model.proofs.InOrderLemmas.{own_side}

-- the position of an own trade, and its side
module _ (firms f : ℕ) (es : List Ends) (t : ℕ) (e : Ends) (order : AreInOrder firms es) (is : slice_get es t
    ≡ Some e) where
  by_tests : (sells buys : Bool) (k : ℕ) → nat_eq e.seller f ≡ sells → nat_eq e.buyer f ≡ buys
      → cond sells (Some e.at_seller) (cond buys (Some e.at_buyer) None) ≡ Some k
      → (side : Side) × (cond sells (Some Sell) (cond buys (Some Buy) None) ≡ Some side)
      × (k ≡ length (sides_of (take t es) f))
  by_tests true buys k seller buyer at = (
    Sell,
    refl,
    same_Some _ _ (sym at) ∙ (order t e is).at_seller ∙ ap (λ (g : ℕ). length (sides_of (take t es) g))
        (eqb-true e.seller f seller),
  )
  by_tests false true k seller buyer at = (
    Buy,
    refl,
    same_Some _ _ (sym at) ∙ (order t e is).at_buyer ∙ ap (λ (g : ℕ). length (sides_of (take t es) g))
        (eqb-true e.buyer f buyer),
  )
  by_tests false false k seller buyer at = absurd (none-some _ at)

  pub own_position : (k : ℕ) → position_in f e ≡ Some k → (side : Side) × (side_in f e ≡ Some side)
      × (k ≡ length (sides_of (take t es) f))
  own_position k at = by_tests (nat_eq e.seller f) (nat_eq e.buyer f) k refl refl at

  -- the side of the own trade at that position
  pub side_at_position : (k : ℕ) → position_in f e ≡ Some k → (side : Side) × (side_in f e ≡ Some side)
      × (slice_get (sides_of es f) k ≡ Some side)
  side_at_position k at =
      let own = own_position k at in
      (own.0, own.1, ap (slice_get (sides_of es f)) own.2 ∙ own_side f es t e own.0 is own.1)

  pub position_within : (k : ℕ) → position_in f e ≡ Some k → k < length (sides_of es f)
  position_within k at =
      let own = side_at_position k at in
      slice_get_within (sides_of es f) k own.0 own.2

  -- where it stands on a given side
  sold : (sells : Bool) (k : ℕ) (rest : Option ℕ) → cond sells (Some e.at_seller) None ≡ Some k
      → cond sells (Some e.at_seller) rest ≡ Some k
  sold true k rest at = at
  sold false k rest at = absurd (none-some k at)

  bought : (sells buys : Bool) (k : ℕ) → nat_eq e.seller f ≡ sells → nat_eq e.buyer f ≡ buys
      → cond buys (Some e.at_buyer) None ≡ Some k
      → cond sells (Some e.at_seller) (cond buys (Some e.at_buyer) None) ≡ Some k
  bought false buys k seller buyer at = at
  bought true true k seller buyer at =
      absurd ((order t e is).apart (eqb-true e.seller f seller ∙ sym (eqb-true e.buyer f buyer)))
  bought true false k seller buyer at = absurd (none-some k at)

  pub position_on-within : (side : Option Side) (k : ℕ) → position_on side f e ≡ Some k → k < length (sides_of es f)
  position_on-within None k at = position_within k at
  position_on-within (Some Sell) k at =
      position_within k (sold (nat_eq e.seller f) k (cond (nat_eq e.buyer f) (Some e.at_buyer) None) at)
  position_on-within (Some Buy) k at = position_within k (bought (nat_eq e.seller f) (nat_eq e.buyer f) k refl refl at)

pub found_within : (r : Result ℕ ReadError) (position : Option ℕ) (n : ℕ) → IfOk r (λ k. position ≡ Some k)
    → ((k : ℕ) → position ≡ Some k → k < n) → IfOk r (λ k. k < n)
found_within (Ok k) position n found within = within k found
found_within (Err e) position n found within = tt
