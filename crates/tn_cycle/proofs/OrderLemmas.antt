-- Comparing numbers that may be none, and adding them.
use Rattle.std.proofs.Common.{◌≡◌, refl, ap, arith, ℤ, ◌+ℤ◌, Option, Some, None}
use Rattle.std.proofs.lemmas.Int.{ints}
use Rattle.std.proofs.lemmas.Option.{none-some, same_Some}
use Rattle.tn_base.specs.Options.{both}
use Rattle.tn_cycle.specs.Order.{IsUpTo}

pub up_to-trans : (a b c : Option ℤ) → IsUpTo a b → IsUpTo b c → IsUpTo a c
up_to-trans None b None p q = tt
up_to-trans (Some a) b None p q = tt
up_to-trans None None (Some c) p q = q
up_to-trans None (Some b) (Some c) p q = p
up_to-trans (Some a) None (Some c) p q = absurd q
up_to-trans (Some a) (Some b) (Some c) p q = omega (arith, ints, p, q)

-- the two parts of a sum
pub record Parts (a b : Option ℤ) (sum : ℤ) : Type 0 where
  pub first : ℤ
  pub second : ℤ
  pub first_is : a ≡ Some first
  pub second_is : b ≡ Some second
  pub sum_is : first +ℤ second ≡ sum

pub parts : (a b : Option ℤ) (sum : ℤ) → both a b ≡ Some sum → Parts a b sum
parts None b sum e = absurd (none-some sum e)
parts (Some a) None sum e = absurd (none-some sum e)
parts (Some a) (Some b) sum e = record {
  first = a;
  second = b;
  first_is = refl;
  second_is = refl;
  sum_is =
      same_Some (a +ℤ b) sum e;
}

pub both-assoc : (a b c : Option ℤ) → both (both a b) c ≡ both a (both b c)
both-assoc None b c = refl
both-assoc (Some a) None c = refl
both-assoc (Some a) (Some b) None = refl
both-assoc (Some a) (Some b) (Some c) = let e : (a +ℤ b) +ℤ c ≡ a +ℤ (b +ℤ c) = omega (arith, ints) in
    ap (λ (z : ℤ). Some z) e

pub both-comm : (a b : Option ℤ) → both a b ≡ both b a
both-comm None None = refl
both-comm None (Some b) = refl
both-comm (Some a) None = refl
both-comm (Some a) (Some b) = let e : a +ℤ b ≡ b +ℤ a = omega (arith, ints) in ap (λ (z : ℤ). Some z) e

pub up_to_none : (a : Option ℤ) → IsUpTo a None
up_to_none None = tt
up_to_none (Some a) = tt
