-- What the impl for a firm outside the market needs: it is a firm that may be asked.
use Rattle.std.specs.Prelude.{◌≡◌, ℕ, ◌<◌, Bool, true, false, nat_lt, ℤ, pos, negsuc, neg_ℤ, ◌+ℤ◌, unsigned_abs, if◌then◌else◌, Some, None, refl}
use Rattle.std.proofs.Common.{sym, ap, ◌∙◌, subst, arith, lit≤, lit<}
use Rattle.std.proofs.lemmas.Int.{ints}
use Rattle.std.proofs.lemmas.Bool.{lt-ltb}
use Rattle.std.proofs.lemmas.Option.{same_Some}
use Rattle.tn_base.specs.Arcs.{IsAtMost}
use Rattle.tn_base.specs.Sets.{has, sum_over}
use Rattle.tn_firm_laws.proofs.AdditiveLemmas.{meets-additive}
use Rattle.tn_firm_laws.proofs.BoundLemmas.{abs_small}
use Rattle.tn_market.specs.Valued.{IsWorthAtMost}
use Rattle.tn_market.specs.Lawful.{IsLawful}
use Rattle.tn_market.specs.Outside.{outside_amount, outside, outside_sum}
use Rattle.tn_market.specs.Widths.{most_outside_price}

sum_over-outside : (price : ℤ) (x : ℕ) → sum_over (outside_amount price) 2 x ≡ outside_sum price (has x 0) (has x 1)
unfolding sum_over
sum_over-outside price x = by_case (has x 0) (has x 1)
  where
    by_case : (b s : Bool) → (pos 0 +ℤ (if b then price else pos 0)) +ℤ (if s then neg_ℤ price else pos 0)
        ≡ outside_sum price b s
    by_case true true = omega (arith, ints)
    by_case true false = omega (arith, ints)
    by_case false true = refl
    by_case false false = refl

pub outside-worth : (price : ℤ) (x : ℕ) → x < 4 → (outside price).worth x ≡ Some (outside_sum price (has x 0) (has x 1))
outside-worth price x below =
    ap (λ (b : Bool). if b then Some (sum_over (outside_amount price) 2 x) else None) (lt-ltb x 4 below)
    ∙ ap (λ (z : ℤ). Some z) (sum_over-outside price x)

pub outside-within : (price : ℤ) → IsWorthAtMost (unsigned_abs price) (outside price)
outside-within price x a is = by_case (nat_lt x 4) is
  where
    small : (z : ℤ) (b s : Bool) → IsAtMost (outside_sum z b s) (unsigned_abs z)
    small (pos n) true true = record { low = omega (arith, ints); high = omega (arith, ints) }
    small (pos n) true false = record { low = omega (arith, ints); high = omega (arith, ints) }
    small (pos n) false true = record { low = omega (arith, ints); high = omega (arith, ints) }
    small (pos n) false false = record { low = omega (arith, ints); high = omega (arith, ints) }
    small (negsuc n) true true = record { low = omega (arith, ints); high = omega (arith, ints) }
    small (negsuc n) true false = record { low = omega (arith, ints); high = omega (arith, ints) }
    small (negsuc n) false true = record { low = omega (arith, ints); high = omega (arith, ints) }
    small (negsuc n) false false = record { low = omega (arith, ints); high = omega (arith, ints) }

    by_case : (b : Bool) → (if b then Some (sum_over (outside_amount price) 2 x) else None) ≡ Some a
        → IsAtMost a (unsigned_abs price)
    by_case true e = subst (λ (z : ℤ). IsAtMost z (unsigned_abs price)) (same_Some _ _ e)
        (subst (λ (z : ℤ). IsAtMost z (unsigned_abs price)) (sym (sum_over-outside price x))
        (small price (has x 0) (has x 1)))
    by_case false e = absurd (cc e)

pub outside_laws : (price : ℤ) → IsAtMost price most_outside_price → IsLawful (unsigned_abs price) (outside price)
outside_laws price small = record {
  few_trades = lit≤ tt;
  own_purchases = lit< tt;
  own_bundles = (meets-additive 2 1 (outside_amount price)).0;
  empty_is_possible = (_, refl);
  exchange_one = (meets-additive 2 1 (outside_amount price)).1.one;
  exchange_net = (meets-additive 2 1 (outside_amount price)).1.net_count;
  within = outside-within price;
  small_limit = (let size = abs_small price most_outside_price small in omega (arith, size));
}
