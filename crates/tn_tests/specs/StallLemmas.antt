-- What the impl for the stall of the tests needs.
use Rattle.std.specs.Prelude.{◌≡◌, ℕ, ◌<◌, Bool, true, false, nat_lt, if◌then◌else◌, ℤ, pos, negsuc, ◌+ℤ◌, Some, None, refl}
use Rattle.std.proofs.Common.{sym, ap, ◌∙◌, subst, arith, lit≤, lit<}
use Rattle.std.proofs.lemmas.Int.{ints}
use Rattle.std.proofs.lemmas.Bool.{lt-ltb}
use Rattle.std.proofs.lemmas.Option.{same_Some}
use Rattle.tn_base.specs.Sets.{has, sum_over}
use Rattle.tn_base.specs.Arcs.{IsAtMost}
use Rattle.tn_firm_laws.proofs.AdditiveLemmas.{meets-additive}
use Rattle.tn_market.specs.Lawful.{IsLawful}
use Rattle.tn_market.specs.Valued.{IsWorthAtMost}
use Rattle.tn_tests.specs.Stall.{amounts, stall, amounts_of}

pub sum_over-amounts : (x : ℕ) → sum_over amounts 2 x ≡ amounts_of (has x 0) (has x 1)
unfolding sum_over
sum_over-amounts x = by_case (has x 0) (has x 1)
  where
    by_case : (b s : Bool) → (pos 0 +ℤ (if b then negsuc 2 else pos 0)) +ℤ (if s then pos 5 else pos 0) ≡ amounts_of b s
    by_case true true = refl
    by_case true false = refl
    by_case false true = refl
    by_case false false = refl

pub stall-worth : (x : ℕ) → x < 4 → stall.worth x ≡ Some (amounts_of (has x 0) (has x 1))
stall-worth x below =
    ap (λ (b : Bool). if b then Some (sum_over amounts 2 x) else None) (lt-ltb x 4 below)
    ∙ ap (λ (z : ℤ). Some z) (sum_over-amounts x)

pub stall-within : IsWorthAtMost 8 stall
stall-within x a is = by_case (nat_lt x 4) is
  where
    small : (b s : Bool) → IsAtMost (amounts_of b s) 8
    small true true = record { low = omega (arith, ints); high = omega (arith, ints) }
    small true false = record { low = omega (arith, ints); high = omega (arith, ints) }
    small false true = record { low = omega (arith, ints); high = omega (arith, ints) }
    small false false = record { low = omega (arith, ints); high = omega (arith, ints) }

    by_case : (b : Bool) → (if b then Some (sum_over amounts 2 x) else None) ≡ Some a → IsAtMost a 8
    by_case true e =
        subst (λ (z : ℤ). IsAtMost z 8) (same_Some _ _ e) (subst (λ (z : ℤ). IsAtMost z 8) (sym (sum_over-amounts x))
        (small (has x 0) (has x 1)))
    by_case false e = absurd (cc e)

pub stall-lawful : IsLawful 8 stall
stall-lawful = record {
  few_trades = lit≤ tt;
  own_purchases = lit< tt;
  own_bundles = (meets-additive 2 1 amounts).0;
  empty_is_possible = (_, refl);
  exchange_one = (meets-additive 2 1 amounts).1.one;
  exchange_net = (meets-additive 2 1 amounts).1.net_count;
  within = stall-within;
  small_limit = lit≤ tt;
}
