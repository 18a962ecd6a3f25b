-- The limits of every version leave room.
use Rattle.std.proofs.Common.{◌≡◌, ℕ, ◌≤◌, ◌*◌, Bool, true, false, cond, nat_eq, nat_le, Some, None, refl, sym, subst, le-leb, arith}
use Rattle.std.proofs.lemmas.Option.{none-some, same_Some}
use Rattle.tn_model.specs.declared.limits.Limits.{Limits}
use Rattle.tn_model.specs.Limits.{AreLimits, few_trades, limits_of, limits_of_many, limits_with, most_worth_among}

-- what is no more than the least of both bounds on worths is no more than either
within_both : (worth trades : ℕ) → worth ≤ 124 * 10000000 → worth ≤ most_worth_among trades
unfolding most_worth_among
within_both worth trades small = by (nat_le trades few_trades)
  where
    by : (b : Bool) → worth ≤ cond b (124 * 1000000000) (124 * 10000000)
    by true = omega (arith, small)
    by false = small

-- among few trades a worth may be as large as any
within_few : (worth trades : ℕ) → worth ≤ 124 * 1000000000 → trades ≤ few_trades → worth ≤ most_worth_among trades
unfolding most_worth_among
within_few worth trades small few = subst (λ (b : Bool). worth ≤ cond b (124 * 1000000000) (124 * 10000000))
    (sym (le-leb trades few_trades few)) small

pub with_room : (most : ℕ) → most ≤ few_trades → AreLimits (limits_with most)
with_room most few = record {
  firms = omega (arith, few);
  trades = omega (arith, few);
  own_of_table = omega arith;
  own = omega arith;
  amount = omega arith;
  sets = omega arith;
  from = omega arith;
  values = omega arith;
  price = omega arith;
  numerator = omega arith;
  over = omega arith;
  edits = omega arith;
  number = refl;
  claimed_over = omega arith;
  enough_over = omega (arith, few);
  enough_nodes = omega arith;
  nodes = omega (arith, few);
  worths = λ trades inside. within_few (96 * 1000000000) trades (omega arith) (omega (arith, inside, few));
}

pub are_many : AreLimits limits_of_many
are_many = record {
  firms = omega arith;
  trades = omega arith;
  own_of_table = omega arith;
  own = omega arith;
  amount = omega arith;
  sets = omega arith;
  from = omega arith;
  values = omega arith;
  price = omega arith;
  numerator = omega arith;
  over = omega arith;
  edits = omega arith;
  number = refl;
  claimed_over = omega arith;
  enough_over = omega arith;
  enough_nodes = omega arith;
  nodes = omega arith;
  worths = λ trades inside. within_both (124 * 10000000) trades (omega arith);
}

by_tests : (first second third : Bool) (limits : Limits)
    → cond first (Some (limits_with 64)) (cond second (Some (limits_with few_trades))
    (cond third (Some limits_of_many) None)) ≡ Some limits → AreLimits limits
by_tests true second third limits e = subst AreLimits (same_Some _ _ e) (with_room 64 (omega arith))
by_tests false true third limits e = subst AreLimits (same_Some _ _ e) (with_room few_trades (omega arith))
by_tests false false true limits e = subst AreLimits (same_Some _ _ e) are_many
by_tests false false false limits e = absurd (none-some _ e)

pub limits_are : (version : ℕ) (limits : Limits) → limits_of version ≡ Some limits → AreLimits limits
unfolding limits_of
limits_are version limits e = by_tests (nat_eq version 1) (nat_eq version 2) (nat_eq version 3) limits e
