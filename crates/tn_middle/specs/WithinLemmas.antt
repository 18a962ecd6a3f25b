-- How large worths are where no cost, no gain and no worth of keeping is above one amount in size: that much for each
-- own trade, and once more for what is kept.
use Rattle.std.proofs.Common.{◌≡◌, ℕ, zero, suc, ◌+◌, ◌*◌, ◌^◌, ◌<◌, Bool, true, false, refl, sym, subst, arith, if◌then◌else◌, List, length, get_or, Option, Some, None, ℤ, pos, ◌+ℤ◌, neg_ℤ}
use Rattle.std.specs.Prelude.{All, nat_lt}
use Rattle.std.specs.Option.{ForSome}
use Rattle.std.proofs.lemmas.Int.{ints}
use Rattle.std.proofs.lemmas.Option.{none-some, same_Some}
use Rattle.std.proofs.lemmas.List.Elements.{All-get_or}
use Rattle.tn_base.specs.Arcs.{IsAtMost}
use Rattle.tn_base.specs.Sets.{has, meet, minus, size, sum_over}
use Rattle.tn_base.specs.Firm.{payments}
use Rattle.tn_base.specs.Table.{buys_of}
use Rattle.tn_base.specs.declared.side.Side.{Side}
use Rattle.tn_firm_laws.proofs.BoundLemmas.{sum_over_small}
use Rattle.tn_market.specs.Valued.{IsWorthAtMost}
use Rattle.tn_middle.specs.Pairs.{by_counts, pairing, middle_firm}
use Rattle.tn_market.specs.OwnNumbers.{own_number}

-- what a position adds is small
payment_within : (buys : ℕ) (numbers : List ℤ) (k amount : ℕ) → k < length numbers
    → All (λ a. IsAtMost a amount) numbers → IsAtMost (payments buys (own_number numbers) k) amount
payment_within buys numbers k amount inside small =
    by (has buys k) (get_or numbers k (pos 0)) (All-get_or (λ a. IsAtMost a amount) numbers k (pos 0) inside small)
  where
    by : (b : Bool) (z : ℤ) → IsAtMost z amount → IsAtMost (if b then neg_ℤ z else z) amount
    by true z within = record {
      low = omega (arith, ints, within.high);
      high = omega (arith, ints, within.low);
    }
    by false z within = within

-- a balance is at most the amount for each own trade
balance_within : (count buys : ℕ) (numbers : List ℤ) (x amount : ℕ) → length numbers ≡ count
    → All (λ a. IsAtMost a amount) numbers
    → IsAtMost (sum_over (payments buys (own_number numbers)) count x) (count * amount)
balance_within count buys numbers x amount as_many small =
    sum_over_small (payments buys (own_number numbers)) count x amount
    (λ k h. payment_within buys numbers k amount (omega (arith, h, as_many)) small)

-- a worth, by the counts
counts_within : (p s : ℕ) (keep : Option ℤ) (balance a : ℤ) (amount most : ℕ) → ForSome keep (λ a. IsAtMost a amount)
    → IsAtMost balance most → by_counts p s keep balance ≡ Some a → IsAtMost a (most + amount)
counts_within zero zero keep balance a amount most kept small is =
    let e : pos 0 ≡ a = same_Some (pos 0) a is in
    record { low = omega (arith, ints, e); high = omega (arith, ints, e) }
counts_within zero (suc s) keep balance a amount most kept small is = absurd (none-some a is)
counts_within (suc zero) zero None balance a amount most kept small is = absurd (none-some a is)
counts_within (suc zero) zero (Some number) balance a amount most kept small is =
    let e : number +ℤ balance ≡ a = same_Some (number +ℤ balance) a is in
    let number_small = kept number refl in
    record {
      low = omega (arith, ints, e, number_small.low, small.low);
      high = omega (arith, ints, e, number_small.high, small.high);
    }
counts_within (suc zero) (suc zero) keep balance a amount most kept small is =
    let e : balance ≡ a = same_Some balance a is in
    record { low = omega (arith, ints, e, small.low); high = omega (arith, ints, e, small.high) }
counts_within (suc zero) (suc (suc s)) keep balance a amount most kept small is = absurd (none-some a is)
counts_within (suc (suc p)) s keep balance a amount most kept small is = absurd (none-some a is)

pub pairing_within : (count buys : ℕ) (numbers : List ℤ) (keep : Option ℤ) (amount : ℕ) → length numbers ≡ count
    → All (λ a. IsAtMost a amount) numbers → ForSome keep (λ a. IsAtMost a amount)
    → IsWorthAtMost ((count + 1) * amount) (pairing count buys numbers keep)
pairing_within count buys numbers keep amount as_many small small_keep x a worth_is = by (nat_lt x (2 ^ count)) worth_is
  where
    by : (b : Bool)
        → (if b then by_counts (size (meet x buys)) (size (minus x buys)) keep
        (sum_over (payments buys (own_number numbers)) count x) else None) ≡ Some a
        → IsAtMost a ((count + 1) * amount)
    by false e = absurd (none-some a e)
    by true e =
        let each : (count + 1) * amount ≡ count * amount + amount = omega arith in
        subst (IsAtMost a) (sym each) (counts_within (size (meet x buys)) (size (minus x buys)) keep
        (sum_over (payments buys (own_number numbers)) count x) a amount (count * amount) small_keep
        (balance_within count buys numbers x amount as_many small) e)

pub middle_within : (sides : List Side) (numbers : List ℤ) (keep : Option ℤ) (amount : ℕ)
    → length numbers ≡ length sides → All (λ a. IsAtMost a amount) numbers → ForSome keep (λ a. IsAtMost a amount)
    → IsWorthAtMost ((length sides + 1) * amount) (middle_firm sides numbers keep)
middle_within sides = pairing_within (length sides) (buys_of sides)
