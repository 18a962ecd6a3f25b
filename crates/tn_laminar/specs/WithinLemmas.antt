-- How large worths are where no amount and no number is above one amount in size: that much for each own trade and for
-- each set.
use Rattle.std.proofs.Common.{◌≡◌, ℕ, ◌+◌, ◌*◌, ◌^◌, Bool, true, false, refl, sym, subst, arith, if◌then◌else◌, List, [], ◌∷◌, length, Option, Some, None, ℤ, pos, negsuc, ◌+ℤ◌, ◌-ℤ◌}
use Rattle.std.specs.Prelude.{All, map, slice_get, nat_lt}
use Rattle.std.proofs.lemmas.Int.{ints}
use Rattle.std.proofs.lemmas.Option.{none-some, same_Some, slice_get_within, get_or_from_slice_get}
use Rattle.std.proofs.lemmas.List.Elements.{All-get_or, All-head, All-tail}
use Rattle.tn_base.specs.Arcs.{IsAtMost}
use Rattle.tn_base.specs.Sets.{meet, sum_over}
use Rattle.tn_base.specs.Firm.{net}
use Rattle.tn_base.specs.Options.{both}
use Rattle.tn_base.specs.Table.{buys_of}
use Rattle.tn_base.specs.declared.side.Side.{Side}
use Rattle.tn_firm_laws.specs.Nested.{count_sum, listed_from, at_place}
use Rattle.tn_firm_laws.proofs.BoundLemmas.{sum_over_small}
use Rattle.tn_market.specs.Valued.{IsWorthAtMost}
use Rattle.tn_laminar.specs.declared.set.LaminarSet.{LaminarSet}
use Rattle.tn_laminar.specs.Sum.{laminar_firm, laminar_sum, term_of}
use Rattle.tn_market.specs.OwnNumbers.{own_number}

-- an element of a list of which all elements meet P meets it
pub all_at : {X : Type 0} (P : X → Type 0) (xs : List X) (k : ℕ) (x : X) → All P xs → slice_get xs k ≡ Some x → P x
all_at P xs k x all is =
    subst P (get_or_from_slice_get xs k x x is) (All-get_or P xs k x (slice_get_within xs k x is) all)

-- none of the set's numbers is above the amount
abbrev pub HasNumbersUpTo : ℕ → LaminarSet → Type 0
HasNumbersUpTo amount set = All (λ a. IsAtMost a amount) set.numbers

-- a listed number is one of the set's
pub listed_within : (set : LaminarSet) (amount : ℕ) → HasNumbersUpTo amount set → (count u : ℤ)
    → listed_from set.low set.numbers count ≡ Some u → IsAtMost u amount
listed_within set amount small count u is = by (count -ℤ set.low) is
  where
    by : (place : ℤ) → at_place set.numbers place ≡ Some u → IsAtMost u amount
    by (pos k) e = all_at (λ a. IsAtMost a amount) set.numbers k u small e
    by (negsuc k) e = absurd (none-some u e)

-- both parts of a sum that is there are there
both_parts : (first second : Option ℤ) (u : ℤ) → both first second ≡ Some u → (a : ℤ) × (b : ℤ) × (first ≡ Some a)
    × (second ≡ Some b) × (a +ℤ b ≡ u)
both_parts None second u e = absurd (none-some u e)
both_parts (Some a) None u e = absurd (none-some u e)
both_parts (Some a) (Some b) u e = (a, b, refl, refl, same_Some (a +ℤ b) u e)

-- and with bounds of them the sum has the sum of both
both_small : (a b u : ℤ) (m n : ℕ) → a +ℤ b ≡ u → IsAtMost a m → IsAtMost b n → IsAtMost u (m + n)
both_small a b u m n total first second = record {
  low = omega (arith, ints, total, first.low, second.low);
  high = omega (arith, ints, total, first.high, second.high);
}

-- the numbers of the sets
pub count_sum_within : (buys x : ℕ) (sets : List LaminarSet) (amount : ℕ) → All (HasNumbersUpTo amount) sets → (u : ℤ)
    → count_sum buys (map term_of sets) x ≡ Some u → IsAtMost u (length sets * amount)
count_sum_within buys x [] amount small u is =
    let e : pos 0 ≡ u = same_Some (pos 0) u is in
    record { low = omega (arith, ints, e); high = omega (arith, ints, e) }
count_sum_within buys x (set ∷ sets) amount small u is =
    let parts = both_parts (listed_from set.low set.numbers (net buys (meet x set.members)))
    (count_sum buys (map term_of sets) x) u is in
    let here = listed_within set amount (All-head (HasNumbersUpTo amount) set sets small)
    (net buys (meet x set.members)) parts.0 parts.2 in
    let rest = count_sum_within buys x sets amount (All-tail (HasNumbersUpTo amount) set sets small) parts.1 parts.3 in
    let more : length (set ∷ sets) * amount ≡ amount + length sets * amount = omega arith in
    subst (IsAtMost u) (sym more) (both_small parts.0 parts.1 u amount (length sets * amount) parts.4 here rest)

-- the amounts of the own trades
pub amounts_within : (count : ℕ) (amounts : List ℤ) (x amount : ℕ) → length amounts ≡ count
    → All (λ a. IsAtMost a amount) amounts → IsAtMost (sum_over (own_number amounts) count x) (count * amount)
amounts_within count amounts x amount as_many small = sum_over_small (own_number amounts) count x amount
    (λ k h. All-get_or (λ a. IsAtMost a amount) amounts k (pos 0) (omega (arith, h, as_many)) small)

pub laminar_sum_within : (count buys : ℕ) (amounts : List ℤ) (sets : List LaminarSet) (amount : ℕ)
    → length amounts ≡ count → All (λ a. IsAtMost a amount) amounts → All (HasNumbersUpTo amount) sets
    → IsWorthAtMost ((count + length sets) * amount) (laminar_sum count buys amounts sets)
laminar_sum_within count buys amounts sets amount as_many small small_numbers x a worth_is =
    by (nat_lt x (2 ^ count)) worth_is
  where
    by : (b : Bool)
        → (if b then both (Some (sum_over (own_number amounts) count x)) (count_sum buys (map term_of sets) x) else None)
        ≡ Some a → IsAtMost a ((count + length sets) * amount)
    by false e = absurd (none-some a e)
    by true e =
        let parts = both_parts (Some (sum_over (own_number amounts) count x)) (count_sum buys (map term_of sets) x) a e
        in
        let own = subst (λ (z : ℤ). IsAtMost z (count * amount))
        (same_Some (sum_over (own_number amounts) count x) parts.0 parts.2)
        (amounts_within count amounts x amount as_many small) in
        let counted = count_sum_within buys x sets amount small_numbers parts.1 parts.3 in
        let each : (count + length sets) * amount ≡ count * amount + length sets * amount = omega arith in
        subst (IsAtMost a) (sym each)
        (both_small parts.0 parts.1 a (count * amount) (length sets * amount) parts.4 own counted)

pub laminar_within : (sides : List Side) (amounts : List ℤ) (sets : List LaminarSet) (amount : ℕ)
    → length amounts ≡ length sides → All (λ a. IsAtMost a amount) amounts
    → All (λ set. All (λ a. IsAtMost a amount) set.numbers) sets
    → IsWorthAtMost ((length sides + length sets) * amount) (laminar_firm sides amounts sets)
laminar_within sides amounts sets amount as_many small small_numbers =
    laminar_sum_within (length sides) (buys_of sides) amounts sets amount as_many small small_numbers
