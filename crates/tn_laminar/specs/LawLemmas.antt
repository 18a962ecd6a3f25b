-- The laws of a laminar firm, over what every one keeps.
use Rattle.std.proofs.Common.{◌≡◌, ◌&&◌, ℕ, suc, ◌+◌, ◌*◌, ◌^◌, ◌<◌, ◌≤◌, refl, sym, ap, ◌∙◌, subst, arith, if◌then◌else◌, List, [], ◌∷◌, length, Option, Some, None, ℤ, pos, ◌+ℤ◌}
use Rattle.std.specs.Prelude.{All, map, slice_get, option_map, IsSome}
use Rattle.std.proofs.lemmas.Int.{ints}
use Rattle.std.proofs.lemmas.Nat.{pow_pos}
use Rattle.std.proofs.lemmas.Bool.{lt-ltb, false≢true}
use Rattle.std.proofs.lemmas.Option.{none-some, same_Some, slice_get-map}
use Rattle.std.proofs.lemmas.List.Elements.{All-weaker}
use Rattle.tn_base.specs.Arcs.{IsAtMost}
use Rattle.tn_base.specs.Sets.{has, meet, sum_over}
use Rattle.tn_base.specs.Firm.{HasOwnBundles, MayAbstain, net}
use Rattle.tn_base.specs.Exchange.{MeetsExchange}
use Rattle.tn_base.proofs.SetLemmas.{same_set, has-meet, has-zero}
use Rattle.tn_base.proofs.FirmLemmas.{net-zero}
use Rattle.tn_base.specs.Options.{both}
use Rattle.tn_firm_laws.specs.Nested.{CountTerm, AreNested, Cross, IsConcave, count_sum, listed_from}
use Rattle.tn_firm_laws.proofs.NestedLemmas.{meets-nested}
use Rattle.tn_firm_laws.proofs.ConcaveLemmas.{concave-listed}
use Rattle.tn_market.specs.Valued.{IsWorthAtMost}
use Rattle.tn_market.specs.Lawful.{IsLawful}
use Rattle.tn_market.proofs.AscentLemmas.{smaller}
use Rattle.tn_laminar.specs.declared.laminar.Laminar.{Laminar}
use Rattle.tn_laminar.specs.Firms.{firm_of}
use Rattle.tn_laminar.specs.declared.set.LaminarSet.{LaminarSet}
use Rattle.tn_laminar.specs.declared.masks.Masks.{Masks}
use Rattle.tn_laminar.specs.Faults.{HasEmpty}
use Rattle.tn_laminar.specs.Sum.{HasNumbersWithin, IsLaminar, IsOwnSet, laminar_sum, term_of}
use Rattle.tn_market.specs.OwnNumbers.{own_number}
use Rattle.tn_laminar.specs.WithinLemmas.{HasNumbersUpTo, all_at, amounts_within, count_sum_within, laminar_sum_within}
use Rattle.tn_base.specs.Widths.{most_amount}
use Rattle.tn_market.specs.Widths.{most_own, most_worth}
use Rattle.tn_model.specs.Limits.{most_sets}

-- the term at a place is that of the set there
term_at : (sets : List LaminarSet) (k : ℕ) (term : CountTerm) → slice_get (map term_of sets) k ≡ Some term
    → (set : LaminarSet) × (slice_get sets k ≡ Some set) × (term_of set ≡ term)
term_at sets k term is = by (slice_get sets k) refl (sym (slice_get-map term_of sets k) ∙ is)
  where
    by : (o : Option LaminarSet) → slice_get sets k ≡ o → option_map term_of o ≡ Some term → (set : LaminarSet)
        × (slice_get sets k ≡ Some set) × (term_of set ≡ term)
    by None e f = absurd (none-some term f)
    by (Some set) e f = (set, e, same_Some (term_of set) term f)

nested_from : (count buys : ℕ) (amounts : List ℤ) (sets : List LaminarSet) (masks : List Masks)
    → IsLaminar count buys amounts sets masks → AreNested count (map term_of sets)
nested_from count buys amounts sets masks is = record {
  own = λ i term term_is. (let found = term_at sets i term term_is in
      subst (λ t. t.members < 2 ^ count) found.2 (all_at (IsOwnSet count) sets i found.0 is.own found.1));
  concave = λ i term term_is. (let found = term_at sets i term term_is in
      subst (λ t. IsConcave t.number_at) found.2 (concave-listed found.0.low found.0.numbers
      (is.sound i found.0 found.1).concave));
  uncrossed = λ i j first second before first_is second_is cross. (
      let one = term_at sets i first first_is in
      let two = term_at sets j second second_is in
      (is.sound j two.0 two.1).uncrossed (record {
        at = i;
        earlier = one.0;
        set = two.0;
        before = before;
        earlier_is = one.1;
        set_is = two.1;
        cross = subst (λ t. Cross one.0.members t.members) (sym two.2)
            (subst (λ t. Cross t.members second.members) (sym one.2) cross);
      }));
}

meets : (count buys : ℕ) (amounts : List ℤ) (sets : List LaminarSet) (masks : List Masks)
    → IsLaminar count buys amounts sets masks
    → HasOwnBundles (laminar_sum count buys amounts sets) × MeetsExchange (laminar_sum count buys amounts sets)
meets count buys amounts sets masks is =
    meets-nested count buys (own_number amounts) (map term_of sets) (nested_from count buys amounts sets masks is)

-- the empty bundle has no trade within any set
meet-zero : (q : ℕ) → meet 0 q ≡ 0
meet-zero q = same_set (meet 0 q) 0 (λ k. has-meet 0 q k ∙ ap (λ b. b && has q k) (has-zero k) ∙ sym (has-zero k))

-- each set has a number at 0, so the sum at the empty bundle is there
empty_sum : (buys : ℕ) (sets : List LaminarSet) → ((k : ℕ) (set : LaminarSet) → slice_get sets k ≡ Some set
    → HasEmpty set)
    → (u : ℤ) × (count_sum buys (map term_of sets) 0 ≡ Some u)
empty_sum buys [] each = (pos 0, refl)
empty_sum buys (set ∷ sets) each =
    let rest = empty_sum buys sets (λ k other e. each (suc k) other e) in
    let none_in : net buys (meet 0 set.members) ≡ pos 0 = ap (net buys) (meet-zero set.members) ∙ net-zero buys in
    let number = some_of (listed_from set.low set.numbers (pos 0)) (each 0 set refl) in (
      number.0 +ℤ rest.0,
      ap (λ z. both (listed_from set.low set.numbers z) (count_sum buys (map term_of sets) 0)) none_in
          ∙ ap (λ o. both o (count_sum buys (map term_of sets) 0)) number.1
          ∙ ap (both (Some number.0)) rest.1,
    )
  where
    some_of : (o : Option ℤ) → IsSome o → (u : ℤ) × (o ≡ Some u)
    some_of (Some u) there = (u, refl)
    some_of None there = absurd (false≢true there)

empty_is_possible_of : (count buys : ℕ) (amounts : List ℤ) (sets : List LaminarSet) (masks : List Masks)
    → IsLaminar count buys amounts sets masks → MayAbstain (laminar_sum count buys amounts sets)
empty_is_possible_of count buys amounts sets masks is =
    let counted = empty_sum buys sets (λ k set e. (is.sound k set e).empty) in
    let own : 0 < 2 ^ count = pow_pos count in (
      sum_over (own_number amounts) count 0 +ℤ counted.0,
      ap (λ b. if b then both (Some (sum_over (own_number amounts) count 0)) (count_sum buys (map term_of sets) 0)
          else None) (lt-ltb 0 (2 ^ count) own)
          ∙ ap (both (Some (sum_over (own_number amounts) count 0))) counted.1,
    )

-- the amounts sum to at most 60 times 10^9
pub amounts_small : (count : ℕ) (amounts : List ℤ) (x : ℕ) → count ≤ most_own → length amounts ≡ count
    → All (λ a. IsAtMost a most_amount) amounts
    → IsAtMost (sum_over (own_number amounts) count x) (most_own * most_amount)
amounts_small count amounts x few as_many small =
    let sum = amounts_within count amounts x most_amount as_many small in
    let low = sum.low in
    let high = sum.high in
    record { low = omega (arith, ints, few, low); high = omega (arith, ints, few, high) }

small_numbers : (sets : List LaminarSet) → All HasNumbersWithin sets → All (HasNumbersUpTo most_amount) sets
small_numbers = All-weaker HasNumbersWithin (HasNumbersUpTo most_amount) (λ set numbered. numbered.small)

-- the numbers to at most 64 times
pub numbers_small : (buys x : ℕ) (sets : List LaminarSet) → length sets ≤ most_sets → All HasNumbersWithin sets
    → (u : ℤ) → count_sum buys (map term_of sets) x ≡ Some u → IsAtMost u (most_sets * most_amount)
numbers_small buys x sets few numbered u is =
    let sum = count_sum_within buys x sets most_amount (small_numbers sets numbered) u is in
    let low = sum.low in
    let high = sum.high in
    record { low = omega (arith, ints, few, low); high = omega (arith, ints, few, high) }

within_of : (count buys : ℕ) (amounts : List ℤ) (sets : List LaminarSet) (masks : List Masks)
    → IsLaminar count buys amounts sets masks → IsWorthAtMost most_worth (laminar_sum count buys amounts sets)
within_of count buys amounts sets masks is x a worth_is =
    let within = laminar_sum_within count buys amounts sets most_amount is.as_many is.small
    (small_numbers sets is.numbered) x a worth_is in
    let few = is.few in
    let few_sets = is.few_sets in
    smaller a ((count + length sets) * most_amount) most_worth (omega (arith, few, few_sets)) within

-- a laminar sum is a firm that may be asked, and no worth of it is above (60 + 64) * 10^9
pub laminar_sum_laws : (count buys : ℕ) (amounts : List ℤ) (sets : List LaminarSet) (masks : List Masks)
    → IsLaminar count buys amounts sets masks
    → IsLawful most_worth (laminar_sum count buys amounts sets)
laminar_sum_laws count buys amounts sets masks is =
    let few = is.few in
    let exchange = meets count buys amounts sets masks is in
    record {
      few_trades = omega (arith, few);
      own_purchases = is.bought;
      own_bundles = exchange.0;
      empty_is_possible = empty_is_possible_of count buys amounts sets masks is;
      exchange_one = exchange.1.one;
      exchange_net = exchange.1.net_count;
      within = within_of count buys amounts sets masks is;
      small_limit = omega arith;
    }

-- so is each laminar firm
pub laminar_laws : (firm : Laminar) → IsLawful most_worth (firm_of firm)
laminar_laws firm =
    laminar_sum_laws firm.trades firm.buys firm.amounts.items firm.sets.items firm.masks.items firm.laminar
