-- What is tested of two lists of numbers holds however long the path is.
use Rattle.std.proofs.Common.{◌≡◌, ℕ, Bool, true, false, not, if◌then◌else◌, refl, sym, ap, arith, List, Option, Some, None, ℤ, pos, ◌+ℤ◌, ◌-ℤ◌}
use Rattle.std.specs.Prelude.{◌≤ℤ◌, ◌<ℤ◌, int_lt}
use Rattle.std.proofs.lemmas.Int.{ints}
use Rattle.tn_base.specs.Arcs.{IsAtMost}
use Rattle.tn_base.specs.Sets.{minus, sum_over}
use Rattle.tn_base.proofs.SetLemmas.{has_from_minus-zero}
use Rattle.tn_dealer.specs.declared.pair.Pair.{Pair}
use Rattle.tn_dealer.specs.Pairs.{matched_worth}
use Rattle.tn_dealer.specs.Certificates.{KeepsPairs}
use Rattle.tn_market.specs.OwnNumbers.{own_number}
use Rattle.tn_dealer.specs.Paths.{number_to, own_number_to}
use Rattle.tn_dealer.specs.WorthLemmas.{AreOwnPairs}
use Rattle.tn_dealer.proofs.CertificateLemmas.{weak_duality}
use Rattle.tn_market.specs.Widths.{most_worth}

-- a number that rises is at most both, and one that falls is one of both
raised_small : (distance near far : ℤ) → (number_to true distance near far ≤ℤ far)
    × (number_to true distance near far ≤ℤ (near +ℤ distance))
raised_small distance near far = by (int_lt far (near +ℤ distance)) refl
  where
    by : (b : Bool) → int_lt far (near +ℤ distance) ≡ b → ((if b then far else near +ℤ distance) ≤ℤ far)
        × ((if b then far else near +ℤ distance) ≤ℤ (near +ℤ distance))
    by true less = (omega (arith, ints), grind (arith, ints, less))
    by false not_less = (grind (arith, ints, not_less), omega (arith, ints))

first_sum : (z distance near near' cost : ℤ) → z ≤ℤ (near +ℤ distance) → (near +ℤ near') ≤ℤ cost
    → (z +ℤ (near' -ℤ distance)) ≤ℤ cost
first_sum z distance near near' cost small p = omega (arith, ints, small, p)

second_sum : (z far far' cost : ℤ) → z ≤ℤ far → (far +ℤ far') ≤ℤ cost → (z +ℤ far') ≤ℤ cost
second_sum z far far' cost small p = omega (arith, ints, small, p)

-- so one of each sum to at most what the numbers for no path and those for the longest sum to
rise_and_fall : (distance near far near' far' cost : ℤ) → (near +ℤ near') ≤ℤ cost → (far +ℤ far') ≤ℤ cost
    → (number_to true distance near far +ℤ number_to false distance near' far') ≤ℤ cost
rise_and_fall distance near far near' far' cost p q = by (int_lt far' (near' -ℤ distance))
  where
    by : (b : Bool) → (number_to true distance near far +ℤ (if b then near' -ℤ distance else far')) ≤ℤ cost
    by true = first_sum _ distance near near' cost (raised_small distance near far).1 p
    by false = second_sum _ far far' cost (raised_small distance near far).0 q

same_sum : (a b a' b' cost : ℤ) → a ≡ a' → b ≡ b' → (a' +ℤ b') ≤ℤ cost → (a +ℤ b) ≤ℤ cost
same_sum a b a' b' cost p q small = omega (arith, ints, p, q, small)

turned : (a b cost : ℤ) → (b +ℤ a) ≤ℤ cost → (a +ℤ b) ≤ℤ cost
turned a b cost small = omega (arith, ints, small)

-- of each pair of a bundle of these trades the numbers sum to at most its cost
pub keeps_to : (count buys : ℕ) (bought_rise : Bool) (distance : ℤ) (near far : List ℤ) (within x : ℕ)
    (pairs : List Pair) → AreOwnPairs count buys pairs
    → KeepsPairs true (own_number near) within pairs → KeepsPairs true (own_number far) within pairs
    → minus x within ≡ 0 → KeepsPairs true (own_number_to bought_rise buys distance near far) x pairs
keeps_to count buys bought_rise distance near far within x pairs own keeps_near keeps_far inside k pair is buy sell =
    let here = own k pair is in
    let there_buy = has_from_minus-zero x within pair.buy inside buy in
    let there_sell = has_from_minus-zero x within pair.sell inside sell in
    same_sum _ _ _ _ pair.cost
    (ap (λ (b : Bool). number_to (if bought_rise then b else not b) distance (own_number near pair.buy)
    (own_number far pair.buy)) here.bought)
    (ap (λ (b : Bool). number_to (if bought_rise then b else not b) distance (own_number near pair.sell)
    (own_number far pair.sell)) here.sold)
    (by bought_rise (keeps_near k pair is there_buy there_sell) (keeps_far k pair is there_buy there_sell))
  where
    by : (rise : Bool) → (own_number near pair.buy +ℤ own_number near pair.sell) ≤ℤ pair.cost
        → (own_number far pair.buy +ℤ own_number far pair.sell) ≤ℤ pair.cost
        → (number_to (if rise then true else not true) distance (own_number near pair.buy) (own_number far pair.buy)
        +ℤ number_to (if rise then false else not false) distance (own_number near pair.sell)
        (own_number far pair.sell)) ≤ℤ pair.cost
    by true p q = rise_and_fall distance (own_number near pair.buy) (own_number far pair.buy)
        (own_number near pair.sell) (own_number far pair.sell) pair.cost p q
    by false p q = turned (number_to false distance (own_number near pair.buy) (own_number far pair.buy))
        (number_to true distance (own_number near pair.sell) (own_number far pair.sell)) pair.cost
        (rise_and_fall distance (own_number near pair.sell) (own_number far pair.sell) (own_number near pair.buy)
        (own_number far pair.buy) pair.cost (turned (own_number near pair.sell) (own_number near pair.buy) pair.cost p)
        (turned (own_number far pair.sell) (own_number far pair.buy) pair.cost q))

-- a bundle whose numbers sum to more than any worth is impossible
pub shows_far : (count buys : ℕ) (number : ℕ → ℤ) (pairs : List Pair) → AreOwnPairs count buys pairs → (x : ℕ)
    → ((a : ℤ) → matched_worth pairs x ≡ Some a → IsAtMost a most_worth)
    → pos most_worth <ℤ sum_over number count x → KeepsPairs true number x pairs → None ≡ matched_worth pairs x
shows_far count buys number pairs own x small more keeps = by (matched_worth pairs x) refl
  where
    by : (o : Option ℤ) → matched_worth pairs x ≡ o → None ≡ matched_worth pairs x
    by None e = sym e
    by (Some a) e = absurd (let most = weak_duality count buys true number pairs own x a e keeps in
        let low = (small a e).low in omega (arith, ints, most, more, low))
