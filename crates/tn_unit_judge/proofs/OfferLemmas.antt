-- The taxed amounts and the offers, one by one.
use Rattle.std.proofs.Common.{◌≡◌, ◌≢◌, ℕ, suc, ◌+◌, ◌<◌, Bool, if◌then◌else◌, List, [], ◌∷◌, ◌++◌, length, refl, sym, ap, ◌∙◌, arith, inl, inr, ℤ, pos, ◌+ℤ◌}
use Rattle.std.specs.Prelude.{nat_lt}
use Rattle.std.proofs.lemmas.Int.{ints}
use Rattle.std.proofs.lemmas.Bool.{cases_eq, cases_lt, eq-eqb, le-ltb, lt-ltb, ne_eqb}
use Rattle.std.proofs.lemmas.List.{get_or-append-add, get_or_append_left, length-append}
use Rattle.std.proofs.lemmas.Option.{get_or_from_slice_get, slice_get-get_or, slice_get_within}
use Rattle.tn_links.specs.Totals.{total}
use Rattle.tn_counts.specs.Laminar.{amounts_at}
use Rattle.tn_counts.specs.Outcomes.{contract_at, signed_units}
use Rattle.tn_counts.specs.declared.contract.UnitContract.{UnitContract}
use Rattle.tn_counts.specs.declared.trade.UnitAmounts.{UnitAmounts}
use Rattle.tn_tree.specs.Lists.{count_in, price_in}
use Rattle.tn_unit_judge.specs.Blocks.{AreOffersTo, AreTaxed, less_one}
use Rattle.tn_unit_judge.proofs.BlockLemmas.{signed_append}
use Rattle.tn_unit_judge.proofs.FreeLemmas.{signed_cons}

-- ---- amounts

-- the amounts of the first so many parts
pub record AreTaxedTo (signed : ℕ) (amounts : List UnitAmounts) (j : ℕ) (made : List UnitAmounts) : Type 0 where
  pub sized : length made ≡ j
  pub each : (k : ℕ) → k < j
      → amounts_at made k ≡ (if nat_lt k signed then amounts_at amounts k else less_one (amounts_at amounts k))

pub taxed_more : (signed : ℕ) (amounts : List UnitAmounts) (j : ℕ) (made after : List UnitAmounts) (next : UnitAmounts)
    → AreTaxedTo signed amounts j made → after ≡ made ++ next ∷ []
    → next ≡ (if nat_lt j signed then amounts_at amounts j else less_one (amounts_at amounts j))
    → AreTaxedTo signed amounts (j + 1) after
taxed_more signed amounts j made after next taxed is last = record {
  sized =
      let sum = ap length is ∙ length-append made (next ∷ []) in
      let long = taxed.sized in
      omega (arith, sum, long);
  each = λ k below. elim (cases_lt k j) [
    | inl before ↦
        let long = taxed.sized in
        ap (λ (xs : List UnitAmounts). amounts_at xs k) is
        ∙ get_or_append_left made (next ∷ []) (record { seller = pos 0; buyer = pos 0 }) k (omega (arith, before, long))
        ∙ taxed.each k before
    | inr past ↦
        let long = taxed.sized in
        let place : k ≡ length made + 0 = omega (arith, past, below, long) in
        let same : j ≡ k = omega (arith, past, below) in
        ap (λ (xs : List UnitAmounts). amounts_at xs k) is
        ∙ ap (amounts_at (made ++ next ∷ [])) place
        ∙ get_or-append-add made (next ∷ []) 0 (record { seller = pos 0; buyer = pos 0 })
        ∙ last
        ∙ ap (λ (i : ℕ). if nat_lt i signed then amounts_at amounts i else less_one (amounts_at amounts i)) same
  ];
}

pub taxed_last : (signed : ℕ) (amounts : List UnitAmounts) (j : ℕ) (made : List UnitAmounts) → j ≡ length amounts
    → AreTaxedTo signed amounts j made → AreTaxed signed amounts made
taxed_last signed amounts j made same taxed = record {
  sized = taxed.sized ∙ same;
  each = λ k below. taxed.each k (omega (arith, below, same));
}

-- ---- offers

pub offers_first : (signed : ℕ) (sold : List ℕ) (prices : List ℤ) → AreOffersTo signed sold prices 0 []
offers_first signed sold prices = record {
  each = λ k offer at. absurd (let inside = slice_get_within [] k offer at in omega (arith, inside));
  all = λ t.
      sym (ap (λ (b : Bool). if b then count_in sold (signed + t) else 0) (le-ltb t 0 (omega arith)));
}

-- but for place j it doesn't matter whether that is counted
later : (t j : ℕ) → t ≢ j → (n : ℕ) → (if nat_lt t (j + 1) then n else 0) ≡ (if nat_lt t j then n else 0)
later t j other n = elim (cases_lt t j) [
  | inl below ↦
      ap (λ (b : Bool). if b then n else 0) (lt-ltb t (j + 1) (omega (arith, below)))
      ∙ sym (ap (λ (b : Bool). if b then n else 0) (lt-ltb t j below))
  | inr past ↦
      ap (λ (b : Bool). if b then n else 0) (le-ltb t (j + 1) (omega (arith, past, other)))
      ∙ sym (ap (λ (b : Bool). if b then n else 0) (le-ltb t j past))
]

pub offers_more : (signed : ℕ) (sold : List ℕ) (prices : List ℤ) (j : ℕ) (offers after : List UnitContract)
    (offer : UnitContract) → AreOffersTo signed sold prices j offers → after ≡ offers ++ offer ∷ []
    → offer.trade ≡ j → offer.units ≡ 1 → offer.price ≡ price_in prices (signed + j) → count_in sold (signed + j) ≡ 1
    → AreOffersTo signed sold prices (j + 1) after
offers_more signed sold prices j offers after offer made is trade units price one = record {
  each = λ k next at.
      let inside = slice_get_within after k next at in
      let sum = ap length is ∙ length-append offers (offer ∷ []) in
      let read = sym (get_or_from_slice_get after k next (record { trade = 0; units = 0; price = pos 0 }) at)
      ∙ ap (λ (xs : List UnitContract). contract_at xs k) is in
      elim (cases_lt k (length offers)) [
        | inl before ↦
            let same = read
            ∙ get_or_append_left offers (offer ∷ []) (record { trade = 0; units = 0; price = pos 0 }) k before in
            let own = made.each k (contract_at offers k)
            (slice_get-get_or offers k (record { trade = 0; units = 0; price = pos 0 }) before) in
            let below = own.0 in
            let moved = ap (λ (c : UnitContract). c.trade) same in (
              omega (arith, below, moved),
              ap (λ (c : UnitContract). c.units) same ∙ own.1,
              ap (λ (c : UnitContract). c.price) same ∙ own.2
                  ∙ ap (λ (t : ℕ). price_in prices (signed + t)) (sym moved),
            )
        | inr past ↦
            let place : k ≡ length offers + 0 = omega (arith, past, inside, sum) in
            let same = read ∙ ap (contract_at (offers ++ offer ∷ [])) place
            ∙ get_or-append-add offers (offer ∷ []) 0 (record { trade = 0; units = 0; price = pos 0 }) in
            let moved = ap (λ (c : UnitContract). c.trade) same in (
              omega (arith, moved, trade),
              ap (λ (c : UnitContract). c.units) same ∙ units,
              ap (λ (c : UnitContract). c.price) same ∙ price
                  ∙ ap (λ (t : ℕ). price_in prices (signed + t)) (sym (moved ∙ trade)),
            )
      ];
  all = λ t.
      let sum = ap (λ (xs : List UnitContract). signed_units xs t) is ∙ signed_append offers (offer ∷ []) t in
      let last = signed_cons offer [] t in
      let nothing : signed_units [] t ≡ 0 = refl in
      let before = made.all t in
      elim (cases_eq t j) [
        | inl same ↦
            let own = ap (λ (b : Bool). if b then offer.units else 0) (eq-eqb offer.trade t (trade ∙ sym same)) in
            let left = ap (λ (b : Bool). if b then count_in sold (signed + t) else 0) (le-ltb t j (omega (arith, same))) in
            let right = ap (λ (b : Bool). if b then count_in sold (signed + t) else 0)
            (lt-ltb t (j + 1) (omega (arith, same))) in
            let here = ap (λ (i : ℕ). count_in sold (signed + i)) same in
            omega (arith, sum, last, nothing, before, own, left, right, here, units, one)
        | inr other ↦
            let own = ap (λ (b : Bool). if b then offer.units else 0)
            (ne_eqb offer.trade t (λ e. other (sym e ∙ trade))) in
            let same = later t j other (count_in sold (signed + t)) in
            omega (arith, sum, last, nothing, before, own, same)
      ];
}

pub offers_skip : (signed : ℕ) (sold : List ℕ) (prices : List ℤ) (j : ℕ) (offers : List UnitContract)
    → AreOffersTo signed sold prices j offers → count_in sold (signed + j) ≡ 0
    → AreOffersTo signed sold prices (j + 1) offers
offers_skip signed sold prices j offers made none = record {
  each = λ k offer at. let own = made.each k offer at in let below = own.0 in (omega (arith, below), own.1, own.2);
  all = λ t. made.all t ∙ elim (cases_eq t j) [
    | inl same ↦
        let here = ap (λ (i : ℕ). count_in sold (signed + i)) same in
        ap (λ (b : Bool). if b then count_in sold (signed + t) else 0) (le-ltb t j (omega (arith, same)))
        ∙ sym (ap (λ (b : Bool). if b then count_in sold (signed + t) else 0) (lt-ltb t (j + 1) (omega (arith, same)))
        ∙ here ∙ none)
    | inr other ↦ sym (later t j other (count_in sold (signed + t)))
  ];
}

-- ---- a sum

pub sum_first : (units : List ℕ) → pos 0 ≡ total (λ t. pos (count_in units t)) 0
unfolding total
sum_first units = refl

pub sum_more : (units : List ℕ) (t sum next : ℕ) → next ≡ count_in units t
    → pos sum ≡ total (λ t. pos (count_in units t)) t → pos (sum + next) ≡ total (λ t. pos (count_in units t)) (t + 1)
unfolding total
sum_more units t sum next is before =
    let place : t + 1 ≡ suc t = omega arith in
    let last : total (λ t. pos (count_in units t)) (suc t)
    ≡ total (λ t. pos (count_in units t)) t +ℤ pos (count_in units t) = refl in
    let moved = ap (total (λ t. pos (count_in units t))) place in
    omega (arith, ints, is, before, last, moved)
