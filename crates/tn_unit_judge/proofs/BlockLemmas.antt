-- What a firm chooses among contracts and offers is what it chooses in the taxed market, with the tax given back.
use Rattle.std.proofs.Common.{◌≡◌, ℕ, suc, ◌+◌, ◌-◌, ◌*◌, ◌<◌, ◌≤◌, Bool, true, false, ◌==◌, if◌then◌else◌, List, [], ◌∷◌, ◌++◌, length, Option, Some, None, option_map, slice_get, refl, sym, ap, ap₂, ◌∙◌, arith, inl, inr, ℤ, pos, ◌+ℤ◌, ◌-ℤ◌, ◌*ℤ◌, ◌≤ℤ◌}
use Rattle.std.specs.Prelude.{◌<ℤ◌, nat_lt}
use Rattle.std.specs.List.{enumerate_from}
use Rattle.std.proofs.lemmas.Int.{ints}
use Rattle.std.proofs.lemmas.Bool.{cases_eq, eq-eqb, le-ltb, lt-ltb, ne_eqb}
use Rattle.std.proofs.lemmas.List.{get_or-append-add, get_or_append_left, length-append}
use Rattle.std.proofs.lemmas.List.FromFn.{get_or-map-range_with_len, length-map-range_with_len}
use Rattle.std.proofs.lemmas.List.Sums.{sum_by-cons}
use Rattle.std.proofs.lemmas.Option.{slice_get-get_or}
use Rattle.std.proofs.Math.IntN.{*ℤ-zero, zero-*ℤ}
use Rattle.tn_base.proofs.SumLemmas.{times-plus}
use Rattle.tn_links.specs.Totals.{total}
use Rattle.tn_links.proofs.TotalLemmas.{times-minus, total-most, total-plus, total-same, total-split, total-times, total-zero, total_one}
use Rattle.tn_counts.specs.Counts.{count_utility, paid_to, payments, trade_at}
use Rattle.tn_counts.specs.Laminar.{firm_of}
use Rattle.tn_counts.specs.Markets.{IsUnitMarket}
use Rattle.tn_counts.specs.Outcomes.{contract_at, counted, joined, prices_beside, signed_units, split_trades, together}
use Rattle.tn_counts.specs.declared.contract.UnitContract.{UnitContract}
use Rattle.tn_counts.specs.declared.market.Pin.{Pin}
use Rattle.tn_counts.specs.declared.market.UnitMarket.{UnitMarket}
use Rattle.tn_counts.specs.declared.trade.UnitTrade.{UnitTrade}
use Rattle.tn_counts.proofs.NetLemmas.{between_at}
use Rattle.tn_counts.proofs.SurplusLemmas.{worth_same}
use Rattle.tn_counts.proofs.UtilityLemmas.{when}
use Rattle.tn_tree.specs.Lists.{count_in, own_counts, price_in}
use Rattle.tn_tree.specs.Pinned.{IsSettledBeside}
use Rattle.tn_tree.specs.declared.beside.SettledBeside.{SettledBeside}
use Rattle.tn_unit_judge.specs.Blocks.{AreOffersTo, IsTaxedMarket}
use Rattle.tn_unit_judge.specs.Completion.{contract_pin, contract_pins}
use Rattle.tn_unit_judge.proofs.CompletionLemmas.{beside_free, beside_signed, counted_price, counted_sized, one_of, pin_read}
use Rattle.tn_unit_judge.proofs.FreeLemmas.{signed_cons}
use Rattle.tn_unit_judge.proofs.JoinLemmas.{AreKnown, scale_times, scale_units, signed_from, signed_sum}
use Rattle.tn_unit_judge.proofs.SplitLemmas.{split_firm, split_free, split_signed, split_sized, times_number}
use Rattle.tn_unit_judge.proofs.TaxLemmas.{free_paid, paid_parts, signed_paid, tax_of, worth_taxed}

-- ---- sums

-- one number less, and none more, make a sum less
pub total-less : (a b : ℕ → ℤ) (k n : ℕ) → k < n → ((j : ℕ) → j < n → a j ≤ℤ b j) → a k <ℤ b k
    → total a n <ℤ total b n
total-less a b k n inside most less =
    let one = total_one (pos 1) k n inside in
    let plus = total-plus a (λ v. if v == k then pos 1 else pos 0) n in
    let all = total-most (λ v. a v +ℤ (if v == k then pos 1 else pos 0)) b n each in
    omega (arith, ints, one, plus, all)
  where
    each : (j : ℕ) → j < n → (a j +ℤ (if j == k then pos 1 else pos 0)) ≤ℤ b j
    each j below = elim (cases_eq j k) [
      | inl same ↦
          let test = ap (λ (c : Bool). if c then pos 1 else pos 0) (eq-eqb j k same) in
          let first = ap a same in
          let second = ap b same in
          omega (arith, ints, test, first, second, less)
      | inr other ↦
          let test = ap (λ (c : Bool). if c then pos 1 else pos 0) (ne_eqb j k other) in
          let own = most j below in
          omega (arith, ints, test, own)
    ]

-- ---- contracts, and offers after them

pub signed_append : (contracts offers : List UnitContract) (t : ℕ)
    → signed_units (contracts ++ offers) t ≡ signed_units contracts t + signed_units offers t
signed_append [] offers t =
    let nothing : signed_units [] t ≡ 0 = refl in
    let same : signed_units ([] ++ offers) t ≡ signed_units offers t = refl in
    omega (arith, nothing, same)
signed_append (contract ∷ contracts) offers t =
    let rest = signed_append contracts offers t in
    let whole = signed_cons contract (contracts ++ offers) t in
    let own = signed_cons contract contracts t in
    omega (arith, rest, whole, own)

abbrev entry_on : (ℕ → ℕ) → ℕ → ℕ × UnitContract → ℕ
entry_on counts t entry = if entry.1.trade == t then counts entry.0 else 0

from_append : (contracts offers : List UnitContract) (counts : ℕ → ℕ) (i t : ℕ)
    → signed_from (contracts ++ offers) counts i t
    ≡ signed_from contracts counts i t + signed_from offers counts (i + length contracts) t
from_append [] offers counts i t =
    let place : i ≡ i + 0 = omega arith in
    let nothing : signed_from [] counts i t ≡ 0 = refl in
    let same : signed_from ([] ++ offers) counts i t ≡ signed_from offers counts i t = refl in
    let moved = ap (λ (j : ℕ). signed_from offers counts j t) place in
    omega (arith, nothing, same, moved)
from_append (contract ∷ contracts) offers counts i t =
    let rest = from_append contracts offers counts (i + 1) t in
    let place : i + 1 + length contracts ≡ i + suc (length contracts) = omega arith in
    let moved = ap (λ (j : ℕ). signed_from offers counts j t) place in
    let whole = sum_by-cons (entry_on counts t) (i, contract) (enumerate_from (i + 1) (contracts ++ offers)) in
    let own = sum_by-cons (entry_on counts t) (i, contract) (enumerate_from (i + 1) contracts) in
    omega (arith, rest, moved, whole, own)

from_same : (contracts : List UnitContract) (counts others : ℕ → ℕ) (i t : ℕ)
    → ((k : ℕ) → k < length contracts → counts (i + k) ≡ others (i + k))
    → signed_from contracts counts i t ≡ signed_from contracts others i t
from_same [] counts others i t same = refl
from_same (contract ∷ contracts) counts others i t same =
    let rest = from_same contracts counts others (i + 1) t (λ k below.
    let place : i + 1 + k ≡ i + suc k = omega arith in
    ap counts place ∙ same (suc k) (omega (arith, below)) ∙ sym (ap others place)) in
    let place : i + 0 ≡ i = omega arith in
    let here : counts i ≡ others i = sym (ap counts place) ∙ same 0 (omega arith) ∙ ap others place in
    let own = ap (λ (n : ℕ). if contract.trade == t then n else 0) here in
    let one = sum_by-cons (entry_on counts t) (i, contract) (enumerate_from (i + 1) contracts) in
    let other = sum_by-cons (entry_on others t) (i, contract) (enumerate_from (i + 1) contracts) in
    omega (arith, rest, own, one, other)

pub from_most : (contracts : List UnitContract) (counts : ℕ → ℕ) (i t : ℕ)
    → ((k : ℕ) → k < length contracts → counts (i + k) ≤ (contract_at contracts k).units)
    → signed_from contracts counts i t ≤ signed_units contracts t
from_most [] counts i t most = omega arith
from_most (contract ∷ contracts) counts i t most =
    let rest = from_most contracts counts (i + 1) t (λ k below.
    let place : i + 1 + k ≡ i + suc k = omega arith in
    let own = most (suc k) (omega (arith, below)) in
    let moved = ap counts place in
    omega (arith, own, moved)) in
    let place : i + 0 ≡ i = omega arith in
    let here = ap counts place in
    let first = most 0 (omega arith) in
    let one = sum_by-cons (entry_on counts t) (i, contract) (enumerate_from (i + 1) contracts) in
    let other = signed_cons contract contracts t in
    let own = by (contract.trade == t) (counts i) contract.units (omega (arith, here, first)) in
    omega (arith, rest, one, other, own)
  where
    by : (b : Bool) (n m : ℕ) → n ≤ m → (if b then n else 0) ≤ (if b then m else 0)
    by true n m below = below
    by false n m below = omega arith

-- ---- what is paid

pub paid_times : (over f : ℕ) (z : ℤ) (trade : UnitTrade)
    → paid_to f (pos over *ℤ z) trade ≡ pos over *ℤ paid_to f z trade
paid_times over f z trade = by (f == trade.seller) (f == trade.buyer)
  where
    by : (s b : Bool)
        → when s (pos over *ℤ z) -ℤ when b (pos over *ℤ z) ≡ pos over *ℤ (when s z -ℤ when b z)
    by true true = sym (times-minus (pos over) z z)
    by true false =
        let less = times-minus (pos over) z (pos 0) in
        let none = *ℤ-zero (pos over) in
        omega (arith, ints, less, none)
    by false true =
        let less = times-minus (pos over) (pos 0) z in
        let none = *ℤ-zero (pos over) in
        omega (arith, ints, less, none)
    by false false =
        let less = times-minus (pos over) (pos 0) (pos 0) in
        let none = *ℤ-zero (pos over) in
        omega (arith, ints, less, none)

pub none_paid : (f : ℕ) (trade : UnitTrade) → paid_to f (pos 0) trade ≡ pos 0
none_paid f trade = by (f == trade.seller) (f == trade.buyer)
  where
    by : (s b : Bool) → when s (pos 0) -ℤ when b (pos 0) ≡ pos 0
    by true true = refl
    by true false = refl
    by false true = refl
    by false false = refl

-- ---- a taxed market that is settled at the contracts' prices, and the offers that are made of it

module _ (market : UnitMarket) (over scale : ℕ) (contracts : List UnitContract) (free : ℕ → ℕ) (taxed : UnitMarket)
    (settled : SettledBeside) (market_is : IsUnitMarket market) (known : AreKnown (length market.trades.items) contracts)
    (is : IsTaxedMarket market (over * scale) contracts free taxed)
    (found : IsSettledBeside taxed (contract_pins (counted (pos scale) contracts)) settled) where
  abbrev trades : List UnitTrade
  trades = market.trades.items

  abbrev parts : List UnitTrade
  parts = split_trades market.trades.items contracts free

  abbrev prices : ℕ → ℤ
  prices = price_in settled.prices.items

  abbrev own : ℕ → ℕ → ℕ
  own f = own_counts taxed.trades.items settled.sold.items settled.bought.items f

  abbrev tax : ℕ → (ℕ → ℕ) → ℤ
  tax f counts = tax_of market.trades.items (length contracts) f counts

  pub taxed_trades : taxed.trades.items ≡ split_trades market.trades.items contracts free
  taxed_trades = is.trades ∙ is.is.trades

  pub taxed_firms : taxed.firms ≡ market.firms
  taxed_firms = is.firms ∙ is.is.firms

  pub taxed_sized : length taxed.trades.items ≡ length contracts + length market.trades.items
  taxed_sized = ap length taxed_trades ∙ split_sized market.trades.items contracts free

  pub price_signed : (k : ℕ) → k < length contracts
      → price_in settled.prices.items k ≡ pos scale *ℤ (contract_at contracts k).price
  price_signed k below =
      let long = counted_sized (pos scale) contracts in
      let inside : k < length (counted (pos scale) contracts) = omega (arith, below, long) in
      let pins : ℕ = length (contract_pins (counted (pos scale) contracts)) in
      let sized = length-map-range_with_len (contract_pin (counted (pos scale) contracts)) 0
      (length (counted (pos scale) contracts)) in
      found.given k (contract_pin (counted (pos scale) contracts) k)
      (slice_get-get_or (contract_pins (counted (pos scale) contracts)) k (contract_pin (counted (pos scale) contracts) k)
      (omega (arith, inside, sized))
      ∙ ap Some (get_or-map-range_with_len (contract_pin (counted (pos scale) contracts)) 0
      (length (counted (pos scale) contracts)) k k (contract_pin (counted (pos scale) contracts) k) inside (omega arith)))
      ∙ one_of (contract_at (counted (pos scale) contracts) k).price
      ∙ counted_price (pos scale) contracts k below

  pub utility_taxed : (f : ℕ) (counts : ℕ → ℕ)
      → count_utility taxed.trades.items (pos 1) (price_in settled.prices.items) f (firm_of taxed f) counts
      ≡ option_map (λ w. (pos (over * scale) *ℤ w -ℤ tax_of market.trades.items (length contracts) f counts)
      +ℤ payments (split_trades market.trades.items contracts free) (price_in settled.prices.items) f counts)
      ((split_firm market contracts f).worth counts)
  utility_taxed f counts =
      ap₂ (λ (ts : List UnitTrade) (o : Option ℤ). option_map (λ v. pos 1 *ℤ v +ℤ payments ts prices f counts) o)
      taxed_trades (worth_taxed market (over * scale) contracts free taxed f counts known is)
      ∙ by ((split_firm market contracts f).worth counts)
    where
      by : (o : Option ℤ)
          → option_map (λ v. pos 1 *ℤ v +ℤ payments parts prices f counts)
          (option_map (λ v. v -ℤ tax f counts) (times_number (over * scale) o))
          ≡ option_map (λ w. (pos (over * scale) *ℤ w -ℤ tax f counts) +ℤ payments parts prices f counts) o
      by None = refl
      by (Some w) = ap (λ (z : ℤ). Some (z +ℤ payments parts prices f counts)) (one_of (pos (over * scale) *ℤ w -ℤ tax f counts))

  -- of unsigned units as many are sold as bought, and no more than are free
  unpinned : (t k : ℕ) (pin : Pin) → slice_get (contract_pins (counted (pos scale) contracts)) k ≡ Some pin
      → pin.trade ≡ length contracts + t → ⊥
  unpinned t k pin at same =
      let long = counted_sized (pos scale) contracts in
      let read = pin_read (counted (pos scale) contracts) k pin at in
      let below = read.0 in
      let place = ap (λ (p : Pin). p.trade) read.1 in
      omega (arith, below, place, same, long)

  pub own_free : (f t : ℕ) → t < length market.trades.items
      → own_counts taxed.trades.items settled.sold.items settled.bought.items f (length contracts + t)
      ≡ count_in settled.sold.items (length contracts + t)
  own_free f t below = by (f == (trade_at taxed.trades.items (length contracts + t)).seller)
    where
      traded : count_in settled.sold.items (length contracts + t) ≡ count_in settled.bought.items (length contracts + t)
      traded = let long = taxed_sized in
          found.traded (length contracts + t) (omega (arith, below, long)) (λ k pin at. unpinned t k pin at)

      by : (b : Bool) → (if b then count_in settled.sold.items (length contracts + t)
          else count_in settled.bought.items (length contracts + t)) ≡ count_in settled.sold.items (length contracts + t)
      by true = refl
      by false = sym traded

  pub free_units : (t : ℕ) → t < length market.trades.items
      → (trade_at taxed.trades.items (length contracts + t)).units ≡ free t
  free_units t below = ap (λ (ts : List UnitTrade). (trade_at ts (length contracts + t)).units) taxed_trades
      ∙ ap (λ (p : UnitTrade). p.units) (split_free market.trades.items contracts free t below)

  pub signed_units_of : (k : ℕ) → k < length contracts
      → (trade_at taxed.trades.items k).units ≡ (contract_at contracts k).units
  signed_units_of k below = ap (λ (ts : List UnitTrade). (trade_at ts k).units) taxed_trades
      ∙ ap (λ (p : UnitTrade). p.units) (split_signed market.trades.items contracts free k below)

  pub sold_within : (t : ℕ) → t < length market.trades.items
      → count_in settled.sold.items (length contracts + t) ≤ free t
  sold_within t below =
      let s : ℕ = (trade_at trades t).seller in
      let there = (between_at market market_is t below).seller in
      let firms = taxed_firms in
      let long = taxed_sized in
      let best = found.best s (omega (arith, there, firms)) in
      let most = best.1.within (length contracts + t) (omega (arith, below, long)) in
      let same = own_free s t below in
      let units = free_units t below in
      omega (arith, most, same, units)

  -- ---- a choice among contracts and offers, and counts of the taxed market

  module _ (offers : List UnitContract)
      (made : AreOffersTo (length contracts) settled.sold.items settled.prices.items (length market.trades.items) offers) where
    abbrev all : List UnitContract
    all = contracts ++ offers

    abbrev beside : ℕ → ℤ
    beside = prices_beside (together (pos over) contracts (pos (over * scale)) offers) (λ t. pos 0)

    pub all_sized : length (contracts ++ offers) ≡ length contracts + length offers
    all_sized = length-append contracts offers

    together_sized : length (together (pos over) contracts (pos (over * scale)) offers) ≡ length contracts + length offers
    together_sized =
        let sum = length-append (counted (pos (over * scale)) contracts) (counted (pos over) offers) in
        let first = counted_sized (pos (over * scale)) contracts in
        let second = counted_sized (pos over) offers in
        omega (arith, sum, first, second)

    pub all_signed_at : (k : ℕ) → k < length contracts → contract_at (contracts ++ offers) k ≡ contract_at contracts k
    all_signed_at k below = get_or_append_left contracts offers (record { trade = 0; units = 0; price = pos 0 }) k below

    pub all_offered_at : (j : ℕ) → contract_at (contracts ++ offers) (length contracts + j) ≡ contract_at offers j
    all_offered_at j = get_or-append-add contracts offers j (record { trade = 0; units = 0; price = pos 0 })

    beside_contract : (k : ℕ) → k < length contracts
        → beside k ≡ pos over *ℤ price_in settled.prices.items k
    beside_contract k below =
        let long = together_sized in
        let sized = counted_sized (pos (over * scale)) contracts in
        let product : pos (over * scale) ≡ pos over *ℤ pos scale = refl in
        beside_signed (together (pos over) contracts (pos (over * scale)) offers) (λ t. pos 0) k (omega (arith, below, long))
        ∙ ap (λ (c : UnitContract). c.price) (get_or_append_left (counted (pos (over * scale)) contracts)
        (counted (pos over) offers) (record { trade = 0; units = 0; price = pos 0 }) k (omega (arith, below, sized)))
        ∙ counted_price (pos (over * scale)) contracts k below
        ∙ ap (λ (z : ℤ). z *ℤ (contract_at contracts k).price) product
        ∙ scale_times (pos over) (pos scale) (contract_at contracts k).price
        ∙ sym (ap (λ (z : ℤ). pos over *ℤ z) (price_signed k below))

    pub offer_read : (j : ℕ) → j < length offers → slice_get offers j ≡ Some (contract_at offers j)
    offer_read j below = slice_get-get_or offers j (record { trade = 0; units = 0; price = pos 0 }) below

    beside_offer : (j : ℕ) → j < length offers → beside (length contracts + j)
        ≡ pos over *ℤ price_in settled.prices.items (length contracts + (contract_at offers j).trade)
    beside_offer j below =
        let long = together_sized in
        let sized = counted_sized (pos (over * scale)) contracts in
        let place : length contracts + j ≡ length (counted (pos (over * scale)) contracts) + j = omega (arith, sized) in
        beside_signed (together (pos over) contracts (pos (over * scale)) offers) (λ t. pos 0) (length contracts + j)
        (omega (arith, below, long))
        ∙ ap (λ (k : ℕ). (contract_at (together (pos over) contracts (pos (over * scale)) offers) k).price) place
        ∙ ap (λ (c : UnitContract). c.price) (get_or-append-add (counted (pos (over * scale)) contracts)
        (counted (pos over) offers) j (record { trade = 0; units = 0; price = pos 0 }))
        ∙ counted_price (pos over) offers j below
        ∙ ap (λ (z : ℤ). pos over *ℤ z) (made.each j (contract_at offers j) (offer_read j below)).2

    pub known_offers : AreKnown (length market.trades.items) offers
    known_offers k offer at = (made.each k offer at).0

    -- the counts of the taxed market that a choice is
    abbrev pub taxed_counts : (ℕ → ℕ) → ℕ → ℕ
    taxed_counts counts k =
        if nat_lt k (length contracts) then counts k
        else signed_from offers counts (length contracts) (k - length contracts)

    pub taxed_signed : (counts : ℕ → ℕ) (k : ℕ) → k < length contracts → taxed_counts counts k ≡ counts k
    taxed_signed counts k below = ap (λ (b : Bool). if b then counts k
        else signed_from offers counts (length contracts) (k - length contracts)) (lt-ltb k (length contracts) below)

    pub taxed_free : (counts : ℕ → ℕ) (t : ℕ)
        → taxed_counts counts (length contracts + t) ≡ signed_from offers counts (length contracts) t
    taxed_free counts t =
        let place : length contracts + t - length contracts ≡ t = omega arith in
        ap (λ (b : Bool). if b then counts (length contracts + t)
        else signed_from offers counts (length contracts) (length contracts + t - length contracts))
        (le-ltb (length contracts + t) (length contracts) (omega arith))
        ∙ ap (signed_from offers counts (length contracts)) place

    -- what is paid for it is that of the taxed market, over the outcome's denominator once more
    pub paid_all : (f : ℕ) (counts : ℕ → ℕ)
        → payments (split_trades market.trades.items (contracts ++ offers) (λ t. 0)) beside f counts
        ≡ pos over *ℤ payments (split_trades market.trades.items contracts free) (price_in settled.prices.items) f
        (taxed_counts counts)
    paid_all f counts =
        let whole = paid_parts trades all (λ t. 0) beside f counts in
        let none = total-zero
        (λ t. paid_to f (beside (length all + t)) (trade_at trades t) *ℤ pos (counts (length all + t))) (length trades)
        unpriced in
        let sized = ap (total term) all_sized in
        let split = total-split term (length contracts) (length offers) in
        let first = total-same term (λ k. pos over *ℤ (paid_to f (prices k) (trade_at trades (contract_at contracts k).trade)
        *ℤ pos (counts k))) (length contracts) signed in
        let first_times = total-times (pos over)
        (λ k. paid_to f (prices k) (trade_at trades (contract_at contracts k).trade) *ℤ pos (counts k)) (length contracts) in
        let second = total-same (λ j. term (length contracts + j))
        (λ j. pos over *ℤ (rate (contract_at offers j).trade *ℤ pos (counts (length contracts + j)))) (length offers) offered in
        let second_times = total-times (pos over)
        (λ j. rate (contract_at offers j).trade *ℤ pos (counts (length contracts + j))) (length offers) in
        let sum = signed_sum rate counts (length trades) offers (length contracts) known_offers in
        let back = paid_parts trades contracts free prices f (taxed_counts counts) in
        let back_signed = total-same
        (λ k. paid_to f (prices k) (trade_at trades (contract_at contracts k).trade) *ℤ pos (taxed_counts counts k))
        (λ k. paid_to f (prices k) (trade_at trades (contract_at contracts k).trade) *ℤ pos (counts k)) (length contracts)
        (λ k below. ap (λ (n : ℕ). paid_to f (prices k) (trade_at trades (contract_at contracts k).trade) *ℤ pos n)
        (taxed_signed counts k below)) in
        let back_free = total-same (λ t. rate t *ℤ pos (taxed_counts counts (length contracts + t)))
        (λ t. rate t *ℤ pos (signed_from offers counts (length contracts) t)) (length trades)
        (λ t below. ap (λ (n : ℕ). rate t *ℤ pos n) (taxed_free counts t)) in
        let product = times-plus (pos over) (signed_paid trades contracts prices f (taxed_counts counts))
        (free_paid trades (λ t. prices (length contracts + t)) f (λ t. taxed_counts counts (length contracts + t))) in
        let scaled = ap (λ (z : ℤ). pos over *ℤ z) back in
        let signed_over = ap (λ (z : ℤ). pos over *ℤ z) back_signed in
        let free_over = ap (λ (z : ℤ). pos over *ℤ z) (back_free ∙ sum) in
        omega (
          arith,
          ints,
          whole,
          none,
          sized,
          split,
          first,
          first_times,
          second,
          second_times,
          product,
          scaled,
          signed_over,
          free_over,
        )
      where
        term : ℕ → ℤ
        term k = paid_to f (beside k) (trade_at trades (contract_at all k).trade) *ℤ pos (counts k)

        rate : ℕ → ℤ
        rate t = paid_to f (prices (length contracts + t)) (trade_at trades t)

        unpriced : (t : ℕ) → t < length trades
            → paid_to f (beside (length all + t)) (trade_at trades t) *ℤ pos (counts (length all + t)) ≡ pos 0
        unpriced t below =
            let long = together_sized in
            let sized = all_sized in
            ap (λ (z : ℤ). paid_to f z (trade_at trades t) *ℤ pos (counts (length all + t)))
            (beside_free (together (pos over) contracts (pos (over * scale)) offers) (λ t. pos 0) (length all + t)
            (omega (arith, long, sized)))
            ∙ ap (λ (z : ℤ). z *ℤ pos (counts (length all + t))) (none_paid f (trade_at trades t))
            ∙ zero-*ℤ (pos (counts (length all + t)))

        moved : (z : ℤ) (trade : UnitTrade) (n : ℕ)
            → paid_to f (pos over *ℤ z) trade *ℤ pos n ≡ pos over *ℤ (paid_to f z trade *ℤ pos n)
        moved z trade n = ap (λ (y : ℤ). y *ℤ pos n) (paid_times over f z trade)
            ∙ scale_units (pos over) (paid_to f z trade) n

        signed : (k : ℕ) → k < length contracts → term k
            ≡ pos over *ℤ (paid_to f (prices k) (trade_at trades (contract_at contracts k).trade) *ℤ pos (counts k))
        signed k below =
            ap₂ (λ (z : ℤ) (c : UnitContract). paid_to f z (trade_at trades c.trade) *ℤ pos (counts k))
            (beside_contract k below) (all_signed_at k below)
            ∙ moved (prices k) (trade_at trades (contract_at contracts k).trade) (counts k)

        offered : (j : ℕ) → j < length offers → term (length contracts + j)
            ≡ pos over *ℤ (rate (contract_at offers j).trade *ℤ pos (counts (length contracts + j)))
        offered j below =
            ap₂ (λ (z : ℤ) (c : UnitContract). paid_to f z (trade_at trades c.trade) *ℤ pos (counts (length contracts + j)))
            (beside_offer j below) (all_offered_at j)
            ∙ moved (prices (length contracts + (contract_at offers j).trade)) (trade_at trades (contract_at offers j).trade)
            (counts (length contracts + j))

    -- and it is worth as much
    pub worth_all : (f : ℕ) (counts : ℕ → ℕ)
        → ((t : ℕ) → t < length market.trades.items → counts (length (contracts ++ offers) + t) ≡ 0)
        → (split_firm market (contracts ++ offers) f).worth counts ≡ (split_firm market contracts f).worth (taxed_counts counts)
    worth_all f counts none =
        worth_same market f (joined all counts) (joined contracts (taxed_counts counts)) (λ t below.
        let zero_is = none t below in
        let sum = from_append contracts offers counts 0 t in
        let own = from_same contracts (taxed_counts counts) counts 0 t (λ k inside.
        let plain : 0 + k ≡ k = omega arith in
        ap (taxed_counts counts) plain ∙ taxed_signed counts k inside ∙ sym (ap counts plain)) in
        let units = taxed_free counts t in
        let place : 0 + length contracts ≡ length contracts = omega arith in
        let moved = ap (λ (i : ℕ). signed_from offers counts i t) place in
        omega (arith, zero_is, sum, own, units, moved))

    pub utility_all : (f : ℕ) (counts : ℕ → ℕ)
        → ((t : ℕ) → t < length market.trades.items → counts (length (contracts ++ offers) + t) ≡ 0)
        → count_utility (split_trades market.trades.items (contracts ++ offers) (λ t. 0)) (pos over *ℤ pos (over * scale)) beside
        f (split_firm market (contracts ++ offers) f) counts
        ≡ option_map (λ w. pos over *ℤ (pos (over * scale) *ℤ w +ℤ payments (split_trades market.trades.items contracts free)
        (price_in settled.prices.items) f (taxed_counts counts))) ((split_firm market contracts f).worth (taxed_counts counts))
    utility_all f counts none =
        ap (option_map (λ v. (pos over *ℤ pos (over * scale)) *ℤ v
        +ℤ payments (split_trades market.trades.items (contracts ++ offers) (λ t. 0)) beside f counts)) (worth_all f counts none)
        ∙ by ((split_firm market contracts f).worth (taxed_counts counts))
      where
        paid : ℤ
        paid = payments (split_trades market.trades.items contracts free) (price_in settled.prices.items) f (taxed_counts counts)

        paid_choice : ℤ
        paid_choice = payments (split_trades market.trades.items (contracts ++ offers) (λ t. 0)) beside f counts

        by : (o : Option ℤ) → option_map (λ v. (pos over *ℤ pos (over * scale)) *ℤ v +ℤ paid_choice) o
            ≡ option_map (λ w. pos over *ℤ (pos (over * scale) *ℤ w +ℤ paid)) o
        by None = refl
        by (Some w) =
            let own = paid_all f counts in
            let scaled = scale_times (pos over) (pos (over * scale)) w in
            let sum = times-plus (pos over) (pos (over * scale) *ℤ w) paid in
            let whole : (pos over *ℤ pos (over * scale)) *ℤ w +ℤ paid_choice
            ≡ pos over *ℤ (pos (over * scale) *ℤ w +ℤ paid) = omega (arith, ints, own, scaled, sum) in
            ap (λ (z : ℤ). Some z) whole
