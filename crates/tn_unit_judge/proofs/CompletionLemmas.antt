-- Prices of the split network of which the unsigned units are free are prices that complete the outcome, and where there are
-- none, no prices complete it.
use Rattle.std.proofs.Common.{◌≡◌, ℕ, zero, suc, ◌+◌, ◌-◌, ◌<◌, ◌≤◌, ◌⊎◌, inl, inr, Bool, ◌==◌, if◌then◌else◌, List, [], ◌∷◌, ◌++◌, length, map, Option, Some, None, option_map, slice_get, refl, sym, ap, ap₂, ◌∙◌, subst, arith, ℤ, pos, ◌+ℤ◌, ◌*ℤ◌}
use Rattle.std.specs.List.{enumerate_from, range_with_len}
use Rattle.std.proofs.lemmas.Int.{ints}
use Rattle.std.proofs.lemmas.Bool.{cases_lt, le-ltb, lt-ltb}
use Rattle.std.proofs.lemmas.List.{length-map}
use Rattle.std.proofs.lemmas.List.Elements.{All-from_get_or}
use Rattle.std.proofs.lemmas.List.FromFn.{get_or-map-range_with_len, length-map-range_with_len}
use Rattle.std.proofs.lemmas.List.Sums.{sum_by-cons}
use Rattle.std.proofs.lemmas.Option.{get_or_from_slice_get, none-some, slice_get-get_or, slice_get_within}
use Rattle.std.proofs.Math.IntN.{*ℤ-one, *ℤ-zero, *ℤ_comm}
use Rattle.tn_base.specs.Arcs.{IsAtMost}
use Rattle.tn_links.proofs.TotalLemmas.{total-same}
use Rattle.tn_links.specs.Widths.{most_each}
use Rattle.tn_counts.specs.Counts.{AreCounts, CountFirm, IsBestCount, IsEquilibriumByCounts, count_utility, paid_to, payments, trade_at}
use Rattle.tn_counts.specs.Laminar.{firm_of, firms_of}
use Rattle.tn_counts.specs.Markets.{ArePins, IsUnitMarket}
use Rattle.tn_counts.specs.Outcomes.{CompletesByCounts, IsRationalByCounts, all_signed, contract_at, counted, joined, prices_beside, signed_units, split_trades, units_of, unsigned_units}
use Rattle.tn_counts.specs.Widths.{most_unit_price}
use Rattle.tn_counts.specs.declared.contract.UnitContract.{UnitContract}
use Rattle.tn_counts.specs.declared.market.Pin.{Pin}
use Rattle.tn_counts.specs.declared.market.UnitMarket.{UnitMarket}
use Rattle.tn_counts.specs.declared.trade.UnitTrade.{UnitTrade}
use Rattle.tn_counts.proofs.BoundLemmas.{firm_there}
use Rattle.tn_counts.proofs.SurplusLemmas.{best_same, firm_at, worth_same}
use Rattle.tn_tree.specs.Levels.{ArePossible}
use Rattle.tn_tree.specs.Lists.{count_in, price_in}
use Rattle.tn_tree.specs.Pinned.{ArePricesBeside, AreUnsupportedBeside, HavePins, most_beside_price}
use Rattle.tn_unit_judge.specs.Completion.{AreCompleting, IsIncomplete, IsPriceOf, contract_pin, contract_pins}
use Rattle.tn_unit_judge.specs.Split.{IsSplitMarket, signed_counts}
use Rattle.tn_unit_judge.proofs.JoinLemmas.{AreKnown, signed_from, signed_is}
use Rattle.tn_unit_judge.proofs.SplitLemmas.{split_firm, split_free, split_sized, times_number, utility_split, worth_split}
use Rattle.tn_unit_judge.proofs.DropLemmas.{count_at, firm_split, split_same, split_there}
use Rattle.tn_unit_judge.proofs.FreeLemmas.{signed_least}
use Rattle.tn_unit_judge.proofs.TwinLemmas.{twins_same}

-- ---- contracts whose prices are counted many times

pub counted_sized : (e : ℤ) (contracts : List UnitContract) → length (counted e contracts) ≡ length contracts
counted_sized e contracts =
    length-map contracts (λ contract. record { trade = contract.trade; units = contract.units; price = e *ℤ contract.price })

counted_units : (e : ℤ) (contracts : List UnitContract) (k : ℕ)
    → all_signed (counted e contracts) k ≡ all_signed contracts k
counted_units e [] k = refl
counted_units e (contract ∷ contracts) zero = refl
counted_units e (contract ∷ contracts) (suc k) = counted_units e contracts k

pub counted_price : (e : ℤ) (contracts : List UnitContract) (k : ℕ) → k < length contracts
    → (contract_at (counted e contracts) k).price ≡ e *ℤ (contract_at contracts k).price
counted_price e [] k below = absurd (omega (arith, below))
counted_price e (contract ∷ contracts) zero below = refl
counted_price e (contract ∷ contracts) (suc k) below = counted_price e contracts k (omega (arith, below))

counted_from : (e : ℤ) (contracts : List UnitContract) (counts : ℕ → ℕ) (i t : ℕ)
    → signed_from (counted e contracts) counts i t ≡ signed_from contracts counts i t
counted_from e [] counts i t = refl
counted_from e (contract ∷ contracts) counts i t =
    let rest = counted_from e contracts counts (i + 1) t in
    let one = sum_by-cons (λ (entry : ℕ × UnitContract). if entry.1.trade == t then counts entry.0 else 0)
    (i, record { trade = contract.trade; units = contract.units; price = e *ℤ contract.price })
    (enumerate_from (i + 1) (counted e contracts)) in
    let other = sum_by-cons (λ (entry : ℕ × UnitContract). if entry.1.trade == t then counts entry.0 else 0)
    (i, contract) (enumerate_from (i + 1) contracts) in
    omega (arith, rest, one, other)

counted_joined : (e : ℤ) (contracts : List UnitContract) (counts : ℕ → ℕ) (t : ℕ)
    → joined (counted e contracts) counts t ≡ joined contracts counts t
counted_joined e contracts counts t =
    ap₂ (λ (n : ℕ) (m : ℕ). counts (n + t) + m) (counted_sized e contracts) (counted_from e contracts counts 0 t)

counted_signed : (e : ℤ) (contracts : List UnitContract) (t : ℕ)
    → signed_units (counted e contracts) t ≡ signed_units contracts t
counted_signed e contracts t =
    sym (signed_is (counted e contracts) (all_signed contracts) 0 t
    (λ k below. ap (all_signed contracts) (plain k) ∙ sym (counted_units e contracts k)))
    ∙ counted_from e contracts (all_signed contracts) 0 t
    ∙ signed_is contracts (all_signed contracts) 0 t (λ k below. ap (all_signed contracts) (plain k))
  where
    plain : (k : ℕ) → 0 + k ≡ k
    plain k = omega arith

counted_parts : (e : ℤ) (trades : List UnitTrade) (contracts : List UnitContract)
    → map (λ contract. units_of trades contract.trade contract.units) (counted e contracts)
    ≡ map (λ contract. units_of trades contract.trade contract.units) contracts
counted_parts e trades [] = refl
counted_parts e trades (contract ∷ contracts) =
    ap (λ xs. units_of trades contract.trade contract.units ∷ xs) (counted_parts e trades contracts)

counted_trades : (e : ℤ) (trades : List UnitTrade) (contracts : List UnitContract)
    → split_trades trades (counted e contracts) (unsigned_units trades (counted e contracts))
    ≡ split_trades trades contracts (unsigned_units trades contracts)
counted_trades e trades contracts =
    split_same trades (counted e contracts) (unsigned_units trades (counted e contracts)) (unsigned_units trades contracts)
    (λ t below. ap (λ (n : ℕ). (trade_at trades t).units - n) (counted_signed e contracts t))
    ∙ ap (λ xs. xs ++ map (λ t. units_of trades t (unsigned_units trades contracts t)) (range_with_len 0 (length trades)))
    (counted_parts e trades contracts)

-- ---- what is best stays so

best_by : (trades others : List UnitTrade) (value_of value_on : (ℕ → ℕ) → Option ℤ) (counts : ℕ → ℕ) (value : ℤ)
    → trades ≡ others → ((c : ℕ → ℕ) → value_of c ≡ value_on c) → IsBestCount trades value_of counts value
    → IsBestCount others value_on counts value
best_by trades others value_of value_on counts value same equal best = record {
  within = subst (λ ts. AreCounts ts counts) same best.within;
  is = sym (equal counts) ∙ best.is;
  most = λ c other inside has.
      best.most c other (subst (λ ts. AreCounts ts c) (sym same) inside) (equal c ∙ has);
}

-- prices of trades without a unit don't matter
best_priced : (trades : List UnitTrade) (scale : ℤ) (prices others : ℕ → ℤ) (f : ℕ) (firm : CountFirm) (counts : ℕ → ℕ)
    (value : ℤ) → ((t : ℕ) → t < length trades → (prices t ≡ others t) ⊎ ((trade_at trades t).units ≡ 0))
    → IsBestCount trades (count_utility trades scale prices f firm) counts value
    → IsBestCount trades (count_utility trades scale others f firm) counts value
best_priced trades scale prices others f firm counts value same best = record {
  within = best.within;
  is = sym (utility counts best.within) ∙ best.is;
  most = λ c other inside has. best.most c other inside (utility c inside ∙ has);
}
  where
    each : (c : ℕ → ℕ) → AreCounts trades c → (t : ℕ) → t < length trades
        → paid_to f (prices t) (trade_at trades t) *ℤ pos (c t) ≡ paid_to f (others t) (trade_at trades t) *ℤ pos (c t)
    each c inside t below = elim (same t below) [
      | inl equal ↦ ap (λ (z : ℤ). paid_to f z (trade_at trades t) *ℤ pos (c t)) equal
      | inr none ↦
          let most = inside t below in
          let zero_is : c t ≡ 0 = omega (arith, most, none) in
          ap (λ (n : ℕ). paid_to f (prices t) (trade_at trades t) *ℤ pos n) zero_is
          ∙ *ℤ-zero (paid_to f (prices t) (trade_at trades t))
          ∙ sym (*ℤ-zero (paid_to f (others t) (trade_at trades t)))
          ∙ sym (ap (λ (n : ℕ). paid_to f (others t) (trade_at trades t) *ℤ pos n) zero_is)
    ]

    utility : (c : ℕ → ℕ) → AreCounts trades c
        → count_utility trades scale prices f firm c ≡ count_utility trades scale others f firm c
    utility c inside =
        ap (λ (z : ℤ). option_map (λ worth. scale *ℤ worth +ℤ z) (firm.worth c))
        (total-same (λ t. paid_to f (prices t) (trade_at trades t) *ℤ pos (c t))
        (λ t. paid_to f (others t) (trade_at trades t) *ℤ pos (c t)) (length trades) (each c inside))

pub beside_signed : (contracts : List UnitContract) (prices : ℕ → ℤ) (k : ℕ) → k < length contracts
    → prices_beside contracts prices k ≡ (contract_at contracts k).price
beside_signed contracts prices k below =
    ap (λ (b : Bool). if b then (contract_at contracts k).price else prices (k - length contracts))
    (lt-ltb k (length contracts) below)

pub beside_free : (contracts : List UnitContract) (prices : ℕ → ℤ) (k : ℕ) → length contracts ≤ k
    → prices_beside contracts prices k ≡ prices (k - length contracts)
beside_free contracts prices k past =
    ap (λ (b : Bool). if b then (contract_at contracts k).price else prices (k - length contracts))
    (le-ltb k (length contracts) past)

-- so prices of trades all of whose units are signed don't matter
completes_same : (firms : List CountFirm) (trades : List UnitTrade) (over : ℤ) (contracts : List UnitContract)
    (prices others : ℕ → ℤ)
    → ((t : ℕ) → t < length trades → (prices t ≡ others t) ⊎ (unsigned_units trades contracts t ≡ 0))
    → CompletesByCounts firms trades over contracts prices → CompletesByCounts firms trades over contracts others
completes_same firms trades over contracts prices others same completes f firm at =
    let best = completes f firm at in (
      best.0,
      best_priced (split_trades trades contracts (unsigned_units trades contracts)) over (prices_beside contracts prices)
          (prices_beside contracts others) f firm (all_signed contracts) best.0 each best.1,
    )
  where
    parts : List UnitTrade
    parts = split_trades trades contracts (unsigned_units trades contracts)

    each : (k : ℕ) → k < length (split_trades trades contracts (unsigned_units trades contracts))
        → (prices_beside contracts prices k ≡ prices_beside contracts others k)
        ⊎ ((trade_at (split_trades trades contracts (unsigned_units trades contracts)) k).units ≡ 0)
    each k inside = elim (cases_lt k (length contracts)) [
      | inl signed ↦ inl (beside_signed contracts prices k signed ∙ sym (beside_signed contracts others k signed))
      | inr past ↦
          let long = split_sized trades contracts (unsigned_units trades contracts) in
          let t : ℕ = k - length contracts in
          let below : t < length trades = omega (arith, past, inside, long) in
          let place : k ≡ length contracts + t = omega (arith, past) in
          elim (same t below) [
            | inl equal ↦
                inl (beside_free contracts prices k past ∙ equal ∙ sym (beside_free contracts others k past))
            | inr none ↦
                inr (ap (λ (i : ℕ). (trade_at (split_trades trades contracts (unsigned_units trades contracts)) i).units) place
                ∙ ap (λ (p : UnitTrade). p.units) (split_free trades contracts (unsigned_units trades contracts) t below) ∙ none)
          ]
    ]

-- ---- pins

pub pin_read : (contracts : List UnitContract) (k : ℕ) (pin : Pin) → slice_get (contract_pins contracts) k ≡ Some pin
    → (k < length contracts) × (pin ≡ contract_pin contracts k)
pin_read contracts k pin at =
    let inside = slice_get_within (contract_pins contracts) k pin at in
    let long = length-map-range_with_len (contract_pin contracts) 0 (length contracts) in
    let below : k < length contracts = omega (arith, inside, long) in (
      below,
      sym (get_or_from_slice_get (contract_pins contracts) k pin (record { trade = 0; price = pos 0 }) at)
          ∙ get_or-map-range_with_len (contract_pin contracts) 0 (length contracts) k k (record { trade = 0; price = pos 0 })
          below (omega arith),
    )

pub contracts_pin : (n : ℕ) (contracts : List UnitContract)
    → ((k : ℕ) (contract : UnitContract) → slice_get contracts k ≡ Some contract → IsAtMost contract.price most_each)
    → length contracts ≤ n → ArePins n (contract_pins contracts)
contracts_pin n contracts small few = record {
  few = let long = length-map-range_with_len (contract_pin contracts) 0 (length contracts) in omega (arith, long, few);
  known = λ k pin at.
      let read = pin_read contracts k pin at in
      let below = read.0 in
      let same = ap (λ (p : Pin). p.trade) read.1 in
      omega (arith, below, same, few);
  once = λ j k one other first second same.
      let left = ap (λ (p : Pin). p.trade) (pin_read contracts j one first).1 in
      let right = ap (λ (p : Pin). p.trade) (pin_read contracts k other second).1 in
      omega (arith, left, right, same);
  small = λ k pin at.
      let read = pin_read contracts k pin at in
      let own = small k (contract_at contracts k)
      (slice_get-get_or contracts k (record { trade = 0; units = 0; price = pos 0 }) read.0) in
      let same = ap (λ (p : Pin). p.price) read.1 in
      record { low = omega (arith, ints, own.low, same); high = omega (arith, ints, own.high, same) };
}

-- ---- the split network of which all unsigned units are free

pub one_of : (z : ℤ) → pos 1 *ℤ z ≡ z
one_of z = let turned = *ℤ_comm (pos 1) z in let unit = *ℤ-one z in omega (arith, ints, turned, unit)

module _ (market : UnitMarket) (over : ℕ) (contracts : List UnitContract) (split : UnitMarket)
    (known : AreKnown (length market.trades.items) contracts)
    (is : IsSplitMarket market over contracts (unsigned_units market.trades.items contracts) split) where
  abbrev trades : List UnitTrade
  trades = market.trades.items

  abbrev free : ℕ → ℕ
  free = unsigned_units market.trades.items contracts

  abbrev parts : List UnitTrade
  parts = split_trades market.trades.items contracts (unsigned_units market.trades.items contracts)

  -- what a rational outcome signs is possible
  pub possible : IsRationalByCounts (firms_of market) market.trades.items (pos over) contracts
      → ArePossible split (λ f. count_in (signed_counts (length market.trades.items) contracts))
  possible rational f below =
      let same = is.firms in
      let best = rational f (split_firm market contracts f) (split_there market contracts f (omega (arith, below, same))) in
      by ((split_firm market contracts f).worth (all_signed contracts)) refl best.0 best.1.is
    where
      by : (o : Option ℤ) → (split_firm market contracts f).worth (all_signed contracts) ≡ o → (value : ℤ)
          → count_utility (split_trades market.trades.items contracts (λ t. 0)) (pos over)
          (prices_beside contracts (λ t. pos 0)) f (split_firm market contracts f) (all_signed contracts) ≡ Some value
          → (worth : ℤ)
          × ((firm_of split f).worth (count_in (signed_counts (length market.trades.items) contracts)) ≡ Some worth)
      by None worth value has = absurd (none-some value
          (sym (ap (option_map (λ w. pos over *ℤ w +ℤ payments (split_trades market.trades.items contracts (λ t. 0))
          (prices_beside contracts (λ t. pos 0)) f (all_signed contracts))) worth) ∙ has))
      by (Some w) worth value has = (
        pos over *ℤ w,
        worth_same split f (count_in (signed_counts (length market.trades.items) contracts)) (all_signed contracts)
            (λ t inside. count_at (length market.trades.items) contracts t)
            ∙ worth_split market over contracts free split f (all_signed contracts) known is
            ∙ ap (times_number over) worth,
      )

  -- prices of the parts complete the outcome
  completes_by : (beside : List ℤ) → HavePins (contract_pins contracts) (pos 1) (price_in beside)
      → IsEquilibriumByCounts (firms_of split) split.trades.items (pos 1)
      (count_in (signed_counts (length market.trades.items) contracts)) (price_in beside)
      → CompletesByCounts (firms_of market) market.trades.items (pos over) contracts
      (λ t. price_in beside (length contracts + t))
  completes_by beside given equal f firm at =
      let found = firm_split market contracts f firm at in
      let below = found.0 in
      let same = is.firms in
      let best = equal f (firm_of split f) (firm_there split f (omega (arith, below, same))) in (
        best.0,
        subst (λ (one : CountFirm). IsBestCount parts (count_utility parts (pos over)
            (prices_beside contracts (λ t. price_in beside (length contracts + t))) f one) (all_signed contracts) best.0)
            (sym found.1)
            (best_priced parts (pos over) (price_in beside)
            (prices_beside contracts (λ t. price_in beside (length contracts + t))) f (split_firm market contracts f)
            (all_signed contracts) best.0 (λ k inside. inl (priced k))
            (best_by split.trades.items parts (count_utility split.trades.items (pos 1) (price_in beside) f (firm_of split f))
            (count_utility parts (pos over) (price_in beside) f (split_firm market contracts f)) (all_signed contracts) best.0
            is.trades
            (λ c. utility_split market over contracts free split f (pos 1) (price_in beside) c known is
            ∙ ap (λ (s : ℤ). count_utility parts s (price_in beside) f (split_firm market contracts f) c) (one_of (pos over)))
            (best_same split (pos 1) (price_in beside) f (count_in (signed_counts (length market.trades.items) contracts))
            (all_signed contracts) best.0 (λ t inside. count_at (length market.trades.items) contracts t) best.1))),
      )
    where
      priced : (k : ℕ)
          → price_in beside k ≡ prices_beside contracts (λ t. price_in beside (length contracts + t)) k
      priced k = elim (cases_lt k (length contracts)) [
        | inl signed ↦
            given k (contract_pin contracts k)
            (slice_get-get_or (contract_pins contracts) k (contract_pin contracts k)
            (let long = length-map-range_with_len (contract_pin contracts) 0 (length contracts) in omega (arith, long, signed))
            ∙ ap Some (get_or-map-range_with_len (contract_pin contracts) 0 (length contracts) k k (contract_pin contracts k)
            signed (omega arith)))
            ∙ one_of (contract_at contracts k).price
            ∙ sym (beside_signed contracts (λ t. price_in beside (length contracts + t)) k signed)
        | inr past ↦
            let place : k ≡ length contracts + (k - length contracts) = omega (arith, past) in
            ap (price_in beside) place ∙ sym (beside_free contracts (λ t. price_in beside (length contracts + t)) k past)
      ]

  -- prices that complete the outcome are prices of the parts
  pub incomplete_by : AreUnsupportedBeside split (contract_pins contracts)
      (count_in (signed_counts (length market.trades.items) contracts))
      → IsIncomplete (firms_of market) market.trades.items (pos over) contracts
  incomplete_by none e prices least completes = none e (prices_beside (counted e contracts) prices) least pinned equal
    where
      pinned : HavePins (contract_pins contracts) e (prices_beside (counted e contracts) prices)
      pinned k pin at =
          let read = pin_read contracts k pin at in
          let below = read.0 in
          let long = counted_sized e contracts in
          ap (λ (p : Pin). prices_beside (counted e contracts) prices p.trade) read.1
          ∙ beside_signed (counted e contracts) prices k (omega (arith, below, long))
          ∙ counted_price e contracts k below ∙ sym (ap (λ (p : Pin). e *ℤ p.price) read.1)

      equal : IsEquilibriumByCounts (firms_of split) split.trades.items e
          (count_in (signed_counts (length market.trades.items) contracts)) (prices_beside (counted e contracts) prices)
      equal f firm at =
          let found = firm_at split f firm at in
          let below = found.0 in
          let same = is.firms in
          let best = completes f (split_firm market (counted e contracts) f)
          (split_there market (counted e contracts) f (omega (arith, below, same))) in (
            best.0,
            subst (λ (one : CountFirm). IsBestCount split.trades.items (count_utility split.trades.items e
                (prices_beside (counted e contracts) prices) f one)
                (count_in (signed_counts (length market.trades.items) contracts)) best.0) (sym found.1)
                (best_same split e (prices_beside (counted e contracts) prices) f (all_signed (counted e contracts))
                (count_in (signed_counts (length market.trades.items) contracts)) best.0
                (λ t inside. counted_units e contracts t ∙ sym (count_at (length market.trades.items) contracts t))
                (best_by (split_trades trades (counted e contracts) (unsigned_units trades (counted e contracts)))
                split.trades.items
                (count_utility (split_trades trades (counted e contracts) (unsigned_units trades (counted e contracts)))
                (pos over *ℤ e) (prices_beside (counted e contracts) prices) f (split_firm market (counted e contracts) f))
                (count_utility split.trades.items e (prices_beside (counted e contracts) prices) f (firm_of split f))
                (all_signed (counted e contracts)) best.0 (counted_trades e trades contracts ∙ sym is.trades)
                (utility f) best.1)),
          )
        where
          utility : (f : ℕ) (c : ℕ → ℕ)
              → count_utility (split_trades trades (counted e contracts) (unsigned_units trades (counted e contracts)))
              (pos over *ℤ e) (prices_beside (counted e contracts) prices) f (split_firm market (counted e contracts) f) c
              ≡ count_utility split.trades.items e (prices_beside (counted e contracts) prices) f (firm_of split f) c
          utility f c =
              ap₂ (λ (ts : List UnitTrade) (o : Option ℤ). option_map (λ worth. (pos over *ℤ e) *ℤ worth
              +ℤ payments ts (prices_beside (counted e contracts) prices) f c) o) (counted_trades e trades contracts)
              (worth_same market f (joined (counted e contracts) c) (joined contracts c)
              (λ t inside. counted_joined e contracts c t))
              ∙ ap (λ (s : ℤ). count_utility parts s (prices_beside (counted e contracts) prices) f
              (split_firm market contracts f) c) (*ℤ_comm (pos over) e)
              ∙ sym (utility_split market over contracts free split f e (prices_beside (counted e contracts) prices) c known is)

  -- ---- a price for each trade

  module _ (market_is : IsUnitMarket market)
      (few : (k : ℕ) (contract : UnitContract) → slice_get contracts k ≡ Some contract → IsAtMost contract.price most_unit_price)
      (beside prices : List ℤ)
      (found : ArePricesBeside split (contract_pins contracts)
      (count_in (signed_counts (length market.trades.items) contracts)) beside)
      (one_each : length prices ≡ length market.trades.items)
      (each : (t : ℕ) → t < length market.trades.items → IsPriceOf contracts beside t (price_in prices t)) where
    first : CompletesByCounts (firms_of market) market.trades.items (pos over) contracts
        (λ t. price_in beside (length contracts + t))
    first = completes_by beside found.given found.equilibrium

    -- the price of a trade is that of its unsigned units, where there are any
    agree : (t : ℕ) → t < length market.trades.items
        → (price_in beside (length contracts + t) ≡ price_in prices t)
        ⊎ (unsigned_units market.trades.items contracts t ≡ 0)
    agree t below = elim (cases_lt 0 (unsigned_units market.trades.items contracts t)) [
      | inl left ↦ inl (by left (each t below))
      | inr none ↦ inr (omega (arith, none))
    ]
      where
        by : 0 < unsigned_units market.trades.items contracts t → IsPriceOf contracts beside t (price_in prices t)
            → price_in beside (length contracts + t) ≡ price_in prices t
        by left (inl theirs) =
            let more = ap (unsigned_units market.trades.items contracts) theirs.trade in
            ap (λ (u : ℕ). price_in beside (length contracts + u)) (sym theirs.trade)
            ∙ twins_same market (pos over) contracts (λ u. price_in beside (length contracts + u)) market_is known first
            theirs.place theirs.contract theirs.is theirs.some (omega (arith, left, more))
            ∙ theirs.price_is
        by left (inr none) = sym none.1

    whole : CompletesByCounts (firms_of market) market.trades.items (pos over) contracts (price_in prices)
    whole = completes_same (firms_of market) market.trades.items (pos over) contracts
        (λ t. price_in beside (length contracts + t)) (price_in prices) agree first

    pub completing : AreCompleting (firms_of market) market.trades.items (pos over) contracts prices
    completing = record {
      one_each = one_each;
      completes = whole;
      signed = λ k contract at some. elim (each contract.trade (known k contract at)) [
        | inl theirs ↦ theirs
        | inr none ↦
            absurd (let least = signed_least contracts k contract at in
            let zero_is = none.0 in
            omega (arith, least, zero_is, some))
      ];
      same = λ k contract at some left.
          twins_same market (pos over) contracts (price_in prices) market_is known whole k contract at some left;
      small = All-from_get_or (λ price. IsAtMost price most_beside_price) prices (pos 0) (λ t inside.
          let below : t < length market.trades.items = omega (arith, inside, one_each) in
          elim (each t below) [
            | inl theirs ↦
                let own = few theirs.place theirs.contract theirs.is in
                let price = theirs.price_is in
                record { low = omega (arith, ints, own.low, price); high = omega (arith, ints, own.high, price) }
            | inr none ↦
                let long = found.one_each in
                let sized = ap length is.trades ∙ split_sized market.trades.items contracts free in
                let own = found.small (length contracts + t) (pos 0) (omega (arith, below, long, sized)) in
                let price = none.1 in
                record { low = omega (arith, ints, own.low, price); high = omega (arith, ints, own.high, price) }
          ]);
    }
