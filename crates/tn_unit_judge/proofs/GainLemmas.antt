-- Where a unit of each part that is passed on makes all firms together gain, a tax that is less in all leaves some offers.
use Rattle.std.proofs.Common.{◌≡◌, ℕ, ◌+◌, ◌-◌, ◌*◌, ◌<◌, ◌≤◌, Bool, true, false, ◌==◌, if◌then◌else◌, List, [], ◌∷◌, length, Option, Some, None, option_map, refl, sym, ap, ◌∙◌, arith, inl, inr, ℤ, pos, ◌+ℤ◌, ◌-ℤ◌, ◌*ℤ◌, ◌≤ℤ◌}
use Rattle.std.proofs.lemmas.Int.{ints}
use Rattle.std.proofs.lemmas.Bool.{cases_lt}
use Rattle.std.proofs.lemmas.List.{get_or_past}
use Rattle.std.proofs.lemmas.Option.{none-some, same_Some}
use Rattle.std.proofs.Math.IntN.{*ℤ-zero, *ℤ-one, *ℤ_comm, zero-*ℤ}
use Rattle.tn_base.proofs.SumLemmas.{times-plus}
use Rattle.tn_links.specs.Totals.{total}
use Rattle.tn_links.proofs.TotalLemmas.{total-most, total-plus, total-same, total-swap, total-times, total-zero, total_one}
use Rattle.tn_counts.specs.Counts.{AreCounts, IsBestCount, count_utility, paid_to, payments, trade_at}
use Rattle.tn_counts.specs.Laminar.{firm_of, firms_of}
use Rattle.tn_counts.specs.Markets.{IsUnitMarket}
use Rattle.tn_counts.specs.Outcomes.{IsRationalByCounts, all_signed, contract_at, counted, prices_beside, signed_units, split_trades, unsigned_units}
use Rattle.tn_counts.specs.declared.contract.UnitContract.{UnitContract}
use Rattle.tn_counts.specs.declared.market.Pin.{Pin}
use Rattle.tn_counts.specs.declared.market.UnitMarket.{UnitMarket}
use Rattle.tn_counts.specs.declared.trade.UnitTrade.{UnitTrade}
use Rattle.tn_counts.proofs.NetLemmas.{between_at}
use Rattle.tn_counts.proofs.SurplusLemmas.{worth_same}
use Rattle.tn_counts.proofs.UtilityLemmas.{when}
use Rattle.tn_tree.specs.Lists.{count_in, own_counts, price_in}
use Rattle.tn_tree.specs.Pinned.{HavePins, IsSettledBeside}
use Rattle.tn_tree.specs.declared.beside.SettledBeside.{SettledBeside}
use Rattle.tn_unit_judge.specs.Blocks.{AreOffersTo, IsTaxedMarket}
use Rattle.tn_unit_judge.specs.Completion.{IsPassing, contract_pins}
use Rattle.tn_unit_judge.specs.Split.{signed_counts}
use Rattle.tn_unit_judge.proofs.BlockLemmas.{none_paid, own_free, price_signed, signed_units_of, free_units, taxed_firms, taxed_sized, utility_taxed, paid_times}
use Rattle.tn_unit_judge.proofs.ChoiceLemmas.{offered_is}
use Rattle.tn_unit_judge.proofs.CompletionLemmas.{beside_free, beside_signed, pin_read}
use Rattle.tn_unit_judge.proofs.DropLemmas.{count_at, split_there}
use Rattle.tn_unit_judge.proofs.JoinLemmas.{AreKnown, scale_times, scale_units}
use Rattle.tn_unit_judge.proofs.SplitLemmas.{split_firm, split_free, split_signed, split_sized, times_number, worth_split}
use Rattle.tn_unit_judge.proofs.TaxLemmas.{free_paid, own_tax, paid_parts, signed_paid, tax_of}
use Rattle.tn_unit_judge.proofs.WideLemmas.{times_most}

-- ---- sums of taxes

plus-times : (a b u : ℤ) → (a +ℤ b) *ℤ u ≡ a *ℤ u +ℤ b *ℤ u
plus-times a b u =
    let turned = *ℤ_comm (a +ℤ b) u in
    let parts = times-plus u a b in
    let first = *ℤ_comm u a in
    let second = *ℤ_comm u b in
    omega (arith, ints, turned, parts, first, second)

-- a unit is taxed at each end
taxed_units : (f : ℕ) (trade : UnitTrade) (n : ℕ)
    → own_tax f trade *ℤ pos n ≡ when (f == trade.seller) (pos n) +ℤ when (f == trade.buyer) (pos n)
taxed_units f trade n = by (f == trade.seller) (f == trade.buyer)
  where
    one : pos 1 *ℤ pos n ≡ pos n
    one = let turned = *ℤ_comm (pos 1) (pos n) in let unit = *ℤ-one (pos n) in omega (arith, ints, turned, unit)

    by : (s b : Bool) → (when s (pos 1) +ℤ when b (pos 1)) *ℤ pos n ≡ when s (pos n) +ℤ when b (pos n)
    by true true =
        let sum = plus-times (pos 1) (pos 1) (pos n) in
        let unit = one in
        omega (arith, ints, sum, unit)
    by true false =
        let sum = plus-times (pos 1) (pos 0) (pos n) in
        let unit = one in
        let none = zero-*ℤ (pos n) in
        omega (arith, ints, sum, unit, none)
    by false true =
        let sum = plus-times (pos 0) (pos 1) (pos n) in
        let unit = one in
        let none = zero-*ℤ (pos n) in
        omega (arith, ints, sum, unit, none)
    by false false = let none = zero-*ℤ (pos n) in omega (arith, ints, none)

-- fewer units are taxed less
taxed_rise : (f : ℕ) (trade : UnitTrade) (m n : ℕ) → m ≤ n → (own_tax f trade *ℤ pos m) ≤ℤ (own_tax f trade *ℤ pos n)
taxed_rise f trade m n most =
    let left = taxed_units f trade m in
    let right = taxed_units f trade n in
    let each = by (f == trade.seller) (f == trade.buyer) in
    omega (arith, ints, left, right, each)
  where
    by : (s b : Bool) → (when s (pos m) +ℤ when b (pos m)) ≤ℤ (when s (pos n) +ℤ when b (pos n))
    by true true = omega (arith, ints, most)
    by true false = omega (arith, ints, most)
    by false true = omega (arith, ints, most)
    by false false = omega (arith, ints)

-- all firms together are taxed for both ends of each unit
all_taxed : (trades : List UnitTrade) (free : ℕ → ℕ) (firms : ℕ)
    → ((t : ℕ) → t < length trades → ((trade_at trades t).seller < firms) × ((trade_at trades t).buyer < firms))
    → total (λ f. total (λ t. own_tax f (trade_at trades t) *ℤ pos (free t)) (length trades)) firms
    ≡ total (λ t. pos (free t)) (length trades) +ℤ total (λ t. pos (free t)) (length trades)
all_taxed trades free firms there =
    total-swap (λ f t. own_tax f (trade_at trades t) *ℤ pos (free t)) firms (length trades)
    ∙ total-same (λ t. total (λ f. own_tax f (trade_at trades t) *ℤ pos (free t)) firms)
    (λ t. pos (free t) +ℤ pos (free t)) (length trades) each
    ∙ total-plus (λ t. pos (free t)) (λ t. pos (free t)) (length trades)
  where
    each : (t : ℕ) → t < length trades
        → total (λ f. own_tax f (trade_at trades t) *ℤ pos (free t)) firms ≡ pos (free t) +ℤ pos (free t)
    each t below =
        let trade = trade_at trades t in
        let ends = there t below in
        let parts = total-same (λ f. own_tax f (trade_at trades t) *ℤ pos (free t))
        (λ f. (if f == (trade_at trades t).seller then pos (free t) else pos 0)
        +ℤ (if f == (trade_at trades t).buyer then pos (free t) else pos 0)) firms
        (λ f inside. taxed_units f (trade_at trades t) (free t)) in
        let sum = total-plus (λ f. if f == (trade_at trades t).seller then pos (free t) else pos 0)
        (λ f. if f == (trade_at trades t).buyer then pos (free t) else pos 0) firms in
        let first = total_one (pos (free t)) (trade_at trades t).seller firms ends.0 in
        let second = total_one (pos (free t)) (trade_at trades t).buyer firms ends.1 in
        omega (arith, ints, parts, sum, first, second)

none_offered : (offers : List UnitContract) (t : ℕ) → length offers ≡ 0 → signed_units offers t ≡ 0
none_offered [] t none = refl
none_offered (offer ∷ offers) t none = absurd (omega (arith, none))

-- ---- no offers

module _ (market : UnitMarket) (over scale : ℕ) (contracts : List UnitContract) (free : ℕ → ℕ) (taxed : UnitMarket)
    (settled : SettledBeside) (offers : List UnitContract) (market_is : IsUnitMarket market)
    (known : AreKnown (length market.trades.items) contracts)
    (is : IsTaxedMarket market (over * scale) contracts free taxed)
    (found : IsSettledBeside taxed (contract_pins (counted (pos scale) contracts)) settled)
    (made : AreOffersTo (length contracts) settled.sold.items settled.prices.items (length market.trades.items) offers)
    (some : 1 ≤ over) (passed : List ℕ) (passing : IsPassing market over contracts passed)
    (rational : IsRationalByCounts (firms_of market) market.trades.items (pos over) contracts)
    (room : (t n : ℕ) → t < length market.trades.items → n ≤ count_in passed (length contracts + t)
    → n ≤ unsigned_units market.trades.items contracts t → n ≤ free t) where
  abbrev trades : List UnitTrade
  trades = market.trades.items

  abbrev prices : ℕ → ℤ
  prices = price_in settled.prices.items

  abbrev parts : List UnitTrade
  parts = split_trades market.trades.items contracts free

  abbrev own : ℕ → ℕ → ℕ
  own f = own_counts taxed.trades.items settled.sold.items settled.bought.items f

  abbrev signed : ℕ → ℕ
  signed = count_in (signed_counts (length market.trades.items) contracts)

  abbrev split : UnitMarket
  split = passing.split

  abbrev open_parts : List UnitTrade
  open_parts = split_trades market.trades.items contracts (unsigned_units market.trades.items contracts)

  abbrev tax : ℕ → (ℕ → ℕ) → ℤ
  tax f counts = tax_of market.trades.items (length contracts) f counts

  split_firms_are : passing.split.firms ≡ market.firms
  split_firms_are = passing.is.firms

  open_sized : length passing.split.trades.items ≡ length contracts + length market.trades.items
  open_sized = ap length passing.is.trades
      ∙ split_sized market.trades.items contracts (unsigned_units market.trades.items contracts)

  signed_none : (t : ℕ) → signed (length contracts + t) ≡ 0
  signed_none t = count_at (length market.trades.items) contracts (length contracts + t)
      ∙ ap (λ (c : UnitContract). c.units) (get_or_past contracts (length contracts + t)
      (record { trade = 0; units = 0; price = pos 0 }) (omega arith))

  -- nothing is paid for units that aren't there
  free_none : (f : ℕ) (counts : ℕ → ℕ) → ((t : ℕ) → t < length market.trades.items → counts (length contracts + t) ≡ 0)
      → free_paid trades (λ t. prices (length contracts + t)) f (λ t. counts (length contracts + t)) ≡ pos 0
  free_none f counts none =
      total-zero (λ t. paid_to f (prices (length contracts + t)) (trade_at trades t) *ℤ pos (counts (length contracts + t)))
      (length trades) (λ t below. ap (λ (n : ℕ). paid_to f (prices (length contracts + t)) (trade_at trades t) *ℤ pos n)
      (none t below) ∙ *ℤ-zero (paid_to f (prices (length contracts + t)) (trade_at trades t)))

  -- what is paid for a choice among the contracts, at so many times their prices
  rational_paid : (f : ℕ) (counts : ℕ → ℕ)
      → pos scale *ℤ payments (split_trades market.trades.items contracts (λ t. 0)) (prices_beside contracts (λ t. pos 0)) f
      counts ≡ signed_paid trades contracts prices f counts
  rational_paid f counts =
      let whole = paid_parts trades contracts (λ t. 0) beside f counts in
      let none = total-zero
      (λ t. paid_to f (beside (length contracts + t)) (trade_at trades t) *ℤ pos (counts (length contracts + t)))
      (length trades) unpriced in
      let sum : payments (split_trades market.trades.items contracts (λ t. 0)) beside f counts
      ≡ signed_paid trades contracts beside f counts = omega (arith, ints, whole, none) in
      ap (λ (z : ℤ). pos scale *ℤ z) sum
      ∙ sym (total-times (pos scale)
      (λ k. paid_to f (beside k) (trade_at trades (contract_at contracts k).trade) *ℤ pos (counts k)) (length contracts))
      ∙ total-same
      (λ k. pos scale *ℤ (paid_to f (beside k) (trade_at trades (contract_at contracts k).trade) *ℤ pos (counts k)))
      (λ k. paid_to f (prices k) (trade_at trades (contract_at contracts k).trade) *ℤ pos (counts k)) (length contracts) each
    where
      beside : ℕ → ℤ
      beside = prices_beside contracts (λ t. pos 0)

      unpriced : (t : ℕ) → t < length trades
          → paid_to f (beside (length contracts + t)) (trade_at trades t) *ℤ pos (counts (length contracts + t)) ≡ pos 0
      unpriced t below =
          ap (λ (z : ℤ). paid_to f z (trade_at trades t) *ℤ pos (counts (length contracts + t)))
          (beside_free contracts (λ t. pos 0) (length contracts + t) (omega arith))
          ∙ ap (λ (z : ℤ). z *ℤ pos (counts (length contracts + t))) (none_paid f (trade_at trades t))
          ∙ zero-*ℤ (pos (counts (length contracts + t)))

      each : (k : ℕ) → k < length contracts
          → pos scale *ℤ (paid_to f (beside k) (trade_at trades (contract_at contracts k).trade) *ℤ pos (counts k))
          ≡ paid_to f (prices k) (trade_at trades (contract_at contracts k).trade) *ℤ pos (counts k)
      each k below =
          let trade : UnitTrade = trade_at trades (contract_at contracts k).trade in
          ap (λ (z : ℤ). pos scale *ℤ (paid_to f z (trade_at trades (contract_at contracts k).trade) *ℤ pos (counts k)))
          (beside_signed contracts (λ t. pos 0) k below)
          ∙ sym (scale_units (pos scale)
          (paid_to f (contract_at contracts k).price (trade_at trades (contract_at contracts k).trade)) (counts k))
          ∙ ap (λ (z : ℤ). z *ℤ pos (counts k))
          (sym (paid_times scale f (contract_at contracts k).price (trade_at trades (contract_at contracts k).trade)))
          ∙ ap (λ (z : ℤ). paid_to f z (trade_at trades (contract_at contracts k).trade) *ℤ pos (counts k))
          (sym (price_signed market over scale contracts free taxed settled market_is known is found k below))

  module _ (none : length offers ≡ 0) where
    own_none : (f t : ℕ) → t < length market.trades.items → own f (length contracts + t) ≡ 0
    own_none f t below =
        own_free market over scale contracts free taxed settled market_is known is found f t below
        ∙ sym (offered_is market over scale contracts free taxed settled offers market_is known is found made some t below)
        ∙ none_offered offers t none

    own_untaxed : (f : ℕ) → tax f (own f) ≡ pos 0
    own_untaxed f = total-zero (λ t. own_tax f (trade_at trades t) *ℤ pos (own f (length contracts + t))) (length trades)
        (λ t below. ap (λ (n : ℕ). own_tax f (trade_at trades t) *ℤ pos n) (own_none f t below)
        ∙ *ℤ-zero (own_tax f (trade_at trades t)))

    -- what a firm has by what is signed and by what is passed on, at the prices of the taxed market
    module _ (f : ℕ) (there : f < market.firms) where
      abbrev passed_counts : ℕ → ℕ
      passed_counts = passing.gain.after f

      abbrev own_value : ℤ
      own_value = pos scale *ℤ passing.gain.own f +ℤ payments split.trades.items prices f signed

      abbrev later_value : ℤ
      later_value = pos scale *ℤ passing.gain.later f +ℤ payments split.trades.items prices f passed_counts

      best : (value : ℤ) × IsBestCount taxed.trades.items
          (count_utility taxed.trades.items (pos 1) (price_in settled.prices.items) f (firm_of taxed f)) (own f) value
      best = let firms = taxed_firms market over scale contracts free taxed settled market_is known is found in
          found.best f (omega (arith, there, firms))

      abbrev choices : List UnitTrade
      choices = split_trades market.trades.items contracts (λ t. 0)

      abbrev paid_choice : (ℕ → ℕ) → ℤ
      paid_choice c = payments choices (prices_beside contracts (λ t. pos 0)) f c

      choice : (value : ℤ) × IsBestCount choices (count_utility choices (pos over) (prices_beside contracts (λ t. pos 0)) f
          (split_firm market contracts f)) (all_signed contracts) value
      choice = rational f (split_firm market contracts f) (split_there market contracts f there)

      own_within : AreCounts choices (own f)
      own_within k inside = elim (cases_lt k (length contracts)) [
        | inl first ↦
            let long = taxed_sized market over scale contracts free taxed settled market_is known is found in
            let most = best.1.within k (omega (arith, first, long)) in
            let left =
            signed_units_of market over scale contracts free taxed settled market_is known is found k first in
            let right = ap (λ (p : UnitTrade). p.units) (split_signed market.trades.items contracts (λ t. 0) k first) in
            omega (arith, most, left, right)
        | inr past ↦
            let long = split_sized market.trades.items contracts (λ t. 0) in
            let t : ℕ = k - length contracts in
            let below : t < length trades = omega (arith, past, inside, long) in
            let place : k ≡ length contracts + t = omega (arith, past) in
            let zero_is = ap (own f) place ∙ own_none f t below in
            omega (arith, zero_is)
      ]

      passed_free : (t : ℕ) → t < length market.trades.items → passed_counts (length contracts + t) ≤ free t
      passed_free t below =
          let long = open_sized in
          let near = passing.gain.near f (length contracts + t) (omega (arith, below, long)) in
          let zero_is = signed_none t in
          let within = passing.gain.within f (length contracts + t) (omega (arith, below, long)) in
          let units = ap (λ (ts : List UnitTrade). (trade_at ts (length contracts + t)).units) passing.is.trades
          ∙ ap (λ (p : UnitTrade). p.units) (split_free market.trades.items contracts
          (unsigned_units market.trades.items contracts) t below) in
          room t (passed_counts (length contracts + t)) below (omega (arith, near, zero_is)) (omega (arith, within, units))

      passed_within : AreCounts taxed.trades.items passed_counts
      passed_within k inside = elim (cases_lt k (length contracts)) [
        | inl first ↦
            let long = open_sized in
            let most = passing.gain.within f k (omega (arith, first, long)) in
            let left = ap (λ (ts : List UnitTrade). (trade_at ts k).units) passing.is.trades
            ∙ ap (λ (p : UnitTrade). p.units) (split_signed market.trades.items contracts
            (unsigned_units market.trades.items contracts) k first) in
            let right =
            signed_units_of market over scale contracts free taxed settled market_is known is found k first in
            omega (arith, most, left, right)
        | inr past ↦
            let long = taxed_sized market over scale contracts free taxed settled market_is known is found in
            let t : ℕ = k - length contracts in
            let below : t < length trades = omega (arith, past, inside, long) in
            let place : k ≡ length contracts + t = omega (arith, past) in
            let moved = ap passed_counts place in
            let most = passed_free t below in
            let units = ap (λ (i : ℕ). (trade_at taxed.trades.items i).units) place
            ∙ free_units market over scale contracts free taxed settled market_is known is found t below in
            omega (arith, moved, most, units)
      ]

      own_worth : (v : ℤ) → (split_firm market contracts f).worth (all_signed contracts) ≡ Some v
          → passing.gain.own f ≡ pos over *ℤ v
      own_worth v worth = same_Some (passing.gain.own f) (pos over *ℤ v)
          (sym (passing.gain.own_is f (let firms = split_firms_are in omega (arith, there, firms)))
          ∙ worth_same split f signed (all_signed contracts) (λ t inside. count_at (length market.trades.items) contracts t)
          ∙ worth_split market over contracts (unsigned_units market.trades.items contracts) split f (all_signed contracts) known
          passing.is ∙ ap (times_number over) worth)

      own_paid : payments split.trades.items prices f signed ≡ signed_paid trades contracts prices f (all_signed contracts)
      own_paid =
          let moved = ap (λ (ts : List UnitTrade). payments ts prices f signed) passing.is.trades in
          let whole = paid_parts trades contracts (unsigned_units market.trades.items contracts) prices f signed in
          let nothing = free_none f signed (λ t below. signed_none t) in
          let same = total-same
          (λ k. paid_to f (prices k) (trade_at trades (contract_at contracts k).trade) *ℤ pos (signed k))
          (λ k. paid_to f (prices k) (trade_at trades (contract_at contracts k).trade) *ℤ pos (all_signed contracts k))
          (length contracts) (λ k below. ap
          (λ (n : ℕ). paid_to f (prices k) (trade_at trades (contract_at contracts k).trade) *ℤ pos n)
          (count_at (length market.trades.items) contracts k)) in
          omega (arith, ints, moved, whole, nothing, same)

      later_paid : payments split.trades.items prices f passed_counts ≡ payments parts prices f passed_counts
      later_paid =
          ap (λ (ts : List UnitTrade). payments ts prices f passed_counts) passing.is.trades
          ∙ paid_parts trades contracts (unsigned_units market.trades.items contracts) prices f passed_counts
          ∙ sym (paid_parts trades contracts free prices f passed_counts)

      abbrev after_tax : (ℕ → ℕ) → ℤ → ℤ
      after_tax c w = (pos (over * scale) *ℤ w -ℤ tax f c) +ℤ payments parts prices f c

      in_taxed : (c : ℕ → ℕ) (o : Option ℤ) → (split_firm market contracts f).worth c ≡ o
          → count_utility taxed.trades.items (pos 1) prices f (firm_of taxed f) c ≡ option_map (after_tax c) o
      in_taxed c o worth =
          utility_taxed market over scale contracts free taxed settled market_is known is found f c
          ∙ ap (option_map (after_tax c)) worth

      later_worth : (o : Option ℤ) → (split_firm market contracts f).worth passed_counts ≡ o
          → times_number over o ≡ Some (passing.gain.later f)
      later_worth o worth =
          sym (worth_split market over contracts (unsigned_units market.trades.items contracts) split f passed_counts known
          passing.is ∙ ap (times_number over) worth)
          ∙ passing.gain.later_is f (let firms = split_firms_are in omega (arith, there, firms))

      product : (w : ℤ) → pos (over * scale) *ℤ w ≡ pos scale *ℤ (pos over *ℤ w)
      product w =
          let turned : pos (over * scale) ≡ pos scale *ℤ pos over = *ℤ_comm (pos over) (pos scale) in
          ap (λ (z : ℤ). z *ℤ w) turned ∙ scale_times (pos scale) (pos over) w

      scaled_most : (a b : ℤ) → a ≤ℤ b → (pos scale *ℤ a) ≤ℤ (pos scale *ℤ b)
      scaled_most a b most =
          let times = times_most scale b a most in
          let left = *ℤ_comm (pos scale) a in
          let right = *ℤ_comm (pos scale) b in
          omega (arith, ints, times, left, right)

      -- passing on makes it gain no more than its tax
      pub gains_taxed : later_value ≤ℤ (own_value +ℤ tax f passed_counts)
      gains_taxed = by ((split_firm market contracts f).worth (all_signed contracts))
          ((split_firm market contracts f).worth (own f)) ((split_firm market contracts f).worth passed_counts) refl refl refl
        where
          in_choice : (ℕ → ℕ) → ℤ → ℤ
          in_choice c w = pos over *ℤ w +ℤ paid_choice c

          by : (o p q : Option ℤ) → (split_firm market contracts f).worth (all_signed contracts) ≡ o
              → (split_firm market contracts f).worth (own f) ≡ p
              → (split_firm market contracts f).worth passed_counts ≡ q
              → later_value ≤ℤ (own_value +ℤ tax f passed_counts)
          by None p q all_worth worth passed_worth = absurd (none-some choice.0
              (sym (ap (option_map (in_choice (all_signed contracts))) all_worth) ∙ choice.1.is))
          by (Some v) None q all_worth worth passed_worth =
              absurd (none-some best.0 (sym (in_taxed (own f) None worth) ∙ best.1.is))
          by (Some v) (Some w) None all_worth worth passed_worth =
              absurd (none-some (passing.gain.later f) (later_worth None passed_worth))
          by (Some v) (Some w) (Some u) all_worth worth passed_worth =
              let chosen_is = same_Some (in_choice (all_signed contracts) v) choice.0
              (sym (ap (option_map (in_choice (all_signed contracts))) all_worth) ∙ choice.1.is) in
              let chosen = choice.1.most (own f) (in_choice (own f) w) own_within
              (ap (option_map (in_choice (own f))) worth) in
              let times = scaled_most (in_choice (own f) w) (in_choice (all_signed contracts) v)
              (omega (arith, ints, chosen_is, chosen)) in
              let left = times-plus (pos scale) (pos over *ℤ w) (paid_choice (own f)) in
              let right = times-plus (pos scale) (pos over *ℤ v) (paid_choice (all_signed contracts)) in
              let left_paid = rational_paid f (own f) in
              let right_paid = rational_paid f (all_signed contracts) in
              let best_is = same_Some (after_tax (own f) w) best.0 (sym (in_taxed (own f) (Some w) worth) ∙ best.1.is) in
              let under = best.1.most passed_counts (after_tax passed_counts u) passed_within
              (in_taxed passed_counts (Some u) passed_worth) in
              let untaxed = own_untaxed f in
              let parts_paid = paid_parts trades contracts free prices f (own f) in
              let nothing = free_none f (own f) (λ t below. own_none f t below) in
              let first = ap (λ (z : ℤ). pos scale *ℤ z) (own_worth v all_worth) in
              let last = ap (λ (z : ℤ). pos scale *ℤ z)
              (same_Some (pos over *ℤ u) (passing.gain.later f) (later_worth (Some u) passed_worth)) in
              let paid_first = own_paid in
              let paid_last = later_paid in
              let product_own = product w in
              let product_last = product u in
              omega (
                arith,
                ints,
                times,
                left,
                right,
                left_paid,
                right_paid,
                best_is,
                under,
                untaxed,
                parts_paid,
                nothing,
                first,
                last,
                paid_first,
                paid_last,
                product_own,
                product_last,
              )

    pinned : HavePins (contract_pins contracts) (pos scale) prices
    pinned k pin at =
        let read = pin_read contracts k pin at in
        ap (λ (p : Pin). prices p.trade) read.1
        ∙ price_signed market over scale contracts free taxed settled market_is known is found k read.0
        ∙ sym (ap (λ (p : Pin). pos scale *ℤ p.price) read.1)

    -- so all taxes together are no less than the scale
    pub taxes_least : 1 ≤ scale → pos scale
        ≤ℤ (total (λ t. pos (free t)) (length market.trades.items) +ℤ total (λ t. pos (free t)) (length market.trades.items))
    taxes_least least =
        let more = passing.gain.more (pos scale) prices (omega (arith, ints, least)) pinned in
        let most = total-most
        (λ f. pos scale *ℤ passing.gain.later f +ℤ payments split.trades.items prices f (passing.gain.after f))
        (λ f. (pos scale *ℤ passing.gain.own f +ℤ payments split.trades.items prices f signed)
        +ℤ tax f (passing.gain.after f)) split.firms
        (λ f inside. gains_taxed f (let firms = split_firms_are in omega (arith, inside, firms))) in
        let sum = total-plus (λ f. pos scale *ℤ passing.gain.own f +ℤ payments split.trades.items prices f signed)
        (λ f. tax f (passing.gain.after f)) split.firms in
        let taxes = total-most (λ f. tax f (passing.gain.after f))
        (λ f. total (λ t. own_tax f (trade_at trades t) *ℤ pos (free t)) (length trades)) split.firms
        (λ f inside. total-most (λ t. own_tax f (trade_at trades t) *ℤ pos (passing.gain.after f (length contracts + t)))
        (λ t. own_tax f (trade_at trades t) *ℤ pos (free t)) (length trades)
        (λ t below. taxed_rise f (trade_at trades t) (passing.gain.after f (length contracts + t)) (free t)
        (passed_free f (let firms = split_firms_are in omega (arith, inside, firms)) t below))) in
        let all = all_taxed trades free split.firms ends in
        omega (arith, ints, more, most, sum, taxes, all)
      where
        ends : (t : ℕ) → t < length trades
            → ((trade_at trades t).seller < split.firms) × ((trade_at trades t).buyer < split.firms)
        ends t below =
            let between = between_at market market_is t below in
            let firms = split_firms_are in
            let first = between.seller in
            let second = between.buyer in (
              omega (arith, first, firms),
              omega (arith, second, firms),
            )

  -- where taxes are less, there are offers
  pub some_offered : 1 ≤ scale → pos scale
      ≡ (total (λ t. pos (free t)) (length market.trades.items) +ℤ total (λ t. pos (free t)) (length market.trades.items))
      +ℤ pos 1 → 0 < length offers
  some_offered least scale_is = elim (cases_lt 0 (length offers)) [
    | inl offered ↦ offered
    | inr none ↦ absurd (let most = taxes_least (omega (arith, none)) least in omega (arith, ints, most, scale_is))
  ]
