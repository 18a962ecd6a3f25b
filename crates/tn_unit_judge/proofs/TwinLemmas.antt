-- Units of one trade cost the same where some of them are signed and others aren't: each of its two firms may take one that
-- isn't in place of one that is.
use Rattle.std.proofs.Common.{◌≡◌, ℕ, ◌+◌, ◌-◌, ◌<◌, ◌≤◌, inl, inr, Bool, true, false, ◌==◌, if◌then◌else◌, List, length, get_or, Option, Some, None, option_map, slice_get, refl, sym, ap, ap₂, ◌∙◌, arith, ℤ, pos, ◌+ℤ◌, ◌-ℤ◌, ◌*ℤ◌, ◌≤ℤ◌}
use Rattle.std.proofs.lemmas.Int.{ints}
use Rattle.std.proofs.lemmas.Bool.{cases_eq, eq-eqb, le-ltb, lt-ltb, ne_eqb}
use Rattle.std.proofs.lemmas.List.{get_or_past}
use Rattle.std.proofs.lemmas.Option.{get_or_from_slice_get, none-some, same_Some, slice_get_within}
use Rattle.std.proofs.Math.IntN.{*ℤ-one, *ℤ_comm}
use Rattle.tn_base.proofs.SumLemmas.{times-plus}
use Rattle.tn_links.specs.Totals.{total}
use Rattle.tn_links.proofs.TotalLemmas.{times-minus, total-minus, total-plus, total-same, total_at}
use Rattle.tn_counts.specs.Counts.{AreCounts, IsBestCount, count_utility, paid_to, payments, trade_at}
use Rattle.tn_counts.specs.Laminar.{firms_of}
use Rattle.tn_counts.specs.Markets.{IsUnitMarket}
use Rattle.tn_counts.specs.Outcomes.{CompletesByCounts, all_signed, contract_at, joined, prices_beside, split_trades, units_of, unsigned_units}
use Rattle.tn_counts.specs.declared.contract.UnitContract.{UnitContract}
use Rattle.tn_counts.specs.declared.market.UnitMarket.{UnitMarket}
use Rattle.tn_counts.specs.declared.trade.UnitTrade.{UnitTrade}
use Rattle.tn_counts.proofs.NetLemmas.{between_at}
use Rattle.tn_counts.proofs.SurplusLemmas.{worth_same}
use Rattle.tn_unit_judge.specs.Split.{origins}
use Rattle.tn_unit_judge.proofs.JoinLemmas.{AreKnown, joined_sum, origin_free, origin_signed}
use Rattle.tn_unit_judge.proofs.SplitLemmas.{split_firm, split_free, split_signed, split_sized}
use Rattle.tn_unit_judge.proofs.DropLemmas.{split_there}

-- ---- a unit of one part in place of one of another

abbrev one_if : Bool → ℤ
one_if b = if b then pos 1 else pos 0

-- counts of which one unit is of part a in place of part k
abbrev IsMoved : ℕ → ℕ → (ℕ → ℕ) → (ℕ → ℕ) → Type 0
IsMoved k a counts others =
    (j : ℕ) → pos (others j) ≡ (pos (counts j) -ℤ one_if (j == k)) +ℤ one_if (j == a)

total_moved : (r : ℕ → ℤ) (counts others : ℕ → ℕ) (k a n : ℕ) → k < n → a < n → IsMoved k a counts others
    → total (λ j. r j *ℤ pos (others j)) n ≡ (total (λ j. r j *ℤ pos (counts j)) n -ℤ r k) +ℤ r a
total_moved r counts others k a n first second moved =
    let same = total-same (λ j. r j *ℤ pos (others j))
    (λ j. (r j *ℤ pos (counts j) -ℤ r j *ℤ one_if (j == k)) +ℤ r j *ℤ one_if (j == a)) n (λ j below. each j) in
    let parts = total-plus (λ j. r j *ℤ pos (counts j) -ℤ r j *ℤ one_if (j == k)) (λ j. r j *ℤ one_if (j == a)) n in
    let less = total-minus (λ j. r j *ℤ pos (counts j)) (λ j. r j *ℤ one_if (j == k)) n in
    let off = total_at r (pos 1) k n first in
    let on = total_at r (pos 1) a n second in
    let one = *ℤ-one (r k) in
    let other = *ℤ-one (r a) in
    omega (arith, ints, same, parts, less, off, on, one, other)
  where
    each : (j : ℕ) → r j *ℤ pos (others j)
        ≡ (r j *ℤ pos (counts j) -ℤ r j *ℤ one_if (j == k)) +ℤ r j *ℤ one_if (j == a)
    each j =
        let whole = ap (λ (z : ℤ). r j *ℤ z) (moved j) in
        let sum = times-plus (r j) (pos (counts j) -ℤ one_if (j == k)) (one_if (j == a)) in
        let less = times-minus (r j) (pos (counts j)) (one_if (j == k)) in
        omega (arith, ints, whole, sum, less)

-- the units of a trade are as many as before where both are parts of it
joined_moved : (counts others : ℕ → ℕ) (k a n : ℕ) (contracts : List UnitContract) (t s : ℕ) → AreKnown n contracts
    → k < length contracts + n → a < length contracts + n → get_or (origins n contracts) k 0 ≡ t
    → get_or (origins n contracts) a 0 ≡ t → IsMoved k a counts others → s < n
    → joined contracts others s ≡ joined contracts counts s
joined_moved counts others k a n contracts t s known first second from_k from_a moved below =
    let one = joined_sum r others n contracts known in
    let two = joined_sum r counts n contracts known in
    let shift = total_moved (λ j. r (get_or (origins n contracts) j 0)) counts others k a (length contracts + n) first second
    moved in
    let off = ap r from_k in
    let on = ap r from_a in
    let here = at others in
    let there = at counts in
    omega (arith, ints, one, two, shift, off, on, here, there)
  where
    r : ℕ → ℤ
    r v = one_if (v == s)

    at : (c : ℕ → ℕ) → total (λ v. r v *ℤ pos (joined contracts c v)) n ≡ pos (joined contracts c s)
    at c =
        let turned = total-same (λ v. r v *ℤ pos (joined contracts c v))
        (λ v. pos (joined contracts c v) *ℤ one_if (v == s)) n
        (λ v inside. *ℤ_comm (one_if (v == s)) (pos (joined contracts c v))) in
        let own = total_at (λ v. pos (joined contracts c v)) (pos 1) s n below in
        let unit = *ℤ-one (pos (joined contracts c s)) in
        omega (arith, ints, turned, own, unit)

-- ---- what a unit brings its two firms

seller_paid : (f : ℕ) (z : ℤ) (trade : UnitTrade) → f ≡ trade.seller → (f ≡ trade.buyer → ⊥) → paid_to f z trade ≡ z
seller_paid f z trade sells other =
    let first = ap (λ (b : Bool). if b then z else pos 0) (eq-eqb f trade.seller sells) in
    let second = ap (λ (b : Bool). if b then z else pos 0) (ne_eqb f trade.buyer other) in
    omega (arith, ints, first, second)

buyer_paid : (f : ℕ) (z : ℤ) (trade : UnitTrade) → f ≡ trade.buyer → (f ≡ trade.seller → ⊥)
    → paid_to f z trade ≡ pos 0 -ℤ z
buyer_paid f z trade buys other =
    let first = ap (λ (b : Bool). if b then z else pos 0) (ne_eqb f trade.seller other) in
    let second = ap (λ (b : Bool). if b then z else pos 0) (eq-eqb f trade.buyer buys) in
    omega (arith, ints, first, second)

-- ---- a contract, and an unsigned unit of its trade

module _ (market : UnitMarket) (over : ℤ) (contracts : List UnitContract) (prices : ℕ → ℤ) (is : IsUnitMarket market)
    (known : AreKnown (length market.trades.items) contracts)
    (completes : CompletesByCounts (firms_of market) market.trades.items over contracts prices)
    (k : ℕ) (contract : UnitContract) (at : slice_get contracts k ≡ Some contract) (some : 0 < contract.units)
    (left : 0 < unsigned_units market.trades.items contracts contract.trade) where
  abbrev trades : List UnitTrade
  trades = market.trades.items

  abbrev parts : List UnitTrade
  parts = split_trades market.trades.items contracts (unsigned_units market.trades.items contracts)

  abbrev beside : ℕ → ℤ
  beside = prices_beside contracts prices

  abbrev free : ℕ
  free = length contracts + contract.trade

  abbrev counts : ℕ → ℕ
  counts = all_signed contracts

  abbrev others : ℕ → ℕ
  others j = if j == free then 1 else if j == k then counts j - 1 else counts j

  inside : k < length contracts
  inside = slice_get_within contracts k contract at

  read : contract_at contracts k ≡ contract
  read = get_or_from_slice_get contracts k contract (record { trade = 0; units = 0; price = pos 0 }) at

  below : contract.trade < length trades
  below = known k contract at

  free_none : counts free ≡ 0
  free_none = ap (λ (c : UnitContract). c.units)
      (get_or_past contracts free (record { trade = 0; units = 0; price = pos 0 }) (omega arith))

  moved : IsMoved k free counts others
  moved j = elim (cases_eq j free) [
    | inl same ↦
        let here = inside in
        let test = eq-eqb j free same in
        let other = ne_eqb j k (λ e. absurd (omega (arith, here, same, e))) in
        let own = ap (λ (b : Bool). if b then 1 else if j == k then counts j - 1 else counts j) test in
        let on = ap one_if test in
        let off = ap one_if other in
        let none = ap counts same ∙ free_none in
        omega (arith, ints, own, on, off, none)
    | inr far ↦
        let test = ne_eqb j free far in
        let rest = ap (λ (b : Bool). if b then 1 else if j == k then counts j - 1 else counts j) test in
        let on = ap one_if test in
        elim (cases_eq j k) [
          | inl same ↦
              let own = ap (λ (b : Bool). if b then counts j - 1 else counts j) (eq-eqb j k same) in
              let off = ap one_if (eq-eqb j k same) in
              let units = ap counts same ∙ ap (λ (c : UnitContract). c.units) read in
              let least = some in
              omega (arith, ints, rest, own, on, off, units, least)
          | inr other ↦
              let own = ap (λ (b : Bool). if b then counts j - 1 else counts j) (ne_eqb j k other) in
              let off = ap one_if (ne_eqb j k other) in
              omega (arith, ints, rest, own, on, off)
        ]
  ]

  free_units : (trade_at parts free).units ≡ unsigned_units trades contracts contract.trade
  free_units = ap (λ (p : UnitTrade). p.units)
      (split_free trades contracts (unsigned_units trades contracts) contract.trade below)

  within : AreCounts parts counts → AreCounts parts others
  within most j inner = elim (cases_eq j free) [
    | inl same ↦
        let own = ap (λ (b : Bool). if b then 1 else if j == k then counts j - 1 else counts j) (eq-eqb j free same) in
        let units = ap (λ (i : ℕ). (trade_at parts i).units) same ∙ free_units in
        let least = left in
        omega (arith, own, units, least)
    | inr far ↦
        let step = moved j in
        let on = ap one_if (ne_eqb j free far) in
        let enough = most j inner in
        by (j == k) step on enough
  ]
    where
      by : (b : Bool) {n m u : ℕ} {z : ℤ} → pos n ≡ (pos m -ℤ one_if b) +ℤ z → z ≡ pos 0 → m ≤ u → n ≤ u
      by true step on enough = omega (arith, ints, step, on, enough)
      by false step on enough = omega (arith, ints, step, on, enough)

  sized : length parts ≡ length contracts + length trades
  sized = split_sized trades contracts (unsigned_units trades contracts)

  worth_moved : (f : ℕ) → (split_firm market contracts f).worth others ≡ (split_firm market contracts f).worth counts
  worth_moved f =
      let here = inside in
      let known_trade = below in
      worth_same market f (joined contracts others) (joined contracts counts)
      (λ s inner. joined_moved counts others k free (length trades) contracts contract.trade s known
      (omega (arith, here)) (omega (arith, known_trade))
      (origin_signed (length trades) contracts k inside ∙ ap (λ (c : UnitContract). c.trade) read)
      (origin_free (length trades) contracts contract.trade below) moved inner)

  paid_moved : (f : ℕ) → payments parts beside f others
      ≡ (payments parts beside f counts -ℤ paid_to f (beside k) (trade_at parts k))
      +ℤ paid_to f (beside free) (trade_at parts free)
  paid_moved f =
      let here = inside in
      let known_trade = below in
      let long = sized in
      total_moved (λ j. paid_to f (beside j) (trade_at parts j)) counts others k free (length parts)
      (omega (arith, here, long)) (omega (arith, known_trade, long)) moved

  none_gains : (f : ℕ) → f < market.firms
      → paid_to f (beside free) (trade_at parts free) ≤ℤ paid_to f (beside k) (trade_at parts k)
  none_gains f known_firm =
      let best = completes f (split_firm market contracts f) (split_there market contracts f known_firm) in
      by ((split_firm market contracts f).worth counts) refl best.0 best.1
    where
      by : (o : Option ℤ) → (split_firm market contracts f).worth counts ≡ o → (value : ℤ)
          → IsBestCount parts (count_utility parts over beside f (split_firm market contracts f)) counts value
          → paid_to f (beside free) (trade_at parts free) ≤ℤ paid_to f (beside k) (trade_at parts k)
      by None worth value best =
          absurd (none-some value (sym (ap (option_map (λ w. over *ℤ w +ℤ payments parts beside f counts)) worth) ∙ best.is))
      by (Some w) worth value best =
          let now = same_Some (over *ℤ w +ℤ payments parts beside f counts) value
          (sym (ap (option_map (λ w. over *ℤ w +ℤ payments parts beside f counts)) worth) ∙ best.is) in
          let most = best.most others (over *ℤ w +ℤ payments parts beside f others) (within best.within)
          (ap (option_map (λ w. over *ℤ w +ℤ payments parts beside f others)) (worth_moved f ∙ worth)) in
          let paid = paid_moved f in
          omega (arith, ints, now, most, paid)

  signed_price : beside k ≡ contract.price
  signed_price = ap (λ (b : Bool). if b then (contract_at contracts k).price else prices (k - length contracts))
      (lt-ltb k (length contracts) inside) ∙ ap (λ (c : UnitContract). c.price) read

  free_price : beside free ≡ prices contract.trade
  free_price =
      let place : free - length contracts ≡ contract.trade = omega arith in
      ap (λ (b : Bool). if b then (contract_at contracts free).price else prices (free - length contracts))
      (le-ltb free (length contracts) (omega arith)) ∙ ap prices place

  signed_part : trade_at parts k ≡ units_of trades contract.trade contract.units
  signed_part = split_signed trades contracts (unsigned_units trades contracts) k inside
      ∙ ap (λ (c : UnitContract). units_of trades c.trade c.units) read

  free_part : trade_at parts free ≡ units_of trades contract.trade (unsigned_units trades contracts contract.trade)
  free_part = split_free trades contracts (unsigned_units trades contracts) contract.trade below

  pub twins_same : prices contract.trade ≡ contract.price
  twins_same =
      let own = between_at market is contract.trade below in
      let s : ℕ = (trade_at trades contract.trade).seller in
      let b : ℕ = (trade_at trades contract.trade).buyer in
      let sells = none_gains s own.seller in
      let buys = none_gains b own.buyer in
      let one = ap₂ (paid_to s) signed_price signed_part
      ∙ seller_paid s contract.price (units_of trades contract.trade contract.units) refl own.apart in
      let two = ap₂ (paid_to s) free_price free_part
      ∙ seller_paid s (prices contract.trade)
      (units_of trades contract.trade (unsigned_units trades contracts contract.trade)) refl own.apart in
      let three = ap₂ (paid_to b) signed_price signed_part
      ∙ buyer_paid b contract.price (units_of trades contract.trade contract.units) refl (λ e. own.apart (sym e)) in
      let four = ap₂ (paid_to b) free_price free_part
      ∙ buyer_paid b (prices contract.trade)
      (units_of trades contract.trade (unsigned_units trades contracts contract.trade)) refl (λ e. own.apart (sym e)) in
      omega (arith, ints, sells, buys, one, two, three, four)
