-- What is found by a tax blocks, as the parts of the search are made.
use Rattle.std.proofs.Common.{◌≡◌, ℕ, ◌+◌, ◌*◌, ◌<◌, ◌≤◌, Bool, true, false, if◌then◌else◌, List, length, map, Some, slice_get, refl, sym, ap, ◌∙◌, subst, arith, inl, inr, ℤ, pos, ◌*ℤ◌}
use Rattle.std.specs.Prelude.{min, nat_lt, sum_by}
use Rattle.std.specs.List.{range_with_len}
use Rattle.std.proofs.lemmas.Int.{ints}
use Rattle.std.proofs.lemmas.Bool.{cases_lt}
use Rattle.std.proofs.lemmas.List.{get_or_past}
use Rattle.std.proofs.lemmas.List.FromFn.{get_or-map-range_with_len, length-map-range_with_len}
use Rattle.std.proofs.lemmas.Option.{get_or_from_slice_get, slice_get-get_or, slice_get_within}
use Rattle.std.proofs.Math.IntN.{*ℤ_comm}
use Rattle.std.proofs.Math.Nat.{le-min, min-le_left, min-le_right, mul-le-mul, one-le-mul}
use Rattle.tn_base.specs.Arcs.{IsAtMost}
use Rattle.tn_links.specs.RiseLemmas.{times_small}
use Rattle.tn_links.specs.Totals.{total}
use Rattle.tn_links.specs.Widths.{most_each}
use Rattle.tn_links.proofs.TotalLemmas.{total-most, total-zero}
use Rattle.tn_counts.specs.Counts.{trade_at}
use Rattle.tn_counts.specs.Laminar.{amounts_at, firms_of}
use Rattle.tn_counts.specs.Markets.{AreAmountsWithin, AreBetween, AreLaminar, IsMarketWithin, IsSetWithin, IsUnitMarket, IsWideMarket}
use Rattle.tn_counts.specs.Outcomes.{AreUnitContracts, IsRationalByCounts, counted, signed_units, unsigned_units}
use Rattle.tn_counts.specs.Widths.{most_market_units, most_unit_price, most_unit_trades, most_wide_amount, most_wide_trades}
use Rattle.tn_counts.specs.declared.contract.UnitContract.{UnitContract}
use Rattle.tn_counts.specs.declared.market.UnitMarket.{UnitMarket}
use Rattle.tn_counts.specs.declared.set.CountSet.{CountSet}
use Rattle.tn_counts.specs.declared.trade.UnitAmounts.{UnitAmounts}
use Rattle.tn_counts.specs.declared.trade.UnitTrade.{UnitTrade}
use Rattle.tn_tree.specs.Lists.{count_in}
use Rattle.tn_tree.specs.Pinned.{IsSettledBeside}
use Rattle.tn_tree.specs.declared.beside.SettledBeside.{SettledBeside}
use Rattle.tn_unit_judge.specs.Blocks.{AreBlocking, AreOffersTo, IsTax, IsTaxedMarket, free_one, less_one}
use Rattle.tn_unit_judge.specs.Completion.{AreUnsigned, IsPassing, contract_pins}
use Rattle.tn_unit_judge.specs.Split.{most_split_amount, most_split_over}
use Rattle.tn_unit_judge.specs.declared.blocks.UnitTax.{UnitTax}
use Rattle.tn_unit_judge.proofs.ChoiceLemmas.{blocking}
use Rattle.tn_unit_judge.proofs.GainLemmas.{some_offered}
use Rattle.tn_unit_judge.proofs.WideLemmas.{map_item, set_wider, split_within}

-- ---- contracts whose prices are counted so often

pub counted_small : (scale : ℕ) (contracts : List UnitContract) → scale ≤ 8193
    → ((k : ℕ) (contract : UnitContract) → slice_get contracts k ≡ Some contract → IsAtMost contract.price most_unit_price)
    → (k : ℕ) (contract : UnitContract) → slice_get (counted (pos scale) contracts) k ≡ Some contract
    → IsAtMost contract.price most_each
counted_small scale contracts few small k contract at =
    let own = map_item (λ (one : UnitContract). record {
      trade = one.trade;
      units = one.units;
      price = pos scale *ℤ one.price;
    }) contracts k contract at in
    let most = times_small own.0.price scale most_unit_price (small k own.0 own.1) in
    let turned = *ℤ_comm (pos scale) own.0.price in
    let same = ap (λ (c : UnitContract). c.price) own.2 in
    record {
      low = omega (arith, ints, most.low, turned, same, few);
      high = omega (arith, ints, most.high, turned, same, few);
    }

-- ---- the taxed market is served

within_taxed : (b : Bool) (amounts : UnitAmounts) → AreAmountsWithin most_split_amount amounts
    → AreAmountsWithin most_wide_amount (if b then amounts else less_one amounts)
within_taxed true amounts within = record {
  seller = record { low = omega (arith, ints, within.seller.low); high = omega (arith, ints, within.seller.high) };
  buyer = record { low = omega (arith, ints, within.buyer.low); high = omega (arith, ints, within.buyer.high) };
}
within_taxed false amounts within = record {
  seller = record { low = omega (arith, ints, within.seller.low); high = omega (arith, ints, within.seller.high) };
  buyer = record { low = omega (arith, ints, within.buyer.low); high = omega (arith, ints, within.buyer.high) };
}

pub taxed_wide : (market : UnitMarket) (over : ℕ) (contracts : List UnitContract) (free : ℕ → ℕ) (taxed : UnitMarket)
    → IsUnitMarket market → over ≤ most_split_over → length contracts ≤ most_unit_trades
    → AreUnitContracts market.trades.items contracts
    → ((t : ℕ) → t < length market.trades.items
    → signed_units contracts t + free t ≤ (trade_at market.trades.items t).units)
    → IsTaxedMarket market over contracts free taxed → IsWideMarket taxed
taxed_wide market over contracts free taxed market_is few_over few together left is = record {
  few_firms = let same = is.firms in let most = own.few_firms in omega (arith, same, most);
  few_trades = let same = ap length is.trades in let most = own.few_trades in omega (arith, same, most);
  few_sets = let same = ap length is.sets in let most = own.few_sets in omega (arith, same, most);
  few_units = subst (λ (ts : List UnitTrade). sum_by (λ trade. trade.units) ts ≤ most_market_units) (sym is.trades)
      own.few_units;
  between = subst (λ (n : ℕ). AreBetween n taxed.trades.items) (sym is.firms)
      (subst (AreBetween is.split.firms) (sym is.trades) own.between);
  as_many = is.amounts.sized ∙ own.as_many ∙ sym (ap length is.trades);
  small = λ t each at.
      let inside = slice_get_within taxed.amounts.items t each at in
      let long = is.amounts.sized in
      let below : t < length is.split.amounts.items = omega (arith, inside, long) in
      let read = sym (is.amounts.each t below)
      ∙ get_or_from_slice_get taxed.amounts.items t each (record { seller = pos 0; buyer = pos 0 }) at in
      subst (AreAmountsWithin most_wide_amount) read
      (within_taxed (nat_lt t (length contracts)) (amounts_at is.split.amounts.items t)
      (own.small t (amounts_at is.split.amounts.items t)
      (slice_get-get_or is.split.amounts.items t (record { seller = pos 0; buyer = pos 0 }) below)));
  each = λ i set at.
      let firms = is.firms in
      subst (λ (n : ℕ). IsSetWithin most_wide_amount n set) (sym firms)
      (set_wider most_split_amount most_wide_amount is.split.firms set (omega arith)
      (own.each i set (sym (ap (λ (ss : List CountSet). slice_get ss i) is.sets) ∙ at)));
  laminar = subst AreLaminar (sym is.sets) own.laminar;
}
  where
    own : IsMarketWithin most_wide_trades most_split_amount is.split
    own = split_within market over contracts free is.split market_is few_over few together.known left is.is

-- ---- one unit of each trade that is passed on

module _ (signed : ℕ) (passed unsigned free : List ℕ)
    (made : free ≡ map (free_one signed passed unsigned) (range_with_len 0 (length unsigned))) where
  pub free_sized : length free ≡ length unsigned
  free_sized = ap length made ∙ length-map-range_with_len (free_one signed passed unsigned) 0 (length unsigned)

  pub free_read : (t : ℕ) → t < length unsigned
      → count_in free t ≡ min (count_in passed (signed + t)) (count_in unsigned t)
  free_read t below = ap (λ (xs : List ℕ). count_in xs t) made
      ∙ get_or-map-range_with_len (free_one signed passed unsigned) 0 (length unsigned) t t 0 below (omega arith)

  pub free_single : ((t : ℕ) → count_in passed t ≤ 1) → (t : ℕ) → count_in free t ≤ 1
  free_single single t = elim (cases_lt t (length unsigned)) [
    | inl below ↦
        let read = free_read t below in
        let most = min-le_left (count_in passed (signed + t)) (count_in unsigned t) in
        let one = single (signed + t) in
        omega (arith, read, most, one)
    | inr past ↦
        let long = free_sized in
        let none = get_or_past free t 0 (omega (arith, long, past)) in
        omega (arith, none)
  ]

  module _ (trades : List UnitTrade) (contracts : List UnitContract) (are : AreUnsigned trades contracts unsigned)
      (together : AreUnitContracts trades contracts) where
    pub free_left : (t : ℕ) → t < length trades
        → signed_units contracts t + count_in free t ≤ (trade_at trades t).units
    free_left t below =
        let long = are.one_each in
        let read = free_read t (omega (arith, below, long)) in
        let most = min-le_right (count_in passed (signed + t)) (count_in unsigned t) in
        let own = are.each t below in
        let within = together.within t below in
        omega (arith, read, most, own, within)

    pub free_room : (t n : ℕ) → t < length trades → n ≤ count_in passed (signed + t) → n ≤ unsigned_units trades contracts t
        → n ≤ count_in free t
    free_room t n below first second =
        let long = are.one_each in
        let read = free_read t (omega (arith, below, long)) in
        let own = are.each t below in
        let least : n ≤ min (count_in passed (signed + t)) (count_in unsigned t) =
        le-min first (omega (arith, second, own)) in
        omega (arith, read, least)

-- ---- what is read of the parts

pub unsigned_by : (trades read : List UnitTrade) (contracts : List UnitContract) (unsigned lent : List ℕ) → read ≡ trades
    → lent ≡ unsigned → AreUnsigned read contracts unsigned → AreUnsigned trades contracts lent
unsigned_by trades read contracts unsigned lent first second are =
    subst (λ (xs : List ℕ). AreUnsigned trades contracts xs) (sym second)
    (subst (λ (ts : List UnitTrade). AreUnsigned ts contracts unsigned) first are)

pub free_long : (trades read : List UnitTrade) (contracts : List UnitContract) (passed unsigned lent free given : List ℕ)
    → read ≡ trades → lent ≡ unsigned → AreUnsigned read contracts unsigned
    → free ≡ map (free_one (length contracts) passed lent) (range_with_len 0 (length lent)) → given ≡ free
    → length given ≡ length trades
free_long trades read contracts passed unsigned lent free given first second are made third =
    ap length third ∙ free_sized (length contracts) passed lent free made
    ∙ (unsigned_by trades read contracts unsigned lent first second are).one_each

-- ---- all together

-- the tax is as large as it has to be
pub tax_is : (trades : List UnitTrade) (contracts : List UnitContract) (passed unsigned free lent : List ℕ) (sum : ℕ)
    (tax : UnitTax) → length trades ≤ most_unit_trades → AreUnitContracts trades contracts
    → ((t : ℕ) → count_in passed t ≤ 1) → AreUnsigned trades contracts unsigned
    → free ≡ map (free_one (length contracts) passed unsigned) (range_with_len 0 (length unsigned)) → lent ≡ free
    → pos sum ≡ total (λ t. pos (count_in lent t)) (length lent) → sum ≤ length lent → tax.free.items ≡ free
    → tax.scale ≡ 2 * sum + 1 → IsTax trades contracts passed tax
tax_is trades contracts passed unsigned free lent sum tax few together single are made same sum_is sum_few is scale_is =
    record {
      one_each = length_is;
      single = λ t. subst (λ (xs : List ℕ). count_in xs t ≤ 1) (sym is)
          (free_single (length contracts) passed unsigned free made single t);
      left = λ t below. subst (λ (xs : List ℕ). signed_units contracts t + count_in xs t ≤ (trade_at trades t).units) (sym is)
          (free_left (length contracts) passed unsigned free made trades contracts are together t below);
      room = λ t n below first second. subst (λ (xs : List ℕ). n ≤ count_in xs t) (sym is)
          (free_room (length contracts) passed unsigned free made trades contracts are together t n below first second);
      more =
          let long = length_is in
          let moved = ap (λ (xs : List ℕ). total (λ t. pos (count_in xs t)) (length xs)) (same ∙ sym is) in
          let sized = ap (total (λ t. pos (count_in tax.free.items t))) long in
          omega (arith, ints, sum_is, moved, sized, scale_is);
      few =
          let long = length_is in
          let lengths = ap length (same ∙ sym is) in
          omega (arith, few, sum_few, scale_is, long, lengths);
    }
  where
    length_is : length tax.free.items ≡ length trades
    length_is = ap length is ∙ free_sized (length contracts) passed unsigned free made ∙ are.one_each

-- the denominator of offers
pub over_most : (over scale : ℕ) → over ≤ 100 → scale ≤ 8193 → over * scale ≤ most_split_over
over_most over scale few most = mul-le-mul few most

pub block_is : (market : UnitMarket) (over : ℕ) (contracts : List UnitContract) (passed : List ℕ) (tax : UnitTax)
    (taxed : UnitMarket) (settled : SettledBeside) (offers : List UnitContract) → IsUnitMarket market → 1 ≤ over → over ≤ 100
    → AreUnitContracts market.trades.items contracts
    → IsRationalByCounts (firms_of market) market.trades.items (pos over) contracts
    → IsPassing market over contracts passed → IsTax market.trades.items contracts passed tax
    → IsTaxedMarket market (over * tax.scale) contracts (count_in tax.free.items) taxed
    → IsSettledBeside taxed (contract_pins (counted (pos tax.scale) contracts)) settled
    → AreOffersTo (length contracts) settled.sold.items settled.prices.items (length market.trades.items) offers
    → AreBlocking (firms_of market) market.trades.items (pos over) contracts offers (pos (over * tax.scale))
block_is market over contracts passed tax taxed settled offers market_is some few together rational passing tax_by is found
    made =
    blocking market over tax.scale contracts (count_in tax.free.items) taxed settled offers market_is together.known is found
    made some together tax_by.left
    (some_offered market over tax.scale contracts (count_in tax.free.items) taxed settled offers market_is together.known is
    found made some passed passing rational tax_by.room least tax_by.more) (one-le-mul some least)
    (over_most over tax.scale few tax_by.few)
  where
    least : 1 ≤ tax.scale
    least =
        let more = tax_by.more in
        let most = total-most (λ t. pos 0) (λ t. pos (count_in tax.free.items t)) (length market.trades.items)
        (λ t below. omega (arith, ints)) in
        let none = total-zero (λ t. pos 0) (length market.trades.items) (λ t below. refl) in
        omega (arith, ints, more, most, none)

pub offers_by : (signed n m : ℕ) (sold lent : List ℕ) (prices read : List ℤ) (offers : List UnitContract) → n ≡ m
    → lent ≡ sold → read ≡ prices → AreOffersTo signed lent read n offers → AreOffersTo signed sold prices m offers
offers_by signed n m sold lent prices read offers same first second made =
    subst (λ (xs : List ℤ). AreOffersTo signed sold xs m offers) second
    (subst (λ (xs : List ℕ). AreOffersTo signed xs read m offers) first
    (subst (λ (k : ℕ). AreOffersTo signed lent read k offers) same made))
