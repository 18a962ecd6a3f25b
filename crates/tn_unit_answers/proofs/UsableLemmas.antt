-- A market whose trades have fewer units: it is served, and its firms have the same worths.
use Rattle.std.proofs.Common.{◌≡◌, ℕ, suc, ◌<◌, ◌≤◌, ◌==◌, Bool, true, false, if◌then◌else◌, List, [], ◌∷◌, length, Option, Some, refl, sym, ap, ap₂, ◌∙◌, subst, arith, ℤ, pos, ◌+ℤ◌, ◌*ℤ◌}
use Rattle.std.specs.Prelude.{sum_by}
use Rattle.std.proofs.lemmas.List.Sums.{sum_by-cons}
use Rattle.std.proofs.lemmas.List.FromFn.{get_or-map-range_with_len, length-map-range_with_len}
use Rattle.std.proofs.lemmas.Option.{same_Some, slice_get-get_or, slice_get_within}
use Rattle.tn_base.specs.Options.{both}
use Rattle.tn_links.specs.Totals.{total}
use Rattle.tn_links.proofs.TotalLemmas.{total-same}
use Rattle.tn_counts.specs.Counts.{AreCounts, trade_at}
use Rattle.tn_counts.specs.Laminar.{added_at, amount_sum, amount_to, amounts_at, bought_by, holds, net_count, set_sum}
use Rattle.tn_counts.specs.Markets.{AreBetween, AreCountSets, AreLaminar, HaveSmallAmounts, IsBetween}
use Rattle.tn_counts.specs.Widths.{most_count_sets, most_market_units, most_unit_firms}
use Rattle.tn_counts.specs.declared.market.UnitMarket.{UnitMarket}
use Rattle.tn_counts.specs.declared.set.CountSet.{CountSet}
use Rattle.tn_counts.specs.declared.trade.UnitAmounts.{UnitAmounts}
use Rattle.tn_counts.specs.declared.trade.UnitTrade.{UnitTrade}
use Rattle.tn_read_units.specs.Documents.{IsUnitDocument}
use Rattle.tn_read_units.specs.Firms.{UnitDocument}
use Rattle.tn_unit_answers.specs.Session.{usable_trade, usable_trades}
use Rattle.tn_unit_answers.specs.Standing.{HaveSameEnds, IsMarketBetween}
use Rattle.tn_unit_answers.proofs.SolutionLemmas.{trade_is}

-- fewer units of each trade are fewer in all
sums_less : (xs ys : List UnitTrade) → length xs ≡ length ys
    → ((t : ℕ) → t < length xs → (trade_at xs t).units ≤ (trade_at ys t).units)
    → sum_by (λ trade. trade.units) xs ≤ sum_by (λ trade. trade.units) ys
sums_less [] ys count less = omega arith
sums_less (x ∷ xs) [] count less = absurd (omega (arith, count))
sums_less (x ∷ xs) (y ∷ ys) count less =
    let first = less 0 (omega arith) in
    let rest = sums_less xs ys (omega (arith, count)) (λ t below. less (suc t) (omega (arith, below))) in
    let one = sum_by-cons (λ (trade : UnitTrade). trade.units) x xs in
    let other = sum_by-cons (λ (trade : UnitTrade). trade.units) y ys in
    omega (arith, first, rest, one, other)

-- ---- worths are by the ends of trades

module _ (trades others : List UnitTrade) (same : HaveSameEnds trades others) where
  as_many : length trades ≡ length others
  as_many = same.as_many

  totals : (c : UnitTrade → ℕ → ℤ) → ((t : ℕ) → t < length trades → c (trade_at trades t) t ≡ c (trade_at others t) t)
      → total (λ t. c (trade_at trades t) t) (length trades) ≡ total (λ t. c (trade_at others t) t) (length others)
  totals c each =
      total-same (λ t. c (trade_at trades t) t) (λ t. c (trade_at others t) t) (length trades) each
      ∙ ap (total (λ t. c (trade_at others t) t)) as_many

  amounts_same : (amounts : List UnitAmounts) (f : ℕ) (counts : ℕ → ℕ)
      → amount_sum trades amounts f counts ≡ amount_sum others amounts f counts
  amounts_same amounts f counts =
      totals (λ trade t. amount_to f trade (amounts_at amounts t) *ℤ pos (counts t)) (λ t below.
      ap₂ (λ (seller buyer : ℕ). ((if f == seller then (amounts_at amounts t).seller else pos 0)
      +ℤ (if f == buyer then (amounts_at amounts t).buyer else pos 0)) *ℤ pos (counts t)) (same.sellers t below)
      (same.buyers t below))

  nets_same : (set : CountSet) (counts : ℕ → ℕ) → net_count trades set counts ≡ net_count others set counts
  nets_same set counts =
      totals (λ trade t. if holds set t then bought_by set.firm trade (pos (counts t)) else pos 0) (λ t below.
      ap₂ (λ (seller buyer : ℕ). if holds set t
      then bought_by set.firm (record { seller = seller; buyer = buyer; units = 0 }) (pos (counts t)) else pos 0)
      (same.sellers t below) (same.buyers t below))

  sets_same : (f : ℕ) (counts : ℕ → ℕ) (sets : List CountSet) → set_sum trades f counts sets ≡ set_sum others f counts sets
  sets_same f counts [] = refl
  sets_same f counts (set ∷ sets) =
      ap₂ (λ (one : Option ℤ) (rest : Option ℤ). if f == set.firm then both one rest else rest)
      (ap (λ (net : ℤ). added_at set (net +ℤ pos set.back)) (nets_same set counts)) (sets_same f counts sets)

  pub worths_same : (amounts : List UnitAmounts) (sets : List CountSet) (f : ℕ) (counts : ℕ → ℕ)
      → both (Some (amount_sum trades amounts f counts)) (set_sum trades f counts sets)
      ≡ both (Some (amount_sum others amounts f counts)) (set_sum others f counts sets)
  worths_same amounts sets f counts =
      ap₂ (λ (sum : ℤ) (rest : Option ℤ). both (Some sum) rest) (amounts_same amounts f counts) (sets_same f counts sets)

-- ---- usable units

module _ (doc : UnitDocument) (admitted : ℕ → ℕ) (away : ℕ → Bool) where
  abbrev usable : List UnitTrade
  usable = usable_trades admitted away doc.head.trades

  pub usable_count : length usable ≡ length doc.head.trades
  usable_count =
      length-map-range_with_len (λ t. usable_trade (admitted t) away (trade_at doc.head.trades t)) 0
      (length doc.head.trades)

  pub usable_at : (t : ℕ) → t < length doc.head.trades
      → trade_at usable t ≡ usable_trade (admitted t) away (trade_at doc.head.trades t)
  usable_at t below =
      get_or-map-range_with_len (λ k. usable_trade (admitted k) away (trade_at doc.head.trades k)) 0
      (length doc.head.trades) t t (record { seller = 0; buyer = 0; units = 0 }) below (omega arith)

  pub usable_ends : HaveSameEnds usable doc.head.trades
  usable_ends = record {
    as_many = usable_count;
    sellers = λ t inside. ap (λ (trade : UnitTrade). trade.seller) (usable_at t (inside_of t inside));
    buyers = λ t inside. ap (λ (trade : UnitTrade). trade.buyer) (usable_at t (inside_of t inside));
  }
    where
      inside_of : (t : ℕ) → t < length usable → t < length doc.head.trades
      inside_of t inside = let count = usable_count in omega (arith, inside, count)

  module _ (within : AreCounts doc.head.trades admitted) where
    fewer : (a b : Bool) (n most : ℕ) → n ≤ most → (if a then 0 else if b then 0 else n) ≤ most
    fewer true b n most less = omega arith
    fewer false true n most less = omega arith
    fewer false false n most less = less

    pub usable_fewer : (t : ℕ) → t < length doc.head.trades → (trade_at usable t).units ≤ (trade_at doc.head.trades t).units
    usable_fewer t below =
        subst (λ (trade : UnitTrade). trade.units ≤ (trade_at doc.head.trades t).units) (sym (usable_at t below))
        (fewer (away (trade_at doc.head.trades t).seller) (away (trade_at doc.head.trades t).buyer) (admitted t)
        (trade_at doc.head.trades t).units (within t below))

    -- counts within the usable units are within the units
    pub within_all : (counts : ℕ → ℕ) → AreCounts usable counts → AreCounts doc.head.trades counts
    within_all counts are t below =
        let count = usable_count in
        let less = are t (omega (arith, below, count)) in
        let fewer_here = usable_fewer t below in
        omega (arith, less, fewer_here)

    usable_between : IsUnitDocument doc → AreBetween (length doc.head.names.firms) usable
    usable_between is t trade at =
        let inside = slice_get_within usable t trade at in
        let count = usable_count in
        let below : t < length doc.head.trades = omega (arith, inside, count) in
        let none : UnitTrade = record { seller = 0; buyer = 0; units = 0 } in
        let one : trade_at usable t ≡ trade =
        same_Some (trade_at usable t) trade (sym (slice_get-get_or usable t none inside) ∙ at) in
        let between = (trade_is doc is t below).between in
        subst (IsBetween (length doc.head.names.firms)) (sym (usable_at t below) ∙ one)
        (record { seller = between.seller; buyer = between.buyer; apart = between.apart })

    -- a market between the same firms with these units is one still
    pub usable_market : IsUnitDocument doc → (market after : UnitMarket) → IsMarketBetween doc market
        → after.firms ≡ market.firms → after.trades.items ≡ usable → after.amounts.items ≡ market.amounts.items
        → after.sets.items ≡ market.sets.items → IsMarketBetween doc after
    usable_market is market after before firms units amounts sets = record {
      is = record {
        few_firms = subst (λ (n : ℕ). n ≤ most_unit_firms) (sym firms) before.is.few_firms;
        few_trades = let few = before.is.few_trades in let many = before.ends.as_many in
            omega (arith, few, many, usable_count, ap length units);
        few_sets = subst (λ (xs : List CountSet). length xs ≤ most_count_sets) (sym sets) before.is.few_sets;
        few_units = subst (λ (xs : List UnitTrade). sum_by (λ trade. trade.units) xs ≤ most_market_units) (sym units)
            (let less = sums_less usable doc.head.trades usable_count
            (λ t inside. usable_fewer t (let count = usable_count in omega (arith, inside, count))) in
            let all = is.head.few_units in
            omega (arith, less, all));
        between = subst (λ (xs : List UnitTrade). AreBetween after.firms xs) (sym units)
            (subst (λ (n : ℕ). AreBetween n usable) (sym (firms ∙ before.firms)) (usable_between is));
        as_many = ap length amounts ∙ before.is.as_many ∙ before.ends.as_many ∙ sym (ap length units ∙ usable_count);
        small = subst (λ (xs : List UnitAmounts). HaveSmallAmounts xs) (sym amounts) before.is.small;
        each = subst (λ (n : ℕ). AreCountSets n after.sets.items) (sym firms)
            (subst (λ (xs : List CountSet). AreCountSets market.firms xs) (sym sets) before.is.each);
        laminar = subst (λ (xs : List CountSet). AreLaminar xs) (sym sets) before.is.laminar;
      };
      firms = firms ∙ before.firms;
      ends = subst (λ (xs : List UnitTrade). HaveSameEnds xs doc.head.trades) (sym units) usable_ends;
      worths = λ f firm at counts inside.
          ap₂ (λ (xs : List UnitAmounts) (ys : List CountSet).
          both (Some (amount_sum after.trades.items xs f counts)) (set_sum after.trades.items f counts ys)) amounts sets
          ∙ worths_same after.trades.items doc.head.trades
          (subst (λ (xs : List UnitTrade). HaveSameEnds xs doc.head.trades) (sym units) usable_ends)
          market.amounts.items market.sets.items f counts
          ∙ sym (worths_same market.trades.items doc.head.trades before.ends market.amounts.items market.sets.items f counts)
          ∙ before.worths f firm at counts inside;
    }
