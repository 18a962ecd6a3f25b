-- The market of a document is one that is served, and its firms have the worths that the document says.
use Rattle.std.proofs.Common.{◌≡◌, ◌≢◌, ℕ, zero, suc, ◌+◌, ◌<◌, ◌≤◌, refl, sym, ap, subst, ◌∙◌, arith, inl, inr, List, [], ◌∷◌, length, get_or, length-append, ℤ, pos, true, ◌==◌, Some}
use Rattle.std.specs.Prelude.{map, slice_get}
use Rattle.std.specs.List.{list_any, sum_by}
use Rattle.std.specs.List.Sorted.{IsNonDecreasingBy, IsPermutation}
use Rattle.std.proofs.lemmas.Int.{ints}
use Rattle.std.proofs.lemmas.List.{length-map}
use Rattle.std.proofs.lemmas.List.Sorted.{length_permutation}
use Rattle.std.proofs.lemmas.List.Sums.{sum_by-cons}
use Rattle.std.proofs.lemmas.Option.{get_or_from_slice_get, none-some, same_Some, slice_get-get_or, slice_get_within}
use Rattle.tn_base.specs.Arcs.{IsAtMost}
use Rattle.tn_base.specs.Options.{both}
use Rattle.tn_links.specs.Links.{AreFalling, room}
use Rattle.tn_links.specs.declared.link.Step.{Step}
use Rattle.tn_counts.specs.Counts.{AreCounts, CountFirm, trade_at}
use Rattle.tn_counts.specs.Laminar.{amount_sum, firm_of, set_sum}
use Rattle.tn_counts.specs.Markets.{AreCountSets, AreLaminar, AreSmallAmounts, HaveSmallAmounts, HaveSmallSteps, IsBetween, IsUnitMarket}
use Rattle.tn_counts.specs.Widths.{most_market_units, most_set_units, most_unit_amount, most_unit_trades}
use Rattle.tn_counts.specs.declared.market.UnitMarket.{UnitMarket}
use Rattle.tn_counts.specs.declared.set.CountSet.{CountSet}
use Rattle.tn_counts.specs.declared.trade.UnitTrade.{UnitTrade}
use Rattle.tn_read_units.specs.Documents.{AreMembers, AreNested, IsUnitDocument, IsWithin, IsWrittenSet, has_member}
use Rattle.tn_read_units.specs.Firms.{UnitDocument, WrittenFirm}
use Rattle.tn_read_units.specs.Placed.{PlacedSet, all_placed, amounts_for, as_placed, placed, placed_steps}
use Rattle.tn_read_units.specs.Sets.{WrittenSet}
use Rattle.tn_read_units.specs.Trades.{IsUnitTrade}
use Rattle.tn_read_units.specs.Worths.{firms_from, written_amounts, written_firms, written_worth}
use Rattle.tn_read_units.proofs.AmountLemmas.{AreByTrade, amounts_are, amounts_small}
use Rattle.tn_read_units.proofs.FallLemmas.{all_at}
use Rattle.tn_read_units.proofs.NumberLemmas.{around-first, falling-first, room_few, small_number, small_steps}
use Rattle.tn_read_units.proofs.PlacedLemmas.{IsOfFirm, sets_of_firms, sets_sum}
use Rattle.tn_read_units.proofs.SubsetLemmas.{has_all}

-- a market is made of a document
pub record IsMadeOf (document : UnitDocument) (market : UnitMarket) : Type 0 where
  pub firms : market.firms ≡ length document.firms
  pub trades : market.trades.items ≡ document.head.trades
  pub as_many : length market.amounts.items ≡ length document.head.trades
  pub by_trade : AreByTrade document.head.trades document.firms market.amounts.items
  pub sets : IsPermutation (all_placed 0 document.firms) (map as_placed market.sets.items)
  pub sorted : IsNonDecreasingBy (λ set. length set.members.items) market.sets.items

-- what is made of the firms and the trades of a document is made of it
pub made_from : (document : UnitDocument) (market : UnitMarket) (firms : List WrittenFirm) (trades : List UnitTrade)
    → firms ≡ document.firms → trades ≡ document.head.trades → market.firms ≡ length firms
    → market.trades.items ≡ trades → length market.amounts.items ≡ length trades
    → AreByTrade trades firms market.amounts.items
    → IsPermutation (all_placed 0 firms) (map as_placed market.sets.items)
    → IsNonDecreasingBy (λ set. length set.members.items) market.sets.items → IsMadeOf document market
made_from document market firms trades firms_are trades_are count same as_many by_trade sets sorted = record {
  firms = count ∙ ap length firms_are;
  trades = same ∙ trades_are;
  as_many = as_many ∙ ap length trades_are;
  by_trade = subst (λ (l : List UnitTrade). AreByTrade l document.firms market.amounts.items) trades_are
      (subst (λ (w : List WrittenFirm). AreByTrade trades w market.amounts.items) firms_are by_trade);
  sets = subst (λ (w : List WrittenFirm). IsPermutation (all_placed 0 w)
      (map as_placed market.sets.items)) firms_are sets;
  sorted = sorted;
}

count_placed : (first : ℕ) (firms : List WrittenFirm)
    → length (all_placed first firms) ≡ sum_by (λ firm. length firm.sets) firms
count_placed first [] = refl
count_placed first (firm ∷ firms) =
    let split = length-append (map (placed first) firm.sets) (all_placed (suc first) firms) in
    let own : length (map (placed first) firm.sets) ≡ length firm.sets = length-map firm.sets (placed first) in
    let sum = sum_by-cons (λ (w : WrittenFirm). length w.sets) firm firms in
    omega (arith, split, own, sum, count_placed (suc first) firms)

-- a firm with the worths that a document says
abbrev counted : List UnitTrade → ℕ → WrittenFirm → CountFirm
counted trades f firm = record { worth = written_worth trades f firm }

-- the firm as it is written
pub record IsWrittenAt (trades : List UnitTrade) (first : ℕ) (firms : List WrittenFirm) (f : ℕ)
    (firm : CountFirm) : Type
    0 where
  pub written : WrittenFirm
  pub at : slice_get firms f ≡ Some written
  pub is : counted trades (first + f) written ≡ firm

firm_from : (trades : List UnitTrade) (first : ℕ) (firms : List WrittenFirm) (f : ℕ) (firm : CountFirm)
    → slice_get (firms_from trades first firms) f ≡ Some firm → IsWrittenAt trades first firms f firm
firm_from trades first [] f firm is = absurd (none-some firm is)
firm_from trades first (written ∷ firms) zero firm is = record {
  written = written;
  at = refl;
  is = ap (λ (f : ℕ). counted trades f written) (omega arith) ∙ same_Some (counted trades first written) firm is;
}
firm_from trades first (written ∷ firms) (suc f) firm is =
    let rest = firm_from trades (suc first) firms f firm is in
    record {
      written = rest.written;
      at = rest.at;
      is = ap (λ (g : ℕ). counted trades g rest.written) (omega arith) ∙ rest.is;
    }

-- what a placed set is within
record IsPlacedWell (firms : ℕ) (set : PlacedSet) : Type 0 where
  known : set.firm < firms
  around : set.back ≤ room set.steps
  few : room set.steps ≤ most_set_units
  concave : AreFalling set.steps
  small : HaveSmallSteps set.steps
  constant : IsAtMost set.constant most_unit_amount

placed_well : (trades : List UnitTrade) (firms f : ℕ) (set : WrittenSet) → f < firms → IsWrittenSet trades f set
    → IsPlacedWell firms (placed f set)
placed_well trades firms f set known is = record {
  known = known;
  around = around-first set.numbers set.bought set.sold most_market_units is.around;
  few = room_few set.numbers set.bought set.sold is.numbers;
  concave = falling-first set.numbers set.bought set.sold most_market_units is.concave;
  small = λ k step at. all_at (λ (s : Step). IsAtMost s.each most_unit_amount)
      (placed_steps set.numbers set.bought set.sold) k step
      (small_steps set.numbers set.bought set.sold is.numbers is.bought is.sold) at;
  constant = small_number set.numbers is.numbers;
}

module _ (document : UnitDocument) (is : IsUnitDocument document) where
  trades_between : (t : ℕ) (trade : UnitTrade) → slice_get document.head.trades t ≡ Some trade
      → IsBetween (length document.firms) trade
  trades_between t trade at =
      subst (λ (n : ℕ). IsBetween n trade) (sym is.named)
      (all_at (IsUnitTrade (length document.head.names.firms)) document.head.trades t trade is.head.each at).between

  apart_at : (t : ℕ) → t < length document.head.trades
      → (trade_at document.head.trades t).seller ≢ (trade_at document.head.trades t).buyer
  apart_at t inside =
      let none : UnitTrade = record { seller = 0; buyer = 0; units = 0 } in
      (trades_between t (get_or document.head.trades t none)
      (slice_get-get_or document.head.trades t none inside)).apart

  written_at : (f : ℕ) (firm : WrittenFirm) (k : ℕ) (set : WrittenSet) → slice_get document.firms f ≡ Some firm
      → slice_get firm.sets k ≡ Some set → IsWrittenSet document.head.trades f set
  written_at f firm k set firm_is set_is =
      all_at (IsWrittenSet document.head.trades f) firm.sets k set (is.each f firm firm_is).sets set_is

  module _ (market : UnitMarket) (made : IsMadeOf document market) where
    of_firm : (i : ℕ) (set : CountSet) → slice_get market.sets.items i ≡ Some set
        → IsOfFirm document.firms 0 (as_placed set)
    of_firm i set at =
        all_at (λ (s : CountSet). IsOfFirm document.firms 0 (as_placed s)) market.sets.items i set
        (sets_of_firms document.firms market.sets.items made.sets) at

    each_set : AreCountSets market.firms market.sets.items
    each_set i set at =
        let of = of_firm i set at in
        let place : 0 + of.place ≡ of.place = omega arith in
        let same = of.is ∙ ap (λ (g : ℕ). placed g of.written) place in
        let well = subst (IsPlacedWell market.firms) (sym same)
        (placed_well document.head.trades market.firms of.place of.written
        (omega (arith, made.firms, slice_get_within document.firms of.place of.firm of.firm_is))
        (written_at of.place of.firm of.at of.written of.firm_is of.written_is)) in
        record {
          known = well.known;
          around = well.around;
          few = well.few;
          concave = well.concave;
          small = well.small;
          constant = well.constant;
        }

    small_amounts : HaveSmallAmounts market.amounts.items
    small_amounts t each at =
        let inside : t < length document.head.trades =
        omega (arith, made.as_many, slice_get_within market.amounts.items t each at) in
        let none : UnitTrade = record { seller = 0; buyer = 0; units = 0 } in
        let between = trades_between t (get_or document.head.trades t none)
        (slice_get-get_or document.head.trades t none inside) in
        let same : each ≡ amounts_for document.firms t (trade_at document.head.trades t) =
        sym (get_or_from_slice_get market.amounts.items t each (record { seller = pos 0; buyer = pos 0 }) at)
        ∙ made.by_trade t inside in
        let give = λ (f : ℕ) (firm : WrittenFirm) (at : slice_get document.firms f
        ≡ Some firm). (is.each f firm at).amounts in
        let seller = amounts_small document.head.trades document.firms give (trade_at document.head.trades t).seller t
        between.seller in
        let buyer = amounts_small document.head.trades document.firms give (trade_at document.head.trades t).buyer t
        between.buyer in
        subst AreSmallAmounts (sym same) (record {
          seller = record { low = omega (arith, ints, seller.low); high = omega (arith, ints, seller.high) };
          buyer = record { low = omega (arith, ints, buyer.low); high = omega (arith, ints, buyer.high) };
        })

    -- a set within a greater one of its firm, where the two share a trade
    within : (f : ℕ) (inner outer : WrittenSet) → AreMembers document.head.trades f inner.members
        → AreMembers document.head.trades f outer.members → AreNested inner outer
        → length inner.members.trades ≤ length outer.members.trades → (t : ℕ) → has_member inner.members t ≡ true
        → has_member outer.members t ≡ true → IsWithin inner outer
    within f inner outer first second nested order t one other = elim (nested t one other) [
      | inl lies ↦ lies
      | inr contains ↦ λ u member.
          sym (second.named u)
          ∙ has_all outer.members.named inner.members.named
          (λ k in_outer. first.named k ∙ contains k (sym (second.named k) ∙ in_outer))
          (omega (arith, first.count, second.count, order)) u (first.named u ∙ member)
    ]

    laminar : AreLaminar market.sets.items
    laminar i k t u inner outer less inner_is outer_is same first second third =
        let one = of_firm i inner inner_is in
        let two = of_firm k outer outer_is in
        let order : length inner.members.items ≤ length outer.members.items =
        subst (λ (s : CountSet). length s.members.items ≤ length outer.members.items)
        (get_or_from_slice_get market.sets.items i inner inner inner_is)
        (subst (λ (s : CountSet). length (get_or market.sets.items i inner).members.items ≤ length s.members.items)
        (get_or_from_slice_get market.sets.items k outer inner outer_is)
        (made.sorted i k inner (omega (arith, less)) (slice_get_within market.sets.items k outer outer_is))) in
        let places : one.place ≡ two.place = omega (
          arith,
          ap (λ (p : PlacedSet). p.firm) one.is,
          ap
              (λ (p : PlacedSet). p.firm) two.is,
          same,
        ) in
        let firms : two.firm ≡ one.firm =
        same_Some two.firm one.firm (sym two.firm_is ∙ ap (slice_get document.firms) (sym places) ∙ one.firm_is) in
        let other_is : slice_get one.firm.sets two.at ≡ Some two.written =
        subst (λ (w : WrittenFirm). slice_get w.sets two.at ≡ Some two.written) firms two.written_is in
        let inner_members : inner.members.items ≡ one.written.members.trades =
        ap (λ (p : PlacedSet). p.members) one.is in
        let outer_members : outer.members.items ≡ two.written.members.trades =
        ap (λ (p : PlacedSet). p.members) two.is in
        let lies = within one.place one.written two.written
        (written_at one.place one.firm one.at one.written one.firm_is one.written_is).members
        (written_at one.place one.firm two.at two.written one.firm_is other_is).members
        ((is.each one.place one.firm one.firm_is).laminar one.at two.at one.written two.written one.written_is other_is)
        (subst (λ (l : List ℕ). length l ≤ length two.written.members.trades) inner_members
        (subst (λ (l : List ℕ). length inner.members.items ≤ length l) outer_members order)) t
        (subst (λ (l : List ℕ). list_any (λ k. k == t) l ≡ true) inner_members first)
        (subst (λ (l : List ℕ). list_any (λ k. k == t) l ≡ true) outer_members second) u
        (subst (λ (l : List ℕ). list_any (λ k. k == u) l ≡ true) inner_members third) in
        subst (λ (l : List ℕ). list_any (λ k. k == u) l ≡ true) (sym outer_members) lies

    pub is_market : IsUnitMarket market
    is_market = record {
      few_firms = omega (arith, made.firms, is.named, is.head.few_firms);
      few_trades = subst (λ (l : List UnitTrade). length l ≤ most_unit_trades) (sym made.trades) is.head.few;
      few_sets = omega (
        arith,
        length_permutation (all_placed 0 document.firms) (map as_placed market.sets.items) made.sets,
        length-map market.sets.items as_placed,
        count_placed 0 document.firms,
        is.few_sets,
      );
      few_units = subst (λ (l : List UnitTrade). sum_by (λ trade. trade.units) l ≤ most_market_units)
          (sym made.trades) is.head.few_units;
      between = λ t trade at. subst (λ (n : ℕ). IsBetween n trade) (sym made.firms)
          (trades_between t trade (subst (λ (l : List UnitTrade). slice_get l t ≡ Some trade) made.trades at));
      as_many = made.as_many ∙ ap length (sym made.trades);
      small = small_amounts;
      each = each_set;
      laminar = laminar;
    }

    worth_is : (f : ℕ) (firm : WrittenFirm) → slice_get document.firms f ≡ Some firm → (counts : ℕ → ℕ)
        → AreCounts document.head.trades counts
        → (firm_of market f).worth counts ≡ written_worth document.head.trades f firm counts
    worth_is f firm at counts within =
        let give = λ (g : ℕ) (w : WrittenFirm) (q : slice_get document.firms g ≡ Some w). (is.each g w q).amounts in
        ap (λ (l : List UnitTrade). both (Some (amount_sum l market.amounts.items f counts))
        (set_sum l f counts market.sets.items)) made.trades
        ∙ ap (λ (z : ℤ). both (Some z) (set_sum document.head.trades f counts market.sets.items))
        (amounts_are document.head.trades document.firms give market.amounts.items counts f firm made.by_trade apart_at
        at)
        ∙ ap (both (Some (written_amounts counts firm.amounts.entries)))
        (sets_sum document.head.trades f counts within is.head.few_units document.firms firm market.sets.items at
        (is.each f firm at).sets made.sets)

    -- the firm of the document with a number
    pub worths_are : (f : ℕ) (firm : CountFirm) → slice_get (written_firms document) f ≡ Some firm → (counts : ℕ → ℕ)
        → AreCounts document.head.trades counts → (firm_of market f).worth counts ≡ firm.worth counts
    worths_are f firm at counts within =
        let from = firm_from document.head.trades 0 document.firms f firm at in
        let place : f ≡ 0 + f = omega arith in
        worth_is f from.written from.at counts within
        ∙ ap (λ (g : ℕ). written_worth document.head.trades g from.written counts) place
        ∙ ap (λ (c : CountFirm). c.worth counts) from.is
