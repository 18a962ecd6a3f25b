-- Rows of two answers over the same names that are written alike tell the same.
use Rattle.std.proofs.Common.{◌≡◌, ℕ, ℤ, ◌<◌, List, [], length, map, FitsSigned, slice_get, get_or, Option, Some, IfSome, All, refl, sym, ap, ◌∙◌, arith}
use Rattle.std.proofs.lemmas.Option.{slice_get_within}
use Rattle.std.specs.Fmt.{signed_decimal}
use Rattle.std.specs.List.{AllZip, each_same}
use Rattle.std.specs.Int.{w64}
use Rattle.tn_model.specs.declared.ends.Ends.{Ends}
use Rattle.tn_said.specs.declared.holding.Holding.{Holding}
use Rattle.tn_said.specs.declared.units.TradeUnits.{TradeUnits}
use Rattle.tn_said.specs.declared.units.UnitHolding.{UnitHolding}
use Rattle.tn_names.specs.Names.{NameLists, IsNameList}
use Rattle.tn_names.specs.Named.{IsNamed}
use Rattle.tn_answer.specs.Rows.{bounds_row, bundle_text, buyer_text, deal_head, deal_row, firm_head, firm_row, held_row, price_head, price_row, range_head, rows_text, seller_text, table, unit_bundle_text, unit_firm_row}
use Rattle.tn_answer.specs.Apart.{AreNamedEnds, AreSameEnds, IsNamedEntry, IsNamedHolding, IsNamedUnitHolding, IsSameHolding}
use Rattle.tn_answer.specs.Sayable.{IsShortEntry, IsShortHolding, IsShortUnitHolding}
use Rattle.tn_answer.proofs.BundleLemmas.{IsKnownEntry, no_bundle_alike, same_bundle, same_name_text, same_unit_bundle}
use Rattle.tn_answer.proofs.RowLemmas.{alike_places, item_at, same_bound_text, same_decimal, same_items, same_places, same_tables, there}
use Rattle.csv.specs.Writing.{read_back}

module _ (names : NameLists) (firms : IsNameList names.firms) (trades : IsNameList names.trades) where
  same_ends : (ends others : List Ends) → AreNamedEnds names ends → AreNamedEnds names others
      → ((t : ℕ) → t < length names.trades
      → (seller_text names.firms (slice_get ends t) ≡ seller_text names.firms (slice_get others t))
      × (buyer_text names.firms (slice_get ends t) ≡ buyer_text names.firms (slice_get others t)))
      → AreSameEnds ends others
  same_ends ends others named other_named h =
      let one_each = named.one_each in
      let counted = one_each ∙ sym other_named.one_each in
      record {
        same_sellers = same_places (λ trade. trade.seller) (λ trade. trade.seller) ends others counted
            (λ t x y at at'. same_name_text names.firms firms x.seller y.seller
            (there (λ trade. IsNamed names.firms trade.seller) ends t x named.sellers at)
            (there (λ trade. IsNamed names.firms trade.seller) others t y other_named.sellers at')
            (sym (ap (seller_text names.firms) at) ∙ (h t (inside t x at one_each)).0
            ∙ ap (seller_text names.firms) at'));
        same_buyers = same_places (λ trade. trade.buyer) (λ trade. trade.buyer) ends others counted
            (λ t x y at at'. same_name_text names.firms firms x.buyer y.buyer
            (there (λ trade. IsNamed names.firms trade.buyer) ends t x named.buyers at)
            (there (λ trade. IsNamed names.firms trade.buyer) others t y other_named.buyers at')
            (sym (ap (buyer_text names.firms) at) ∙ (h t (inside t x at one_each)).1
            ∙ ap (buyer_text names.firms) at'));
      }
    where
      inside : (t : ℕ) (x : Ends) → slice_get ends t ≡ Some x → length ends ≡ length names.trades
          → t < length names.trades
      inside t x at counted = let below = slice_get_within ends t x at in omega (arith, below, counted)

  -- rows that stand at each trade of a table agree at each trade
  at_each : {A B : Type 0} (xs : List A) (ys : List B) (row : ℕ → A → List (List ℕ)) (other : ℕ → B → List (List ℕ))
      → length xs ≡ length names.trades
      → length ys ≡ length names.trades
      → ((k : ℕ) (x : A) (y : B) → slice_get xs k ≡ Some x → slice_get ys k ≡ Some y
      → read_back (row k x) ≡ read_back (other k y))
      → (t : ℕ) → t < length names.trades → (x : A) × (y : B) × (read_back (row t x) ≡ read_back (other t y))
  at_each xs ys row other counted other_counted rows t below =
      let x = item_at xs t (omega (arith, below, counted)) in
      let y = item_at ys t (omega (arith, below, other_counted)) in
      (x.0, y.0, rows t x.0 y.0 x.1 y.1)

  same_prices_in_rows : (i : ℕ) (xs ys : List ℤ) (row other : ℕ → ℤ → List (List ℕ)) → length xs ≡ length ys
      → All (FitsSigned w64) xs → All (FitsSigned w64) ys
      → ((k : ℕ) (x : ℤ) → get_or (read_back (row k x)) i [] ≡ signed_decimal x)
      → ((k : ℕ) (y : ℤ) → get_or (read_back (other k y)) i [] ≡ signed_decimal y)
      → ((k : ℕ) (x y : ℤ) → slice_get xs k ≡ Some x → slice_get ys k ≡ Some y
      → read_back (row k x) ≡ read_back (other k y)) → xs ≡ ys
  same_prices_in_rows i xs ys row other counted short short' is other_is rows = same_items xs ys counted
      (λ k x y at at'. same_decimal x y (there (FitsSigned w64) xs k x short at)
      (there (FitsSigned w64) ys k y short' at')
      (sym (is k x) ∙ ap (λ r. get_or r i []) (rows k x y at at') ∙ other_is k y))

  -- the column `on` of two tables has the same at each trade
  abbrev pub IsSameColumn : (on others : ℕ → List ℕ) → Type 0
  IsSameColumn on others = (t : ℕ) → t < length names.trades → on t ≡ others t

  pub same_deals : (on on' : ℕ → List ℕ) (prices : List ℤ) (ends : List Ends) (prices' : List ℤ) (ends' : List Ends)
      → length prices ≡ length names.trades → length prices' ≡ length names.trades → AreNamedEnds names ends
      → AreNamedEnds names ends' → All (FitsSigned w64) prices → All (FitsSigned w64) prices'
      → rows_text (table deal_head (deal_row names on ends) prices)
      ≡ rows_text (table deal_head (deal_row names on' ends') prices')
      → IsSameColumn on on' × (prices ≡ prices') × AreSameEnds ends ends'
  same_deals on on' prices ends prices' ends' one_each one_each' ends_named ends_named' short short' e =
      let counted = one_each ∙ sym one_each' in
      let rows = same_tables (deal_row names on ends) (deal_row names on' ends') deal_head prices prices' counted e in
      let each = at_each prices prices' (deal_row names on ends) (deal_row names on' ends') one_each one_each' rows in (
        (λ t below. ap (λ r. get_or r 3 []) (each t below).2),
        same_prices_in_rows 4 prices prices' (deal_row names on ends) (deal_row names on' ends') counted short short'
            (λ k x. refl) (λ k y. refl) rows,
        same_ends ends ends' ends_named ends_named' (λ t below. (
          ap (λ r. get_or r 1 []) (each t below).2,
          ap (λ r. get_or r 2 []) (each t below).2,
        )),
      )

  pub same_prices_alone : (on on' : ℕ → List ℕ) (prices prices' : List ℤ) → length prices ≡ length names.trades
      → length prices' ≡ length names.trades → All (FitsSigned w64) prices → All (FitsSigned w64) prices'
      → rows_text (table price_head (price_row names on) prices)
      ≡ rows_text (table price_head (price_row names on') prices') → IsSameColumn on on' × (prices ≡ prices')
  same_prices_alone on on' prices prices' one_each one_each' short short' e =
      let counted = one_each ∙ sym one_each' in
      let rows = same_tables (price_row names on) (price_row names on') price_head prices prices' counted e in
      let each = at_each prices prices' (price_row names on) (price_row names on') one_each one_each' rows in (
        (λ t below. ap (λ r. get_or r 1 []) (each t below).2),
        same_prices_in_rows 2 prices prices' (price_row names on) (price_row names on') counted short short'
            (λ k x. refl) (λ k y. refl) rows,
      )

  -- what two sorts of items have of ranges
  module _ {A B : Type 0} (low high : A → Option ℤ) (low' high' : B → Option ℤ) where
    abbrev pub bounds : A → Option ℤ × Option ℤ
    bounds x = (low x, high x)

    abbrev pub other_bounds : B → Option ℤ × Option ℤ
    other_bounds y = (low' y, high' y)

    pub same_bounds_rows : (on on' : ℕ → List ℕ) (xs : List A) (ends : List Ends) (ys : List B) (ends' : List Ends)
        → length xs ≡ length names.trades → length ys ≡ length names.trades → AreNamedEnds names ends
        → AreNamedEnds names ends'
        → All (λ x. IfSome (low x) (FitsSigned w64) × IfSome (high x) (FitsSigned w64)) xs
        → All (λ y. IfSome (low' y) (FitsSigned w64) × IfSome (high' y) (FitsSigned w64)) ys
        → rows_text (table range_head (λ k x. bounds_row names on ends k (low x) (high x)) xs)
        ≡ rows_text (table range_head (λ k y. bounds_row names on' ends' k (low' y) (high' y)) ys)
        → IsSameColumn on on' × (map bounds xs ≡ map other_bounds ys)
        × AreSameEnds ends ends'
    same_bounds_rows on on' xs ends ys ends' one_each one_each' ends_named ends_named' short short' e =
        let counted = one_each ∙ sym one_each' in
        let row = λ (k : ℕ) (x : A). bounds_row names on ends k (low x) (high x) in
        let other = λ (k : ℕ) (y : B). bounds_row names on' ends' k (low' y) (high' y) in
        let rows = same_tables row other range_head xs ys counted e in
        let each = at_each xs ys row other one_each one_each' rows in (
          (λ t below. ap (λ r. get_or r 3 []) (each t below).2),
          same_places bounds other_bounds xs ys counted (λ t x y at at'.
              let fits = there (λ z. IfSome (low z) (FitsSigned w64) × IfSome (high z) (FitsSigned w64)) xs t x short at
              in
              let fits' = there (λ z. IfSome (low' z) (FitsSigned w64) × IfSome (high' z) (FitsSigned w64)) ys t y
              short' at' in
              let same_low = same_bound_text (low x) (low' y) fits.0 fits'.0
              (ap (λ r. get_or r 4 []) (rows t x y at at')) in
              let same_high = same_bound_text (high x) (high' y) fits.1 fits'.1
              (ap (λ r. get_or r 5 []) (rows t x y at at')) in
              λ j. (same_low j, same_high j)),
          same_ends ends ends' ends_named ends_named' (λ t below. (
            ap (λ r. get_or r 1 []) (each t below).2,
            ap (λ r. get_or r 2 []) (each t below).2,
          )),
        )

  -- the numbers of what a firm has, whatever its bundles
  abbrev AreShort : Option ℤ → Option ℤ → ℤ → Option ℤ → Type 0
  AreShort worth utility best_utility gain = IfSome worth (FitsSigned w64) × IfSome utility (FitsSigned w64)
      × FitsSigned w64 best_utility × IfSome gain (FitsSigned w64)

  same_numbers : (k : ℕ) (has best : List ℕ) (worth utility : Option ℤ) (best_utility : ℤ) (gain : Option ℤ)
      (has' best' : List ℕ) (worth' utility' : Option ℤ) (best_utility' : ℤ) (gain' : Option ℤ)
      → AreShort worth utility best_utility gain → AreShort worth' utility' best_utility' gain'
      → read_back (held_row names.firms k has best worth utility best_utility gain)
      ≡ read_back (held_row names.firms k has' best' worth' utility' best_utility' gain')
      → (worth ≡ worth') × (utility ≡ utility') × (best_utility ≡ best_utility') × (gain ≡ gain')
  same_numbers k has best worth utility best_utility gain has' best' worth' utility' best_utility' gain' short short' e = (
    same_bound_text worth worth' short.0 short'.0 (ap (λ r. get_or r 2 []) e),
    same_bound_text utility utility' short.1 short'.1 (ap (λ r. get_or r 3 []) e),
    same_decimal best_utility best_utility' short.2 short'.2 (ap (λ r. get_or r 4 []) e),
    same_bound_text gain gain' short.3 short'.3 (ap (λ r. get_or r 5 []) e),
  )

  -- what is known of a firm's holding where its row is read
  abbrev IsKnown : Holding → Type 0
  IsKnown holding = IsNamedHolding names.trades holding × IsShortHolding holding

  abbrev IsKnownWithUnits : UnitHolding → Type 0
  IsKnownWithUnits holding = IsNamedUnitHolding names.trades holding × IsShortUnitHolding holding

  abbrev known_entries : (bundle : List TradeUnits) → All (IsNamedEntry names.trades) bundle → All IsShortEntry bundle
      → All (IsKnownEntry names.trades trades) bundle
  known_entries bundle named short = λ k d below. (named k d below, short k d below)

  numbers_of : (holding : Holding) → IsShortHolding holding
      → AreShort holding.worth holding.utility holding.best_utility holding.gain
  numbers_of holding short = (short.worth, short.utility, short.best_utility, short.gain)

  unit_numbers_of : (holding : UnitHolding) → IsShortUnitHolding holding
      → AreShort holding.worth holding.utility holding.best_utility holding.gain
  unit_numbers_of holding short = (short.worth, short.utility, short.best_utility, short.gain)

  same_firm_row : (k : ℕ) (x y : Holding) → IsKnown x → IsKnown y
      → read_back (firm_row names k x) ≡ read_back (firm_row names k y) → y ≡ x
  same_firm_row k x y h i e =
      let own = bundle_text names.trades in
      let numbers = same_numbers k (own y.has) (own y.best) y.worth y.utility y.best_utility y.gain (own x.has)
      (own x.best) x.worth x.utility x.best_utility x.gain (numbers_of y i.1) (numbers_of x h.1) (sym e) in
      let has = same_bundle names.trades trades y.has x.has i.0.has h.0.has (ap (λ r. get_or r 6 []) (sym e)) in
      let best = same_bundle names.trades trades y.best x.best i.0.best h.0.best (ap (λ r. get_or r 7 []) (sym e)) in
      λ j. record {
        has = has j;
        worth = numbers.0 j;
        utility = numbers.1 j;
        best = best j;
        best_utility = numbers.2 j;
        gain = numbers.3 j;
      }

  same_unit_firm_row : (k : ℕ) (x y : UnitHolding) → IsKnownWithUnits x → IsKnownWithUnits y
      → read_back (unit_firm_row names k x) ≡ read_back (unit_firm_row names k y) → y ≡ x
  same_unit_firm_row k x y h i e =
      let own = unit_bundle_text names.trades in
      let numbers = same_numbers k (own y.has) (own y.best) y.worth y.utility y.best_utility y.gain (own x.has)
      (own x.best) x.worth x.utility x.best_utility x.gain (unit_numbers_of y i.1) (unit_numbers_of x h.1) (sym e) in
      let has = same_unit_bundle names.trades trades y.has x.has (known_entries y.has i.0.has i.1.has)
      (known_entries x.has h.0.has h.1.has) (ap (λ r. get_or r 6 []) (sym e)) in
      let best = same_unit_bundle names.trades trades y.best x.best (known_entries y.best i.0.best i.1.best)
      (known_entries x.best h.0.best h.1.best) (ap (λ r. get_or r 7 []) (sym e)) in
      λ j. record {
        has = has j;
        worth = numbers.0 j;
        utility = numbers.1 j;
        best = best j;
        best_utility = numbers.2 j;
        gain = numbers.3 j;
      }

  firm_row_alike : (k : ℕ) (x : Holding) (y : UnitHolding) → IsKnown x → IsKnownWithUnits y
      → read_back (firm_row names k x) ≡ read_back (unit_firm_row names k y) → IsSameHolding x y
  firm_row_alike k x y h i e =
      let own = bundle_text names.trades in
      let other = unit_bundle_text names.trades in
      let numbers = same_numbers k (own x.has) (own x.best) x.worth x.utility x.best_utility x.gain (other y.has)
      (other y.best) y.worth y.utility y.best_utility y.gain (numbers_of x h.1) (unit_numbers_of y i.1) e in
      record {
        best = no_bundle_alike names.trades trades x.best y.best h.0.best (known_entries y.best i.0.best i.1.best)
            (ap (λ r. get_or r 7 []) e);
        best_utility = numbers.2;
        gain = numbers.3;
        has = no_bundle_alike names.trades trades x.has y.has h.0.has (known_entries y.has i.0.has i.1.has)
            (ap (λ r. get_or r 6 []) e);
        utility = numbers.1;
        worth = numbers.0;
      }

  -- firms of two tables of one text, whose rows are alike where they are the same
  module _ {A B : Type 0} (row : ℕ → A → List (List ℕ)) (other : ℕ → B → List (List ℕ)) (IsOne : A → Type 0)
      (IsOther : B → Type 0) (IsAlike : A → B → Type 0)
      (one : (k : ℕ) (x : A) (y : B) → IsOne x → IsOther y → read_back (row k x) ≡ read_back (other k y)
      → IsAlike x y) where
    firms_alike : (xs : List A) (ys : List B) → length xs ≡ length ys → All IsOne xs → All IsOther ys
        → rows_text (table firm_head row xs) ≡ rows_text (table firm_head other ys) → AllZip IsAlike xs ys
    firms_alike xs ys counted h i e = alike_places IsAlike xs ys counted (λ k x y at at'.
        one k x y (there IsOne xs k x h at) (there IsOther ys k y i at')
        (same_tables row other firm_head xs ys counted e k x y at at'))

  known : (xs : List Holding) → All (IsNamedHolding names.trades) xs → All IsShortHolding xs → All IsKnown xs
  known xs named short = λ k d below. (named k d below, short k d below)

  known_with_units : (xs : List UnitHolding) → All (IsNamedUnitHolding names.trades) xs → All IsShortUnitHolding xs
      → All IsKnownWithUnits xs
  known_with_units xs named short = λ k d below. (named k d below, short k d below)

  pub same_firm_rows : (xs ys : List Holding) → length xs ≡ length ys → All (IsNamedHolding names.trades) xs
      → All (IsNamedHolding names.trades) ys → All IsShortHolding xs → All IsShortHolding ys
      → rows_text (table firm_head (firm_row names) xs) ≡ rows_text (table firm_head (firm_row names) ys) → xs ≡ ys
  same_firm_rows xs ys counted h i short short' e = sym (each_same xs ys
      (firms_alike (firm_row names) (firm_row names) IsKnown IsKnown (λ x y. y ≡ x) same_firm_row xs ys counted
      (known xs h short) (known ys i short') e))

  pub same_unit_firm_rows : (xs ys : List UnitHolding) → length xs ≡ length ys
      → All (IsNamedUnitHolding names.trades) xs → All (IsNamedUnitHolding names.trades) ys
      → All IsShortUnitHolding xs → All IsShortUnitHolding ys
      → rows_text (table firm_head (unit_firm_row names) xs) ≡ rows_text (table firm_head (unit_firm_row names) ys)
      → xs ≡ ys
  same_unit_firm_rows xs ys counted h i short short' e = sym (each_same xs ys
      (firms_alike (unit_firm_row names) (unit_firm_row names) IsKnownWithUnits IsKnownWithUnits (λ x y. y ≡ x)
      same_unit_firm_row xs ys counted (known_with_units xs h short) (known_with_units ys i short') e))

  pub firm_rows_alike : (xs : List Holding) (ys : List UnitHolding) → length xs ≡ length ys
      → All (IsNamedHolding names.trades) xs → All (IsNamedUnitHolding names.trades) ys → All IsShortHolding xs
      → All IsShortUnitHolding ys
      → rows_text (table firm_head (firm_row names) xs) ≡ rows_text (table firm_head (unit_firm_row names) ys)
      → AllZip IsSameHolding xs ys
  firm_rows_alike xs ys counted h i short short' e =
      firms_alike (firm_row names) (unit_firm_row names) IsKnown IsKnownWithUnits IsSameHolding firm_row_alike xs ys
      counted (known xs h short) (known_with_units ys i short') e
