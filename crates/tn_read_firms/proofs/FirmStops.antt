-- Where the reading of firms stops: a fault shows a triple exactly where exchange fails, and its trades have a name.
use Rattle.std.proofs.Common.{◌≡◌, ℕ, ◌+◌, ◌^◌, ◌<◌, ◌≤◌, Bool, true, false, cond, List, [], ◌∷◌, ◌++◌, length, Option, Some, None, Ok, refl, sym, subst, arith, length-append}
use Rattle.std.specs.Prelude.{ℤ, pos, codes, is_none, is_some, nat_le, ◌||◌, not, unsigned_abs, slice_set, if◌then◌else◌, All}
use Rattle.std.specs.List.{list_any}
use Rattle.std.proofs.Math.Nat.{pow-le-pow_right}
use Rattle.std.proofs.lemmas.List.Elements.{All-head, All-tail}
use Rattle.std.proofs.lemmas.Option.{none-some, same_Some}
use Rattle.serde_json.specs.Data.{Data, Items, null, boolean, number, string, array, object}
use Rattle.serde_json.specs.Events.{items_len}
use Rattle.serde_json.specs.Find.{get}
use Rattle.tn_base.specs.Firm.{Firm}
use Rattle.tn_base.specs.declared.side.Side.{Side}
use Rattle.tn_said.specs.declared.fault.FaultKind.TheVariants.{Shape, Limit, SameBundle, NoEmpty, NotConcave, NotLaminar}
use Rattle.tn_firm_laws.specs.Nested.{listed_from}
use Rattle.tn_exchange.specs.Rows.{TableRows, firm_of_table, row_at, with_row, without_rows}
use Rattle.tn_exchange.specs.TestOrder.{Triple}
use Rattle.tn_exchange.proofs.RowLemmas.{own_bundles}
use Rattle.tn_laminar.specs.declared.set.LaminarSet.{LaminarSet}
use Rattle.tn_laminar.specs.Sum.{HasNumbersWithin, laminar_firm}
use Rattle.tn_middle.specs.Pairs.{middle_firm}
use Rattle.tn_model.specs.declared.ends.Ends.{Ends}
use Rattle.tn_model.specs.Limits.{AreLimits, most_firms, most_own_of_table, most_own_trades, most_sets, most_values}
use Rattle.tn_model.specs.declared.limits.Limits.{Limits}
use Rattle.tn_said.specs.declared.place.PlaceStep.{PlaceStep}
use Rattle.tn_said.specs.declared.place.PlaceStep.TheVariants.{Index, Key}
use Rattle.tn_said.specs.declared.place.Word.TheVariants.{Trades, Sets, From, Values, Keep, Kind, Rows as RowsWord}
use Rattle.tn_said.specs.declared.said.Fault.{Fault}
use Rattle.tn_model.specs.Network.{own}
use Rattle.tn_names.specs.Named.{IsAscendingTriple, IsSayableFault}
use Rattle.tn_model.proofs.NetworkLemmas.{ascending_list}
use Rattle.tn_read_shapes.specs.declared.members.FirmKind.{FirmKind}
use Rattle.tn_read_shapes.specs.declared.members.FirmKind.TheVariants.{Table, Laminar, Middleman, Dealer}
use Rattle.tn_read_shapes.specs.declared.members.ObjectKind.TheVariants.{Firm as FirmObject, LaminarSet as LaminarSetObject}
use Rattle.tn_read_shapes.specs.Reading.{◌>>=◌, fault, each, holds}
use Rattle.tn_read_shapes.specs.Shapes.{text_at, list_at, optional_list_at, few_at, object_of, two_at, whole_at, number_at}
use Rattle.tn_read_references.specs.Ordered.{Listed, sides_of, AreTrades}
use Rattle.tn_read_references.specs.References.{bundle_at, firm_place}
use Rattle.tn_read_firms.specs.Kinds.{kind_named, firm_kind_of, most_own_of_kind, firm_frame_of}
use Rattle.tn_read_firms.specs.Tables.{RowsRead, filled_count, full_if_large, has_each_row, row_place, table_row_of, one_row, rows_of, table_of}
use Rattle.tn_read_firms.specs.OwnNumbers.{no_numbers, own_numbers}
use Rattle.tn_read_firms.specs.Laminars.{amounts_list, bends, check_set, check_sets, checked_laminar, crosses, first_bend, laminar_of, laminar_set_of, low_at, one_set, one_value, set_place, sets_at, unless_bent, values_at}
use Rattle.tn_read_firms.specs.Dealers.{dealer_of}
use Rattle.tn_read_firms.specs.Middlemen.{costs_list, gains_list, keep_at, middle_of}
use Rattle.tn_read_firms.specs.Firms.{shown_of, exchange_fault, unless_failing, exchange_of, tested_firm, firm_by, document_firm, one_firm}
use Rattle.tn_read_firms.specs.FirstFailure.{first_failure}
use Rattle.tn_read_firms.proofs.FailureLemmas.{first_looked}
use Rattle.tn_model.proofs.InOrderNetworks.{own_ascends, own_within}
use Rattle.tn_read_firms.proofs.ShownLemmas.{own_position_of, triple_named}
use Rattle.tn_read_firms.proofs.RowLemmas.{filled-set, filled-none, filled_le}
use Rattle.tn_read_shapes.proofs.LeadLemmas.{Leads, le_from_test, leads_as, leads_bind, leads_both, leads_holds, leads_ok}
use Rattle.tn_read_shapes.proofs.ShapeLeads.{few_lead}
use Rattle.tn_read_firms.proofs.TableLeads.{AreRows, IsOwnRow, IsTableOf, none_from, one_row_leads, row_leads, rows_start, table_leads}
use Rattle.tn_read_firms.proofs.LaminarLeads.{AreFewSets, one_set_counts, sets_lead, value_counts}
use Rattle.tn_read_firms.proofs.FirmLeads.{frame_leads, one_firm_count}
use Rattle.tn_read_firms.proofs.RoomLemmas.{sets_room}
use Rattle.tn_read_shapes.proofs.StopLemmas.{IsPlain, IsPlainPlace, Stops, StopsPlainly, plain_fault, plain_holds, plain_wanted, stops_after, stops_bind, stops_each_few, stops_each, stops_err, stops_ok}
use Rattle.tn_read_references.proofs.ToldLemmas.{IsTold, named_place, short_place, told_from_plain}
use Rattle.tn_read_shapes.proofs.ShapeStops.{text_stops, list_stops, optional_list_stops, few_stops, object_stops, two_stops, whole_stops, number_stops}
use Rattle.tn_read_references.proofs.ReferenceStops.{bundle_stops}
use Rattle.tn_read_firms.proofs.OwnLemmas.{own_numbers_stop}
use Rattle.tn_read_firms.proofs.DealerStops.{dealer_stops}

-- the number of a firm, and few own trades
pub record IsFewOwn (trades : List Ends) (f : ℕ) : Type 0 where
  pub number : f ≤ 16384
  pub own : length (sides_of trades f) ≤ most_own_trades

-- tables
module _ (listed : Listed) (trades : AreTrades listed) (f : ℕ) (firm_few : IsFewOwn listed.ends f) where
  row_stops : (r : ℕ) (row : Data) → r ≤ 16384 → StopsPlainly (table_row_of listed f r row)
  unfolding table_row_of
  row_stops r row few =
      stops_bind IsPlain (two_at (row_place f r) row) _ (two_stops (row_place f r) (
        tt,
        (firm_few.number, (tt, (few, tt))),
      ) row) (λ two.
      stops_bind IsPlain (bundle_at listed f (row_place f r ++ Index 0 ∷ []) (Some two.0)) _
      (bundle_stops listed trades f firm_few.own (row_place f r ++ Index 0 ∷ []) (
        tt,
        (firm_few.number, (tt, (few, (omega arith, tt)))),
      ) (Some two.0)) (λ bundle.
      stops_bind IsPlain (number_at listed.limits.amount (row_place f r ++ Index 1 ∷ []) two.1) _
      (number_stops (row_place f r ++ Index 1 ∷ []) (tt, (firm_few.number, (tt, (few, (omega arith, tt)))))
      listed.limits.amount (Some two.1)) (λ amount.
      stops_ok IsPlain (bundle, amount))))

  -- as many rows were read as bundles have one
  abbrev pub AreCounted : RowsRead → Type 0
  AreCounted rows = AreRows listed trades f rows × (rows.count ≡ filled_count rows.table.rows)

  few_rows : (rows : RowsRead) → AreCounted rows → rows.count ≤ 16384
  few_rows rows counted =
      let most = filled_le rows.table.rows in
      let places = counted.0.within.places in
      let few : 2 ^ length rows.table.sides ≤ 16384 =
      pow-le-pow_right (omega arith) (subst (λ (s : List Side). length s ≤ most_own_of_table) (sym counted.0.sides)
      (omega (arith, counted.0.few, trades.limits.own_of_table))) in
      let same = counted.1 in
      omega (arith, most, places, few, same)

  one_row_stops : (rows : RowsRead) (row : Data) → AreCounted rows → StopsPlainly (one_row listed f rows row)
  unfolding one_row
  one_row_stops rows row counted =
      let few : rows.count ≤ 16384 = few_rows rows counted in
      stops_bind IsPlain (table_row_of listed f rows.count row) _ (row_stops rows.count row few) (λ next.
      stops_bind IsPlain (holds SameBundle (row_place f rows.count) (is_none (row_at rows.table.rows next.0))) _
      (plain_holds SameBundle (row_place f rows.count) (is_none (row_at rows.table.rows next.0)) refl (
        tt,
        (firm_few.number, (tt, (few, tt))),
      )) (λ new.
      stops_ok IsPlain (record { count = rows.count + 1; table = with_row rows.table next.0 next.1 })))

  one_row_counts : (rows : RowsRead) (row : Data) → AreCounted rows
      → Leads (λ next. next.count ≡ filled_count next.table.rows) (one_row listed f rows row)
  unfolding one_row
  one_row_counts rows row counted =
      leads_bind (IsOwnRow listed trades f) (λ next. next.count ≡ filled_count next.table.rows)
      (table_row_of listed f rows.count row) _ (row_leads listed trades f rows.count row) (λ next is_own.
      leads_bind (λ _. is_none (row_at rows.table.rows next.0) ≡ true) (λ next. next.count ≡ filled_count next.table.rows)
      (holds SameBundle (row_place f rows.count) (is_none (row_at rows.table.rows next.0))) _
      (leads_holds SameBundle (row_place f rows.count) (is_none (row_at rows.table.rows next.0))) (λ u new.
      leads_ok (λ next. next.count ≡ filled_count next.table.rows) (record {
        count = rows.count + 1;
        table =
            with_row rows.table next.0 next.1;
      }) (one_more next.0 next.1 (own_place next.0 is_own.own)
      (none_from (row_at rows.table.rows next.0) new))))
    where
      own_place : (x : ℕ) → x < 2 ^ length (sides_of listed.ends f) → x < length rows.table.rows
      own_place x own =
          subst (λ n. x < n) (sym counted.0.within.places) (subst (λ (s : List Side). x < 2 ^ length s)
          (sym counted.0.sides) own)

      one_more : (x : ℕ) (amount : ℤ) → x < length rows.table.rows → row_at rows.table.rows x ≡ None
          → rows.count + 1 ≡ filled_count (slice_set rows.table.rows x (Some amount))
      one_more x amount below none = let more = filled-set rows.table.rows x amount below none in let same = counted.1
          in omega (arith, more, same)

  full_stops : (table : TableRows) → StopsPlainly (full_if_large f table)
  unfolding full_if_large
  full_stops table =
      plain_holds Limit (firm_place f ++ Key RowsWord ∷ []) (nat_le (length table.sides) 10 || has_each_row table.rows)
      refl (tt, (firm_few.number, (tt, tt)))

  rows_stop : (items : Items) → length (sides_of listed.ends f) ≤ listed.limits.own_of_table
      → StopsPlainly (rows_of listed f items)
  unfolding rows_of
  rows_stop items few =
      stops_bind IsPlain (each (one_row listed f) (record { count = 0; table = without_rows (sides_of listed.ends f) })
      items) _
      (stops_each IsPlain AreCounted (one_row listed f) (λ rows row counted. leads_both (AreRows listed trades f) _ _
      (one_row_leads listed trades f rows row counted.0) (one_row_counts rows row counted)) one_row_stops
      (record { count = 0; table = without_rows (sides_of listed.ends f) }) items (
        rows_start listed trades f few,
        sym (filled-none (2 ^ length (sides_of listed.ends f))),
      )) (λ rows.
      stops_bind IsPlain (full_if_large f rows.table) _ (full_stops rows.table) (λ full.
      stops_ok IsPlain rows.table))

  table_stops : (firm : Data) → length (sides_of listed.ends f) ≤ listed.limits.own_of_table
      → StopsPlainly (table_of listed f firm)
  unfolding table_of
  table_stops firm few =
      stops_bind IsPlain (list_at (firm_place f ++ Key RowsWord ∷ []) (get (codes "rows") firm)) _
      (list_stops (firm_place f ++ Key RowsWord ∷ []) (tt, (firm_few.number, (tt, tt))) (get (codes "rows") firm))
      (λ items. rows_stop items few)

-- laminar firms
low_stops : (limits : Limits) (place : List PlaceStep) (value : Option Data) → IsPlainPlace place
    → StopsPlainly (low_at limits place value)
unfolding low_at
low_stops limits place value plain =
    stops_bind IsPlain (whole_at place value) _ (whole_stops place plain value) (λ low.
    stops_bind IsPlain (holds Limit place (nat_le (unsigned_abs low) limits.from)) _
    (plain_holds Limit place (nat_le (unsigned_abs low) limits.from) refl plain) (λ near. stops_ok IsPlain low))

module _ (limits : Limits) (are_limits : AreLimits limits) (f s : ℕ) (near : f ≤ 16384) (early : s ≤ 16384) where
  value_stops : (numbers : List ℤ) (value : Data) → length numbers + 1 ≤ most_values
      → StopsPlainly (one_value limits f s numbers value)
  unfolding one_value
  value_stops numbers value few =
      stops_bind IsPlain (number_at limits.amount (set_place f s ++ Key Values ∷ Index (length numbers) ∷ []) value) _
      (number_stops (set_place f s ++ Key Values ∷ Index (length numbers) ∷ []) (
        tt,
        (near, (tt, (early, (tt, (omega (arith, few), tt))))),
      ) limits.amount (Some value)) (λ z.
      stops_ok IsPlain (numbers ++ z ∷ []))

  values_stop : (value : Option Data) → StopsPlainly (values_at limits f s value)
  unfolding values_at
  values_stop value =
      stops_after IsPlain (λ items. items_len items ≤ limits.values)
      (few_at limits.values (set_place f s ++ Key Values ∷ []) value) _
      (few_lead limits.values (set_place f s ++ Key Values ∷ []) value)
      (few_stops (set_place f s ++ Key Values ∷ []) (tt, (near, (tt, (early, (tt, tt))))) limits.values value)
      (λ values few.
      stops_each_few IsPlain (λ numbers. Unit {0}) length most_values (one_value limits f s)
      (λ numbers d start. leads_as (λ next. length next ≡ length numbers + 1) _ _ (λ next more. (tt, more))
      (value_counts limits f s numbers d)) (λ numbers d start room. value_stops numbers d room) [] values
      tt (omega (arith, few, are_limits.values)))

module _ (f s : ℕ) (near : f ≤ 16384) (early : s ≤ 16384) where
  bent_stops : (bend : Option ℕ) → ((k : ℕ) → bend ≡ Some k → k ≤ 16384) → StopsPlainly (unless_bent f s bend)
  bent_stops None within = stops_ok IsPlain tt
  bent_stops (Some k) within =
      stops_err IsPlain (fault NotConcave (set_place f s ++ Key Values ∷ Index k ∷ []))
      (plain_fault NotConcave (set_place f s ++ Key Values ∷ Index k ∷ []) refl (
        tt,
        (near, (tt, (early, (tt, (within k refl, tt))))),
      ))

-- a bend is at a number of the list
first_bend_within : (k : ℕ) (numbers : List ℤ) (place : ℕ) → first_bend k numbers ≡ Some place
    → place < k + length numbers
first_bend_within k [] place e = absurd (none-some place e)
first_bend_within k (before ∷ []) place e = absurd (none-some place e)
first_bend_within k (before ∷ here ∷ []) place e = absurd (none-some place e)
first_bend_within k (before ∷ here ∷ after ∷ numbers) place e =
    by_test (bends before here after) e (first_bend_within (k + 1) (here ∷ after ∷ numbers) place)
  where
    by_test : (b : Bool) → cond b (Some (k + 1)) (first_bend (k + 1) (here ∷ after ∷ numbers)) ≡ Some place
        → (first_bend (k + 1) (here ∷ after ∷ numbers) ≡ Some place → place < k + 1 + length (here ∷ after ∷ numbers))
        → place < k + length (before ∷ here ∷ after ∷ numbers)
    by_test true is later = let same = same_Some (k + 1) place is in omega (arith, same)
    by_test false is later = omega (arith, later is)

check_set_stops : (f : ℕ) (earlier : List LaminarSet) (set : LaminarSet) → f ≤ 16384 → length earlier ≤ 16384
    → HasNumbersWithin set → StopsPlainly (check_set f earlier set)
unfolding check_set
check_set_stops f earlier set near early numbered =
    let plain : IsPlainPlace (set_place f (length earlier)) = (tt, (near, (tt, (early, tt)))) in
    let few = numbered.few in
    stops_bind IsPlain (holds NoEmpty (set_place f (length earlier))
    (is_some (listed_from set.low set.numbers (pos 0)))) _
    (plain_holds NoEmpty (set_place f (length earlier)) (is_some (listed_from set.low set.numbers (pos 0))) refl
    plain) (λ empty.
    stops_bind IsPlain (unless_bent f (length earlier) (first_bend 0 set.numbers)) _
    (bent_stops f (length earlier) near early (first_bend 0 set.numbers) (λ k e. let within =
    first_bend_within 0 set.numbers k e in omega (arith, within, few))) (λ concave.
    plain_holds NotLaminar (set_place f (length earlier)) (not (list_any (crosses set) earlier)) refl plain))

check_sets_stop : (f : ℕ) (earlier sets : List LaminarSet) → f ≤ 16384 → length earlier + length sets ≤ 16384
    → All HasNumbersWithin sets → StopsPlainly (check_sets f earlier sets)
check_sets_stop f earlier [] near few numbered = stops_ok IsPlain tt
check_sets_stop f earlier (set ∷ sets) near few numbered =
    stops_bind IsPlain (check_set f earlier set) _ (check_set_stops f earlier set near (omega (arith, few))
    (All-head HasNumbersWithin set sets numbered)) (λ met.
    check_sets_stop f (earlier ++ set ∷ []) sets near (omega (arith, few, length-append earlier (set ∷ [])))
    (All-tail HasNumbersWithin set sets numbered))

checked_stops : (f : ℕ) (sides : List Side) (amounts : List ℤ) (sets : List LaminarSet) → f ≤ 16384
    → length sets ≤ most_sets → All HasNumbersWithin sets → StopsPlainly (checked_laminar f sides amounts sets)
unfolding checked_laminar
checked_stops f sides amounts sets near few numbered =
    stops_bind IsPlain (check_sets f [] sets) _ (check_sets_stop f [] sets near (omega (arith, few)) numbered)
    (λ met. stops_ok IsPlain (laminar_firm sides amounts sets))

module _ (listed : Listed) (trades : AreTrades listed) (f : ℕ) (firm_few : IsFewOwn listed.ends f) where
  set_stops : (s : ℕ) (set : Data) → s ≤ 16384 → StopsPlainly (laminar_set_of listed f s set)
  unfolding laminar_set_of
  set_stops s set early =
      stops_bind IsPlain (object_of LaminarSetObject (set_place f s) (Some set)) _
      (object_stops (set_place f s) (tt, (firm_few.number, (tt, (early, tt)))) LaminarSetObject (Some set))
      (λ object.
      stops_bind IsPlain (bundle_at listed f (set_place f s ++ Key Trades ∷ []) (get (codes "trades") set)) _
      (bundle_stops listed trades f firm_few.own (set_place f s ++ Key Trades ∷ []) (
        tt,
        (firm_few.number, (tt, (early, (tt, tt)))),
      ) (get (codes "trades") set)) (λ members.
      stops_bind IsPlain (low_at listed.limits (set_place f s ++ Key From ∷ []) (get (codes "from") set)) _
      (low_stops listed.limits (set_place f s ++ Key From ∷ []) (get (codes "from") set) (
        tt,
        (firm_few.number, (tt, (early, (tt, tt)))),
      )) (λ low.
      stops_bind IsPlain (values_at listed.limits f s (get (codes "values") set)) _
      (values_stop listed.limits trades.limits f s firm_few.number early (get (codes "values") set)) (λ numbers.
      stops_ok IsPlain (record { members = members; low = low; numbers = numbers })))))

  one_set_stops : (sets : List LaminarSet) (set : Data) → length sets + 1 ≤ most_sets
      → StopsPlainly (one_set listed f sets set)
  unfolding one_set
  one_set_stops sets set few =
      stops_bind IsPlain (laminar_set_of listed f (length sets) set) _ (set_stops (length sets) set (omega (arith, few)))
      (λ next. stops_ok IsPlain (sets ++ next ∷ []))

  sets_stop : (value : Option Data) → StopsPlainly (sets_at listed f value)
  unfolding sets_at
  sets_stop value =
      stops_bind IsPlain (optional_list_at (firm_place f ++ Key Sets ∷ []) value) _
      (optional_list_stops (firm_place f ++ Key Sets ∷ []) (tt, (firm_few.number, (tt, tt))) value) (λ sets.
      stops_after IsPlain (λ _. nat_le (items_len sets) listed.limits.sets ≡ true)
      (holds Limit (firm_place f ++ Key Sets ∷ []) (nat_le (items_len sets) listed.limits.sets)) _
      (leads_holds Limit (firm_place f ++ Key Sets ∷ []) (nat_le (items_len sets) listed.limits.sets))
      (plain_holds Limit (firm_place f ++ Key Sets ∷ []) (nat_le (items_len sets) listed.limits.sets) refl (
        tt,
        (firm_few.number, (tt, tt)),
      )) (λ u few.
      stops_each_few IsPlain (λ found. Unit {0}) length most_sets (one_set listed f)
      (λ found d start. leads_as (λ next. length next ≡ length found + 1) _ _ (λ next more. (tt, more))
      (one_set_counts listed trades f found d)) (λ found d start room. one_set_stops found d room) [] sets tt
      (let most = le_from_test (items_len sets) listed.limits.sets few in omega (arith, most, trades.limits.sets))))

  laminar_stops : (firm : Data) → StopsPlainly (laminar_of listed f firm)
  unfolding laminar_of
  laminar_stops firm =
      stops_bind IsPlain (own_numbers listed (amounts_list f) (no_numbers listed.ends f) (get (codes "amounts") firm)) _
      (own_numbers_stop listed trades (amounts_list f) firm_few.own (
        tt,
        (firm_few.number, (tt, tt)),
      ) (no_numbers listed.ends f) (get (codes "amounts") firm)) (λ amounts.
      stops_after IsPlain (AreFewSets listed trades f) (sets_at listed f (get (codes "sets") firm)) _
      (sets_lead listed trades f (get (codes "sets") firm)) (sets_stop (get (codes "sets") firm)) (λ sets so.
      checked_stops f (sides_of listed.ends f) amounts sets firm_few.number (omega (arith, so.1, trades.limits.sets))
      (sets_room listed.limits trades.limits sets so.0.numbered)))

-- middlemen
given_stops : (limits : Limits) (place : List PlaceStep) (value : Data) → IsPlainPlace place
    → StopsPlainly (number_at limits.amount place value >>= λ z. Ok (Some z))
given_stops limits place value plain =
    stops_bind IsPlain (number_at limits.amount place value) _ (number_stops place plain limits.amount (Some value))
    (λ z. stops_ok IsPlain (Some z))

keep_stops : (limits : Limits) (place : List PlaceStep) (value : Option Data) → IsPlainPlace place
    → StopsPlainly (keep_at limits place value)
keep_stops limits place None plain = stops_ok IsPlain None
keep_stops limits place (Some null) plain = stops_ok IsPlain None
keep_stops limits place (Some (boolean b)) plain = given_stops limits place (boolean b) plain
keep_stops limits place (Some (number n)) plain = given_stops limits place (number n) plain
keep_stops limits place (Some (string s)) plain = given_stops limits place (string s) plain
keep_stops limits place (Some (array ds)) plain = given_stops limits place (array ds) plain
keep_stops limits place (Some (object ms)) plain = given_stops limits place (object ms) plain

middle_stops : (listed : Listed) (trades : AreTrades listed) (f : ℕ) → IsFewOwn listed.ends f → (firm : Data)
    → StopsPlainly (middle_of listed f firm)
unfolding middle_of
middle_stops listed trades f few firm =
    stops_bind IsPlain (own_numbers listed (costs_list f) (no_numbers listed.ends f) (get (codes "costs") firm)) _
    (own_numbers_stop listed trades (costs_list f) few.own (
      tt,
      (few.number, (tt, tt)),
    ) (no_numbers listed.ends f) (get (codes "costs") firm)) (λ costs.
    stops_bind IsPlain (own_numbers listed (gains_list f) costs (get (codes "gains") firm)) _
    (own_numbers_stop listed trades (gains_list f) few.own (
      tt,
      (few.number, (tt, tt)),
    ) costs (get (codes "gains") firm)) (λ numbers.
    stops_bind IsPlain (keep_at listed.limits (firm_place f ++ Key Keep ∷ []) (get (codes "keep") firm)) _
    (keep_stops listed.limits (firm_place f ++ Key Keep ∷ []) (get (codes "keep") firm) (
      tt,
      (few.number, (tt, tt)),
    )) (λ keep.
    stops_ok IsPlain (middle_firm (sides_of listed.ends f) numbers keep))))

-- the kind of a firm
kind_stops : (f : ℕ) (firm : Data) → f ≤ 16384 → StopsPlainly (firm_kind_of f firm)
unfolding firm_kind_of
kind_stops f firm near =
    stops_bind IsPlain (text_at (firm_place f ++ Key Kind ∷ []) (get (codes "kind") firm)) _
    (text_stops (firm_place f ++ Key Kind ∷ []) (tt, (near, (tt, tt))) (get (codes "kind") firm)) (λ kind.
    plain_wanted Shape (firm_place f ++ Key Kind ∷ []) (kind_named kind) refl (tt, (near, (tt, tt))))

frame_stops : (listed : Listed) (f : ℕ) (kind : FirmKind) (firm : Data) → f ≤ 16384
    → StopsPlainly (firm_frame_of listed f kind firm)
unfolding firm_frame_of
frame_stops listed f kind firm near =
    stops_bind IsPlain (object_of (FirmObject kind) (firm_place f) (Some firm)) _
    (object_stops (firm_place f) (tt, (near, tt)) (FirmObject kind) (Some firm)) (λ object.
    plain_holds Limit (firm_place f) (nat_le (length (sides_of listed.ends f)) (most_own_of_kind listed.limits kind)) refl (
      tt,
      (near, tt),
    ))

-- exchange, the firms, and the names of the trades that a failing triple shows
module _ (listed : Listed) (trades : AreTrades listed) where
  -- a fault of this listing
  abbrev pub IsToldHere : Fault → Type 0
  IsToldHere = IsTold listed.names.trades

  -- the trade at a position of a firm has a name
  own_named : (f k : ℕ) → k < length (sides_of listed.ends f) → own listed.ends f k < length listed.names.trades
  own_named f k below =
      subst (λ n. own listed.ends f k < n) (sym trades.named)
      (own_within (length listed.names.firms) f k listed.ends trades.order below)

  failure_told : (f : ℕ) (table : TableRows) (t : Triple) → f ≤ 16384 → table.sides ≡ sides_of listed.ends f
      → first_failure table ≡ Some t → IsToldHere (exchange_fault listed.ends f (length table.sides) t)
  failure_told f table t near sides found = record {
    sayable = sayable;
    short =
        short_place (firm_place f) (tt, (near, tt));
    ascending = ascending;
    read = λ same. absurd (cc);
  }
    where
      ascend : (i j : ℕ) → i < j → j < length table.sides → own listed.ends f i < own listed.ends f j
      ascend i j before below =
          own_ascends (length listed.names.firms) f i j listed.ends trades.order before
          (subst (λ (s : List Side). j < length s) sides below)

      ascending : IsAscendingTriple (shown_of listed.ends f (length table.sides) t)
      ascending = record {
        x = ascending_list listed.ends f (length table.sides) t.x ascend;
        y =
            ascending_list listed.ends f (length table.sides) t.y ascend;
      }

      sayable : IsSayableFault listed.names.trades (exchange_fault listed.ends f (length table.sides) t)
      sayable = record {
        place = named_place listed.names.trades (firm_place f) (tt, (near, tt));
        triple = triple_named listed.names.trades listed.ends f (length table.sides) t
            (λ k below. own_named f k (subst (λ (s : List Side). k < length s) sides below))
            (own_position_of (firm_of_table table) t (own_bundles table) (first_looked table t found).fails);
        exactly = (λ there. refl, λ same. refl);
      }

  exchange_stops : (f : ℕ) (table : TableRows) → f ≤ 16384 → table.sides ≡ sides_of listed.ends f
      → Stops IsToldHere (exchange_of listed.ends f table)
  unfolding exchange_of
  exchange_stops f table near sides = by_found (first_failure table) refl
    where
      by_found : (found : Option Triple) → first_failure table ≡ found
          → Stops IsToldHere (unless_failing listed.ends f (length table.sides) found)
      by_found None is = stops_ok IsToldHere tt
      by_found (Some t) is =
          stops_err IsToldHere (exchange_fault listed.ends f (length table.sides) t) (failure_told f table t near sides is)

  tested_stops : (tested : Bool) (f : ℕ) (table : TableRows) → f ≤ 16384 → table.sides ≡ sides_of listed.ends f
      → Stops IsToldHere (if tested then exchange_of listed.ends f table else Ok tt)
  tested_stops true f table near sides = exchange_stops f table near sides
  tested_stops false f table near sides = stops_ok IsToldHere tt

  tested_firm_stops : (tested : Bool) (f : ℕ) (table : TableRows) → f ≤ 16384 → table.sides ≡ sides_of listed.ends f
      → Stops IsToldHere (tested_firm tested listed.ends f table)
  unfolding tested_firm
  tested_firm_stops tested f table near sides =
      stops_bind IsToldHere (if tested then exchange_of listed.ends f table
      else Ok tt) _ (tested_stops tested f table near sides) (λ met. stops_ok IsToldHere (firm_of_table table))

  firm_by_stops : (tested : Bool) (f : ℕ) (kind : FirmKind) (firm : Data) → f ≤ 16384
      → length (sides_of listed.ends f) ≤ most_own_of_kind listed.limits kind
      → Stops IsToldHere (firm_by tested listed f kind firm)
  unfolding firm_by
  firm_by_stops tested f Table firm near few =
      let own : length (sides_of listed.ends f) ≤ most_own_trades = omega (arith, few, trades.limits.own_of_table) in
      stops_after IsToldHere (IsTableOf listed.limits listed.ends f) (table_of listed f firm) _
      (table_leads listed trades f firm few) (told_from_plain listed.names.trades (table_of listed f firm)
      (table_stops listed trades f (record { number = near; own = own }) firm few)) (λ table is.
      tested_firm_stops tested f table near is.sides)
  firm_by_stops tested f Laminar firm near few =
      told_from_plain listed.names.trades (laminar_of listed f firm)
      (laminar_stops listed trades f (record { number = near; own = omega (arith, few, trades.limits.own) }) firm)
  firm_by_stops tested f Middleman firm near few =
      told_from_plain listed.names.trades (middle_of listed f firm)
      (middle_stops listed trades f (record { number = near; own = omega (arith, few, trades.limits.own) }) firm)
  firm_by_stops tested f Dealer firm near few =
      told_from_plain listed.names.trades (dealer_of listed f firm)
      (dealer_stops listed trades f near (omega (arith, few, trades.limits.own)) firm)

  firm_stops : (tested : Bool) (f : ℕ) (firm : Data) → f ≤ 16384 → Stops IsToldHere (document_firm tested listed f firm)
  unfolding document_firm
  firm_stops tested f firm near =
      stops_bind IsToldHere (firm_kind_of f firm) _ (told_from_plain listed.names.trades (firm_kind_of f firm)
      (kind_stops f firm near)) (λ kind.
      stops_after IsToldHere (λ _. length (sides_of listed.ends f) ≤ most_own_of_kind listed.limits kind)
      (firm_frame_of listed f kind firm) _ (frame_leads tested listed trades f kind firm)
      (told_from_plain listed.names.trades (firm_frame_of listed f kind firm) (frame_stops listed f kind firm near))
      (λ u few.
      firm_by_stops tested f kind firm near few))

  one_firm_stops : (tested : Bool) (firms : List Firm) (firm : Data) → length firms + 1 ≤ most_firms
      → Stops IsToldHere (one_firm tested listed firms firm)
  unfolding one_firm
  one_firm_stops tested firms firm few =
      stops_bind IsToldHere (document_firm tested listed (length firms) firm) _
      (firm_stops tested (length firms) firm (omega (arith, few))) (λ next. stops_ok IsToldHere (firms ++ next ∷ []))

  pub firms_stop : (tested : Bool) (firms : Items) → items_len firms ≤ most_firms
      → Stops IsToldHere (each (one_firm tested listed) [] firms)
  firms_stop tested firms few =
      stops_each_few IsToldHere (λ found. Unit {0}) length most_firms (one_firm tested listed)
      (λ found d start. leads_as (λ next. length next ≡ length found + 1) _ _ (λ next more. (tt, more))
      (one_firm_count tested listed trades found d)) (λ found d start room. one_firm_stops tested found d room) []
      firms tt (omega (arith, few))
