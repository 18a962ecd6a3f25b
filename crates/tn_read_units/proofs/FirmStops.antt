-- Firms of a document of units stop reading only with plain faults.
use Rattle.std.proofs.Common.{◌≡◌, ℕ, ◌+◌, ◌^◌, ◌<◌, ◌≤◌, Bool, true, false, if◌then◌else◌, nat_lt, List, [], ◌∷◌, ◌++◌, length, Option, Some, None, refl, sym, ap, ◌∙◌, arith, length-append}
use Rattle.std.specs.Prelude.{ℤ, pos, int_lt, unsigned_abs, nat_le, not, codes, All, IfSome, option_and_then, slice_get}
use Rattle.std.specs.List.{list_all, list_any}
use Rattle.std.specs.Str.{bytes_eq}
use Rattle.std.proofs.lemmas.List.Elements.{All-nil, All-head, All-push, All-tail}
use Rattle.std.proofs.lemmas.Nat.{pow_pos}
use Rattle.std.proofs.lemmas.Option.{none-some, same_Some}
use Rattle.serde_json.specs.Data.{Data, Items}
use Rattle.serde_json.specs.Events.{items_len}
use Rattle.serde_json.specs.Find.{get}
use Rattle.tn_base.specs.Sets.{has, size, toggle}
use Rattle.tn_base.specs.declared.side.Side.{Side}
use Rattle.tn_base.proofs.SetLemmas.{toggle_within}
use Rattle.tn_counts.specs.Widths.{most_count_sets, most_unit_firms, most_unit_trades}
use Rattle.tn_links.specs.declared.link.Step.{Step}
use Rattle.tn_said.specs.declared.fault.FaultKind.TheVariants.{Limit, NoEmpty, NotConcave, NotLaminar, NotOwnTrade, SameTrade, Shape}
use Rattle.tn_said.specs.declared.place.PlaceStep.{PlaceStep}
use Rattle.tn_said.specs.declared.place.PlaceStep.TheVariants.{Index, Key}
use Rattle.tn_said.specs.declared.place.Word.{Word}
use Rattle.tn_said.specs.declared.place.Word.TheVariants.{Amounts, Bought, Firms, From, Kind, Sets, Sold, Trades, Values}
use Rattle.tn_said.specs.declared.said.Fault.{Fault}
use Rattle.tn_read_shapes.specs.Reading.{◌>>=◌, each, fault, holds, wanted}
use Rattle.tn_read_shapes.specs.Shapes.{few_at, list_at, number_at, object_of, optional_list_at, text_at, two_at, whole_at}
use Rattle.tn_read_shapes.specs.declared.members.FirmKind.TheVariants.{Laminar}
use Rattle.tn_read_shapes.specs.declared.members.ObjectKind.TheVariants.{CountSet as CountSetObject, Firm as FirmObject}
use Rattle.tn_read_shapes.proofs.LeadLemmas.{Leads, le_from_test, leads_after, leads_as, leads_bind, leads_both, leads_count, leads_each, leads_holds, leads_ok}
use Rattle.tn_read_shapes.proofs.ShapeLeads.{few_lead}
use Rattle.tn_read_shapes.proofs.ShapeStops.{few_stops, list_stops, number_stops, object_stops, optional_list_stops, text_stops, two_stops, whole_stops}
use Rattle.tn_read_shapes.proofs.StopLemmas.{IsPlain, IsPlainPlace, Stops, StopsPlainly, plain_fault, plain_holds, plain_wanted, plain_within, stops_after, stops_bind, stops_each, stops_each_few, stops_err, stops_ok}
use Rattle.tn_read_references.specs.References.{firm_place, trade_at}
use Rattle.tn_read_references.proofs.ReferenceLeads.{trade_leads}
use Rattle.tn_read_references.proofs.ReferenceStops.{few_members, trade_at_stops}
use Rattle.tn_read_units.specs.Checks.{check_form, check_numbers, check_set, check_sets, check_steps, crosses, first_rise, has_none, holding, rises, rises_at_none, steps_after, unless_bent, unless_rising}
use Rattle.tn_read_units.specs.Counts.{count_at}
use Rattle.tn_read_units.specs.Firms.{OwnAmounts, WrittenFirms, amounts_at, amounts_place, firm_of, firms_of, kind_at, one_amount, one_firm, sets_at}
use Rattle.tn_read_units.specs.Limits.{most_from, most_holding_sets, most_number, most_steps, most_values}
use Rattle.tn_read_units.specs.Own.{Members, members_at, one_member, own_trade, side_at}
use Rattle.tn_read_units.specs.Sets.{AreNumbers, SetNumbers, WrittenSet, has_one_form, low_at, numbers_at, numbers_from, one_set, one_value, set_of, sets_of, some_numbers, values_at}
use Rattle.tn_read_units.specs.Steps.{AreSteps, one_step, part_place, set_place, step_at, steps_at}
use Rattle.tn_read_units.specs.Trades.{UnitTrades}
use Rattle.tn_read_units.specs.declared.steps.SetAt.{SetAt}
use Rattle.tn_read_units.proofs.DocumentLeads.{numbers_lead, one_step_more, one_value_more, steps_lead}
use Rattle.tn_read_units.proofs.HeadLeads.{count_stops}

-- ---- own trades

own_leads : (head : UnitTrades) (f : ℕ) (place : List PlaceStep) (value : Data)
    → Leads (λ own. own.0 < length head.names.trades) (own_trade head f place value)
unfolding own_trade
own_leads head f place value =
    leads_bind (λ t. t < length head.names.trades) (λ own. own.0 < length head.names.trades)
    (trade_at head.names.trades place value) _ (trade_leads head.names.trades place value) (λ t known.
    leads_after (λ own. own.0 < length head.names.trades)
    (wanted NotOwnTrade place (option_and_then (side_at f) (slice_get head.trades t))) _ (λ side.
    leads_ok (λ own. own.0 < length head.names.trades) (t, side) known))

own_stops : (head : UnitTrades) (f : ℕ) (place : List PlaceStep) → IsPlainPlace place → (value : Data)
    → StopsPlainly (own_trade head f place value)
unfolding own_trade
own_stops head f place plain value =
    stops_bind IsPlain (trade_at head.names.trades place value) _ (trade_at_stops place plain head.names.trades value)
    (λ t.
    stops_bind IsPlain (wanted NotOwnTrade place (option_and_then (side_at f) (slice_get head.trades t))) _
    (plain_wanted NotOwnTrade place (option_and_then (side_at f) (slice_get head.trades t)) refl plain) (λ side.
    stops_ok IsPlain (t, side)))

module _ (head : UnitTrades) (few : length head.names.trades ≤ most_unit_trades) (f : ℕ) where
  -- the trades named so far are few
  abbrev Fits : ℕ → Type 0
  Fits named = named < 2 ^ length head.names.trades

  few_named : (named : ℕ) → Fits named → size named ≤ 16384
  few_named named fits = few_members (length head.names.trades) named fits (omega (arith, few))

  module _ (place : List PlaceStep) (plain : IsPlainPlace place) where
    member_leads : (members : Members) (value : Data) → Fits members.named
        → Leads (λ next. Fits next.named) (one_member head f place members value)
    unfolding one_member
    member_leads members value fits =
        let at = place ++ Index (size members.named) ∷ [] in
        leads_bind (λ own. own.0 < length head.names.trades) (λ next. Fits next.named) (own_trade head f at value) _
        (own_leads head f at value) (λ own known.
        leads_after (λ next. Fits next.named) (holds SameTrade at (not (has members.named own.0))) _ (λ new.
        leads_ok (λ next. Fits next.named)
        (record { named = toggle members.named own.0; trades = members.trades ++ own.0 ∷ [] })
        (toggle_within members.named own.0 (length head.names.trades) fits known)))

    member_stops : (members : Members) (value : Data) → Fits members.named
        → StopsPlainly (one_member head f place members value)
    unfolding one_member
    member_stops members value fits =
        let at = place ++ Index (size members.named) ∷ [] in
        let inside = plain_within place (Index (size members.named) ∷ []) plain (few_named members.named fits, tt) in
        stops_bind IsPlain (own_trade head f at value) _ (own_stops head f at inside value) (λ own.
        stops_bind IsPlain (holds SameTrade at (not (has members.named own.0))) _
        (plain_holds SameTrade at (not (has members.named own.0)) refl inside) (λ new.
        stops_ok IsPlain (record { named = toggle members.named own.0; trades = members.trades ++ own.0 ∷ [] })))

    members_stop : (value : Option Data) → StopsPlainly (members_at head f place value)
    unfolding members_at
    members_stop value =
        stops_bind IsPlain (list_at place value) _ (list_stops place plain value) (λ references.
        stops_each IsPlain (λ (members : Members). Fits members.named) (one_member head f place) member_leads member_stops
        (record { named = 0; trades = [] }) references (pow_pos (length head.names.trades)))

    amount_leads : (amounts : OwnAmounts) (entry : Data) → Fits amounts.named
        → Leads (λ next. Fits next.named) (one_amount head f place amounts entry)
    unfolding one_amount
    amount_leads amounts entry fits =
        let at = place ++ Index (size amounts.named) ∷ [] in
        let first = place ++ Index (size amounts.named) ∷ Index 0 ∷ [] in
        leads_after (λ next. Fits next.named) (two_at at entry) _ (λ two.
        leads_bind (λ own. own.0 < length head.names.trades) (λ next. Fits next.named) (own_trade head f first two.0) _
        (own_leads head f first two.0) (λ own known.
        leads_after (λ next. Fits next.named) (holds SameTrade first (not (has amounts.named own.0))) _ (λ new.
        leads_after (λ next. Fits next.named)
        (number_at most_number (place ++ Index (size amounts.named) ∷ Index 1 ∷ []) two.1) _ (λ number.
        leads_ok (λ next. Fits next.named) (record {
          named = toggle amounts.named own.0;
          entries = amounts.entries ++ record { trade = own.0; side = own.1; number = number } ∷ [];
        }) (toggle_within amounts.named own.0 (length head.names.trades) fits known)))))

    amount_stops : (amounts : OwnAmounts) (entry : Data) → Fits amounts.named
        → StopsPlainly (one_amount head f place amounts entry)
    unfolding one_amount
    amount_stops amounts entry fits =
        let few_before = few_named amounts.named fits in
        let at = place ++ Index (size amounts.named) ∷ [] in
        let first = place ++ Index (size amounts.named) ∷ Index 0 ∷ [] in
        let second = place ++ Index (size amounts.named) ∷ Index 1 ∷ [] in
        let in_first = plain_within place (Index (size amounts.named) ∷ Index 0 ∷ []) plain
        (few_before, (omega arith, tt)) in
        stops_bind IsPlain (two_at at entry) _
        (two_stops at (plain_within place (Index (size amounts.named) ∷ []) plain (few_before, tt)) entry) (λ two.
        stops_bind IsPlain (own_trade head f first two.0) _ (own_stops head f first in_first two.0) (λ own.
        stops_bind IsPlain (holds SameTrade first (not (has amounts.named own.0))) _
        (plain_holds SameTrade first (not (has amounts.named own.0)) refl in_first) (λ new.
        stops_bind IsPlain (number_at most_number second two.1) _
        (number_stops second (plain_within place (Index (size amounts.named) ∷ Index 1 ∷ []) plain
        (few_before, (omega arith, tt))) most_number (Some two.1)) (λ number.
        stops_ok IsPlain _))))

  amounts_stop : f ≤ 16384 → (value : Option Data) → StopsPlainly (amounts_at head f value)
  unfolding amounts_at
  amounts_stop near value =
      let plain : IsPlainPlace (amounts_place f) = (tt, (near, (tt, tt))) in
      stops_bind IsPlain (optional_list_at (amounts_place f) value) _ (optional_list_stops (amounts_place f) plain value)
      (λ entries.
      stops_each IsPlain (λ (amounts : OwnAmounts). Fits amounts.named) (one_amount head f (amounts_place f))
      (amount_leads (amounts_place f) plain) (amount_stops (amounts_place f) plain)
      (record { named = 0; entries = [] }) entries (pow_pos (length head.names.trades)))

-- ---- sets

abbrev HasFewNumbers : SetNumbers → Type 0
HasFewNumbers set = AreNumbers set.numbers

-- lists of few steps and of few numbers
record IsShort (set : WrittenSet) : Type 0 where
  bought : AreSteps set.bought
  sold : AreSteps set.sold
  numbers : IfSome set.numbers HasFewNumbers

module _ (at : SetAt) (near : at.firm ≤ 16384) (early : at.set ≤ 16384) where
  plain_set : IsPlainPlace (set_place at)
  plain_set = (tt, (near, (tt, (early, tt))))

  plain_part : (word : Word) → IsPlainPlace (part_place at word)
  plain_part word = (tt, (near, (tt, (early, (tt, tt)))))

  plain_item : (word : Word) (k : ℕ) → k ≤ 16384 → IsPlainPlace (part_place at word ++ Index k ∷ [])
  plain_item word k few = (tt, (near, (tt, (early, (tt, (few, tt))))))

  plain_end : (word : Word) (k i : ℕ) → k ≤ 16384 → i ≤ 16384
      → IsPlainPlace (part_place at word ++ Index k ∷ Index i ∷ [])
  plain_end word k i few last = (tt, (near, (tt, (early, (tt, (few, (last, tt)))))))

  step_stops : (word : Word) (k : ℕ) (entry : Data) → k ≤ 16384
      → StopsPlainly (step_at (part_place at word ++ Index k ∷ []) entry)
  unfolding step_at
  step_stops word k entry few =
      let place = part_place at word ++ Index k ∷ [] in
      stops_bind IsPlain (two_at place entry) _ (two_stops place (plain_item word k few) entry) (λ two.
      stops_bind IsPlain (count_at (place ++ Index 0 ∷ []) (Some two.0)) _
      (count_stops (place ++ Index 0 ∷ []) (plain_end word k 0 few (omega arith)) (Some two.0)) (λ units.
      stops_bind IsPlain (number_at most_number (place ++ Index 1 ∷ []) two.1) _
      (number_stops (place ++ Index 1 ∷ []) (plain_end word k 1 few (omega arith)) most_number (Some two.1)) (λ each.
      stops_ok IsPlain (record { units = units; each = each }))))

  one_step_stops : (word : Word) (steps : List Step) (entry : Data) → length steps + 1 ≤ most_steps
      → StopsPlainly (one_step at word steps entry)
  unfolding one_step
  one_step_stops word steps entry few =
      stops_bind IsPlain (step_at (part_place at word ++ Index (length steps) ∷ []) entry) _
      (step_stops word (length steps) entry (omega (arith, few))) (λ step. stops_ok IsPlain (steps ++ step ∷ []))

  steps_stop : (word : Word) (value : Option Data) → StopsPlainly (steps_at at word value)
  unfolding steps_at
  steps_stop word value =
      stops_bind IsPlain (optional_list_at (part_place at word) value) _
      (optional_list_stops (part_place at word) (plain_part word) value) (λ entries.
      stops_after IsPlain (λ _. nat_le (items_len entries) most_steps ≡ true)
      (holds Limit (part_place at word) (nat_le (items_len entries) most_steps)) _ (leads_holds Limit (part_place at word) (nat_le (items_len entries) most_steps))
      (plain_holds Limit (part_place at word) (nat_le (items_len entries) most_steps) refl (plain_part word)) (λ u test.
      stops_each_few IsPlain (λ steps. Unit {0}) length most_steps (one_step at word)
      (λ steps d start. leads_as (λ next. length next ≡ length steps + 1) _ _ (λ next more. (tt, more))
      (one_step_more at word steps d)) (λ steps d start room. one_step_stops word steps d room) [] entries tt
      (let most = le_from_test (items_len entries) most_steps test in omega (arith, most))))

  value_stops : (numbers : List ℤ) (value : Data) → length numbers + 1 ≤ most_values
      → StopsPlainly (one_value at numbers value)
  unfolding one_value
  value_stops numbers value few =
      let place = part_place at Values ++ Index (length numbers) ∷ [] in
      stops_bind IsPlain (number_at most_number place value) _
      (number_stops place (plain_item Values (length numbers) (omega (arith, few))) most_number (Some value)) (λ number.
      stops_ok IsPlain (numbers ++ number ∷ []))

  values_stop : (value : Option Data) → StopsPlainly (values_at at value)
  unfolding values_at
  values_stop value =
      stops_after IsPlain (λ items. items_len items ≤ most_values) (few_at most_values (part_place at Values) value) _
      (few_lead most_values (part_place at Values) value)
      (few_stops (part_place at Values) (plain_part Values) most_values value) (λ values few.
      stops_each_few IsPlain (λ numbers. Unit {0}) length most_values (one_value at)
      (λ numbers d start. leads_as (λ next. length next ≡ length numbers + 1) _ _ (λ next more. (tt, more))
      (one_value_more at numbers d)) (λ numbers d start room. value_stops numbers d room) [] values tt
      (omega (arith, few)))

  low_stops : (value : Data) → StopsPlainly (low_at (part_place at From) value)
  unfolding low_at
  low_stops value =
      stops_bind IsPlain (whole_at (part_place at From) (Some value)) _
      (whole_stops (part_place at From) (plain_part From) (Some value)) (λ low.
      stops_bind IsPlain (holds Limit (part_place at From) (nat_le (unsigned_abs low) most_from)) _
      (plain_holds Limit (part_place at From) (nat_le (unsigned_abs low) most_from) refl (plain_part From)) (λ near.
      stops_ok IsPlain low))

  from_stops : (from : Data) (values : Option Data) → StopsPlainly (numbers_from at from values)
  unfolding numbers_from
  from_stops from values =
      stops_bind IsPlain (low_at (part_place at From) from) _ (low_stops from) (λ low.
      stops_bind IsPlain (values_at at values) _ (values_stop values) (λ numbers.
      stops_ok IsPlain (record { low = low; numbers = numbers })))

  numbers_stop : (from values : Option Data) → StopsPlainly (numbers_at at from values)
  numbers_stop None values = stops_ok IsPlain None
  numbers_stop (Some from) values =
      stops_bind IsPlain (numbers_from at from values) _ (from_stops from values) (λ numbers. stops_ok IsPlain (Some numbers))

  -- ---- tests of sets

  rise_within : (k : ℕ) (before : Option Step) (steps : List Step) (place : ℕ) → first_rise k before steps ≡ Some place
      → place < k + length steps
  rise_within k before [] place e = absurd (none-some place e)
  rise_within k before (step ∷ steps) place e =
      by_test (rises before step) e (rise_within (k + 1) (Some step) steps place)
    where
      by_test : (b : Bool) → (if b then Some k else first_rise (k + 1) (Some step) steps) ≡ Some place
          → (first_rise (k + 1) (Some step) steps ≡ Some place → place < k + 1 + length steps)
          → place < k + length (step ∷ steps)
      by_test true is later = let same = same_Some k place is in omega (arith, same)
      by_test false is later = let there = later is in omega (arith, there)

  rising_stops : (word : Word) (steps : List Step) → length steps ≤ most_steps
      → StopsPlainly (unless_rising at word (first_rise 0 None steps))
  rising_stops word steps few = by (first_rise 0 None steps) (rise_within 0 None steps)
    where
      by : (found : Option ℕ) → ((k : ℕ) → found ≡ Some k → k < 0 + length steps)
          → StopsPlainly (unless_rising at word found)
      by None within = stops_ok IsPlain tt
      by (Some k) within =
          stops_err IsPlain (fault NotConcave (part_place at word ++ Index k ∷ Index 1 ∷ []))
          (plain_fault NotConcave (part_place at word ++ Index k ∷ Index 1 ∷ []) refl
          (plain_end word k 1 (let inside = within k refl in omega (arith, inside, few)) (omega arith)))

  check_steps_stop : (set : WrittenSet) → IsShort set → StopsPlainly (check_steps at set)
  unfolding check_steps
  check_steps_stop set short =
      stops_bind IsPlain (unless_rising at Bought (first_rise 0 None set.bought)) _
      (rising_stops Bought set.bought short.bought.few) (λ bought.
      stops_bind IsPlain (unless_rising at Sold (first_rise 0 None set.sold)) _
      (rising_stops Sold set.sold short.sold.few) (λ sold.
      plain_holds NotConcave (part_place at Sold ++ Index 0 ∷ Index 1 ∷ [])
      (not (rises_at_none set.bought set.sold)) refl (plain_end Sold 0 1 (omega arith) (omega arith))))

  after_count : (before : Option ℤ) (numbers : List ℤ) → length (steps_after before numbers) ≤ length numbers
  after_count before [] = omega arith
  after_count None (number ∷ numbers) = let rest = after_count (Some number) numbers in omega (arith, rest)
  after_count (Some before) (number ∷ numbers) = let rest = after_count (Some number) numbers in omega (arith, rest)

  check_numbers_stop : (numbers : SetNumbers) → HasFewNumbers numbers → StopsPlainly (check_numbers at numbers)
  unfolding check_numbers
  check_numbers_stop numbers few =
      stops_bind IsPlain (holds NoEmpty (set_place at) (has_none numbers)) _
      (plain_holds NoEmpty (set_place at) (has_none numbers) refl plain_set) (λ none.
      by (first_rise 0 None (steps_after None numbers.numbers))
      (rise_within 0 None (steps_after None numbers.numbers)))
    where
      by : (found : Option ℕ) → ((k : ℕ) → found ≡ Some k → k < 0 + length (steps_after None numbers.numbers))
          → StopsPlainly (unless_bent at found)
      by None within = stops_ok IsPlain tt
      by (Some k) within =
          stops_err IsPlain (fault NotConcave (part_place at Values ++ Index k ∷ []))
          (plain_fault NotConcave (part_place at Values ++ Index k ∷ []) refl
          (plain_item Values k (let inside = within k refl in let count = after_count None numbers.numbers in
          let most = few.few in
          omega (arith, inside, count, most))))

  check_form_stops : (set : WrittenSet) → IsShort set → StopsPlainly (check_form at set set.numbers)
  check_form_stops set short = by set.numbers short.numbers
    where
      by : (numbers : Option SetNumbers) → IfSome numbers HasFewNumbers → StopsPlainly (check_form at set numbers)
      by None few = check_steps_stop set short
      by (Some numbers) few = check_numbers_stop numbers few

  check_set_stops : (earlier : List WrittenSet) (set : WrittenSet) → IsShort set → StopsPlainly (check_set at earlier set)
  unfolding check_set
  check_set_stops earlier set short =
      stops_bind IsPlain (check_form at set set.numbers) _ (check_form_stops set short) (λ concave.
      stops_bind IsPlain (holds NotLaminar (set_place at) (not (list_any (crosses set) earlier))) _
      (plain_holds NotLaminar (set_place at) (not (list_any (crosses set) earlier)) refl plain_set) (λ nested.
      plain_holds Limit (set_place at) (list_all (λ t. nat_lt (holding earlier t) most_holding_sets) set.members.trades)
      refl plain_set))

check_sets_stop : (f : ℕ) (earlier sets : List WrittenSet) → f ≤ 16384 → length earlier + length sets ≤ 16384
    → All IsShort sets → StopsPlainly (check_sets f earlier sets)
check_sets_stop f earlier [] near few short = stops_ok IsPlain tt
check_sets_stop f earlier (set ∷ sets) near few short =
    stops_bind IsPlain (check_set (record { firm = f; set = length earlier }) earlier set) _
    (check_set_stops (record { firm = f; set = length earlier }) near (omega (arith, few)) earlier set
    (All-head IsShort set sets short)) (λ met.
    check_sets_stop f (earlier ++ set ∷ []) sets near (let longer = length-append earlier (set ∷ []) in
    omega (arith, few, longer)) (All-tail IsShort set sets short))

module _ (head : UnitTrades) (few_trades : length head.names.trades ≤ most_unit_trades) (f : ℕ) (near : f ≤ 16384) where
  set_leads : (at : SetAt) (set : Data) → Leads IsShort (set_of head at set)
  unfolding set_of
  set_leads at set =
      leads_after IsShort (object_of CountSetObject (set_place at) (Some set)) _ (λ object.
      leads_after IsShort (holds Shape (set_place at) (has_one_form set)) _ (λ form.
      leads_after IsShort (members_at head at.firm (part_place at Trades) (get (codes "trades") set)) _ (λ members.
      leads_bind (λ found. IfSome found HasFewNumbers) IsShort
      (numbers_at at (get (codes "from") set) (get (codes "values") set)) _
      (numbers_lead at (get (codes "from") set) (get (codes "values") set)) (λ numbers few.
      leads_bind AreSteps IsShort (steps_at at Bought (get (codes "bought") set)) _
      (steps_lead at Bought (get (codes "bought") set)) (λ bought few_bought.
      leads_bind AreSteps IsShort (steps_at at Sold (get (codes "sold") set)) _
      (steps_lead at Sold (get (codes "sold") set)) (λ sold few_sold.
      leads_ok IsShort (record { members = members; numbers = numbers; bought = bought; sold = sold })
      (record { bought = few_bought; sold = few_sold; numbers = few })))))))

  set_stops : (at : SetAt) (set : Data) → at.firm ≤ 16384 → at.set ≤ 16384 → StopsPlainly (set_of head at set)
  unfolding set_of
  set_stops at set firm early =
      stops_bind IsPlain (object_of CountSetObject (set_place at) (Some set)) _
      (object_stops (set_place at) (plain_set at firm early) CountSetObject (Some set)) (λ object.
      stops_bind IsPlain (holds Shape (set_place at) (has_one_form set)) _
      (plain_holds Shape (set_place at) (has_one_form set) refl (plain_set at firm early)) (λ form.
      stops_bind IsPlain (members_at head at.firm (part_place at Trades) (get (codes "trades") set)) _
      (members_stop head few_trades at.firm (part_place at Trades) (plain_part at firm early Trades)
      (get (codes "trades") set)) (λ members.
      stops_bind IsPlain (numbers_at at (get (codes "from") set) (get (codes "values") set)) _
      (numbers_stop at firm early (get (codes "from") set) (get (codes "values") set)) (λ numbers.
      stops_bind IsPlain (steps_at at Bought (get (codes "bought") set)) _
      (steps_stop at firm early Bought (get (codes "bought") set)) (λ bought.
      stops_bind IsPlain (steps_at at Sold (get (codes "sold") set)) _
      (steps_stop at firm early Sold (get (codes "sold") set)) (λ sold.
      stops_ok IsPlain (record { members = members; numbers = numbers; bought = bought; sold = sold })))))))

  -- each set so far has few steps and numbers
  one_set_leads : (sets : List WrittenSet) (set : Data) → All IsShort sets
      → Leads (λ next. All IsShort next) (one_set head f sets set)
  unfolding one_set
  one_set_leads sets set short =
      leads_bind IsShort (λ next. All IsShort next) (set_of head (record { firm = f; set = length sets }) set) _
      (set_leads (record { firm = f; set = length sets }) set) (λ next is.
      leads_ok (λ next. All IsShort next) (sets ++ next ∷ []) (All-push IsShort sets next short is))

  one_set_counts : (sets : List WrittenSet) (set : Data)
      → Leads (λ next. length next ≡ length sets + 1) (one_set head f sets set)
  unfolding one_set
  one_set_counts sets set =
      leads_after _ (set_of head (record { firm = f; set = length sets }) set) _ (λ next.
      leads_ok (λ made. length made ≡ length sets + 1) (sets ++ next ∷ []) (length-append sets (next ∷ [])))

  one_set_stops : (sets : List WrittenSet) (set : Data) → length sets + 1 ≤ most_count_sets
      → StopsPlainly (one_set head f sets set)
  unfolding one_set
  one_set_stops sets set few =
      stops_bind IsPlain (set_of head (record { firm = f; set = length sets }) set) _
      (set_stops (record { firm = f; set = length sets }) set near (omega (arith, few)))
      (λ next. stops_ok IsPlain (sets ++ next ∷ []))

  sets_lead : (items : Items) → Leads (λ sets. All IsShort sets × (length sets ≡ 0 + items_len items)) (sets_of head f items)
  sets_lead items =
      leads_both _ _ _ (leads_each (All IsShort) (one_set head f) one_set_leads [] items (All-nil IsShort))
      (leads_count length (one_set head f) one_set_counts [] items)

  few_sets : (before : ℕ) (items : Items)
      → Leads (λ _. nat_le (before + items_len items) most_count_sets ≡ true)
      (holds Limit (firm_place f ++ Key Sets ∷ []) (nat_le (before + items_len items) most_count_sets))
  few_sets before items =
      leads_holds Limit (firm_place f ++ Key Sets ∷ []) (nat_le (before + items_len items) most_count_sets)

  sets_stop : (before : ℕ) (value : Option Data) → StopsPlainly (sets_at head before f value)
  unfolding sets_at
  sets_stop before value =
      let place = firm_place f ++ Key Sets ∷ [] in
      let plain : IsPlainPlace place = (tt, (near, (tt, tt))) in
      stops_bind IsPlain (optional_list_at place value) _ (optional_list_stops place plain value) (λ items.
      stops_after IsPlain (λ _. nat_le (before + items_len items) most_count_sets ≡ true)
      (holds Limit place (nat_le (before + items_len items) most_count_sets)) _ (few_sets before items)
      (plain_holds Limit place (nat_le (before + items_len items) most_count_sets) refl plain) (λ u test.
      let few = le_from_test (before + items_len items) most_count_sets test in
      stops_after IsPlain (λ sets. All IsShort sets × (length sets ≡ 0 + items_len items)) (sets_of head f items) _
      (sets_lead items)
      (stops_each_few IsPlain (λ sets. Unit {0}) length most_count_sets (one_set head f)
      (λ sets d start. leads_as (λ next. length next ≡ length sets + 1) _ _ (λ next more. (tt, more))
      (one_set_counts sets d)) (λ sets d start room. one_set_stops sets d room) [] items tt (omega (arith, few)))
      (λ sets are.
      stops_bind IsPlain (check_sets f [] sets) _
      (check_sets_stop f [] sets near (let count = are.1 in omega (arith, count, few)) are.0) (λ met.
      stops_ok IsPlain sets))))

  kind_stops : (firm : Data) → StopsPlainly (kind_at f firm)
  unfolding kind_at
  kind_stops firm =
      let place = firm_place f ++ Key Kind ∷ [] in
      let plain : IsPlainPlace place = (tt, (near, (tt, tt))) in
      stops_bind IsPlain (text_at place (get (codes "kind") firm)) _ (text_stops place plain (get (codes "kind") firm))
      (λ kind. plain_holds Shape place (bytes_eq kind (codes "laminar")) refl plain)

  firm_stops : (before : ℕ) (firm : Data) → StopsPlainly (firm_of head before f firm)
  unfolding firm_of
  firm_stops before firm =
      stops_bind IsPlain (kind_at f firm) _ (kind_stops firm) (λ kind.
      stops_bind IsPlain (object_of (FirmObject Laminar) (firm_place f) (Some firm)) _
      (object_stops (firm_place f) (tt, (near, tt)) (FirmObject Laminar) (Some firm)) (λ object.
      stops_bind IsPlain (amounts_at head f (get (codes "amounts") firm)) _
      (amounts_stop head few_trades f near (get (codes "amounts") firm)) (λ amounts.
      stops_bind IsPlain (sets_at head before f (get (codes "sets") firm)) _
      (sets_stop before (get (codes "sets") firm)) (λ sets.
      stops_ok IsPlain (record { amounts = amounts; sets = sets })))))

module _ (head : UnitTrades) (few_trades : length head.names.trades ≤ most_unit_trades) where
  one_firm_counts : (found : WrittenFirms) (firm : Data)
      → Leads (λ next. length next.firms ≡ length found.firms + 1) (one_firm head found firm)
  unfolding one_firm
  one_firm_counts found firm =
      leads_after _ (firm_of head found.sets (length found.firms) firm) _ (λ next.
      leads_ok (λ made. length made.firms ≡ length found.firms + 1)
      (record { sets = found.sets + length next.sets; firms = found.firms ++ next ∷ [] })
      (length-append found.firms (next ∷ [])))

  one_firm_stops : (found : WrittenFirms) (firm : Data) → length found.firms + 1 ≤ most_unit_firms
      → StopsPlainly (one_firm head found firm)
  unfolding one_firm
  one_firm_stops found firm few =
      stops_bind IsPlain (firm_of head found.sets (length found.firms) firm) _
      (firm_stops head few_trades (length found.firms) (omega (arith, few)) found.sets firm)
      (λ next. stops_ok IsPlain _)

  pub firms_stop : (items : Items) → items_len items ≤ most_unit_firms → StopsPlainly (firms_of head items)
  firms_stop items few =
      stops_each_few IsPlain (λ found. Unit {0}) (λ (found : WrittenFirms). length found.firms) most_unit_firms
      (one_firm head) (λ found d start. leads_as (λ next. length next.firms ≡ length found.firms + 1) _ _
      (λ next more. (tt, more)) (one_firm_counts found d)) (λ found d start room. one_firm_stops found d room)
      (record { sets = 0; firms = [] }) items tt (omega (arith, few))
