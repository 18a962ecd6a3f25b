-- Every document that is read is one of laminar firms.
use Rattle.std.proofs.Common.{◌≡◌, ℕ, zero, suc, ◌+◌, ◌<◌, ◌≤◌, refl, sym, ap, subst, ◌∙◌, arith, inl, inr, List, [], ◌∷◌, ◌++◌, length, get_or, length-append, Bool, true, false, ◌==◌, ℤ, pos, ◌≤ℤ◌, Option, Some, None}
use Rattle.std.specs.Prelude.{◌&&◌, ◌||◌, ◌<ℤ◌, codes, not, nat_le, int_lt, unsigned_abs, slice_get, option_and_then, All, IfSome}
use Rattle.std.specs.List.{list_any, sum_by}
use Rattle.std.proofs.lemmas.Bool.{and_parts, cases_eq, eq-eqb, eqb-false, ne_eqb}
use Rattle.std.proofs.lemmas.Int.{ints}
use Rattle.std.proofs.lemmas.List.Elements.{All-nil, All-push}
use Rattle.std.proofs.lemmas.List.Folds.{list_any-append}
use Rattle.std.proofs.lemmas.List.Sums.{sum_by_push}
use Rattle.std.proofs.lemmas.Option.{none-some, same_Some, slice_get-get_or}
use Rattle.serde_json.specs.Data.{Data, Items}
use Rattle.serde_json.specs.Events.{items_len}
use Rattle.serde_json.specs.Find.{get}
use Rattle.tn_base.specs.Arcs.{IsAtMost}
use Rattle.tn_base.specs.Sets.{has, size, toggle}
use Rattle.tn_base.specs.declared.side.Side.{Side}
use Rattle.tn_base.proofs.SetLemmas.{has-toggle_other, has-toggle_same, has-zero}
use Rattle.tn_base.proofs.SizeLemmas.{size-toggle_in, size-zero}
use Rattle.tn_links.specs.declared.link.Step.{Step}
use Rattle.tn_said.specs.declared.fault.FaultKind.TheVariants.{AmountRange, Limit, NotOwnTrade, SameTrade, Shape}
use Rattle.tn_said.specs.declared.place.PlaceStep.{PlaceStep}
use Rattle.tn_said.specs.declared.place.PlaceStep.TheVariants.{Index, Key}
use Rattle.tn_said.specs.declared.place.Word.{Word}
use Rattle.tn_said.specs.declared.place.Word.TheVariants.{Bought, From, Sets, Sold, Trades, Values}
use Rattle.tn_counts.specs.Widths.{most_count_sets}
use Rattle.tn_read_shapes.specs.Reading.{each, holds, wanted}
use Rattle.tn_read_shapes.specs.Shapes.{few_at, list_at, number_at, object_of, optional_list_at, two_at, whole_at}
use Rattle.tn_read_shapes.specs.declared.members.FirmKind.TheVariants.{Laminar}
use Rattle.tn_read_shapes.specs.declared.members.ObjectKind.TheVariants.{CountSet as CountSetObject, Firm as FirmObject}
use Rattle.tn_read_shapes.proofs.LeadLemmas.{Leads, is_true_not, le_from_test, leads_after, leads_as, leads_bind, leads_both, leads_count, leads_each, leads_holds, leads_ok, leads_wanted}
use Rattle.tn_read_shapes.proofs.ShapeLeads.{few_lead, number_leads}
use Rattle.tn_read_references.specs.References.{firm_place, trade_at}
use Rattle.tn_read_units.specs.Checks.{check_sets}
use Rattle.tn_read_units.specs.Counts.{count_at}
use Rattle.tn_read_units.specs.Documents.{AreMembers, AreOnce, AreOwnAmounts, AreAroundNone, IsOwn, IsOwnAmount, IsWrittenFirm, IsWrittenSet, has_amount}
use Rattle.tn_read_units.specs.Firms.{OwnAmounts, WrittenFirm, WrittenFirms, amounts_at, amounts_place, firm_of, firms_of, kind_at, one_amount, one_firm, sets_at}
use Rattle.tn_read_units.specs.Limits.{most_number, most_steps, most_units_at_once, most_values}
use Rattle.tn_read_units.specs.Own.{Members, members_at, one_member, own_trade, side_at}
use Rattle.tn_read_units.specs.Sets.{AreNumbers, SetNumbers, WrittenSet, has_one_form, low_at, numbers_at, numbers_from, one_set, one_value, set_of, sets_of, values_at}
use Rattle.tn_read_units.specs.Steps.{AreSteps, IsStep, one_step, part_place, set_place, step_at, steps_at}
use Rattle.tn_read_units.specs.Trades.{UnitTrades}
use Rattle.tn_read_units.specs.declared.amounts.Amount.{Amount}
use Rattle.tn_read_units.specs.declared.steps.SetAt.{SetAt}
use Rattle.tn_read_units.proofs.FallLemmas.{all_at}
use Rattle.tn_read_units.proofs.TestedLemmas.{AreTested, IsTested, nested_sets, or_parts, sets_lead}

-- so many units
pub record IsCount (units : ℕ) : Type 0 where
  pub some : 1 ≤ units
  pub few : units ≤ most_units_at_once

-- whether a number is one of units
abbrev is_few : ℤ → Bool
is_few z = int_lt (pos 0) z && nat_le (unsigned_abs z) most_units_at_once

pub count_leads : (place : List PlaceStep) (value : Option Data) → Leads IsCount (count_at place value)
unfolding count_at
count_leads place value =
    leads_after IsCount (whole_at place value) _ (λ z.
    leads_bind (λ _. is_few z ≡ true) IsCount (holds AmountRange place (is_few z)) _
    (leads_holds AmountRange place (is_few z)) (λ u t. leads_ok IsCount (unsigned_abs z) (within z t)))
  where
    within : (z : ℤ) → is_few z ≡ true → IsCount (unsigned_abs z)
    within z t =
        let two = and_parts (int_lt (pos 0) z) (nat_le (unsigned_abs z) most_units_at_once) t in
        let above : pos 0 <ℤ z = grind (arith, ints, two.0) in
        record {
          some = omega (arith, ints, above);
          few = le_from_test (unsigned_abs z) most_units_at_once two.1;
        }

step_leads : (place : List PlaceStep) (entry : Data) → Leads IsStep (step_at place entry)
unfolding step_at
step_leads place entry =
    leads_after IsStep (two_at place entry) _ (λ two.
    leads_bind IsCount IsStep (count_at (place ++ Index 0 ∷ []) (Some two.0)) _
    (count_leads (place ++ Index 0 ∷ []) (Some two.0)) (λ units is.
    leads_bind (λ z. IsAtMost z most_number) IsStep (number_at most_number (place ++ Index 1 ∷ []) two.1) _
    (number_leads most_number (place ++ Index 1 ∷ []) (Some two.1)) (λ each small.
    leads_ok IsStep (record { units = units; each = each })
    (record { some = is.some; few = is.few; small = small }))))

module _ (at : SetAt) (word : Word) where
  one_step_leads : (steps : List Step) (entry : Data) → All IsStep steps
      → Leads (All IsStep) (one_step at word steps entry)
  unfolding one_step
  one_step_leads steps entry all =
      leads_bind IsStep (All IsStep) (step_at (part_place at word ++ Index (length steps) ∷ []) entry) _
      (step_leads (part_place at word ++ Index (length steps) ∷ []) entry)
      (λ step is. leads_ok (All IsStep) (steps ++ step ∷ []) (All-push IsStep steps step all is))

  pub one_step_more : (steps : List Step) (entry : Data)
      → Leads (λ next. length next ≡ length steps + 1) (one_step at word steps entry)
  unfolding one_step
  one_step_more steps entry =
      leads_after (λ next. length next ≡ length steps + 1)
      (step_at (part_place at word ++ Index (length steps) ∷ []) entry) _
      (λ step. leads_ok (λ next. length next ≡ length steps + 1) (steps ++ step ∷ []) (length-append steps (step ∷ [])))

  pub steps_lead : (value : Option Data) → Leads AreSteps (steps_at at word value)
  unfolding steps_at
  steps_lead value =
      leads_after AreSteps (optional_list_at (part_place at word) value) _ (λ entries.
      leads_bind (λ _. nat_le (items_len entries) most_steps ≡ true) AreSteps
      (holds Limit (part_place at word) (nat_le (items_len entries) most_steps)) _
      (leads_holds Limit (part_place at word) (nat_le (items_len entries) most_steps)) (λ u few. leads_as
      (λ steps. All IsStep steps
      × (length steps ≡ 0 + items_len entries)) AreSteps (each (one_step at word) [] entries)
      (λ steps are. record {
        few = omega (arith, are.1, le_from_test (items_len entries) most_steps few);
        each = are.0;
      })
      (leads_both (All IsStep) (λ steps. length steps ≡ 0 + items_len entries) (each (one_step at word) [] entries)
      (leads_each (All IsStep) (one_step at word) one_step_leads [] entries (All-nil IsStep))
      (leads_count (λ (steps : List Step). length steps) (one_step at word) one_step_more [] entries))))

module _ (at : SetAt) where
  abbrev AreSmall : List ℤ → Type 0
  AreSmall numbers = All (λ z. IsAtMost z most_number) numbers

  one_value_leads : (numbers : List ℤ) (value : Data) → AreSmall numbers → Leads AreSmall (one_value at numbers value)
  unfolding one_value
  one_value_leads numbers value all =
      leads_bind (λ z. IsAtMost z most_number) AreSmall (number_at most_number (part_place at Values ++ Index
      (length numbers) ∷ []) value) _
      (number_leads most_number (part_place at Values ++ Index (length numbers) ∷ []) (Some value))
      (λ z small. leads_ok AreSmall (numbers ++ z ∷ []) (All-push (λ z. IsAtMost z most_number) numbers z all small))

  pub one_value_more : (numbers : List ℤ) (value : Data)
      → Leads (λ next. length next ≡ length numbers + 1) (one_value at numbers value)
  unfolding one_value
  one_value_more numbers value =
      leads_after (λ next. length next ≡ length numbers + 1) (number_at most_number (part_place at Values ++ Index
      (length numbers) ∷ []) value) _
      (λ z. leads_ok (λ next. length next ≡ length numbers + 1) (numbers ++ z ∷ []) (length-append numbers (z ∷ [])))

  values_lead : (value : Option Data) → Leads AreNumbers (values_at at value)
  unfolding values_at
  values_lead value =
      leads_bind (λ items. items_len items ≤ most_values) AreNumbers (few_at most_values (part_place at Values) value) _
      (few_lead most_values (part_place at Values) value) (λ items few.
      leads_as (λ numbers. AreSmall numbers × (length numbers ≡ 0 + items_len items)) AreNumbers
      (each (one_value at) [] items)
      (λ numbers are. record { few = omega (arith, are.1, few); small = are.0 })
      (leads_both AreSmall (λ numbers. length numbers ≡ 0 + items_len items) (each (one_value at) [] items)
      (leads_each AreSmall (one_value at) one_value_leads [] items (All-nil (λ z. IsAtMost z most_number)))
      (leads_count (λ (numbers : List ℤ). length numbers) (one_value at) one_value_more [] items)))

  numbers_from_lead : (from : Data) (values : Option Data)
      → Leads (λ set. AreNumbers set.numbers) (numbers_from at from values)
  unfolding numbers_from
  numbers_from_lead from values =
      leads_after (λ set. AreNumbers set.numbers) (low_at (part_place at From) from) _ (λ low.
      leads_bind AreNumbers (λ set. AreNumbers set.numbers) (values_at at values) _
      (values_lead values) (λ numbers are. leads_ok (λ set. AreNumbers set.numbers)
      (record { low = low; numbers = numbers }) are))

  abbrev AreNumbersIfThere : Option SetNumbers → Type 0
  AreNumbersIfThere numbers = IfSome numbers (λ set. AreNumbers set.numbers)

  pub numbers_lead : (from values : Option Data) → Leads AreNumbersIfThere (numbers_at at from values)
  numbers_lead None values = leads_ok AreNumbersIfThere None tt
  numbers_lead (Some from) values =
      leads_bind (λ set. AreNumbers set.numbers) AreNumbersIfThere (numbers_from at from values) _
      (numbers_from_lead from values)
      (λ set are. leads_ok AreNumbersIfThere (Some set) are)

-- a test fails for what isn't there
or_none : (a : Bool) → (a || false) ≡ a
or_none true = refl
or_none false = refl

or_true : (a : Bool) → (a || true) ≡ true
or_true true = refl
or_true false = refl

-- one more number in a set, and in a list
module _ {A : Type 0} (number : A → ℕ) (named : ℕ) (list : List A) (x : A) where
  abbrev ListHas : ℕ → List A → ℕ → Type 0
  ListHas set all t = has set t ≡ list_any (λ y. number y == t) all

  pub named_more : has named (number x) ≡ false → ((t : ℕ) → ListHas named list t) → (t : ℕ)
      → ListHas (toggle named (number x)) (list ++ x ∷ []) t
  named_more new is t = elim (cases_eq t (number x)) [
    | inl same ↦
        let here : (number x == t) ≡ true = eq-eqb (number x) t (sym same) in
        ap (has (toggle named (number x))) same ∙ has-toggle_same named (number x) ∙ ap not new
        ∙ sym (list_any-append (λ (y : A). number y == t) list (x ∷ [])
        ∙ ap (λ (b : Bool). list_any (λ (y : A). number y == t) list || (b || false)) here
        ∙ or_true (list_any (λ (y : A). number y == t) list))
    | inr other ↦
        let apart : (number x == t) ≡ false = ne_eqb (number x) t (λ e. other (sym e)) in
        has-toggle_other named (number x) t other ∙ is t
        ∙ sym (list_any-append (λ (y : A). number y == t) list (x ∷ [])
        ∙ ap (λ (b : Bool). list_any (λ (y : A). number y == t) list || (b || false)) apart
        ∙ or_none (list_any (λ (y : A). number y == t) list))
  ]

module _ (head : UnitTrades) (f : ℕ) where
  own_leads : (place : List PlaceStep) (value : Data)
      → Leads (λ own. IsOwn head.trades f own.0 own.1) (own_trade head f place value)
  unfolding own_trade
  own_leads place value =
      leads_after (λ own. IsOwn head.trades f own.0 own.1) (trade_at head.names.trades place value) _ (λ t.
      leads_bind (λ side. IsOwn head.trades f t side) (λ own. IsOwn head.trades f own.0 own.1)
      (wanted NotOwnTrade place (option_and_then (side_at f) (slice_get head.trades t))) _
      (leads_wanted NotOwnTrade place (option_and_then (side_at f) (slice_get head.trades t))) (λ side is.
      leads_ok (λ own. IsOwn head.trades f own.0 own.1) (t, side) is))

  abbrev IsOwnTrade : ℕ → Type 0
  IsOwnTrade t = (side : Side) × IsOwn head.trades f t side

  members_more : (members : Members) (t : ℕ) (side : Side) → AreMembers head.trades f members
      → IsOwn head.trades f t side → has members.named t ≡ false
      → AreMembers head.trades f (record { named = toggle members.named t; trades = members.trades ++ t ∷ [] })
  members_more members t side are own new = record {
    own = All-push IsOwnTrade members.trades t are.own (side, own);
    named = named_more (λ (k : ℕ). k) members.named members.trades t new are.named;
    count = omega (arith, size-toggle_in members.named t new, are.count, length-append members.trades (t ∷ []));
  }

  one_member_leads : (place : List PlaceStep) (members : Members) (value : Data) → AreMembers head.trades f members
      → Leads (AreMembers head.trades f) (one_member head f place members value)
  unfolding one_member
  one_member_leads place members value are =
      leads_bind (λ own. IsOwn head.trades f own.0 own.1) (AreMembers head.trades f)
      (own_trade head f (place ++ Index (size members.named) ∷ []) value) _ (own_leads (place ++ Index
      (size members.named) ∷ []) value) (λ own is.
      leads_bind (λ _. not (has members.named own.0) ≡ true) (AreMembers head.trades f)
      (holds SameTrade (place ++ Index (size members.named) ∷ []) (not (has members.named own.0))) _
      (leads_holds SameTrade (place ++ Index (size members.named) ∷ []) (not (has members.named own.0)))
      (λ u new. leads_ok (AreMembers head.trades f)
      (record { named = toggle members.named own.0; trades = members.trades ++ own.0 ∷ [] })
      (members_more members own.0 own.1 are is (is_true_not (has members.named own.0) new))))

  pub members_lead : (place : List PlaceStep) (value : Option Data)
      → Leads (AreMembers head.trades f) (members_at head f place value)
  unfolding members_at
  members_lead place value =
      leads_after (AreMembers head.trades f) (list_at place value) _ (λ references.
      leads_each (AreMembers head.trades f) (one_member head f place) (one_member_leads place)
      (record { named = 0; trades = [] }) references
      (record { own = All-nil IsOwnTrade; named = λ t. has-zero t; count = size-zero }))

  once_more : (amounts : List Amount) (amount : Amount) → AreOnce amounts → has_amount amounts amount.trade ≡ false
      → AreOnce (amounts ++ amount ∷ [])
  once_more [] amount once new = (refl, tt)
  once_more (first ∷ amounts) amount once new =
      let two = or_parts (first.trade == amount.trade) (has_amount amounts amount.trade) new in
      let apart : (amount.trade == first.trade) ≡ false =
      ne_eqb amount.trade first.trade (λ e. eqb-false first.trade amount.trade two.0 (sym e)) in (
        list_any-append (λ (other : Amount). other.trade == first.trade) amounts (amount ∷ [])
            ∙ ap (λ (b : Bool). b || ((amount.trade == first.trade) || false)) once.0
            ∙ ap (λ (b : Bool). b || false) apart,
        once_more amounts amount once.1 two.1,
      )

  amounts_more : (amounts : OwnAmounts) (amount : Amount) → AreOwnAmounts head.trades f amounts
      → IsOwnAmount head.trades f amount → has amounts.named amount.trade ≡ false
      → AreOwnAmounts head.trades f
      (record { named = toggle amounts.named amount.trade; entries = amounts.entries ++ amount ∷ [] })
  amounts_more amounts amount are is new = record {
    each = All-push (IsOwnAmount head.trades f) amounts.entries amount are.each is;
    once = once_more amounts.entries amount are.once (sym (are.named amount.trade) ∙ new);
    named = named_more (λ (a : Amount). a.trade) amounts.named amounts.entries amount new are.named;
  }

  one_amount_leads : (place : List PlaceStep) (amounts : OwnAmounts) (entry : Data)
      → AreOwnAmounts head.trades f amounts → Leads (AreOwnAmounts head.trades f)
      (one_amount head f place amounts entry)
  unfolding one_amount
  one_amount_leads place amounts entry are =
      leads_after (AreOwnAmounts head.trades f) (two_at (place ++ Index (size amounts.named) ∷ []) entry) _ (λ two.
      leads_bind (λ own. IsOwn head.trades f own.0 own.1) (AreOwnAmounts head.trades f) (own_trade head f
      (place ++ Index (size amounts.named) ∷ Index 0 ∷ []) two.0) _
      (own_leads (place ++ Index (size amounts.named) ∷ Index 0 ∷ []) two.0) (λ own is.
      leads_bind (λ _. not (has amounts.named own.0) ≡ true) (AreOwnAmounts head.trades f)
      (holds SameTrade (place ++ Index (size amounts.named) ∷ Index 0 ∷ []) (not (has amounts.named own.0))) _
      (leads_holds SameTrade (place ++ Index (size amounts.named) ∷ Index 0 ∷ []) (not (has amounts.named own.0)))
      (λ u new.
      leads_bind (λ z. IsAtMost z most_number) (AreOwnAmounts head.trades f) (number_at most_number (place ++ Index
      (size amounts.named) ∷ Index 1 ∷ []) two.1) _
      (number_leads most_number (place ++ Index (size amounts.named) ∷ Index 1 ∷ []) (Some two.1)) (λ number small.
      let amount : Amount = record { trade = own.0; side = own.1; number = number } in
      leads_ok (AreOwnAmounts head.trades f)
      (record { named = toggle amounts.named own.0; entries = amounts.entries ++ amount ∷ [] })
      (amounts_more amounts amount are (record { own = is; small = small })
      (is_true_not (has amounts.named own.0) new))))))

  pub amounts_lead : (value : Option Data) → Leads (AreOwnAmounts head.trades f) (amounts_at head f value)
  unfolding amounts_at
  amounts_lead value =
      leads_after (AreOwnAmounts head.trades f) (optional_list_at (amounts_place f) value) _ (λ entries.
      leads_each (AreOwnAmounts head.trades f) (one_amount head f (amounts_place f)) (one_amount_leads
      (amounts_place f))
      (record { named = 0; entries = [] }) entries
      (record { each = All-nil (IsOwnAmount head.trades f); once = tt; named = λ t. has-zero t }))

  -- what is known of a set before it is tested
  pub record IsReadSet (set : WrittenSet) : Type 0 where
    pub members : AreMembers head.trades f set.members
    pub numbers : IfSome set.numbers (λ set. AreNumbers set.numbers)
    pub bought : AreSteps set.bought
    pub sold : AreSteps set.sold

  set_leads : (at : SetAt) (set : Data) → at.firm ≡ f → Leads IsReadSet (set_of head at set)
  unfolding set_of
  set_leads at set same =
      leads_after IsReadSet (object_of CountSetObject (set_place at) (Some set)) _ (λ object.
      leads_after IsReadSet (holds Shape (set_place at) (has_one_form set)) _ (λ form.
      leads_bind (AreMembers head.trades f) IsReadSet
      (members_at head at.firm (part_place at Trades) (get (codes "trades") set)) _
      (subst (λ (n : ℕ). Leads (AreMembers head.trades f)
      (members_at head n (part_place at Trades) (get (codes "trades") set))) (sym same)
      (members_lead (part_place at Trades) (get (codes "trades") set))) (λ members are.
      leads_bind (λ n. IfSome n (λ set. AreNumbers set.numbers)) IsReadSet
      (numbers_at at (get (codes "from") set) (get (codes "values") set)) _
      (numbers_lead at (get (codes "from") set) (get (codes "values") set)) (λ numbers small.
      leads_bind AreSteps IsReadSet (steps_at at Bought (get (codes "bought") set)) _
      (steps_lead at Bought (get (codes "bought") set)) (λ bought first.
      leads_bind AreSteps IsReadSet (steps_at at Sold (get (codes "sold") set)) _
      (steps_lead at Sold (get (codes "sold") set)) (λ sold second. leads_ok IsReadSet
      (record { members = members; numbers = numbers; bought = bought; sold = sold })
      (record { members = are; numbers = small; bought = first; sold = second })))))))

  one_set_leads : (sets : List WrittenSet) (set : Data) → All IsReadSet sets
      → Leads (All IsReadSet) (one_set head f sets set)
  unfolding one_set
  one_set_leads sets set all =
      leads_bind IsReadSet (All IsReadSet) (set_of head (record { firm = f; set = length sets }) set) _
      (set_leads (record { firm = f; set = length sets }) set refl)
      (λ next is. leads_ok (All IsReadSet) (sets ++ next ∷ []) (All-push IsReadSet sets next all is))

  one_set_more : (sets : List WrittenSet) (set : Data)
      → Leads (λ next. length next ≡ length sets + 1) (one_set head f sets set)
  unfolding one_set
  one_set_more sets set =
      leads_after (λ next. length next ≡ length sets + 1) (set_of head (record { firm = f; set = length sets }) set) _
      (λ next. leads_ok (λ next. length next ≡ length sets + 1) (sets ++ next ∷ []) (length-append sets (next ∷ [])))

  -- what is known of all sets of a firm after so many of earlier firms
  pub record AreReadSets (before : ℕ) (sets : List WrittenSet) : Type 0 where
    pub each : All IsReadSet sets
    pub tested : AreTested [] sets
    pub few : before + length sets ≤ most_count_sets

  pub sets_lead_at : (before : ℕ) (value : Option Data) → Leads (AreReadSets before) (sets_at head before f value)
  unfolding sets_at
  sets_lead_at before value =
      leads_after (AreReadSets before) (optional_list_at (firm_place f ++ Key Sets ∷ []) value) _ (λ items.
      leads_bind (λ _. nat_le (before + items_len items) most_count_sets ≡ true) (AreReadSets before)
      (holds Limit (firm_place f ++ Key Sets ∷ []) (nat_le (before + items_len items) most_count_sets)) _
      (leads_holds Limit (firm_place f ++ Key Sets ∷ []) (nat_le (before + items_len items) most_count_sets)) (λ u few.
      leads_bind (λ sets. All IsReadSet sets × (length sets ≡ 0 + items_len items)) (AreReadSets before)
      (sets_of head f items) _
      (leads_both (All IsReadSet) (λ sets. length sets ≡ 0 + items_len items) (sets_of head f items)
      (leads_each (All IsReadSet) (one_set head f) one_set_leads [] items (All-nil IsReadSet))
      (leads_count (λ (sets : List WrittenSet). length sets) (one_set head f) one_set_more [] items)) (λ sets are.
      leads_bind (λ _. AreTested [] sets) (AreReadSets before) (check_sets f [] sets) _ (sets_lead f [] sets)
      (λ v tested.
      leads_ok (AreReadSets before) sets (record {
        each = are.0;
        tested = tested;
        few = omega (arith, are.1, le_from_test (before + items_len items) most_count_sets few);
      })))))

  written_set : (set : WrittenSet) → IsReadSet set → IsTested set.numbers set.bought set.sold
      → IsWrittenSet head.trades f set
  written_set set is tested = record {
    members = is.members;
    numbers = both_said set.numbers is.numbers tested.from;
    bought = is.bought;
    sold = is.sold;
    around = tested.around;
    concave = tested.concave;
  }
    where
      both_said : (numbers : Option SetNumbers) → IfSome numbers (λ set. AreNumbers set.numbers)
          → IfSome numbers (λ set. (set.low ≤ℤ pos 0) × (unsigned_abs set.low < length set.numbers))
          → IfSome numbers AreAroundNone
      both_said None are from = tt
      both_said (Some numbers) are from = record { are = are; from = from.0; inside = from.1 }

  -- a firm after so many sets of earlier firms
  pub record IsFirmAfter (before : ℕ) (firm : WrittenFirm) : Type 0 where
    pub is : IsWrittenFirm head.trades f firm
    pub few : before + length firm.sets ≤ most_count_sets

  written_firm : (before : ℕ) (amounts : OwnAmounts) (sets : List WrittenSet) → AreOwnAmounts head.trades f amounts
      → AreReadSets before sets → IsFirmAfter before (record { amounts = amounts; sets = sets })
  written_firm before amounts sets own are = record {
    is = record {
      amounts = own;
      sets = λ k d inside. written_set (get_or sets k d) (are.each k d inside)
          (are.tested.each k (get_or sets k d) (slice_get-get_or sets k d inside));
      laminar = nested_sets sets are.tested (λ k set is. (all_at IsReadSet sets k set are.each is).members.named);
    };
    few = are.few;
  }

  pub firm_leads : (before : ℕ) (firm : Data) → Leads (IsFirmAfter before) (firm_of head before f firm)
  unfolding firm_of
  firm_leads before firm =
      leads_after (IsFirmAfter before) (kind_at f firm) _ (λ kind.
      leads_after (IsFirmAfter before) (object_of (FirmObject Laminar) (firm_place f) (Some firm)) _ (λ object.
      leads_bind (AreOwnAmounts head.trades f) (IsFirmAfter before) (amounts_at head f (get (codes "amounts") firm)) _
      (amounts_lead (get (codes "amounts") firm)) (λ amounts own.
      leads_bind (AreReadSets before) (IsFirmAfter before) (sets_at head before f (get (codes "sets") firm)) _
      (sets_lead_at before (get (codes "sets") firm)) (λ sets are.
      leads_ok (IsFirmAfter before) (record { amounts = amounts; sets = sets })
      (written_firm before amounts sets own are)))))

-- what holds at each place of a list
abbrev pub HoldAt : {A : Type 0} → (ℕ → A → Type 0) → List A → Type 0
HoldAt {A} P xs = (k : ℕ) (x : A) → slice_get xs k ≡ Some x → P k x

pub hold_more : {A : Type 0} (P : ℕ → A → Type 0) (xs : List A) (y : A) → HoldAt P xs → P (length xs) y
    → HoldAt P (xs ++ y ∷ [])
hold_more P [] y all last zero x is = subst (P zero) (same_Some y x is) last
hold_more P [] y all last (suc k) x is = absurd (none-some x is)
hold_more P (first ∷ xs) y all last zero x is = all zero x is
hold_more P (first ∷ xs) y all last (suc k) x is =
    hold_more (λ i. P (suc i)) xs y (λ i z at. all (suc i) z at) last k x is

module _ (head : UnitTrades) where
  abbrev sets_in : List WrittenFirm → ℕ
  sets_in firms = sum_by (λ firm. length firm.sets) firms

  -- the firms that have been read
  pub record AreFirmsRead (all : WrittenFirms) : Type 0 where
    pub counted : all.sets ≡ sets_in all.firms
    pub few : all.sets ≤ most_count_sets
    pub each : HoldAt (IsWrittenFirm head.trades) all.firms

  one_firm_leads : (before : WrittenFirms) (firm : Data) → AreFirmsRead before
      → Leads AreFirmsRead (one_firm head before firm)
  unfolding one_firm
  one_firm_leads before firm are =
      leads_bind (IsFirmAfter head (length before.firms) before.sets) AreFirmsRead
      (firm_of head before.sets (length before.firms) firm) _
      (firm_leads head (length before.firms) before.sets firm) (λ next is.
      leads_ok AreFirmsRead
      (record { sets = before.sets + length next.sets; firms = before.firms ++ next ∷ [] }) (record {
        counted = omega (arith, are.counted, sum_by_push (λ (f : WrittenFirm). length f.sets) before.firms next);
        few = is.few;
        each = hold_more (IsWrittenFirm head.trades) before.firms next are.each is.is;
      }))

  one_firm_more : (before : WrittenFirms) (firm : Data)
      → Leads (λ next. length next.firms ≡ length before.firms + 1) (one_firm head before firm)
  unfolding one_firm
  one_firm_more before firm =
      leads_after (λ next. length next.firms ≡ length before.firms + 1)
      (firm_of head before.sets (length before.firms) firm) _ (λ next.
      leads_ok (λ next. length next.firms ≡ length before.firms + 1)
      (record { sets = before.sets + length next.sets; firms = before.firms ++ next ∷ [] })
      (length-append before.firms (next ∷ [])))

  abbrev no_firms : WrittenFirms
  no_firms = record { sets = 0; firms = [] }

  pub firms_lead : (items : Items)
      → Leads (λ all. AreFirmsRead all × (length all.firms ≡ items_len items)) (firms_of head items)
  firms_lead items =
      leads_both AreFirmsRead (λ all. length all.firms ≡ items_len items) (firms_of head items)
      (leads_each AreFirmsRead (one_firm head) one_firm_leads no_firms items
      (record { counted = refl; few = omega arith; each = λ k x is. absurd (none-some x is) }))
      (leads_as (λ all. length all.firms ≡ 0 + items_len items) (λ all. length all.firms ≡ items_len items)
      (firms_of head items) (λ all count. omega (arith, count))
      (leads_count (λ (all : WrittenFirms). length all.firms) (one_firm head) one_firm_more no_firms items))
