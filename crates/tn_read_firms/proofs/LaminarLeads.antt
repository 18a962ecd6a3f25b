-- What the laminar firms are that reading gives.
use Rattle.std.proofs.Common.{◌≡◌, ℕ, ◌+◌, ◌^◌, ◌<◌, ◌≤◌, true, List, [], ◌∷◌, ◌++◌, length, Option, Some, refl, arith, length-append}
use Rattle.std.specs.Prelude.{ℤ, nat_le, unsigned_abs, codes, All}
use Rattle.std.proofs.lemmas.List.Elements.{All-push}
use Rattle.serde_json.specs.Data.{Data}
use Rattle.serde_json.specs.Events.{items_len}
use Rattle.serde_json.specs.Find.{get}
use Rattle.tn_base.specs.Arcs.{IsAtMost}
use Rattle.tn_said.specs.declared.fault.FaultKind.TheVariants.{Limit}
use Rattle.tn_laminar.specs.declared.set.LaminarSet.{LaminarSet}
use Rattle.tn_laminar.specs.Faults.{AreSound}
use Rattle.tn_laminar.specs.Sum.{IsOwnSet, laminar_firm}
use Rattle.tn_model.specs.declared.limits.Limits.{Limits}
use Rattle.tn_said.specs.declared.place.PlaceStep.{PlaceStep}
use Rattle.tn_said.specs.declared.place.PlaceStep.TheVariants.{Index, Key}
use Rattle.tn_said.specs.declared.place.Word.TheVariants.{Trades, Sets, From, Values}
use Rattle.tn_read_shapes.specs.declared.members.ObjectKind.TheVariants.{LaminarSet as LaminarSetObject}
use Rattle.tn_read_shapes.specs.Reading.{each, holds}
use Rattle.tn_read_shapes.specs.Shapes.{few_at, number_at, object_of, optional_list_at, whole_at}
use Rattle.tn_read_references.specs.Ordered.{Listed, sides_of, AreTrades}
use Rattle.tn_read_references.specs.References.{bundle_at, firm_place}
use Rattle.tn_read_firms.specs.OwnNumbers.{no_numbers, own_numbers}
use Rattle.tn_read_firms.specs.Laminars.{amounts_list, check_sets, checked_laminar, laminar_of, laminar_set_of, low_at, one_set, one_value, set_place, sets_at, values_at}
use Rattle.tn_read_firms.specs.Laws.{HasFewNumbers, IsLaminarFirm}
use Rattle.tn_read_references.proofs.EntryLeads.{AreNumbers, zeros}
use Rattle.tn_read_firms.proofs.OwnLemmas.{own_numbers_lead}
use Rattle.tn_read_shapes.proofs.ShapeLeads.{few_lead, number_leads}
use Rattle.tn_read_references.proofs.ReferenceLeads.{bundle_leads}
use Rattle.tn_read_firms.proofs.SoundLemmas.{sound_sets}
use Rattle.tn_read_shapes.proofs.LeadLemmas.{Leads, leads_ok, leads_bind, leads_after, leads_each, leads_count, leads_both, leads_holds, leads_as, le_from_test, small_from_test}

low_leads : (limits : Limits) (place : List PlaceStep) (value : Option Data)
    → Leads (λ low. IsAtMost low limits.from) (low_at limits place value)
unfolding low_at
low_leads limits place value = leads_after (λ low. IsAtMost low limits.from) (whole_at place value) _ (λ low.
    leads_bind (λ _. nat_le (unsigned_abs low) limits.from ≡ true) (λ low. IsAtMost low limits.from)
    (holds Limit place (nat_le (unsigned_abs low) limits.from)) _
    (leads_holds Limit place (nat_le (unsigned_abs low) limits.from)) (λ u near.
    leads_ok (λ low. IsAtMost low limits.from) low (small_from_test low limits.from near)))

-- few small numbers
record AreValues (limits : Limits) (numbers : List ℤ) : Type 0 where
  few : length numbers ≤ limits.values
  small : All (λ z. IsAtMost z limits.amount) numbers

module _ (limits : Limits) (f s : ℕ) where
  abbrev AreSmall : List ℤ → Type 0
  AreSmall numbers = All (λ z. IsAtMost z limits.amount) numbers

  value_leads : (numbers : List ℤ) (value : Data) → AreSmall numbers
      → Leads AreSmall (one_value limits f s numbers value)
  unfolding one_value
  value_leads numbers value small =
      let place = set_place f s ++ Key Values ∷ Index (length numbers) ∷ [] in
      leads_bind (λ z. IsAtMost z limits.amount) AreSmall (number_at limits.amount place value) _
      (number_leads limits.amount place (Some value)) (λ z is.
      leads_ok AreSmall (numbers ++ z ∷ []) (All-push (λ z. IsAtMost z limits.amount) numbers z small is))

  pub value_counts : (numbers : List ℤ) (value : Data)
      → Leads (λ next. length next ≡ length numbers + 1) (one_value limits f s numbers value)
  unfolding one_value
  value_counts numbers value =
      leads_after (λ next. length next ≡ length numbers + 1)
      (number_at limits.amount (set_place f s ++ Key Values ∷ Index (length numbers) ∷ []) value) _ (λ z.
      leads_ok (λ next. length next ≡ length numbers + 1) (numbers ++ z ∷ []) (length-append numbers (z ∷ [])))

  values_lead : (value : Option Data) → Leads (AreValues limits) (values_at limits f s value)
  unfolding values_at
  values_lead value =
      leads_bind (λ items. items_len items ≤ limits.values) (AreValues limits)
      (few_at limits.values (set_place f s ++ Key Values ∷ []) value) _
      (few_lead limits.values (set_place f s ++ Key Values ∷ []) value) (λ items few.
      leads_as (λ numbers. AreSmall numbers × (length numbers ≡ 0 + items_len items)) (AreValues limits)
      (each (one_value limits f s) [] items)
      (λ numbers are. record { few = omega (arith, few, are.1); small = are.0 })
      (leads_both AreSmall (λ numbers. length numbers ≡ 0 + items_len items) (each (one_value limits f s) [] items)
      (leads_each AreSmall (one_value limits f s) value_leads [] items (λ k d h. absurd (omega (arith, h))))
      (leads_count length (one_value limits f s) value_counts [] items)))

module _ (listed : Listed) (trades : AreTrades listed) (f : ℕ) where
  -- a set of own trades with few small numbers
  record IsSetOf (set : LaminarSet) : Type 0 where
    own : IsOwnSet (length (sides_of listed.ends f)) set
    numbered : HasFewNumbers listed.limits set

  set_leads : (s : ℕ) (set : Data) → Leads IsSetOf (laminar_set_of listed f s set)
  unfolding laminar_set_of
  set_leads s set =
      leads_after IsSetOf (object_of LaminarSetObject (set_place f s) (Some set)) _ (λ object.
      leads_bind (λ b. b < 2 ^ length (sides_of listed.ends f)) IsSetOf
      (bundle_at listed f (set_place f s ++ Key Trades ∷ []) (get (codes "trades") set)) _
      (bundle_leads listed trades f (set_place f s ++ Key Trades ∷ []) (get (codes "trades") set)) (λ members own.
      leads_bind (λ low. IsAtMost low listed.limits.from) IsSetOf
      (low_at listed.limits (set_place f s ++ Key From ∷ []) (get (codes "from") set)) _
      (low_leads listed.limits (set_place f s ++ Key From ∷ []) (get (codes "from") set)) (λ low near.
      leads_bind (AreValues listed.limits) IsSetOf (values_at listed.limits f s (get (codes "values") set)) _
      (values_lead listed.limits f s (get (codes "values") set)) (λ numbers are.
      leads_ok IsSetOf (record { members = members; low = low; numbers = numbers }) (record {
        own = own;
        numbered =
            record { low = near; few = are.few; small = are.small };
      })))))

  -- the sets so far
  pub record AreSetsOf (sets : List LaminarSet) : Type 0 where
    pub own : All (IsOwnSet (length (sides_of listed.ends f))) sets
    pub numbered : All (HasFewNumbers listed.limits) sets

  one_set_leads : (sets : List LaminarSet) (set : Data) → AreSetsOf sets → Leads AreSetsOf (one_set listed f sets set)
  unfolding one_set
  one_set_leads sets set are =
      leads_bind IsSetOf AreSetsOf (laminar_set_of listed f (length sets) set) _ (set_leads (length sets) set) (λ next is.
      leads_ok AreSetsOf (sets ++ next ∷ []) (record {
        own =
            All-push (IsOwnSet (length (sides_of listed.ends f))) sets next are.own is.own;
        numbered =
            All-push (HasFewNumbers listed.limits) sets next are.numbered is.numbered;
      }))

  pub one_set_counts : (sets : List LaminarSet) (set : Data)
      → Leads (λ next. length next ≡ length sets + 1) (one_set listed f sets set)
  unfolding one_set
  one_set_counts sets set =
      leads_after (λ next. length next ≡ length sets + 1) (laminar_set_of listed f (length sets) set) _ (λ next.
      leads_ok (λ more. length more ≡ length sets + 1) (sets ++ next ∷ []) (length-append sets (next ∷ [])))

  abbrev pub AreFewSets : List LaminarSet → Type 0
  AreFewSets sets = AreSetsOf sets × (length sets ≤ listed.limits.sets)

  pub sets_lead : (value : Option Data) → Leads AreFewSets (sets_at listed f value)
  unfolding sets_at
  sets_lead value =
      leads_after AreFewSets (optional_list_at (firm_place f ++ Key Sets ∷ []) value) _ (λ items.
      leads_bind (λ _. nat_le (items_len items) listed.limits.sets ≡ true) AreFewSets
      (holds Limit (firm_place f ++ Key Sets ∷ []) (nat_le (items_len items) listed.limits.sets)) _
      (leads_holds Limit (firm_place f ++ Key Sets ∷ []) (nat_le (items_len items) listed.limits.sets)) (λ u few.
      leads_as (λ sets. AreSetsOf sets × (length sets ≡ 0 + items_len items)) AreFewSets
      (each (one_set listed f) [] items) (λ sets are. (
        are.0,
        (let most = le_from_test (items_len items) listed.limits.sets few in let count = are.1 in
            omega (arith, most, count)),
      ))
      (leads_both AreSetsOf (λ sets. length sets ≡ 0 + items_len items) (each (one_set listed f) [] items)
      (leads_each AreSetsOf (one_set listed f) one_set_leads [] items (record {
        own =
            λ k d h. absurd (omega (arith, h));
        numbered = λ k d h. absurd (omega (arith, h));
      }))
      (leads_count length (one_set listed f) one_set_counts [] items))))

  checked_leads : (amounts : List ℤ) (sets : List LaminarSet)
      → AreNumbers (length (sides_of listed.ends f)) listed.limits.amount amounts → AreFewSets sets
      → length (sides_of listed.ends f) ≤ listed.limits.own
      → Leads (IsLaminarFirm listed.limits listed.ends f)
      (checked_laminar f (sides_of listed.ends f) amounts sets)
  unfolding checked_laminar
  checked_leads amounts sets are so few =
      let is_firm = IsLaminarFirm listed.limits listed.ends f in
      leads_bind (λ _. AreSound sets) is_firm (check_sets f [] sets) _ (record { at = λ u e. sound_sets f sets e })
      (λ u sound.
      leads_ok is_firm (laminar_firm (sides_of listed.ends f) amounts sets) (record {
        amounts = amounts;
        sets = sets;
        is = refl;
        few = few;
        as_many = are.count;
        small = are.small;
        few_sets = so.1;
        own = so.0.own;
        numbered = so.0.numbered;
        sound = sound;
      }))

  pub laminar_leads : (firm : Data) → length (sides_of listed.ends f) ≤ listed.limits.own
      → Leads (IsLaminarFirm listed.limits listed.ends f) (laminar_of listed f firm)
  unfolding laminar_of
  laminar_leads firm few =
      let is_firm = IsLaminarFirm listed.limits listed.ends f in
      leads_bind (AreNumbers (length (sides_of listed.ends f)) listed.limits.amount) is_firm
      (own_numbers listed (amounts_list f) (no_numbers listed.ends f) (get (codes "amounts") firm)) _
      (own_numbers_lead listed (amounts_list f) (length (sides_of listed.ends f)) (no_numbers listed.ends f)
      (get (codes "amounts") firm) (zeros (length (sides_of listed.ends f)) listed.limits.amount)) (λ amounts are.
      leads_bind AreFewSets is_firm (sets_at listed f (get (codes "sets") firm)) _
      (sets_lead (get (codes "sets") firm)) (λ sets so.
      checked_leads amounts sets are so few))
