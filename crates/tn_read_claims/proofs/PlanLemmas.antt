-- The parts of a plan that reading gives, and the faults at which it stops.
use Rattle.std.proofs.Common.{◌≡◌, ℕ, ◌+◌, ◌^◌, ◌<◌, ◌≤◌, ◌&&◌, ◌++◌, [], ◌∷◌, true, List, length, Some, refl, arith}
use Rattle.std.specs.Prelude.{ℤ, pos, int_le, codes, All}
use Rattle.std.proofs.lemmas.Bool.{and_parts}
use Rattle.std.proofs.lemmas.Int.{ints}
use Rattle.std.proofs.lemmas.List.{length-append}
use Rattle.std.proofs.lemmas.List.Elements.{All-nil, All-push}
use Rattle.serde_json.specs.Data.{Data}
use Rattle.serde_json.specs.Events.{items_len}
use Rattle.serde_json.specs.Find.{get}
use Rattle.tn_said.specs.declared.fault.FaultKind.TheVariants.{AmountRange}
use Rattle.tn_model.specs.Limits.{most_own_trades, most_parts}
use Rattle.tn_said.specs.declared.part.Part.{Part}
use Rattle.tn_said.specs.declared.place.PlaceStep.{PlaceStep}
use Rattle.tn_read_shapes.specs.Reading.{each, holds}
use Rattle.tn_read_shapes.specs.Shapes.{few_at, three_at, whole_at}
use Rattle.tn_read_shapes.proofs.LeadLemmas.{Leads, leads_after, leads_as, leads_bind, leads_both, leads_count, leads_each, leads_holds, leads_ok}
use Rattle.tn_read_shapes.proofs.ShapeLeads.{few_lead}
use Rattle.tn_read_shapes.proofs.ShapeStops.{few_stops, three_stops, whole_stops}
use Rattle.tn_read_shapes.proofs.StopLemmas.{IsPlain, IsPlainPlace, StopsPlainly, plain_holds, stops_after, stops_bind, stops_each_few, stops_ok}
use Rattle.tn_read_references.specs.Ordered.{AreTrades, Listed, sides_of}
use Rattle.tn_read_references.specs.References.{bundle_at, firm_at}
use Rattle.tn_read_references.proofs.ReferenceLeads.{bundle_leads, firm_at_leads}
use Rattle.tn_read_references.proofs.ReferenceStops.{bundle_stops, firm_at_stops}
use Rattle.tn_read_claims.specs.Planned.{claimed_plan, in_part, one_part, part_at, part_of, plan_place, plan_weight_at}
use Rattle.tn_read_parts.proofs.OutcomeLeads.{IsOver}

one_part_counts : (listed : Listed) (parts : List Part) (entry : Data)
    → Leads (λ next. length next ≡ length parts + 1) (one_part listed parts entry)
unfolding one_part
one_part_counts listed parts entry =
    leads_after (λ next. length next ≡ length parts + 1) (part_of listed (length parts) entry) _ (λ part.
    leads_ok (λ next. length next ≡ length parts + 1) (parts ++ part ∷ []) (length-append parts (part ∷ [])))

-- ---- weights

module _ (listed : Listed) where
  -- a weight is within the document's limit on denominators
  abbrev pub IsWeight : ℤ → Type 0
  IsWeight weight = IsOver listed.limits.claimed_over weight

  weight_from_test : (weight : ℤ) → (int_le (pos 1) weight && int_le weight (pos listed.limits.claimed_over)) ≡ true
      → IsWeight weight
  weight_from_test weight e =
      let parts = and_parts (int_le (pos 1) weight) (int_le weight (pos listed.limits.claimed_over)) e in
      record { least = search (arith, ints, parts.0); most = search (arith, ints, parts.1) }

  weight_leads : (place : List PlaceStep) (value : Data) → Leads IsWeight (plan_weight_at listed place value)
  unfolding plan_weight_at
  weight_leads place value =
      leads_after IsWeight (whole_at place (Some value)) _ (λ weight.
      let test = int_le (pos 1) weight && int_le weight (pos listed.limits.claimed_over) in
      leads_bind (λ _. test ≡ true) IsWeight (holds AmountRange place test) _ (leads_holds AmountRange place test)
      (λ u within.
      leads_ok IsWeight weight (weight_from_test weight within)))

  abbrev IsWeighed : Part → Type 0
  IsWeighed part = IsWeight part.weight

  part_is_weighed : (k : ℕ) (entry : Data) → Leads IsWeighed (part_of listed k entry)
  unfolding part_of
  part_is_weighed k entry =
      leads_after IsWeighed (three_at (part_at k) entry) _ (λ three.
      leads_after IsWeighed (firm_at listed.names.firms (in_part k 0) (Some three.0)) _ (λ f.
      leads_after IsWeighed (bundle_at listed f (in_part k 1) (Some three.1)) _ (λ x.
      leads_bind IsWeight IsWeighed (plan_weight_at listed (in_part k 2) three.2) _ (weight_leads (in_part k 2) three.2)
      (λ w is.
      leads_ok IsWeighed (record { firm = f; bundle = x; weight = w }) is))))

  one_part_is_weighed : (parts : List Part) (entry : Data) → All IsWeighed parts
      → Leads (All IsWeighed) (one_part listed parts entry)
  unfolding one_part
  one_part_is_weighed parts entry are =
      leads_bind IsWeighed (All IsWeighed) (part_of listed (length parts) entry) _
      (part_is_weighed (length parts) entry) (λ part is.
      leads_ok (All IsWeighed) (parts ++ part ∷ []) (All-push IsWeighed parts part are is))

  pub parts_are_weighed : (claim : Data) → Leads (All IsWeighed) (claimed_plan listed claim)
  unfolding claimed_plan
  parts_are_weighed claim =
      leads_after (All IsWeighed) (few_at most_parts plan_place (get (codes "plan") claim)) _ (λ entries.
      leads_each (All IsWeighed) (one_part listed) one_part_is_weighed [] entries (All-nil IsWeighed))

-- ---- what a part is

module _ (listed : Listed) (trades : AreTrades listed) where
  -- a bundle of the own trades of a listed firm, with a weight
  pub record IsOwnPart (part : Part) : Type 0 where
    pub known : part.firm < length listed.names.firms
    pub own : part.bundle < 2 ^ length (sides_of listed.ends part.firm)
    pub weight : IsWeight listed part.weight

  part_leads : (k : ℕ) (entry : Data) → Leads IsOwnPart (part_of listed k entry)
  unfolding part_of
  part_leads k entry =
      leads_after IsOwnPart (three_at (part_at k) entry) _ (λ three.
      leads_bind (λ f. f < length listed.names.firms) IsOwnPart
      (firm_at listed.names.firms (in_part k 0) (Some three.0)) _
      (firm_at_leads listed.names.firms (in_part k 0) (Some three.0)) (λ f known.
      leads_bind (λ x. x < 2 ^ length (sides_of listed.ends f)) IsOwnPart
      (bundle_at listed f (in_part k 1) (Some three.1)) _
      (bundle_leads listed trades f (in_part k 1) (Some three.1)) (λ x own.
      leads_bind (IsWeight listed) IsOwnPart (plan_weight_at listed (in_part k 2) three.2) _
      (weight_leads listed (in_part k 2) three.2) (λ w within.
      leads_ok IsOwnPart (record { firm = f; bundle = x; weight = w }) (record {
        known = known;
        own = own;
        weight =
            within;
      })))))

  one_part_leads : (parts : List Part) (entry : Data) → All IsOwnPart parts
      → Leads (All IsOwnPart) (one_part listed parts entry)
  unfolding one_part
  one_part_leads parts entry are =
      leads_bind IsOwnPart (All IsOwnPart) (part_of listed (length parts) entry) _ (part_leads (length parts) entry)
      (λ part is.
      leads_ok (All IsOwnPart) (parts ++ part ∷ []) (All-push IsOwnPart parts part are is))

  -- few parts, each of which is one
  pub record ArePlanned (plan : List Part) : Type 0 where
    pub parts : All IsOwnPart plan
    pub few : length plan ≤ most_parts

  pub plan_leads : (claim : Data) → Leads ArePlanned (claimed_plan listed claim)
  unfolding claimed_plan
  plan_leads claim =
      leads_bind (λ entries. items_len entries ≤ most_parts) ArePlanned
      (few_at most_parts plan_place (get (codes "plan") claim)) _
      (few_lead most_parts plan_place (get (codes "plan") claim)) (λ entries few.
      leads_as (λ plan. All IsOwnPart plan × (length plan ≡ 0 + items_len entries)) ArePlanned
      (each (one_part listed) [] entries) (λ plan are. record { parts = are.0; few = omega (arith, few, are.1) })
      (leads_both (All IsOwnPart) (λ plan. length plan ≡ 0 + items_len entries) (each (one_part listed) [] entries)
      (leads_each (All IsOwnPart) (one_part listed) one_part_leads [] entries (All-nil IsOwnPart))
      (leads_count length (one_part listed) (one_part_counts listed) [] entries)))

-- ---- where the reading of a plan stops

module _ (listed : Listed) (trades : AreTrades listed) (few_own : (f : ℕ) → f < length listed.names.firms
    → length (sides_of listed.ends f) ≤ most_own_trades) where
  weight_stops : (place : List PlaceStep) → IsPlainPlace place → (value : Data)
      → StopsPlainly (plan_weight_at listed place value)
  unfolding plan_weight_at
  weight_stops place plain value =
      stops_bind IsPlain (whole_at place (Some value)) _ (whole_stops place plain (Some value)) (λ weight.
      let test = int_le (pos 1) weight && int_le weight (pos listed.limits.claimed_over) in
      stops_bind IsPlain (holds AmountRange place test) _ (plain_holds AmountRange place test refl plain) (λ within.
      stops_ok IsPlain weight))

  part_stops : (k : ℕ) (entry : Data) → k ≤ 16384 → StopsPlainly (part_of listed k entry)
  unfolding part_of
  part_stops k entry low =
      let in_is : (index : ℕ) → index ≤ 2 → IsPlainPlace (in_part k index) =
      λ index most. (tt, (tt, (low, (omega (arith, most), tt)))) in
      stops_bind IsPlain (three_at (part_at k) entry) _ (three_stops (part_at k) (tt, (tt, (low, tt))) entry) (λ three.
      stops_after IsPlain (λ f. f < length listed.names.firms) (firm_at listed.names.firms (in_part k 0) (Some three.0))
      _ (firm_at_leads listed.names.firms (in_part k 0) (Some three.0))
      (firm_at_stops (in_part k 0) (in_is 0 (omega arith)) listed.names.firms (Some three.0)) (λ f known.
      stops_bind IsPlain (bundle_at listed f (in_part k 1) (Some three.1)) _
      (bundle_stops listed trades f (few_own f known) (in_part k 1) (in_is 1 (omega arith)) (Some three.1)) (λ x.
      stops_bind IsPlain (plan_weight_at listed (in_part k 2) three.2) _
      (weight_stops (in_part k 2) (in_is 2 (omega arith)) three.2) (λ w.
      stops_ok IsPlain (record { firm = f; bundle = x; weight = w })))))

  one_part_stops : (parts : List Part) (entry : Data) → length parts + 1 ≤ most_parts
      → StopsPlainly (one_part listed parts entry)
  unfolding one_part
  one_part_stops parts entry room =
      stops_bind IsPlain (part_of listed (length parts) entry) _ (part_stops (length parts) entry (omega (arith, room)))
      (λ part.
      stops_ok IsPlain (parts ++ part ∷ []))

  pub plan_stops : (claim : Data) → StopsPlainly (claimed_plan listed claim)
  unfolding claimed_plan
  plan_stops claim =
      stops_after IsPlain (λ entries. items_len entries ≤ most_parts)
      (few_at most_parts plan_place (get (codes "plan") claim)) _
      (few_lead most_parts plan_place (get (codes "plan") claim))
      (few_stops plan_place (tt, (tt, tt)) most_parts (get (codes "plan") claim)) (λ entries few.
      stops_each_few IsPlain (λ parts. Unit {0}) length most_parts (one_part listed)
      (λ parts d start. leads_as (λ next. length next ≡ length parts + 1) _ (one_part listed parts d)
      (λ next more. (tt, more)) (one_part_counts listed parts d))
      (λ parts d start room. one_part_stops parts d room) [] entries tt (omega (arith, few)))
