-- An arrangement that is read has exactly the trades on that its references name, and exactly the prices that its
-- entries say.
use Rattle.std.proofs.Common.{◌≡◌, ◌≢◌, ℕ, zero, suc, ◌+◌, ◌<◌, ℤ, pos, Bool, true, false, cond, List, [], ◌∷◌, ◌++◌, length, slice_get, Option, Some, None, inl, inr, ◌⊎◌, refl, sym, ap, subst, ◌∙◌, arith, true≢false}
use Rattle.std.specs.Prelude.{◌↔◌, codes, not, option_and_then}
use Rattle.std.proofs.lemmas.Bool.{cases_eq}
use Rattle.std.proofs.lemmas.Option.{get_or_from_slice_get, none-some, same_Some, slice_get-get_or, slice_get_within}
use Rattle.serde_json.specs.Data.{Data, Items, no_items, item}
use Rattle.serde_json.specs.Find.{as_array, get, get_item}
use Rattle.tn_base.specs.Sets.{has, size, toggle}
use Rattle.tn_base.proofs.SetLemmas.{has-toggle_other, has-toggle_same, has-zero}
use Rattle.tn_said.specs.declared.fault.FaultKind.TheVariants.{Shape}
use Rattle.tn_model.specs.declared.contract.Contract.{Contract}
use Rattle.tn_said.specs.declared.place.PlaceStep.{PlaceStep}
use Rattle.tn_said.specs.declared.place.PlaceStep.TheVariants.{Index, Key}
use Rattle.tn_said.specs.declared.place.Word.TheVariants.{Arrangement}
use Rattle.tn_names.specs.Names.{number_of}
use Rattle.tn_read_shapes.specs.declared.members.ObjectKind.TheVariants.{Arrangement as ArrangementObject}
use Rattle.tn_read_shapes.specs.Reading.{each, wanted}
use Rattle.tn_read_shapes.specs.Shapes.{list_at, object_of}
use Rattle.tn_read_shapes.proofs.LeadLemmas.{Leads, leads_after, leads_as, leads_bind, leads_both, leads_ok, leads_wanted}
use Rattle.tn_read_references.specs.Ordered.{Listed}
use Rattle.tn_read_references.specs.References.{new_trade}
use Rattle.tn_read_references.proofs.EntryLeads.{AreNumbers}
use Rattle.tn_read_parts.specs.Arranged.{arrangement_of, on_of, on_place, prices_place}
use Rattle.tn_read_parts.specs.Laws.{ArrangementsHaveTheirEntries, SaysArrangement, IsNamedIn, IsSaid, IsNameOf}
use Rattle.tn_read_parts.specs.Lists.{first_without, named_prices, one_on, prices_of, unless_missing}
use Rattle.tn_read_parts.proofs.EntryLemmas.{IsNewTrade, IsPriced, named_said, new_trade_says, said_below}
use Rattle.tn_read_parts.proofs.ListLeads.{named_lead}

-- ---- the trades that are on

-- a reference names one trade alone
named_once : (trades : List (List ℕ)) (reference : Data) (s t : ℕ) → IsNameOf trades reference s
    → IsNameOf trades reference t → s ≡ t
named_once trades reference s t one other =
    let name : one.name ≡ other.name = same_Some one.name other.name (sym one.is ∙ other.is) in
    same_Some s t (sym one.known ∙ ap (number_of trades) name ∙ other.known)

abbrev OnBy : List (List ℕ) → ℕ → Items → ℕ → Type 0
OnBy trades on references end = (t : ℕ) → (has end t ≡ true) ↔ ((has on t ≡ true) ⊎ IsNamedIn trades references t)

none_named : (trades : List (List ℕ)) (t : ℕ) → IsNamedIn trades no_items t → ⊥
none_named trades t named = none-some named.reference named.there

named_cases : (trades : List (List ℕ)) (reference : Data) (references : Items) (t : ℕ)
    → IsNamedIn trades (item reference references) t → IsNameOf trades reference t ⊎ IsNamedIn trades references t
named_cases trades reference references t named = by_index named.at named.there
  where
    by_index : (at : ℕ) → get_item at (item reference references) ≡ Some named.reference → IsNameOf trades reference t
        ⊎ IsNamedIn trades references t
    by_index zero there =
        inl (subst (λ d. IsNameOf trades d t) (sym (same_Some reference named.reference there)) named.names)
    by_index (suc at) there = inr (record { at = at; reference = named.reference; there = there; names = named.names })

-- the set with the trade of one reference
one_named : (trades : List (List ℕ)) (on s t : ℕ) (reference : Data) → IsNameOf trades reference s → has on s ≡ false
    → (has (toggle on s) t ≡ true) ↔ ((has on t ≡ true) ⊎ IsNameOf trades reference t)
one_named trades on s t reference names new = (
  λ there. elim (cases_eq t s) [
    | inl same ↦ inr (subst (IsNameOf trades reference) (sym same) names)
    | inr other ↦ inl (sym (has-toggle_other on s t other) ∙ there)
  ],
  λ from. elim from [
    | inl before ↦ has-toggle_other on s t (λ same. true≢false (sym before ∙ ap (has on) same ∙ new)) ∙ before
    | inr named ↦ ap (has (toggle on s)) (named_once trades reference t s named names) ∙ has-toggle_same on s
        ∙ ap not new
  ],
)

on_by : (trades : List (List ℕ)) (place : List PlaceStep) (on : ℕ) (references : Items)
    → Leads (OnBy trades on references) (each (one_on trades place) on references)
unfolding each one_on
on_by trades place on no_items =
    leads_ok (OnBy trades on no_items) on (λ t. (
      λ there. inl there,
      λ from. elim from [ inl there ↦ there | inr named ↦ absurd (none_named trades t named) ],
    ))
on_by trades place on (item reference references) =
    leads_bind (λ next. (s : ℕ) × IsNewTrade trades on reference s
    × (next ≡ toggle on s)) (OnBy trades on (item reference references)) (one_on trades place on reference) _
    (leads_bind (IsNewTrade trades on reference) (λ next. (s : ℕ) × IsNewTrade trades on reference s
    × (next ≡ toggle on s)) (new_trade trades (place ++ Index (size on) ∷ []) on reference) _
    (new_trade_says trades (place ++ Index (size on) ∷ []) on reference) (λ s is.
    leads_ok (λ next. (s : ℕ) × IsNewTrade trades on reference s × (next ≡ toggle on s)) (toggle on s) (s, is, refl)))
    (λ next more.
    leads_as (OnBy trades next references) (OnBy trades on (item reference references))
    (each (one_on trades place) next references) (λ end later t.
    let step = one_named trades on more.0 t reference more.1.names more.1.new in (
      λ there. elim ((later t).0 there) [
        | inl now ↦ elim (step.0 (ap (λ n. has n t) (sym more.2) ∙ now)) [
          | inl before ↦ inl before
          | inr named ↦ inr (record { at = 0; reference = reference; there = refl; names = named })
        ]
        | inr named ↦
            inr (record { at = suc named.at; reference = named.reference; there = named.there; names = named.names })
      ],
      λ from. (later t).1 (elim from [
        | inl before ↦ inl (ap (λ n. has n t) more.2 ∙ step.1 (inl before))
        | inr named ↦ elim (named_cases trades reference references t named) [
          | inl first ↦ inl (ap (λ n. has n t) more.2 ∙ step.1 (inr first))
          | inr after ↦ inr after
        ]
      ]),
    )) (on_by trades place next references))

-- ---- the prices

-- where no number is without, each has one
all_there : (named t n : ℕ) → first_without named t n ≡ None → (s : ℕ) → t < s + 1 → s < t + n → has named s ≡ true
all_there named t zero e s from below = absurd (omega (arith, from, below))
all_there named t (suc n) e s from below =
    by_test (has named t) refl e (λ none other. all_there named (t + 1) n none s (omega (arith, from, other))
    (omega (arith, below)))
  where
    by_test : (b : Bool) → has named t ≡ b → cond b (first_without named (t + 1) n) (Some t) ≡ None
        → (first_without named (t + 1) n ≡ None → s ≢ t → has named s ≡ true) → has named s ≡ true
    by_test true is none rest = elim (cases_eq s t) [
      | inl same ↦ ap (has named) same ∙ is
      | inr other ↦
          rest none other
    ]
    by_test false is none rest = absurd (none-some t (sym none))

missing_leads : (place : List PlaceStep) (found : Option ℕ) → Leads (λ _. found ≡ None) (unless_missing place found)
missing_leads place None = record { at = λ x e. refl }
missing_leads place (Some t) = record { at = λ x e. absurd (cc) }

abbrev ArePricesSaid : List (List ℕ) → Items → List ℤ → Type 0
ArePricesSaid trades entries prices = (t : ℕ) (price : ℤ) → (slice_get prices t ≡ Some price)
    ↔ IsSaid trades entries (record { trade = t; price = price })

prices_said : (trades : List (List ℕ)) (place : List PlaceStep) (limit : ℕ) (entries : Items)
    → Leads (ArePricesSaid trades entries) (prices_of trades place limit entries)
unfolding prices_of
prices_said trades place limit entries =
    leads_bind (λ end. AreNumbers (length trades) limit end.numbers
    × ((contract : Contract) → IsPriced end contract ↔ IsSaid trades entries contract))
    (ArePricesSaid trades entries) (named_prices trades place limit entries) _
    (leads_both (λ end. AreNumbers (length trades) limit end.numbers) (λ end. (contract : Contract)
    → IsPriced end contract ↔ IsSaid trades entries contract) (named_prices trades place limit entries)
    (named_lead trades place limit entries) (named_said trades place limit entries)) (λ end both.
    leads_bind (λ _. first_without end.named 0 (length trades) ≡ None) (ArePricesSaid trades entries)
    (unless_missing place (first_without end.named 0 (length trades))) _
    (missing_leads place (first_without end.named 0 (length trades))) (λ u complete.
    leads_ok (ArePricesSaid trades entries) end.numbers (λ t price.
    let contract : Contract = record { trade = t; price = price } in
    let count = both.0.count in (
      λ there.
          let below = slice_get_within end.numbers t price there in
          (both.1 contract).0 (record {
            there =
                all_there end.named 0 (length trades) complete t (omega arith) (omega (arith, below, count));
            price =
                get_or_from_slice_get end.numbers t price (pos 0) there;
          }),
      λ said.
          let is = (both.1 contract).1 said in
          let below = said_below trades said.entry contract said.says in
          slice_get-get_or end.numbers t (pos 0) (omega (arith, below, count)) ∙ ap Some is.price,
    ))))

-- ---- the arrangement

record IsOnOf (trades : List (List ℕ)) (top : Data) (part : Data × ℕ) : Type 0 where
  part_is : get (codes "arrangement") top ≡ Some part.0
  references : Items
  references_are : option_and_then as_array (get (codes "on") part.0) ≡ Some references
  on : (t : ℕ) → (has part.1 t ≡ true) ↔ IsNamedIn trades references t

on_from_start : (trades : List (List ℕ)) (references : Items) (end : ℕ) → OnBy trades 0 references end → (t : ℕ)
    → (has end t ≡ true) ↔ IsNamedIn trades references t
on_from_start trades references end by t = (
  λ there. elim ((by t).0 there) [ inl before ↦ absurd (true≢false (sym before ∙ has-zero t)) | inr named ↦ named ],
  λ named. (by t).1 (inr named),
)

on_says : (trades : List (List ℕ)) (top : Data) → Leads (IsOnOf trades top) (on_of trades top)
unfolding on_of
on_says trades top =
    leads_bind (λ part. get (codes "arrangement") top ≡ Some part) (IsOnOf trades top)
    (wanted Shape (Key Arrangement ∷ []) (get (codes "arrangement") top)) _
    (leads_wanted Shape (Key Arrangement ∷ []) (get (codes "arrangement") top)) (λ part part_is.
    leads_after (IsOnOf trades top) (object_of ArrangementObject (Key Arrangement ∷ []) (Some part)) _ (λ object.
    leads_bind (λ references. option_and_then as_array (get (codes "on") part) ≡ Some references) (IsOnOf trades top)
    (list_at on_place (get (codes "on") part)) _ (leads_wanted Shape on_place
    (option_and_then as_array (get (codes "on") part))) (λ references references_are.
    leads_bind (OnBy trades 0 references) (IsOnOf trades top) (each (one_on trades on_place) 0 references) _
    (on_by trades on_place 0 references) (λ on by.
    leads_ok (IsOnOf trades top) (part, on) (record {
      part_is = part_is;
      references = references;
      references_are =
          references_are;
      on = on_from_start trades references on by;
    })))))

arrangement_says : (listed : Listed) (top : Data)
    → Leads (SaysArrangement listed.names.trades top) (arrangement_of listed top)
unfolding arrangement_of
arrangement_says listed top =
    let trades = listed.names.trades in
    let limit = listed.limits.price in
    leads_bind (IsOnOf trades top) (SaysArrangement trades top) (on_of trades top) _ (on_says trades top) (λ part is.
    leads_bind (λ entries. option_and_then as_array (get (codes "prices") part.0) ≡ Some entries)
    (SaysArrangement trades top) (list_at prices_place (get (codes "prices") part.0)) _
    (leads_wanted Shape prices_place (option_and_then as_array (get (codes "prices") part.0)))
    (λ entries entries_are.
    leads_bind (ArePricesSaid trades entries) (SaysArrangement trades top) (prices_of trades prices_place limit entries)
    _ (prices_said trades prices_place limit entries) (λ prices are.
    leads_ok (SaysArrangement trades top) (record { on = part.1; prices = prices }) (record {
      part = part.0;
      part_is = is.part_is;
      references = is.references;
      references_are = is.references_are;
      on = is.on;
      entries = entries;
      entries_are = entries_are;
      prices = are;
    }))))

pub arrangements_have_their_entries : ArrangementsHaveTheirEntries
arrangements_have_their_entries listed top arranged e = (arrangement_says listed top).at arranged e
