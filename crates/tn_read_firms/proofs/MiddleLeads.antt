-- What the middlemen are that reading gives.
use Rattle.std.proofs.Common.{ℕ, ◌≤◌, List, [], ◌∷◌, ◌++◌, length, Option, Some, None, Ok, refl, subst}
use Rattle.std.specs.Prelude.{ℤ, codes}
use Rattle.std.specs.Option.{ForSome}
use Rattle.std.proofs.lemmas.Option.{none-some, same_Some}
use Rattle.serde_json.specs.Data.{Data, null, boolean, number, string, array, object}
use Rattle.serde_json.specs.Find.{get}
use Rattle.tn_base.specs.Arcs.{IsAtMost}
use Rattle.tn_middle.specs.Pairs.{middle_firm}
use Rattle.tn_model.specs.declared.limits.Limits.{Limits}
use Rattle.tn_said.specs.declared.place.PlaceStep.{PlaceStep}
use Rattle.tn_said.specs.declared.place.PlaceStep.TheVariants.{Key}
use Rattle.tn_said.specs.declared.place.Word.TheVariants.{Keep}
use Rattle.tn_read_shapes.specs.Reading.{◌>>=◌}
use Rattle.tn_read_shapes.specs.Shapes.{number_at}
use Rattle.tn_read_references.specs.Ordered.{Listed, sides_of}
use Rattle.tn_read_references.specs.References.{firm_place}
use Rattle.tn_read_firms.specs.OwnNumbers.{no_numbers, own_numbers}
use Rattle.tn_read_firms.specs.Middlemen.{costs_list, gains_list, keep_at, middle_of}
use Rattle.tn_read_firms.specs.Laws.{IsMiddlemanFirm}
use Rattle.tn_read_references.proofs.EntryLeads.{AreNumbers, zeros}
use Rattle.tn_read_firms.proofs.OwnLemmas.{own_numbers_lead}
use Rattle.tn_read_shapes.proofs.ShapeLeads.{number_leads}
use Rattle.tn_read_shapes.proofs.LeadLemmas.{Leads, leads_ok, leads_bind}

module _ (limits : Limits) where
  abbrev pub IsSmallKeep : Option ℤ → Type 0
  IsSmallKeep keep = ForSome keep (λ a. IsAtMost a limits.amount)

  given_leads : (place : List PlaceStep) (value : Data)
      → Leads IsSmallKeep (number_at limits.amount place value >>= λ z. Ok (Some z))
  given_leads place value =
      leads_bind (λ z. IsAtMost z limits.amount) IsSmallKeep (number_at limits.amount place value) _
      (number_leads limits.amount place (Some value))
      (λ z small. leads_ok IsSmallKeep (Some z) (λ x e. subst (λ a. IsAtMost a limits.amount) (same_Some z x e) small))

  pub keep_leads : (place : List PlaceStep) (value : Option Data) → Leads IsSmallKeep (keep_at limits place value)
  keep_leads place None = leads_ok IsSmallKeep None (λ x e. absurd (none-some x e))
  keep_leads place (Some null) = leads_ok IsSmallKeep None (λ x e. absurd (none-some x e))
  keep_leads place (Some (boolean b)) = given_leads place (boolean b)
  keep_leads place (Some (number n)) = given_leads place (number n)
  keep_leads place (Some (string s)) = given_leads place (string s)
  keep_leads place (Some (array ds)) = given_leads place (array ds)
  keep_leads place (Some (object ms)) = given_leads place (object ms)

pub middle_leads : (listed : Listed) (f : ℕ) (firm : Data) → length (sides_of listed.ends f) ≤ listed.limits.own
    → Leads (IsMiddlemanFirm listed.limits listed.ends f) (middle_of listed f firm)
unfolding middle_of
middle_leads listed f firm few =
    let is_firm = IsMiddlemanFirm listed.limits listed.ends f in
    leads_bind (AreNumbers (length (sides_of listed.ends f)) listed.limits.amount) is_firm
    (own_numbers listed (costs_list f) (no_numbers listed.ends f) (get (codes "costs") firm)) _
    (own_numbers_lead listed (costs_list f) (length (sides_of listed.ends f)) (no_numbers listed.ends f)
    (get (codes "costs") firm) (zeros (length (sides_of listed.ends f)) listed.limits.amount)) (λ costs are_costs.
    leads_bind (AreNumbers (length (sides_of listed.ends f)) listed.limits.amount) is_firm
    (own_numbers listed (gains_list f) costs (get (codes "gains") firm)) _
    (own_numbers_lead listed (gains_list f) (length (sides_of listed.ends f)) costs (get (codes "gains") firm)
    are_costs) (λ numbers are.
    leads_bind (IsSmallKeep listed.limits) is_firm
    (keep_at listed.limits (firm_place f ++ Key Keep ∷ []) (get (codes "keep") firm)) _
    (keep_leads listed.limits (firm_place f ++ Key Keep ∷ []) (get (codes "keep") firm)) (λ keep small.
    leads_ok is_firm (middle_firm (sides_of listed.ends f) numbers keep) (record {
      numbers = numbers;
      keep = keep;
      is = refl;
      few = few;
      as_many = are.count;
      small = are.small;
      small_keep = small;
    }))))
