-- The numbers that entries give.
use Rattle.std.proofs.Common.{◌≡◌, ℕ, ◌≤◌, List, [], ◌∷◌, ◌++◌, length, get_or, Option, Some, ◌∙◌, arith}
use Rattle.std.specs.Prelude.{ℤ, pos, replicate, slice_set, All}
use Rattle.std.proofs.lemmas.Int.{ints}
use Rattle.std.proofs.lemmas.List.{length-replicate, length-set}
use Rattle.std.proofs.lemmas.List.Elements.{All-set, All-replicate}
use Rattle.serde_json.specs.Data.{Data, Items}
use Rattle.tn_base.specs.Arcs.{IsAtMost}
use Rattle.tn_base.specs.Sets.{toggle, size}
use Rattle.tn_said.specs.declared.place.PlaceStep.{PlaceStep}
use Rattle.tn_said.specs.declared.place.PlaceStep.TheVariants.{Index}
use Rattle.tn_read_shapes.specs.Reading.{each}
use Rattle.tn_read_shapes.specs.Shapes.{two_at, number_at, number_in}
use Rattle.tn_read_references.specs.Entries.{Numbered, Refers, entry_of, one_entry}
use Rattle.tn_read_shapes.proofs.ShapeLeads.{number_leads}
use Rattle.tn_read_shapes.proofs.LeadLemmas.{Leads, leads_ok, leads_bind, leads_after, leads_each, leads_as}

-- so many numbers within a limit
pub record AreNumbers (n limit : ℕ) (numbers : List ℤ) : Type 0 where
  pub count : length numbers ≡ n
  pub small : All (λ z. IsAtMost z limit) numbers

pub zeros : (count limit : ℕ) → AreNumbers count limit (replicate count (pos 0))
zeros count limit = record {
  count = length-replicate count (pos 0);
  small =
      All-replicate (λ z. IsAtMost z limit) count (pos 0) (search (arith, ints));
}

-- what is within a limit is within a larger one
pub within_more : (z : ℤ) (limit most : ℕ) → limit ≤ most → IsAtMost z limit → IsAtMost z most
within_more z limit most more small = let low = small.low in let high = small.high in
    record { low = omega (arith, ints, low, more); high = omega (arith, ints, high, more) }

pub all_within : (limit most : ℕ) (numbers : List ℤ) → limit ≤ most → All (λ z. IsAtMost z limit) numbers
    → All (λ z. IsAtMost z most) numbers
all_within limit most numbers more small =
    λ k d below. within_more (get_or numbers k d) limit most more (small k d below)

pub number_within : (limit most : ℕ) → limit ≤ most → (place : List PlaceStep) (value : Option Data)
    → Leads (λ z. IsAtMost z most) (number_in limit place value)
number_within limit most more place value =
    leads_as (λ z. IsAtMost z limit) (λ z. IsAtMost z most) (number_in limit place value)
    (λ z small. within_more z limit most more small) (number_leads limit place value)

module _ (refer : Refers) (place : List PlaceStep) (count limit : ℕ) where
  entry_leads : (named : ℕ) (entry : Data) → Leads (λ p. IsAtMost p.1 limit) (entry_of refer place limit named entry)
  unfolding entry_of
  entry_leads named entry =
      leads_after (λ p. IsAtMost p.1 limit) (two_at (place ++ Index (size named) ∷ []) entry) _ (λ two.
      leads_after (λ p. IsAtMost p.1 limit) (refer (place ++ Index (size named) ∷ Index 0 ∷ []) named two.0) _ (λ k.
      leads_bind (λ z. IsAtMost z limit) (λ p. IsAtMost p.1 limit)
      (number_at limit (place ++ Index (size named) ∷ Index 1 ∷ []) two.1) _
      (number_leads limit (place ++ Index (size named) ∷ Index 1 ∷ []) (Some two.1)) (λ z small.
      leads_ok (λ p. IsAtMost p.1 limit) (k, z) small)))

  one_entry_leads : (numbered : Numbered) (entry : Data) → AreNumbers count limit numbered.numbers
      → Leads (λ next. AreNumbers count limit next.numbers) (one_entry refer place limit numbered entry)
  unfolding one_entry
  one_entry_leads numbered entry are =
      leads_bind (λ p. IsAtMost p.1 limit) (λ next. AreNumbers count limit next.numbers)
      (entry_of refer place limit numbered.named entry) _ (entry_leads numbered.named entry) (λ next small.
      leads_ok (λ next. AreNumbers count limit next.numbers) (record {
        named = toggle numbered.named next.0;
        numbers =
            slice_set numbered.numbers next.0 next.1;
      }) (record {
        count = length-set numbered.numbers next.0 next.1 ∙ are.count;
        small = All-set (λ z. IsAtMost z limit) numbered.numbers next.0 next.1 small are.small;
      }))

  pub entries_lead : (numbered : Numbered) (entries : Items) → AreNumbers count limit numbered.numbers
      → Leads (λ end. AreNumbers count limit end.numbers) (each (one_entry refer place limit) numbered entries)
  entries_lead numbered entries are =
      leads_each (λ end. AreNumbers count limit end.numbers) (one_entry refer place limit) one_entry_leads numbered
      entries are
