-- The plan of a claim: parts, each of them a firm, a bundle of that firm, and a weight.
use Rattle.std.specs.Prelude.{ℕ, ◌++◌, [], ◌∷◌, ◌&&◌, ℤ, pos, int_le, List, length, codes, Some, Result, Ok}
use Rattle.serde_json.specs.Data.{Data}
use Rattle.serde_json.specs.Find.{get}
use Rattle.tn_said.specs.declared.fault.FaultKind.TheVariants.{AmountRange}
use Rattle.tn_model.specs.Limits.{most_parts}
use Rattle.tn_said.specs.declared.part.Part.{Part}
use Rattle.tn_said.specs.declared.place.PlaceStep.{PlaceStep}
use Rattle.tn_said.specs.declared.place.PlaceStep.TheVariants.{Index, Key}
use Rattle.tn_said.specs.declared.place.Word.TheVariants.{Claim, Plan}
use Rattle.tn_said.specs.declared.said.Fault.{Fault}
use Rattle.tn_read_shapes.specs.Reading.{◌>>=◌, each, holds}
use Rattle.tn_read_shapes.specs.Shapes.{few_at, three_at, whole_at}
use Rattle.tn_read_references.specs.Ordered.{Listed}
use Rattle.tn_read_references.specs.References.{bundle_at, firm_at}

abbrev pub plan_place : List PlaceStep
plan_place = Key Claim ∷ Key Plan ∷ []

-- the part with an index, and what stands in it at an index
abbrev pub part_at : ℕ → List PlaceStep
part_at k = Key Claim ∷ Key Plan ∷ Index k ∷ []

abbrev pub in_part : ℕ → ℕ → List PlaceStep
in_part k index = Key Claim ∷ Key Plan ∷ Index k ∷ Index index ∷ []

-- a weight: a whole number from 1 to the largest denominator of a claim
unfoldable pub plan_weight_at : Listed → List PlaceStep → Data → Result ℤ Fault
plan_weight_at listed place value = do
  weight ← whole_at place (Some value)
  within ← holds AmountRange place (int_le (pos 1) weight && int_le weight (pos listed.limits.claimed_over))
  Ok weight

-- a firm, a bundle of that firm, and a weight
unfoldable pub part_of : Listed → ℕ → Data → Result Part Fault
part_of listed k entry = do
  three ← three_at (part_at k) entry
  firm ← firm_at listed.names.firms (in_part k 0) (Some three.0)
  bundle ← bundle_at listed firm (in_part k 1) (Some three.1)
  weight ← plan_weight_at listed (in_part k 2) three.2
  Ok (record { firm = firm; bundle = bundle; weight = weight })

-- one more part; its index is the count of those before it, which may have its bundle too
unfoldable pub one_part : Listed → List Part → Data → Result (List Part) Fault
one_part listed parts entry = do
  part ← part_of listed (length parts) entry
  Ok (parts ++ part ∷ [])

-- the claim's plan, its parts in their order
unfoldable pub claimed_plan : Listed → Data → Result (List Part) Fault
claimed_plan listed claim = do
  entries ← few_at most_parts plan_place (get (codes "plan") claim)
  each (one_part listed) [] entries
