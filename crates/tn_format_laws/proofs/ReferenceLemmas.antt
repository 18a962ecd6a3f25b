-- References and entries read within two records of limits.
use Rattle.std.proofs.Common.{ℕ, List}
use Rattle.std.specs.Prelude.{◌++◌, [], ◌∷◌, Option, None, Some}
use Rattle.serde_json.specs.Data.{Data}
use Rattle.tn_base.specs.Sets.{size}
use Rattle.tn_base.specs.declared.side.Side.{Side}
use Rattle.tn_model.specs.declared.ends.Ends.{Ends}
use Rattle.tn_model.specs.declared.limits.Limits.{Limits}
use Rattle.tn_names.specs.Names.{NameLists}
use Rattle.tn_said.specs.declared.place.PlaceStep.{PlaceStep}
use Rattle.tn_said.specs.declared.place.PlaceStep.TheVariants.{Index}
use Rattle.tn_read_references.specs.Entries.{Numbered, Refers, entry_of, one_entry}
use Rattle.tn_read_references.specs.Ordered.{Listed}
use Rattle.tn_read_references.specs.References.{bundle_at, new_own, own_position, own_reference}
use Rattle.tn_read_shapes.specs.Shapes.{list_at, two_at}
use Rattle.tn_format_laws.proofs.MeetLemmas.{Agree, after, all, next, number_agrees, same}

-- an entry, of references that agree
pub entry_agrees : (refer other : Refers) (m n : ℕ)
    → ((place : List PlaceStep) (named : ℕ) (d : Data) → Agree (refer place named d) (other place named d))
    → (place : List PlaceStep) (named : ℕ) (entry : Data)
    → Agree (entry_of refer place m named entry) (entry_of other place n named entry)
unfolding entry_of
entry_agrees refer other m n agree place named entry =
    after (two_at (place ++ Index (size named) ∷ []) entry) _ _ (λ two.
    next _ _ _ _ (agree (place ++ Index (size named) ∷ Index 0 ∷ []) named two.0) (λ k.
    next _ _ _ _ (number_agrees m n (place ++ Index (size named) ∷ Index 1 ∷ []) (Some two.1)) (λ number. same _)))

pub one_entry_agrees : (refer other : Refers) (m n : ℕ)
    → ((place : List PlaceStep) (named : ℕ) (d : Data) → Agree (refer place named d) (other place named d))
    → (place : List PlaceStep) (numbered : Numbered) (entry : Data)
    → Agree (one_entry refer place m numbered entry) (one_entry other place n numbered entry)
unfolding one_entry
one_entry_agrees refer other m n agree place numbered entry =
    next _ _ _ _ (entry_agrees refer other m n agree place numbered.named entry) (λ found. same _)

-- of the same names and ends nothing of a reference asks for a limit
module _ (names : NameLists) (ends : List Ends) (a b : Limits) where
  abbrev pub here : Listed
  here = record { limits = a; names = names; ends = ends }

  abbrev pub there : Listed
  there = record { limits = b; names = names; ends = ends }

  pub position_agrees : (f : ℕ) (side : Option Side) (place : List PlaceStep) (d : Data)
      → Agree (own_position here f side place d) (own_position there f side place d)
  unfolding own_position
  position_agrees f side place d = same _

  pub own_agrees : (f : ℕ) (side : Option Side) (place : List PlaceStep) (bundle : ℕ) (d : Data)
      → Agree (new_own here f side place bundle d) (new_own there f side place bundle d)
  unfolding new_own
  own_agrees f side place bundle d =
      next _ _ _ _ (position_agrees f side place d) (λ k. same _)

  reference_agrees : (f : ℕ) (place : List PlaceStep) (bundle : ℕ) (d : Data)
      → Agree (own_reference here f place bundle d) (own_reference there f place bundle d)
  unfolding own_reference
  reference_agrees f place bundle d =
      next _ _ _ _ (own_agrees f None (place ++ Index (size bundle) ∷ []) bundle d) (λ k. same _)

  pub bundle_agrees : (f : ℕ) (place : List PlaceStep) (value : Option Data)
      → Agree (bundle_at here f place value) (bundle_at there f place value)
  unfolding bundle_at
  bundle_agrees f place value =
      after (list_at place value) _ _ (λ references.
      all (own_reference here f place) (own_reference there f place) (reference_agrees f place) 0 references)
