-- The keys of a map against the members of the object that it stands for, and lists that are not of two, or not of
-- three.
use Rattle.std.proofs.Common.{◌≡◌, suc, ◌<◌, ◌≤◌, List, [], ◌∷◌, ◌&&◌, length, None, refl, ap, map, arith}
use Rattle.std.specs.Prelude.{String, string_bytes}
use Rattle.std.specs.declared.alloc.Global.{Global}
use Rattle.std.specs.List.{list_all}
use Rattle.serde_json.specs.Events.{items_len}
use Rattle.serde_json.specs.View.{items_view, members_view}
use Rattle.serde_json.specs.declared.value.Value.{Value}
use Rattle.tn_read_shapes.specs.declared.members.ObjectKind.{ObjectKind}
use Rattle.tn_read_shapes.specs.Members.{allows, allows_all}
use Rattle.tn_read_shapes.specs.Shapes.{three_of, two_of}

pub all_keys : (kind : ObjectKind) (entries : List (String Global × Value))
    → list_all (λ k. allows kind (string_bytes k)) (map (λ m. m.0) entries) ≡ allows_all kind (members_view entries)
all_keys kind [] = refl
all_keys kind (m ∷ ms) = ap (λ b. allows kind (string_bytes m.0) && b) (all_keys kind ms)

pub two_of-shorter : (vs : List Value) → length vs < 2 → two_of (items_view vs) ≡ None
two_of-shorter [] h = refl
two_of-shorter (v ∷ []) h = refl
two_of-shorter (v ∷ w ∷ vs) h = absurd (omega (arith, h))

pub two_of-longer : (vs : List Value) → 3 ≤ length vs → two_of (items_view vs) ≡ None
two_of-longer [] h = absurd (omega (arith, h))
two_of-longer (v ∷ []) h = absurd (omega (arith, h))
two_of-longer (v ∷ w ∷ []) h = absurd (omega (arith, h))
two_of-longer (v ∷ w ∷ u ∷ vs) h = refl

pub three_of-shorter : (vs : List Value) → length vs < 3 → three_of (items_view vs) ≡ None
three_of-shorter [] h = refl
three_of-shorter (v ∷ []) h = refl
three_of-shorter (v ∷ w ∷ []) h = refl
three_of-shorter (v ∷ w ∷ u ∷ vs) h = absurd (omega (arith, h))

pub three_of-longer : (vs : List Value) → 4 ≤ length vs → three_of (items_view vs) ≡ None
three_of-longer [] h = absurd (omega (arith, h))
three_of-longer (v ∷ []) h = absurd (omega (arith, h))
three_of-longer (v ∷ w ∷ []) h = absurd (omega (arith, h))
three_of-longer (v ∷ w ∷ u ∷ []) h = absurd (omega (arith, h))
three_of-longer (v ∷ w ∷ u ∷ t ∷ vs) h = refl

pub items_len_is : (vs : List Value) → items_len (items_view vs) ≡ length vs
items_len_is [] = refl
items_len_is (v ∷ vs) = ap suc (items_len_is vs)
