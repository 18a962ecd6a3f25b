-- Lists of names: what is found in them, and what stays when a name goes last.
use Rattle.std.proofs.Common.{◌≡◌, ℕ, zero, suc, ◌<◌, Bool, true, false, ◌||◌, cond, nat_lt, List, [], ◌∷◌, ◌++◌, map, length, slice_get, get_or, position, Some, None, bytes_eq, inl, inr, ◌⊎◌, refl, sym, ap, subst, ◌∙◌, true≢false, arith, length-append}
use Rattle.std.specs.declared.alloc.Global.{Global}
use Rattle.std.specs.Prelude.{String, string_bytes, if◌then◌else◌}
use Rattle.std.specs.String.{string_eq}
use Rattle.indexmap.specs.IndexSet.{insert_key}
use Rattle.std.specs.List.{list_any, position_or_len}
use Rattle.std.proofs.lemmas.List.{length-map, map-append}
use Rattle.std.proofs.lemmas.List.Quantifiers.{position-Some}
use Rattle.std.proofs.lemmas.Map.Keys.{any_passes_from_place}
use Rattle.std.proofs.lemmas.Option.{none-some, same_Some, slice_get-get_or}
use Rattle.std.proofs.lemmas.Slice.Eq.{bytes_eq-Decides}
use Rattle.tn_names.specs.Names.{IsNameList, is_name, has_name, number_of, most_names}

module _ {A B : Type 0} (f : A → B) (p : B → Bool) where
  pub list_any-map : (xs : List A) → list_any p (map f xs) ≡ list_any (λ x. p (f x)) xs
  list_any-map [] = refl
  list_any-map (x ∷ xs) = ap (λ b. p (f x) || b) (list_any-map xs)

  pub position_or_len-map : (xs : List A) → position_or_len p (map f xs) ≡ position_or_len (λ x. p (f x)) xs
  position_or_len-map [] = refl
  position_or_len-map (x ∷ xs) = grind (arith, position_or_len-map xs)

  pub position-map : (xs : List A) → position p (map f xs) ≡ position (λ x. p (f x)) xs
  position-map xs =
      λ j. cond (nat_lt (position_or_len-map xs j) (length-map xs f j)) (Some (position_or_len-map xs j)) None

-- what a set of texts says of a name, as the list of the texts' bytes says it
pub has_name-keys : (keys : List (String Global)) (name : List ℕ)
    → list_any (λ key. bytes_eq name (string_bytes key)) keys ≡ has_name (map string_bytes keys) name
has_name-keys keys name = sym (list_any-map string_bytes (bytes_eq name) keys)

pub number_of-keys : (keys : List (String Global)) (name : List ℕ)
    → position (λ key. bytes_eq name (string_bytes key)) keys ≡ number_of (map string_bytes keys) name
number_of-keys keys name = sym (position-map string_bytes (bytes_eq name) keys)

-- the bytes of a set's texts once a text with a new name is inserted
pub map-insert_name : (keys : List (String Global)) (owned : String Global) (name : List ℕ) → string_bytes owned ≡ name
    → has_name (map string_bytes keys) name ≡ false
    → map string_bytes (insert_key string_eq keys owned) ≡ map string_bytes keys ++ name ∷ []
map-insert_name keys owned name same new =
    let absent : list_any (string_eq owned) keys ≡ false =
    has_name-keys keys (string_bytes owned) ∙ ap (has_name (map string_bytes keys)) same ∙ new in
    ap (λ b. map string_bytes (if b then keys else keys ++ owned ∷ [])) absent
    ∙ map-append string_bytes keys (owned ∷ []) ∙ ap (λ n. map string_bytes keys ++ n ∷ []) same

-- a name that is found is the one that was looked for
pub name_at_number : (names : List (List ℕ)) (name : List ℕ) (k : ℕ) → number_of names name ≡ Some k
    → slice_get names k ≡ Some name
name_at_number names name k e =
    let p = position-Some (bytes_eq name) names k [] e in
    slice_get-get_or names k [] p.0 ∙ ap Some (sym ((bytes_eq-Decides name (get_or names k [])).0 p.1))

-- a place of the name shows that it is there
pub has_name_at : (names : List (List ℕ)) (name : List ℕ) (k : ℕ) → slice_get names k ≡ Some name
    → has_name names name ≡ true
has_name_at names name k e = any_passes_from_place (bytes_eq name) names k name e ((bytes_eq-Decides name name).1 refl)

-- what stands in a list once an item is last
pub push_cases : {A : Type 0} (xs : List A) (last x : A) (k : ℕ) → slice_get (xs ++ last ∷ []) k ≡ Some x
    → (slice_get xs k ≡ Some x) ⊎ ((k ≡ length xs) × (last ≡ x))
push_cases [] last x zero e = inr (refl, same_Some _ _ e)
push_cases [] last x (suc k) e = absurd (none-some _ e)
push_cases (y ∷ ys) last x zero e = inl e
push_cases (y ∷ ys) last x (suc k) e = elim (push_cases ys last x k e) [
  | inl h ↦ inl h
  | inr h ↦
      inr (omega (arith, h.0), h.1)
]

module _ (names : List (List ℕ)) (name : List ℕ) (kept : IsNameList names) (new : has_name names name ≡ false) where
  absent : (k : ℕ) (x : List ℕ) → slice_get names k ≡ Some x → name ≡ x → ⊥
  absent k x e same = true≢false (sym (has_name_at names name k (e ∙ ap Some (sym same))) ∙ new)

  once_more : (j k : ℕ) (x : List ℕ) → slice_get (names ++ name ∷ []) j ≡ Some x
      → slice_get (names ++ name ∷ []) k ≡ Some x → j ≡ k
  once_more j k x at_j at_k =
      elim (push_cases names name x j at_j) [
        | inl g ↦ elim (push_cases names name x k at_k) [
          | inl h ↦ kept.once j k x g h
          | inr h ↦
              absurd (absent j x g h.1)
        ]
        | inr g ↦ elim (push_cases names name x k at_k) [ inl h ↦ absurd (absent k x h g.1) | inr h ↦ g.0 ∙ sym h.0 ]
      ]

  -- the list with a new name last
  pub IsNameList-push : is_name name ≡ true → length names < most_names → IsNameList (names ++ name ∷ [])
  IsNameList-push rule room = record {
    few = omega (arith, length-append names (name ∷ []));
    named = λ k x e. elim (push_cases names name x k e) [
      | inl h ↦ kept.named k x h
      | inr h ↦
          subst (λ (n : List ℕ). is_name n ≡ true) h.1 rule
    ];
    once = once_more;
  }
