-- Matchings: sets of listed pairs that match the purchases of a bundle one to one with its sales.
use Rattle.std.specs.Prelude.{◌≡◌, ℕ, suc, ◌⊎◌, Bool, true, ℤ, pos, neg_ℤ, ◌+ℤ◌, ◌≤ℤ◌, if◌then◌else◌, List, [], ◌∷◌, slice_get, Option, Some, None}
use Rattle.tn_base.specs.Sets.{has}
use Rattle.tn_dealer.specs.declared.pair.Pair.{Pair}

-- the pair joins this trade to another
abbrev pub Joins : Pair → ℕ → Type 0
Joins pair t = (pair.buy ≡ t) ⊎ (pair.sell ≡ t)

-- the chosen pair at a place of the list joins this trade
pub record Matches (pairs : List Pair) (chosen : ℕ → Bool) (k t : ℕ) : Type 0 where
  pub pair : Pair
  pub is_chosen : chosen k ≡ true
  pub pair_is : slice_get pairs k ≡ Some pair
  pub joins : Joins pair t

-- the chosen places of the list are pairs of trades of x, and each trade of x is in just one of them
pub record IsMatching (pairs : List Pair) (x : ℕ) (chosen : ℕ → Bool) : Type 0 where
  pub within : (k t : ℕ) → Matches pairs chosen k t → has x t ≡ true
  pub covered : (t : ℕ) → has x t ≡ true → (k : ℕ) × Matches pairs chosen k t
  pub once : (j k t : ℕ) → Matches pairs chosen j t → Matches pairs chosen k t → j ≡ k

-- the sum of the costs of the chosen pairs
unfoldable pub matching_cost : List Pair → (ℕ → Bool) → ℤ
matching_cost [] chosen = pos 0
matching_cost (pair ∷ pairs) chosen =
    (if chosen 0 then pair.cost else pos 0) +ℤ matching_cost pairs (λ k. chosen (suc k))

-- a matching of x, of which none costs less
pub record IsLeastMatching (pairs : List Pair) (x : ℕ) (chosen : ℕ → Bool) : Type 0 where
  pub matching : IsMatching pairs x chosen
  pub least : (other : ℕ → Bool) → IsMatching pairs x other → matching_cost pairs chosen ≤ℤ matching_cost pairs other

-- a bundle's worth is minus the cost of a least matching, none where it has no matching
abbrev pub IsWorthOfLeast : List Pair → ℕ → Option ℤ → Type 0
IsWorthOfLeast pairs x (Some a) = (chosen : ℕ → Bool) × IsLeastMatching pairs x chosen
    × (a ≡ neg_ℤ (matching_cost pairs chosen))
IsWorthOfLeast pairs x None = (chosen : ℕ → Bool) → IsMatching pairs x chosen → ⊥
