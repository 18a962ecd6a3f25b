-- Equilibrium and surplus of a network. Prices are by trade number.
use Rattle.std.specs.Prelude.{◌≡◌, ℕ, ◌+◌, ℤ, pos, ◌+ℤ◌, List, [], ◌∷◌, slice_get, Option, Some, option_and_then, option_map}
use Rattle.tn_base.specs.Firm.{Firm, utility, IsBest}
use Rattle.tn_model.specs.declared.ends.Ends.{Ends}
use Rattle.tn_model.specs.Network.{own, part}

-- the prices at the positions of firm f
abbrev pub prices_at : List Ends → (ℕ → ℤ) → ℕ → ℕ → ℤ
prices_at trades prices f k = prices (own trades f k)

-- the utility of each bundle of firm f at a scale and at prices
abbrev pub utility_at : List Ends → ℤ → (ℕ → ℤ) → ℕ → Firm → ℕ → Option ℤ
utility_at trades scale prices f firm = utility scale (prices_at trades prices f) firm

-- firm f has a best bundle
abbrev pub HasBest : List Ends → ℤ → ℕ → (ℕ → ℤ) → ℕ → Firm → Type 0
HasBest trades scale on prices f firm = (value : ℤ)
    × IsBest (utility_at trades scale prices f firm) (part trades f firm.count on) value

-- each firm has a best bundle
abbrev pub IsEquilibrium : List Firm → List Ends → ℤ → ℕ → (ℕ → ℤ) → Type 0
IsEquilibrium firms trades scale on prices = (f : ℕ) (firm : Firm) → slice_get firms f ≡ Some firm
    → HasBest trades scale on prices f firm

-- the sum of the worths of the firms from number f on, none where one of them is none
abbrev pub surplus_from : List Ends → ℕ → ℕ → List Firm → Option ℤ
surplus_from trades on f [] = Some (pos 0)
surplus_from trades on f (firm ∷ firms) =
    option_and_then (λ worth. option_map (λ rest. worth +ℤ rest) (surplus_from trades on (f + 1) firms))
    (firm.worth (part trades f firm.count on))

abbrev pub surplus_of : List Firm → List Ends → ℕ → Option ℤ
surplus_of firms trades on = surplus_from trades on 0 firms

-- the set has a surplus, and no set of trades has more
abbrev pub IsEfficient : List Firm → List Ends → ℕ → Type 0
IsEfficient firms trades on = (surplus : ℤ) × IsBest (surplus_of firms trades) on surplus
