-- The answer of `check`: the verdict on an arrangement, which is a set of trades with prices for all trades.
use Rattle.std.specs.Prelude.{◌≡◌, ℕ, ℤ, List, Some}
use Rattle.tn_base.specs.Firm.{Firm}
use Rattle.tn_model.specs.declared.ends.Ends.{Ends}
use Rattle.tn_model.specs.Network.{trades_of}
use Rattle.tn_said.specs.declared.said.Said.{Said}
use Rattle.tn_said.specs.declared.said.Said.TheVariants.{Equilibrium, Better, Impossible}
use Rattle.tn_market.specs.Equilibrium.{IsEquilibrium, surplus_of}
use Rattle.tn_market.specs.Judged.{IsFirstImpossible, IsFirstBettered}

-- an equilibrium with its surplus, or the first firm that has no best bundle; no answer of another kind
abbrev pub ChecksArrangement : List Firm → List Ends → ℤ → ℕ → (ℕ → ℤ) → Said → Type 0
ChecksArrangement firms trades scale on prices (Equilibrium surplus) = IsEquilibrium firms trades scale on prices
    × (surplus_of firms trades on ≡ Some surplus)
ChecksArrangement firms trades scale on prices (Better f bundle gain) = (x : ℕ)
    × (at : IsFirstBettered firms trades scale on prices f x gain) × (bundle ≡ trades_of trades f at.firm.count x)
ChecksArrangement firms trades scale on prices (Impossible f) = IsFirstImpossible firms trades scale on prices f
ChecksArrangement firms trades scale on prices said = ⊥
