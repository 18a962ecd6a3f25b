-- What the judgement of an arrangement says.
use Rattle.std.specs.Prelude.{◌≡◌, ℕ, ℤ, List, Some}
use Rattle.tn_base.specs.Firm.{Firm}
use Rattle.tn_model.specs.declared.ends.Ends.{Ends}
use Rattle.tn_market.specs.Equilibrium.{IsEquilibrium, surplus_of}
use Rattle.tn_market.specs.Judged.{IsFirstImpossible, IsFirstBettered}
use Rattle.tn_price.specs.declared.check.Check.{Check}
use Rattle.tn_price.specs.declared.check.Check.TheVariants.{Equilibrium, Impossible, Better}

abbrev pub Checks : List Firm → List Ends → ℤ → ℕ → (ℕ → ℤ) → Check → Type 0
Checks firms trades scale on prices (Equilibrium surplus) = IsEquilibrium firms trades scale on prices
    × (surplus_of firms trades on ≡ Some surplus)
Checks firms trades scale on prices (Impossible f) = IsFirstImpossible firms trades scale on prices f
Checks firms trades scale on prices (Better f x gain) = IsFirstBettered firms trades scale on prices f x gain
