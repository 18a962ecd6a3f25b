-- The answer of `drill`: the greatest surplus of a network that is drawn from two numbers.
use Rattle.std.specs.Prelude.{◌≡◌, ℕ, ℤ, Some}
use Rattle.tn_drill.specs.Drill.{drawn_ends, firms_of}
use Rattle.tn_said.specs.declared.said.Said.{Said}
use Rattle.tn_said.specs.declared.said.Said.TheVariants.{Drill}
use Rattle.tn_market.specs.Equilibrium.{IsEfficient, surplus_of}

-- the drill network has so many firms, and the surplus of a set of its trades that no set exceeds
pub record IsDrilled (size start firms : ℕ) (surplus : ℤ) : Type 0 where
  pub firms_are : firms ≡ 16
  pub set : ℕ
  pub surplus_is : surplus_of (firms_of start size) (drawn_ends start size) set ≡ Some surplus
  pub efficient : IsEfficient (firms_of start size) (drawn_ends start size) set

abbrev pub TellsDrill : ℕ → ℕ → Said → Type 0
TellsDrill size start (Drill its_size its_start firms surplus) = (its_size ≡ size) × (its_start ≡ start)
    × IsDrilled size start firms surplus
TellsDrill size start said = ⊥
