-- What may be said of a drill.
use Rattle.std.specs.Prelude.{◌≡◌, ℕ, ◌⊎◌}
use Rattle.tn_commands.specs.Drill.{TellsDrill}
use Rattle.tn_said.specs.declared.said.Said.{Said}
use Rattle.tn_said.specs.declared.said.Said.TheVariants.{NoMemory}

-- the greatest surplus of the network, or that memory ran out
abbrev pub MayBeDrilled : ℕ → ℕ → Said → Type 0
MayBeDrilled size start said = (said ≡ NoMemory) ⊎ TellsDrill size start said
