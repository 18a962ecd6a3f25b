-- The count of a counter that has no bytes: the depth of its value.
use Rattle.std.specs.Prelude.{ℕ, ◌+◌}
use Rattle.tn_base.specs.declared.steps.Count.{Count}
use Rattle.tn_base.specs.declared.steps.Count.TheVariants.{Zero, Next'}

abbrev pub ticks : Count → ℕ
ticks Zero = 0
ticks (Next' mark before) = ticks before + 1
