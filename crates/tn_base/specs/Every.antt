-- Firms to which every bundle of their trades is possible.
use Rattle.std.specs.Prelude.{ℕ, ◌^◌, ◌<◌, IsSome}
use Rattle.tn_base.specs.Firm.{Firm}

-- every bundle of own positions is possible
abbrev pub HasEveryBundle : Firm → Type 0
HasEveryBundle firm = (x : ℕ) → x < 2 ^ firm.count → IsSome (firm.worth x)
