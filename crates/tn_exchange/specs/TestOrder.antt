-- The order in which triples are tested, and the first one that fails.
use Rattle.std.specs.Prelude.{◌≡◌, ℕ, ◌<◌, ◌⊎◌, Option, Some, None}
use Rattle.tn_base.specs.Firm.{Firm}
use Rattle.tn_base.specs.Exchange.{Fails}

-- two bundles and a position, or none
pub record Triple : Type 0 where
  pub x : ℕ
  pub y : ℕ
  pub at : Option ℕ

-- positions ascend, and none comes last
abbrev pub IsTestedBefore : Option ℕ → Option ℕ → Type 0
IsTestedBefore (Some i) (Some j) = i < j
IsTestedBefore (Some i) None = Unit {0}
IsTestedBefore None at = ⊥

-- x descends, then y ascends, then the positions ascend
abbrev pub IsEarlier : Triple → Triple → Type 0
IsEarlier s t = (t.x < s.x) ⊎ ((s.x ≡ t.x) × ((s.y < t.y) ⊎ ((s.y ≡ t.y) × IsTestedBefore s.at t.at)))

abbrev pub TripleFails : Firm → Triple → Type 0
TripleFails firm t = Fails firm t.x t.y t.at

-- the triple fails, and no earlier triple does
pub record IsFirstFailure (firm : Firm) (t : Triple) : Type 0 where
  pub fails : TripleFails firm t
  pub first : (s : Triple) → IsEarlier s t → TripleFails firm s → ⊥
