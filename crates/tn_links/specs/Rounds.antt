-- Cycles that a lot is sent round.
use Rattle.std.specs.Prelude.{◌≡◌, ℕ, ◌<◌, ℤ, pos, ◌<ℤ◌, List, ◌∷◌, All, Option}
use Rattle.tn_base.specs.Walks.{IsCycle}

-- the listed nodes are a cycle of negative cost
pub record GoesRound (nodes : ℕ) (arc : ℕ → ℕ → Option ℤ) (listed : List ℕ) : Type 0 where
  pub first : ℕ
  pub rest : List ℕ
  pub cost : ℤ
  pub nodes_are : listed ≡ first ∷ rest
  pub inside : All (λ v. v < nodes) listed
  pub negative : cost <ℤ pos 0
  pub cycle : IsCycle arc first rest cost
