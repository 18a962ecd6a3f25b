-- Laws of flows.
use Rattle.std.specs.Prelude.{◌≡◌, ℕ, ℤ, pos, ◌-ℤ◌, ◌≤ℤ◌, ◌<ℤ◌, List}
use Rattle.tn_base.specs.Walks.{IsCycle, KeepsArcs}
use Rattle.tn_links.specs.declared.link.Link.{Link}
use Rattle.tn_links.specs.Flows.{IsKeptFlow, total_gain}
use Rattle.tn_links.specs.Links.{ArePlain}
use Rattle.tn_links.specs.Lots.{link_arc, pushed}

-- no kept flow gains more
abbrev pub IsGreatest : List Link → List ℕ → Type 0
IsGreatest links levels = (others : List ℕ) → IsKeptFlow links others → total_gain links others ≤ℤ total_gain links levels

-- where labels keep the graph of a kept flow with lots of one unit, no kept flow gains more
abbrev pub LabelsAreGreatest : Type 0
LabelsAreGreatest = (nodes : ℕ) (links : List Link) (levels : List ℕ) (label : ℕ → ℤ) → ArePlain nodes links
    → IsKeptFlow links levels → KeepsArcs (link_arc links levels 1) label → IsGreatest links levels

-- a lot round a cycle of negative cost leaves a kept flow, which gains more by what the cycle costs
pub record GainsWhatItCosts (links : List Link) (levels after : List ℕ) (cost : ℤ) : Type 0 where
  pub kept : IsKeptFlow links after
  pub gained : total_gain links after ≡ total_gain links levels -ℤ cost

abbrev pub CyclesGainWhatTheyCost : Type 0
CyclesGainWhatTheyCost = (nodes : ℕ) (links : List Link) (levels : List ℕ) (lot first : ℕ) (rest : List ℕ) (cost : ℤ)
    → ArePlain nodes links → IsKeptFlow links levels → cost <ℤ pos 0
    → IsCycle (link_arc links levels lot) first rest cost
    → GainsWhatItCosts links levels (pushed links lot levels first rest first) cost
