-- The arcs of the exchange graph, firm by firm: an arc is a move of its firm at two places, where a place is a position
-- or null.
use Rattle.std.specs.Prelude.{◌≢◌, ℕ, ◌≤◌, ltb, nat_le, ◌==◌, ◌&&◌, if◌then◌else◌, List, length, Option, Some, None}
use Rattle.tn_base.specs.Firm.{Firm}
use Rattle.tn_firm_laws.specs.Places.{level, CanRise, CanFall}
use Rattle.tn_model.specs.declared.ends.Ends.{Ends}
use Rattle.tn_model.specs.Network.{own}
use Rattle.tn_market.specs.Graph.{raised_by, lowered_by}

-- the node of a place of firm f with n own trades: the trade at the position, and the null node for null
abbrev pub node_at : List Ends → ℕ → ℕ → ℕ → ℕ
node_at trades f n i = if ltb i n then own trades f i else length trades

-- two places that a bundle can be moved at: the first can be raised, and the second is another one and can be lowered
pub record AreArcPlaces (firm : Firm) (x i j : ℕ) : Type 0 where
  pub from_within : i ≤ firm.count
  pub to_within : j ≤ firm.count
  pub apart : i ≢ j
  pub rises : CanRise firm.count (level firm.count firm.buys x) i
  pub falls : CanFall firm.count (level firm.count firm.buys x) j

-- the firm of what is raised and what is lowered, none where these are two firms
abbrev pub common_firm : Option (ℕ × ℕ) → Option (ℕ × ℕ) → Option ℕ
common_firm (Some up) (Some down) = if up.0 == down.0 then Some up.0 else None
common_firm (Some up) None = Some up.0
common_firm None (Some down) = Some down.0
common_firm None None = None

-- the firm whose move the arc from node u to node v is, none where there can be no arc
abbrev pub arc_firm : List Ends → ℕ → ℕ → ℕ → Option ℕ
arc_firm trades on u v = if nat_le u (length trades) && nat_le v (length trades)
    then common_firm (raised_by trades on u) (lowered_by trades on v) else None
