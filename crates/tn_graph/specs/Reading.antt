-- How a graph becomes the exchange graph: cost by cost, and firm by firm.
use Rattle.std.specs.Prelude.{◌≡◌, ◌≢◌, ℕ, ◌+◌, ◌*◌, ◌<◌, ◌≤◌, ℤ, ◌⊎◌, List, [], ◌∷◌, length, slice_get, Bool, true, false, not, ◌==◌, ◌&&◌, ◌||◌, nat_lt, if◌then◌else◌, Option, Some, None}
use Rattle.tn_base.specs.Sets.{has, set_of, size}
use Rattle.tn_base.specs.Firm.{Firm}
use Rattle.tn_base.specs.Walks.{is_admitted}
use Rattle.tn_base.specs.Widths.{most_cost}
use Rattle.tn_firm_laws.specs.Places.{trade_level, level, CanRise, CanFall}
use Rattle.tn_model.specs.declared.ends.Ends.{Ends}
use Rattle.tn_model.specs.Network.{part, IsNetwork}
use Rattle.tn_market.specs.Graph.{exchange_arc}
use Rattle.tn_market.specs.ArcPlaces.{node_at, AreArcPlaces, arc_firm}
use Rattle.tn_market.specs.Valued.{IsWorthAtMost}
use Rattle.tn_graph.specs.Blocks.{CostBlocks, arcs_of}
use Rattle.tn_graph.specs.Layout.{IsLaidOut}

-- the graph has this many nodes and no arc
pub record IsWithoutArcs (count : ℕ) (graph : CostBlocks) : Type 0 where
  pub nodes : graph.nodes ≡ count
  pub none : (u v : ℕ) → arcs_of graph u v ≡ None

-- one cost is written, and every other stays
pub record IsCostWritten (before : CostBlocks) (a b : ℕ) (cost : Option ℤ) (after : CostBlocks) : Type 0 where
  pub nodes : after.nodes ≡ before.nodes
  pub places : after.places ≡ before.places
  pub here : arcs_of after a b ≡ cost
  pub elsewhere : (u v : ℕ) → (u ≡ a → v ≡ b → ⊥) → arcs_of after u v ≡ arcs_of before u v

-- the graph is the exchange graph of a network at a set of trades, laid out for these
pub record IsExchangeGraph (firms : List Firm) (trades : List Ends) (on : ℕ) (graph : CostBlocks) : Type 0 where
  pub nodes : graph.nodes ≡ length trades + 1
  pub laid_out : IsLaidOut trades (has on) graph.places
  pub arcs : (u v : ℕ) → arcs_of graph u v ≡ exchange_arc firms trades on u v

-- the same among some trades and null alone; the costs of other arcs may be any, but for those that can't be there
pub record IsExchangeAmong (firms : List Firm) (trades : List Ends) (on admitted : ℕ) (graph : CostBlocks) : Type
    0 where
  pub nodes : graph.nodes ≡ length trades + 1
  pub laid_out : IsLaidOut trades (has on) graph.places
  pub arcs : (u v : ℕ) → is_admitted (length trades) admitted u ≡ true → is_admitted (length trades) admitted v ≡ true
      → arcs_of graph u v ≡ exchange_arc firms trades on u v
  pub none : (u v : ℕ) → arc_firm trades on u v ≡ None → arcs_of graph u v ≡ None

-- each cost is as it was or as it is to be
pub record Improves (arc : ℕ → ℕ → Option ℤ) (before after : CostBlocks) : Type 0 where
  pub nodes : after.nodes ≡ before.nodes
  pub places : after.places ≡ before.places
  pub each : (u v : ℕ) → (arcs_of after u v ≡ arc u v) ⊎ (arcs_of after u v ≡ arcs_of before u v)

-- firm f with n own trades has the bundle x of the set, with this worth
pub record IsStand (firms : List Firm) (trades : List Ends) (on f n : ℕ) (firm : Firm) (limit x : ℕ) (worth : ℤ) : Type
    0 where
  pub network : IsNetwork firms trades
  pub is : slice_get firms f ≡ Some firm
  pub counted : n ≡ firm.count
  pub few : n ≤ 64
  pub bundle_is : x ≡ part trades f n on
  pub worth_is : firm.worth x ≡ Some worth
  pub within : IsWorthAtMost limit firm
  pub small : 2 * limit ≤ most_cost

-- whether a position has level 1, or has not
abbrev pub has_level : ℕ → ℕ → Bool → ℕ → Bool
has_level buys x high k = if high then trade_level buys x k == 1 else not (trade_level buys x k == 1)

-- those of some positions below n that can be lowered, or that can be raised
abbrev pub partners : ℕ → ℕ → ℕ → Bool → ℕ → ℕ
partners buys x asked high n = set_of (λ k. has asked k && has_level buys x high k) n

-- of two places of a firm the one that is raised, and the one that is lowered: k where it rises, or the other one
abbrev pub raised_place : Bool → ℕ → ℕ → ℕ
raised_place rises k other = if rises then k else other

abbrev pub lowered_place : Bool → ℕ → ℕ → ℕ
lowered_place rises k other = if rises then other else k

-- a place can be raised, or lowered
abbrev pub CanMove : Bool → ℕ → (ℕ → ℕ) → ℕ → Type 0
CanMove true n level_of k = CanRise n level_of k
CanMove false n level_of k = CanFall n level_of k

-- the cost of the arc from place i of a firm to its place j is right
abbrev pub HasArc : List Firm → List Ends → ℕ → ℕ → ℕ → ℕ → ℕ → CostBlocks → Type 0
HasArc firms trades on f n i j graph = arcs_of graph (node_at trades f n i) (node_at trades f n j)
    ≡ exchange_arc firms trades on (node_at trades f n i) (node_at trades f n j)

-- the arcs between place k of a firm and those of some positions that are before j are read, and each other cost is as
-- it was or right
pub record IsLineRead (firms : List Firm) (trades : List Ends) (on f n : ℕ) (rises : Bool) (k others : ℕ)
    (before : CostBlocks) (j : ℕ) (graph : CostBlocks) : Type 0 where
  pub improved : Improves (exchange_arc firms trades on) before graph
  pub line : (other : ℕ) → other < j → has others other ≡ true
      → HasArc firms trades on f n (raised_place rises k other) (lowered_place rises k other) graph

-- position k of a firm is admitted, and can be raised, or lowered
pub record IsAskedPosition (trades : List Ends) (f : ℕ) (firm : Firm) (on admitted : ℕ) (rises : Bool) (k : ℕ) : Type 0
  where
    pub own : k < firm.count
    pub joined : has (part trades f firm.count admitted) k ≡ true
    pub moves : CanMove rises firm.count (level firm.count firm.buys (part trades f firm.count on)) k

-- whether a place of a firm is asked for: null always is
abbrev pub is_asked : ℕ → ℕ → ℕ → Bool
is_asked n asked k = if nat_lt k n then has asked k else true

-- the costs of the arcs from place k of a firm, or of those to it, are right where the other place is asked for
abbrev pub HasLine : List Firm → List Ends → ℕ → ℕ → ℕ → Firm → ℕ → ℕ → Bool → ℕ → CostBlocks → Type 0
HasLine firms trades on f n firm x asked rises k graph = (other : ℕ) → is_asked n asked other ≡ true
    → AreArcPlaces firm x (raised_place rises k other) (lowered_place rises k other)
    → HasArc firms trades on f n (raised_place rises k other) (lowered_place rises k other) graph

-- the costs of the arcs of a firm are right where both places are asked for
abbrev pub HasArcsAmong : List Firm → List Ends → ℕ → ℕ → ℕ → Firm → ℕ → ℕ → CostBlocks → Type 0
HasArcsAmong firms trades on f n firm x asked graph = (i j : ℕ) → is_asked n asked i ≡ true → is_asked n asked j ≡ true
    → AreArcPlaces firm x i j → HasArc firms trades on f n i j graph

-- the costs of the arcs of firm f are right between nodes that count
abbrev pub HasArcsOf : List Firm → List Ends → ℕ → (ℕ → Bool) → ℕ → CostBlocks → Type 0
HasArcsOf firms trades on counts f graph = (u v : ℕ) → counts u ≡ true → counts v ≡ true
    → arc_firm trades on u v ≡ Some f → arcs_of graph u v ≡ exchange_arc firms trades on u v

-- whether trade t is in one of two sets alone
abbrev pub is_toggled : ℕ → ℕ → ℕ → ℕ → Bool
is_toggled count before on t = nat_lt t count && (if has before t then not (has on t) else has on t)

-- the arcs from and to some nodes are taken away, and every other stays
pub record AreForgotten (cut : ℕ → Bool) (before after : CostBlocks) : Type 0 where
  pub nodes : after.nodes ≡ before.nodes
  pub gone : (u v : ℕ) → (cut u || cut v) ≡ true → arcs_of after u v ≡ None
  pub kept : (u v : ℕ) → (cut u || cut v) ≡ false → arcs_of after u v ≡ arcs_of before u v

-- the arc from a node to another one, or the one back
abbrev pub arc_beside : CostBlocks → Bool → ℕ → ℕ → Option ℤ
arc_beside graph from t u = if from then arcs_of graph t u else arcs_of graph u t

-- the arcs from node t, or those to it, are taken away, and every other stays
pub record IsCut (from : Bool) (t : ℕ) (before after : CostBlocks) : Type 0 where
  pub nodes : after.nodes ≡ before.nodes
  pub places : after.places ≡ before.places
  pub gone : (u : ℕ) → arc_beside after from t u ≡ None
  pub kept : (u v : ℕ) → (if from then u else v) ≢ t → arcs_of after u v ≡ arcs_of before u v

-- the costs of the arcs of some firms are right between nodes that count, and there is no arc where there can be none
pub record IsRightFor (firms : List Firm) (trades : List Ends) (on : ℕ) (counts : ℕ → Bool) (done : ℕ
    → Type 0) (graph : CostBlocks) : Type 0 where
  pub nodes : graph.nodes ≡ length trades + 1
  pub laid_out : IsLaidOut trades (has on) graph.places
  pub right : (u v f : ℕ) → counts u ≡ true → counts v ≡ true → arc_firm trades on u v ≡ Some f → done f
      → arcs_of graph u v ≡ exchange_arc firms trades on u v
  pub none : (u v : ℕ) → arc_firm trades on u v ≡ None → arcs_of graph u v ≡ None

-- firm f has the same bundle of two sets
abbrev pub IsUnchanged : List Firm → List Ends → ℕ → ℕ → ℕ → Type 0
IsUnchanged firms trades before on f = (firm : Firm) → slice_get firms f ≡ Some firm
    → part trades f firm.count before ≡ part trades f firm.count on

-- how many of a firm's own trades are admitted
abbrev pub admitted_count : List Ends → ℕ → ℕ → Firm → ℕ
admitted_count trades admitted f firm = size (part trades f firm.count admitted)

-- how many worths are asked for to read the arcs among so many positions and null at most, and those of one of them
abbrev pub block_worths : ℕ → ℕ
block_worths count = count * count + 1

abbrev pub line_worths : ℕ → ℕ
line_worths count = count + 1

-- how many worths the arcs among the admitted trades and null are made of, of the firms from number f on whose bundles
-- of the two sets differ
abbrev pub changed_worths_from : List Ends → ℕ → ℕ → ℕ → ℕ → List Firm → ℕ
changed_worths_from trades before on admitted f [] = 0
changed_worths_from trades before on admitted f (firm ∷ firms) =
    (if part trades f firm.count before == part trades f firm.count on then 0
    else block_worths (admitted_count trades admitted f firm))
    + changed_worths_from trades before on admitted (f + 1) firms

abbrev pub changed_worths : List Firm → List Ends → ℕ → ℕ → ℕ → ℕ
changed_worths firms trades before on admitted = changed_worths_from trades before on admitted 0 firms
