-- Where a session stands.
use Rattle.std.specs.Prelude.{◌≡◌, ℕ, ◌+◌, ◌*◌, ◌<◌, ◌≤◌, ℤ, pos, neg_ℤ, ◌-ℤ◌, ◌≤ℤ◌, List, length, map, slice_get, true, false, Some}
use Rattle.std.specs.List.{range_with_len}
use Rattle.tn_base.specs.Sets.{has, toggle}
use Rattle.tn_base.specs.Firm.{Firm}
use Rattle.tn_base.specs.Widths.{most_cost}
use Rattle.tn_market.specs.Limits.{AreWorthsWithin}
use Rattle.tn_market.specs.Traded.{Traded}
use Rattle.tn_model.specs.declared.ends.Ends.{Ends}
use Rattle.tn_model.specs.Network.{IsNetwork}
use Rattle.tn_graph.specs.Blocks.{CostBlocks}
use Rattle.tn_cycle.specs.Reading.{Reading}
use Rattle.tn_cycle.specs.Answers.{label_in}
use Rattle.tn_flow.specs.Underway.{AreUnderWay}
use Rattle.tn_flow.specs.Solved.{Solution, IsSolution, AreSmallPrices}
use Rattle.tn_session.specs.Widths.{most_path}

-- a market, the trades that are admitted, and those of them that are on, with a price for each trade
pub record Standing (V : Type 0) : Type 0 where
  pub market : Traded V
  pub admitted : ℕ
  pub solution : Solution

-- the number of each of the first nodes less that of the node after them
abbrev pub differences : ℕ → List ℤ → List ℤ
differences count numbers = map (λ t. label_in numbers t -ℤ label_in numbers count) (range_with_len 0 count)

-- what is seen of a session
abbrev pub standing_of : {V : Type 0} → Traded V → ℕ → ℕ → List ℤ → Standing V
standing_of market admitted on numbers = record {
  market = market;
  admitted = admitted;
  solution = record { on = on; prices = differences (length market.trades) numbers };
}

-- the trades that are on and the prices are an equilibrium of the market that the admitted trades make
abbrev pub HoldsEquilibrium : {V : Type 0} → (V → Firm) → Standing V → Type 0
HoldsEquilibrium firm_of standing =
    IsSolution (map firm_of standing.market.firms) standing.market.trades standing.admitted standing.solution

-- no price is above twice a bound of all worths for each trade
abbrev pub HasSmallPrices : {V : Type 0} → (V → Firm) → Standing V → Type 0
HasSmallPrices firm_of standing = (bound : ℕ) → AreWorthsWithin bound (map firm_of standing.market.firms)
    → AreSmallPrices (2 * bound * length standing.market.trades) standing.solution.prices

-- twice the bound of each firm's worths, for each trade and once more, is no more than a path may cost
abbrev pub AreFirmsSmall : {V : Type 0} → (V → ℕ) → Traded V → Type 0
AreFirmsSmall {V} limit_of market = (f : ℕ) (v : V) → slice_get market.firms f ≡ Some v
    → 2 * limit_of v * (length market.trades + 1) ≤ most_path

-- labels that are no more than 0, and no further below it than a path may cost
pub record AreSettled {V : Type 0} (firm_of : V → Firm) (market : Traded V) (numbers : List ℤ) : Type 0 where
  pub high : (v : ℕ) → v < length market.trades + 1 → label_in numbers v ≤ℤ pos 0
  pub low : (bound v : ℕ) → AreWorthsWithin bound (map firm_of market.firms) → v < length market.trades + 1
      → neg_ℤ (pos (2 * bound * length market.trades)) ≤ℤ label_in numbers v

-- what a session keeps: rounds that are under way, with such labels
pub record IsSession {V : Type 0} (firm_of : V → Firm) (limit_of : V
    → ℕ) (width : ℕ) (market : Traded V) (graph : CostBlocks) (finder : Reading) (allowed on : ℕ) : Type 0 where
  pub network : IsNetwork (map firm_of market.firms) market.trades
  pub wide : length market.trades ≤ 64 * width
  pub small : AreFirmsSmall limit_of market
  -- so no arc costs more than a graph may hold
  pub fits_graph : (f : ℕ) (v : V) → slice_get market.firms f ≡ Some v → 2 * limit_of v ≤ most_cost
  pub under_way : AreUnderWay (map firm_of market.firms) market.trades graph finder allowed on
  pub settled : AreSettled firm_of market finder.labels

-- rounds that are under way with a trade that is on, beside the admitted ones
pub record IsLeaving (firms : List Firm) (trades : List Ends) (graph : CostBlocks) (finder : Reading)
    (allowed on t : ℕ) : Type 0 where
  pub under_way : AreUnderWay firms trades graph finder (toggle allowed t) on
  pub trade : t < length trades
  pub out : has allowed t ≡ false
  pub member : has on t ≡ true
