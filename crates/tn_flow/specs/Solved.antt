-- What a solver answers.
use Rattle.std.specs.Prelude.{◌≡◌, ℕ, ◌+◌, ◌≤◌, ℤ, pos, List, length, All}
use Rattle.tn_base.specs.Arcs.{IsAtMost}
use Rattle.tn_base.specs.Firm.{Firm}
use Rattle.tn_base.specs.Widths.{most_limbs}
use Rattle.tn_model.specs.declared.ends.Ends.{Ends}
use Rattle.tn_model.specs.Prices.{price_at}
use Rattle.tn_market.specs.Best.{IsSubset}
use Rattle.tn_market.specs.Equilibrium.{IsEquilibrium}
use Rattle.tn_market.specs.Admitted.{admitted}

-- a set of trades with a price for each trade
pub record Solution : Type 0 where
  pub on : ℕ
  pub prices : List ℤ

-- nothing is on, and each of so many prices is 0
pub record IsUnsolved (count : ℕ) (solution : Solution) : Type 0 where
  pub none_on : solution.on ≡ 0
  pub one_each : length solution.prices ≡ count
  pub free : (t : ℕ) → price_at solution.prices t ≡ pos 0

-- the width is one of sets, and a graph and a finder have a node for each price and null
pub record IsReady (width graph_nodes finder_nodes : ℕ) (prices : List ℤ) : Type 0 where
  pub narrow : width ≤ most_limbs
  pub graph_sized : graph_nodes ≡ length prices + 1
  pub finder_sized : finder_nodes ≡ length prices + 1

-- trades among the admitted ones, and prices of all trades, that are an equilibrium of the market that they admit
pub record IsSolution (firms : List Firm) (trades : List Ends) (allowed : ℕ) (solution : Solution) : Type 0 where
  pub inside : IsSubset solution.on allowed
  pub one_each : length solution.prices ≡ length trades
  pub equilibrium : IsEquilibrium (admitted trades allowed firms) trades (pos 1) solution.on (price_at solution.prices)

-- no price is above so much in size
abbrev pub AreSmallPrices : ℕ → List ℤ → Type 0
AreSmallPrices limit prices = All (λ price. IsAtMost price limit) prices
