-- Where a search for a chain stands.
use Rattle.std.specs.Prelude.{◌≡◌, ℕ, ◌+◌, ◌*◌, ◌-◌, ◌<◌, ◌≤◌, ℤ, pos, ◌*ℤ◌, List, length, map, slice_get, false, Some}
use Rattle.tn_base.specs.Arcs.{IsAtMost}
use Rattle.tn_base.specs.Sets.{size}
use Rattle.tn_base.specs.Firm.{Firm}
use Rattle.tn_base.specs.Walks.{arcs_among, is_admitted, KeepsArcs}
use Rattle.tn_base.specs.Widths.{most_cost}
use Rattle.tn_model.specs.declared.ends.Ends.{Ends}
use Rattle.tn_model.specs.declared.contract.Contract.{Contract}
use Rattle.tn_model.specs.Prices.{price_at}
use Rattle.tn_model.specs.Limits.{most_number}
use Rattle.tn_market.specs.Best.{IsSubset}
use Rattle.tn_model.specs.Choices.{Blocks}
use Rattle.tn_market.specs.Chains.{IsChain}
use Rattle.tn_market.specs.Signed.{is_signed}
use Rattle.tn_market.specs.Reduced.{reduced_arc}
use Rattle.tn_market.specs.Traded.{Traded}
use Rattle.tn_flow.specs.Solved.{Solution}
use Rattle.tn_residual.specs.Residual.{number_from, residual_limit, residual_of, residual_trades, unsigned, unsigned_part}
use Rattle.tn_blocking_laws.specs.Taxed.{IsTaxedEquilibrium}
use Rattle.tn_chain.specs.Limits.{most_residual_trades}

-- how many times the unsigned trades and one more: the scale at which the taxes on a chain are less than a whole number
abbrev pub chain_scale : ℕ → List Contract → ℤ
chain_scale n contracts = pos (2 * size (unsigned n contracts) + 1)

-- a market is the residual market of an outcome at that scale with a tax of 1, and its worths are small enough to solve
-- it
pub record IsResidual {P : Type 0} (firm_of : P → Firm) (limit_of : P
    → ℕ) (firms : List Firm) (trades : List Ends) (over : ℤ) (contracts : List Contract) (residual : Traded P) : Type
    0 where
  pub parties : map firm_of residual.firms ≡ residual_of firms trades over contracts
      (chain_scale (length trades) contracts) (pos 1)
  pub ends : residual.trades ≡ residual_trades (length firms) trades contracts
  pub limits : (f : ℕ) (party : P) → slice_get residual.firms f ≡ Some party
      → limit_of party ≤ residual_limit (length trades) over (chain_scale (length trades) contracts)
  pub few : length residual.trades ≤ most_residual_trades
  pub small : 2 * residual_limit (length trades) over (chain_scale (length trades) contracts)
      * (length residual.trades + 1) < most_cost

-- the prices that a solution has for the unsigned trades
abbrev pub price_for : List Contract → List ℤ → ℕ → ℤ
price_for contracts prices t = price_at prices (number_from contracts 0 t)

-- a solution of the residual market is a taxed equilibrium of the allowed trades, at small prices
pub record IsSolvedAmong (firms : List Firm) (trades : List Ends) (over : ℤ) (contracts : List Contract) (allowed : ℕ)
    (solution : Solution) : Type 0 where
  pub taxed : IsTaxedEquilibrium firms trades over contracts (chain_scale (length trades) contracts) allowed
      (unsigned_part contracts (length trades) solution.on) (price_for contracts solution.prices)
  pub sized : length solution.prices ≡ length (residual_trades (length firms) trades contracts)
  pub small : (t : ℕ) → IsAtMost (price_at solution.prices t) (most_number - 1)

-- no numbers keep the reduced graph on a set of unsigned trades: it has a negative cycle
pub record HasCycle (firms : List Firm) (trades : List Ends) (over : ℤ) (contracts : List Contract) (left : ℕ) : Type
    0 where
  pub inside : IsSubset left (unsigned (length trades) contracts)
  pub broken : (label : ℕ → ℤ)
      → KeepsArcs (arcs_among (is_admitted (length trades) left) (reduced_arc firms trades over contracts)) label → ⊥

-- contracts on unsigned trades, over the product of the denominator and the scale, that are a chain in the listed order
-- and block the outcome
pub record IsBlockingChain (firms : List Firm) (trades : List Ends) (over : ℤ) (contracts offers : List Contract) : Type
    0 where
  pub unsigned : (k : ℕ) (offer : Contract) → slice_get offers k ≡ Some offer → is_signed contracts offer.trade ≡ false
  pub small : (k : ℕ) (offer : Contract) → slice_get offers k ≡ Some offer → IsAtMost offer.price (most_number - 1)
  pub chain : IsChain trades offers
  pub blocks : Blocks firms trades over contracts (over *ℤ chain_scale (length trades) contracts) offers
