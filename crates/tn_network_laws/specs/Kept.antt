-- What a solver keeps from round to round, while it admits one trade after another.
use Rattle.std.specs.Prelude.{ℕ, List, length}
use Rattle.tn_base.specs.Firm.{Firm}
use Rattle.tn_base.specs.Walks.{arcs_among, is_admitted, HasNoNegativeCycle}
use Rattle.tn_model.specs.declared.ends.Ends.{Ends}
use Rattle.tn_market.specs.Best.{IsSubset}
use Rattle.tn_market.specs.Graph.{exchange_arc, ArePossible}

-- a set of admitted trades whose bundles are possible, and which no cycle over admitted trades and null would improve
pub record IsKept (firms : List Firm) (trades : List Ends) (allowed on : ℕ) : Type 0 where
  pub inside : IsSubset on allowed
  pub possible : ArePossible firms trades on
  pub no_cycle : HasNoNegativeCycle (arcs_among (is_admitted (length trades) allowed) (exchange_arc firms trades on))
