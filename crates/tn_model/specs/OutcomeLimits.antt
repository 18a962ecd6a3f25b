-- The limits of outcomes.
use Rattle.std.specs.Prelude.{ℕ, ◌<◌, pos, ◌≤ℤ◌, List, map, All}
use Rattle.std.specs.List.Sorted.{IsStrictlyIncreasing}
use Rattle.tn_base.specs.Arcs.{IsAtMost}
use Rattle.tn_model.specs.declared.contract.Contract.{Contract}
use Rattle.tn_model.specs.declared.contract.Outcome.{Outcome}
use Rattle.tn_model.specs.Limits.{most_numerator, most_over}

-- contracts on some of the first so many trades, ascending with no trade twice, each numerator at most the limit in
-- size
pub record AreContractsWithin (trades limit : ℕ) (contracts : List Contract) : Type 0 where
  pub known : All (λ contract. contract.trade < trades) contracts
  pub ascending : IsStrictlyIncreasing (map (λ contract. contract.trade) contracts)
  pub small : All (λ contract. IsAtMost contract.price limit) contracts

-- an outcome over a market of so many trades: its denominator is at least 1, and it keeps the limits of denominators
-- and numerators
pub record IsOutcomeWithin (trades : ℕ) (outcome : Outcome) : Type 0 where
  pub least : pos 1 ≤ℤ outcome.over
  pub most : outcome.over ≤ℤ pos most_over
  pub contracts : AreContractsWithin trades most_numerator outcome.contracts
