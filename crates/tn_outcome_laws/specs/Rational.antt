-- Outcomes that no firm would rather drop a part of.
use Rattle.std.specs.Prelude.{ℤ, pos, ◌≤ℤ◌, List}
use Rattle.tn_base.specs.Firm.{Firm}
use Rattle.tn_model.specs.declared.ends.Ends.{Ends}
use Rattle.tn_model.specs.declared.contract.Contract.{Contract}
use Rattle.tn_model.specs.Network.{IsNetwork}
use Rattle.tn_model.specs.Choices.{IsFeasible, IsIndividuallyRational}
use Rattle.tn_network_laws.specs.Laws.{MeetExchange}

-- contracts over a denominator of at least 1 that firms which meet exchange can sign together, and that are
-- individually rational
pub record IsRationalOutcome (firms : List Firm) (trades : List Ends) (over : ℤ) (contracts : List Contract) : Type
    0 where
  pub network : IsNetwork firms trades
  pub meet : MeetExchange firms
  pub from_one : pos 1 ≤ℤ over
  pub feasible : IsFeasible trades contracts
  pub rational : IsIndividuallyRational firms trades over contracts
