-- What shows the clauses of `empty_worth` of `src/plans.rt`.
use Rattle.std.proofs.Common.{◌∙◌, sym}
use Rattle.tn_firm.specs.Raw.{raw_firm_of}
use Rattle.tn_cert.proofs.PlanSums.{raw_abstains, not_impossible}
use Rattle.tn_cert.proofs.plans.empty_worth.Goals as goal

pub unreachable-requires : goal.unreachable-requires
unreachable-requires c =
    not_impossible (raw_firm_of c.args.firm.now) c.empty.result (raw_abstains c.args.firm.now) c.empty.ensures
    (sym c.in-None.is ∙ c.worth.ensures.worth)
