-- What shows the clause of `unit_contracts_are_of_contracts` of `src/laws.rt`.
use Rattle.tn_unit_laws.proofs.OutcomeLemmas.{contracts_are_of}
use Rattle.tn_unit_laws.proofs.laws.unit_contracts_are_of_contracts.Goals as goal

pub returns : goal.returns
returns c = contracts_are_of
