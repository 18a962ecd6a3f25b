-- What shows the clauses of `units_are_a_version_of_some` of `src/laws.rt`.
use Rattle.tn_file.proofs.ReadingLemmas.{units_refused}
use Rattle.tn_file.proofs.laws.units_are_a_version_of_some.Goals as goal

pub returns : goal.returns
returns c = units_refused
