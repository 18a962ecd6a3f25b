-- What shows the clauses of `answers_are_those_of_each_version` of `src/versions.rt`.
use Rattle.tn_format_laws.proofs.RunLemmas.{answers_are_those_of_each_version}
use Rattle.tn_format_laws.proofs.versions.answers_are_those_of_each_version.Goals as goal

pub returns : goal.returns
returns c = answers_are_those_of_each_version
