-- What shows the clauses of `readings_meet_but_for_limits` of `src/versions.rt`.
use Rattle.tn_format_laws.proofs.DocumentLemmas.{readings_meet}
use Rattle.tn_format_laws.proofs.versions.readings_meet_but_for_limits.Goals as goal

pub returns : goal.returns
returns c = readings_meet
