-- What shows the clauses of `readings_are_never_too_long` of `src/laws.rt`.
use Rattle.tn_file.proofs.ReadingLemmas.{readings_are_never_too_long}
use Rattle.tn_file.proofs.laws.readings_are_never_too_long.Goals as goal

pub returns : goal.returns
returns c = readings_are_never_too_long
