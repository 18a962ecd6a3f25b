-- What shows the clauses of `check_names_the_first` of `src/laws.rt`.
use Rattle.tn_raw_answers.proofs.ContentLemmas.{check_names}
use Rattle.tn_raw_answers.proofs.laws.check_names_the_first.Goals as goal

pub returns : goal.returns
returns c = check_names
