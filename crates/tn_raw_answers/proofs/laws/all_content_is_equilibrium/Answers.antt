-- What shows the clauses of `all_content_is_equilibrium` of `src/laws.rt`.
use Rattle.tn_raw_answers.proofs.ContentLemmas.{content_is_equilibrium}
use Rattle.tn_raw_answers.proofs.laws.all_content_is_equilibrium.Goals as goal

pub returns : goal.returns
returns c = content_is_equilibrium
