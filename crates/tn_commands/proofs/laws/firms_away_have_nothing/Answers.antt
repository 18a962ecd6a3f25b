-- What shows the clauses of `firms_away_have_nothing` of `src/laws.rt`.
use Rattle.tn_commands.proofs.AwayLemmas.{firms_away_have_nothing}
use Rattle.tn_commands.proofs.laws.firms_away_have_nothing.Goals as goal

pub returns : goal.returns
returns c = firms_away_have_nothing
