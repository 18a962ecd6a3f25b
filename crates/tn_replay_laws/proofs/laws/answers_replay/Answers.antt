-- What shows the clauses of `answers_replay` of `src/laws.rt`.
use Rattle.tn_replay_laws.proofs.RunLemmas.{answers_replay}
use Rattle.tn_replay_laws.proofs.laws.answers_replay.Goals as goal

pub returns : goal.returns
returns c = answers_replay c.refuted_is_not_valid.ensures
