-- What shows the clauses of `tests_replay` of `src/laws.rt`.
use Rattle.tn_replay_laws.proofs.CheckedLemmas.{tests_replay}
use Rattle.tn_replay_laws.proofs.laws.tests_replay.Goals as goal

pub returns : goal.returns
returns c = tests_replay
