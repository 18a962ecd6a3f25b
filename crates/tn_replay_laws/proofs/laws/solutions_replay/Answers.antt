-- What shows the clauses of `solutions_replay` of `src/laws.rt`.
use Rattle.tn_replay_laws.proofs.FoundLemmas.{solutions_replay}
use Rattle.tn_replay_laws.proofs.laws.solutions_replay.Goals as goal

pub returns : goal.returns
returns c = solutions_replay
