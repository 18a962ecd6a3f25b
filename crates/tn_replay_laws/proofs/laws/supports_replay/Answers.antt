-- What shows the clauses of `supports_replay` of `src/laws.rt`.
use Rattle.tn_replay_laws.proofs.FoundLemmas.{supports_replay}
use Rattle.tn_replay_laws.proofs.laws.supports_replay.Goals as goal

pub returns : goal.returns
returns c = supports_replay
