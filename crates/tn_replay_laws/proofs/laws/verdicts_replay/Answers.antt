-- What shows the clauses of `verdicts_replay` of `src/laws.rt`.
use Rattle.tn_replay_laws.proofs.CheckedLemmas.{verdicts_replay}
use Rattle.tn_replay_laws.proofs.laws.verdicts_replay.Goals as goal

pub returns : goal.returns
returns c = verdicts_replay
