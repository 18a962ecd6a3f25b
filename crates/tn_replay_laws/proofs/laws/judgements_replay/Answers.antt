-- What shows the clauses of `judgements_replay` of `src/laws.rt`.
use Rattle.tn_replay_laws.proofs.OutcomeLemmas.{judgements_replay}
use Rattle.tn_replay_laws.proofs.laws.judgements_replay.Goals as goal

pub returns : goal.returns
returns c = judgements_replay
