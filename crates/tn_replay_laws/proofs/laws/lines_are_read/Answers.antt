-- What shows the clauses of `lines_are_read` of `src/laws.rt`.
use Rattle.tn_replay_laws.proofs.LineLemmas.{lines_are_read}
use Rattle.tn_replay_laws.proofs.laws.lines_are_read.Goals as goal

pub returns : goal.returns
returns c = lines_are_read
