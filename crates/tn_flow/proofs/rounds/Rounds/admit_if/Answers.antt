-- What shows the clauses of `Rounds::admit_if` of `src/rounds.rt`.
use Rattle.std.proofs.Common.{◌+◌, length, arith}
use Rattle.tn_cycle.specs.Widths.{label_step}
use Rattle.tn_flow.proofs.RoundLemmas.{near-wider}
use Rattle.tn_flow.proofs.rounds.Rounds.admit_if.Goals as goal

pub returns-else-wanted-clause-near : goal.returns-else-wanted-clause-near
returns-else-wanted-clause-near g c reach near =
    near-wider reach (reach + label_step (length c.args.market.now.trades + 1)) c.args.self.now.finder.labels
    (omega arith) near
