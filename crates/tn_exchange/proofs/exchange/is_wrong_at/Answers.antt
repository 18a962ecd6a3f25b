-- What shows the clauses of `is_wrong_at` of `src/exchange.rt`.
use Rattle.std.proofs.Common.{length}
use Rattle.tn_base.proofs.ExchangeLemmas.{up_within}
use Rattle.tn_exchange.proofs.exchange.is_wrong_at.Goals as goal

pub swaps-requires-clause-positions_own : goal.swaps-requires-clause-positions_own
swaps-requires-clause-positions_own c =
    rw c.up-then-net.ensures (up_within c.args.buys c.args.y c.args.x (length c.args.table.now.sides) c.requires.y_own
    c.requires.x_own)
