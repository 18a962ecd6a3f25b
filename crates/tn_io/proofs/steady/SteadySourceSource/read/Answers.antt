-- What shows the clauses of `SteadySourceSource::read` of `src/steady.rt`.
use Rattle.std.proofs.Common.{arith, length, ap}
use Rattle.tn_io.proofs.Moved.{filled-Consumes, moved-none}
use Rattle.tn_io.proofs.steady.SteadySourceSource.read.Goals as goal

pub returns-clause-bytes : goal.returns-clause-bytes
returns-clause-bytes c =
    rw (c.give.ensures.given, c.give.ensures.rest) (
      filled-Consumes c.args.into.now c.args.self.now.unread c.give.result (omega (arith, c.give.ensures.count)),
      λ none space. moved-none c.args.self.now.chunk c.args.self.now.unread c.give.result (length c.args.into.now)
          c.give.ensures.chunk c.give.ensures.count none (omega (
            arith,
            c.give.auto.into,
            ap length c.give.ensures.given,
          )),
    )
