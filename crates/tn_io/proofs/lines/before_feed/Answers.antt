-- What shows the clauses of `before_feed` of `src/lines.rt`.
use Rattle.std.proofs.Common.{sym, ◌∙◌}
use Rattle.tn_io.proofs.LineLemmas.{feed-None, feed-Some}
use Rattle.tn_io.proofs.lines.before_feed.Goals as goal

pub returns-in-Some-clause-count : goal.returns-in-Some-clause-count
returns-in-Some-clause-count c = feed-Some c.args.bytes.now c.in-Some.count (sym c.first_feed.ensures ∙ c.in-Some.is)

pub returns-in-None-clause-count : goal.returns-in-None-clause-count
returns-in-None-clause-count c = feed-None c.args.bytes.now (sym c.first_feed.ensures ∙ c.in-None.is)
