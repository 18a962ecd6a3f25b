-- What shows the clauses of `Finder::least_to` of `src/finder.rt`.
use Rattle.tn_cycle.proofs.finder.Finder.least_to.Goals as goal

pub least_walks-requires-clause-keeps : goal.least_walks-requires-clause-keeps
least_walks-requires-clause-keeps g c = c.requires.keeps
