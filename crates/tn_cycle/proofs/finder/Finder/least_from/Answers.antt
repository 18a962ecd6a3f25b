-- What shows the clauses of `Finder::least_from` of `src/finder.rt`.
use Rattle.tn_cycle.specs.Answers.{label_in}
use Rattle.tn_cycle.proofs.TurnLemmas.{keeps-turned}
use Rattle.tn_cycle.proofs.finder.Finder.least_from.Goals as goal

pub least_walks-requires-clause-keeps : goal.least_walks-requires-clause-keeps
least_walks-requires-clause-keeps g c =
    keeps-turned (g.C.Costs.arc c.args.costs.now) (label_in c.args.self.now.labels) c.requires.keeps
