-- What shows the clauses of `find_walks` of `src/walks.rt`.
use Rattle.tn_cycle.specs.Answers.{label_in}
use Rattle.tn_cycle.specs.Cells.{cell_at}
use Rattle.tn_cycle.specs.Kept.{flag_at}
use Rattle.tn_cycle.proofs.StoppedLemmas.{kept_settled}
use Rattle.tn_cycle.proofs.walks.find_walks.Goals as goal

pub returns : goal.returns
returns g c =
    kept_settled (g.C.Costs.node_count c.args.costs.now) (g.C.Costs.arc c.args.costs.now) c.args.node
    (label_in c.args.labels.now) (cell_at c.search_kept.new.row) (flag_at c.search_kept.new.waits)
    (g.met.C.Costs.between_nodes c.args.costs.now) (λ u v cost _ is. c.requires.keeps u v cost is) c.search_kept.ensures
