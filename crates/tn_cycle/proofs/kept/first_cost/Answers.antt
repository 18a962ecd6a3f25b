-- What shows the clauses of `first_cost` of `src/kept.rt`.
use Rattle.std.proofs.Common.{◌∙◌, sym}
use Rattle.tn_cycle.proofs.kept.first_cost.Goals as goal

pub returns-then-v-end-clause-small : goal.returns-then-v-end-clause-small
returns-then-v-end-clause-small g c x is =
    g.met.C.Costs.small c.args.costs.now c.args.v c.args.u x (sym c.cost.ensures ∙ is)
