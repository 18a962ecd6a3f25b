-- What shows the clauses of `worth_of` of `src/quads.rt`.
use Rattle.std.proofs.Common.{sym, rules, SFits}
use Rattle.std.specs.Int.{w128}
use Rattle.std.proofs.lemmas.Int.{to_z-of_z}
use Rattle.tn_exchange.specs.Rows.{firm_of_table}
use Rattle.tn_local.proofs.QuadLemmas.{value_some, value_none}
use Rattle.tn_local.proofs.quads.worth_of.Goals as goal

pub returns-in-Some-clause-worth : goal.returns-in-Some-clause-worth
returns-in-Some-clause-worth c =
    let fits : SFits w128 c.in-Some.amount = search rules in
    simp to_z-of_z (value_some (firm_of_table c.args.table.now) c.args.x c.in-Some.amount (sym c.in-Some.ensures.worth))

pub returns-in-None-clause-worth : goal.returns-in-None-clause-worth
returns-in-None-clause-worth c = value_none (firm_of_table c.args.table.now) c.args.x (sym c.in-None.ensures.worth)
