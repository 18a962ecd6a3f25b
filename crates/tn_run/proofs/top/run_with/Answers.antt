-- What shows the clauses of `run_with` of `src/top.rt`.
use Rattle.tn_run.proofs.TakenLemmas.{may_be_told}
use Rattle.tn_run.proofs.top.run_with.Goals as goal

pub returns-clause-said : goal.returns-clause-said
returns-clause-said g c =
    may_be_told g.S.Source.left g.S.Source.faults c.args.request c.args.source.now c.say-said.new.source
    c.say-said.result.1 c.say-said.result.0 c.tell-run.result.said c.say-said.ensures.said c.tell-run.ensures.said
    c.tell-run.ensures.fixed
