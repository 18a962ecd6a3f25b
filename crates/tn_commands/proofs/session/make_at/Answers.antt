-- What shows the clauses of `make_at` of `src/session.rt`.
use Rattle.std.proofs.Common.{◌∙◌}
use Rattle.tn_commands.proofs.EditLemmas.{stands_from}
use Rattle.tn_commands.proofs.session.make_at.Goals as goal

pub returns-clause-stands : goal.returns-clause-stands
returns-clause-stands c = λ firms trades stands.
    let done = c.put_to_use.ensures in
    stands_from firms trades c.put_to_use.new.session (done.market ∙ stands.market) stands.worths done.equilibrium
    done.prices

pub returns-clause-here : goal.returns-clause-here
returns-clause-here c = λ edits before.
    c.keep_edit-used.ensures.here edits c.args.session.now.admitted c.put_to_use.new.session.admitted before
    c.put_to_use.ensures.here

pub returns-clause-elsewhere : goal.returns-clause-elsewhere
returns-clause-elsewhere c = λ edits k other apart before.
    c.keep_edit-used.ensures.elsewhere edits k other c.args.session.now.admitted c.put_to_use.new.session.admitted
    apart before (c.put_to_use.ensures.elsewhere k apart)
