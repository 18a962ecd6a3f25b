-- What shows the clauses of `keep_at` of `src/session.rt`.
use Rattle.tn_commands.proofs.session.keep_at.Goals as goal

pub returns-clause-here : goal.returns-clause-here
returns-clause-here c = λ edits before.
    c.keep_edit-is_used.ensures.here edits c.args.used.now c.put.new.set before c.put.ensures.here

pub returns-clause-elsewhere : goal.returns-clause-elsewhere
returns-clause-elsewhere c = λ edits k other apart before.
    c.keep_edit-is_used.ensures.elsewhere edits k other c.args.used.now c.put.new.set apart before
    (c.put.ensures.elsewhere k apart)
