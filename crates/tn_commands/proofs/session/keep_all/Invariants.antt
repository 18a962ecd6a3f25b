-- What the loop of `keep_all` of `src/session.rt` keeps.
use Rattle.std.proofs.Common.{List}
use Rattle.tn_said.specs.declared.session.Edit.{Edit}
use Rattle.tn_commands.specs.Session.{AreAfter}
use Rattle.tn_commands.proofs.EditLemmas.{AreBelow}
use Rattle.tn_commands.proofs.session.keep_all.Given as goal

abbrev pub invariant-loop-t : goal.invariant-loop-t
invariant-loop-t l = (edits : List Edit) → AreAfter l.market.trades edits l.initial.kept l.initial.used
    → AreBelow l.market.trades edits l.edit l.t l.kept l.used
