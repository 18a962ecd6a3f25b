-- What shows the clauses of `Session::begin` of `src/session.rt`.
use Rattle.std.proofs.Common.{rules}
use Rattle.tn_session.proofs.session.Session.begin.Goals as goal

pub begin-requires : goal.begin-requires
begin-requires g c = (search rules, (search rules, search rules))
