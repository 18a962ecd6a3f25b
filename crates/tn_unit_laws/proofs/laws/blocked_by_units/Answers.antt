-- What shows the clause of `blocked_by_units` of `src/laws.rt`.
use Rattle.tn_unit_laws.proofs.BlockedLemmas.{blocked_is_by_units}
use Rattle.tn_unit_laws.proofs.laws.blocked_by_units.Goals as goal

pub returns : goal.returns
returns c = blocked_is_by_units
