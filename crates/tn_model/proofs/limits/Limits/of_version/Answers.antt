-- What shows the clauses of `Limits::of_version` of `src/limits.rt`.
use Rattle.std.proofs.Common.{arith, subst, sym}
use Rattle.tn_model.specs.Limits.{AreLimits}
use Rattle.tn_model.proofs.LimitLemmas.{are_many, with_room}
use Rattle.tn_model.proofs.limits.Limits.of_version.Goals as goal

pub returns-in-1-clause-kept : goal.returns-in-1-clause-kept
returns-in-1-clause-kept c = subst AreLimits (sym c.with.ensures) (with_room 64 (omega arith))

pub returns-in-2-clause-kept : goal.returns-in-2-clause-kept
returns-in-2-clause-kept c = subst AreLimits (sym c.with-in-2.ensures) (with_room 128 (omega arith))

pub returns-in-3-clause-kept : goal.returns-in-3-clause-kept
returns-in-3-clause-kept c = subst AreLimits (sym c.of_many.ensures) are_many
