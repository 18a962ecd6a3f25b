-- What shows the clauses of `checked` of `src/laminars.rt`.
use Rattle.std.proofs.Common.{sym, ap, ◌∙◌, Ok}
use Rattle.tn_laminar.specs.Sum.{laminar_firm}
use Rattle.tn_read_shapes.specs.Reading.{◌>>=◌}
use Rattle.tn_read_firms.specs.Laminars.{checked_laminar}
use Rattle.tn_read_shapes.proofs.EachLemmas.{fails_then}
use Rattle.tn_read_firms.proofs.SoundLemmas.{check_sets-sound, check_sets-fails}
use Rattle.tn_read_firms.proofs.laminars.checked.Goals as goal

pub returns-in-Ok : goal.returns-in-Ok
unfolding checked_laminar
returns-in-Ok c =
    ap (λ r. r >>= λ met. Ok (laminar_firm c.args.sides.items c.args.amounts.items c.args.sets.items))
    (check_sets-sound c.args.f c.args.sets.items c.in-Ok.ensures.sound)
    ∙ ap Ok (sym c.in-Ok.ensures.firm)

pub returns-in-Err : goal.returns-in-Err
unfolding checked_laminar
returns-in-Err c =
    fails_then c.refused.result _ _ (check_sets-fails c.args.f c.args.sets.items c.in-Err.refusal c.refused.result
    c.in-Err.ensures.refused c.refused.ensures)
