-- What shows the clauses of `read_all` of `src/reading.rt`.
use Rattle.std.proofs.Common.{arith, length-take}
use Rattle.tn_io.proofs.Taken.{TakesFirst-more, TakesAtMost-more}
use Rattle.tn_io.proofs.reading.read_all.Goals as goal

pub returns-then-count-limit-clause-too_long : goal.returns-then-count-limit-clause-too_long
returns-then-count-limit-clause-too_long g c =
    λ _. let bound = c.in_ok-count.ensures.bound in
    let kept = c.read.auto.into in
    TakesFirst-more _ _ _ _ _ _ _ c.loop-bytes.invariant.taken c.in_ok-count.ensures.bytes.0 bound.0
    (omega (arith, bound.0, kept, length-take c.min-room.result c.loop-bytes.piece, c.loop-bytes.bytes.ok))

pub returns-in_err-extend_from_slice-clause-no_more :
    goal.returns-in_err-extend_from_slice-clause-no_more
returns-in_err-extend_from_slice-clause-no_more g c =
    λ _. let bound = c.in_ok-count.ensures.bound in
    TakesAtMost-more _ _ _ _ _ _ _ c.loop-bytes.invariant.taken c.in_ok-count.ensures.bytes.0 bound.0
    (omega (arith, bound.0, c.loop-bytes.bytes.ok))
