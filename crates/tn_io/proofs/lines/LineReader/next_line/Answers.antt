-- What shows the clauses of `LineReader::next_line` of `src/lines.rt`.
use Rattle.std.proofs.Common.{arith, length, rules, ◌<◌, ◌≤◌}
use Rattle.tn_io.proofs.LineLemmas.{before_feed, line_ended, line_stopped, part_plain, part_stopped, part_taken}
use Rattle.tn_io.proofs.lines.LineReader.next_line.Goals as goal

pub returns-in-Ok-true-clause-line : goal.returns-in-Ok-true-clause-line
returns-in-Ok-true-clause-line g c =
    let within : before_feed c.fill.new.self < length c.fill.new.self = search rules in
    rw (c.in-Ok-true.ensures.taken, c.in-Ok-true.ensures.rest)
    (line_ended _ _ (g.S.Source.left c.fill.new.source) c.loop-line.line.items c.fill.new.self
    c.loop-line.invariant.plain c.loop-line.invariant.taken c.fill.ensures.kept within)

pub loop-line-preserved : goal.loop-line-preserved
loop-line-preserved g c =
    let none : length c.fill.new.self ≤ before_feed c.fill.new.self = search rules in
    record {
      within = c.in-Ok-false.ensures.within;
      plain = rw c.in-Ok-false.ensures.taken (part_plain c.loop-line.line.items c.fill.new.self
          c.loop-line.invariant.plain);
      taken = rw (c.in-Ok-false.ensures.taken, c.in-Ok-false.ensures.rest)
          (part_taken _ _ (g.S.Source.left c.fill.new.source) c.loop-line.line.items c.fill.new.self
          c.loop-line.invariant.taken c.fill.ensures.kept none);
      later = omega arith;
    }

pub returns-in-Err-clause-too_long : goal.returns-in-Err-clause-too_long
returns-in-Err-clause-too_long g c = λ is.
    let stopped =
    line_stopped _ _ _ (g.S.Source.left c.fill.new.source) c.loop-line.line.items c.fill.new.self
    c.loop-line.invariant.plain c.loop-line.invariant.taken c.fill.ensures.kept
    c.in-Err.ensures.some (rw c.in-Err.ensures.passed at c.in_ok-pass_over-in-Err.ensures.passed) in
    (stopped.0, omega (arith, stopped.1, c.in-Err.ensures.too_long (cc)), stopped.2)

pub returns-in-Err-clause-out_of_memory : goal.returns-in-Err-clause-out_of_memory
returns-in-Err-clause-out_of_memory g c = λ is.
    let stopped =
    line_stopped _ _ _ (g.S.Source.left c.fill.new.source) c.loop-line.line.items c.fill.new.self
    c.loop-line.invariant.plain c.loop-line.invariant.taken c.fill.ensures.kept
    c.in-Err.ensures.some (rw c.in-Err.ensures.passed at c.in_ok-pass_over-in-Err.ensures.passed) in
    (stopped.0, stopped.2)

pub returns-in_err-pass_over-in-Err-clause-part : goal.returns-in_err-pass_over-in-Err-clause-part
returns-in_err-pass_over-in-Err-clause-part g c = λ is.
    let part = c.in_err-pass_over-in-Err.ensures.part in (
      part.0,
      part_stopped _ _ _ (g.S.Source.left c.fill.new.source) c.loop-line.line.items c.fill.new.self
          c.loop-line.invariant.plain c.loop-line.invariant.taken c.fill.ensures.kept
          (rw c.in-Err.ensures.passed at part.1),
    )
