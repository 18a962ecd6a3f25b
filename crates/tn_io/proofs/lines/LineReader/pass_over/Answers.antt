-- What shows the clauses of `LineReader::pass_over` of `src/lines.rt`.
use Rattle.std.proofs.Common.{ap, arith, drop, length, rules, ◌+◌, ◌<◌, ◌≡◌, ◌≤◌, ◌∙◌, ℕ}
use Rattle.tn_io.proofs.LineLemmas.{before_feed, more_passed, passed_ended}
use Rattle.tn_io.proofs.lines.LineReader.pass_over.Goals as goal

pub returns-then-count-ahead-clause-passed : goal.returns-then-count-ahead-clause-passed
returns-then-count-ahead-clause-passed g c =
    let count : c.before_feed-count.result ≡ before_feed c.fill.new.self =
    c.before_feed-count.ensures.count ∙ ap before_feed c.ahead.ensures in
    let within : before_feed c.fill.new.self < length c.fill.new.self =
    omega (arith, count, c.if-count-ahead.true, ap length c.ahead-in-loop-turn.ensures) in
    let moved : c.skip.new.self ≡ drop (before_feed c.fill.new.self + 1) c.fill.new.self =
    c.skip.ensures ∙ ap (λ (n : ℕ). drop (n + 1) c.fill.new.self) count in
    rw moved (passed_ended _ _ (g.S.Source.left c.fill.new.source) c.fill.new.self c.loop-turn._turn
    c.loop-turn.invariant.passed c.fill.ensures.kept within)

pub loop-turn-preserved : goal.loop-turn-preserved
loop-turn-preserved g c =
    let count : c.before_feed-count.result ≡ before_feed c.fill.new.self =
    c.before_feed-count.ensures.count ∙ ap before_feed c.ahead.ensures in
    let none : length c.fill.new.self ≤ before_feed c.fill.new.self =
    omega (arith, count, c.if-count-ahead.false, ap length c.ahead-in-loop-turn.ensures) in
    let some : 0 < length c.fill.new.self = search rules in
    let moved : c.skip-in-loop-turn.new.self ≡ drop (before_feed c.fill.new.self) c.fill.new.self =
    c.skip-in-loop-turn.ensures ∙ ap (λ (n : ℕ). drop n c.fill.new.self) count in
    record {
      passed = rw moved (more_passed _ _ (g.S.Source.left c.fill.new.source) c.fill.new.self c.loop-turn._turn
          c.loop-turn.invariant.passed c.fill.ensures.kept some none);
      later = omega arith;
    }
