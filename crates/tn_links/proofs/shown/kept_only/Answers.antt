-- What shows the clauses of `kept_only` of `src/shown.rt`.
use Rattle.std.proofs.Common.{◌+ℤ◌, ◌≤ℤ◌, sym, arith, rules}
use Rattle.std.specs.Prelude.{◌<ℤ◌}
use Rattle.std.proofs.lemmas.Int.{ints, to_z-of_z}
use mir.Syntax.{w128}
use mir.Val.{SFits}
use Rattle.tn_links.specs.ShownLemmas.{kept_none, kept_some}
use Rattle.tn_links.proofs.shown.kept_only.Goals as goal

pub overflow_add-begin : goal.overflow_add-begin
overflow_add-begin c =
    let small = c.requires.cost c.in-Some.cost c.in-Some.is in
    omega (arith, ints, c.requires.begin.low, c.requires.begin.high, small.low, small.high)

pub returns-then-begin-cost : goal.returns-then-begin-cost
returns-then-begin-cost c =
    let small = c.requires.cost c.in-Some.cost c.in-Some.is in
    let begin_fits : SFits w128 c.args.begin = c.ranges.begin in
    let end_fits : SFits w128 c.args.end = c.ranges.end in
    let cost_fits : SFits w128 c.in-Some.cost = search rules in
    let order : (c.args.begin +ℤ c.in-Some.cost) <ℤ c.args.end =
    omega (arith, ints, c.if-begin-cost.true, c.requires.begin.low, c.requires.begin.high, small.low, small.high) in
    sym (kept_none c.args.begin c.args.end c.in-Some.cost c.args.cost c.in-Some.is order)

pub returns-else-begin-cost : goal.returns-else-begin-cost
returns-else-begin-cost c =
    let small = c.requires.cost c.in-Some.cost c.in-Some.is in
    let begin_fits : SFits w128 c.args.begin = c.ranges.begin in
    let end_fits : SFits w128 c.args.end = c.ranges.end in
    let cost_fits : SFits w128 c.in-Some.cost = search rules in
    let order : c.args.end ≤ℤ (c.args.begin +ℤ c.in-Some.cost) =
    omega (arith, ints, c.if-begin-cost.false, c.requires.begin.low, c.requires.begin.high, small.low, small.high) in
    simp to_z-of_z (sym (kept_some c.args.begin c.args.end c.in-Some.cost c.args.cost c.in-Some.is order))
