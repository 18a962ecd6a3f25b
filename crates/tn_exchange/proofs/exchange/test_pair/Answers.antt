-- What shows the clauses of `test_pair` of `src/exchange.rt`.
use Rattle.std.proofs.Common.{◌≤◌, sym, ◌∙◌, arith, length, Some, None}
use Rattle.std.proofs.lemmas.Bool.{false≢true}
use Rattle.std.proofs.lemmas.Int.{to_z-of_z}
use Rattle.tn_exchange.specs.Rows.{firm_of_table}
use Rattle.tn_exchange.proofs.TestLemmas.{pair_fails, pair_holds, none_before, none_own, none_more}
use Rattle.tn_exchange.proofs.exchange.test_pair.Goals as goal

pub returns-then-is_wrong_at : goal.returns-then-is_wrong_at
returns-then-is_wrong_at c =
    let fits = c.ranges.total in
    let none = simp to_z-of_z at c.loop-i.invariant in
    let wrong = simp to_z-of_z at c.is_wrong_at.ensures in
    pair_fails (firm_of_table c.args.table.now) c.args.x c.args.y c.args.total (Some c.loop-i.i) c.requires.total
    (wrong.0 c.if-is_wrong_at.true)
    (none_before _ c.args.x c.args.y c.args.total c.loop-i.i none)

pub loop-i-preserved : goal.loop-i-preserved
loop-i-preserved c =
    let fits = c.ranges.total in
    let none = simp to_z-of_z at c.loop-i.invariant in
    let wrong = simp to_z-of_z at c.is_wrong_at.ensures in
    simp to_z-of_z (none_more (firm_of_table c.args.table.now) c.args.x c.args.y c.args.total c.loop-i.i none
    (λ w. false≢true (sym c.if-is_wrong_at.false ∙ wrong.1 w)))

pub returns-then-is_wrong_at-2 : goal.returns-then-is_wrong_at-2
returns-then-is_wrong_at-2 c =
    let fits = c.ranges.total in
    let none = simp to_z-of_z at c.loop-i.invariant in
    let wrong = simp to_z-of_z at c.is_wrong_at-2.ensures in
    let all : length c.args.table.now.sides ≤ c.loop-i.i = omega arith in
    pair_fails (firm_of_table c.args.table.now) c.args.x c.args.y c.args.total None c.requires.total
    (wrong.0 c.if-is_wrong_at-2.true)
    (none_own (firm_of_table c.args.table.now) c.args.x c.args.y c.args.total c.loop-i.i c.requires.x_own
    c.requires.y_own all none)

pub returns : goal.returns
returns c =
    let fits = c.ranges.total in
    let none = simp to_z-of_z at c.loop-i.invariant in
    let wrong = simp to_z-of_z at c.is_wrong_at-2.ensures in
    let all : length c.args.table.now.sides ≤ c.loop-i.i = omega arith in
    pair_holds (firm_of_table c.args.table.now) c.args.x c.args.y c.args.total c.requires.total
    (none_own (firm_of_table c.args.table.now) c.args.x c.args.y c.args.total c.loop-i.i c.requires.x_own
    c.requires.y_own all none)
    (λ w. false≢true (sym c.if-is_wrong_at-2.false ∙ wrong.1 w))
