-- What shows the clauses of `test_reached_pair` of `src/walk.rt`.
use Rattle.std.proofs.Common.{ℕ, subst, length}
use Rattle.std.proofs.lemmas.Int.{to_z-of_z}
use Rattle.tn_exchange.specs.Rows.{firm_of_table}
use Rattle.tn_local.specs.Walk.{IsReached}
use Rattle.tn_local.proofs.VerdictLemmas.{pairs_hold}
use Rattle.tn_local.proofs.walk.test_reached_pair.Goals as goal

pub returns-then-pairs_are_enough : goal.returns-then-pairs_are_enough
returns-then-pairs_are_enough c =
    let fits = c.ranges.total in
    let enough = simp to_z-of_z at c.pairs_are_enough.ensures in
    pairs_hold (firm_of_table c.args.table.now) c.args.x c.args.y c.args.total c.args.sides c.requires.own
    c.requires.total
    (subst (λ (b : ℕ). IsReached (length c.args.table.now.sides) b c.args.x c.args.y 0 c.args.sides) c.requires.bought
    c.requires.reached)
    c.requires.close (enough.0 c.if-pairs_are_enough.true)
