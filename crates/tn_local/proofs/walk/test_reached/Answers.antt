-- What shows the clauses of `test_reached` of `src/walk.rt`.
use Rattle.std.proofs.Common.{ℕ, sym, ◌∙◌, subst, refl, rules, length, ◌+ℤ◌, SFits}
use Rattle.std.specs.Int.{w128}
use Rattle.std.proofs.lemmas.Int.{to_z-of_z}
use Rattle.tn_base.specs.Arcs.{IsAtMost}
use Rattle.tn_base.specs.Table.{buys_of}
use Rattle.tn_exchange.specs.Rows.{firm_of_table}
use Rattle.tn_exchange.specs.Verdicts.{HasTotal}
use Rattle.tn_exchange.proofs.TestLemmas.{sum_fits}
use Rattle.tn_local.specs.Walk.{IsReached}
use Rattle.tn_local.proofs.WalkLemmas.{reached_near}
use Rattle.tn_local.proofs.VerdictLemmas.{no_close, impossible_close, close_verdict, one_is_trade}
use Rattle.tn_local.proofs.walk.test_reached.Goals as goal
use Rattle.tn_local.proofs.walk.test_reached.Goals.{else-sides-null-via-then-sides-null+else-sides-null-2, else-sides-null-via-else-sides-null}
use Rattle.tn_base.specs.Widths.{most_amount}

pub returns-then-sides-null-2 : goal.returns-then-sides-null-2
returns-then-sides-null-2 c =
    no_close (firm_of_table c.args.table.now) c.args.x c.args.y
    (reached_near (length c.args.table.now.sides) (buys_of c.args.table.now.sides) c.args.x c.args.y c.args.sides
    c.requires.own (subst (λ (b : ℕ). IsReached (length c.args.table.now.sides) b c.args.x c.args.y 0 c.args.sides)
    c.requires.bought c.requires.reached)
    (c.if-sides-null.true ∙ c.trades-null.ensures.count) (c.if-sides-null-2.true ∙ c.trades-null.ensures.count))

pub test_reached_pair-requires-clause-total : goal.test_reached_pair-requires-clause-total
test_reached_pair-requires-clause-total c =
    let first_fits = c.ranges.first in
    let second_fits : SFits w128 c.in-Some.second = search rules in
    let second_small : IsAtMost c.in-Some.second most_amount = c.in-Some.ensures.small in
    let both_fit : SFits w128 (c.args.first +ℤ c.in-Some.second) = sum_fits _ _ c.requires.small second_small in
    let total : HasTotal (firm_of_table c.args.table.now) c.args.x c.args.y (c.args.first +ℤ c.in-Some.second) =
    record {
      first = c.args.first;
      second = c.in-Some.second;
      first_is = c.requires.worth;
      second_is =
          sym c.in-Some.ensures.worth;
      total_is = refl;
    } in
    simp to_z-of_z total

pub returns-in-Some : goal.returns-in-Some
returns-in-Some c =
    let reached : IsReached (length c.args.table.now.sides) (buys_of c.args.table.now.sides) c.args.x c.args.y 0
    c.args.sides =
    subst (λ (b : ℕ). IsReached (length c.args.table.now.sides) b c.args.x c.args.y 0 c.args.sides) c.requires.bought
    c.requires.reached in
    close_verdict (firm_of_table c.args.table.now) c.args.x c.args.y c.args.sides c.test_reached_pair.result
    c.requires.own reached
    (one_is_trade _ _ _ reached.up.second.place reached.down.second.place (λ p q. elim c.else-sides-null.branch [
      | else-sides-null-via-then-sides-null+else-sides-null-2 w ↦
          w.if-sides-null-2.false (q ∙ sym c.trades-null.ensures.count)
      | else-sides-null-via-else-sides-null w ↦ w.if-sides-null.false (p ∙ sym c.trades-null.ensures.count)
    ])) c.test_reached_pair.ensures

pub returns-in-None : goal.returns-in-None
returns-in-None c = impossible_close (firm_of_table c.args.table.now) c.args.x c.args.y (sym c.in-None.ensures.worth)
