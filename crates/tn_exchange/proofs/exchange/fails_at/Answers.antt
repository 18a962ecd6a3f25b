-- What shows the clauses of `fails_at` of `src/exchange.rt`.
use Rattle.std.proofs.Common.{sym, rules, ◌+ℤ◌, SFits}
use Rattle.std.specs.Int.{w128}
use Rattle.std.proofs.lemmas.Int.{to_z-of_z}
use Rattle.tn_base.specs.Arcs.{IsAtMost}
use Rattle.tn_exchange.specs.Rows.{firm_of_table}
use Rattle.tn_exchange.proofs.TestLemmas.{fails_iff, sum_fits}
use Rattle.tn_exchange.proofs.exchange.fails_at.Goals as goal
use Rattle.tn_base.specs.Widths.{most_amount}

pub returns-in-Some-Some : goal.returns-in-Some-Some
returns-in-Some-Some c =
    let first_fits : SFits w128 c.in-Some-Some.first = search rules in
    let second_fits : SFits w128 c.in-Some-Some.second = search rules in
    let first_small : IsAtMost c.in-Some-Some.first most_amount = c.in-Some-Some.ensures.small in
    let second_small : IsAtMost c.in-Some-Some.second most_amount = c.in-Some-Some.ensures'.small in
    let both_fit : SFits w128 (c.in-Some-Some.first +ℤ c.in-Some-Some.second) = sum_fits _ _ first_small second_small in
    let wrong = simp to_z-of_z at c.is_wrong_at.ensures in
    fails_iff (firm_of_table c.args.table.now) c.args.x c.args.y c.in-Some-Some.first c.in-Some-Some.second c.args.at
    c.is_wrong_at.result
    (sym c.in-Some-Some.ensures.worth) (sym c.in-Some-Some.ensures'.worth) wrong
