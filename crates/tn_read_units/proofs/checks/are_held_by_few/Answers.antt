-- What shows the clauses of `are_held_by_few` of `src/checks.rt`.
use Rattle.std.proofs.Common.{ℕ, nat_lt, rules, sym, get_or}
use Rattle.std.proofs.lemmas.Bool.{le-ltb}
use Rattle.std.proofs.lemmas.List.Folds.{list_all_at}
use Rattle.tn_read_units.specs.Checks.{holding}
use Rattle.tn_read_units.specs.Limits.{most_holding_sets}
use Rattle.tn_read_units.proofs.checks.are_held_by_few.Goals as goal

pub returns-then-holding-ge-MOST_HOLDING_SETS : goal.returns-then-holding-ge-MOST_HOLDING_SETS
returns-then-holding-ge-MOST_HOLDING_SETS c =
    let trades = c.args.set.now.members.trades in
    let few = λ (t : ℕ). nat_lt (holding c.args.earlier.now t) most_holding_sets in
    let t : ℕ = get_or trades c.loop-t.t-index 0 in
    let many = c.if-holding-ge-MOST_HOLDING_SETS.true in
    let counted = c.holding.ensures in
    sym (list_all_at few trades c.loop-t.t-index 0 (search rules)
    (le-ltb (holding c.args.earlier.now t) most_holding_sets (search (rules, many, counted))))
