-- What shows the clauses of `read_row` of `src/rows.rt`.
use Rattle.std.proofs.Common.{sym, subst, ◌^◌, ◌<◌, length}
use Rattle.tn_read_firms.proofs.RowLemmas.{filled-added}
use Rattle.tn_read_firms.proofs.rows.read_row.Goals as goal

pub returns-in-Ok-clause-filled : goal.returns-in-Ok-clause-filled
returns-in-Ok-clause-filled c =
    let own = subst (λ sides. c.in_ok-bundle.bundle < 2 ^ length sides) (sym c.requires.sides)
    c.in_ok-bundle.ensures.own in
    let within = subst (λ n. c.in_ok-bundle.bundle < n) (sym c.requires.places) own in
    filled-added c.args.table.now c.add.new.self c.in_ok-bundle.bundle _ within (λ h. let e = c.in-Ok.ensures.same.1 h
    in absurd cc) c.in-Ok.ensures.ok
