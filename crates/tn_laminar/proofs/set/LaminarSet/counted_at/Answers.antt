-- What shows the clauses of `LaminarSet::counted_at` of `src/row.rt`.
use Rattle.std.proofs.Common.{rules, sym, subst, ℤ}
use Rattle.std.proofs.lemmas.Int.{to_z-of_z}
use mir.Syntax.{w128}
use mir.Val.{SFits}
use Rattle.tn_base.specs.Arcs.{IsAtMost}
use Rattle.tn_laminar.specs.Rows.{most_counted}
use Rattle.tn_laminar.proofs.ValueLemmas.{number_small}
use Rattle.tn_laminar.proofs.RowLemmas.{counted_small}
use Rattle.tn_laminar.proofs.set.LaminarSet.counted_at.Goals as goal

pub returns-clause-small : goal.returns-clause-small
returns-clause-small c =
    let fit : SFits w128 c.counted_or_unlisted.result = search rules in
    let small = number_small c.args.self.now _ c.number_at.result c.requires.numbered c.number_at.ensures in
    simp to_z-of_z (subst (λ (z : ℤ). IsAtMost z most_counted) (sym c.counted_or_unlisted.ensures)
    (counted_small c.number_at.result small))
