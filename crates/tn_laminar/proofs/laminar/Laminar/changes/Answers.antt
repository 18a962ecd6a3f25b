-- What shows the clauses of `Laminar::changes` of `src/row.rt`.
use Rattle.std.proofs.Common.{arith, replicate, pos}
use Rattle.std.proofs.lemmas.List.{get_or-replicate}
use Rattle.tn_base.proofs.SetLemmas.{has_below}
use Rattle.tn_laminar.proofs.RowLemmas.{changes_none}
use Rattle.tn_market.specs.Widths.{most_own}
use Rattle.tn_laminar.proofs.laminar.Laminar.changes.Goals as goal

pub loop-k-init : goal.loop-k-init
loop-k-init c =
    let few = c.args.self.now.laminar.few in
    changes_none c.args.self.now.buys c.args.self.now.sets.items c.args.x c.args.wanted
    (replicate most_own (pos 0))
    (λ j wants. let below = has_below c.args.wanted c.args.self.now.trades j c.requires.own wants in
    get_or-replicate most_own j (pos 0) (pos 0) (omega (arith, below, few)))
