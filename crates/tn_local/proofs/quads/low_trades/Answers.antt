-- What shows the clauses of `low_trades` of `src/quads.rt`.
use Rattle.std.proofs.Common.{sym, ◌∙◌, subst, ap₂}
use Rattle.tn_base.specs.Sets.{union}
use Rattle.tn_local.specs.Quads.{AreLowTrades}
use Rattle.tn_local.proofs.QuadLemmas.{low_set}
use Rattle.tn_local.proofs.quads.low_trades.Goals as goal

pub returns : goal.returns
returns c = λ n. subst (AreLowTrades n c.args.buys c.args.z)
    (sym (c.union.ensures ∙ ap₂ union c.minus.ensures c.minus-2.ensures)) (low_set n c.args.buys c.args.z)
