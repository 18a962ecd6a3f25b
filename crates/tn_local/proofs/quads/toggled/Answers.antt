-- What shows the clauses of `toggled` of `src/quads.rt`.
use Rattle.std.proofs.Common.{◌^◌, ◌<◌, ℕ, sym, subst, length}
use Rattle.tn_base.proofs.SetLemmas.{toggle_within}
use Rattle.tn_local.proofs.quads.toggled.Goals as goal

pub returns-clause-own : goal.returns-clause-own
returns-clause-own c =
    subst (λ (w : ℕ). w < 2 ^ length c.args.table.now.sides) (sym c.toggle.ensures)
    (toggle_within c.args.x c.args.k (length c.args.table.now.sides) c.requires.own c.requires.place)
