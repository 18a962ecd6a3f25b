-- What shows the clauses of `moved` of `src/walk.rt`.
use Rattle.std.proofs.Common.{ℕ, ◌^◌, ◌<◌, sym, ap, ◌∙◌, subst}
use Rattle.tn_firm_laws.specs.Places.{move, toggle_at}
use Rattle.tn_local.proofs.WalkLemmas.{toggle_at-own}
use Rattle.tn_local.proofs.walk.moved.Goals as goal

pub returns-clause-moved : goal.returns-clause-moved
unfolding move
returns-clause-moved c = c.toggled_at-2.ensures ∙ ap (λ (z : ℕ). toggle_at c.args.null z c.args.j) c.toggled_at.ensures

pub returns-clause-own : goal.returns-clause-own
returns-clause-own c = λ own.
    let first : c.toggled_at.result < 2 ^ c.args.null =
    subst (λ (z : ℕ). z < 2 ^ c.args.null) (sym c.toggled_at.ensures)
    (toggle_at-own c.args.null c.args.x c.args.i own) in
    subst (λ (z : ℕ). z < 2 ^ c.args.null) (sym c.toggled_at-2.ensures)
    (toggle_at-own c.args.null c.toggled_at.result c.args.j first)
