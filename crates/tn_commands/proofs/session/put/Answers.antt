-- What shows the clauses of `put` of `src/session.rt`.
use Rattle.std.proofs.Common.{◌≡◌, ℕ, arith, subst, sym}
use Rattle.tn_base.specs.Sets.{has}
use Rattle.tn_base.proofs.SetLemmas.{has-toggle_other, has-toggle_same}
use Rattle.tn_commands.proofs.session.put.Goals as goal

pub returns-then-has-is_in-clause-here : goal.returns-then-has-is_in-clause-here
returns-then-has-is_in-clause-here c =
    let turned = has-toggle_same c.args.set.now c.args.t in
    let toggled = c.toggle.ensures.toggled in
    let had = c.has.ensures in
    let apart = c.if-has-is_in.true in
    grind (arith, turned, toggled, had, apart)

pub returns-then-has-is_in-clause-elsewhere : goal.returns-then-has-is_in-clause-elsewhere
returns-then-has-is_in-clause-elsewhere c = λ k apart.
    subst (λ (set : ℕ). has set k ≡ has c.args.set.now k) (sym c.toggle.ensures.toggled)
    (has-toggle_other c.args.set.now c.args.t k apart)
