-- What shows the clauses of `Stand::loss` of `src/stand.rt`.
use Rattle.std.proofs.Common.{rules, ◌≡◌, Some, subst, sym, ◌∙◌, ◌-ℤ◌, Option, ℤ}
use Rattle.std.specs.Prelude.{IfSome}
use Rattle.std.proofs.lemmas.Int.{to_z-of_z}
use mir.Syntax.{w128}
use mir.Val.{SFits}
use Rattle.tn_base.specs.Arcs.{IsAtMost}
use Rattle.tn_graph.proofs.StandLemmas.{loss_is, loss_small, cost_fits}
use Rattle.tn_graph.proofs.stand.Stand.loss.Goals as goal

pub overflow_sub-result : goal.overflow_sub-result
overflow_sub-result g c =
    let mine : SFits w128 c.args.self.now.worth = search rules in
    let theirs : SFits w128 c.in_ok-worth.worth = search rules in
    let is : c.args.worth ≡ Some c.in_ok-worth.worth = search rules in
    let within : IsAtMost c.in_ok-worth.worth (g.V.Valuation.limit c.args.self.now.firm.now) =
    subst (λ (o : Option ℤ). IfSome o (λ a. IsAtMost a (g.V.Valuation.limit c.args.self.now.firm.now))) is
    c.requires.small in
    simp to_z-of_z (cost_fits _ (loss_small _ _ _ _ _ _ _ _ _ c.requires.stand c.in_ok-worth.worth within))

pub returns-clause-loss : goal.returns-clause-loss
returns-clause-loss g c = λ y y_is.
    let mine : SFits w128 c.args.self.now.worth = search rules in
    let theirs : SFits w128 c.in_ok-worth.worth = search rules in
    let is : c.args.worth ≡ Some c.in_ok-worth.worth = search rules in
    let within : IsAtMost c.in_ok-worth.worth (g.V.Valuation.limit c.args.self.now.firm.now) =
    subst (λ (o : Option ℤ). IfSome o (λ a. IsAtMost a (g.V.Valuation.limit c.args.self.now.firm.now))) is
    c.requires.small in
    let fits : SFits w128 (c.args.self.now.worth -ℤ c.in_ok-worth.worth) =
    cost_fits _ (loss_small _ _ _ _ _ _ _ _ _ c.requires.stand c.in_ok-worth.worth within) in
    simp to_z-of_z (loss_is (g.V.Valuation.firm c.args.self.now.firm.now) c.args.self.now.bundle y c.args.self.now.worth
    c.in_ok-worth.worth c.requires.stand.worth_is (sym y_is ∙ is))

pub returns-clause-small : goal.returns-clause-small
returns-clause-small g c =
    let mine : SFits w128 c.args.self.now.worth = search rules in
    let theirs : SFits w128 c.in_ok-worth.worth = search rules in
    let is : c.args.worth ≡ Some c.in_ok-worth.worth = search rules in
    let within : IsAtMost c.in_ok-worth.worth (g.V.Valuation.limit c.args.self.now.firm.now) =
    subst (λ (o : Option ℤ). IfSome o (λ a. IsAtMost a (g.V.Valuation.limit c.args.self.now.firm.now))) is
    c.requires.small in
    let small = loss_small _ _ _ _ _ _ _ _ _ c.requires.stand c.in_ok-worth.worth within in
    let fits : SFits w128 (c.args.self.now.worth -ℤ c.in_ok-worth.worth) = cost_fits _ small in
    simp to_z-of_z small
