-- What shows the clauses of `Outside::worth` of `src/party.rt`.
use Rattle.std.proofs.Common.{rules, Some, sym, ap, ◌∙◌, ℤ}
use Rattle.std.proofs.lemmas.Int.{to_z-of_z}
use mir.Syntax.{w128}
use mir.Val.{SFits}
use Rattle.tn_market.specs.OutsideLemmas.{outside-worth}
use Rattle.tn_market.proofs.party.Outside.worth.Goals as goal

pub returns : goal.returns
returns c =
    let fits : SFits w128 c.value.result = search rules in
    simp to_z-of_z (ap (λ (z : ℤ). Some z) c.value.ensures
    ∙ sym (outside-worth c.args.self.now.price c.args.x c.requires))
