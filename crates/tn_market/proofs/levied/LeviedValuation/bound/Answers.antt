-- What shows the clauses of `LeviedValuation::bound` of `src/levied.rt`.
use Rattle.std.proofs.Common.{rules}
use Rattle.std.proofs.lemmas.Int.{to_z-of_z}
use mir.Syntax.{w128}
use mir.Val.{SFits}
use Rattle.tn_market.proofs.LevyLemmas.{parts_of, scaled_fits, taxes_fit, sum_fits, sum_is}
use Rattle.tn_market.proofs.levied.LeviedValuation.bound.Goals as goal

pub overflow_mul-result : goal.overflow_mul-result
overflow_mul-result g c =
    let worth : SFits w128 c.args.self.now.worth = search rules in
    let scale : SFits w128 c.args.self.now.scale = search rules in
    simp to_z-of_z (scaled_fits _ _ _ (parts_of c.args.self.now.scale c.args.self.now.tax c.args.self.now.worth c.args.self.now.bound
    c.args.self.now.levy))

pub overflow_mul-result-2 : goal.overflow_mul-result-2
overflow_mul-result-2 g c =
    let tax : SFits w128 c.args.self.now.tax = search rules in
    simp to_z-of_z (taxes_fit _ _ _ (parts_of c.args.self.now.scale c.args.self.now.tax c.args.self.now.worth c.args.self.now.bound
    c.args.self.now.levy))

pub overflow_add-result : goal.overflow_add-result
overflow_add-result g c =
    let worth : SFits w128 c.args.self.now.worth = search rules in
    let scale : SFits w128 c.args.self.now.scale = search rules in
    let tax : SFits w128 c.args.self.now.tax = search rules in
    simp to_z-of_z (sum_fits _ _ _ (parts_of c.args.self.now.scale c.args.self.now.tax c.args.self.now.worth c.args.self.now.bound
    c.args.self.now.levy))

pub returns-clause-size : goal.returns-clause-size
returns-clause-size g c =
    let worth : SFits w128 c.args.self.now.worth = search rules in
    let scale : SFits w128 c.args.self.now.scale = search rules in
    let tax : SFits w128 c.args.self.now.tax = search rules in
    simp to_z-of_z (sum_is _ _ _ (parts_of c.args.self.now.scale c.args.self.now.tax c.args.self.now.worth c.args.self.now.bound
    c.args.self.now.levy))

pub returns-clause-small : goal.returns-clause-small
returns-clause-small g c = c.args.self.now.levy.small
