-- What shows the clauses of `stand_of_oracle` of `src/stand.rt`.
use Rattle.std.proofs.Common.{◌∙◌}
use Rattle.tn_model.specs.Prices.{price_at}
use Rattle.tn_raw_answers.proofs.StandLemmas.{stands}
use Rattle.tn_raw_answers.proofs.stand.stand_of_oracle.Goals as goal

pub returns : goal.returns
returns g c =
    stands (g.V.Valuation.firm c.args.firm.now) (price_at c.args.prices.now) c.args.own c.best_of_oracle.result.bundle
    c.best_of_oracle.result.value c.utility_of-utility.result c.stand_beside.result
    (c.stand_beside.ensures.worth ∙ c.worth_of-worth.ensures) c.stand_beside.ensures.utility
    c.utility_of-utility.ensures.value c.best_of_oracle.ensures
    c.stand_beside.ensures.value c.stand_beside.ensures.kept c.stand_beside.ensures.best
