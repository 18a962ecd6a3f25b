-- What shows the clauses of `holding_of` of `src/firms.rt`.
use Rattle.std.proofs.Common.{ℕ, ◌^◌, ◌<◌, ◌∙◌, arith, subst, ap}
use Rattle.tn_firm.specs.Raw.{raw_firm_of}
use Rattle.tn_model.specs.Prices.{price_at}
use Rattle.tn_model.specs.Network.{trades_of}
use Rattle.tn_price.proofs.JudgeLemmas.{part_within}
use Rattle.tn_raw_answers.proofs.HoldingLemmas.{IsSmallStand, StandsThere, stands_there, stand_small, told_there, told_within, worth_small}
use Rattle.tn_raw_answers.proofs.firms.holding_of.Given.{Over}
use Rattle.tn_raw_answers.proofs.firms.holding_of.Goals.{After-stand_of-stand}
use Rattle.tn_raw_answers.proofs.firms.holding_of.Goals as goal

pub stand_of-stand-requires-clause-own : goal.stand_of-stand-requires-clause-own
stand_of-stand-requires-clause-own g c =
    subst (λ (m : ℕ). c.bundle_of-own.result < 2 ^ m) c.trades-n.ensures.count
    (part_within c.args.ends.now c.args.f c.trades-n.result c.args.at.now.on c.bundle_of-own.result
    c.bundle_of-own.ensures)

-- how the firm stands
there : (g : Over) (c : After-stand_of-stand g) → StandsThere c.args.ends.now (price_at c.args.at.now.prices) c.args.f
    c.bundle_of-own.result (raw_firm_of c.args.firm.now) c.stand_of-stand.result
there g c = stands_there c.args.ends.now (price_at c.args.at.now.prices) c.args.f c.trades-n.result
    c.bundle_of-own.result c.own_prices-prices.result (raw_firm_of c.args.firm.now) c.stand_of-stand.result
    c.trades-n.ensures.count c.own_prices-prices.ensures c.stand_of-stand.ensures.stand

small : (g : Over) (c : After-stand_of-stand g) → IsSmallStand c.stand_of-stand.result
small g c =
    let few = c.trades-n.ensures.few in
    let count = c.trades-n.ensures.count in
    stand_small c.args.ends.now c.args.at.now.prices c.args.f c.bundle_of-own.result (raw_firm_of c.args.firm.now)
    c.stand_of-stand.result (omega (arith, few, count)) c.stand_of-stand.ensures.worths c.requires.small (there g c)

pub gain_of-gain-requires-clause-utility : goal.gain_of-gain-requires-clause-utility
gain_of-gain-requires-clause-utility g c =
    (small g (goal.at.gain_of-gain-requires-clause-utility g c).After-stand_of-stand).utility

pub gain_of-gain-requires-clause-best : goal.gain_of-gain-requires-clause-best
gain_of-gain-requires-clause-best g c =
    (small g (goal.at.gain_of-gain-requires-clause-best g c).After-stand_of-stand).best

pub returns-clause-told : goal.returns-clause-told
returns-clause-told g c =
    let firm = raw_firm_of c.args.firm.now in
    let prices = price_at c.args.at.now.prices in
    let own_is =
    subst (λ (x : ℕ). StandsThere c.args.ends.now prices c.args.f x firm c.stand_of-stand.result)
    c.bundle_of-own.ensures (there g (goal.at.returns-clause-told g c).After-stand_of-stand) in
    told_there c.args.ends.now c.args.at.now.on prices c.args.f c.trades-n.result firm c.stand_of-stand.result
    c.told.result c.trades-n.ensures.count own_is
    (c.told.ensures.has ∙ c.from_vec-has.ensures ∙ c.in_ok-held.ensures
    ∙ ap (trades_of c.args.ends.now c.args.f c.trades-n.result) c.bundle_of-own.ensures)
    (c.told.ensures.best ∙ c.from_vec-best.ensures ∙ c.in_ok-wanted.ensures) c.told.ensures.worth c.told.ensures.utility
    c.told.ensures.best_utility
    (c.told.ensures.gain ∙ c.gain_of-gain.ensures)

pub returns-clause-within : goal.returns-clause-within
returns-clause-within g c =
    told_within c.stand_of-stand.result c.told.result (small g (goal.at.returns-clause-within g c).After-stand_of-stand)
    c.told.ensures.worth c.told.ensures.utility c.told.ensures.best_utility
    (c.told.ensures.gain ∙ c.gain_of-gain.ensures)

pub returns-clause-worth : goal.returns-clause-worth
returns-clause-worth g c =
    worth_small c.stand_of-stand.result c.told.result (small g (goal.at.returns-clause-worth g c).After-stand_of-stand)
    c.told.ensures.worth
