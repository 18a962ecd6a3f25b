-- What shows the clauses of `answer_firms` of `src/firms.rt`.
use Rattle.std.proofs.Common.{List, ◌+◌, map, refl, sym, subst, ap, arith, rules}
use Rattle.std.proofs.lemmas.List.{length-map}
use Rattle.std.proofs.lemmas.Option.{slice_get_read}
use Rattle.tn_firm.specs.Raw.{raw_firm_of}
use Rattle.tn_model.specs.Limits.{most_number}
use Rattle.tn_said.specs.declared.holding.Holding.{Holding}
use Rattle.tn_said.specs.declared.said.Said.TheVariants.{Firms}
use Rattle.tn_model.specs.Prices.{price_at}
use Rattle.tn_price.proofs.JudgeLemmas.{firm_is}
use Rattle.tn_raw_answers.specs.Firms.{TellsHoldings}
use Rattle.tn_raw_answers.proofs.HoldingLemmas.{one_told, all_told, sum_small}
use Rattle.tn_raw_answers.proofs.firms.answer_firms.Goals as goal

pub holding_of-requires : goal.holding_of-requires
holding_of-requires g c = (
  search rules,
  (
    c.requires.few_trades,
    (
      c.requires.wide,
      (
        (λ k below. c.requires.network.whole c.loop-f.f k (raw_firm_of c.index-firms-f.result)
            (firm_is raw_firm_of c.args.firms.now c.loop-f.f c.index-firms-f.result
            (slice_get_read c.args.firms.now _ c.loop-f.f c.index-firms-f.result refl c.loop-f-test.true
            c.index-firms-f.is)) below),
        (c.requires.priced, c.requires.small),
      ),
    ),
  ),
)

pub sum-surplus-requires-clause-total : goal.sum-surplus-requires-clause-total
sum-surplus-requires-clause-total g c =
    let inside = c.loop-f-test.true in
    let few = c.requires.few_firms in
    sum_small c.loop-f.f most_number c.loop-f.surplus (omega (arith, inside, few)) (omega arith)
    c.loop-f.invariant.small

pub loop-f-preserved : goal.loop-f-preserved
loop-f-preserved g c =
    one_told (map raw_firm_of c.args.firms.now) c.args.ends.now c.args.at.now.on (price_at c.args.at.now.prices)
    c.loop-f.f c.loop-f.holdings.items c.push.new.self.items c.loop-f.content _
    c.loop-f.surplus c.sum-surplus.result (raw_firm_of c.index-firms-f.result) c.in_ok-holding.holding
    c.loop-f.invariant
    (firm_is raw_firm_of c.args.firms.now c.loop-f.f c.index-firms-f.result
    (slice_get_read c.args.firms.now _ c.loop-f.f c.index-firms-f.result refl c.loop-f-test.true
    c.index-firms-f.is))
    c.in_ok-holding.ensures.told c.in_ok-holding.ensures.within c.in_ok-holding.ensures.worth c.in_ok-push.ensures.items
    (ap (λ n. c.loop-f.content + n) c.count_content-content.ensures) c.sum-surplus.ensures

pub returns-clause-answer : goal.returns-clause-answer
returns-clause-answer g c =
    let outside = c.loop-f-test.false in
    let as_many = length-map c.args.firms.now raw_firm_of in
    subst (λ (told : List Holding). TellsHoldings (map raw_firm_of c.args.firms.now) c.args.ends.now
    c.args.at.now.on (price_at c.args.at.now.prices) (Firms c.loop-f.content told c.loop-f.surplus))
    (sym c.from_vec.ensures)
    (all_told (map raw_firm_of c.args.firms.now) c.args.ends.now c.args.at.now.on (price_at c.args.at.now.prices)
    c.loop-f.f c.loop-f.holdings.items c.loop-f.content c.loop-f.surplus c.requires.network
    c.loop-f.invariant (omega (arith, outside, as_many)))
