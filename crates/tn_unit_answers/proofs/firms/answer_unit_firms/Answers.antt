-- What shows the clauses of `answer_unit_firms` of `src/firms.rt`.
use Rattle.std.proofs.Common.{List, length, count_by, refl, sym, ap, subst, ◌∙◌, arith}
use Rattle.std.specs.Prelude.{All}
use Rattle.tn_answer.specs.Kept.{IsWithinUnitHolding}
use Rattle.tn_counts.specs.declared.trade.UnitTrade.{UnitTrade}
use Rattle.tn_read_units.specs.Worths.{written_firms}
use Rattle.tn_said.specs.declared.units.UnitHolding.{UnitHolding}
use Rattle.tn_unit_answers.specs.Firms.{TellsFirms, is_content}
use Rattle.tn_unit_answers.specs.Judged.{AreToldBy}
use Rattle.tn_unit_answers.proofs.FirmLemmas.{content_short, holdings_within, some_within, tells_all}
use Rattle.tn_unit_answers.proofs.JudgedLemmas.{few_judged}
use Rattle.tn_unit_answers.proofs.firms.answer_unit_firms.Goals as goal

pub holdings_of-requires-clause-few_firms : goal.holdings_of-requires-clause-few_firms
holdings_of-requires-clause-few_firms c =
    few_judged c.args.document.now c.args.counts.now c.args.prices.now c.in_ok-judged.judged.firms.items
    c.in_ok-judged.judged.firms.items c.in_ok-judged.judged.best.sold.items c.in_ok-judged.judged.best.bought.items
    c.in_ok-judged.judged.surplus c.trades.ensures.kept c.in_ok-judged.ensures refl

pub content_of-requires : goal.content_of-requires
content_of-requires c =
    let few = few_judged c.args.document.now c.args.counts.now c.args.prices.now c.in_ok-judged.judged.firms.items
    c.in_ok-judged.judged.firms.items c.in_ok-judged.judged.best.sold.items c.in_ok-judged.judged.best.bought.items
    c.in_ok-judged.judged.surplus c.trades.ensures.kept c.in_ok-judged.ensures refl in
    let sized = c.in_ok-holdings.ensures.sized in
    let read = ap length c.deref.ensures.value in
    record { few = omega (arith, few, sized, read) }

pub returns-clause-answer : goal.returns-clause-answer
returns-clause-answer c =
    subst (λ (told : List UnitHolding). TellsFirms (written_firms c.args.document.now) c.args.document.now.head.trades
    c.args.counts.now c.args.prices.now c.content_of.result told c.in_ok-judged.judged.surplus) (sym c.from_vec.ensures)
    (tells_all c.args.document.now c.args.counts.now c.args.prices.now c.in_ok-judged.judged.firms.items
    c.in_ok-judged.judged.best.sold.items c.in_ok-judged.judged.best.bought.items c.in_ok-judged.judged.surplus
    c.in_ok-judged.ensures c.requires.counts.within c.content_of.result c.in_ok-holdings.holdings.items
    c.trades.ensures.kept c.in_ok-holdings.ensures.sized
    (subst (λ (ts : List UnitTrade). AreToldBy ts c.args.counts.now c.in_ok-judged.judged.best.sold.items
    c.in_ok-judged.judged.best.bought.items c.in_ok-judged.judged.firms.items c.in_ok-holdings.holdings.items)
    c.trades.ensures.is c.in_ok-holdings.ensures.each)
    (c.content_of.ensures ∙ ap (count_by is_content) c.deref.ensures.value))

pub returns-clause-within : goal.returns-clause-within
returns-clause-within c =
    let few = few_judged c.args.document.now c.args.counts.now c.args.prices.now c.in_ok-judged.judged.firms.items
    c.in_ok-judged.judged.firms.items c.in_ok-judged.judged.best.sold.items c.in_ok-judged.judged.best.bought.items
    c.in_ok-judged.judged.surplus c.trades.ensures.kept c.in_ok-judged.ensures refl in
    let sized = c.in_ok-holdings.ensures.sized in (
      content_short c.content_of.result c.in_ok-holdings.holdings.items
          (c.content_of.ensures ∙ ap (count_by is_content) c.deref.ensures.value) (omega (arith, few, sized)),
      subst (All IsWithinUnitHolding) (sym c.from_vec.ensures)
          (holdings_within c.args.document.now c.args.counts.now c.args.prices.now c.in_ok-judged.judged.firms.items
          c.in_ok-judged.judged.best.sold.items c.in_ok-judged.judged.best.bought.items c.in_ok-judged.judged.surplus
          c.in_ok-judged.ensures c.requires.counts.within c.in_ok-holdings.holdings.items c.trades.ensures.kept
          c.in_ok-holdings.ensures.sized
          (subst (λ (ts : List UnitTrade). AreToldBy ts c.args.counts.now c.in_ok-judged.judged.best.sold.items
          c.in_ok-judged.judged.best.bought.items c.in_ok-judged.judged.firms.items c.in_ok-holdings.holdings.items)
          c.trades.ensures.is c.in_ok-holdings.ensures.each)),
      some_within c.in_ok-judged.judged.surplus c.in_ok-judged.ensures.small_surplus,
    )
