-- What shows the clauses of `judge` of `src/judged.rt`.
use Rattle.std.proofs.Common.{◌<◌, ◌∙◌, List, length, sym, ap, subst, ℤ, pos, get_or}
use Rattle.std.proofs.lemmas.List.Elements.{All-get_or}
use Rattle.tn_base.specs.Arcs.{IsAtMost}
use Rattle.tn_counts.specs.Counts.{AreCounts}
use Rattle.tn_counts.specs.Laminar.{firm_of}
use Rattle.tn_counts.specs.Widths.{most_unit_price}
use Rattle.tn_counts.specs.declared.trade.UnitTrade.{UnitTrade}
use Rattle.tn_tree.specs.Held.{IsHeld}
use Rattle.tn_tree.specs.Lists.{count_in}
use Rattle.tn_unit_answers.proofs.JudgedLemmas.{judged}
use Rattle.tn_unit_answers.proofs.judged.judge.Goals as goal

pub hold_counts-requires-clause-counted : goal.hold_counts-requires-clause-counted
hold_counts-requires-clause-counted c =
    c.requires.counts.counted ∙ ap length (sym c.in_ok-market.ensures.trades)

pub hold_counts-requires-clause-within : goal.hold_counts-requires-clause-within
hold_counts-requires-clause-within c =
    subst (λ (ts : List UnitTrade). AreCounts ts (count_in c.args.counts.now)) (sym c.in_ok-market.ensures.trades)
    c.requires.counts.within

pub hold_counts-requires-clause-priced : goal.hold_counts-requires-clause-priced
hold_counts-requires-clause-priced c =
    ap length (c.deref.ensures.value ∙ c.in_ok-prices.ensures) ∙ c.requires.priced
    ∙ ap length (sym c.in_ok-market.ensures.trades)

pub hold_counts-requires-clause-small : goal.hold_counts-requires-clause-small
hold_counts-requires-clause-small c = λ t below.
    let same = c.deref.ensures.value ∙ c.in_ok-prices.ensures in
    subst (λ (xs : List ℤ). IsAtMost (get_or xs t (pos 0)) most_unit_price) (sym same)
    (All-get_or (λ price. IsAtMost price most_unit_price) c.args.prices.now t (pos 0)
    (subst (λ (xs : List ℤ). t < length xs) same below) c.requires.small)

pub surplus_of-requires-clause-counted : goal.surplus_of-requires-clause-counted
surplus_of-requires-clause-counted c =
    c.requires.counts.counted ∙ ap length (sym c.in_ok-market.ensures.trades)

pub surplus_of-requires-clause-within : goal.surplus_of-requires-clause-within
surplus_of-requires-clause-within c =
    subst (λ (ts : List UnitTrade). AreCounts ts (count_in c.args.counts.now)) (sym c.in_ok-market.ensures.trades)
    c.requires.counts.within

pub returns : goal.returns
returns c =
    let market = c.in_ok-market.market in
    let sold = c.in_ok-held.held.best.sold.items in
    let bought = c.in_ok-held.held.best.bought.items in
    judged c.args.document.now market c.args.counts.now c.args.prices.now c.in_ok-held.held.firms.items sold bought
    c.in_ok-surplus.surplus c.trades-trades.ensures.kept c.in_ok-market.ensures.firms c.in_ok-market.ensures.trades
    c.in_ok-market.ensures.worths c.requires.counts.within (record {
      one_each = c.in_ok-held.ensures.firms;
      sold_all = c.in_ok-held.ensures.sold;
      bought_all = c.in_ok-held.ensures.bought;
      each = λ f said at. subst (λ (xs : List ℤ). IsHeld market.trades.items f (firm_of market f) c.args.counts.now xs
          sold bought said) (c.deref.ensures.value ∙ c.in_ok-prices.ensures) (c.in_ok-held.ensures.held f said at);
      surplus_is = c.in_ok-surplus.ensures.surplus;
      small_surplus = c.in_ok-surplus.ensures.small;
    })
