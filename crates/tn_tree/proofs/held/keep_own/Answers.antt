-- What shows the clauses of `keep_own` of `src/held.rt`.
use Rattle.std.proofs.Common.{◌≡◌, ℕ, ◌∙◌, List, length, map, refl, ap, subst, arith, get_or}
use Rattle.std.proofs.lemmas.List.{length-map}
use Rattle.tn_counts.specs.Counts.{trade_at}
use Rattle.tn_counts.specs.declared.trade.UnitTrade.{UnitTrade}
use Rattle.tn_counts.proofs.NetLemmas.{between_at}
use Rattle.tn_tree.specs.Held.{IsKept, gain_at}
use Rattle.tn_tree.specs.Lists.{count_in}
use Rattle.tn_tree.proofs.HeldLemmas.{ends_read}
use Rattle.tn_tree.proofs.held.keep_own.Goals as goal

-- the ends of trades that were read
ends_are : (end : UnitTrade → ℕ) (read made : List ℕ) (from trades : List UnitTrade) (t : ℕ)
    → end (record { seller = 0; buyer = 0; units = 0 }) ≡ 0 → read ≡ made → made ≡ map end from → from ≡ trades
    → (get_or read t 0 ≡ end (trade_at trades t)) × (length read ≡ length trades)
ends_are end read made from trades t none first second third =
    let whole = first ∙ second ∙ ap (map end) third in
    (ap (λ (xs : List ℕ). get_or xs t 0) whole ∙ ends_read end trades t none, ap length whole ∙ length-map trades end)

pub kept-requires-clause-ends : goal.kept-requires-clause-ends
kept-requires-clause-ends c = λ t below.
    let ends = ends_are (λ trade. trade.seller) c.deref-2.result.now c.in_ok-ends.ends.items c.deref.result.now
    c.args.market.now.trades.items t refl c.deref-2.ensures.value c.in_ok-ends.ensures c.deref.ensures.value in
    let sized = ends.1 in
    let is = ends.0 in
    let known = (between_at c.args.market.now c.requires.market t (omega (arith, below, sized))).seller in
    let firms = c.requires.firms in
    omega (arith, is, known, firms)

pub kept-requires-2-clause-ends : goal.kept-requires-2-clause-ends
kept-requires-2-clause-ends c = λ t below.
    let ends = ends_are (λ trade. trade.buyer) c.deref-5.result.now c.in_ok-ends-2.ends.items c.deref-4.result.now
    c.args.market.now.trades.items t refl c.deref-5.ensures.value c.in_ok-ends-2.ensures c.deref-4.ensures.value in
    let sized = ends.1 in
    let is = ends.0 in
    let known = (between_at c.args.market.now c.requires.market t (omega (arith, below, sized))).buyer in
    let firms = c.requires.firms in
    omega (arith, is, known, firms)

pub returns-clause-sold : goal.returns-clause-sold
returns-clause-sold c =
    c.in_ok-sold.ensures.sized
    ∙ (ends_are (λ trade. trade.seller) c.deref-2.result.now c.in_ok-ends.ends.items c.deref.result.now
    c.args.market.now.trades.items 0 refl c.deref-2.ensures.value c.in_ok-ends.ensures c.deref.ensures.value).1

pub returns-clause-bought : goal.returns-clause-bought
returns-clause-bought c =
    c.in_ok-bought.ensures.sized
    ∙ (ends_are (λ trade. trade.buyer) c.deref-5.result.now c.in_ok-ends-2.ends.items c.deref-4.result.now
    c.args.market.now.trades.items 0 refl c.deref-5.ensures.value c.in_ok-ends-2.ensures c.deref-4.ensures.value).1

pub returns-clause-kept : goal.returns-clause-kept
returns-clause-kept c = record {
  sellers = λ t below.
      let ends = ends_are (λ trade. trade.seller) c.deref-2.result.now c.in_ok-ends.ends.items c.deref.result.now
      c.args.market.now.trades.items t refl c.deref-2.ensures.value c.in_ok-ends.ensures c.deref.ensures.value in
      let sized = ends.1 in
      subst (λ (f : ℕ). IsKept (gain_at c.args.firms.now f) (count_in c.args.counts.now t)
      (count_in c.args.best.now.sold.items t) (count_in c.in_ok-sold.sold.items t)) ends.0
      (subst (λ (xs : List ℕ). IsKept (gain_at c.args.firms.now (get_or c.deref-2.result.now t 0))
      (count_in c.args.counts.now t) (count_in xs t) (count_in c.in_ok-sold.sold.items t)) c.deref-3.ensures.value
      (c.in_ok-sold.ensures.kept t (omega (arith, below, sized))));
  buyers = λ t below.
      let ends = ends_are (λ trade. trade.buyer) c.deref-5.result.now c.in_ok-ends-2.ends.items c.deref-4.result.now
      c.args.market.now.trades.items t refl c.deref-5.ensures.value c.in_ok-ends-2.ensures c.deref-4.ensures.value in
      let sized = ends.1 in
      subst (λ (f : ℕ). IsKept (gain_at c.args.firms.now f) (count_in c.args.counts.now t)
      (count_in c.args.best.now.bought.items t) (count_in c.in_ok-bought.bought.items t)) ends.0
      (subst (λ (xs : List ℕ). IsKept (gain_at c.args.firms.now (get_or c.deref-5.result.now t 0))
      (count_in c.args.counts.now t) (count_in xs t) (count_in c.in_ok-bought.bought.items t)) c.deref-6.ensures.value
      (c.in_ok-bought.ensures.kept t (omega (arith, below, sized))));
}
