-- What shows the clauses of `Market::new` of `src/market.rt`.
use Rattle.std.proofs.Common.{arith, ◌≡◌, ◌+◌, length, ap, sym, ◌∙◌, subst, List, ℕ, map, slice_get, Some, ◌∷◌, [], Vec, Global}
use Rattle.std.proofs.lemmas.List.{length-append, length-map}
use Rattle.tn_model.specs.declared.ends.Ends.{Ends}
use Rattle.tn_market.specs.Traded.{HaveOwn, HasOnePlace, AreOwn}
use Rattle.tn_market.proofs.MarketLemmas.{one_place, one_listed, read_from, listed_count}
use Rattle.tn_market.proofs.market.Market.new.Goals as goal

pub own_trades-requires-clause-placed : goal.own_trades-requires-clause-placed
own_trades-requires-clause-placed g c =
    let is = read_from c.deref-firm-items.result.now c.args.firms.items c.loop-f.f c.firm-item.result
    c.deref-firm-items.ensures.value c.loop-f-test.true c.firm-item.is in
    let place = one_place g.V.Valuation.firm c.args.firms.items c.args.trades.items c.loop-f.f c.firm-item.result
    c.requires.network is in
    let counted = subst (λ (n : ℕ). HasOnePlace c.args.trades.items c.loop-f.f n) (sym c.trades.ensures.count) place in
    subst (λ (trades : List Ends). HasOnePlace trades c.loop-f.f c.trades.result) (sym c.deref.ensures.value) counted

pub loop-f-preserved : goal.loop-f-preserved
loop-f-preserved g c =
    let pushed = c.in_ok-push.ensures.items in
    let counted = c.loop-f.invariant.counted in
    let items_of : Vec ℕ Global → List ℕ = λ list. list.items in
    let is : slice_get c.deref-firm-items.result.now (length c.loop-f.own.items) ≡ Some c.firm-item.result =
    ap (slice_get c.deref-firm-items.result.now) counted
    ∙ read_from c.deref-firm-items.result.now _ c.loop-f.f c.firm-item.result (λ _. c.deref-firm-items.result.now)
    c.loop-f-test.true c.firm-item.is in
    let made : AreOwn c.args.trades.items (length c.loop-f.own.items) (g.V.Valuation.firm c.firm-item.result).count
    c.in_ok-own_trades.field-0.items =
    subst (λ (n : ℕ). AreOwn c.args.trades.items (length c.loop-f.own.items) n c.in_ok-own_trades.field-0.items)
    c.trades.ensures.count
    (subst (λ (f : ℕ). AreOwn c.args.trades.items f c.trades.result c.in_ok-own_trades.field-0.items) (sym counted)
    (subst (λ (trades : List Ends). AreOwn trades c.loop-f.f c.trades.result c.in_ok-own_trades.field-0.items)
    c.deref.ensures.value c.in_ok-own_trades.ensures)) in
    let next = one_listed g.V.Valuation.firm items_of c.deref-firm-items.result.now c.args.trades.items
    c.loop-f.own.items c.firm-item.result
    c.in_ok-own_trades.field-0 c.loop-f.invariant.own is made in
    record {
      counted = ap length pushed ∙ length-append c.loop-f.own.items (c.in_ok-own_trades.field-0 ∷ [])
          ∙ ap (λ (n : ℕ). n + 1) counted;
      own = subst (λ (lists : List (Vec ℕ Global)). HaveOwn (map g.V.Valuation.firm c.deref-firm-items.result.now)
          c.args.trades.items (map items_of lists)) (sym pushed) next;
    }

pub invariant_of-result : goal.invariant_of-result
invariant_of-result g c =
    let items_of : Vec ℕ Global → List ℕ = λ list. list.items in
    let firms_are = c.deref-firm-items.ensures.value in
    let few = c.requires.few_firms in
    let all : length c.loop-f.own.items ≡ length c.args.firms.items =
    c.loop-f.invariant.counted ∙ (omega (arith, c.loop-f-test.false, c.loop-f.auto.f-end)) ∙ ap length firms_are in
    record {
      network = c.requires.network;
      few_firms = omega (arith, few, length-map c.args.firms.items g.V.Valuation.firm);
      few_trades = c.requires.few_trades;
      as_many = listed_count g.V.Valuation.firm items_of c.args.firms.items c.loop-f.own.items all;
      own = subst (λ (firms : List g.row.V.Denot). HaveOwn (map g.V.Valuation.firm firms) c.args.trades.items
          (map items_of c.loop-f.own.items)) firms_are c.loop-f.invariant.own;
    }
