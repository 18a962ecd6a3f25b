-- What shows the clauses of `own_prices` of `src/judge.rt`.
use Rattle.std.proofs.Common.{arith, refl, sym, subst, pos, ℤ, ◌+◌}
use Rattle.std.proofs.lemmas.Int.{ints}
use Rattle.std.proofs.lemmas.List.Elements.{All-replicate}
use Rattle.std.proofs.Math.ListN.{set}
use Rattle.tn_base.specs.Arcs.{IsAtMost}
use Rattle.tn_model.specs.Prices.{price_at}
use Rattle.tn_model.specs.Limits.{most_number}
use Rattle.tn_market.specs.Widths.{most_own}
use Rattle.tn_price.specs.Standings.{AreOwnPrices}
use Rattle.tn_market.proofs.AskLemmas.{as_is}
use Rattle.tn_price.proofs.JudgeLemmas.{none_priced, one_priced, price_fits}
use Rattle.tn_price.proofs.judge.own_prices.Goals as goal

pub loop-k-init : goal.loop-k-init
loop-k-init g c =
    none_priced c.args.market.now.trades (price_at c.args.prices.now) c.args.f _ refl
    (All-replicate (λ z. IsAtMost z most_number) most_own (pos 0) (record {
      low = omega (arith, ints);
      high =
          omega (arith, ints);
    }))

pub loop-k-preserved : goal.loop-k-preserved
loop-k-preserved g c =
    let few = c.requires.few in
    let inside = c.loop-k-test.true in
    let plain = as_is c.at.result (price_fits c.args.prices.now c.own.result c.at.result c.at.ensures c.requires.small)
    in
    subst (λ (z : ℤ). AreOwnPrices c.args.market.now.trades (price_at c.args.prices.now) c.args.f (c.loop-k.k + 1)
    (set c.loop-k.own c.loop-k.k z)) (sym plain)
    (one_priced c.args.market.now.trades c.args.prices.now c.args.f c.loop-k.k c.own.result c.at.result c.loop-k.own
    c.loop-k.invariant (omega (arith, few, inside))
    c.own.ensures.trade c.at.ensures c.requires.small)
