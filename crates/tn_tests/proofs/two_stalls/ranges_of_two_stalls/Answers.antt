-- What shows the clauses of `ranges_of_two_stalls` of `src/two_stalls.rt`.
use Rattle.std.proofs.Common.{◌≡◌, ◌*◌, length, map, lit<, lit≤, arith, IfOk, Result, subst}
use Rattle.std.specs.Prelude.{All}
use Rattle.std.proofs.lemmas.Int.{ints}
use Rattle.tn_base.specs.Arcs.{IsAtMost}
use Rattle.tn_base.specs.declared.memory.OutOfMemory.{OutOfMemory}
use Rattle.tn_market.specs.Supported.{AreSupports}
use Rattle.tn_market.specs.Traded.{Traded}
use Rattle.tn_market.specs.Valued.{IsWorthAtMost}
use Rattle.tn_network_laws.proofs.EachLemmas.{each_firm}
use Rattle.tn_price.specs.Supports.{IsPricedWithin, Supports}
use Rattle.tn_price.specs.declared.supported.Support.{Support}
use Rattle.tn_tests.specs.Stall.{stall}
use Rattle.tn_tests.specs.StallLemmas.{stall-within}
use Rattle.tn_tests.specs.declared.stalls.Stall.{Stall}
use Rattle.tn_tests.proofs.two_stalls.ranges_of_two_stalls.Goals as goal

pub range-requires : goal.range-requires
range-requires g c =
    let market = c.expect-market.result in
    let firms = map (λ (v : Stall). stall) market.firms in
    let on = c.toggle-2.new.self in
    let trades : length market.trades ≡ 2 =
    subst (λ (r : Result (Traded Stall) OutOfMemory). IfOk r (λ one. length one.trades ≡ 2)) c.expect-market.ensures
    c.two_stalls.ensures.two_trades in
    let supports : AreSupports firms market.trades on c.in-Supported.prices =
    subst (λ (support : Support). Supports firms market.trades on support) c.in-Supported.is
    (subst (λ (r : Result Support OutOfMemory). IfOk r (λ support. Supports firms market.trades on support))
    c.expect.ensures c.support.ensures.answer) in
    let small : All (λ price. IsAtMost price (2 * 8 * length market.trades)) c.in-Supported.prices =
    subst (λ (support : Support). IsPricedWithin (2 * 8 * length market.trades) support) c.in-Supported.is
    (subst (λ (r : Result Support OutOfMemory). IfOk r (IsPricedWithin (2 * 8 * length market.trades)))
    c.expect.ensures (c.support.ensures.prices 8
    (each_firm (λ (v : Stall). stall) (IsWorthAtMost 8) market.firms (λ v. stall-within)))) in (
      lit< tt,
      (
        omega (arith, trades),
        (
          (λ f v is. lit≤ tt),
          (
            supports,
            (λ k d below. let near = small k d below in record {
              low = omega (arith, ints, near.low, trades);
              high = omega (arith, ints, near.high, trades);
            }),
          ),
        ),
      ),
    )
