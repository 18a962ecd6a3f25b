-- What shows the clauses of `solves_two_stalls` of `src/two_stalls.rt`.
use Rattle.std.proofs.Common.{◌≡◌, length, lit<, arith, IfOk, Result, subst}
use Rattle.tn_base.specs.declared.memory.OutOfMemory.{OutOfMemory}
use Rattle.tn_base.proofs.SetLemmas.{has-zero}
use Rattle.tn_market.specs.Traded.{Traded}
use Rattle.tn_tests.specs.declared.stalls.Stall.{Stall}
use Rattle.tn_tests.proofs.two_stalls.solves_two_stalls.Goals as goal

pub solve_among-requires : goal.solve_among-requires
solve_among-requires g c =
    let trades : length c.expect-market.result.trades ≡ 2 =
    subst (λ (r : Result (Traded Stall) OutOfMemory). IfOk r (λ market. length market.trades ≡ 2))
    c.expect-market.ensures c.two_stalls.ensures.two_trades in (
      lit< tt,
      (
        lit< tt,
        (
          omega (arith, trades),
          (
            c.solve_in.ensures.one_each,
            (
              (λ t is. absurd (cc (is, has-zero t))),
              (λ f v is. omega (arith, trades)),
            ),
          ),
        ),
      ),
    )
