-- What shows the clauses of `amounts_by_trade` of `src/market.rt`.
use Rattle.std.proofs.Common.{◌≡◌, ◌∙◌, ◌+◌, ◌<◌, ◌∷◌, [], ℕ, List, ap, arith, length, length-append, subst, sym}
use Rattle.tn_counts.specs.Counts.{trade_at}
use Rattle.tn_counts.specs.Laminar.{amounts_at}
use Rattle.tn_counts.specs.declared.trade.UnitAmounts.{UnitAmounts}
use Rattle.tn_read_units.specs.Placed.{amounts_for}
use Rattle.tn_read_units.proofs.MadeLemmas.{amounts_more}
use Rattle.tn_read_units.proofs.market.amounts_by_trade.Goals as goal

pub loop-t-preserved : goal.loop-t-preserved
loop-t-preserved c =
    let all = λ (k : ℕ). amounts_for c.args.firms.now k (trade_at c.args.trades.now k) in
    let added = c.in_ok-push.ensures.items in
    let count = c.loop-t.invariant.count in
    record {
      count = ap length added ∙ omega (arith, length-append c.loop-t.amounts.items (c.amounts_for.result ∷ []), count);
      each = subst (λ (l : List UnitAmounts). (k : ℕ) → k < c.loop-t.t + 1 → amounts_at l k ≡ all k) (sym added)
          (amounts_more c.loop-t.amounts.items c.loop-t.t c.amounts_for.result all count c.loop-t.invariant.each
          c.amounts_for.ensures);
    }
