-- What shows the clauses of `best_of_table` of `src/table.rt`.
use Rattle.std.proofs.Common.{ℕ, pos, subst, arith}
use Rattle.tn_base.specs.Firm.{utility}
use Rattle.tn_exchange.specs.Rows.{firm_of_table}
use Rattle.tn_model.specs.Prices.{price_at}
use Rattle.tn_raw_answers.specs.Stands.{Tries}
use Rattle.tn_raw_answers.proofs.TableLemmas.{none_below, one_more, all_below}
use Rattle.tn_raw_answers.proofs.table.best_of_table.Goals as goal

pub loop-bits-init : goal.loop-bits-init
loop-bits-init c =
    none_below (utility (pos 1) (price_at c.args.prices.now) (firm_of_table c.args.table.now)) c.start-best.result
    c.start-best.ensures

pub loop-bits-preserved : goal.loop-bits-preserved
loop-bits-preserved c =
    let values = utility (pos 1) (price_at c.args.prices.now) (firm_of_table c.args.table.now) in
    one_more values c.loop-bits.bits c.loop-bits.best c.better-best.result c.loop-bits.invariant
    (subst (λ (x : ℕ). Tries values x c.loop-bits.best c.better-best.result) c.from_bits.ensures c.better-best.ensures)

pub returns : goal.returns
returns c =
    let outside = c.loop-bits-test.false in
    let count = c.bundles-bits-end.ensures in
    all_below c.args.table.now (price_at c.args.prices.now) c.loop-bits.bits c.loop-bits.best
    (omega (arith, outside, count)) c.loop-bits.invariant
