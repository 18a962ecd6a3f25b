-- What shows the clauses of `FirmValueFromKinds::from_table` of `src/made.rt`.
use Rattle.std.proofs.Common.{refl, sym, ap, ◌∙◌, length, Ok, Err}
use Rattle.tn_exchange.specs.Rows.{TableRows}
use Rattle.tn_read_firms.proofs.FirmLemmas.{tested_firm-holds, tested_firm-fails}
use Rattle.tn_read_firms.proofs.made.FirmValueFromKinds.from_table.Goals as goal

pub returns-in-Ok-clause-gives : goal.returns-in-Ok-clause-gives
returns-in-Ok-clause-gives c =
    tested_firm-holds c.args.head.now.ends c.args.f c.args.table (c.in-Ok.ensures.accepted.0 refl)
    ∙ ap Ok (sym c.in-Ok.ensures.same)

pub returns-in_ok-fault-in-Err-clause-gives : goal.returns-in_ok-fault-in-Err-clause-gives
returns-in_ok-fault-in-Err-clause-gives c =
    let refused = c.in-Err.ensures.refused in
    rw (← c.ends.ensures.is) (tested_firm-fails c.ends.result.now c.args.f c.trades.result c.args.table _ refused.first
    (c.trades.ensures.count ∙ ap (λ (t : TableRows). length t.sides) refused.same)
    ∙ ap Err (sym c.in_ok-fault-in-Err.ensures))
