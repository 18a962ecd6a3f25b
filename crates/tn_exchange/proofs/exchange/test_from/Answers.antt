-- What shows the clauses of `test_from` of `src/exchange.rt`.
use Rattle.std.proofs.Common.{◌^◌, ◌≤◌, sym, ◌∙◌, subst, ap, arith, length}
use Rattle.tn_exchange.specs.Rows.{firm_of_table, worth_in}
use Rattle.tn_exchange.specs.Verdicts.{IsVerdictOn}
use Rattle.tn_exchange.proofs.RowLemmas.{own_bundles}
use Rattle.tn_exchange.proofs.TestLemmas.{OfPair, first_from_pair, none_more_y, impossible_y, none_of_first}
use Rattle.tn_exchange.proofs.exchange.test_from.Goals as goal
use Rattle.tn_exchange.proofs.exchange.test_from.Goals.{in-Some+in-Holds, in_default}

pub returns-in_default-test_pair : goal.returns-in_default-test_pair
returns-in_default-test_pair c =
    first_from_pair (firm_of_table c.args.table.now) c.args.x c.from_bits-y.result c.test_pair.result
    c.in_default-test_pair.not-Holds c.test_pair.ensures
    (λ s within below f. c.loop-bits.invariant s within (omega (arith, below, c.from_bits-y.ensures)) f)

pub loop-bits-preserved : goal.loop-bits-preserved
loop-bits-preserved c = none_more_y (firm_of_table c.args.table.now) c.args.x c.loop-bits.bits c.loop-bits.invariant
    (elim c.match-worth.branch [
      | in-Some+in-Holds w ↦ λ s within f.
          subst (IsVerdictOn (firm_of_table c.args.table.now) (OfPair c.args.x c.from_bits-y.result)) w.in-Holds.is
          w.test_pair.ensures s
          (within.0, within.1 ∙ sym c.from_bits-y.ensures) f
      | in_default w ↦ impossible_y (firm_of_table c.args.table.now) c.args.x c.loop-bits.bits
          (sym (w.in_default.ensures.worth ∙ ap (worth_in c.args.table.now) c.from_bits-y.ensures))
    ])

pub returns : goal.returns
returns c =
    let all : 2 ^ length c.args.table.now.sides ≤ c.loop-bits.bits =
    omega (arith, c.loop-bits-test.false, c.bundles-bits-end.ensures) in
    none_of_first (firm_of_table c.args.table.now) c.args.x c.loop-bits.bits (own_bundles c.args.table.now) all
    c.loop-bits.invariant
