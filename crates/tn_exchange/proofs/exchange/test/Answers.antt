-- What shows the clauses of `test` of `src/exchange.rt`.
use Rattle.std.proofs.Common.{◌^◌, ◌≤◌, ◌-◌, sym, ◌∙◌, subst, refl, arith, length}
use Rattle.tn_exchange.specs.Rows.{firm_of_table}
use Rattle.tn_exchange.specs.TestOrder.{IsFirstFailure}
use Rattle.tn_exchange.specs.Verdicts.{IfFails, IsVerdictOn}
use Rattle.tn_exchange.proofs.RowLemmas.{own_bundles}
use Rattle.tn_exchange.proofs.TestLemmas.{OfFirst, first_of_all, fails_not_none, none_more_x, none_above, none_fails}
use Rattle.tn_exchange.proofs.exchange.test.Goals as goal

pub loop-bits-init : goal.loop-bits-init
loop-bits-init c =
    let all : 2 ^ length c.args.table.now.sides ≤ c.bundles-bits.result = omega arith in
    none_above (firm_of_table c.args.table.now) (own_bundles c.args.table.now) c.bundles-bits.result all

pub loop-bits-preserved-in-Holds : goal.loop-bits-preserved-in-Holds
loop-bits-preserved-in-Holds c =
    none_more_x (firm_of_table c.args.table.now) (c.loop-bits.bits - 1)
    (λ s above. c.loop-bits.invariant s (omega (arith, above)))
    (λ s within f. subst (IsVerdictOn (firm_of_table c.args.table.now) (OfFirst c.from_bits-x.result)) c.in-Holds.is
    c.test_from.ensures s
    (within ∙ sym c.from_bits-x.ensures) f)

pub returns-in_default-test_from-clause-first : goal.returns-in_default-test_from-clause-first
returns-in_default-test_from-clause-first c =
    first_of_all (firm_of_table c.args.table.now) c.from_bits-x.result c.test_from.result
    c.in_default-test_from.not-Holds c.test_from.ensures
    (λ s above. c.loop-bits.invariant s (omega (arith, above, c.from_bits-x.ensures)))

pub returns-in_default-test_from-clause-holds : goal.returns-in_default-test_from-clause-holds
returns-in_default-test_from-clause-holds c =
    let first : IfFails c.test_from.result (IsFirstFailure (firm_of_table c.args.table.now)) =
    first_of_all (firm_of_table c.args.table.now) c.from_bits-x.result c.test_from.result
    c.in_default-test_from.not-Holds c.test_from.ensures
    (λ s above. c.loop-bits.invariant s (omega (arith, above, c.from_bits-x.ensures))) in (
      (λ e. absurd (c.in_default-test_from.not-Holds e)),
      fails_not_none (firm_of_table c.args.table.now) c.test_from.result first,
    )

pub returns-clause-holds : goal.returns-clause-holds
returns-clause-holds c = (
  (λ e. none_fails (firm_of_table c.args.table.now) (λ s above. c.loop-bits.invariant s (omega (arith, above)))),
  (λ none. refl),
)
