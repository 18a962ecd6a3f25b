-- What shows the clauses of `local_test` of `src/local.rt`.
use Rattle.std.proofs.Common.{◌≡◌, ℕ, ◌^◌, ◌≤◌, ◌-◌, sym, ◌∙◌, subst, refl, arith, length}
use Rattle.tn_exchange.specs.Rows.{firm_of_table}
use Rattle.tn_exchange.specs.Verdicts.{IfFails, IsVerdictOn}
use Rattle.tn_exchange.proofs.RowLemmas.{own_bundles}
use Rattle.tn_base.specs.Table.{buys_of}
use Rattle.tn_firm_laws.specs.Close.{AreClose}
use Rattle.tn_firm_laws.proofs.QuadLemmas.{none_fails_from_quads}
use Rattle.tn_local.specs.First.{IsFirstCloseFailure}
use Rattle.tn_local.proofs.VerdictLemmas.{first_close, no_more_close, none_above_close, none_fails_close, close_not_none}
use Rattle.tn_local.proofs.local.local_test.Goals as goal

pub loop-bits-init : goal.loop-bits-init
loop-bits-init c =
    let all : 2 ^ length c.args.table.now.sides ≤ c.bundles-bits.result = omega arith in
    none_above_close (firm_of_table c.args.table.now) (own_bundles c.args.table.now) c.bundles-bits.result all

pub loop-bits-preserved-in-Holds : goal.loop-bits-preserved-in-Holds
loop-bits-preserved-in-Holds c =
    no_more_close (firm_of_table c.args.table.now) (c.loop-bits.bits - 1)
    (λ s above. c.loop-bits.invariant s (omega (arith, above)))
    (λ s within f. subst (IsVerdictOn (firm_of_table c.args.table.now) (λ t. (t.x ≡ c.from_bits-x.result)
    × AreClose (buys_of c.args.table.now.sides) c.from_bits-x.result t.y)) c.in-Holds.is c.test_from.ensures s (
      within.0 ∙ sym c.from_bits-x.ensures,
      subst (λ (z : ℕ). AreClose (buys_of c.args.table.now.sides) z s.y)
          (sym c.from_bits-x.ensures) within.1,
    ) f)

pub returns-in_default-test_from-clause-first : goal.returns-in_default-test_from-clause-first
returns-in_default-test_from-clause-first c =
    first_close (firm_of_table c.args.table.now) c.from_bits-x.result c.test_from.result
    c.in_default-test_from.not-Holds c.test_from.ensures
    (λ s above. c.loop-bits.invariant s (omega (arith, above, c.from_bits-x.ensures)))

pub returns-in_default-test_from-clause-holds : goal.returns-in_default-test_from-clause-holds
returns-in_default-test_from-clause-holds c =
    let first : IfFails c.test_from.result (IsFirstCloseFailure (firm_of_table c.args.table.now)) =
    first_close (firm_of_table c.args.table.now) c.from_bits-x.result c.test_from.result
    c.in_default-test_from.not-Holds c.test_from.ensures
    (λ s above. c.loop-bits.invariant s (omega (arith, above, c.from_bits-x.ensures))) in (
      (λ e. absurd (c.in_default-test_from.not-Holds e)),
      close_not_none (firm_of_table c.args.table.now) c.test_from.result first,
    )

pub returns-clause-holds : goal.returns-clause-holds
returns-clause-holds c = (
  (λ e. none_fails_close (firm_of_table c.args.table.now) (own_bundles c.args.table.now) c.requires
      (λ s above. c.loop-bits.invariant s (omega (arith, above)))),
  (λ none. refl),
)

pub returns-then-quads_exchange-clause-holds : goal.returns-then-quads_exchange-clause-holds
returns-then-quads_exchange-clause-holds c = (
  (λ e. none_fails_from_quads (firm_of_table c.args.table.now) (own_bundles c.args.table.now) c.requires
      (c.quads_exchange.ensures.0 c.if-quads_exchange.true)),
  λ none. refl,
)
