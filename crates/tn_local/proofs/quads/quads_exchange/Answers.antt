-- What shows the clauses of `quads_exchange` of `src/quads.rt`.
use Rattle.std.proofs.Common.{ℕ, refl, sym, ◌∙◌, subst, arith, inl, inr}
use Rattle.std.proofs.lemmas.Bool.{cases_eq, false≢true}
use Rattle.tn_firm_laws.specs.Quads.{QuadsExchangeAt}
use Rattle.tn_exchange.specs.Rows.{firm_of_table}
use Rattle.tn_local.proofs.quads.quads_exchange.Goals as goal

pub returns-then-not-exchange_at : goal.returns-then-not-exchange_at
returns-then-not-exchange_at c = (
  (λ t. absurd (false≢true t)),
  λ quads. sym c.if-not-exchange_at.true ∙ c.exchange_at.ensures.1 (quads c.from_bits.result
      (omega (arith, c.from_bits.ensures, c.loop-bits-test.true, c.bundles-bits-end.ensures))),
)

pub loop-bits-preserved : goal.loop-bits-preserved
loop-bits-preserved c = λ z below. elim (cases_eq z c.loop-bits.bits) [
  | inl e ↦ subst (λ (w : ℕ). QuadsExchangeAt (firm_of_table c.args.table.now) w) (c.from_bits.ensures ∙ sym e)
      (c.exchange_at.ensures.0 c.if-not-exchange_at.false)
  | inr d ↦ c.loop-bits.invariant z (omega (arith, below, d))
]

pub returns : goal.returns
returns c = (
  (λ t z own. c.loop-bits.invariant z (omega (
    arith,
    own,
    c.loop-bits-test.false,
    c.bundles-bits-end.ensures,
  ))),
  λ quads. refl,
)
