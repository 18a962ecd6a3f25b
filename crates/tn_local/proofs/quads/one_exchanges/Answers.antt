-- What shows the clauses of `one_exchanges` of `src/quads.rt`.
use Rattle.std.proofs.Common.{◌+◌, ◌<◌, ◌≤◌, refl, sym, ◌∙◌, arith, length}
use Rattle.std.proofs.lemmas.Bool.{false≢true}
use Rattle.tn_base.specs.Table.{buys_of}
use Rattle.tn_exchange.specs.Rows.{firm_of_table}
use Rattle.tn_local.specs.Quads.{IsLow, AreLowTrades, TwoExchange}
use Rattle.tn_local.proofs.QuadLemmas.{none_between, one_passes, one_is_high, all_pass}
use Rattle.tn_local.proofs.quads.one_exchanges.Goals as goal
use Rattle.tn_local.proofs.quads.one_exchanges.Goals.{else-has-via-then-has+else-not-two_exchange, else-has-via-else-has}

pub loop-b-init : goal.loop-b-init
loop-b-init c =
    none_between (firm_of_table c.args.table.now) c.args.z (c.args.a + 1)
    (TwoExchange (firm_of_table c.args.table.now) c.args.z c.args.a)

pub returns-then-not-two_exchange : goal.returns-then-not-two_exchange
returns-then-not-two_exchange c =
    let place : c.loop-b.b < length c.args.table.now.sides =
    omega (arith, c.loop-b-test.true, c.trades-end.ensures.count) in
    let all : AreLowTrades (length c.args.table.now.sides) (buys_of c.args.table.now.sides) c.args.z c.args.low =
    c.requires.low in
    let low : IsLow (length c.args.table.now.sides) (buys_of c.args.table.now.sides) c.args.z c.loop-b.b =
    (all c.loop-b.b place).0 (sym c.has.ensures ∙ c.if-has.true) in
    let from = c.loop-b.invariant.0 in (
      (λ t. absurd (false≢true t)),
      λ all. sym c.if-not-two_exchange.true
          ∙ c.two_exchange.ensures.1 (all c.loop-b.b (omega (arith, from)) low),
    )

pub loop-b-preserved : goal.loop-b-preserved
loop-b-preserved c =
    let all : AreLowTrades (length c.args.table.now.sides) (buys_of c.args.table.now.sides) c.args.z c.args.low =
    c.requires.low in
    elim c.else-has.branch [
      | else-has-via-then-has+else-not-two_exchange w ↦
          one_passes (firm_of_table c.args.table.now) c.args.z (c.args.a + 1) c.loop-b.b
          (TwoExchange (firm_of_table c.args.table.now) c.args.z c.args.a) c.loop-b.invariant
          (w.two_exchange.ensures.0 w.if-not-two_exchange.false)
      | else-has-via-else-has w ↦
          one_is_high (firm_of_table c.args.table.now) c.args.z c.args.low (c.args.a + 1) c.loop-b.b
          (TwoExchange (firm_of_table c.args.table.now) c.args.z c.args.a) all
          (omega (arith, c.loop-b-test.true, c.trades-end.ensures.count)) (sym c.has.ensures ∙ w.if-has.false)
          c.loop-b.invariant
    ]

pub returns : goal.returns
returns c =
    let most : length c.args.table.now.sides ≤ c.loop-b.b =
    omega (arith, c.loop-b-test.false, c.trades-end.ensures.count) in (
      (λ t. all_pass (firm_of_table c.args.table.now) c.args.z c.args.a c.loop-b.b
          (TwoExchange (firm_of_table c.args.table.now) c.args.z c.args.a) most c.loop-b.invariant),
      λ all. refl,
    )
