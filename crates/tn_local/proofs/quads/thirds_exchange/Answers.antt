-- What shows the clauses of `thirds_exchange` of `src/quads.rt`.
use Rattle.std.proofs.Common.{◌+◌, ◌<◌, ◌≤◌, refl, sym, ◌∙◌, arith, length}
use Rattle.std.proofs.lemmas.Bool.{false≢true}
use Rattle.tn_base.specs.Table.{buys_of}
use Rattle.tn_exchange.specs.Rows.{firm_of_table}
use Rattle.tn_local.specs.Quads.{IsLow, AreLowTrades, ThreeExchange}
use Rattle.tn_local.proofs.QuadLemmas.{none_between, one_passes, one_is_high, all_pass}
use Rattle.tn_local.proofs.quads.thirds_exchange.Goals as goal
use Rattle.tn_local.proofs.quads.thirds_exchange.Goals.{else-has-via-then-has+else-not-three_exchange, else-has-via-else-has}

pub loop-c-init : goal.loop-c-init
loop-c-init c =
    none_between (firm_of_table c.args.table.now) c.args.z (c.args.b + 1)
    (ThreeExchange (firm_of_table c.args.table.now) c.args.z c.args.a c.args.b)

pub returns-then-not-three_exchange : goal.returns-then-not-three_exchange
returns-then-not-three_exchange c =
    let place : c.loop-c.c < length c.args.table.now.sides =
    omega (arith, c.loop-c-test.true, c.trades-end.ensures.count) in
    let all : AreLowTrades (length c.args.table.now.sides) (buys_of c.args.table.now.sides) c.args.z c.args.low =
    c.requires.low in
    let low : IsLow (length c.args.table.now.sides) (buys_of c.args.table.now.sides) c.args.z c.loop-c.c =
    (all c.loop-c.c place).0 (sym c.has.ensures ∙ c.if-has.true) in
    let from = c.loop-c.invariant.0 in (
      (λ t. absurd (false≢true t)),
      λ all. sym c.if-not-three_exchange.true
          ∙ c.three_exchange.ensures.1 (all c.loop-c.c (omega (arith, from)) low),
    )

pub loop-c-preserved : goal.loop-c-preserved
loop-c-preserved c =
    let all : AreLowTrades (length c.args.table.now.sides) (buys_of c.args.table.now.sides) c.args.z c.args.low =
    c.requires.low in
    elim c.else-has.branch [
      | else-has-via-then-has+else-not-three_exchange w ↦
          one_passes (firm_of_table c.args.table.now) c.args.z (c.args.b + 1) c.loop-c.c
          (ThreeExchange (firm_of_table c.args.table.now) c.args.z c.args.a c.args.b) c.loop-c.invariant
          (w.three_exchange.ensures.0 w.if-not-three_exchange.false)
      | else-has-via-else-has w ↦
          one_is_high (firm_of_table c.args.table.now) c.args.z c.args.low (c.args.b + 1) c.loop-c.c
          (ThreeExchange (firm_of_table c.args.table.now) c.args.z c.args.a c.args.b) all
          (omega (arith, c.loop-c-test.true, c.trades-end.ensures.count)) (sym c.has.ensures ∙ w.if-has.false)
          c.loop-c.invariant
    ]

pub returns : goal.returns
returns c =
    let most : length c.args.table.now.sides ≤ c.loop-c.c =
    omega (arith, c.loop-c-test.false, c.trades-end.ensures.count) in (
      (λ t. all_pass (firm_of_table c.args.table.now) c.args.z c.args.b c.loop-c.c
          (ThreeExchange (firm_of_table c.args.table.now) c.args.z c.args.a c.args.b) most c.loop-c.invariant),
      λ all. refl,
    )
