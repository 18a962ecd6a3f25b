-- What shows the clauses of `exchange_at` of `src/quads.rt`.
use Rattle.std.proofs.Common.{◌<◌, ◌≤◌, refl, sym, ◌∙◌, subst, arith, length}
use Rattle.std.proofs.lemmas.Bool.{false≢true}
use Rattle.tn_base.specs.Table.{buys_of}
use Rattle.tn_exchange.specs.Rows.{firm_of_table}
use Rattle.tn_local.specs.Quads.{IsLow, AreLowTrades, OneExchanges}
use Rattle.tn_local.proofs.QuadLemmas.{none_between, one_passes, one_is_high, each_passes}
use Rattle.tn_local.proofs.TradeLemmas.{quads_from_trades, trades_from_quads}
use Rattle.tn_local.proofs.quads.exchange_at.Goals as goal
use Rattle.tn_local.proofs.quads.exchange_at.Goals.{else-has-via-then-has+else-not-one_exchanges, else-has-via-else-has}

pub one_exchanges-requires-clause-low : goal.one_exchanges-requires-clause-low
one_exchanges-requires-clause-low c =
    subst (λ b. AreLowTrades (length c.args.table.now.sides) b c.args.z c.low_trades-low.result) c.requires.bought
    (c.low_trades-low.ensures (length c.args.table.now.sides))

pub loop-a-init : goal.loop-a-init
loop-a-init c =
    none_between (firm_of_table c.args.table.now) c.args.z 0 (OneExchanges (firm_of_table c.args.table.now) c.args.z)

pub returns-then-not-one_exchanges : goal.returns-then-not-one_exchanges
returns-then-not-one_exchanges c =
    let place : c.loop-a.a < length c.args.table.now.sides =
    omega (arith, c.loop-a-test.true, c.trades-a-end.ensures.count) in
    let all : AreLowTrades (length c.args.table.now.sides) (buys_of c.args.table.now.sides) c.args.z
    c.low_trades-low.result =
    subst (λ b. AreLowTrades (length c.args.table.now.sides) b c.args.z c.low_trades-low.result) c.requires.bought
    (c.low_trades-low.ensures (length c.args.table.now.sides)) in
    let low : IsLow (length c.args.table.now.sides) (buys_of c.args.table.now.sides) c.args.z c.loop-a.a =
    (all c.loop-a.a place).0 (sym c.has.ensures ∙ c.if-has.true) in
    let from = c.loop-a.invariant.0 in (
      (λ t. absurd (false≢true t)),
      λ all. sym c.if-not-one_exchanges.true
          ∙ c.one_exchanges.ensures.1 (trades_from_quads (firm_of_table c.args.table.now) c.args.z all c.loop-a.a low),
    )

pub loop-a-preserved : goal.loop-a-preserved
loop-a-preserved c =
    let all : AreLowTrades (length c.args.table.now.sides) (buys_of c.args.table.now.sides) c.args.z
    c.low_trades-low.result =
    subst (λ b. AreLowTrades (length c.args.table.now.sides) b c.args.z c.low_trades-low.result) c.requires.bought
    (c.low_trades-low.ensures (length c.args.table.now.sides)) in
    elim c.else-has.branch [
      | else-has-via-then-has+else-not-one_exchanges w ↦
          one_passes (firm_of_table c.args.table.now) c.args.z 0 c.loop-a.a
          (OneExchanges (firm_of_table c.args.table.now) c.args.z) c.loop-a.invariant
          (w.one_exchanges.ensures.0 w.if-not-one_exchanges.false)
      | else-has-via-else-has w ↦
          one_is_high (firm_of_table c.args.table.now) c.args.z c.low_trades-low.result 0 c.loop-a.a
          (OneExchanges (firm_of_table c.args.table.now) c.args.z) all
          (omega (arith, c.loop-a-test.true, c.trades-a-end.ensures.count)) (sym c.has.ensures ∙ w.if-has.false)
          c.loop-a.invariant
    ]

pub returns : goal.returns
returns c =
    let most : length c.args.table.now.sides ≤ c.loop-a.a =
    omega (arith, c.loop-a-test.false, c.trades-a-end.ensures.count) in (
      (λ t. quads_from_trades (firm_of_table c.args.table.now) c.args.z
          (each_passes (firm_of_table c.args.table.now) c.args.z c.loop-a.a
          (OneExchanges (firm_of_table c.args.table.now) c.args.z) most c.loop-a.invariant)),
      λ all. refl,
    )
