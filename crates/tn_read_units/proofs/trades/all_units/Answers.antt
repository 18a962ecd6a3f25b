-- What shows the clauses of `all_units` of `src/trades.rt`.
use Rattle.std.proofs.Common.{ap, ◌∙◌, arith}
use Rattle.std.proofs.lemmas.List.{take_all}
use Rattle.std.proofs.lemmas.List.Elements.{All-get_or}
use Rattle.std.proofs.lemmas.List.Sums.{sum_by_more}
use Rattle.tn_counts.specs.declared.trade.UnitTrade.{UnitTrade}
use Rattle.tn_read_units.specs.Heads.{all_units}
use Rattle.tn_read_units.specs.Trades.{HasFewUnits}
use Rattle.tn_read_units.proofs.trades.all_units.Goals as goal

abbrev none : UnitTrade
none = record { seller = 0; buyer = 0; units = 0 }

pub loop-trade-preserved : goal.loop-trade-preserved
loop-trade-preserved c =
    let trades = c.args.trades.now in
    let k = c.loop-trade.trade-index in
    let more = sum_by_more (λ (trade : UnitTrade). trade.units) trades k none c.loop-trade-test.true in
    let small = All-get_or HasFewUnits trades k none c.loop-trade-test.true c.requires.each in
    let i = c.loop-trade.invariant in
    record {
      sum = omega (arith, more, i.sum);
      few = omega (arith, small, i.few);
    }

pub returns : goal.returns
returns c =
    c.loop-trade.invariant.sum
    ∙ ap all_units (take_all c.loop-trade.trade-index c.args.trades.now (let past = c.loop-trade-test.false in
    omega (arith, past)))
