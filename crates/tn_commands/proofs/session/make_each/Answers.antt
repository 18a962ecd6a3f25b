-- What shows the clauses of `make_each` of `src/session.rt`.
use Rattle.std.proofs.Common.{ap, arith, map, take}
use Rattle.tn_firm.specs.declared.value.FirmValue.{FirmValue}
use Rattle.tn_firm.specs.Firms.{firm_of}
use Rattle.tn_flow.proofs.RoundLemmas.{worths_all, worths_step}
use Rattle.tn_market.specs.Graph.{graph_worths}
use Rattle.tn_market.specs.Traded.{Traded}
use Rattle.tn_commands.proofs.EditLemmas.{all_below, none_below, one_more_trade}
use Rattle.tn_commands.proofs.session.make_each.Goals as goal

pub loop-t-init : goal.loop-t-init
loop-t-init c = record {
  below = none_below c.args.market.now.firms c.args.market.now.trades (take c.args.k c.args.edits.now)
      c.at-edit.result.now
      c.args.kept.now c.args.session.now c.requires.stands;
  asked = omega arith;
}

pub loop-t-preserved : goal.loop-t-preserved
loop-t-preserved c =
    let below = c.loop-t.invariant.below in
    let worths = ap (λ (m : Traded FirmValue). graph_worths (map firm_of m.firms)) below.stands.market in
    record {
      below = one_more_trade c.args.market.now.firms c.args.market.now.trades (take c.args.k c.args.edits.now)
          c.at-edit.result.now c.loop-t.t c.ends.result c.loop-t.kept c.make_at.new.kept c.loop-t.session
          c.make_at.new.session
          c.ends.ensures below (c.make_at.ensures.stands c.args.market.now.firms c.args.market.now.trades below.stands)
          (c.make_at.ensures.here (take c.args.k c.args.edits.now)) c.make_at.ensures.elsewhere;
      asked = worths_step c.args.steps.now c.loop-t.steps c.make_at.new.steps
          (graph_worths (map firm_of c.args.market.now.firms)) c.loop-t.t c.loop-t.invariant.asked
          (omega (arith, c.make_at.ensures.asked, worths));
    }

pub returns-clause-stands : goal.returns-clause-stands
returns-clause-stands c =
    let end = c.loop-t-test.false in
    let count = c.trades-t-end.ensures.count in
    all_below c.args.market.now.firms c.args.market.now.trades c.args.edits.now c.args.k c.at-edit.result.now c.loop-t.t
    c.loop-t.kept c.loop-t.session c.at-edit.ensures (omega (arith, end, count))
    c.loop-t.invariant.below

pub returns-clause-asked : goal.returns-clause-asked
returns-clause-asked c =
    worths_all c.args.steps.now c.loop-t.steps (graph_worths (map firm_of c.args.market.now.firms)) c.loop-t.t _
    c.loop-t.invariant.asked
    (omega (arith, c.loop-t-test.false, c.loop-t.auto.t-end, c.trades-t-end.ensures.count))
