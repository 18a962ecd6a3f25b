-- What shows the clauses of `make_together` of `src/session.rt`.
use Rattle.std.proofs.Common.{take, subst, sym, ◌*◌, ◌+◌, ◌≤◌, length, map}
use Rattle.tn_firm.specs.declared.value.FirmValue.{FirmValue}
use Rattle.tn_firm.specs.Firms.{firm_of}
use Rattle.tn_market.specs.Graph.{graph_worths}
use Rattle.tn_market.specs.Traded.{Traded}
use Rattle.tn_commands.specs.Session.{AreAfter}
use Rattle.tn_commands.proofs.EditLemmas.{stands_together}
use Rattle.tn_commands.proofs.session.make_together.Goals as goal

pub returns-clause-stands : goal.returns-clause-stands
returns-clause-stands c =
    let done = c.admit_only.ensures in
    stands_together c.args.market.now.firms c.args.market.now.trades c.args.edits.now c.args.k c.at.result.now
    c.args.kept.now c.keep_all.new.kept c.keep_all.new.used c.args.session.now c.admit_only.new.self c.at.ensures
    c.requires.stands done.market done.equilibrium done.prices
    (λ before. c.keep_all.ensures (take c.args.k c.args.edits.now)
    (subst (AreAfter c.args.market.now.trades (take c.args.k c.args.edits.now) c.args.kept.now) (sym c.admitted.ensures)
    before)) done.admitted

pub returns-clause-asked : goal.returns-clause-asked
returns-clause-asked c =
    subst (λ (m : Traded FirmValue). c.admit_only.new.steps
    ≤ c.args.steps.now + length m.trades * graph_worths (map firm_of m.firms)) c.requires.stands.stands.market
    c.admit_only.ensures.asked
