-- What shows the clauses of `bar_at` of `src/moving.rt`.
use Rattle.std.proofs.Common.{◌∙◌, map, sym}
use Rattle.tn_session.proofs.StandingLemmas.{under_way_off}
use Rattle.tn_session.proofs.moving.bar_at.Goals as goal

pub returns-else-has-clause-under_way : goal.returns-else-has-clause-under_way
returns-else-has-clause-under_way g c =
    under_way_off (map g.V.Valuation.firm c.args.market.now.firms) c.args.market.now.trades c.args.rounds.now.graph
    c.args.rounds.now.finder c.args.rounds.now.allowed c.args.rounds.now.on c.args.t c.toggle.new.self
    c.requires.under_way c.toggle.ensures.toggled c.requires.admitted (sym c.has.ensures ∙ c.if-has.false)
