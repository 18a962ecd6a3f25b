-- What shows the clauses of `find_cycle` of `src/barring.rt`.
use Rattle.std.proofs.Common.{sym, ◌∙◌, rules, map, arith}
use Rattle.tn_session.proofs.StandingLemmas.{HasLaws, laws_of}
use Rattle.tn_session.proofs.LeavingLemmas.{leaving_asks, leaving_never, leaving_finds}
use Rattle.tn_session.proofs.barring.find_cycle.Goals as goal

pub least_through-requires : goal.least_through-requires
least_through-requires g c =
    let way = c.requires.leaving.under_way in
    let sized = way.sized in
    let wide = c.requires.wide in
    let trade = c.requires.leaving.trade in (
      search rules,
      (
        way.arcs.nodes ∙ sym way.sized,
        (
          omega (arith, sized, wide),
          (
            omega (arith, sized, trade),
            (
              way.labels.one_each ∙ sym way.sized,
              (
                c.requires.near,
                leaving_asks (map g.V.Valuation.firm c.args.market.now.firms) c.args.market.now.trades
                    c.args.rounds.now.graph c.args.rounds.now.finder c.args.rounds.now.allowed c.args.rounds.now.on
                    c.args.t
                    c.requires.leaving,
              ),
            ),
          ),
        ),
      ),
    )

pub unreachable-requires : goal.unreachable-requires
unreachable-requires g c =
    let laws : HasLaws g.V.Valuation.firm g.V.Valuation.limit c.args.market.now =
    laws_of g.V.Valuation.firm g.V.Valuation.limit c.args.market.now c.trades-trades.ensures.network
    g.met.V.Valuation.lawful in
    leaving_never (map g.V.Valuation.firm c.args.market.now.firms) c.args.market.now.trades c.args.rounds.now.graph
    c.args.rounds.now.finder c.args.rounds.now.allowed c.args.rounds.now.on c.args.t
    laws.network laws.meet laws.abstain c.requires.leaving c.in-None.ensures.answer.0

pub returns-clause-kept : goal.returns-clause-kept
returns-clause-kept g c =
    let laws : HasLaws g.V.Valuation.firm g.V.Valuation.limit c.args.market.now =
    laws_of g.V.Valuation.firm g.V.Valuation.limit c.args.market.now c.trades-trades.ensures.network
    g.met.V.Valuation.lawful in
    (leaving_finds (map g.V.Valuation.firm c.args.market.now.firms) c.args.market.now.trades c.args.rounds.now.graph
    c.args.rounds.now.finder c.args.rounds.now.allowed c.args.rounds.now.on c.args.t
    laws.network laws.meet c.requires.leaving c.least_through.new.self c.in-Cycle.cost c.in-Cycle.length
    c.in-Cycle.ensures.answer c.least_through.ensures.labelled c.in-Cycle.ensures.keeps).0

pub returns-clause-labels : goal.returns-clause-labels
returns-clause-labels g c =
    let laws : HasLaws g.V.Valuation.firm g.V.Valuation.limit c.args.market.now =
    laws_of g.V.Valuation.firm g.V.Valuation.limit c.args.market.now c.trades-trades.ensures.network
    g.met.V.Valuation.lawful in
    (leaving_finds (map g.V.Valuation.firm c.args.market.now.firms) c.args.market.now.trades c.args.rounds.now.graph
    c.args.rounds.now.finder c.args.rounds.now.allowed c.args.rounds.now.on c.args.t
    laws.network laws.meet c.requires.leaving c.least_through.new.self c.in-Cycle.cost c.in-Cycle.length
    c.in-Cycle.ensures.answer c.least_through.ensures.labelled c.in-Cycle.ensures.keeps).1
