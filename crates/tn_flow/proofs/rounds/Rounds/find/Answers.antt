-- What shows the clauses of `Rounds::find` of `src/rounds.rt`.
use Rattle.std.proofs.Common.{rules, sym, ◌∙◌, map, length, arith}
use Rattle.tn_flow.proofs.RoundLemmas.{last_node, search_asks, search_answers}
use Rattle.tn_flow.proofs.rounds.Rounds.find.Goals as goal

pub through-requires : goal.through-requires
through-requires g c =
    let way = c.requires.under_way in
    let sized = way.sized in
    let wide = c.requires.wide in
    let trade = c.requires.trade in (
      search rules,
      (
        way.arcs.nodes ∙ sym way.sized,
        (
          omega (arith, sized, wide),
          (
            omega (arith, sized, trade),
            (
              way.labels.one_each ∙ sym way.sized,
              (
                c.requires.near,
                search_asks (map g.V.Valuation.firm c.args.market.now.firms) c.args.market.now.trades
                    c.args.self.now.graph c.args.self.now.finder c.args.self.now.allowed c.args.self.now.on _ way
                    (last_node c.args.self.now.finder.nodes (length c.args.market.now.trades) way.sized),
              ),
            ),
          ),
        ),
      ),
    )

pub returns-clause-next : goal.returns-clause-next
returns-clause-next g c =
    search_answers (map g.V.Valuation.firm c.args.market.now.firms) c.args.market.now.trades c.args.self.now.graph
    c.args.self.now.finder c.args.self.now.allowed c.args.self.now.on c.args.t
    c.through.new.self c.through.result c.know.ensures.network c.know.ensures.meet c.requires.under_way c.requires.trade
    c.requires.out c.requires.joined c.through.ensures.answer
    c.through.ensures.labelled c.through.ensures.keeps
