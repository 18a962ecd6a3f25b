-- What shows the clauses of `Rounds::settle` of `src/rounds.rt`.
use Rattle.std.proofs.Common.{rules, sym, ◌∙◌, map, length, arith}
use Rattle.tn_flow.proofs.RoundLemmas.{last_node, search_asks, settled_labels}
use Rattle.tn_flow.proofs.rounds.Rounds.settle.Goals as goal

pub relabel-requires : goal.relabel-requires
relabel-requires g c =
    let way = c.requires.under_way in
    let sized = way.sized in
    let wide = c.requires.wide in (
      search rules,
      (
        way.arcs.nodes ∙ sym way.sized,
        (
          omega (arith, sized, wide),
          (
            way.labels.one_each ∙ sym way.sized,
            (
              c.requires.near,
              search_asks (map g.V.Valuation.firm c.args.market.now.firms) c.args.market.now.trades
                  c.args.self.now.graph c.args.self.now.finder c.args.self.now.allowed c.args.self.now.on _ way
                  (last_node c.args.self.now.finder.nodes (length c.args.market.now.trades) way.sized),
            ),
          ),
        ),
      ),
    )

pub returns-clause-labels : goal.returns-clause-labels
returns-clause-labels g c =
    settled_labels (map g.V.Valuation.firm c.args.market.now.firms) c.args.market.now.trades c.args.self.now.graph
    c.args.self.now.finder c.args.self.now.allowed c.args.self.now.on _
    c.relabel.new.self.labels c.requires.under_way (last_node c.args.self.now.finder.nodes
    (length c.args.market.now.trades) c.requires.under_way.sized) c.relabel.ensures.labels

pub returns-clause-under_way : goal.returns-clause-under_way
returns-clause-under_way g c =
    let way = c.requires.under_way in
    let labels = returns-clause-labels g c in
    record {
      arcs = way.arcs;
      sized = c.relabel.ensures.rest.same_nodes ∙ way.sized;
      kept = way.kept;
      labels = record { one_each = labels.one_each; keeps = labels.keeps };
    }
