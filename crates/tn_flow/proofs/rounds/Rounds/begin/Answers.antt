-- What shows the clauses of `Rounds::begin` of `src/rounds.rt`.
use Rattle.std.proofs.Common.{◌∙◌, ℕ, map, subst}
use Rattle.tn_graph.specs.Reading.{IsWithoutArcs}
use Rattle.tn_graph.proofs.AdmitLemmas.{among_none}
use Rattle.tn_flow.proofs.RoundLemmas.{kept_at, labels_at}
use Rattle.tn_flow.proofs.rounds.Rounds.begin.Goals as goal

pub returns-clause-under_way : goal.returns-clause-under_way
returns-clause-under_way g c = record {
  arcs = among_none (map g.V.Valuation.firm c.args.market.now.firms) c.args.market.now.trades c.empty-self-2.result
      c.empty-self.result c.lay_out.new.self c.empty-self.ensures
      (subst (λ (n : ℕ). IsWithoutArcs n c.lay_out.new.self) c.requires.room.graph_sized c.lay_out.ensures.without)
      c.lay_out.ensures.laid_out;
  sized = c.label_all.ensures.rest.same_nodes ∙ c.requires.room.finder_sized;
  kept = kept_at (map g.V.Valuation.firm c.args.market.now.firms) c.args.market.now.trades c.empty-self.result
      c.empty-self-2.result c.know.ensures.start c.empty-self.ensures c.empty-self-2.ensures;
  labels = labels_at (map g.V.Valuation.firm c.args.market.now.firms) c.args.market.now.trades c.empty-self.result
      c.empty-self-2.result c.label_all.new.self.labels c.know.ensures.network
      c.empty-self.ensures c.empty-self-2.ensures (c.label_all.ensures.one_each ∙ c.requires.room.finder_sized);
}
