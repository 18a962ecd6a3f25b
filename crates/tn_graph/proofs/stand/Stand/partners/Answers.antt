-- What shows the clauses of `Stand::partners` of `src/stand.rt`.
use Rattle.std.proofs.Common.{sym, ◌∙◌}
use Rattle.tn_graph.proofs.StandLemmas.{partners_none, partners_more, partners_same}
use Rattle.tn_graph.proofs.stand.Stand.partners.Goals as goal
use Rattle.tn_graph.proofs.stand.Stand.partners.Goals.{then-is_partner, else-is_partner}

pub loop-k-init : goal.loop-k-init
loop-k-init g c =
    c.empty-found.ensures
    ∙ partners_none (g.V.Valuation.firm c.args.self.now.firm.now).buys c.args.self.now.bundle c.args.self.now.asked
    c.args.high

pub loop-k-preserved : goal.loop-k-preserved
loop-k-preserved g c = elim c.if-is_partner.branch [
  | then-is_partner w ↦
      w.found-is ∙ w.toggle-found.ensures
      ∙ partners_more (g.V.Valuation.firm c.args.self.now.firm.now).buys c.args.self.now.bundle c.args.self.now.asked
      c.args.high c.loop-k.k c.loop-k.found c.loop-k.invariant
      (sym c.is_partner.ensures ∙ w.if-is_partner.true)
  | else-is_partner w ↦
      w.found-is
      ∙ partners_same (g.V.Valuation.firm c.args.self.now.firm.now).buys c.args.self.now.bundle c.args.self.now.asked
      c.args.high c.loop-k.k c.loop-k.found c.loop-k.invariant
      (sym c.is_partner.ensures ∙ w.if-is_partner.false)
]
