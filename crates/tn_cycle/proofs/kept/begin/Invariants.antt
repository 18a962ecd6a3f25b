-- What the loops of `begin` of `src/kept.rt` keep.
use Rattle.tn_cycle.proofs.OfferLemmas.{AreBegun, AreEmpty}
use Rattle.tn_cycle.proofs.kept.begin.Given as goal

abbrev pub invariant-loop-k : goal.invariant-loop-k
invariant-loop-k g l = record {
  begun : AreBegun l.end (g.C.Costs.arc l.costs) (g.C.Costs.predecessor_at l.costs l.end) l.row l.k;
  empty : AreEmpty l.end (g.C.Costs.arc l.costs) (g.C.Costs.predecessor_at l.costs l.end) l.row
      (g.C.Costs.node_count l.costs);
}
