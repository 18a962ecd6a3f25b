-- What shows the clauses of `TableValuation::side` of `src/as_valuation.rt`.
use Rattle.tn_table.proofs.SideLemmas.{side_is}
use Rattle.tn_table.proofs.as_valuation.TableValuation.side.Goals as goal

-- src/as_valuation.rt:22:5
pub returns : goal.returns
returns c = side_is c.args.self.now.raw.sides c.args.k c.side.result c.side.ensures
