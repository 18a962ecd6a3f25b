-- What shows the clauses of `read_cycle` of `src/kept_cycles.rt`.
use Rattle.std.proofs.Common.{rules}
use Rattle.std.proofs.lemmas.Int.{to_z-of_z}
use mir.Syntax.{w128}
use mir.Val.{SFits}
use Rattle.tn_cycle.specs.Cells.{cell_at}
use Rattle.tn_cycle.proofs.ReadLemmas.{way-front}
use Rattle.tn_cycle.proofs.kept_cycles.read_cycle.Goals as goal

pub returns-in-Some : goal.returns-in-Some
returns-in-Some c =
    let fits : SFits w128 c.in-Some.cost = search rules in
    let no = c.is_capped.ensures.no c.if-not-is_capped.true in
    let counted = simp to_z-of_z at no in
    simp to_z-of_z (
      c.in-Some.is,
      counted,
      way-front c.args.node (cell_at c.args.row.now) c.args.node c.list_way.new.path c.list_way.result
          c.list_way.ensures.arcs c.list_way.ensures.nodes,
      c.list_way.ensures.arcs,
    )
