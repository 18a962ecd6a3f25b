-- What shows the clauses of `Rounds::toggle_nodes` of `src/rounds.rt`.
use Rattle.std.proofs.Common.{ℕ, ltb, sym, ap, ◌∙◌, if◌then◌else◌, arith, slice_get}
use Rattle.tn_base.specs.Sets.{toggle}
use Rattle.tn_flow.specs.declared.rounds.Rounds.{Rounds}
use Rattle.tn_flow.proofs.RoundLemmas.{along-next}
use Rattle.tn_flow.proofs.rounds.Rounds.toggle_nodes.Goals as goal

pub loop-k-preserved : goal.loop-k-preserved
loop-k-preserved g c =
    let same = c.loop-k.invariant in
    let before = c.args.self.now in
    let listed = ap (λ (r : Rounds g.row.W). r.finder.listed) same in
    let inside = c.loop-k-test.true in
    let counted = c.requires.counted in
    let next = along-next c.args.null c.args.self.now.on c.args.self.now.finder.listed c.loop-k.k c.at-node.result
    (omega (arith, inside, counted))
    (ap (λ ls. slice_get ls c.loop-k.k) (sym listed) ∙ c.at-node.ensures) in
    let on = c.toggle_node.ensures
    ∙ ap (λ (x : ℕ). if ltb c.at-node.result c.args.null then toggle x c.at-node.result
    else x) (ap (λ (r : Rounds g.row.W). r.on) same) ∙ next in
    ap (λ (r : Rounds g.row.W). record r { on = c.toggle_node.new.on }) same
    ∙ ap (λ (x : ℕ). record c.args.self.now { on = x }) on
