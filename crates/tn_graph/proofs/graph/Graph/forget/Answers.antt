-- What shows the clauses of `Graph::forget` of `src/reading.rt`.
use Rattle.std.proofs.Common.{arith, subst, sym, ◌∙◌, ◌≡◌, ◌≢◌, ◌+◌}
use Rattle.tn_base.specs.Sets.{has}
use Rattle.tn_graph.proofs.DetachLemmas.{AreDetached, detached_none, detached_more, detached_same, detached_all, where_equal, where_unequal}
use Rattle.tn_graph.proofs.graph.Graph.forget.Goals as goal
use Rattle.tn_graph.proofs.graph.Graph.forget.Goals.{then-has, else-has}

pub loop-t-init : goal.loop-t-init
loop-t-init g c =
    detached_none c.args.market.now.trades c.args.before.now c.args.on.now c.args.self.now c.requires.laid_out

pub loop-t-preserved : goal.loop-t-preserved
loop-t-preserved g c = elim c.if-has.branch [
  | then-has w ↦
      let apart : has c.args.before.now c.loop-t.t ≢ has c.args.on.now c.loop-t.t = λ e. where_unequal
      c.has.result c.has-in-loop-t.result w.if-has.true (c.has.ensures ∙ e ∙ sym c.has-in-loop-t.ensures) in
      subst (AreDetached c.args.market.now.trades c.args.before.now c.args.on.now (c.loop-t.t + 1) c.args.self.now)
      (sym w.self-is)
      (detached_more c.args.market.now.trades c.args.before.now c.args.on.now c.loop-t.t c.args.self.now c.loop-t.self
      w.detach.new.self c.loop-t.invariant apart w.detach.ensures.forgotten w.detach.ensures.turned)
  | else-has w ↦
      let same : has c.args.before.now c.loop-t.t ≡ has c.args.on.now c.loop-t.t = sym c.has.ensures
      ∙ where_equal c.has.result c.has-in-loop-t.result w.if-has.false
      ∙ c.has-in-loop-t.ensures in
      subst (AreDetached c.args.market.now.trades c.args.before.now c.args.on.now (c.loop-t.t + 1) c.args.self.now)
      (sym w.self-is)
      (detached_same c.args.market.now.trades c.args.before.now c.args.on.now c.loop-t.t c.args.self.now c.loop-t.self
      c.loop-t.invariant same)
]

pub returns-clause-laid_out : goal.returns-clause-laid_out
returns-clause-laid_out g c =
    let past = c.loop-t-test.false in
    let end = c.loop-t.auto.t-end in
    let count = c.trades-t-end.ensures.count in
    (detached_all c.args.market.now.trades c.args.before.now c.args.on.now c.loop-t.t c.args.self.now c.loop-t.self
    (omega (arith, past, end, count)) c.loop-t.invariant).1
