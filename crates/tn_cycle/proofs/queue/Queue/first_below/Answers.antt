-- What shows the clauses of `Queue::first_below` of `src/queue.rt`.
use Rattle.std.proofs.Common.{◌≡◌, ◌+◌, ◌*◌, ℕ, subst, arith, inl, inr}
use Rattle.std.proofs.lemmas.Option.{same_Some}
use Rattle.tn_cycle.specs.Answers.{label_in}
use Rattle.tn_cycle.specs.Cells.{cell_at}
use Rattle.tn_cycle.specs.Kept.{node_in_list}
use Rattle.tn_cycle.specs.Queue.{IsBefore, IsFirstBelow}
use Rattle.tn_cycle.proofs.QueueLemmas.{before_itself}
use Rattle.tn_cycle.proofs.queue.Queue.first_below.Goals.{else-right-self-via-then-right-self+else-not-is_before, else-right-self-via-else-right-self}
use Rattle.tn_cycle.proofs.queue.Queue.first_below.Goals as goal

pub returns-then-left-self-clause-some : goal.returns-then-left-self-clause-some
returns-then-left-self-clause-some c below is =
    let label = label_in c.args.labels.now in
    let cell = cell_at c.args.row.now in
    let left : 2 * c.args.at + 1 ≡ below = same_Some (2 * c.args.at + 1) below is in
    let itself : (i : ℕ) → i ≡ 2 * c.args.at + 1
    → IsBefore label cell (node_in_list c.args.self.now.list.now (2 * c.args.at + 1)) (node_in_list c.args.self.now.list.now i) =
    λ i same. subst (λ (z : ℕ). IsBefore label cell (node_in_list c.args.self.now.list.now z) (node_in_list c.args.self.now.list.now i)) same
    (before_itself label cell (node_in_list c.args.self.now.list.now i)) in
    subst (IsFirstBelow (IsBefore label cell) c.args.self.now.list.now c.args.self.now.count c.args.at) left (record {
      is = inl (omega arith);
      inside = omega (arith, c.if-left-self.true);
      first = λ i inside above. elim above [
        | inl same ↦ itself i same
        | inr other ↦ elim c.else-right-self.branch [
          | else-right-self-via-then-right-self+else-not-is_before w ↦
              let right : 2 * c.args.at + 1 + 1 ≡ i = omega (arith, other) in
              subst (λ (z : ℕ). IsBefore label cell (node_in_list c.args.self.now.list.now (2 * c.args.at + 1))
              (node_in_list c.args.self.now.list.now z)) right (w.is_before.ensures.yes w.if-not-is_before.false)
          | else-right-self-via-else-right-self w ↦ absurd (omega (arith, other, inside, w.if-right-self.false))
        ]
      ];
    })
