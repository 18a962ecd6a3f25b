-- What shows the clauses of `swaps` of `src/exchange.rt`.
use Rattle.std.proofs.Common.{◌<◌, arith, length}
use Rattle.std.proofs.lemmas.Bool.{false≢true}
use Rattle.std.proofs.lemmas.Int.{to_z-of_z}
use Rattle.tn_base.proofs.SetLemmas.{toggle_within, has_below}
use Rattle.tn_exchange.proofs.exchange.swaps.Goals as goal

pub are_enough-requires-clause-x_own : goal.are_enough-requires-clause-x_own
are_enough-requires-clause-x_own c =
    rw c.toggle.ensures (toggle_within c.args.x c.loop-k.k (length c.args.table.now.sides) c.requires.x_own
    (omega arith))

pub are_enough-requires-clause-y_own : goal.are_enough-requires-clause-y_own
are_enough-requires-clause-y_own c =
    rw c.toggle-then-has.ensures (toggle_within c.args.y c.loop-k.k (length c.args.table.now.sides) c.requires.y_own
    (omega arith))

pub returns : goal.returns
returns c = (
  (λ h. absurd (false≢true h)),
  (λ s.
      let inside : s.at < length c.args.table.now.sides =
      has_below c.args.positions _ s.at c.requires.positions_own s.is_member in
      let fits = c.ranges.total in
      let none = simp to_z-of_z at (c.loop-k.invariant s.at (omega (arith, inside)) s.is_member) in
      absurd (none s.enough)),
)
