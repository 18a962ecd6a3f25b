-- The sum so far.
use Rattle.std.proofs.Common.{◌≡◌, ◌≤◌, pos}
use Rattle.tn_links.specs.Totals.{total}
use Rattle.tn_tree.specs.Lists.{count_in}
use Rattle.tn_unit_judge.proofs.blocks.sum_of.Given as goal

abbrev pub invariant-loop-t : goal.invariant-loop-t
invariant-loop-t l = (pos l.sum ≡ total (λ t. pos (count_in l.units t)) l.t) × (l.sum ≤ l.t)
