-- The prices so far.
use Rattle.std.proofs.Common.{◌≡◌, map}
use Rattle.std.specs.List.{range_with_len}
use Rattle.tn_counts.specs.Tree.{price_by}
use Rattle.tn_cycle.specs.Answers.{label_in}
use Rattle.tn_tree.proofs.solve.prices_by.Given as goal

abbrev pub invariant-loop-t : goal.invariant-loop-t
invariant-loop-t l = l.prices.items ≡ map (price_by l.market (label_in l.finder.labels)) (range_with_len 0 l.t)
