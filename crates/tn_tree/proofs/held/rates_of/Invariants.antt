-- The amounts so far.
use Rattle.std.proofs.Common.{◌≡◌, map}
use Rattle.std.specs.List.{range_with_len}
use Rattle.tn_tree.specs.Lists.{rate_of}
use Rattle.tn_tree.proofs.held.rates_of.Given as goal

abbrev pub invariant-loop-t : goal.invariant-loop-t
invariant-loop-t l = l.rates.items ≡ map (rate_of l.prices) (range_with_len 0 l.t)
