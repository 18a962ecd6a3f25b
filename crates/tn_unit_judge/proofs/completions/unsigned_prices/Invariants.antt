-- The prices so far.
use Rattle.std.proofs.Common.{◌≡◌, ◌+◌, length, map}
use Rattle.std.specs.List.{range_with_len}
use Rattle.tn_tree.specs.Lists.{price_in}
use Rattle.tn_unit_judge.proofs.completions.unsigned_prices.Given as goal

abbrev pub invariant-loop-t : goal.invariant-loop-t
invariant-loop-t l = l.prices.items
    ≡ map (λ t. price_in l.beside (length l.contracts + t)) (range_with_len 0 l.t)
