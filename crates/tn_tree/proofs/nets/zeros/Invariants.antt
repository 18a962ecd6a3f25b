-- The zeros so far.
use Rattle.std.proofs.Common.{◌≡◌, ℕ, length, get_or, pos}
use Rattle.tn_tree.proofs.nets.zeros.Given as goal

abbrev pub invariant-loop : goal.invariant-loop
invariant-loop l = record {
  sized : length l.numbers.items ≡ l.counter;
  zeros : (v : ℕ) → get_or l.numbers.items v (pos 0) ≡ pos 0;
}
