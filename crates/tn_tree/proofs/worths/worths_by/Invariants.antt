-- What the amounts and the first sets add, and the rest.
use Rattle.std.proofs.Common.{◌≡◌, ℕ, ◌+◌, ◌*◌, ◌<◌, ℤ, Some, None, length, drop, get_or}
use Rattle.tn_base.specs.Arcs.{IsAtMost}
use Rattle.tn_base.specs.Options.{both}
use Rattle.tn_counts.specs.Laminar.{firm_of, set_sum}
use Rattle.tn_tree.specs.Lists.{own_counts}
use Rattle.tn_tree.specs.Nets.{most_set_number}
use Rattle.tn_tree.proofs.worths.worths_by.Given as goal

abbrev pub invariant-loop-i : goal.invariant-loop-i
invariant-loop-i l = record {
  sized : length l.worths.items ≡ l.market.firms;
  rest : (f : ℕ) → f < l.market.firms → both (get_or l.worths.items f None)
      (set_sum l.market.trades.items f (own_counts l.market.trades.items l.sold l.bought f) (drop l.i l.market.sets.items))
      ≡ (firm_of l.market f).worth (own_counts l.market.trades.items l.sold l.bought f);
  small : (f : ℕ) (worth : ℤ) → get_or l.worths.items f None ≡ Some worth
      → IsAtMost worth (20971520000000000000 + l.i * most_set_number);
}
