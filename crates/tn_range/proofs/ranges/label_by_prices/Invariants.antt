-- What the loops of `label_by_prices` of `src/ranges.rt` keep.
use Rattle.std.proofs.Common.{◌≡◌, ℕ, ◌+◌, length}
use Rattle.tn_cycle.specs.Answers.{label_in}
use Rattle.tn_cycle.specs.Reading.{ListsNoWalks}
use Rattle.tn_network_laws.specs.Laws.{price_of_node}
use Rattle.tn_model.specs.Prices.{price_at}
use Rattle.tn_range.proofs.ranges.label_by_prices.Given as goal

abbrev pub invariant-loop-t : goal.invariant-loop-t
invariant-loop-t l = ((v : ℕ) → label_in l.finder.labels v ≡ price_of_node l.t (price_at l.prices) v)
    × (length l.finder.labels ≡ l.trades + 1) × ListsNoWalks (l.trades + 1) l.finder
