-- What the first trades add.
use Rattle.std.proofs.Common.{◌≡◌, ℕ, length, get_or, pos}
use Rattle.tn_links.specs.Totals.{total}
use Rattle.tn_tree.proofs.FirmLemmas.{own_term}
use Rattle.tn_tree.proofs.worths.amount_sums.Given as goal

abbrev pub invariant-loop-t : goal.invariant-loop-t
invariant-loop-t l = record {
  sized : length l.sums.items ≡ l.market.firms;
  sums : (f : ℕ) → get_or l.sums.items f (pos 0)
      ≡ total (own_term l.market.trades.items l.amounts l.sold l.bought f) l.t;
}
