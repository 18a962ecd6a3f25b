-- What flows within the firms of a market, by counts of what is sold and of what is bought.
use Rattle.std.specs.Prelude.{◌≡◌, ℕ, ◌+◌, ◌<◌, ◌*◌, ◌^◌, ℤ, pos, ◌-ℤ◌, List, length, slice_get, Some, ◌==◌, if◌then◌else◌}
use Rattle.tn_links.specs.declared.link.Link.{Link}
use Rattle.tn_links.specs.Totals.{total}
use Rattle.tn_counts.specs.Counts.{trade_at}
use Rattle.tn_counts.specs.Tree.{HasLink, buyer_place, buyer_shape, inner_node, seller_place, seller_shape, set_shape}
use Rattle.tn_counts.specs.Widths.{most_set_units, most_wide_amount}
use Rattle.tn_counts.specs.declared.market.UnitMarket.{UnitMarket}
use Rattle.tn_counts.specs.declared.set.CountSet.{CountSet}
use Rattle.tn_counts.proofs.ClimbLemmas.{moved, moved_in}
use Rattle.tn_tree.specs.Lists.{count_in}

-- links that begin with those of the sets and of the trades at their two firms, whatever is pinned
pub record HaveTree (market : UnitMarket) (links : List Link) : Type 0 where
  pub sets : (i : ℕ) (set : CountSet) → slice_get market.sets.items i ≡ Some set
      → HasLink links i (set_shape market i set)
  pub sellers : (t : ℕ) → t < length market.trades.items → HasLink links (seller_place market t) (seller_shape market t)
  pub buyers : (t : ℕ) → t < length market.trades.items → HasLink links (buyer_place market t) (buyer_shape market t)

-- what a trade's two ends bring to a node: what is bought comes in, and what is sold goes out
abbrev pub end_at : UnitMarket → List ℕ → List ℕ → ℕ → ℕ → ℤ
end_at market sold bought v t =
    (if v == inner_node market (trade_at market.trades.items t).buyer t then pos (count_in bought t) else pos 0)
    -ℤ (if v == inner_node market (trade_at market.trades.items t).seller t then pos (count_in sold t) else pos 0)

-- what is bought within the set with a number by its firm, less what is sold
abbrev pub net_at : UnitMarket → List ℕ → List ℕ → ℕ → ℤ
net_at market sold bought i =
    moved_in market.trades.items (λ t. pos (count_in sold t)) (λ t. pos (count_in bought t))
    (slice_get market.sets.items i)

-- what a firm buys in all less what it sells
abbrev pub firm_net : UnitMarket → List ℕ → List ℕ → ℕ → ℤ
firm_net market sold bought f =
    total (λ t. moved f (trade_at market.trades.items t) (pos (count_in sold t)) (pos (count_in bought t)))
    (length market.trades.items)

-- a sum that is added to stays below this size
abbrev pub most_sum : ℕ
most_sum = 10 ^ 26

-- what a set adds is at most so much in size
abbrev pub most_set_number : ℕ
most_set_number = (most_set_units + 1) * most_wide_amount

-- what a firm has by counts is at most so much in size, and so is what it pays for them and what it is paid
abbrev pub most_count_worth : ℕ
most_count_worth = 2 * 10 ^ 23

abbrev pub most_paid : ℕ
most_paid = 3 * 10 ^ 17
