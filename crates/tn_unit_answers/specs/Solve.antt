-- What `solve` says of a document whose trades have units.
use Rattle.std.specs.Prelude.{◌≡◌, ℕ, ℤ, pos, List, length, map, Some}
use Rattle.tn_model.specs.declared.ends.Ends.{Ends}
use Rattle.tn_counts.specs.Counts.{IsEfficientByCounts, IsEquilibriumByCounts, count_surplus}
use Rattle.tn_counts.specs.declared.trade.UnitTrade.{UnitTrade}
use Rattle.tn_read_units.specs.Firms.{UnitDocument}
use Rattle.tn_read_units.specs.Worths.{written_firms}
use Rattle.tn_said.specs.declared.said.Said.{Said}
use Rattle.tn_said.specs.declared.said.Said.TheVariants.{SolvedByCounts}
use Rattle.tn_tree.specs.Lists.{count_in, price_in}

-- the two ends of a trade; positions aren't counted
abbrev pub unit_ends : UnitTrade → Ends
unit_ends trade = record { seller = trade.seller; buyer = trade.buyer; at_seller = 0; at_buyer = 0 }

-- counts and whole prices at which each firm's counts are among its best over all counts, and the surplus of the counts,
-- than which none is greater
pub record IsSolutionByCounts (doc : UnitDocument) (counts : List ℕ) (prices : List ℤ) (surplus : ℤ) (ends : List Ends) : Type
    0 where
  pub equilibrium : IsEquilibriumByCounts (written_firms doc) doc.head.trades (pos 1) (count_in counts) (price_in prices)
  pub surplus_is : count_surplus (written_firms doc) (count_in counts) ≡ Some surplus
  pub efficient : IsEfficientByCounts (written_firms doc) doc.head.trades (count_in counts)
  -- one count and one price for each trade, and its ends
  pub counted : length counts ≡ length doc.head.trades
  pub priced : length prices ≡ length doc.head.trades
  pub ended : ends ≡ map unit_ends doc.head.trades

abbrev pub SolvesByCounts : UnitDocument → Said → Type 0
SolvesByCounts doc (SolvedByCounts counts prices surplus ends) = IsSolutionByCounts doc counts prices surplus ends
SolvesByCounts doc said = ⊥
