-- How a session stands while it goes through edits.
use Rattle.std.specs.Prelude.{◌≡◌, ℕ, ◌<◌, List, length, map, get_or, slice_get, Bool, false, Some}
use Rattle.std.specs.List.{range_with_len}
use Rattle.tn_counts.specs.Counts.{AreCounts, CountFirm, trade_at}
use Rattle.tn_counts.specs.Laminar.{firm_of}
use Rattle.tn_counts.specs.Markets.{IsUnitMarket}
use Rattle.tn_counts.specs.declared.market.UnitMarket.{UnitMarket}
use Rattle.tn_counts.specs.declared.trade.UnitTrade.{UnitTrade}
use Rattle.tn_read_units.specs.Firms.{UnitDocument}
use Rattle.tn_read_units.specs.Worths.{written_firms}
use Rattle.tn_said.specs.declared.session.UnitEdit.{UnitEdit}
use Rattle.tn_tree.specs.Lists.{count_in}
use Rattle.tn_unit_answers.specs.Session.{admitted_after, is_away_after, usable_trades}
use Rattle.tn_unit_answers.specs.declared.session.Standing.{Standing}

-- each trade is between the same firms
pub record HaveSameEnds (trades others : List UnitTrade) : Type 0 where
  pub as_many : length trades ≡ length others
  pub sellers : (t : ℕ) → t < length trades → (trade_at trades t).seller ≡ (trade_at others t).seller
  pub buyers : (t : ℕ) → t < length trades → (trade_at trades t).buyer ≡ (trade_at others t).buyer

-- a market of the document's firms, between which its trades are, whatever units they have
pub record IsMarketBetween (doc : UnitDocument) (market : UnitMarket) : Type 0 where
  pub is : IsUnitMarket market
  pub firms : market.firms ≡ length doc.head.names.firms
  pub ends : HaveSameEnds market.trades.items doc.head.trades
  pub worths : (f : ℕ) (firm : CountFirm) → slice_get (written_firms doc) f ≡ Some firm → (counts : ℕ → ℕ)
      → AreCounts doc.head.trades counts → (firm_of market f).worth counts ≡ firm.worth counts

-- whether the firm with a number is away
abbrev pub away_in : List Bool → ℕ → Bool
away_in away f = get_or away f false

-- what is kept is of each trade and of each firm, and no more units are admitted than there are
pub record IsStanding (doc : UnitDocument) (standing : Standing) : Type 0 where
  pub market : IsMarketBetween doc standing.market
  pub counted : length standing.admitted.items ≡ length doc.head.trades
  pub within : AreCounts doc.head.trades (count_in standing.admitted.items)
  pub listed : length standing.away.items ≡ length doc.head.names.firms

-- the trades with the units that are usable by what is kept
abbrev pub usable_now : UnitDocument → Standing → List UnitTrade
usable_now doc standing =
    usable_trades (count_in standing.admitted.items) (away_in standing.away.items) doc.head.trades

-- what is kept is what some edits say
pub record StandsAfter (doc : UnitDocument) (edits : List UnitEdit) (standing : Standing) : Type 0 where
  pub admitted : standing.admitted.items
      ≡ map (admitted_after edits doc.head.trades) (range_with_len 0 (length doc.head.trades))
  pub away : standing.away.items ≡ map (is_away_after edits) (range_with_len 0 (length doc.head.names.firms))
