-- The unit network: in place of each trade so many parallel trades of one unit each, its twins. Nobody writes it down.
use Rattle.std.specs.Prelude.{◌≡◌, ◌≢◌, ℕ, zero, suc, ◌+◌, ◌-◌, ◌^◌, ◌<◌, ℤ, List, [], ◌∷◌, ◌++◌, length, Bool, true, ◌==◌, ◌&&◌, ◌||◌, nat_lt, if◌then◌else◌, None}
use Rattle.tn_base.specs.Sets.{has, set_of}
use Rattle.tn_base.specs.Firm.{Firm}
use Rattle.tn_base.specs.Table.{buys_of}
use Rattle.tn_model.specs.declared.ends.Ends.{Ends}
use Rattle.tn_model.specs.InOrder.{sides_of}
use Rattle.tn_model.specs.Network.{own}
use Rattle.tn_counts.specs.Counts.{CountFirm, trade_at}
use Rattle.tn_counts.specs.declared.trade.UnitTrade.{UnitTrade}

-- how many numbers below n pass a test
unfoldable pub count_below : (ℕ → Bool) → ℕ → ℕ
count_below test zero = 0
count_below test (suc n) = count_below test n + (if test n then 1 else 0)

-- how many units all trades have
unfoldable pub unit_count : List UnitTrade → ℕ
unit_count [] = 0
unit_count (trade ∷ trades) = trade.units + unit_count trades

-- the trade of which the unit trade u is a twin: first come the twins of the first trade, then those of the next
unfoldable pub trade_of : List UnitTrade → ℕ → ℕ
trade_of [] u = 0
trade_of (trade ∷ trades) u = if nat_lt u trade.units then 0 else suc (trade_of trades (u - trade.units))

-- a unit of a trade as a trade after others: at each of its firms it has the position after the trades there
abbrev pub unit_after : List Ends → UnitTrade → Ends
unit_after before trade = record {
  seller = trade.seller;
  buyer = trade.buyer;
  at_seller = length (sides_of before trade.seller);
  at_buyer = length (sides_of before trade.buyer);
}

-- the first n unit trades
unfoldable pub first_unit_trades : List UnitTrade → ℕ → List Ends
first_unit_trades trades zero = []
first_unit_trades trades (suc n) =
    first_unit_trades trades n ++ unit_after (first_unit_trades trades n) (trade_at trades (trade_of trades n)) ∷ []

-- the unit trades: for each trade as many twins as it has units
abbrev pub unit_trades : List UnitTrade → List Ends
unit_trades trades = first_unit_trades trades (unit_count trades)

-- how many of its own trades firm f has in the unit network
abbrev pub own_units : List UnitTrade → ℕ → ℕ
own_units trades f = length (sides_of (unit_trades trades) f)

-- how many twins of trade t are at the first n positions of firm f in a bundle
abbrev pub counts_among : List UnitTrade → ℕ → ℕ → ℕ → ℕ → ℕ
counts_among trades f n x t = count_below (λ k. has x k && t == trade_of trades (own (unit_trades trades) f k)) n

-- how many units of each trade firm f has by a bundle
abbrev pub counts_of : List UnitTrade → ℕ → ℕ → ℕ → ℕ
counts_of trades f x = counts_among trades f (own_units trades f) x

-- firm f in the unit network: a bundle is worth what its counts are worth
abbrev pub unit_firm : List UnitTrade → ℕ → CountFirm → Firm
unit_firm trades f firm = record {
  count = own_units trades f;
  buys = buys_of (sides_of (unit_trades trades) f);
  worth = λ x. if nat_lt x (2 ^ own_units trades f) then firm.worth (counts_of trades f x) else None;
}

-- the firms of a list, the first of which has the number f
abbrev pub unit_firms_from : List UnitTrade → ℕ → List CountFirm → List Firm
unit_firms_from trades f [] = []
unit_firms_from trades f (firm ∷ firms) = unit_firm trades f firm ∷ unit_firms_from trades (f + 1) firms

abbrev pub unit_firms : List UnitTrade → List CountFirm → List Firm
unit_firms trades firms = unit_firms_from trades 0 firms

-- how many twins of each trade are in a set of unit trades
abbrev pub units_on : List UnitTrade → ℕ → ℕ → ℕ
units_on trades on t = count_below (λ u. has on u && t == trade_of trades u) (unit_count trades)

-- the set has so many twins of each trade
abbrev pub HasCounts : List UnitTrade → ℕ → (ℕ → ℕ) → Type 0
HasCounts trades on counts = (t : ℕ) → t < length trades → units_on trades on t ≡ counts t

-- how many twins of its trade come before the unit trade u
abbrev pub twins_before : List UnitTrade → ℕ → ℕ
twins_before trades u = count_below (λ v. trade_of trades u == trade_of trades v) u

-- the set of as many first twins of each trade as counts say
abbrev pub first_units : List UnitTrade → (ℕ → ℕ) → ℕ
first_units trades counts =
    set_of (λ u. nat_lt (twins_before trades u) (counts (trade_of trades u))) (unit_count trades)

-- a price for each twin, the same for all twins of a trade
abbrev pub price_of_unit : List UnitTrade → (ℕ → ℤ) → ℕ → ℤ
price_of_unit trades prices u = prices (trade_of trades u)

-- no firm trades with itself
abbrev pub HaveTwoEnds : List UnitTrade → Type 0
HaveTwoEnds trades = (t : ℕ) → t < length trades → (trade_at trades t).seller ≢ (trade_at trades t).buyer

-- whether a trade is one of firm f
abbrev pub is_own : List UnitTrade → ℕ → ℕ → Bool
is_own trades f t = (trade_at trades t).seller == f || (trade_at trades t).buyer == f

-- what a firm has depends on the units of its own trades alone
abbrev pub DependsOnOwn : List UnitTrade → ℕ → CountFirm → Type 0
DependsOnOwn trades f firm = (counts others : ℕ → ℕ)
    → ((t : ℕ) → t < length trades → is_own trades f t ≡ true → counts t ≡ others t)
    → firm.worth counts ≡ firm.worth others
