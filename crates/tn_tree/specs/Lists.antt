-- Lists of counts and of prices, by trade number.
use Rattle.std.specs.Prelude.{ℕ, ℤ, pos, ◌-ℤ◌, List, get_or, ◌==◌, if◌then◌else◌}
use Rattle.tn_counts.specs.Counts.{trade_at}
use Rattle.tn_counts.specs.declared.market.Pin.{Pin}
use Rattle.tn_counts.specs.declared.trade.UnitAmounts.{UnitAmounts}
use Rattle.tn_counts.specs.declared.trade.UnitTrade.{UnitTrade}

abbrev pub count_in : List ℕ → ℕ → ℕ
count_in counts t = get_or counts t 0

abbrev pub price_in : List ℤ → ℕ → ℤ
price_in prices t = get_or prices t (pos 0)

-- the counts of firm f: what it sells and what it buys
abbrev pub own_counts : List UnitTrade → List ℕ → List ℕ → ℕ → ℕ → ℕ
own_counts trades sold bought f t = if f == (trade_at trades t).seller then count_in sold t else count_in bought t

-- the pin of a trade at its price
abbrev pub pin_of : List ℤ → ℕ → Pin
pin_of prices t = record { trade = t; price = price_in prices t }

-- a price as amounts: a unit adds it to what the seller has, and takes it from the buyer
abbrev pub rate_of : List ℤ → ℕ → UnitAmounts
rate_of prices t = record { seller = price_in prices t; buyer = pos 0 -ℤ price_in prices t }
