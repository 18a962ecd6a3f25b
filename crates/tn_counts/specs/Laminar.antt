-- Laminar firms by counts: an amount for each unit, and for each set of trades a concave function of the net count
-- within it (laminar concave functions: Murota, Discrete Convex Analysis, 2003).
use Rattle.std.specs.Prelude.{ℕ, ℤ, pos, negsuc, ◌+ℤ◌, ◌-ℤ◌, ◌*ℤ◌, List, [], ◌∷◌, length, map, get_or, Bool, ◌==◌, nat_le, if◌then◌else◌, Option, Some, None}
use Rattle.std.specs.List.{list_any, range_with_len}
use Rattle.tn_base.specs.Options.{both}
use Rattle.tn_links.specs.Links.{rise, room}
use Rattle.tn_links.specs.Totals.{total}
use Rattle.tn_counts.specs.Counts.{CountFirm, trade_at}
use Rattle.tn_counts.specs.declared.market.UnitMarket.{UnitMarket}
use Rattle.tn_counts.specs.declared.set.CountSet.{CountSet}
use Rattle.tn_counts.specs.declared.trade.UnitAmounts.{UnitAmounts}
use Rattle.tn_counts.specs.declared.trade.UnitTrade.{UnitTrade}

-- whether a set has a trade
abbrev pub holds : CountSet → ℕ → Bool
holds set t = list_any (λ k. k == t) set.members.items

-- what units of a trade are to a firm: its buyer has them, its seller gives them
abbrev pub bought_by : ℕ → UnitTrade → ℤ → ℤ
bought_by f trade units = (if f == trade.buyer then units else pos 0) -ℤ (if f == trade.seller then units else pos 0)

-- the units that the firm of a set buys within it, less those that it sells
abbrev pub net_count : List UnitTrade → CountSet → (ℕ → ℕ) → ℤ
net_count trades set counts =
    total (λ t. if holds set t then bought_by set.firm (trade_at trades t) (pos (counts t)) else pos 0) (length trades)

-- what a set adds so many units above the fewest
abbrev pub added_at : CountSet → ℤ → Option ℤ
added_at set (pos level) = if nat_le level (room set.steps.items)
    then Some (set.constant +ℤ (rise set.steps.items level -ℤ rise set.steps.items set.back)) else None
added_at set (negsuc k) = None

-- what it adds by counts, none where the net count lies beyond its steps
abbrev pub set_number : List UnitTrade → CountSet → (ℕ → ℕ) → Option ℤ
set_number trades set counts = added_at set (net_count trades set counts +ℤ pos set.back)

-- what the sets of a firm add
abbrev pub set_sum : List UnitTrade → ℕ → (ℕ → ℕ) → List CountSet → Option ℤ
set_sum trades f counts [] = Some (pos 0)
set_sum trades f counts (set ∷ sets) = if f == set.firm
    then both (set_number trades set counts) (set_sum trades f counts sets) else set_sum trades f counts sets

-- the constants of all sets
abbrev pub constants : List CountSet → ℤ
constants [] = pos 0
constants (set ∷ sets) = set.constant +ℤ constants sets

-- the amounts of the trade with a number
abbrev pub amounts_at : List UnitAmounts → ℕ → UnitAmounts
amounts_at amounts t = get_or amounts t (record { seller = pos 0; buyer = pos 0 })

-- the amount of a unit of a trade to a firm
abbrev pub amount_to : ℕ → UnitTrade → UnitAmounts → ℤ
amount_to f trade amounts =
    (if f == trade.seller then amounts.seller else pos 0) +ℤ (if f == trade.buyer then amounts.buyer else pos 0)

-- what the amounts of all units add
abbrev pub amount_sum : List UnitTrade → List UnitAmounts → ℕ → (ℕ → ℕ) → ℤ
amount_sum trades amounts f counts =
    total (λ t. amount_to f (trade_at trades t) (amounts_at amounts t) *ℤ pos (counts t)) (length trades)

-- the firm with a number
abbrev pub firm_of : UnitMarket → ℕ → CountFirm
firm_of market f = record {
  worth = λ counts. both (Some (amount_sum market.trades.items market.amounts.items f counts))
      (set_sum market.trades.items f counts market.sets.items);
}

abbrev pub firms_of : UnitMarket → List CountFirm
firms_of market = map (firm_of market) (range_with_len 0 market.firms)
