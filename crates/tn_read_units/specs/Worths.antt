-- What counts are worth to the firms of a document, as it says it.
use Rattle.std.specs.Prelude.{ℕ, suc, ℤ, pos, negsuc, ◌+ℤ◌, ◌-ℤ◌, ◌*ℤ◌, List, [], ◌∷◌, length, slice_get, nat_le, ◌==◌, if◌then◌else◌, Option, Some, None}
use Rattle.std.specs.List.{list_any}
use Rattle.tn_base.specs.Options.{both}
use Rattle.tn_links.specs.Links.{rise, room}
use Rattle.tn_links.specs.Totals.{total}
use Rattle.tn_links.specs.declared.link.Step.{Step}
use Rattle.tn_counts.specs.Counts.{CountFirm, trade_at}
use Rattle.tn_counts.specs.Laminar.{bought_by}
use Rattle.tn_counts.specs.declared.trade.UnitTrade.{UnitTrade}
use Rattle.tn_read_units.specs.Firms.{UnitDocument, WrittenFirm}
use Rattle.tn_read_units.specs.Sets.{SetNumbers, WrittenSet}
use Rattle.tn_read_units.specs.declared.amounts.Amount.{Amount}

-- what so many units add by steps, none beyond the last step
abbrev pub number_by_steps : List Step → ℕ → Option ℤ
number_by_steps steps units = if nat_le units (room steps) then Some (rise steps units) else None

-- the number at a place, none before the first
abbrev pub number_at_place : List ℤ → ℤ → Option ℤ
number_at_place numbers (pos k) = slice_get numbers k
number_at_place numbers (negsuc k) = None

-- what a set adds where so many more units are bought within it than sold, none where that can't be: its number for the
-- net count, or else what so many units bought, or sold, add
abbrev pub number_of : Option SetNumbers → List Step → List Step → ℤ → Option ℤ
number_of (Some set) bought sold net = number_at_place set.numbers (net -ℤ set.low)
number_of None bought sold (pos n) = number_by_steps bought n
number_of None bought sold (negsuc k) = number_by_steps sold (suc k)

abbrev pub written_number : WrittenSet → ℤ → Option ℤ
written_number set net = number_of set.numbers set.bought set.sold net

-- the units of a set's trades that a firm buys, less those that it sells
abbrev pub written_net : List UnitTrade → ℕ → WrittenSet → (ℕ → ℕ) → ℤ
written_net trades f set counts =
    total (λ t. if list_any (λ k. k == t) set.members.trades
    then bought_by f (trade_at trades t) (pos (counts t)) else pos 0) (length trades)

-- what all sets of a firm add by counts
abbrev pub written_sum : List UnitTrade → ℕ → (ℕ → ℕ) → List WrittenSet → Option ℤ
written_sum trades f counts [] = Some (pos 0)
written_sum trades f counts (set ∷ sets) =
    both (written_number set (written_net trades f set counts)) (written_sum trades f counts sets)

-- what all its amounts add
abbrev pub written_amounts : (ℕ → ℕ) → List Amount → ℤ
written_amounts counts [] = pos 0
written_amounts counts (amount ∷ amounts) =
    amount.number *ℤ pos (counts amount.trade) +ℤ written_amounts counts amounts

-- what counts are worth to firm f
abbrev pub written_worth : List UnitTrade → ℕ → WrittenFirm → (ℕ → ℕ) → Option ℤ
written_worth trades f firm counts =
    both (Some (written_amounts counts firm.amounts.entries)) (written_sum trades f counts firm.sets)

-- the firms from number f on
abbrev pub firms_from : List UnitTrade → ℕ → List WrittenFirm → List CountFirm
firms_from trades f [] = []
firms_from trades f (firm ∷ firms) = record { worth = written_worth trades f firm } ∷ firms_from trades (suc f) firms

-- the firms of a document
abbrev pub written_firms : UnitDocument → List CountFirm
written_firms document = firms_from document.head.trades 0 document.firms
