-- The sets and the amounts of a document as its market has them, with lists in place of vectors.
use Rattle.std.specs.Prelude.{ℕ, suc, ◌-◌, min, ℤ, pos, unsigned_abs, List, [], ◌∷◌, ◌++◌, map, get_or, ◌==◌, if◌then◌else◌, Option, Some, None}
use Rattle.tn_links.specs.declared.link.Step.{Step}
use Rattle.tn_counts.specs.Widths.{most_market_units}
use Rattle.tn_counts.specs.declared.set.CountSet.{CountSet}
use Rattle.tn_counts.specs.declared.trade.UnitAmounts.{UnitAmounts}
use Rattle.tn_counts.specs.declared.trade.UnitTrade.{UnitTrade}
use Rattle.tn_read_units.specs.Documents.{net_back, net_steps}
use Rattle.tn_read_units.specs.Firms.{WrittenFirm}
use Rattle.tn_read_units.specs.Sets.{SetNumbers, WrittenSet}
use Rattle.tn_read_units.specs.declared.amounts.Amount.{Amount}

-- the first units of steps, so many at most
abbrev pub first_units : ℕ → List Step → List Step
first_units most [] = []
first_units most (step ∷ steps) =
    record { units = min step.units most; each = step.each } ∷ first_units (most - step.units) steps

-- the steps of a set, without units beyond those of all trades
abbrev pub placed_steps : Option SetNumbers → List Step → List Step → List Step
placed_steps numbers bought sold = net_steps numbers (first_units most_market_units bought)
    (first_units most_market_units sold)

abbrev pub placed_back : Option SetNumbers → List Step → ℕ
placed_back numbers sold = net_back numbers (first_units most_market_units sold)

-- a set of a market
pub record PlacedSet : Type 0 where
  pub firm : ℕ
  pub members : List ℕ
  pub constant : ℤ
  pub back : ℕ
  pub steps : List Step

abbrev pub as_placed : CountSet → PlacedSet
as_placed set = record {
  firm = set.firm;
  members = set.members.items;
  constant = set.constant;
  back = set.back;
  steps = set.steps.items;
}

-- the number for a net count of 0
abbrev pub number_at_none : Option SetNumbers → ℤ
number_at_none (Some set) = get_or set.numbers (unsigned_abs set.low) (pos 0)
number_at_none None = pos 0

-- a set of firm f
abbrev pub placed : ℕ → WrittenSet → PlacedSet
placed f set = record {
  firm = f;
  members = set.members.trades;
  constant = number_at_none set.numbers;
  back = placed_back set.numbers set.sold;
  steps = placed_steps set.numbers set.bought set.sold;
}

-- the sets of all firms, of which the first has number f
abbrev pub all_placed : ℕ → List WrittenFirm → List PlacedSet
all_placed f [] = []
all_placed f (firm ∷ firms) = map (placed f) firm.sets ++ all_placed (suc f) firms

-- the first amount of a trade, 0 where there is none
abbrev pub first_amount : List Amount → ℕ → ℤ
first_amount [] t = pos 0
first_amount (amount ∷ amounts) t = if amount.trade == t then amount.number else first_amount amounts t

-- the amounts of the firm with a number, none where there is no such firm
abbrev pub entries_of : List WrittenFirm → ℕ → List Amount
entries_of firms f =
    (get_or firms f (record { amounts = record { named = 0; entries = [] }; sets = [] })).amounts.entries

-- the amounts of trade t to its two firms
abbrev pub amounts_for : List WrittenFirm → ℕ → UnitTrade → UnitAmounts
amounts_for firms t trade = record {
  seller = first_amount (entries_of firms trade.seller) t;
  buyer = first_amount (entries_of firms trade.buyer) t;
}
