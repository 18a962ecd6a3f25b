-- The limits of documents: those of each version, and what holds for every version, and so for all that is answered.
use Rattle.std.specs.Prelude.{◌≡◌, ℕ, ◌+◌, ◌*◌, ◌^◌, ◌≤◌, ◌==◌, nat_le, if◌then◌else◌, Option, Some, None}
use Rattle.tn_base.specs.Widths.{most_amount}
use Rattle.tn_model.specs.declared.limits.Limits.{Limits}

-- the most firms of a document
abbrev pub most_firms : ℕ
most_firms = 1024

-- the most trades of a document
abbrev pub most_trades : ℕ
most_trades = 1024

-- the most edits of a document
abbrev pub most_edits : ℕ
most_edits = 2048

-- a price of an arrangement is at most so much in size
abbrev pub most_price : ℕ
most_price = 10 ^ 14

-- a numerator of an outcome is at most so much in size, and its denominator at most so much
abbrev pub most_numerator : ℕ
most_numerator = 10 ^ 11

abbrev pub most_over : ℕ
most_over = 100

-- a number of a claim is at most so much in size, and its denominator at most so much
abbrev pub most_number : ℕ
most_number = 10 ^ 18

abbrev pub most_claimed_over : ℕ
most_claimed_over = 10 ^ 6

-- the fewest and the most nodes of a cycle of a claim
abbrev pub least_nodes : ℕ
least_nodes = 2

abbrev pub most_nodes : ℕ
most_nodes = 1025

-- the most trades of a document whose claim is a plan in parts: it is held against every set of them
abbrev pub most_planned_trades : ℕ
most_planned_trades = 20

-- the most parts of a plan; a best one needs no more than there are firms and trades
abbrev pub most_parts : ℕ
most_parts = 1024

-- the most own trades of a table, and of a firm of another kind
abbrev pub most_own_of_table : ℕ
most_own_of_table = 14

abbrev pub most_own_trades : ℕ
most_own_trades = 60

-- the most sets of a laminar firm; the farthest net count from 0 that the first number of a set may be for, and the
-- most numbers of a set
abbrev pub most_sets : ℕ
most_sets = 64

abbrev pub most_from : ℕ
most_from = 60

abbrev pub most_values : ℕ
most_values = 121

-- a market of at most so many trades may have greater worths than one of more
abbrev pub few_trades : ℕ
few_trades = 128

-- a worth of a firm is at most so much in size, whatever its market
abbrev pub most_worth_of_any : ℕ
most_worth_of_any = (most_own_trades + most_sets) * most_amount

-- and at most so much in a market of so many trades
unfoldable pub most_worth_among : ℕ → ℕ
most_worth_among trades = if nat_le trades few_trades then most_worth_of_any else (most_own_trades + most_sets) * 10 ^ 7

-- the limits of a version with at most so many firms and trades, fewer than a thousand
abbrev pub limits_with : ℕ → Limits
limits_with most = record {
  firms = most;
  trades = most;
  own_of_table = most_own_of_table;
  own = 32;
  amount = most_amount;
  sets = most_sets;
  from = 32;
  values = 65;
  price = most_price;
  numerator = most_numerator;
  over = most_over;
  edits = 256;
  number = most_number;
  claimed_over = 10 ^ 5;
  nodes = most + 1;
}

-- the limits of the version with a thousand trades: more of them, and more own ones, but smaller amounts
abbrev pub limits_of_many : Limits
limits_of_many = record {
  firms = most_firms;
  trades = most_trades;
  own_of_table = most_own_of_table;
  own = most_own_trades;
  amount = 10 ^ 7;
  sets = most_sets;
  from = most_from;
  values = most_values;
  price = most_price;
  numerator = most_numerator;
  over = most_over;
  edits = most_edits;
  number = most_number;
  claimed_over = most_claimed_over;
  nodes = most_nodes;
}

-- the limits of each version, none where there is no such version
unfoldable pub limits_of : ℕ → Option Limits
limits_of version = if version == 1 then Some (limits_with 64)
    else (if version == 2 then Some (limits_with few_trades)
    else (if version == 3 then Some limits_of_many else None))

-- a worth is at most so much in size: an amount for each own trade, and a number for each set
abbrev pub worth_limit : Limits → ℕ
worth_limit limits = (limits.own + limits.sets) * limits.amount

-- what holds of the limits of every version: there is room for what they allow, a cycle may go through every trade and
-- the null node, what blocks an outcome may be claimed, what is claimed may be as large in each version, and worths are
-- small enough for so many trades
pub record AreLimits (limits : Limits) : Type 0 where
  pub firms : limits.firms ≤ most_firms
  pub trades : limits.trades ≤ most_trades
  pub own_of_table : limits.own_of_table ≤ most_own_of_table
  pub own : limits.own ≤ most_own_trades
  pub amount : limits.amount ≤ most_amount
  pub sets : limits.sets ≤ most_sets
  pub from : limits.from ≤ most_from
  pub values : limits.values ≤ most_values
  pub price : limits.price ≤ most_price
  pub numerator : limits.numerator ≤ most_numerator
  pub over : limits.over ≤ most_over
  pub edits : limits.edits ≤ most_edits
  pub number : limits.number ≡ most_number
  pub claimed_over : limits.claimed_over ≤ most_claimed_over
  pub enough_over : most_over * (2 * limits.trades + 1) ≤ limits.claimed_over
  pub enough_nodes : limits.trades + 1 ≤ limits.nodes
  pub nodes : limits.nodes ≤ most_nodes
  pub worths : (trades : ℕ) → trades ≤ limits.trades → worth_limit limits ≤ most_worth_among trades
