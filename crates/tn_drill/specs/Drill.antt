-- Drill networks: producers, firms 0 to 3, sell to middlemen, firms 4 to 11, and these sell to consumers, firms 12 to
-- 15.
use Rattle.std.specs.Prelude.{ℕ, zero, suc, ◌≡◌, ◌≤◌, ◌+◌, ◌-◌, ◌^◌, ◌/◌, ◌%◌, ◌==◌, nat_lt, if◌then◌else◌, ℤ, pos, negsuc, neg_ℤ, List, [], ◌∷◌, ◌++◌, length, map, All, Option, Some, None}
use Rattle.std.specs.List.{filter_map, range_with_len}
use Rattle.tn_base.specs.Arcs.{IsAtMost}
use Rattle.tn_base.specs.Firm.{Firm}
use Rattle.tn_base.specs.declared.side.Side.{Side}
use Rattle.tn_laminar.specs.Sum.{laminar_firm}
use Rattle.tn_model.specs.declared.ends.Ends.{Ends}
use Rattle.tn_middle.specs.Pairs.{middle_firm}
use Rattle.tn_model.specs.InOrder.{sides_of}
use Rattle.tn_drill.specs.declared.draws.Drawn.{Drawn}
use Rattle.tn_drill.specs.Draws.{drawn}
use Rattle.tn_market.specs.Widths.{most_own}
use Rattle.tn_base.specs.Widths.{most_amount}

-- trades with even numbers go from a producer to a middleman, those with odd numbers from a middleman to a consumer;
-- two trades after another have the same turn
abbrev pub middleman_of : Drawn → ℕ
middleman_of draw = 4 + (draw.trade / 2 + draw.step) % 8

abbrev pub seller_of : Drawn → ℕ
seller_of draw = if draw.trade % 2 == 0 then draw.trade / 2 % 4 else middleman_of draw

abbrev pub buyer_of : Drawn → ℕ
buyer_of draw = if draw.trade % 2 == 0 then middleman_of draw else 12 + draw.trade / 2 % 4

-- what the trade is to its seller: a producer's amount, or a middleman's gain
abbrev pub seller_number : Drawn → ℤ
seller_number draw = if draw.trade % 2 == 0 then neg_ℤ (pos (1 + draw.amount)) else pos draw.number

-- what it is to its buyer: a middleman's cost, or a consumer's amount
abbrev pub buyer_number : Drawn → ℤ
buyer_number draw = if draw.trade % 2 == 0 then pos draw.number else pos (50 + draw.amount)

-- what it is to firm f, if that is its seller or its buyer
abbrev pub number_to : ℕ → Drawn → Option ℤ
number_to f draw = if seller_of draw == f then Some (seller_number draw)
    else (if buyer_of draw == f then Some (buyer_number draw) else None)

-- a trade after others: at each of its firms it has the position after that firm's trades before it
abbrev pub ends_after : List Ends → Drawn → Ends
ends_after before draw = record {
  seller = seller_of draw;
  buyer = buyer_of draw;
  at_seller = length (sides_of before (seller_of draw));
  at_buyer = length (sides_of before (buyer_of draw));
}

-- the trades that are drawn, so many
abbrev pub draws_of : ℕ → ℕ → List Drawn
draws_of start size = map (drawn start) (range_with_len 0 size)

-- and their ends
abbrev pub drawn_ends : ℕ → ℕ → List Ends
drawn_ends start zero = []
drawn_ends start (suc size) = drawn_ends start size ++ ends_after (drawn_ends start size) (drawn start size) ∷ []

-- a firm whose worth is the sum of its amounts and a number for the net count of its trades, by a list from the lowest
-- net count on
abbrev pub by_net_count : ℤ → List ℤ → List Side → List ℤ → Firm
by_net_count low numbers sides amounts =
    laminar_firm sides amounts (record { members = 2 ^ length sides - 1; low = low; numbers = numbers } ∷ [])

-- a producer may sell up to 3 of its goods, and a consumer may buy up to 3: beside the amounts 1, 2 and 3 of them cost
-- 1, 4 and 9
abbrev pub producer : List Side → List ℤ → Firm
producer = by_net_count (negsuc 2) (negsuc 8 ∷ negsuc 3 ∷ negsuc 0 ∷ pos 0 ∷ [])

abbrev pub consumer : List Side → List ℤ → Firm
consumer = by_net_count (pos 0) (pos 0 ∷ negsuc 0 ∷ negsuc 3 ∷ negsuc 8 ∷ [])

-- firm f, by its sides and its numbers
abbrev pub drawn_firm : ℕ → List Side → List ℤ → Firm
drawn_firm f sides numbers = if nat_lt f 4 then producer sides numbers
    else (if nat_lt f 12 then middle_firm sides numbers None else consumer sides numbers)

-- firm f of some trades, as they were drawn
abbrev pub firm_in : List Ends → List Drawn → ℕ → Firm
firm_in trades draws f = drawn_firm f (sides_of trades f) (filter_map (number_to f) draws)

abbrev pub firms_of : ℕ → ℕ → List Firm
firms_of start size = map (firm_in (drawn_ends start size) (draws_of start size)) (range_with_len 0 16)

-- firm f has few trades, with a small number for each
pub record HasSmallNumbers (trades : List Ends) (draws : List Drawn) (f : ℕ) : Type 0 where
  pub few : length (sides_of trades f) ≤ most_own
  pub as_many : length (filter_map (number_to f) draws) ≡ length (sides_of trades f)
  pub small : All (λ a. IsAtMost a most_amount) (filter_map (number_to f) draws)
