-- A market as links: a node for each set, then one for each firm, which is the root of its sets, then one for each trade,
-- and null. A set's units flow to the least set around it, or to the root, and from the root to null; those of a trade from
-- the seller's least set with the trade to the trade, and from there to the buyer's.
use Rattle.std.specs.Prelude.{◌≡◌, ℕ, zero, suc, ◌+◌, ◌-◌, ◌*◌, ◌<◌, ℤ, pos, ◌-ℤ◌, List, [], ◌∷◌, length, get_or, slice_get, Bool, false, ◌==◌, ◌&&◌, if◌then◌else◌, Some, option_map, unwrap_or}
use Rattle.tn_links.specs.declared.link.Link.{Link}
use Rattle.tn_links.specs.declared.link.Step.{Step}
use Rattle.tn_counts.specs.Counts.{trade_at}
use Rattle.tn_counts.specs.Laminar.{amounts_at, holds}
use Rattle.tn_counts.specs.Widths.{unbounded}
use Rattle.tn_counts.specs.declared.market.Pin.{Pin}
use Rattle.tn_counts.specs.declared.market.UnitMarket.{UnitMarket}
use Rattle.tn_counts.specs.declared.set.CountSet.{CountSet}

-- the nodes; that of a set is its number
abbrev pub root_node : UnitMarket → ℕ → ℕ
root_node market f = length market.sets.items + f

abbrev pub trade_node : UnitMarket → ℕ → ℕ
trade_node market t = length market.sets.items + market.firms + t

abbrev pub null_node : UnitMarket → ℕ
null_node market = length market.sets.items + market.firms + length market.trades.items

-- whether the set with number i is one of firm f and has trade t
abbrev pub is_around : List CountSet → ℕ → ℕ → ℕ → Bool
is_around sets f t i = unwrap_or (option_map (λ set. f == set.firm && holds set t) (slice_get sets i)) false

-- the first of n sets from number i on that is one of firm f and has trade t, else this root
abbrev pub first_from : List CountSet → ℕ → ℕ → ℕ → ℕ → ℕ → ℕ
first_from sets f t root zero i = root
first_from sets f t root (suc n) i = if is_around sets f t i then i else first_from sets f t root n (suc i)

-- the node at which a trade stands at firm f: its least set with the trade, or its root
abbrev pub inner_node : UnitMarket → ℕ → ℕ → ℕ
inner_node market f t =
    first_from market.sets.items f t (root_node market f) (length market.sets.items) 0

-- the node above a set: the least larger set of its firm, or the root
abbrev pub node_above : UnitMarket → ℕ → ℕ → List ℕ → ℕ
node_above market i f [] = root_node market f
node_above market i f (t ∷ members) =
    first_from market.sets.items f t (root_node market f) (length market.sets.items - suc i) (suc i)

-- what is said of a link
pub record LinkShape : Type 0 where
  pub tail : ℕ
  pub head : ℕ
  pub back : ℕ
  pub steps : List Step

abbrev pub shape_of : Link → LinkShape
shape_of link = record { tail = link.tail; head = link.head; back = link.back; steps = link.steps.items }

-- as many units as there are in one step
abbrev pub even : ℕ → ℤ → List Step
even units each = record { units = units; each = each } ∷ []

-- a link without a bound, over which each unit gains as much
abbrev pub unbounded_shape : ℕ → ℕ → ℤ → LinkShape
unbounded_shape tail head each = record {
  tail = tail;
  head = head;
  back = unbounded;
  steps = even (2 * unbounded) each;
}

-- the links of a set, of a root, of a trade at its seller and at its buyer, and of a pinned trade
abbrev pub set_shape : UnitMarket → ℕ → CountSet → LinkShape
set_shape market i set =
    record { tail = i; head = node_above market i set.firm set.members.items; back = set.back; steps = set.steps.items }

abbrev pub root_shape : UnitMarket → ℕ → LinkShape
root_shape market f = unbounded_shape (root_node market f) (null_node market) (pos 0)

abbrev pub seller_shape : UnitMarket → ℕ → LinkShape
seller_shape market t = record {
  tail = inner_node market (trade_at market.trades.items t).seller t;
  head = trade_node market t;
  back = 0;
  steps = even (trade_at market.trades.items t).units (amounts_at market.amounts.items t).seller;
}

abbrev pub buyer_shape : UnitMarket → ℕ → LinkShape
buyer_shape market t = record {
  tail = trade_node market t;
  head = inner_node market (trade_at market.trades.items t).buyer t;
  back = 0;
  steps = even (trade_at market.trades.items t).units (amounts_at market.amounts.items t).buyer;
}

abbrev pub pin_shape : UnitMarket → Pin → LinkShape
pin_shape market pin = unbounded_shape (trade_node market pin.trade) (null_node market) pin.price

-- the links in their order: those of the sets, the roots, the sellers, the buyers and the pins
abbrev pub seller_place : UnitMarket → ℕ → ℕ
seller_place market t = length market.sets.items + market.firms + t

abbrev pub buyer_place : UnitMarket → ℕ → ℕ
buyer_place market t = length market.sets.items + market.firms + length market.trades.items + t

abbrev pub pin_place : UnitMarket → ℕ → ℕ
pin_place market k =
    length market.sets.items + market.firms + length market.trades.items + length market.trades.items + k

-- a list has a link of this shape at a place
abbrev pub HasLink : List Link → ℕ → LinkShape → Type 0
HasLink links j shape = option_map shape_of (slice_get links j) ≡ Some shape

pub record AreLinksOf (market : UnitMarket) (pins : List Pin) (links : List Link) : Type 0 where
  pub all : length links ≡ pin_place market (length pins)
  pub sets : (i : ℕ) (set : CountSet) → slice_get market.sets.items i ≡ Some set
      → HasLink links i (set_shape market i set)
  pub roots : (f : ℕ) → f < market.firms → HasLink links (root_node market f) (root_shape market f)
  pub sellers : (t : ℕ) → t < length market.trades.items → HasLink links (seller_place market t) (seller_shape market t)
  pub buyers : (t : ℕ) → t < length market.trades.items → HasLink links (buyer_place market t) (buyer_shape market t)
  pub pinned : (k : ℕ) (pin : Pin) → slice_get pins k ≡ Some pin → HasLink links (pin_place market k) (pin_shape market pin)

-- the units of each trade that its seller sells, and those that its buyer buys, by the levels of a flow
abbrev pub sold_at : UnitMarket → List ℕ → ℕ → ℕ
sold_at market levels t = get_or levels (seller_place market t) 0

abbrev pub bought_at : UnitMarket → List ℕ → ℕ → ℕ
bought_at market levels t = get_or levels (buyer_place market t) 0

-- the counts of firm f
abbrev pub counts_at : UnitMarket → List ℕ → ℕ → ℕ → ℕ
counts_at market levels f t =
    if f == (trade_at market.trades.items t).seller then sold_at market levels t else bought_at market levels t

-- the price of a trade is its label less that of null
abbrev pub price_by : UnitMarket → (ℕ → ℤ) → ℕ → ℤ
price_by market label t = label (trade_node market t) -ℤ label (null_node market)
