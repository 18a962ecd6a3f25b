-- One trade from a seller to a buyer who values it at 5.
use Rattle.std.proofs.Common.{◌≡◌, ℕ, refl, arith, List, [], ◌∷◌}
use Rattle.std.specs.Prelude.{ℤ, pos, negsuc, ◌≤ℤ◌, Option, Some, None}
use Rattle.std.proofs.lemmas.Int.{ints}
use Rattle.std.proofs.lemmas.Option.{same_Some}
use Rattle.tn_base.specs.declared.side.Side.TheVariants.{Buy, Sell}
use Rattle.tn_base.specs.Sets.{has, sum_over, toggle, union, meet, minus, size, size_below, set_of}
use Rattle.tn_base.specs.Firm.{Firm, up, net}
use Rattle.tn_base.specs.Exchange.{MeetsExchange}
use Rattle.tn_exchange.specs.Rows.{TableRows, firm_of_table, worth_in}
use Rattle.tn_exchange.proofs.RowLemmas.{own_bundles}
use Rattle.tn_model.specs.declared.ends.Ends.{Ends}
use Rattle.tn_model.specs.Prices.{price_at}
use Rattle.tn_market.specs.Equilibrium.{utility_at, HasBest, IsEquilibrium}
use Rattle.tn_case_laws.proofs.Decided.{all_below, some_below, meets}
use Rattle.tn_case_laws.proofs.Finite.{AreBelow, best_by, own_utilities, two_firms}

abbrev pub seller_table : Option ℤ → TableRows
seller_table row = record { sides = Sell ∷ []; rows = None ∷ row ∷ [] }

abbrev pub buyer_table : TableRows
buyer_table = record { sides = Buy ∷ []; rows = None ∷ Some (pos 5) ∷ [] }

-- the seller with a number for the trade, or none
abbrev pub seller : Option ℤ → Firm
seller row = firm_of_table (seller_table row)

abbrev pub buyer : Firm
buyer = firm_of_table buyer_table

abbrev pub deal_firms : Option ℤ → List Firm
deal_firms row = seller row ∷ buyer ∷ []

abbrev pub deal_trades : List Ends
deal_trades = record { seller = 0; buyer = 1; at_seller = 0; at_buyer = 0 } ∷ []

-- what the seller may ask for the trade: 3, or 5
abbrev pub asks_3 : Option ℤ
asks_3 = Some (negsuc 2)

abbrev pub asks_5 : Option ℤ
asks_5 = Some (negsuc 4)

pub buyer_meets : MeetsExchange buyer
unfolding all_below some_below worth_in has toggle union meet minus size size_below up net
buyer_meets = meets buyer (own_bundles buyer_table) refl

pub meets_3 : MeetsExchange (seller asks_3)
unfolding all_below some_below worth_in has toggle union meet minus size size_below up net
meets_3 = meets (seller asks_3) (own_bundles (seller_table asks_3)) refl

pub meets_5 : MeetsExchange (seller asks_5)
unfolding all_below some_below worth_in has toggle union meet minus size size_below up net
meets_5 = meets (seller asks_5) (own_bundles (seller_table asks_5)) refl

pub meets_none : MeetsExchange (seller None)
unfolding all_below some_below worth_in has toggle union meet minus size size_below up net
meets_none = meets (seller None) (own_bundles (seller_table None)) refl

pub seller_below : (row : Option ℤ) (scale : ℤ) (prices : ℕ → ℤ)
    → AreBelow 2 (utility_at deal_trades scale prices 0 (seller row))
seller_below row scale prices = own_utilities deal_trades scale prices 0 (seller row) (own_bundles (seller_table row))

pub buyer_below : (scale : ℤ) (prices : ℕ → ℤ) → AreBelow 2 (utility_at deal_trades scale prices 1 buyer)
buyer_below scale prices = own_utilities deal_trades scale prices 1 buyer (own_bundles buyer_table)

-- at the price 4 the trade is an equilibrium
pub equilibrium_at_4 : IsEquilibrium (deal_firms asks_3) deal_trades (pos 1) 1 (price_at (pos 4 ∷ []))
unfolding all_below has sum_over set_of worth_in toggle
equilibrium_at_4 =
    two_firms (λ f firm. HasBest deal_trades (pos 1) 1 (price_at (pos 4 ∷ [])) f firm) (seller asks_3) buyer (
      pos 1,
      best_by 2 (utility_at deal_trades (pos 1) (price_at (pos 4 ∷ [])) 0 (seller asks_3))
          (seller_below asks_3 (pos 1) (price_at (pos 4 ∷ []))) 1 (pos 1) refl refl,
    ) (
      pos 1,
      best_by 2 (utility_at deal_trades (pos 1) (price_at (pos 4 ∷ [])) 1 buyer)
          (buyer_below (pos 1) (price_at (pos 4 ∷ []))) 1 (pos 1) refl refl,
    )

-- where the trade is off, a price below its worth to the buyer is no equilibrium, nor is one above what the seller asks
pub off_at_least_5 : (row : Option ℤ) (prices : ℕ → ℤ) → IsEquilibrium (deal_firms row) deal_trades (pos 1) 0 prices
    → pos 5 ≤ℤ prices 0
unfolding has sum_over set_of worth_in
off_at_least_5 row prices equilibrium =
    let held = equilibrium 1 buyer refl in
    let value : pos 0 ≡ held.0 = same_Some _ _ held.1.is in
    let most = held.1.most 1 _ refl in
    omega (arith, ints, value, most)

pub off_at_most_3 : (prices : ℕ → ℤ) → IsEquilibrium (deal_firms asks_3) deal_trades (pos 1) 0 prices
    → prices 0 ≤ℤ pos 3
unfolding has sum_over set_of worth_in
off_at_most_3 prices equilibrium =
    let held = equilibrium 0 (seller asks_3) refl in
    let value : pos 0 ≡ held.0 = same_Some _ _ held.1.is in
    let most = held.1.most 1 _ refl in
    omega (arith, ints, value, most)

pub off_at_most_5 : (prices : ℕ → ℤ) → IsEquilibrium (deal_firms asks_5) deal_trades (pos 1) 0 prices
    → prices 0 ≤ℤ pos 5
unfolding has sum_over set_of worth_in
off_at_most_5 prices equilibrium =
    let held = equilibrium 0 (seller asks_5) refl in
    let value : pos 0 ≡ held.0 = same_Some _ _ held.1.is in
    let most = held.1.most 1 _ refl in
    omega (arith, ints, value, most)
