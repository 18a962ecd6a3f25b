-- From what the search for prices says to the answer about it.
use Rattle.std.proofs.Common.{◌≡◌, ℕ, ◌+◌, ◌*◌, ◌^◌, ◌≤◌, Bool, if◌then◌else◌, ℤ, List, length, map, option_map, ap, ◌∙◌, sym, subst, arith, to_z, of_z}
use Rattle.std.specs.Prelude.{Option, Some, slice_get, Result, Ok, Err, IfOk}
use Rattle.std.specs.Int.{w128}
use Rattle.std.proofs.lemmas.Bool.{le-leb}
use Rattle.std.proofs.lemmas.Int.{ints}
use Rattle.std.proofs.lemmas.Option.{slice_get-map}
use Rattle.tn_base.specs.Arcs.{IsAtMost}
use Rattle.tn_base.specs.Firm.{Firm}
use Rattle.tn_firm.specs.declared.value.FirmValue.{FirmValue}
use Rattle.tn_firm.specs.Firms.{firm_of}
use Rattle.tn_firm.specs.FirmLemmas.{firm_few, firm_laws}
use Rattle.tn_model.specs.declared.ends.Ends.{Ends}
use Rattle.tn_said.specs.declared.said.Said.{Said}
use Rattle.tn_model.specs.Prices.{price_at}
use Rattle.tn_model.specs.Network.{IsNetwork}
use Rattle.tn_market.specs.Supported.{AreSupports, IsNegativeCycle}
use Rattle.tn_market.specs.Limits.{IsWithinLimits}
use Rattle.tn_market.specs.Valued.{IsWorthAtMost}
use Rattle.tn_price.proofs.CycleLemmas.{cycle_small}
use Rattle.tn_commands.specs.Implied.{IsEfficientAndStable}
use Rattle.tn_commands.specs.Limits.{AreWorthsAnswered, most_answered_trades}
use Rattle.tn_model.specs.Limits.{few_trades, most_firms, most_number, most_price, most_worth_among}
use Rattle.tn_market.specs.Widths.{most_worth}
use Rattle.tn_commands.proofs.CheckLemmas.{implied_by, value_at}
use Rattle.tn_commands.proofs.SolveLemmas.{cost_within}

-- what holds of one answer holds of a result that is that answer, if it is any
pub if_ok : {E : Type 0} (P : Said → Type 0) (result : Result Said E) (one : Said) → P one
    → IfOk result (λ said. said ≡ one) → IfOk result P
if_ok P (Ok said) one holds same = subst P (sym same) holds
if_ok P (Err e) one holds same = tt

-- supporting prices are those of an equilibrium
pub supports_imply : (firms : List Firm) (trades : List Ends) (on : ℕ) (prices : List ℤ) → IsNetwork firms trades
    → AreSupports firms trades on prices
    → AreSupports firms trades on prices × IsEfficientAndStable firms trades on (price_at prices)
supports_imply firms trades on prices network supports =
    (supports, implied_by firms trades on (price_at prices) network supports.equilibrium)

-- the worths of firms of any kind are small
pub small_firms : (firms : List FirmValue) (f : ℕ) (firm : Firm) → slice_get (map firm_of firms) f ≡ Some firm
    → IsWorthAtMost most_worth firm
small_firms firms f firm is =
    let there = value_at firms f firm is in subst (IsWorthAtMost most_worth) there.2 (firm_laws there.0).within

-- among few trades the worths of firms of any kind are small enough
pub few_answered : (firms : List FirmValue) (trades : List Ends) → length trades ≤ few_trades
    → AreWorthsAnswered (map firm_of firms) trades
unfolding most_worth_among
few_answered firms trades few f firm is =
    subst (λ (b : Bool). IsWorthAtMost (if b then most_worth else 124 * 10 ^ 7) firm)
    (sym (le-leb (length trades) few_trades few)) (small_firms firms f firm is)

-- so a market to which the commands answer is one on which outcomes are judged
pub within_limits : (firms : List FirmValue) (trades : List Ends) → length firms ≤ most_firms
    → length trades ≤ most_answered_trades → AreWorthsAnswered (map firm_of firms) trades
    → IsWithinLimits firm_of (λ (value : FirmValue). most_worth) (record { firms = firms; trades = trades })
within_limits firms trades few_firms few worths = record {
  few_firms = few_firms;
  few_trades = few;
  few_own = λ f value is. firm_few value;
  small_worths = λ f value is. omega arith;
  worths = λ f value is. worths f (firm_of value) (slice_get-map firm_of firms f ∙ ap (option_map firm_of) is);
}

-- a cycle's cost fits an answer
pub cycle_fits : (firms : List FirmValue) (trades : List Ends) (on : ℕ) (nodes : List (Option ℕ)) (cost : ℤ)
    → IsNetwork (map firm_of firms) trades → length trades ≤ most_answered_trades
    → AreWorthsAnswered (map firm_of firms) trades
    → IsNegativeCycle (map firm_of firms) trades on nodes cost → IsAtMost cost most_price
cycle_fits firms trades on nodes cost network few worths cycle =
    cost_within (length trades) cost few (cycle_small (map firm_of firms) trades on nodes cost network
    (most_worth_among (length trades)) worths cycle)

-- and so it does as it is stored
pub cost_fits : (cost : ℤ) → IsAtMost cost most_price → IsAtMost (to_z w128 (of_z w128 cost)) most_number
cost_fits cost small = let low = small.low in let high = small.high in
    record { low = omega (arith, ints, low, high); high = omega (arith, ints, low, high) }
