-- No answer has a float, so its text is the compact one.
use Rattle.std.proofs.Common.{◌≡◌, ℕ, zero, suc, ℤ, pos, negsuc, Bool, false, ◌||◌, List, [], ◌∷◌, map, Option, None, Some, refl, ap, ◌∙◌, codes}
use Rattle.serde_json.specs.Find.{is_float, of_integer}
use Rattle.serde_json.specs.Written.{has_float}
use Rattle.serde_json.specs.Data.{Data, array}
use Rattle.serde_json.specs.View.{items_of}
use Rattle.tn_said.specs.declared.place.PlaceStep.{PlaceStep}
use Rattle.tn_said.specs.declared.place.PlaceStep.TheVariants.{Key, Index, Trade}
use Rattle.tn_said.specs.declared.reason.Reason.{Reason}
use Rattle.tn_said.specs.declared.reason.Reason.TheVariants.{Better as BetterIs, Surplus, Gain, Exchange, Cost, Over, Whole}
use Rattle.tn_said.specs.declared.said.Fault.{Fault}
use Rattle.tn_said.specs.declared.said.Shown.{Shown}
use Rattle.tn_model.specs.declared.contract.Contract.{Contract}
use Rattle.tn_said.specs.declared.holding.Holding.{Holding}
use Rattle.tn_model.specs.declared.range.Range.{Range}
use Rattle.tn_said.specs.declared.session.State.{State}
use Rattle.tn_said.specs.declared.session.UnitState.{UnitState}
use Rattle.tn_said.specs.declared.units.TradeUnits.{TradeUnits}
use Rattle.tn_said.specs.declared.units.UnitStep.{UnitStep}
use Rattle.tn_said.specs.declared.units.UnitHolding.{UnitHolding}
use Rattle.tn_said.specs.declared.units.UnitRange.{UnitRange}
use Rattle.tn_said.specs.declared.said.Said.{Said}
use Rattle.tn_said.specs.declared.said.Said.TheVariants.{Usage, ReadFault, NoMemory, Fault as FaultIs, Equilibrium, Better, BetterByCounts, Impossible, Accepted, ExchangeFails, Supported, SupportedByCounts, Cycle, CycleByCounts, Solved, SolvedByCounts, Drill, Ranges, RangesByCounts, Session, SessionByCounts, Drops, DropsByCounts, Completes, CompletesByCounts, Blocks, Valid, Invalid, Cases, Page as PageIs, Firms, FirmsByCounts}
use Rattle.tn_answer.specs.AnswerText.{bounds_data, bundle_data, contract_data, contracts_data, counts_from, direction, entry_data, fault_data, held_data, holding_data, nodes_data, place_data, price_data, prices_from, range_data, state_data, states_data, step_data, steps_data, unit_holding_data, unit_range_data, unit_state_data, unit_states_data, unit_step_data, answer, answer_data}
use Rattle.tn_answer.specs.ReasonText.{reason_members}
use Rattle.tn_answer.specs.Values.{names_data, option_data, bound_data, numbers_data}
use Rattle.tn_answer.specs.Rows.{each_from}
use Rattle.tn_names.specs.Names.{NameLists}
use Rattle.tn_answer.proofs.CountLemmas.{counts-more}

neither : (a b : Bool) → a ≡ false → b ≡ false → (a || b) ≡ false
neither a b e f = ap (λ c. c || b) e ∙ f

integer_is_no_float : (z : ℤ) → is_float (of_integer z) ≡ false
integer_is_no_float (pos n) = refl
integer_is_no_float (negsuc n) = refl

module _ {A : Type 0} (data_of : A → Data) (one : (x : A) → has_float (data_of x) ≡ false) where
  items_have_no_float : (xs : List A) → has_float (array (items_of (map data_of xs))) ≡ false
  items_have_no_float [] = refl
  items_have_no_float (x ∷ xs) = neither _ _ (one x) (items_have_no_float xs)

module _ {A : Type 0} (data_of : ℕ → A → Data) (one : (k : ℕ) (x : A) → has_float (data_of k x) ≡ false) where
  each_has_no_float : (k : ℕ) (xs : List A) → has_float (array (items_of (each_from data_of k xs))) ≡ false
  each_has_no_float k [] = refl
  each_has_no_float k (x ∷ xs) = neither _ _ (one k x) (each_has_no_float (suc k) xs)

bound_has_no_float : (bound : Option ℤ) → has_float (bound_data bound) ≡ false
bound_has_no_float None = refl
bound_has_no_float (Some price) = integer_is_no_float price

bounds_have_no_float : (names : List (List ℕ)) (k : ℕ) (low : Option ℤ) (low_path : Data) (high : Option ℤ)
    (high_path : Data) → has_float low_path ≡ false → has_float high_path ≡ false
    → has_float (bounds_data names k low low_path high high_path) ≡ false
bounds_have_no_float names k low low_path high high_path to from =
    neither _ _ (bound_has_no_float high) (neither _ _ from (neither _ _ (bound_has_no_float low) (neither _ _ to refl)))

held_has_no_float : (firms : List (List ℕ)) (k : ℕ) (has best : Data) (worth utility : Option ℤ) (best_utility : ℤ)
    (gain : Option ℤ) → has_float has ≡ false → has_float best ≡ false
    → has_float (held_data firms k has best worth utility best_utility gain) ≡ false
held_has_no_float firms k has best worth utility best_utility gain own other =
    neither _ _ other (neither _ _ (integer_is_no_float best_utility) (neither _ _ (bound_has_no_float gain)
    (neither _ _ own (neither _ _ (bound_has_no_float utility) (neither _ _ (bound_has_no_float worth) refl)))))

module _ (names : List (List ℕ)) where
  names_have_no_float : (ks : List ℕ) → has_float (names_data names ks) ≡ false
  names_have_no_float [] = refl
  names_have_no_float (k ∷ ks) = names_have_no_float ks

  option_has_no_float : (o : Option ℕ) → has_float (option_data names o) ≡ false
  option_has_no_float None = refl
  option_has_no_float (Some k) = refl

  price_has_no_float : (k : ℕ) (price : ℤ) → has_float (price_data names k price) ≡ false
  price_has_no_float k price = neither _ _ (integer_is_no_float price) refl

  prices_have_no_float : (k : ℕ) (prices : List ℤ) → has_float (array (items_of (prices_from names k prices))) ≡ false
  prices_have_no_float = each_has_no_float (price_data names) price_has_no_float

  counts_have_no_float : (k : ℕ) (counts : List ℕ) → has_float (array (items_of (counts_from names k counts))) ≡ false
  counts_have_no_float k [] = refl
  counts_have_no_float k (zero ∷ counts) = counts_have_no_float (suc k) counts
  counts_have_no_float k (suc n ∷ counts) =
      ap (λ ds. has_float (array (items_of ds))) (counts-more names k n counts) ∙ counts_have_no_float (suc k) counts

  nodes_have_no_float : (nodes : List (Option ℕ)) → has_float (nodes_data names nodes) ≡ false
  nodes_have_no_float = items_have_no_float (option_data names) option_has_no_float

  contracts_have_no_float : (contracts : List Contract) → has_float (contracts_data names contracts) ≡ false
  contracts_have_no_float = items_have_no_float (contract_data names) (λ contract. price_has_no_float contract.trade
      contract.price)

  bundle_has_no_float : (bundle : List TradeUnits) → has_float (bundle_data names bundle) ≡ false
  bundle_has_no_float = items_have_no_float (entry_data names) (λ entry. refl)

  unit_step_has_no_float : (node : Option UnitStep) → has_float (unit_step_data names node) ≡ false
  unit_step_has_no_float None = refl
  unit_step_has_no_float (Some step) = price_has_no_float step.trade (direction step.more)

  steps_have_no_float : (steps : List (Option UnitStep)) → has_float (steps_data names steps) ≡ false
  steps_have_no_float = items_have_no_float (unit_step_data names) unit_step_has_no_float

  ranges_have_no_float : (k : ℕ) (ranges : List Range)
      → has_float (array (items_of (each_from (range_data names) k ranges))) ≡ false
  ranges_have_no_float = each_has_no_float (range_data names) (λ k range. bounds_have_no_float names k range.low
      (nodes_data names range.low_path) range.high (nodes_data names range.high_path)
      (nodes_have_no_float range.low_path) (nodes_have_no_float range.high_path))

  unit_ranges_have_no_float : (k : ℕ) (ranges : List UnitRange)
      → has_float (array (items_of (each_from (unit_range_data names) k ranges))) ≡ false
  unit_ranges_have_no_float = each_has_no_float (unit_range_data names) (λ k range. bounds_have_no_float names k
      range.low (steps_data names range.low_path) range.high (steps_data names range.high_path)
      (steps_have_no_float range.low_path) (steps_have_no_float range.high_path))

  states_have_no_float : (states : List State) → has_float (states_data names states) ≡ false
  states_have_no_float = items_have_no_float (state_data names) (λ state.
      neither _ _ (names_have_no_float state.on)
      (neither _ _ (contracts_have_no_float state.prices) (neither _ _ (integer_is_no_float state.surplus) refl)))

  unit_states_have_no_float : (states : List UnitState) → has_float (unit_states_data names states) ≡ false
  unit_states_have_no_float = items_have_no_float (unit_state_data names) (λ state.
      neither _ _ (bundle_has_no_float state.on)
      (neither _ _ (contracts_have_no_float state.prices) (neither _ _ (integer_is_no_float state.surplus) refl)))

  step_has_no_float : (step : PlaceStep) → has_float (step_data names step) ≡ false
  step_has_no_float (Key word) = refl
  step_has_no_float (Index k) = refl
  step_has_no_float (Trade t) = refl

  place_has_no_float : (place : List PlaceStep) → has_float (place_data names place) ≡ false
  place_has_no_float [] = refl
  place_has_no_float (step ∷ place) = neither _ _ (step_has_no_float step) (place_has_no_float place)

  fault_has_no_float : (fault : Fault) (shown : Option Shown) → has_float (fault_data names fault shown) ≡ false
  fault_has_no_float fault None = neither _ _ (place_has_no_float fault.place) refl
  fault_has_no_float fault (Some shown) =
      neither _ _ (option_has_no_float shown.at)
      (neither _ _ (place_has_no_float fault.place) (neither _ _ (names_have_no_float shown.x)
      (neither _ _ (names_have_no_float shown.y) refl)))

reason_has_no_float : (names : NameLists) (reason : Reason)
    → has_float (answer (codes "invalid") (reason_members names reason)) ≡ false
reason_has_no_float names (Surplus surplus) = neither _ _ (integer_is_no_float surplus) refl
reason_has_no_float names (Gain firm gain) = neither _ _ (bound_has_no_float gain) refl
reason_has_no_float names (Cost cost) = neither _ _ (integer_is_no_float cost) refl
reason_has_no_float names (Over over) = neither _ _ (integer_is_no_float over) refl
reason_has_no_float names (BetterIs firm bundle) = neither _ _ (names_have_no_float names.trades bundle) refl
reason_has_no_float names (Exchange firm x y at) =
    neither _ _ (option_has_no_float names.trades at) (neither _ _ (names_have_no_float names.trades x)
    (neither _ _ (names_have_no_float names.trades y) refl))
reason_has_no_float names (Whole on surplus) =
    neither _ _ (names_have_no_float names.trades on) (neither _ _ (integer_is_no_float surplus) refl)
reason_has_no_float names reason = refl

holdings_have_no_float : (names : NameLists) (k : ℕ) (holdings : List Holding)
    → has_float (array (items_of (each_from (holding_data names) k holdings))) ≡ false
holdings_have_no_float names = each_has_no_float (holding_data names) (λ k holding.
    held_has_no_float names.firms k (names_data names.trades holding.has) (names_data names.trades holding.best)
    holding.worth holding.utility holding.best_utility holding.gain (names_have_no_float names.trades holding.has)
    (names_have_no_float names.trades holding.best))

unit_holdings_have_no_float : (names : NameLists) (k : ℕ) (holdings : List UnitHolding)
    → has_float (array (items_of (each_from (unit_holding_data names) k holdings))) ≡ false
unit_holdings_have_no_float names = each_has_no_float (unit_holding_data names) (λ k holding.
    held_has_no_float names.firms k (bundle_data names.trades holding.has) (bundle_data names.trades holding.best)
    holding.worth holding.utility holding.best_utility holding.gain (bundle_has_no_float names.trades holding.has)
    (bundle_has_no_float names.trades holding.best))

numbers_have_no_float : (numbers : List ℕ) → has_float (numbers_data numbers) ≡ false
numbers_have_no_float [] = refl
numbers_have_no_float (n ∷ numbers) = numbers_have_no_float numbers

pub answer_has_no_float : (names : NameLists) (said : Said) → has_float (answer_data names said) ≡ false
answer_has_no_float names Usage = refl
answer_has_no_float names ReadFault = refl
answer_has_no_float names NoMemory = refl
answer_has_no_float names (FaultIs fault) = fault_has_no_float names.trades fault fault.shown
answer_has_no_float names (Equilibrium surplus) = neither _ _ (integer_is_no_float surplus) refl
answer_has_no_float names (Better firm bundle gain) =
    neither _ _ (names_have_no_float names.trades bundle) (neither _ _ (integer_is_no_float gain) refl)
answer_has_no_float names (BetterByCounts firm bundle gain) =
    neither _ _ (bundle_has_no_float names.trades bundle) (neither _ _ (integer_is_no_float gain) refl)
answer_has_no_float names (Impossible firm) = refl
answer_has_no_float names Accepted = refl
answer_has_no_float names (ExchangeFails firm x y at) =
    neither _ _ (option_has_no_float names.trades at) (neither _ _ (names_have_no_float names.trades x)
    (neither _ _ (names_have_no_float names.trades y) refl))
answer_has_no_float names (Supported on prices ends) = neither _ _ (prices_have_no_float names.trades 0 prices) refl
answer_has_no_float names (SupportedByCounts counts prices ends) =
    neither _ _ (prices_have_no_float names.trades 0 prices) refl
answer_has_no_float names (Cycle nodes cost) =
    neither _ _ (integer_is_no_float cost) (neither _ _ (nodes_have_no_float names.trades nodes) refl)
answer_has_no_float names (CycleByCounts nodes cost) =
    neither _ _ (integer_is_no_float cost) (neither _ _ (steps_have_no_float names.trades nodes) refl)
answer_has_no_float names (Solved on prices surplus ends) =
    neither _ _ (names_have_no_float names.trades on) (neither _ _ (prices_have_no_float names.trades 0 prices)
    (neither _ _ (integer_is_no_float surplus) refl))
answer_has_no_float names (SolvedByCounts counts prices surplus ends) =
    neither _ _ (counts_have_no_float names.trades 0 counts)
    (neither _ _ (prices_have_no_float names.trades 0 prices) (neither _ _ (integer_is_no_float surplus) refl))
answer_has_no_float names (Drill size start firms surplus) = neither _ _ (integer_is_no_float surplus) refl
answer_has_no_float names (Ranges on ranges ends) =
    neither _ _ (names_have_no_float names.trades on) (neither _ _ (ranges_have_no_float names.trades 0 ranges) refl)
answer_has_no_float names (RangesByCounts counts ranges ends) =
    neither _ _ (counts_have_no_float names.trades 0 counts)
    (neither _ _ (unit_ranges_have_no_float names.trades 0 ranges) refl)
answer_has_no_float names (Session edits) = neither _ _ (states_have_no_float names.trades edits) refl
answer_has_no_float names (SessionByCounts edits) = neither _ _ (unit_states_have_no_float names.trades edits) refl
answer_has_no_float names (DropsByCounts firm keeps gain over) =
    neither _ _ (bound_has_no_float gain) (neither _ _ (bundle_has_no_float names.trades keeps)
    (neither _ _ (integer_is_no_float over) refl))
answer_has_no_float names (CompletesByCounts prices over) =
    neither _ _ (integer_is_no_float over) (neither _ _ (contracts_have_no_float names.trades prices) refl)
answer_has_no_float names (Drops firm keeps gain over) =
    neither _ _ (bound_has_no_float gain) (neither _ _ (names_have_no_float names.trades keeps)
    (neither _ _ (integer_is_no_float over) refl))
answer_has_no_float names (Completes prices over) =
    neither _ _ (integer_is_no_float over) (neither _ _ (prices_have_no_float names.trades 0 prices) refl)
answer_has_no_float names Valid = refl
answer_has_no_float names (PageIs page) = refl
answer_has_no_float names (Firms content firms surplus) =
    neither _ _ (holdings_have_no_float names 0 firms) (neither _ _ (bound_has_no_float surplus) refl)
answer_has_no_float names (FirmsByCounts content firms surplus) =
    neither _ _ (unit_holdings_have_no_float names 0 firms) (neither _ _ (bound_has_no_float surplus) refl)
answer_has_no_float names (Invalid reason) = reason_has_no_float names reason
answer_has_no_float names (Cases count failed) = neither _ _ (numbers_have_no_float failed) refl
answer_has_no_float names (Blocks contracts over) =
    neither _ _ (contracts_have_no_float names.trades contracts) (neither _ _ (integer_is_no_float over) refl)
