-- Members of answers over the same names: those whose data are equal are the same, or name no trade.
use Rattle.std.proofs.Common.{◌≡◌, ◌≤◌, ◌+◌, ℕ, suc, ℤ, pos, negsuc, Bool, true, false, List, [], ◌∷◌, length, Option, None, Some, All, IfSome, codes, refl, ap, arith}
use Rattle.std.proofs.lemmas.List.Elements.{All-head, All-tail}
use Rattle.std.specs.List.{AllZip}
use Rattle.serde_json.specs.Data.{Data, array}
use Rattle.serde_json.specs.View.{items_of}
use Rattle.serde_json.specs.Events.{items_len}
use Rattle.tn_model.specs.declared.contract.Contract.{Contract}
use Rattle.tn_model.specs.declared.range.Range.{Range}
use Rattle.tn_said.specs.declared.holding.Holding.{Holding}
use Rattle.tn_said.specs.declared.session.State.{State}
use Rattle.tn_said.specs.declared.session.UnitState.{UnitState}
use Rattle.tn_said.specs.declared.units.TradeUnits.{TradeUnits}
use Rattle.tn_said.specs.declared.units.UnitStep.{UnitStep}
use Rattle.tn_said.specs.declared.units.UnitHolding.{UnitHolding}
use Rattle.tn_said.specs.declared.units.UnitRange.{UnitRange}
use Rattle.tn_names.specs.Names.{NameLists, IsNameList}
use Rattle.tn_names.specs.Named.{IsNamed}
use Rattle.tn_answer.specs.Rows.{each_from}
use Rattle.tn_answer.specs.AnswerText.{bounds_data, bundle_data, contract_data, contracts_data, direction, entry_data, held_data, holding_data, nodes_data, prices_from, range_data, state_data, states_data, steps_data, unit_holding_data, unit_range_data, unit_state_data, unit_states_data, unit_step_data}
use Rattle.tn_answer.specs.Values.{name_data, names_data, option_data}
use Rattle.tn_answer.specs.Apart.{AreBothEmpty, AreBothNull, HasNamedPaths, HasNamedSteps, IsNamedEntry, IsNamedHolding, IsNamedState, IsNamedUnitHolding, IsNamedUnitState, IsNamedUnitStep, IsSameHolding, IsSameRange, IsSameState, beside_trades}
use Rattle.tn_answer.proofs.BundleLemmas.{nowhere_alike}
use Rattle.tn_answer.proofs.DataParts.{first_in, items_in, natural_in, part, rest_in, same_bound, same_integer, same_name, shape}
use Rattle.tn_answer.proofs.DataTexts.{clash}
use Rattle.tn_answer.proofs.ListsApart.{alike_each, alike_items, same_each, same_items}

abbrev is_below : ℤ → ℕ
is_below (pos n) = 0
is_below (negsuc n) = 1

same_direction : (more other : Bool) → direction more ≡ direction other → more ≡ other
same_direction true true e = refl
same_direction true false e = absurd (clash 0 1 refl (ap is_below e))
same_direction false true e = absurd (clash 1 0 refl (ap is_below e))
same_direction false false e = refl

-- what stands in the object of a range, and in that of what a firm has
bounds_parts : (names : List (List ℕ)) (k : ℕ) (low : Option ℤ) (low_path : Data) (high : Option ℤ) (high_path : Data)
    (low' : Option ℤ) (low_path' : Data) (high' : Option ℤ) (high_path' : Data)
    → bounds_data names k low low_path high high_path ≡ bounds_data names k low' low_path' high' high_path'
    → (low ≡ low') × (low_path ≡ low_path') × (high ≡ high') × (high_path ≡ high_path')
bounds_parts names k low low_path high high_path low' low_path' high' high_path' e = (
  same_bound low low' (ap (part (codes "low")) e),
  ap (part (codes "low_path")) e,
  same_bound high high' (ap (part (codes "high")) e),
  ap (part (codes "high_path")) e,
)

held_parts : (firms : List (List ℕ)) (k : ℕ) (has best : Data) (worth utility : Option ℤ) (best_utility : ℤ)
    (gain : Option ℤ) (has' best' : Data) (worth' utility' : Option ℤ) (best_utility' : ℤ) (gain' : Option ℤ)
    → held_data firms k has best worth utility best_utility gain
    ≡ held_data firms k has' best' worth' utility' best_utility' gain'
    → (has ≡ has') × (best ≡ best') × (worth ≡ worth') × (utility ≡ utility') × (best_utility ≡ best_utility')
    × (gain ≡ gain')
held_parts firms k has best worth utility best_utility gain has' best' worth' utility' best_utility' gain' e = (
  ap (part (codes "has")) e,
  ap (part (codes "best")) e,
  same_bound worth worth' (ap (part (codes "worth")) e),
  same_bound utility utility' (ap (part (codes "utility")) e),
  same_integer best_utility best_utility' (ap (part (codes "best_utility")) e),
  same_bound gain gain' (ap (part (codes "gain")) e),
)

module _ (names : List (List ℕ)) (kept : IsNameList names) where
  pub same_names : (xs ys : List ℕ) → All (IsNamed names) xs → All (IsNamed names) ys
      → names_data names xs ≡ names_data names ys → xs ≡ ys
  same_names = same_items (name_data names) (IsNamed names) (same_name names kept)

  pub same_option : (first second : Option ℕ) → IfSome first (IsNamed names) → IfSome second (IsNamed names)
      → option_data names first ≡ option_data names second → first ≡ second
  same_option None None h k e = refl
  same_option None (Some y) h k e = absurd (clash 0 3 refl (ap shape e))
  same_option (Some x) None h k e = absurd (clash 3 0 refl (ap shape e))
  same_option (Some x) (Some y) h k e = ap Some (same_name names kept x y h k e)

  pub same_nodes : (xs ys : List (Option ℕ)) → All (λ node. IfSome node (IsNamed names)) xs
      → All (λ node. IfSome node (IsNamed names)) ys → nodes_data names xs ≡ nodes_data names ys → xs ≡ ys
  same_nodes = same_items (option_data names) (λ node. IfSome node (IsNamed names)) same_option

  same_contract : (x y : Contract) → IsNamed names x.trade → IsNamed names y.trade
      → contract_data names x ≡ contract_data names y → x ≡ y
  same_contract x y h k e =
      let trade = same_name names kept x.trade y.trade h k (ap first_in e) in
      let price = same_integer x.price y.price (ap (λ d. first_in (rest_in d)) e) in
      λ i. record { trade = trade i; price = price i }

  pub same_contracts : (xs ys : List Contract) → All (λ contract. IsNamed names contract.trade) xs
      → All (λ contract. IsNamed names contract.trade) ys → contracts_data names xs ≡ contracts_data names ys → xs ≡ ys
  same_contracts = same_items (contract_data names) (λ contract. IsNamed names contract.trade) same_contract

  same_range : (k : ℕ) (x y : Range) → HasNamedPaths names x → HasNamedPaths names y
      → range_data names k x ≡ range_data names k y → x ≡ y
  same_range k x y h i e =
      let parts = bounds_parts names k x.low (nodes_data names x.low_path) x.high (nodes_data names x.high_path) y.low
      (nodes_data names y.low_path) y.high (nodes_data names y.high_path) e in
      let low_path = same_nodes x.low_path y.low_path h.low i.low parts.1 in
      let high_path = same_nodes x.high_path y.high_path h.high i.high parts.3 in
      λ j. record { low = parts.0 j; low_path = low_path j; high = parts.2 j; high_path = high_path j }

  pub same_ranges : (xs ys : List Range) → All (HasNamedPaths names) xs → All (HasNamedPaths names) ys
      → array (items_of (each_from (range_data names) 0 xs)) ≡ array (items_of (each_from (range_data names) 0 ys))
      → xs ≡ ys
  same_ranges = same_each (range_data names) (HasNamedPaths names) same_range 0

  same_state : (x y : State) → IsNamedState names x → IsNamedState names y → state_data names x ≡ state_data names y
      → x ≡ y
  same_state x y h k e =
      let on = same_names x.on y.on h.on k.on (ap (part (codes "on")) e) in
      let prices = same_contracts x.prices y.prices h.prices k.prices (ap (part (codes "prices")) e) in
      let surplus = same_integer x.surplus y.surplus (ap (part (codes "surplus")) e) in
      λ j. record { on = on j; prices = prices j; surplus = surplus j }

  pub same_states : (xs ys : List State) → All (IsNamedState names) xs → All (IsNamedState names) ys
      → states_data names xs ≡ states_data names ys → xs ≡ ys
  same_states = same_items (state_data names) (IsNamedState names) same_state

  -- ---- trades with units

  same_entry : (x y : TradeUnits) → IsNamedEntry names x → IsNamedEntry names y
      → entry_data names x ≡ entry_data names y → x ≡ y
  same_entry x y h k e =
      let trade = same_name names kept x.trade y.trade h k (ap first_in e) in
      let units = ap (λ d. natural_in (first_in (rest_in d))) e in
      λ i. record { trade = trade i; units = units i }

  pub same_entries : (xs ys : List TradeUnits) → All (IsNamedEntry names) xs → All (IsNamedEntry names) ys
      → bundle_data names xs ≡ bundle_data names ys → xs ≡ ys
  same_entries = same_items (entry_data names) (IsNamedEntry names) same_entry

  same_unit_step : (x y : Option UnitStep) → IsNamedUnitStep names x → IsNamedUnitStep names y
      → unit_step_data names x ≡ unit_step_data names y → x ≡ y
  same_unit_step None None h k e = refl
  same_unit_step None (Some y) h k e = absurd (clash 0 4 refl (ap shape e))
  same_unit_step (Some x) None h k e = absurd (clash 4 0 refl (ap shape e))
  same_unit_step (Some x) (Some y) h k e =
      let trade = same_name names kept x.trade y.trade h k (ap first_in e) in
      let more = same_direction x.more y.more (same_integer (direction x.more) (direction y.more)
      (ap (λ d. first_in (rest_in d)) e)) in
      λ i. Some (record { trade = trade i; more = more i })

  pub same_steps : (xs ys : List (Option UnitStep)) → All (IsNamedUnitStep names) xs → All (IsNamedUnitStep names) ys
      → steps_data names xs ≡ steps_data names ys → xs ≡ ys
  same_steps = same_items (unit_step_data names) (IsNamedUnitStep names) same_unit_step

  same_unit_range : (k : ℕ) (x y : UnitRange) → HasNamedSteps names x → HasNamedSteps names y
      → unit_range_data names k x ≡ unit_range_data names k y → x ≡ y
  same_unit_range k x y h i e =
      let parts = bounds_parts names k x.low (steps_data names x.low_path) x.high (steps_data names x.high_path) y.low
      (steps_data names y.low_path) y.high (steps_data names y.high_path) e in
      let low_path = same_steps x.low_path y.low_path h.low i.low parts.1 in
      let high_path = same_steps x.high_path y.high_path h.high i.high parts.3 in
      λ j. record { low = parts.0 j; low_path = low_path j; high = parts.2 j; high_path = high_path j }

  pub same_unit_ranges : (xs ys : List UnitRange) → All (HasNamedSteps names) xs → All (HasNamedSteps names) ys
      → array (items_of (each_from (unit_range_data names) 0 xs))
      ≡ array (items_of (each_from (unit_range_data names) 0 ys)) → xs ≡ ys
  same_unit_ranges = same_each (unit_range_data names) (HasNamedSteps names) same_unit_range 0

  same_unit_state : (x y : UnitState) → IsNamedUnitState names x → IsNamedUnitState names y
      → unit_state_data names x ≡ unit_state_data names y → x ≡ y
  same_unit_state x y h k e =
      let on = same_entries x.on y.on h.on k.on (ap (part (codes "on")) e) in
      let prices = same_contracts x.prices y.prices h.prices k.prices (ap (part (codes "prices")) e) in
      let surplus = same_integer x.surplus y.surplus (ap (part (codes "surplus")) e) in
      λ j. record { on = on j; prices = prices j; surplus = surplus j }

  pub same_unit_states : (xs ys : List UnitState) → All (IsNamedUnitState names) xs → All (IsNamedUnitState names) ys
      → unit_states_data names xs ≡ unit_states_data names ys → xs ≡ ys
  same_unit_states = same_items (unit_state_data names) (IsNamedUnitState names) same_unit_state

  -- prices of all trades beside prices of some
  pub prices_alike : (t : ℕ) (prices : List ℤ) (contracts : List Contract) → t + length prices ≤ length names
      → All (λ contract. IsNamed names contract.trade) contracts
      → array (items_of (prices_from names t prices)) ≡ contracts_data names contracts
      → beside_trades t prices ≡ contracts
  prices_alike t [] [] all h e = refl
  prices_alike t [] (contract ∷ contracts) all h e = absurd (omega (arith, ap (λ d. items_len (items_in d)) e))
  prices_alike t (price ∷ prices) [] all h e = absurd (omega (arith, ap (λ d. items_len (items_in d)) e))
  prices_alike t (price ∷ prices) (contract ∷ contracts) all h e =
      let there = All-head (λ contract. IsNamed names contract.trade) contract contracts h in
      let first = same_contract (record { trade = t; price = price }) contract (omega (arith, all)) there (ap first_in e) in
      let rest = prices_alike (suc t) prices contracts (omega (arith, all))
      (All-tail (λ contract. IsNamed names contract.trade) contract contracts h) (ap rest_in e) in
      λ j. first j ∷ rest j

-- ---- trades beside trades with units

module _ (names : List (List ℕ)) where
  pub bundle_alike : (ks : List ℕ) (bundle : List TradeUnits) → All (IsNamed names) ks → All (IsNamedEntry names) bundle
      → names_data names ks ≡ bundle_data names bundle → AreBothEmpty ks bundle
  bundle_alike ks bundle h k e = nowhere_alike ks bundle
      (alike_items (name_data names) (entry_data names) (IsNamed names) (IsNamedEntry names) (λ t entry. ⊥)
      (λ t entry there there' same. clash 3 4 refl (ap shape same)) ks bundle h k e)

  node_alike : (node : Option ℕ) (step : Option UnitStep) → IfSome node (IsNamed names) → IsNamedUnitStep names step
      → option_data names node ≡ unit_step_data names step → AreBothNull node step
  node_alike None None h k e = (refl, refl)
  node_alike None (Some y) h k e = absurd (clash 0 4 refl (ap shape e))
  node_alike (Some x) None h k e = absurd (clash 3 0 refl (ap shape e))
  node_alike (Some x) (Some y) h k e = absurd (clash 3 4 refl (ap shape e))

  pub steps_alike : (nodes : List (Option ℕ)) (steps : List (Option UnitStep))
      → All (λ node. IfSome node (IsNamed names)) nodes → All (IsNamedUnitStep names) steps
      → nodes_data names nodes ≡ steps_data names steps → AllZip AreBothNull nodes steps
  steps_alike = alike_items (option_data names) (unit_step_data names) (λ node. IfSome node (IsNamed names))
      (IsNamedUnitStep names) AreBothNull node_alike

  range_alike : (k : ℕ) (x : Range) (y : UnitRange) → HasNamedPaths names x → HasNamedSteps names y
      → range_data names k x ≡ unit_range_data names k y → IsSameRange x y
  range_alike k x y h i e =
      let parts = bounds_parts names k x.low (nodes_data names x.low_path) x.high (nodes_data names x.high_path) y.low
      (steps_data names y.low_path) y.high (steps_data names y.high_path) e in
      record {
        high = parts.2;
        high_path = steps_alike x.high_path y.high_path h.high i.high parts.3;
        low = parts.0;
        low_path = steps_alike x.low_path y.low_path h.low i.low parts.1;
      }

  pub ranges_alike : (xs : List Range) (ys : List UnitRange) → All (HasNamedPaths names) xs
      → All (HasNamedSteps names) ys
      → array (items_of (each_from (range_data names) 0 xs)) ≡ array (items_of (each_from (unit_range_data names) 0 ys))
      → AllZip IsSameRange xs ys
  ranges_alike = alike_each (range_data names) (unit_range_data names) (HasNamedPaths names) (HasNamedSteps names)
      IsSameRange range_alike 0

module _ (names : List (List ℕ)) (kept : IsNameList names) where
  state_alike : (x : State) (y : UnitState) → IsNamedState names x → IsNamedUnitState names y
      → state_data names x ≡ unit_state_data names y → IsSameState x y
  state_alike x y h k e = record {
    on = bundle_alike names x.on y.on h.on k.on (ap (part (codes "on")) e);
    prices = same_contracts names kept x.prices y.prices h.prices k.prices (ap (part (codes "prices")) e);
    surplus = same_integer x.surplus y.surplus (ap (part (codes "surplus")) e);
  }

  pub states_alike : (xs : List State) (ys : List UnitState) → All (IsNamedState names) xs
      → All (IsNamedUnitState names) ys → states_data names xs ≡ unit_states_data names ys → AllZip IsSameState xs ys
  states_alike = alike_items (state_data names) (unit_state_data names) (IsNamedState names) (IsNamedUnitState names)
      IsSameState state_alike

-- ---- what firms have

module _ (names : NameLists) (trades : IsNameList names.trades) where
  same_holding : (k : ℕ) (x y : Holding) → IsNamedHolding names.trades x → IsNamedHolding names.trades y
      → holding_data names k x ≡ holding_data names k y → x ≡ y
  same_holding k x y h i e =
      let parts = held_parts names.firms k (names_data names.trades x.has) (names_data names.trades x.best) x.worth
      x.utility x.best_utility x.gain (names_data names.trades y.has) (names_data names.trades y.best) y.worth y.utility
      y.best_utility y.gain e in
      let has = same_names names.trades trades x.has y.has h.has i.has parts.0 in
      let best = same_names names.trades trades x.best y.best h.best i.best parts.1 in
      λ j. record {
        has = has j;
        worth = parts.2 j;
        utility = parts.3 j;
        best = best j;
        best_utility = parts.4 j;
        gain = parts.5 j;
      }

  pub same_holdings : (xs ys : List Holding) → All (IsNamedHolding names.trades) xs
      → All (IsNamedHolding names.trades) ys
      → array (items_of (each_from (holding_data names) 0 xs)) ≡ array (items_of (each_from (holding_data names) 0 ys))
      → xs ≡ ys
  same_holdings = same_each (holding_data names) (IsNamedHolding names.trades) same_holding 0

  same_unit_holding : (k : ℕ) (x y : UnitHolding) → IsNamedUnitHolding names.trades x
      → IsNamedUnitHolding names.trades y
      → unit_holding_data names k x ≡ unit_holding_data names k y → x ≡ y
  same_unit_holding k x y h i e =
      let parts = held_parts names.firms k (bundle_data names.trades x.has) (bundle_data names.trades x.best) x.worth
      x.utility x.best_utility x.gain (bundle_data names.trades y.has) (bundle_data names.trades y.best) y.worth
      y.utility y.best_utility y.gain e in
      let has = same_entries names.trades trades x.has y.has h.has i.has parts.0 in
      let best = same_entries names.trades trades x.best y.best h.best i.best parts.1 in
      λ j. record {
        has = has j;
        worth = parts.2 j;
        utility = parts.3 j;
        best = best j;
        best_utility = parts.4 j;
        gain = parts.5 j;
      }

  pub same_unit_holdings : (xs ys : List UnitHolding) → All (IsNamedUnitHolding names.trades) xs
      → All (IsNamedUnitHolding names.trades) ys
      → array (items_of (each_from (unit_holding_data names) 0 xs))
      ≡ array (items_of (each_from (unit_holding_data names) 0 ys)) → xs ≡ ys
  same_unit_holdings = same_each (unit_holding_data names) (IsNamedUnitHolding names.trades) same_unit_holding 0

  holding_alike : (k : ℕ) (x : Holding) (y : UnitHolding) → IsNamedHolding names.trades x
      → IsNamedUnitHolding names.trades y → holding_data names k x ≡ unit_holding_data names k y → IsSameHolding x y
  holding_alike k x y h i e =
      let parts = held_parts names.firms k (names_data names.trades x.has) (names_data names.trades x.best) x.worth
      x.utility x.best_utility x.gain (bundle_data names.trades y.has) (bundle_data names.trades y.best) y.worth
      y.utility y.best_utility y.gain e in
      record {
        best = bundle_alike names.trades x.best y.best h.best i.best parts.1;
        best_utility = parts.4;
        gain = parts.5;
        has = bundle_alike names.trades x.has y.has h.has i.has parts.0;
        utility = parts.3;
        worth = parts.2;
      }

  pub holdings_alike : (xs : List Holding) (ys : List UnitHolding) → All (IsNamedHolding names.trades) xs
      → All (IsNamedUnitHolding names.trades) ys
      → array (items_of (each_from (holding_data names) 0 xs))
      ≡ array (items_of (each_from (unit_holding_data names) 0 ys)) → AllZip IsSameHolding xs ys
  holdings_alike = alike_each (holding_data names) (unit_holding_data names) (IsNamedHolding names.trades)
      (IsNamedUnitHolding names.trades) IsSameHolding holding_alike 0
