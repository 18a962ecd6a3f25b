-- Where an answer names no firm and no trade, names don't matter.
use Rattle.std.proofs.Common.{◌≡◌, ℕ, zero, suc, Bool, true, false, ◌&&◌, ◌==◌, List, [], ◌∷◌, map, codes, All, get_or, Option, None, Some, IfSome, is_none, refl, ap, ◌∙◌, true≢false, sym, arith, FitsSigned, ℤ, ◌<◌, ◌^◌}
use Rattle.std.specs.Int.{w64}
use Rattle.std.proofs.lemmas.Int.{ints}
use Rattle.std.specs.List.{list_all}
use Rattle.serde_json.specs.Data.{Data, array, object, member, no_members}
use Rattle.serde_json.specs.View.{items_of}
use Rattle.tn_said.specs.declared.place.PlaceStep.{PlaceStep}
use Rattle.tn_said.specs.declared.place.PlaceStep.TheVariants.{Key, Index, Trade}
use Rattle.tn_said.specs.declared.reason.Reason.{Reason}
use Rattle.tn_said.specs.declared.reason.Reason.TheVariants.{Impossible as ImpossibleIs, Better as BetterIs, Possible, Surplus, Gain, Exchange, Holds, Arc, Cost, Contract as ContractIs, Over, Price, Empty, Signed, Choice, Shares, Balance, Whole}
use Rattle.tn_said.specs.declared.said.Fault.{Fault}
use Rattle.tn_said.specs.declared.said.Shown.{Shown}
use Rattle.tn_model.specs.declared.contract.Contract.{Contract}
use Rattle.tn_said.specs.declared.holding.Holding.{Holding}
use Rattle.tn_model.specs.declared.range.Range.{Range}
use Rattle.tn_said.specs.declared.session.State.{State}
use Rattle.tn_said.specs.declared.session.UnitState.{UnitState}
use Rattle.tn_said.specs.declared.units.TradeUnits.{TradeUnits}
use Rattle.tn_said.specs.declared.units.UnitStep.{UnitStep}
use Rattle.tn_said.specs.declared.units.UnitHolding.{UnitHolding}
use Rattle.tn_said.specs.declared.units.UnitRange.{UnitRange}
use Rattle.tn_said.specs.declared.said.Said.{Said}
use Rattle.tn_said.specs.declared.said.Said.TheVariants.{Usage, ReadFault, NoMemory, Fault as FaultIs, Equilibrium, Better, BetterByCounts, Impossible, Accepted, ExchangeFails, Supported, SupportedByCounts, Cycle, CycleByCounts, Solved, SolvedByCounts, Drill, Ranges, RangesByCounts, Session, SessionByCounts, Drops, DropsByCounts, Completes, CompletesByCounts, Blocks, Valid, Invalid, Cases, Page as PageIs, Firms, FirmsByCounts}
use Rattle.tn_names.specs.Names.{NameLists}
use Rattle.tn_answer.specs.AnswerText.{bundle_data, contracts_data, counts_data, counts_from, state_data, prices_data, nodes_data, step_data, steps_data, unit_state_data, unit_step_data, answer, fault_members, fault_data, json, answer_form, form_text, answer_table, text_of, answer_line}
use Rattle.tn_answer.specs.declared.layout.Layout.{Layout}
use Rattle.tn_answer.specs.declared.layout.Layout.TheVariants.{Object, Rows, WideRows}
use Rattle.tn_answer.specs.Values.{names_data, option_data, integer_data}
use Rattle.tn_answer.specs.ReasonText.{reason_members, reason_names_nothing, IsReasonWithin, IsShortReason}
use Rattle.tn_answer.specs.Sayable.{HasShortBounds, HasShortUnitBounds, IsSayable, IsShortEntry, IsShortHolding, IsShortState, IsShortUnitHolding, IsShortUnitState}
use Rattle.tn_answer.specs.Kept.{HasWithinBounds, HasWithinUnitBounds, IsWithinEntry, IsWithinHolding, IsWithinState, IsWithinUnitHolding, IsWithinUnitState, IsWithinClaim, IsWithinPrices, IsWithinClaims}
use Rattle.tn_answer.proofs.CountLemmas.{is_some}
use Rattle.tn_answer.specs.Laws.{are_none, has_no_units, is_empty, state_names_nothing, unit_state_names_nothing, names_no_trade_at, names_no_trade_in, names_nothing}

both : (a b : Bool) → (a && b) ≡ true → (a ≡ true) × (b ≡ true)
both true b e = (refl, e)
both false b e = absurd (true≢false (sym e))

same_names : (trades others : List (List ℕ)) (ks : List ℕ) → are_none ks ≡ true
    → names_data trades ks ≡ names_data others ks
same_names trades others [] e = refl
same_names trades others (k ∷ ks) e = absurd (true≢false (sym e))

same_option : (trades others : List (List ℕ)) (o : Option ℕ) → is_none o ≡ true
    → option_data trades o ≡ option_data others o
same_option trades others None e = refl
same_option trades others (Some k) e = absurd (true≢false (sym e))

same_prices : (trades others : List (List ℕ)) (prices : List ℤ) → is_empty prices ≡ true
    → prices_data trades prices ≡ prices_data others prices
same_prices trades others [] e = refl
same_prices trades others (price ∷ prices) e = absurd (true≢false (sym e))

no_counts : (trades : List (List ℕ)) (k : ℕ) (counts : List ℕ) → has_no_units counts ≡ true
    → counts_from trades k counts ≡ []
no_counts trades k [] e = refl
no_counts trades k (zero ∷ counts) e = no_counts trades (suc k) counts e
no_counts trades k (suc n ∷ counts) e =
    absurd (true≢false (sym (both (suc n == 0) (has_no_units counts) e).0 ∙ is_some n))

same_counts : (trades others : List (List ℕ)) (counts : List ℕ) → has_no_units counts ≡ true
    → counts_data trades counts ≡ counts_data others counts
same_counts trades others counts e =
    ap (λ ds. array (items_of ds)) (no_counts trades 0 counts e ∙ sym (no_counts others 0 counts e))

same_contracts : (trades others : List (List ℕ)) (contracts : List Contract) → is_empty contracts ≡ true
    → contracts_data trades contracts ≡ contracts_data others contracts
same_contracts trades others [] e = refl
same_contracts trades others (contract ∷ contracts) e = absurd (true≢false (sym e))

-- nodes that are all null
module _ {A : Type 0} (data_of other_of : Option A → Data) (null : data_of None ≡ other_of None) where
  same_nulls : (nodes : List (Option A)) → list_all is_none nodes ≡ true → map data_of nodes ≡ map other_of nodes
  same_nulls [] e = refl
  same_nulls (None ∷ nodes) e = λ j. null j ∷ same_nulls nodes e j
  same_nulls (Some node ∷ nodes) e = absurd (true≢false (sym e))

same_nodes : (trades others : List (List ℕ)) (nodes : List (Option ℕ)) → list_all is_none nodes ≡ true
    → nodes_data trades nodes ≡ nodes_data others nodes
same_nodes trades others nodes e =
    ap (λ ds. array (items_of ds)) (same_nulls (option_data trades) (option_data others) refl nodes e)

same_walk : (trades others : List (List ℕ)) (steps : List (Option UnitStep)) → list_all is_none steps ≡ true
    → steps_data trades steps ≡ steps_data others steps
same_walk trades others steps e =
    ap (λ ds. array (items_of ds)) (same_nulls (unit_step_data trades) (unit_step_data others) refl steps e)

same_state : (trades others : List (List ℕ)) (state : State) → state_names_nothing state ≡ true
    → state_data trades state ≡ state_data others state
same_state trades others state e =
    let parts = both (are_none state.on) (is_empty state.prices) e in
    λ j. object
    (member (codes "on") (same_names trades others state.on parts.0 j)
    (member (codes "prices") (same_contracts trades others state.prices parts.1 j)
    (member (codes "surplus") (integer_data state.surplus) no_members)))

same_states : (trades others : List (List ℕ)) (states : List State) → list_all state_names_nothing states ≡ true
    → map (state_data trades) states ≡ map (state_data others) states
same_states trades others [] e = refl
same_states trades others (state ∷ states) e =
    let parts = both (state_names_nothing state) (list_all state_names_nothing states) e in
    λ j. same_state trades others state parts.0 j ∷ same_states trades others states parts.1 j

same_bundle : (trades others : List (List ℕ)) (bundle : List TradeUnits) → is_empty bundle ≡ true
    → bundle_data trades bundle ≡ bundle_data others bundle
same_bundle trades others [] e = refl
same_bundle trades others (entry ∷ bundle) e = absurd (true≢false (sym e))

same_unit_state : (trades others : List (List ℕ)) (state : UnitState) → unit_state_names_nothing state ≡ true
    → unit_state_data trades state ≡ unit_state_data others state
same_unit_state trades others state e =
    let parts = both (is_empty state.on) (is_empty state.prices) e in
    λ j. object
    (member (codes "on") (same_bundle trades others state.on parts.0 j)
    (member (codes "prices") (same_contracts trades others state.prices parts.1 j)
    (member (codes "surplus") (integer_data state.surplus) no_members)))

same_unit_states : (trades others : List (List ℕ)) (states : List UnitState)
    → list_all unit_state_names_nothing states ≡ true
    → map (unit_state_data trades) states ≡ map (unit_state_data others) states
same_unit_states trades others [] e = refl
same_unit_states trades others (state ∷ states) e =
    let parts = both (unit_state_names_nothing state) (list_all unit_state_names_nothing states) e in
    λ j. same_unit_state trades others state parts.0 j ∷ same_unit_states trades others states parts.1 j

same_step : (trades others : List (List ℕ)) (step : PlaceStep) → names_no_trade_at step ≡ true
    → step_data trades step ≡ step_data others step
same_step trades others (Key word) e = refl
same_step trades others (Index k) e = refl
same_step trades others (Trade t) e = absurd (true≢false (sym e))

same_steps : (trades others : List (List ℕ)) (place : List PlaceStep) → list_all names_no_trade_at place ≡ true
    → map (step_data trades) place ≡ map (step_data others) place
same_steps trades others [] e = refl
same_steps trades others (step ∷ place) e =
    let parts = both (names_no_trade_at step) (list_all names_no_trade_at place) e in
    λ j. same_step trades others step parts.0 j ∷ same_steps trades others place parts.1 j

same_fault : (trades others : List (List ℕ)) (fault : Fault) (shown : Option Shown)
    → list_all names_no_trade_at fault.place ≡ true → names_no_trade_in shown ≡ true
    → fault_data trades fault shown ≡ fault_data others fault shown
same_fault trades others fault None place e =
    λ j. answer (codes "fault") (fault_members fault.kind
    (array (items_of (same_steps trades others fault.place place j))) no_members)
same_fault trades others fault (Some shown) place e =
    let parts = both (are_none shown.x && are_none shown.y) (is_none shown.at) e in
    let lists = both (are_none shown.x) (are_none shown.y) parts.0 in
    λ j. answer (codes "fault")
    (member (codes "at") (same_option trades others shown.at parts.1 j)
    (fault_members fault.kind (array (items_of (same_steps trades others fault.place place j)))
    (member (codes "x") (same_names trades others shown.x lists.0 j)
    (member (codes "y") (same_names trades others shown.y lists.1 j) no_members))))

same_reason : (reason : Reason) (names others : NameLists) → reason_names_nothing reason ≡ true
    → reason_members names reason ≡ reason_members others reason
same_reason (Surplus surplus) names others e = refl
same_reason Holds names others e = refl
same_reason (Arc index) names others e = refl
same_reason (Cost cost) names others e = refl
same_reason (Over over) names others e = refl
same_reason Empty names others e = refl
same_reason reason names others e = absurd (true≢false (sym e))

same_form : (said : Said) (names others : NameLists) → names_nothing said ≡ true
    → answer_form names said ≡ answer_form others said
same_form Usage names others e = refl
same_form ReadFault names others e = refl
same_form NoMemory names others e = refl
same_form (FaultIs fault) names others e =
    let parts = both (list_all names_no_trade_at fault.place) (names_no_trade_in fault.shown) e in
    ap json (same_fault names.trades others.trades fault fault.shown parts.0 parts.1)
same_form (Equilibrium surplus) names others e = refl
same_form (Better firm bundle gain) names others e = absurd (true≢false (sym e))
same_form (BetterByCounts firm bundle gain) names others e = absurd (true≢false (sym e))
same_form (Impossible firm) names others e = absurd (true≢false (sym e))
same_form Accepted names others e = refl
same_form (ExchangeFails firm x y at) names others e = absurd (true≢false (sym e))
same_form (Supported on prices ends) names others e =
    ap (λ d. json (answer (codes "prices") (member (codes "prices") d no_members)))
    (same_prices names.trades others.trades prices e)
same_form (SupportedByCounts counts prices ends) names others e =
    ap (λ d. json (answer (codes "prices") (member (codes "prices") d no_members)))
    (same_prices names.trades others.trades prices e)
same_form (Cycle nodes cost) names others e =
    ap (λ d. json
    (answer (codes "cycle") (member (codes "cost") (integer_data cost) (member (codes "nodes") d no_members))))
    (same_nodes names.trades others.trades nodes e)
same_form (CycleByCounts nodes cost) names others e =
    ap (λ d. json
    (answer (codes "cycle") (member (codes "cost") (integer_data cost) (member (codes "nodes") d no_members))))
    (same_walk names.trades others.trades nodes e)
same_form (Solved on prices surplus ends) names others e =
    let parts = both (are_none on) (is_empty prices) e in
    λ j. json (answer (codes "solved")
    (member (codes "on") (same_names names.trades others.trades on parts.0 j)
    (member (codes "prices") (same_prices names.trades others.trades prices parts.1 j)
    (member (codes "surplus") (integer_data surplus) no_members))))
same_form (SolvedByCounts counts prices surplus ends) names others e =
    let parts = both (has_no_units counts) (is_empty prices) e in
    λ j. json (answer (codes "solved")
    (member (codes "on") (same_counts names.trades others.trades counts parts.0 j)
    (member (codes "prices") (same_prices names.trades others.trades prices parts.1 j)
    (member (codes "surplus") (integer_data surplus) no_members))))
same_form (Drill size start firms surplus) names others e = refl
same_form (Ranges on [] ends) names others e =
    let parts = both (are_none on) true e in
    ap (λ d. json
    (answer (codes "ranges") (member (codes "on") d (member (codes "ranges") (array (items_of [])) no_members))))
    (same_names names.trades others.trades on parts.0)
same_form (Ranges on (range ∷ ranges) ends) names others e = absurd (true≢false (sym (both (are_none on) false e).1))
same_form (RangesByCounts counts [] ends) names others e =
    let parts = both (has_no_units counts) true e in
    ap (λ d. json
    (answer (codes "ranges") (member (codes "on") d (member (codes "ranges") (array (items_of [])) no_members))))
    (same_counts names.trades others.trades counts parts.0)
same_form (RangesByCounts counts (range ∷ ranges) ends) names others e =
    absurd (true≢false (sym (both (has_no_units counts) false e).1))
same_form (Session edits) names others e =
    ap (λ ds. json (answer (codes "session") (member (codes "edits") (array (items_of ds)) no_members)))
    (same_states names.trades others.trades edits e)
same_form (SessionByCounts edits) names others e =
    ap (λ ds. json (answer (codes "session") (member (codes "edits") (array (items_of ds)) no_members)))
    (same_unit_states names.trades others.trades edits e)
same_form (Drops firm keeps gain over) names others e = absurd (true≢false (sym e))
same_form (DropsByCounts firm keeps gain over) names others e = absurd (true≢false (sym e))
same_form (CompletesByCounts prices over) names others e =
    ap (λ d. json
    (answer (codes "completes") (member (codes "over") (integer_data over) (member (codes "prices") d no_members))))
    (same_contracts names.trades others.trades prices e)
same_form (Completes prices over) names others e =
    ap (λ d. json
    (answer (codes "completes") (member (codes "over") (integer_data over) (member (codes "prices") d no_members))))
    (same_prices names.trades others.trades prices e)
same_form (Blocks contracts over) names others e =
    ap (λ d. json
    (answer (codes "blocks") (member (codes "contracts") d (member (codes "over") (integer_data over) no_members))))
    (same_contracts names.trades others.trades contracts e)
same_form Valid names others e = refl
same_form (Invalid reason) names others e =
    ap (λ ms. json (answer (codes "invalid") ms)) (same_reason reason names others e)
same_form (Cases count failed) names others e = refl
same_form (PageIs page) names others e = refl
same_form (Firms content [] surplus) names others e = refl
same_form (Firms content (holding ∷ holdings) surplus) names others e = absurd (true≢false (sym e))
same_form (FirmsByCounts content [] surplus) names others e = refl
same_form (FirmsByCounts content (holding ∷ holdings) surplus) names others e = absurd (true≢false (sym e))

same_rows : (said : Said) (names others : NameLists) → names_nothing said ≡ true
    → answer_table names said Rows ≡ answer_table others said Rows
same_rows (Supported on [] ends) names others e = refl
same_rows (Supported on (price ∷ prices) ends) names others e = absurd (true≢false (sym e))
same_rows (SupportedByCounts counts [] ends) names others e = refl
same_rows (SupportedByCounts counts (price ∷ prices) ends) names others e = absurd (true≢false (sym e))
same_rows (Solved on [] surplus ends) names others e = refl
same_rows (Solved on (price ∷ prices) surplus ends) names others e =
    absurd (true≢false (sym (both (are_none on) false e).1))
same_rows (SolvedByCounts counts [] surplus ends) names others e = refl
same_rows (SolvedByCounts counts (price ∷ prices) surplus ends) names others e =
    absurd (true≢false (sym (both (has_no_units counts) false e).1))
same_rows (Ranges on [] ends) names others e = refl
same_rows (Ranges on (range ∷ ranges) ends) names others e = absurd (true≢false (sym (both (are_none on) false e).1))
same_rows (Firms content [] surplus) names others e = refl
same_rows (Firms content (holding ∷ holdings) surplus) names others e = absurd (true≢false (sym e))
same_rows (RangesByCounts counts [] ends) names others e = refl
same_rows (RangesByCounts counts (range ∷ ranges) ends) names others e =
    absurd (true≢false (sym (both (has_no_units counts) false e).1))
same_rows (FirmsByCounts content [] surplus) names others e = refl
same_rows (FirmsByCounts content (holding ∷ holdings) surplus) names others e = absurd (true≢false (sym e))
same_rows said names others e = refl

same_wide_rows : (said : Said) (names others : NameLists) → names_nothing said ≡ true
    → answer_table names said WideRows ≡ answer_table others said WideRows
same_wide_rows (Solved on [] surplus ends) names others e = refl
same_wide_rows (Solved on (price ∷ prices) surplus ends) names others e =
    absurd (true≢false (sym (both (are_none on) false e).1))
same_wide_rows (SolvedByCounts counts [] surplus ends) names others e = refl
same_wide_rows (SolvedByCounts counts (price ∷ prices) surplus ends) names others e =
    absurd (true≢false (sym (both (has_no_units counts) false e).1))
same_wide_rows said names others e = refl

-- no answer has rows as an object
no_table : (names : NameLists) (said : Said) → answer_table names said Object ≡ None
no_table names (Supported on prices ends) = refl
no_table names (SupportedByCounts counts prices ends) = refl
no_table names (Solved on prices surplus ends) = refl
no_table names (SolvedByCounts counts prices surplus ends) = refl
no_table names (Ranges on ranges ends) = refl
no_table names (Firms content firms surplus) = refl
no_table names (RangesByCounts counts ranges ends) = refl
no_table names (FirmsByCounts content firms surplus) = refl
no_table names said = refl

pub object_line : (names : NameLists) (said : Said) → form_text (answer_form names said) ≡ answer_line Object names said
unfolding answer_line
object_line names said = ap (λ o. text_of o (answer_form names said)) (sym (no_table names said))

same_table : (layout : Layout) (said : Said) (names others : NameLists) → names_nothing said ≡ true
    → answer_table names said layout ≡ answer_table others said layout
same_table Object said names others e = no_table names said ∙ sym (no_table others said)
same_table Rows said names others e = same_rows said names others e
same_table WideRows said names others e = same_wide_rows said names others e

pub same_line : (layout : Layout) (said : Said) (names others : NameLists) → names_nothing said ≡ true
    → answer_line layout names said ≡ answer_line layout others said
unfolding answer_line
same_line layout said names others e =
    λ j. text_of (same_table layout said names others e j) (same_form said names others e j)

-- ---- within the limits of claims

fits_from_within : (z : ℤ) → IsWithinClaim z → FitsSigned w64 z
fits_from_within z within = omega (arith, ints, within.low, within.high)

prices_fit : (prices : List ℤ) → All IsWithinPrices prices → All (FitsSigned w64) prices
prices_fit prices within k d below = fits (get_or prices k d) (within k d below)
  where
    fits : (z : ℤ) → IsWithinPrices z → FitsSigned w64 z
    fits z small = omega (arith, ints, small.low, small.high)

naturals_fit : (numbers : List ℕ) → All (λ n. n < 2 ^ 32) numbers → All (λ n. n < 2 ^ 64) numbers
naturals_fit numbers within k d below = wide (get_or numbers k d) (within k d below)
  where
    wide : (n : ℕ) → n < 2 ^ 32 → n < 2 ^ 64
    wide n small = omega (arith, small)

bound_fits : (bound : Option ℤ) → IfSome bound IsWithinPrices → IfSome bound (FitsSigned w64)
bound_fits None h = tt
bound_fits (Some price) h = omega (arith, ints, h.low, h.high)

gain_fits : (gain : Option ℤ) → IfSome gain IsWithinClaim → IfSome gain (FitsSigned w64)
gain_fits None h = tt
gain_fits (Some z) h = fits_from_within z h

range_fits : (range : Range) → HasWithinBounds range → HasShortBounds range
range_fits range within = record { high = bound_fits range.high within.high; low = bound_fits range.low within.low }

state_fits : (state : State) → IsWithinState state → IsShortState state
state_fits state within = record {
  prices = λ k d below. fits (get_or state.prices k d).price (within.prices k d below);
  surplus = fits_from_within state.surplus within.surplus;
}
  where
    fits : (z : ℤ) → IsWithinPrices z → FitsSigned w64 z
    fits z small = omega (arith, ints, small.low, small.high)

holding_fits : (holding : Holding) → IsWithinHolding holding → IsShortHolding holding
holding_fits holding within = record {
  best_utility = fits_from_within holding.best_utility within.best_utility;
  gain = gain_fits holding.gain within.gain;
  utility = gain_fits holding.utility within.utility;
  worth = gain_fits holding.worth within.worth;
}

entry_fits : (entry : TradeUnits) → IsWithinEntry entry → IsShortEntry entry
entry_fits entry within = omega (arith, within)

bundle_fits : (bundle : List TradeUnits) → All IsWithinEntry bundle → All IsShortEntry bundle
bundle_fits bundle within = λ k d below. entry_fits (get_or bundle k d) (within k d below)

unit_state_fits : (state : UnitState) → IsWithinUnitState state → IsShortUnitState state
unit_state_fits state within = record {
  on = bundle_fits state.on within.on;
  prices = λ k d below. fits (get_or state.prices k d).price (within.prices k d below);
  surplus = fits_from_within state.surplus within.surplus;
}
  where
    fits : (z : ℤ) → IsWithinPrices z → FitsSigned w64 z
    fits z small = omega (arith, ints, small.low, small.high)

unit_range_fits : (range : UnitRange) → HasWithinUnitBounds range → HasShortUnitBounds range
unit_range_fits range within =
    record { high = bound_fits range.high within.high; low = bound_fits range.low within.low }

unit_holding_fits : (holding : UnitHolding) → IsWithinUnitHolding holding → IsShortUnitHolding holding
unit_holding_fits holding within = record {
  best = bundle_fits holding.best within.best;
  best_utility = fits_from_within holding.best_utility within.best_utility;
  gain = gain_fits holding.gain within.gain;
  has = bundle_fits holding.has within.has;
  utility = gain_fits holding.utility within.utility;
  worth = gain_fits holding.worth within.worth;
}

reason_fits : (reason : Reason) → IsReasonWithin reason → IsShortReason reason
reason_fits (Surplus surplus) within = fits_from_within surplus within
reason_fits (Gain firm gain) within = gain_fits gain within
reason_fits (Arc index) within = omega (arith, within)
reason_fits (Cost cost) within = fits_from_within cost within
reason_fits (Over over) within = fits_from_within over within
reason_fits (Whole on surplus) within = fits_from_within surplus within
reason_fits (ImpossibleIs firm) within = tt
reason_fits (BetterIs firm bundle) within = tt
reason_fits (Possible firm) within = tt
reason_fits (Exchange firm x y at) within = tt
reason_fits Holds within = tt
reason_fits (ContractIs trade) within = tt
reason_fits (Price trade) within = tt
reason_fits Empty within = tt
reason_fits (Signed trade) within = tt
reason_fits (Choice firm trade) within = tt
reason_fits (Shares firm) within = tt
reason_fits (Balance trade) within = tt

pub within_sayable : (said : Said) → IsWithinClaims said → IsSayable said
within_sayable Usage within = tt
within_sayable ReadFault within = tt
within_sayable NoMemory within = tt
within_sayable (FaultIs fault) within = tt
within_sayable (Equilibrium surplus) within = fits_from_within surplus within
within_sayable (Better firm bundle gain) within = fits_from_within gain within
within_sayable (BetterByCounts firm bundle gain) within = (bundle_fits bundle within.0, fits_from_within gain within.1)
within_sayable (Impossible firm) within = tt
within_sayable Accepted within = tt
within_sayable (ExchangeFails firm x y at) within = tt
within_sayable (Supported on prices ends) within = prices_fit prices within
within_sayable (SupportedByCounts counts prices ends) within =
    (naturals_fit counts within.0, prices_fit prices within.1)
within_sayable (Cycle nodes cost) within = fits_from_within cost within
within_sayable (CycleByCounts nodes cost) within = fits_from_within cost within
within_sayable (Solved on prices surplus ends) within = (prices_fit prices within.0, fits_from_within surplus within.1)
within_sayable (SolvedByCounts counts prices surplus ends) within =
    (naturals_fit counts within.0, prices_fit prices within.1, fits_from_within surplus within.2)
within_sayable (Drill size start firms surplus) within =
    (omega (arith, within.0), omega (arith, within.1), omega (arith, within.2), fits_from_within surplus within.3)
within_sayable (Ranges on ranges ends) within = λ k d below. range_fits (get_or ranges k d) (within k d below)
within_sayable (RangesByCounts counts ranges ends) within = (
  naturals_fit counts within.0,
  (λ k d below. unit_range_fits (get_or ranges k d) (within.1 k d below)),
)
within_sayable (Session edits) within = λ k d below. state_fits (get_or edits k d) (within k d below)
within_sayable (SessionByCounts edits) within = λ k d below. unit_state_fits (get_or edits k d) (within k d below)
within_sayable (DropsByCounts firm keeps gain over) within =
    (bundle_fits keeps within.0, gain_fits gain within.1, fits_from_within over within.2)
within_sayable (CompletesByCounts prices over) within =
    ((λ k d below. fits_from_within (get_or prices k d).price (within.0 k d below)), fits_from_within over within.1)
within_sayable (Drops firm keeps gain over) within = (gain_fits gain within.0, fits_from_within over within.1)
within_sayable (Completes prices over) within =
    ((λ k d below. fits_from_within (get_or prices k d) (within.0 k d below)), fits_from_within over within.1)
within_sayable Valid within = tt
within_sayable (PageIs page) within = tt
within_sayable (Firms content firms surplus) within = (
  omega (arith, within.0),
  (λ k d below. holding_fits (get_or firms k d) (within.1 k d below)),
  gain_fits surplus within.2,
)
within_sayable (FirmsByCounts content firms surplus) within = (
  omega (arith, within.0),
  (λ k d below. unit_holding_fits (get_or firms k d) (within.1 k d below)),
  gain_fits surplus within.2,
)
within_sayable (Invalid reason) within = reason_fits reason within
within_sayable (Cases count failed) within = (omega (arith, within.0), naturals_fit failed within.1)
within_sayable (Blocks contracts over) within =
    ((λ k d below. fits_from_within (get_or contracts k d).price (within.0 k d below)), fits_from_within over within.1)
