-- The data of an answer are plain: their texts have characters of names alone, and their numbers are short.
use Rattle.std.proofs.Common.{◌≡◌, ℕ, zero, suc, ℤ, pos, negsuc, ◌<◌, ◌^◌, Bool, true, false, List, [], ◌∷◌, map, slice_get, All, IfSome, Option, None, Some, unwrap_or, FitsSigned, refl, sym, subst, arith, codes}
use Rattle.std.specs.Int.{w64}
use Rattle.std.proofs.lemmas.Bool.{and_parts}
use Rattle.std.proofs.lemmas.Int.{ints}
use Rattle.std.proofs.lemmas.List.Elements.{All-head, All-tail}
use Rattle.serde_json.specs.Data.{Data, number, unsigned}
use Rattle.serde_json.specs.Find.{of_integer}
use Rattle.serde_json.specs.View.{items_of}
use Rattle.tn_said.specs.declared.fault.FaultKind.{FaultKind}
use Rattle.tn_said.specs.declared.fault.FaultKind.TheVariants.{NotJson}
use Rattle.tn_said.specs.Faults.{fault_number}
use Rattle.tn_said.specs.declared.place.PlaceStep.{PlaceStep}
use Rattle.tn_said.specs.declared.place.PlaceStep.TheVariants.{Key, Index, Trade}
use Rattle.tn_said.specs.declared.place.Word.{Word}
use Rattle.tn_said.specs.declared.place.Word.TheVariants.{Version}
use Rattle.tn_said.specs.declared.reason.Reason.{Reason}
use Rattle.tn_said.specs.declared.reason.Reason.TheVariants.{Impossible as ImpossibleIs, Better as BetterIs, Possible, Surplus, Gain, Exchange, Holds, Arc, Cost, Contract as ContractIs, Over, Price, Empty, Signed, Choice, Shares, Balance, Whole}
use Rattle.tn_said.specs.declared.said.Fault.{Fault}
use Rattle.tn_said.specs.declared.said.Shown.{Shown}
use Rattle.tn_model.specs.declared.contract.Contract.{Contract}
use Rattle.tn_said.specs.declared.holding.Holding.{Holding}
use Rattle.tn_model.specs.declared.range.Range.{Range}
use Rattle.tn_said.specs.declared.session.State.{State}
use Rattle.tn_said.specs.declared.session.UnitState.{UnitState}
use Rattle.tn_said.specs.declared.units.TradeUnits.{TradeUnits}
use Rattle.tn_said.specs.declared.units.UnitStep.{UnitStep}
use Rattle.tn_said.specs.declared.units.UnitHolding.{UnitHolding}
use Rattle.tn_said.specs.declared.units.UnitRange.{UnitRange}
use Rattle.tn_said.specs.declared.said.Said.{Said}
use Rattle.tn_said.specs.declared.said.Said.TheVariants.{Usage, ReadFault, NoMemory, Fault as FaultIs, Equilibrium, Better, BetterByCounts, Impossible, Accepted, ExchangeFails, Supported, SupportedByCounts, Cycle, CycleByCounts, Solved, SolvedByCounts, Drill, Ranges, RangesByCounts, Session, SessionByCounts, Drops, DropsByCounts, Completes, CompletesByCounts, Blocks, Valid, Invalid, Cases, Page as PageIs, Firms, FirmsByCounts}
use Rattle.tn_names.specs.Names.{NameLists, IsNameList, is_name}
use Rattle.tn_said.specs.Words.{word_text}
use Rattle.tn_answer.specs.Words.{kind_name}
use Rattle.tn_answer.specs.Rows.{each_from}
use Rattle.tn_answer.specs.ReasonText.{reason_members, IsShortReason}
use Rattle.tn_answer.specs.Sayable.{HasShortBounds, HasShortUnitBounds, IsShortEntry, IsShortHolding, IsShortState, IsShortUnitHolding, IsShortUnitState}
use Rattle.tn_answer.specs.AnswerText.{bounds_data, bundle_data, contract_data, counts_from, direction, entry_data, held_data, holding_data, nodes_data, price_data, range_data, state_data, prices_from, step_data, steps_data, fault_data, unit_holding_data, unit_range_data, unit_state_data, unit_step_data, answer, answer_data}
use Rattle.tn_answer.specs.Values.{bound_data, name_data, names_data, option_data}
use Rattle.tn_names.specs.Named.{HasShortIndex}
use Rattle.tn_answer.specs.Apart.{HasShortNumbers}
use Rattle.tn_answer.proofs.CountLemmas.{counts-more}
use Rattle.tn_answer.proofs.DataTexts.{IsShort, HasNameBytes, IsPlain, ItemsArePlain}

kind_name_is_plain : (kind : FaultKind) → HasNameBytes (kind_name kind)
kind_name_is_plain NotJson = refl
kind_name_is_plain kind = refl

word_text_is_plain : (word : Word) → HasNameBytes (word_text word)
word_text_is_plain Version = refl
word_text_is_plain word = refl

fault_number_is_short : (kind : FaultKind) → fault_number kind < 2 ^ 64
fault_number_is_short NotJson = omega arith
fault_number_is_short kind = omega arith

integer_is_short : (z : ℤ) → FitsSigned w64 z → IsShort (of_integer z)
integer_is_short (pos n) h = omega (arith, h)
integer_is_short (negsuc n) h = omega (arith, h)

module _ {A : Type 0} (data_of : A → Data) (IsKnown : A → Type 0)
    (one : (x : A) → IsKnown x → IsPlain (data_of x)) where
  items_are_plain : (xs : List A) → All IsKnown xs → ItemsArePlain (items_of (map data_of xs))
  items_are_plain [] h = tt
  items_are_plain (x ∷ xs) h =
      (one x (All-head IsKnown x xs h), items_are_plain xs (All-tail IsKnown x xs h))

module _ {A : Type 0} (data_of : ℕ → A → Data) (IsKnown : A → Type 0)
    (one : (k : ℕ) (x : A) → IsKnown x → IsPlain (data_of k x)) where
  each_is_plain : (k : ℕ) (xs : List A) → All IsKnown xs → ItemsArePlain (items_of (each_from data_of k xs))
  each_is_plain k [] h = tt
  each_is_plain k (x ∷ xs) h =
      (one k x (All-head IsKnown x xs h), each_is_plain (suc k) xs (All-tail IsKnown x xs h))

bound_is_plain : (bound : Option ℤ) → IfSome bound (FitsSigned w64) → IsPlain (bound_data bound)
bound_is_plain None h = tt
bound_is_plain (Some price) h = integer_is_short price h

module _ (names : List (List ℕ)) (kept : IsNameList names) where
  name_is_plain : (k : ℕ) → IsPlain (name_data names k)
  name_is_plain k = found (slice_get names k) (λ name at. kept.named k name at)
    where
      found : (o : Option (List ℕ)) → ((name : List ℕ) → o ≡ Some name → is_name name ≡ true)
          → HasNameBytes (unwrap_or o [])
      found None h = refl
      found (Some name) h = (and_parts _ _ (h name refl)).1

  names_are_plain : (ks : List ℕ) → ItemsArePlain (items_of (map (name_data names) ks))
  names_are_plain [] = tt
  names_are_plain (k ∷ ks) = (name_is_plain k, names_are_plain ks)

  option_is_plain : (o : Option ℕ) → IsPlain (option_data names o)
  option_is_plain None = tt
  option_is_plain (Some k) = name_is_plain k

  prices_are_plain : (k : ℕ) (prices : List ℤ) → All (FitsSigned w64) prices
      → ItemsArePlain (items_of (prices_from names k prices))
  prices_are_plain = each_is_plain (price_data names) (FitsSigned w64) (λ k price h. (
    name_is_plain k,
    (integer_is_short price h, tt),
  ))

  counts_are_plain : (k : ℕ) (counts : List ℕ) → All (λ n. n < 2 ^ 64) counts
      → ItemsArePlain (items_of (counts_from names k counts))
  counts_are_plain k [] h = tt
  counts_are_plain k (zero ∷ counts) h = counts_are_plain (suc k) counts (All-tail (λ n. n < 2 ^ 64) zero counts h)
  counts_are_plain k (suc n ∷ counts) h =
      subst (λ ds. ItemsArePlain (items_of ds)) (sym (counts-more names k n counts)) (
        (name_is_plain k, (All-head (λ n. n < 2 ^ 64) (suc n) counts h, tt)),
        counts_are_plain (suc k) counts (All-tail (λ n. n < 2 ^ 64) (suc n) counts h),
      )

  nodes_are_plain : (nodes : List (Option ℕ)) → ItemsArePlain (items_of (map (option_data names) nodes))
  nodes_are_plain [] = tt
  nodes_are_plain (node ∷ nodes) = (option_is_plain node, nodes_are_plain nodes)

  contracts_are_plain : (contracts : List Contract) → All (λ contract. FitsSigned w64 contract.price) contracts
      → ItemsArePlain (items_of (map (contract_data names) contracts))
  contracts_are_plain = items_are_plain (contract_data names) (λ contract. FitsSigned w64 contract.price)
      (λ contract h. (name_is_plain contract.trade, (integer_is_short contract.price h, tt)))

  bundle_is_plain : (bundle : List TradeUnits) → All IsShortEntry bundle
      → ItemsArePlain (items_of (map (entry_data names) bundle))
  bundle_is_plain = items_are_plain (entry_data names) IsShortEntry
      (λ entry h. (name_is_plain entry.trade, (h, tt)))

  direction_fits : (more : Bool) → FitsSigned w64 (direction more)
  direction_fits true = omega (arith, ints)
  direction_fits false = omega (arith, ints)

  unit_step_is_plain : (node : Option UnitStep) → IsPlain (unit_step_data names node)
  unit_step_is_plain None = tt
  unit_step_is_plain (Some step) =
      (name_is_plain step.trade, (integer_is_short (direction step.more) (direction_fits step.more), tt))

  steps_are_plain : (steps : List (Option UnitStep)) → ItemsArePlain (items_of (map (unit_step_data names) steps))
  steps_are_plain [] = tt
  steps_are_plain (step ∷ steps) = (unit_step_is_plain step, steps_are_plain steps)

  bounds_are_plain : (k : ℕ) (low : Option ℤ) (low_path : Data) (high : Option ℤ) (high_path : Data)
      → IfSome low (FitsSigned w64) → IfSome high (FitsSigned w64) → IsPlain low_path → IsPlain high_path
      → IsPlain (bounds_data names k low low_path high high_path)
  bounds_are_plain k low low_path high high_path low_fits high_fits to from = (
    refl,
    bound_is_plain high high_fits,
    (refl, from, (refl, bound_is_plain low low_fits, (refl, to, (refl, name_is_plain k, tt)))),
  )

  ranges_are_plain : (k : ℕ) (ranges : List Range) → All HasShortBounds ranges
      → ItemsArePlain (items_of (each_from (range_data names) k ranges))
  ranges_are_plain = each_is_plain (range_data names) HasShortBounds (λ k range h. bounds_are_plain k range.low
      (nodes_data names range.low_path) range.high (nodes_data names range.high_path) h.low h.high
      (nodes_are_plain range.low_path) (nodes_are_plain range.high_path))

  unit_ranges_are_plain : (k : ℕ) (ranges : List UnitRange) → All HasShortUnitBounds ranges
      → ItemsArePlain (items_of (each_from (unit_range_data names) k ranges))
  unit_ranges_are_plain = each_is_plain (unit_range_data names) HasShortUnitBounds (λ k range h. bounds_are_plain k
      range.low (steps_data names range.low_path) range.high (steps_data names range.high_path) h.low h.high
      (steps_are_plain range.low_path) (steps_are_plain range.high_path))

  states_are_plain : (states : List State) → All IsShortState states
      → ItemsArePlain (items_of (map (state_data names) states))
  states_are_plain = items_are_plain (state_data names) IsShortState (λ state h. (
    refl,
    names_are_plain state.on,
    (refl, contracts_are_plain state.prices h.prices, (refl, integer_is_short state.surplus h.surplus, tt)),
  ))

  unit_states_are_plain : (states : List UnitState) → All IsShortUnitState states
      → ItemsArePlain (items_of (map (unit_state_data names) states))
  unit_states_are_plain = items_are_plain (unit_state_data names) IsShortUnitState (λ state h. (
    refl,
    bundle_is_plain state.on h.on,
    (refl, contracts_are_plain state.prices h.prices, (refl, integer_is_short state.surplus h.surplus, tt)),
  ))

  step_is_plain : (step : PlaceStep) → HasShortIndex step → IsPlain (step_data names step)
  step_is_plain (Key word) h = word_text_is_plain word
  step_is_plain (Index k) h = h
  step_is_plain (Trade t) h = name_is_plain t

  place_is_plain : (place : List PlaceStep) → All HasShortIndex place
      → ItemsArePlain (items_of (map (step_data names) place))
  place_is_plain [] h = tt
  place_is_plain (step ∷ place) h = (
    step_is_plain step (All-head HasShortIndex step place h),
    place_is_plain place (All-tail HasShortIndex step place h),
  )

  fault_is_plain : (fault : Fault) (shown : Option Shown) → All HasShortIndex fault.place
      → IsPlain (fault_data names fault shown)
  fault_is_plain fault None h = (
    refl,
    refl,
    (
      refl,
      fault_number_is_short fault.kind,
      (refl, kind_name_is_plain fault.kind, (refl, place_is_plain fault.place h, tt)),
    ),
  )
  fault_is_plain fault (Some shown) h = (
    refl,
    refl,
    (
      refl,
      option_is_plain shown.at,
      (
        refl,
        fault_number_is_short fault.kind,
        (
          refl,
          kind_name_is_plain fault.kind,
          (refl, place_is_plain fault.place h, (refl, names_are_plain shown.x, (refl, names_are_plain shown.y, tt))),
        ),
      ),
    ),
  )

module _ (names : NameLists) (firms : IsNameList names.firms) (trades : IsNameList names.trades) where
  firm_is_plain : (firm : ℕ) → IsPlain (name_data names.firms firm)
  firm_is_plain = name_is_plain names.firms firms

  reason_is_plain : (reason : Reason) → IsShortReason reason
      → IsPlain (answer (codes "invalid") (reason_members names reason))
  reason_is_plain (ImpossibleIs firm) h = (refl, refl, (refl, firm_is_plain firm, (refl, refl, tt)))
  reason_is_plain (BetterIs firm bundle) h = (
    refl,
    refl,
    (refl, names_are_plain names.trades trades bundle, (refl, firm_is_plain firm, (refl, refl, tt))),
  )
  reason_is_plain (Possible firm) h = (refl, refl, (refl, firm_is_plain firm, (refl, refl, tt)))
  reason_is_plain (Surplus surplus) h = (refl, refl, (refl, refl, (refl, integer_is_short surplus h, tt)))
  reason_is_plain (Gain firm gain) h =
      (refl, refl, (refl, firm_is_plain firm, (refl, bound_is_plain gain h, (refl, refl, tt))))
  reason_is_plain (Exchange firm x y at) h = (
    refl,
    refl,
    (
      refl,
      option_is_plain names.trades trades at,
      (
        refl,
        firm_is_plain firm,
        (
          refl,
          refl,
          (
            refl,
            names_are_plain names.trades trades x,
            (refl, names_are_plain names.trades trades y, tt),
          ),
        ),
      ),
    ),
  )
  reason_is_plain Holds h = (refl, refl, (refl, refl, tt))
  reason_is_plain (Arc index) h = (refl, refl, (refl, h, (refl, refl, tt)))
  reason_is_plain (Cost cost) h = (refl, refl, (refl, integer_is_short cost h, (refl, refl, tt)))
  reason_is_plain (ContractIs trade) h = (refl, refl, (refl, refl, (refl, name_is_plain names.trades trades trade, tt)))
  reason_is_plain (Over over) h = (refl, refl, (refl, integer_is_short over h, (refl, refl, tt)))
  reason_is_plain (Price trade) h = (refl, refl, (refl, refl, (refl, name_is_plain names.trades trades trade, tt)))
  reason_is_plain Empty h = (refl, refl, (refl, refl, tt))
  reason_is_plain (Signed trade) h = (refl, refl, (refl, refl, (refl, name_is_plain names.trades trades trade, tt)))
  reason_is_plain (Choice firm trade) h = (
    refl,
    refl,
    (refl, firm_is_plain firm, (refl, refl, (refl, name_is_plain names.trades trades trade, tt))),
  )
  reason_is_plain (Shares firm) h = (refl, refl, (refl, firm_is_plain firm, (refl, refl, tt)))
  reason_is_plain (Balance trade) h = (refl, refl, (refl, refl, (refl, name_is_plain names.trades trades trade, tt)))
  reason_is_plain (Whole on surplus) h = (
    refl,
    refl,
    (refl, names_are_plain names.trades trades on, (refl, refl, (refl, integer_is_short surplus h, tt))),
  )

module _ (names : NameLists) (firms : IsNameList names.firms) (trades : IsNameList names.trades) where
  held_is_plain : (k : ℕ) (has best : Data) (worth utility : Option ℤ) (best_utility : ℤ) (gain : Option ℤ)
      → IsPlain has → IsPlain best → IfSome worth (FitsSigned w64) → IfSome utility (FitsSigned w64)
      → FitsSigned w64 best_utility → IfSome gain (FitsSigned w64)
      → IsPlain (held_data names.firms k has best worth utility best_utility gain)
  held_is_plain k has best worth utility best_utility gain own other worth_fits utility_fits best_fits gain_fits = (
    refl,
    other,
    (
      refl,
      integer_is_short best_utility best_fits,
      (
        refl,
        name_is_plain names.firms firms k,
        (
          refl,
          bound_is_plain gain gain_fits,
          (refl, own, (refl, bound_is_plain utility utility_fits, (refl, bound_is_plain worth worth_fits, tt))),
        ),
      ),
    ),
  )

  holdings_are_plain : (k : ℕ) (holdings : List Holding) → All IsShortHolding holdings
      → ItemsArePlain (items_of (each_from (holding_data names) k holdings))
  holdings_are_plain = each_is_plain (holding_data names) IsShortHolding (λ k holding h. held_is_plain k
      (names_data names.trades holding.has) (names_data names.trades holding.best) holding.worth holding.utility
      holding.best_utility holding.gain (names_are_plain names.trades trades holding.has)
      (names_are_plain names.trades trades holding.best) h.worth h.utility h.best_utility h.gain)

  unit_holdings_are_plain : (k : ℕ) (holdings : List UnitHolding) → All IsShortUnitHolding holdings
      → ItemsArePlain (items_of (each_from (unit_holding_data names) k holdings))
  unit_holdings_are_plain = each_is_plain (unit_holding_data names) IsShortUnitHolding (λ k holding h. held_is_plain k
      (bundle_data names.trades holding.has) (bundle_data names.trades holding.best) holding.worth holding.utility
      holding.best_utility holding.gain (bundle_is_plain names.trades trades holding.has h.has)
      (bundle_is_plain names.trades trades holding.best h.best) h.worth h.utility h.best_utility h.gain)

numbers_are_plain : (numbers : List ℕ) → All (λ n. n < 2 ^ 64) numbers
    → ItemsArePlain (items_of (map (λ n. number (unsigned n)) numbers))
numbers_are_plain [] h = tt
numbers_are_plain (n ∷ numbers) h = (
  All-head (λ n. n < 2 ^ 64) n numbers h,
  numbers_are_plain numbers (All-tail (λ n. n < 2 ^ 64) n numbers h),
)

pub answer_is_plain : (names : NameLists) → IsNameList names.firms → IsNameList names.trades → (said : Said)
    → HasShortNumbers said → IsPlain (answer_data names said)
answer_is_plain names firms trades Usage h = (refl, refl, tt)
answer_is_plain names firms trades ReadFault h = (refl, refl, tt)
answer_is_plain names firms trades NoMemory h = (refl, refl, tt)
answer_is_plain names firms trades (FaultIs fault) h = fault_is_plain names.trades trades fault fault.shown h
answer_is_plain names firms trades (Equilibrium surplus) h = (refl, refl, (refl, integer_is_short surplus h, tt))
answer_is_plain names firms trades (Better firm bundle gain) h = (
  refl,
  refl,
  (
    refl,
    names_are_plain names.trades trades bundle,
    (refl, name_is_plain names.firms firms firm, (refl, integer_is_short gain h, tt)),
  ),
)
answer_is_plain names firms trades (BetterByCounts firm bundle gain) h = (
  refl,
  refl,
  (
    refl,
    bundle_is_plain names.trades trades bundle h.0,
    (refl, name_is_plain names.firms firms firm, (refl, integer_is_short gain h.1, tt)),
  ),
)
answer_is_plain names firms trades (Impossible firm) h = (refl, refl, (refl, name_is_plain names.firms firms firm, tt))
answer_is_plain names firms trades Accepted h = (refl, refl, tt)
answer_is_plain names firms trades (ExchangeFails firm x y at) h = (
  refl,
  refl,
  (
    refl,
    option_is_plain names.trades trades at,
    (
      refl,
      name_is_plain names.firms firms firm,
      (
        refl,
        names_are_plain names.trades trades x,
        (refl, names_are_plain names.trades trades y, tt),
      ),
    ),
  ),
)
answer_is_plain names firms trades (Supported on prices ends) h =
    (refl, refl, (refl, prices_are_plain names.trades trades 0 prices h, tt))
answer_is_plain names firms trades (SupportedByCounts counts prices ends) h =
    (refl, refl, (refl, prices_are_plain names.trades trades 0 prices h.1, tt))
answer_is_plain names firms trades (Cycle nodes cost) h =
    (refl, refl, (refl, integer_is_short cost h, (refl, nodes_are_plain names.trades trades nodes, tt)))
answer_is_plain names firms trades (CycleByCounts nodes cost) h =
    (refl, refl, (refl, integer_is_short cost h, (refl, steps_are_plain names.trades trades nodes, tt)))
answer_is_plain names firms trades (Solved on prices surplus ends) h = (
  refl,
  refl,
  (
    refl,
    names_are_plain names.trades trades on,
    (refl, prices_are_plain names.trades trades 0 prices h.0, (refl, integer_is_short surplus h.1, tt)),
  ),
)
answer_is_plain names firms trades (SolvedByCounts counts prices surplus ends) h = (
  refl,
  refl,
  (
    refl,
    counts_are_plain names.trades trades 0 counts h.0,
    (refl, prices_are_plain names.trades trades 0 prices h.1, (refl, integer_is_short surplus h.2, tt)),
  ),
)
answer_is_plain names firms trades (Drill size start count surplus) h =
    (refl, refl, (refl, h.2, (refl, h.0, (refl, h.1, (refl, integer_is_short surplus h.3, tt)))))
answer_is_plain names firms trades (Ranges on ranges ends) h = (
  refl,
  refl,
  (
    refl,
    names_are_plain names.trades trades on,
    (refl, ranges_are_plain names.trades trades 0 ranges h, tt),
  ),
)
answer_is_plain names firms trades (RangesByCounts counts ranges ends) h = (
  refl,
  refl,
  (
    refl,
    counts_are_plain names.trades trades 0 counts h.0,
    (refl, unit_ranges_are_plain names.trades trades 0 ranges h.1, tt),
  ),
)
answer_is_plain names firms trades (Session edits) h =
    (refl, refl, (refl, states_are_plain names.trades trades edits h, tt))
answer_is_plain names firms trades (SessionByCounts edits) h =
    (refl, refl, (refl, unit_states_are_plain names.trades trades edits h, tt))
answer_is_plain names firms trades (DropsByCounts firm keeps gain over) h = (
  refl,
  refl,
  (
    refl,
    name_is_plain names.firms firms firm,
    (
      refl,
      bound_is_plain gain h.1,
      (refl, bundle_is_plain names.trades trades keeps h.0, (refl, integer_is_short over h.2, tt)),
    ),
  ),
)
answer_is_plain names firms trades (CompletesByCounts prices over) h =
    (refl, refl, (refl, integer_is_short over h.1, (refl, contracts_are_plain names.trades trades prices h.0, tt)))
answer_is_plain names firms trades (Drops firm keeps gain over) h = (
  refl,
  refl,
  (
    refl,
    name_is_plain names.firms firms firm,
    (
      refl,
      bound_is_plain gain h.0,
      (refl, names_are_plain names.trades trades keeps, (refl, integer_is_short over h.1, tt)),
    ),
  ),
)
answer_is_plain names firms trades (Completes prices over) h =
    (refl, refl, (refl, integer_is_short over h.1, (refl, prices_are_plain names.trades trades 0 prices h.0, tt)))
answer_is_plain names firms trades Valid h = (refl, refl, tt)
answer_is_plain names firms trades (PageIs page) h = tt
answer_is_plain names firms trades (Firms content holdings surplus) h = (
  refl,
  refl,
  (
    refl,
    h.0,
    (
      refl,
      holdings_are_plain names firms trades 0 holdings h.1,
      (refl, bound_is_plain surplus h.2, tt),
    ),
  ),
)
answer_is_plain names firms trades (FirmsByCounts content holdings surplus) h = (
  refl,
  refl,
  (
    refl,
    h.0,
    (refl, unit_holdings_are_plain names firms trades 0 holdings h.1, (refl, bound_is_plain surplus h.2, tt)),
  ),
)
answer_is_plain names firms trades (Invalid reason) h = reason_is_plain names firms trades reason h
answer_is_plain names firms trades (Cases count failed) h =
    (refl, refl, (refl, h.0, (refl, numbers_are_plain failed h.1, tt)))
answer_is_plain names firms trades (Blocks contracts over) h =
    (refl, refl, (refl, contracts_are_plain names.trades trades contracts h.0, (refl, integer_is_short over h.1, tt)))
