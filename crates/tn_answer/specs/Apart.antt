-- How far the text of an answer tells it.
use Rattle.std.specs.Prelude.{◌≡◌, ℕ, ℤ, List, [], length, map, All, Option, IfSome, slice_get, None, Some, if◌then◌else◌}
use Rattle.std.specs.List.{AllZip}
use Rattle.tn_said.specs.declared.place.PlaceStep.{PlaceStep}
use Rattle.tn_said.specs.declared.place.PlaceStep.TheVariants.{Key, Trade}
use Rattle.tn_model.specs.declared.contract.Contract.{Contract}
use Rattle.tn_model.specs.declared.ends.Ends.{Ends}
use Rattle.tn_said.specs.declared.holding.Holding.{Holding}
use Rattle.tn_model.specs.declared.range.Range.{Range}
use Rattle.tn_said.specs.declared.session.State.{State}
use Rattle.tn_said.specs.declared.session.UnitState.{UnitState}
use Rattle.tn_said.specs.declared.said.Fault.{Fault}
use Rattle.tn_said.specs.declared.units.TradeUnits.{TradeUnits}
use Rattle.tn_said.specs.declared.units.UnitStep.{UnitStep}
use Rattle.tn_said.specs.declared.units.UnitHolding.{UnitHolding}
use Rattle.tn_said.specs.declared.units.UnitRange.{UnitRange}
use Rattle.tn_said.specs.declared.said.Said.{Said}
use Rattle.tn_said.specs.declared.said.Said.TheVariants.{Usage, ReadFault, NoMemory, Fault as FaultIs, Equilibrium, Better, BetterByCounts, Impossible, Accepted, ExchangeFails, Supported, SupportedByCounts, Cycle, CycleByCounts, Solved, SolvedByCounts, Drill, Ranges, RangesByCounts, Session, SessionByCounts, Drops, DropsByCounts, Completes, CompletesByCounts, Blocks, Valid, Invalid, Cases, Page as PageIs, Firms, FirmsByCounts}
use Rattle.tn_names.specs.Names.{NameLists, IsNameList}
use Rattle.tn_said.specs.Words.{word_text}
use Rattle.tn_names.specs.Named.{IsNamed, IsNamedStep, IsNamedTriple, HasShortIndex}
use Rattle.tn_answer.specs.Rows.{each_from, is_listed, units_of}
use Rattle.tn_answer.specs.ReasonText.{IsNamedReason}
use Rattle.tn_answer.specs.Sayable.{IsSayable}
use Rattle.tn_answer.specs.AnswerText.{answer_line}
use Rattle.tn_answer.specs.declared.layout.Layout.{Layout}
use Rattle.tn_answer.specs.declared.layout.Layout.TheVariants.{Object, Rows, WideRows}

-- the paths of a range are of trades that have a name, and so are the trades of a state, and those of a firm
pub record HasNamedPaths (names : List (List ℕ)) (range : Range) : Type 0 where
  pub high : All (λ node. IfSome node (IsNamed names)) range.high_path
  pub low : All (λ node. IfSome node (IsNamed names)) range.low_path

pub record IsNamedState (names : List (List ℕ)) (state : State) : Type 0 where
  pub on : All (IsNamed names) state.on
  pub prices : All (λ contract. IsNamed names contract.trade) state.prices

pub record IsNamedHolding (names : List (List ℕ)) (holding : Holding) : Type 0 where
  pub best : All (IsNamed names) holding.best
  pub has : All (IsNamed names) holding.has

-- and so are those of trades with units
abbrev pub IsNamedEntry : List (List ℕ) → TradeUnits → Type 0
IsNamedEntry names entry = IsNamed names entry.trade

abbrev pub IsNamedUnitStep : List (List ℕ) → Option UnitStep → Type 0
IsNamedUnitStep names node = IfSome node (λ step. IsNamed names step.trade)

pub record HasNamedSteps (names : List (List ℕ)) (range : UnitRange) : Type 0 where
  pub high : All (IsNamedUnitStep names) range.high_path
  pub low : All (IsNamedUnitStep names) range.low_path

pub record IsNamedUnitHolding (names : List (List ℕ)) (holding : UnitHolding) : Type 0 where
  pub best : All (IsNamedEntry names) holding.best
  pub has : All (IsNamedEntry names) holding.has

pub record IsNamedUnitState (names : List (List ℕ)) (state : UnitState) : Type 0 where
  pub on : All (IsNamedEntry names) state.on
  pub prices : All (λ contract. IsNamed names contract.trade) state.prices

-- the ends are of trades that have a name, one for each of them, and are firms that have one
pub record AreNamedEnds (names : NameLists) (ends : List Ends) : Type 0 where
  pub one_each : length ends ≡ length names.trades
  pub sellers : All (λ trade. IsNamed names.firms trade.seller) ends
  pub buyers : All (λ trade. IsNamed names.firms trade.buyer) ends

-- an answer speaks only of firms and trades that have a name, and prices and counts are one for each name of a trade
abbrev pub IsNamedAnswer : NameLists → Said → Type 0
IsNamedAnswer names Usage = Unit {0}
IsNamedAnswer names ReadFault = Unit {0}
IsNamedAnswer names NoMemory = Unit {0}
IsNamedAnswer names (FaultIs fault) = All (IsNamedStep names.trades) fault.place
    × IfSome fault.shown (IsNamedTriple names.trades)
IsNamedAnswer names (Equilibrium surplus) = Unit {0}
IsNamedAnswer names (Better firm bundle gain) = IsNamed names.firms firm × All (IsNamed names.trades) bundle
IsNamedAnswer names (BetterByCounts firm bundle gain) = IsNamed names.firms firm × All (IsNamedEntry names.trades) bundle
IsNamedAnswer names (Impossible firm) = IsNamed names.firms firm
IsNamedAnswer names Accepted = Unit {0}
IsNamedAnswer names (ExchangeFails firm x y at) = IsNamed names.firms firm
    × IsNamedTriple names.trades (record { x = x; y = y; at = at })
IsNamedAnswer names (Supported on prices ends) = All (IsNamed names.trades) on × (length prices ≡ length names.trades)
    × AreNamedEnds names ends
IsNamedAnswer names (SupportedByCounts counts prices ends) = (length counts ≡ length names.trades)
    × (length prices ≡ length names.trades) × AreNamedEnds names ends
IsNamedAnswer names (Cycle nodes cost) = All (λ node. IfSome node (IsNamed names.trades)) nodes
IsNamedAnswer names (CycleByCounts nodes cost) = All (IsNamedUnitStep names.trades) nodes
IsNamedAnswer names (Solved on prices surplus ends) = All (IsNamed names.trades) on
    × (length prices ≡ length names.trades) × AreNamedEnds names ends
IsNamedAnswer names (SolvedByCounts counts prices surplus ends) = (length counts ≡ length names.trades)
    × (length prices ≡ length names.trades) × AreNamedEnds names ends
IsNamedAnswer names (Drill size start firms surplus) = Unit {0}
IsNamedAnswer names (Ranges on ranges ends) = All (IsNamed names.trades) on × (length ranges ≡ length names.trades)
    × All (HasNamedPaths names.trades) ranges × AreNamedEnds names ends
IsNamedAnswer names (RangesByCounts counts ranges ends) = (length counts ≡ length names.trades)
    × (length ranges ≡ length names.trades) × All (HasNamedSteps names.trades) ranges × AreNamedEnds names ends
IsNamedAnswer names (Session edits) = All (IsNamedState names.trades) edits
IsNamedAnswer names (SessionByCounts edits) = All (IsNamedUnitState names.trades) edits
IsNamedAnswer names (Drops firm keeps gain over) = IsNamed names.firms firm × All (IsNamed names.trades) keeps
IsNamedAnswer names (DropsByCounts firm keeps gain over) = IsNamed names.firms firm
    × All (IsNamedEntry names.trades) keeps
IsNamedAnswer names (Completes prices over) = length prices ≡ length names.trades
IsNamedAnswer names (CompletesByCounts prices over) = All (λ contract. IsNamed names.trades contract.trade) prices
IsNamedAnswer names (Blocks contracts over) = All (λ contract. IsNamed names.trades contract.trade) contracts
IsNamedAnswer names Valid = Unit {0}
IsNamedAnswer names (Invalid reason) = IsNamedReason names reason
IsNamedAnswer names (Cases count failed) = Unit {0}
IsNamedAnswer names (PageIs page) = Unit {0}
IsNamedAnswer names (Firms content firms surplus) = (length firms ≡ length names.firms)
    × All (IsNamedHolding names.trades) firms
IsNamedAnswer names (FirmsByCounts content firms surplus) = (length firms ≡ length names.firms)
    × All (IsNamedUnitHolding names.trades) firms

-- the numbers of an answer fit 64 bits, and so do the indices of a fault's place
abbrev pub HasShortNumbers : Said → Type 0
HasShortNumbers (FaultIs fault) = All HasShortIndex fault.place
HasShortNumbers said = IsSayable said

-- steps of a place are written alike: a trade and a member of the same name, or equal steps
abbrev pub IsSameStep : List (List ℕ) → PlaceStep → PlaceStep → Type 0
IsSameStep trades (Trade t) (Key word) = slice_get trades t ≡ Some (word_text word)
IsSameStep trades (Key word) (Trade t) = slice_get trades t ≡ Some (word_text word)
IsSameStep trades first second = first ≡ second

-- faults are written alike: of one kind, with one triple or none, at places of one length that agree step by step
pub record IsSameFault (trades : List (List ℕ)) (first second : Fault) : Type 0 where
  pub kind : first.kind ≡ second.kind
  pub place : AllZip (IsSameStep trades) first.place second.place
  pub shown : first.shown ≡ second.shown

-- no trade has a unit
abbrev pub HasNoUnits : List ℕ → Type 0
HasNoUnits counts = All (λ n. n ≡ 0) counts

-- neither of two bundles has a trade
abbrev pub AreBothEmpty : {A B : Type 0} → List A → List B → Type 0
AreBothEmpty xs ys = (xs ≡ []) × (ys ≡ [])

-- neither of two nodes is a trade
abbrev pub AreBothNull : Option ℕ → Option UnitStep → Type 0
AreBothNull node step = (node ≡ None) × (step ≡ None)

-- what a firm has is the same without units and with them: bundles without a trade
pub record IsSameHolding (holding : Holding) (other : UnitHolding) : Type 0 where
  pub best : AreBothEmpty holding.best other.best
  pub best_utility : holding.best_utility ≡ other.best_utility
  pub gain : holding.gain ≡ other.gain
  pub has : AreBothEmpty holding.has other.has
  pub utility : holding.utility ≡ other.utility
  pub worth : holding.worth ≡ other.worth

-- and so is what a trade's price may be: paths without a trade
pub record IsSameRange (range : Range) (other : UnitRange) : Type 0 where
  pub high : range.high ≡ other.high
  pub high_path : AllZip AreBothNull range.high_path other.high_path
  pub low : range.low ≡ other.low
  pub low_path : AllZip AreBothNull range.low_path other.low_path

-- and so is a state: nothing goes
pub record IsSameState (state : State) (other : UnitState) : Type 0 where
  pub on : AreBothEmpty state.on other.on
  pub prices : state.prices ≡ other.prices
  pub surplus : state.surplus ≡ other.surplus

-- the prices of all trades, each beside its trade
abbrev pub beside_trades : ℕ → List ℤ → List Contract
beside_trades t prices = each_from (λ k price. record { trade = k; price = price }) t prices

-- an answer by trades and one by counts are written alike as objects: a support with the same prices, a completion with
-- the same prices of all trades, and others where the members that have trades by units have none, and all else is the
-- same
abbrev pub IsSameByCounts : Said → Said → Type 0
IsSameByCounts (Better firm bundle gain) (BetterByCounts other other_bundle other_gain) = (firm ≡ other)
    × AreBothEmpty bundle other_bundle × (gain ≡ other_gain)
IsSameByCounts (Supported on prices ends) (SupportedByCounts counts other_prices other_ends) = prices ≡ other_prices
IsSameByCounts (Cycle nodes cost) (CycleByCounts steps other_cost) = AllZip AreBothNull nodes steps
    × (cost ≡ other_cost)
IsSameByCounts (Solved on prices surplus ends) (SolvedByCounts counts other_prices other_surplus other_ends) =
    (on ≡ []) × HasNoUnits counts × (prices ≡ other_prices) × (surplus ≡ other_surplus)
IsSameByCounts (Ranges on ranges ends) (RangesByCounts counts other_ranges other_ends) = (on ≡ []) × HasNoUnits counts
    × AllZip IsSameRange ranges other_ranges
IsSameByCounts (Firms content firms surplus) (FirmsByCounts other_content other_firms other_surplus) =
    (content ≡ other_content) × AllZip IsSameHolding firms other_firms × (surplus ≡ other_surplus)
IsSameByCounts (Session edits) (SessionByCounts others) = AllZip IsSameState edits others
IsSameByCounts (Drops firm keeps gain over) (DropsByCounts other other_keeps other_gain other_over) = (firm ≡ other)
    × AreBothEmpty keeps other_keeps × (gain ≡ other_gain) × (over ≡ other_over)
IsSameByCounts (Completes prices over) (CompletesByCounts contracts other_over) = (beside_trades 0 prices ≡ contracts)
    × (over ≡ other_over)
IsSameByCounts first second = ⊥

-- answers are written alike as objects: two faults that are, or equal answers, but that an object doesn't tell the ends
-- of trades, nor a support its set or its counts; or one by trades and one by counts that are
abbrev pub IsSameObject : NameLists → Said → Said → Type 0
IsSameObject names (FaultIs first) (FaultIs second) = IsSameFault names.trades first second
IsSameObject names (Supported on prices ends) (Supported others other_prices other_ends) = prices ≡ other_prices
IsSameObject names (Solved on prices surplus ends) (Solved others other_prices other_surplus other_ends) = (on ≡ others)
    × (prices ≡ other_prices) × (surplus ≡ other_surplus)
IsSameObject names (SolvedByCounts counts prices surplus ends) (SolvedByCounts others other_prices other_surplus
    other_ends) =
    (counts ≡ others) × (prices ≡ other_prices) × (surplus ≡ other_surplus)
IsSameObject names (SupportedByCounts counts prices ends) (SupportedByCounts others other_prices other_ends) =
    prices ≡ other_prices
IsSameObject names (Ranges on ranges ends) (Ranges others other_ranges other_ends) = (on ≡ others)
    × (ranges ≡ other_ranges)
IsSameObject names (RangesByCounts counts ranges ends) (RangesByCounts others other_ranges other_ends) =
    (counts ≡ others) × (ranges ≡ other_ranges)
IsSameObject names (Better f x u) (BetterByCounts g y v) = IsSameByCounts (Better f x u) (BetterByCounts g y v)
IsSameObject names (BetterByCounts g y v) (Better f x u) = IsSameByCounts (Better f x u) (BetterByCounts g y v)
IsSameObject names (Supported x p e) (SupportedByCounts y q d) =
    IsSameByCounts (Supported x p e) (SupportedByCounts y q d)
IsSameObject names (SupportedByCounts y q d) (Supported x p e) =
    IsSameByCounts (Supported x p e) (SupportedByCounts y q d)
IsSameObject names (Cycle x c) (CycleByCounts y d) = IsSameByCounts (Cycle x c) (CycleByCounts y d)
IsSameObject names (CycleByCounts y d) (Cycle x c) = IsSameByCounts (Cycle x c) (CycleByCounts y d)
IsSameObject names (Solved x p s e) (SolvedByCounts y q t d) = IsSameByCounts (Solved x p s e) (SolvedByCounts y q t d)
IsSameObject names (SolvedByCounts y q t d) (Solved x p s e) = IsSameByCounts (Solved x p s e) (SolvedByCounts y q t d)
IsSameObject names (Ranges x r e) (RangesByCounts y s d) = IsSameByCounts (Ranges x r e) (RangesByCounts y s d)
IsSameObject names (RangesByCounts y s d) (Ranges x r e) = IsSameByCounts (Ranges x r e) (RangesByCounts y s d)
IsSameObject names (Firms m x s) (FirmsByCounts n y t) = IsSameByCounts (Firms m x s) (FirmsByCounts n y t)
IsSameObject names (FirmsByCounts n y t) (Firms m x s) = IsSameByCounts (Firms m x s) (FirmsByCounts n y t)
IsSameObject names (Session x) (SessionByCounts y) = IsSameByCounts (Session x) (SessionByCounts y)
IsSameObject names (SessionByCounts y) (Session x) = IsSameByCounts (Session x) (SessionByCounts y)
IsSameObject names (Drops f x u d) (DropsByCounts g y v e) = IsSameByCounts (Drops f x u d) (DropsByCounts g y v e)
IsSameObject names (DropsByCounts g y v e) (Drops f x u d) = IsSameByCounts (Drops f x u d) (DropsByCounts g y v e)
IsSameObject names (Completes x d) (CompletesByCounts y e) = IsSameByCounts (Completes x d) (CompletesByCounts y e)
IsSameObject names (CompletesByCounts y e) (Completes x d) = IsSameByCounts (Completes x d) (CompletesByCounts y e)
IsSameObject names first second = first ≡ second

-- the same trades are on
abbrev pub AreSameOn : List ℕ → List ℕ → Type 0
AreSameOn on others = (t : ℕ) → is_listed on t ≡ is_listed others t

-- each trade that is on has one unit, and no other trade has any
abbrev pub AreUnitsOn : List ℕ → List ℕ → Type 0
AreUnitsOn on counts = (t : ℕ) → (if is_listed on t then 1 else 0) ≡ units_of counts t

-- each trade has the same seller and the same buyer
pub record AreSameEnds (ends others : List Ends) : Type 0 where
  pub same_sellers : map (λ trade. trade.seller) ends ≡ map (λ trade. trade.seller) others
  pub same_buyers : map (λ trade. trade.buyer) ends ≡ map (λ trade. trade.buyer) others

-- the lowest and the highest price of each trade, or none
abbrev pub bounds_of : List Range → List (Option ℤ × Option ℤ)
bounds_of ranges = map (λ range. (range.low, range.high)) ranges

abbrev pub unit_bounds_of : List UnitRange → List (Option ℤ × Option ℤ)
unit_bounds_of ranges = map (λ range. (range.low, range.high)) ranges

-- answers are written alike as rows: they agree in what their columns say, or are written alike as objects. Rows don't
-- tell a surplus, nor the paths of a range, nor one unit of a trade from that it is on, nor bundles without a trade from
-- those without units, and of the ends of trades only those of a support and a range do
abbrev pub IsSameInRows : NameLists → Said → Said → Type 0
IsSameInRows names (Supported on prices ends) (Supported others other_prices other_ends) = AreSameOn on others
    × (prices ≡ other_prices) × AreSameEnds ends other_ends
IsSameInRows names (SupportedByCounts counts prices ends) (SupportedByCounts others other_prices other_ends) =
    (counts ≡ others) × (prices ≡ other_prices) × AreSameEnds ends other_ends
IsSameInRows names (Supported on prices ends) (SupportedByCounts counts other_prices other_ends) =
    AreUnitsOn on counts × (prices ≡ other_prices) × AreSameEnds ends other_ends
IsSameInRows names (SupportedByCounts counts prices ends) (Supported on other_prices other_ends) =
    AreUnitsOn on counts × (prices ≡ other_prices) × AreSameEnds ends other_ends
IsSameInRows names (Solved on prices surplus ends) (Solved others other_prices other_surplus other_ends) =
    AreSameOn on others × (prices ≡ other_prices)
IsSameInRows names (SolvedByCounts counts prices surplus ends) (SolvedByCounts others other_prices other_surplus
    other_ends) =
    (counts ≡ others) × (prices ≡ other_prices)
IsSameInRows names (Solved on prices surplus ends) (SolvedByCounts counts other_prices other_surplus other_ends) =
    AreUnitsOn on counts × (prices ≡ other_prices)
IsSameInRows names (SolvedByCounts counts prices surplus ends) (Solved on other_prices other_surplus other_ends) =
    AreUnitsOn on counts × (prices ≡ other_prices)
IsSameInRows names (Ranges on ranges ends) (Ranges others other_ranges other_ends) = AreSameOn on others
    × (bounds_of ranges ≡ bounds_of other_ranges) × AreSameEnds ends other_ends
IsSameInRows names (RangesByCounts counts ranges ends) (RangesByCounts others other_ranges other_ends) =
    (counts ≡ others) × (unit_bounds_of ranges ≡ unit_bounds_of other_ranges) × AreSameEnds ends other_ends
IsSameInRows names (Ranges on ranges ends) (RangesByCounts counts other_ranges other_ends) = AreUnitsOn on counts
    × (bounds_of ranges ≡ unit_bounds_of other_ranges) × AreSameEnds ends other_ends
IsSameInRows names (RangesByCounts counts ranges ends) (Ranges on other_ranges other_ends) = AreUnitsOn on counts
    × (bounds_of other_ranges ≡ unit_bounds_of ranges) × AreSameEnds ends other_ends
IsSameInRows names (Firms content firms surplus) (Firms other_content other_firms other_surplus) = firms ≡ other_firms
IsSameInRows names (FirmsByCounts content firms surplus) (FirmsByCounts other_content other_firms other_surplus) =
    firms ≡ other_firms
IsSameInRows names (Firms content firms surplus) (FirmsByCounts other_content other_firms other_surplus) =
    AllZip IsSameHolding firms other_firms
IsSameInRows names (FirmsByCounts content firms surplus) (Firms other_content other_firms other_surplus) =
    AllZip IsSameHolding other_firms firms
IsSameInRows names first second = IsSameObject names first second

-- and as wide rows, which tell the ends of trades too
abbrev pub IsSameInWideRows : NameLists → Said → Said → Type 0
IsSameInWideRows names (Solved on prices surplus ends) (Solved others other_prices other_surplus other_ends) =
    AreSameOn on others × (prices ≡ other_prices) × AreSameEnds ends other_ends
IsSameInWideRows names (SolvedByCounts counts prices surplus ends) (SolvedByCounts others other_prices other_surplus
    other_ends) =
    (counts ≡ others) × (prices ≡ other_prices) × AreSameEnds ends other_ends
IsSameInWideRows names (Solved on prices surplus ends) (SolvedByCounts counts other_prices other_surplus other_ends) =
    AreUnitsOn on counts × (prices ≡ other_prices) × AreSameEnds ends other_ends
IsSameInWideRows names (SolvedByCounts counts prices surplus ends) (Solved on other_prices other_surplus other_ends) =
    AreUnitsOn on counts × (prices ≡ other_prices) × AreSameEnds ends other_ends
IsSameInWideRows names first second = IsSameObject names first second

-- answers are written alike in a layout
abbrev pub IsSameAnswer : Layout → NameLists → Said → Said → Type 0
IsSameAnswer Object names first second = IsSameObject names first second
IsSameAnswer Rows names first second = IsSameInRows names first second
IsSameAnswer WideRows names first second = IsSameInWideRows names first second

-- answers of one text in one layout over the same names are written alike
abbrev pub AnswersAreToldApart : Type 0
AnswersAreToldApart =
    (layout : Layout) (names : NameLists) (first second : Said) → IsNameList names.firms → IsNameList names.trades
    → IsNamedAnswer names first → IsNamedAnswer names second → HasShortNumbers first → HasShortNumbers second
    → answer_line layout names first ≡ answer_line layout names second → IsSameAnswer layout names first second
