-- What `session` says of a document whose trades have units: an equilibrium by counts after each edit.
use Rattle.std.specs.Prelude.{◌≡◌, ℕ, ◌+◌, ℤ, pos, List, length, map, take, fold, slice_get, Bool, true, false, ◌==◌, nat_lt, if◌then◌else◌, Option, Some, None, unwrap_or}
use Rattle.std.specs.List.{filter, range_with_len}
use Rattle.tn_counts.specs.Counts.{CountFirm, IsBestCount, IsEquilibriumByCounts, count_surplus, trade_at}
use Rattle.tn_counts.specs.declared.trade.UnitTrade.{UnitTrade}
use Rattle.tn_model.specs.declared.contract.Contract.{Contract}
use Rattle.tn_read_units.specs.Firms.{UnitDocument}
use Rattle.tn_read_units.specs.Worths.{written_firms}
use Rattle.tn_said.specs.declared.said.Said.{Said}
use Rattle.tn_said.specs.declared.said.Said.TheVariants.{SessionByCounts}
use Rattle.tn_said.specs.declared.session.UnitEdit.{UnitEdit}
use Rattle.tn_said.specs.declared.session.UnitEdit.TheVariants.{Admit, AdmitAll, BarAll, Join, Leave}
use Rattle.tn_said.specs.declared.session.UnitState.{UnitState}
use Rattle.tn_said.specs.declared.units.TradeUnits.{TradeUnits}
use Rattle.tn_tree.specs.Lists.{count_in, price_in}

-- how many units an edit admits of trade t, which has so many; none where it says nothing of that trade
abbrev pub admitted_by : ℕ → ℕ → UnitEdit → Option ℕ
admitted_by t units (Admit s n) = if t == s then Some n else None
admitted_by t units AdmitAll = Some units
admitted_by t units BarAll = Some 0
admitted_by t units (Leave f) = None
admitted_by t units (Join f) = None

-- whether firm f is away by an edit; none where it says nothing of that firm
abbrev pub away_by : ℕ → UnitEdit → Option Bool
away_by f (Admit t n) = None
away_by f AdmitAll = None
away_by f BarAll = None
away_by f (Leave g) = if f == g then Some true else None
away_by f (Join g) = if f == g then Some false else None

-- what the last edit says that says something, and what is at first where none does
abbrev pub last_said : {A : Type 0} → (UnitEdit → Option A) → A → List UnitEdit → A
last_said says first edits = fold (λ before edit. unwrap_or (says edit) before) first edits

-- at first no unit is admitted
abbrev pub admitted_after : List UnitEdit → List UnitTrade → ℕ → ℕ
admitted_after edits trades t = last_said (admitted_by t (trade_at trades t).units) 0 edits

-- at first no firm is away
abbrev pub is_away_after : List UnitEdit → ℕ → Bool
is_away_after edits f = last_said (away_by f) false edits

-- the units of a trade of which so many are admitted that may go: none where one of its firms is away
abbrev pub usable_units : ℕ → (ℕ → Bool) → UnitTrade → ℕ
usable_units admitted away trade = if away trade.seller then 0 else if away trade.buyer then 0 else admitted

abbrev pub usable_trade : ℕ → (ℕ → Bool) → UnitTrade → UnitTrade
usable_trade admitted away trade =
    record { seller = trade.seller; buyer = trade.buyer; units = usable_units admitted away trade }

-- the trades, each with its usable units
abbrev pub usable_trades : (ℕ → ℕ) → (ℕ → Bool) → List UnitTrade → List UnitTrade
usable_trades admitted away trades =
    map (λ t. usable_trade (admitted t) away (trade_at trades t)) (range_with_len 0 (length trades))

abbrev pub usable_after : List UnitEdit → List UnitTrade → List UnitTrade
usable_after edits trades = usable_trades (admitted_after edits trades) (is_away_after edits) trades

-- the trades of which some units go, ascending, each with how many
abbrev pub count_entry : List ℕ → ℕ → TradeUnits
count_entry counts t = record { trade = t; units = count_in counts t }

abbrev pub going : List ℕ → List TradeUnits
going counts =
    filter (λ entry. nat_lt 0 entry.units) (map (count_entry counts) (range_with_len 0 (length counts)))

-- the trades with a unit, ascending, each at its price
abbrev pub price_entry : List ℤ → ℕ → Contract
price_entry prices t = record { trade = t; price = price_in prices t }

abbrev pub priced : List UnitTrade → List ℤ → List Contract
priced trades prices = filter (λ contract. nat_lt 0 (trade_at trades contract.trade).units)
    (map (price_entry prices) (range_with_len 0 (length trades)))

-- counts and prices of trades that are an equilibrium of the firms, with the surplus of the counts, than which no counts
-- within the trades' units have more
pub record IsUnitState (firms : List CountFirm) (trades : List UnitTrade) (state : UnitState) : Type 0 where
  pub counts : List ℕ
  pub counted : length counts ≡ length trades
  pub on_is : state.on ≡ going counts
  pub prices : List ℤ
  pub priced_all : length prices ≡ length trades
  pub prices_are : state.prices ≡ priced trades prices
  pub equilibrium : IsEquilibriumByCounts firms trades (pos 1) (count_in counts) (price_in prices)
  pub greatest : IsBestCount trades (count_surplus firms) (count_in counts) state.surplus

-- one state for each edit, the k-th one of the units that are usable after the first k edits
pub record AreUnitStates (firms : List CountFirm) (trades : List UnitTrade) (edits : List UnitEdit)
    (states : List UnitState) : Type 0 where
  pub one_each : length states ≡ length edits
  pub each : (k : ℕ) (state : UnitState) → slice_get states k ≡ Some state
      → IsUnitState firms (usable_after (take (k + 1) edits) trades) state

abbrev pub TellsUnitStates : UnitDocument → List UnitEdit → Said → Type 0
TellsUnitStates doc edits (SessionByCounts states) =
    AreUnitStates (written_firms doc) doc.head.trades edits states
TellsUnitStates doc edits said = ⊥
