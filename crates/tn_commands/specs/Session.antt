-- The answer of `session`: an equilibrium of the trades that can be used after each edit.
use Rattle.std.specs.Prelude.{◌≡◌, ℕ, ◌+◌, ◌*◌, ℤ, pos, ◌≤ℤ◌, List, [], ◌∷◌, length, map, take, slice_get, Bool, true, false, not, ◌==◌, ◌&&◌, ◌||◌, Some}
use Rattle.tn_base.specs.Firm.{Firm}
use Rattle.tn_base.specs.Sets.{has}
use Rattle.tn_firm.specs.declared.value.FirmValue.{FirmValue}
use Rattle.tn_firm.specs.Firms.{firm_of}
use Rattle.tn_flow.specs.Solved.{AreSmallPrices, IsSolution}
use Rattle.tn_session.specs.Standing.{Standing}
use Rattle.tn_model.specs.declared.ends.Ends.{Ends}
use Rattle.tn_said.specs.declared.session.Edit.{Edit}
use Rattle.tn_said.specs.declared.session.Edit.TheVariants.{Admit, AdmitAll, Bar, BarAll, Join, Leave}
use Rattle.tn_said.specs.declared.session.State.{State}
use Rattle.tn_said.specs.declared.said.Said.{Said}
use Rattle.tn_said.specs.declared.said.Said.TheVariants.{Session}
use Rattle.tn_commands.specs.declared.session.Kept.{Kept}
use Rattle.tn_market.specs.Admitted.{admitted}
use Rattle.tn_model.specs.Prices.{price_at}
use Rattle.tn_market.specs.Best.{IsSubset}
use Rattle.tn_model.specs.Limits.{most_worth_among}
use Rattle.tn_commands.specs.Limits.{AreWorthsAnswered}
use Rattle.tn_model.specs.Choices.{contracts_of}
use Rattle.tn_market.specs.Equilibrium.{IsEquilibrium, surplus_of}
use Rattle.tn_market.specs.Graph.{graph_worths}
use Rattle.tn_model.specs.Network.{IsNetwork, part, trades_on}

-- whether trade t is admitted after an edit, by whether it was before it
abbrev pub is_admitted_by : ℕ → Edit → Bool → Bool
is_admitted_by t (Admit s) before = t == s || before
is_admitted_by t (Bar s) before = not (t == s) && before
is_admitted_by t AdmitAll before = true
is_admitted_by t BarAll before = false
is_admitted_by t (Leave f) before = before
is_admitted_by t (Join f) before = before

-- whether firm f is away after an edit, by whether it was before it
abbrev pub is_away_by : ℕ → Edit → Bool → Bool
is_away_by f (Leave g) before = f == g || before
is_away_by f (Join g) before = not (f == g) && before
is_away_by f (Admit t) before = before
is_away_by f (Bar t) before = before
is_away_by f AdmitAll before = before
is_away_by f BarAll before = before

-- what is so after some edits, one after the other, by what was so before them
abbrev pub after : (Edit → Bool → Bool) → List Edit → Bool → Bool
after by [] before = before
after by (edit ∷ edits) before = after by edits (by edit before)

-- at first no trade is admitted
abbrev pub is_admitted_after : List Edit → ℕ → Bool
is_admitted_after edits t = after (is_admitted_by t) edits false

-- at first no firm is away
abbrev pub is_away_after : List Edit → ℕ → Bool
is_away_after edits f = after (is_away_by f) edits false

-- a trade can be used where it is admitted and neither of its firms is away
abbrev pub is_usable_after : List Edit → ℕ → Ends → Bool
is_usable_after edits t trade = (is_admitted_after edits t && not (is_away_after edits trade.seller))
    && not (is_away_after edits trade.buyer)

-- the trades of a set of admitted trades, ascending, and the admitted trades at prices at which the set is an
-- equilibrium of the market that they make, with its surplus, which no set of admitted trades exceeds
pub record IsStateOf (firms : List Firm) (trades : List Ends) (allowed : ℕ) (state : State) : Type 0 where
  pub set : ℕ
  pub inside : IsSubset set allowed
  pub on_is : state.on ≡ trades_on set (length trades)
  pub prices : List ℤ
  pub one_each : length prices ≡ length trades
  pub prices_are : state.prices ≡ contracts_of allowed (price_at prices) (length trades)
  pub equilibrium : IsEquilibrium (admitted trades allowed firms) trades (pos 1) set (price_at prices)
  pub surplus_is : surplus_of firms trades set ≡ Some state.surplus
  pub most : (other : ℕ) (surplus : ℤ) → IsSubset other allowed → surplus_of firms trades other ≡ Some surplus
      → surplus ≤ℤ state.surplus

-- a state of the trades that can be used after edits
pub record IsStateAfter (firms : List Firm) (trades : List Ends) (edits : List Edit) (state : State) : Type 0 where
  pub allowed : ℕ
  pub allowed_is : (t : ℕ) (trade : Ends) → slice_get trades t ≡ Some trade
      → has allowed t ≡ is_usable_after edits t trade
  pub is : IsStateOf firms trades allowed state

-- in a state each firm that is away has its empty bundle
abbrev pub FirmsAwayHaveNothing : Type 0
FirmsAwayHaveNothing =
    (firms : List Firm) (trades : List Ends) (edits : List Edit) (state : State)
    (at : IsStateAfter firms trades edits state) → IsNetwork firms trades
    → (f : ℕ) (firm : Firm) → slice_get firms f ≡ Some firm → is_away_after edits f ≡ true
    → part trades f firm.count at.is.set ≡ 0

-- one state for each edit, the k-th one after the first k edits
pub record AreStates (firms : List Firm) (trades : List Ends) (edits : List Edit) (states : List State) : Type 0 where
  pub one_each : length states ≡ length edits
  pub each : (k : ℕ) (state : State) → slice_get states k ≡ Some state
      → IsStateAfter firms trades (take (k + 1) edits) state

abbrev pub TellsStates : List Firm → List Ends → List Edit → Said → Type 0
TellsStates firms trades edits (Session states) = AreStates firms trades edits states
TellsStates firms trades edits said = ⊥

-- a session on the market stands at an equilibrium of the trades that it admits, at small prices
pub record StandsOn (firms : List FirmValue) (trades : List Ends) (session : Standing FirmValue) : Type 0 where
  pub market : session.market ≡ record { firms = firms; trades = trades }
  pub equilibrium : IsSolution (map firm_of firms) trades session.admitted session.solution
  pub worths : AreWorthsAnswered (map firm_of firms) trades
  pub small : AreSmallPrices (2 * most_worth_among (length trades) * length trades) session.solution.prices

-- what is kept of trade t is what some edits say of it and of its firms, and a session admits it where it can be used
pub record IsAfter (edits : List Edit) (t : ℕ) (trade : Ends) (kept : Kept) (used : ℕ) : Type 0 where
  pub admitted : has kept.admitted t ≡ is_admitted_after edits t
  pub seller : has kept.seller_away t ≡ is_away_after edits trade.seller
  pub buyer : has kept.buyer_away t ≡ is_away_after edits trade.buyer
  pub usable : has used t ≡ is_usable_after edits t trade

-- the same of each trade
abbrev pub AreAfter : List Ends → List Edit → Kept → ℕ → Type 0
AreAfter trades edits kept used = (t : ℕ) (trade : Ends) → slice_get trades t ≡ Some trade
    → IsAfter edits t trade kept used

-- all that is kept, and the session, are as after some edits
pub record StandsAfter (firms : List FirmValue) (trades : List Ends) (edits : List Edit) (kept : Kept)
    (session : Standing FirmValue) : Type 0 where
  pub stands : StandsOn firms trades session
  pub each : AreAfter trades edits kept session.admitted

-- how many worths an edit may ask for, of all trades too: as many for each trade as a graph of the firms has
abbrev pub edit_worths : List Firm → List Ends → ℕ
edit_worths firms trades = length trades * graph_worths firms
