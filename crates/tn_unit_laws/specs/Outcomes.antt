-- Outcomes by counts over single units: each contract of several units is as many contracts of one unit, on the first twins
-- of its trade that the contracts before it leave, each at its price.
use Rattle.std.specs.Prelude.{◌≡◌, ℕ, suc, ◌-◌, ◌≤◌, ℤ, pos, List, [], ◌∷◌, ◌++◌, length, map, slice_get, ◌==◌, ◌&&◌, nat_lt, if◌then◌else◌, Some}
use Rattle.std.specs.List.{range_with_len}
use Rattle.tn_base.specs.Sets.{minus}
use Rattle.tn_model.specs.Choices.{contracts_of}
use Rattle.tn_model.specs.declared.contract.Contract.{Contract}
use Rattle.tn_counts.specs.Counts.{CountFirm}
use Rattle.tn_counts.specs.Outcomes.{prices_beside, signed_units}
use Rattle.tn_counts.specs.declared.contract.UnitContract.{UnitContract}
use Rattle.tn_counts.specs.declared.trade.UnitTrade.{UnitTrade}
use Rattle.tn_unit_laws.specs.Units.{first_units, trade_of, twins_before, unit_count}

-- the trade of the split network that has the twin of trade t before which m others come: the contracts on t take as many
-- twins as they have units, contract after contract, and the unsigned units of t are behind all contracts
unfoldable pub split_of : List UnitContract → ℕ → ℕ → ℕ
split_of [] t m = t
split_of (contract ∷ contracts) t m = if contract.trade == t && nat_lt m contract.units then 0
    else suc (split_of contracts t (if contract.trade == t then m - contract.units else m))

-- the price of each twin: that of its contract, and of unsigned ones that of their trade
abbrev pub split_price : List UnitTrade → List UnitContract → (ℕ → ℤ) → ℕ → ℤ
split_price trades contracts prices u =
    prices_beside contracts prices (split_of contracts (trade_of trades u) (twins_before trades u))

-- the twins that are signed
abbrev pub signed_twins : List UnitTrade → List UnitContract → ℕ
signed_twins trades contracts = first_units trades (signed_units contracts)

-- the unit contracts: one on each signed twin, at the price of the contract that it is of
abbrev pub unit_contracts : List UnitTrade → List UnitContract → List Contract
unit_contracts trades contracts =
    contracts_of (signed_twins trades contracts) (split_price trades contracts (λ t. pos 0)) (unit_count trades)

-- the twins that are offered: those that are signed with the offers, behind the contracts, and not without them
abbrev pub offered_twins : List UnitTrade → List UnitContract → List UnitContract → ℕ
offered_twins trades contracts offers =
    minus (signed_twins trades (contracts ++ offers)) (signed_twins trades contracts)

-- the unit offers: one on each offered twin, at the price of the offer that it is of
abbrev pub unit_offers : List UnitTrade → List UnitContract → List UnitContract → List Contract
unit_offers trades contracts offers =
    contracts_of (offered_twins trades contracts offers) (split_price trades (contracts ++ offers) (λ t. pos 0))
    (unit_count trades)

-- the outcome of counts at prices: for each trade a contract of its units at its price, of none where none go
abbrev pub outcome_of : List UnitTrade → (ℕ → ℕ) → (ℕ → ℤ) → List UnitContract
outcome_of trades counts prices =
    map (λ t. record { trade = t; units = counts t; price = prices t }) (range_with_len 0 (length trades))

-- offers on unit trades, each as an offer by counts of one unit
abbrev pub single_offers : List UnitTrade → List Contract → List UnitContract
single_offers trades offers =
    map (λ offer. record { trade = trade_of trades offer.trade; units = 1; price = offer.price }) offers

-- each firm can have some of what is signed, or nothing
abbrev pub CanHaveSome : List CountFirm → List UnitContract → Type 0
CanHaveSome firms contracts = (f : ℕ) (firm : CountFirm) → slice_get firms f ≡ Some firm
    → (counts : ℕ → ℕ) × ((t : ℕ) → counts t ≤ signed_units contracts t)
    × (worth : ℤ) × (firm.worth counts ≡ Some worth)
