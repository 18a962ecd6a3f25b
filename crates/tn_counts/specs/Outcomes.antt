-- Outcomes by counts: contracts of several units, each at a price that is a numerator over the outcome's denominator. The
-- split network of an outcome has a trade for each contract, with its units, and then one for the unsigned units of each
-- trade. (Choices and blocking sets: Hatfield, Kominers, Nichifor, Ostrovsky and Westkamp, 2013.)
use Rattle.std.specs.Prelude.{◌≡◌, ℕ, ◌+◌, ◌-◌, ◌<◌, ℤ, pos, ◌*ℤ◌, ◌≤ℤ◌, ◌⊎◌, List, ◌++◌, length, map, get_or, slice_get, sum_by, filter, ◌==◌, nat_lt, if◌then◌else◌, Some}
use Rattle.std.specs.List.{enumerate_from, range_with_len}
use Rattle.tn_counts.specs.Counts.{AreCounts, CountFirm, IsBestCount, IsEquilibriumByCounts, count_utility, trade_at}
use Rattle.tn_counts.specs.declared.contract.UnitContract.{UnitContract}
use Rattle.tn_counts.specs.declared.trade.UnitTrade.{UnitTrade}

-- the contract with an index; one of no units where there is none
abbrev pub contract_at : List UnitContract → ℕ → UnitContract
contract_at contracts k = get_or contracts k (record { trade = 0; units = 0; price = pos 0 })

-- how many units of a trade are signed
abbrev pub signed_units : List UnitContract → ℕ → ℕ
signed_units contracts t = sum_by (λ contract. contract.units) (filter (λ contract. contract.trade == t) contracts)

-- contracts that can be signed together: on trades of the network, and in sum at most with their units
pub record AreUnitContracts (trades : List UnitTrade) (contracts : List UnitContract) : Type 0 where
  pub known : (k : ℕ) (contract : UnitContract) → slice_get contracts k ≡ Some contract → contract.trade < length trades
  pub within : AreCounts trades (signed_units contracts)

-- so many units of a trade
abbrev pub units_of : List UnitTrade → ℕ → ℕ → UnitTrade
units_of trades t units =
    record { seller = (trade_at trades t).seller; buyer = (trade_at trades t).buyer; units = units }

-- the trades of the contracts, and those of what is unsigned, of which so many units may go
abbrev pub split_trades : List UnitTrade → List UnitContract → (ℕ → ℕ) → List UnitTrade
split_trades trades contracts free =
    map (λ contract. units_of trades contract.trade contract.units) contracts
    ++ map (λ t. units_of trades t (free t)) (range_with_len 0 (length trades))

-- the units of a trade that are not signed
abbrev pub unsigned_units : List UnitTrade → List UnitContract → ℕ → ℕ
unsigned_units trades contracts t = (trade_at trades t).units - signed_units contracts t

-- the units of trade t in counts of the split network
abbrev pub joined : List UnitContract → (ℕ → ℕ) → ℕ → ℕ
joined contracts counts t = counts (length contracts + t)
    + sum_by (λ entry. if entry.1.trade == t then counts entry.0 else 0) (enumerate_from 0 contracts)

-- the firms of the split network have what they have by these units
abbrev pub split_firms : List UnitContract → List CountFirm → List CountFirm
split_firms contracts firms = map (λ firm. record { worth = λ counts. firm.worth (joined contracts counts) }) firms

-- all that is signed, and nothing else
abbrev pub all_signed : List UnitContract → ℕ → ℕ
all_signed contracts k = (contract_at contracts k).units

-- the contracts' prices, and these ones for unsigned units
abbrev pub prices_beside : List UnitContract → (ℕ → ℤ) → ℕ → ℤ
prices_beside contracts prices k =
    if nat_lt k (length contracts) then (contract_at contracts k).price else prices (k - length contracts)

-- no firm would rather drop some of its units
abbrev pub IsRationalByCounts : List CountFirm → List UnitTrade → ℤ → List UnitContract → Type 0
IsRationalByCounts firms trades over contracts =
    IsEquilibriumByCounts (split_firms contracts firms) (split_trades trades contracts (λ t. 0)) over
    (all_signed contracts) (prices_beside contracts (λ t. pos 0))

-- prices of the unsigned units complete an outcome: with them what is signed is an equilibrium
abbrev pub CompletesByCounts : List CountFirm → List UnitTrade → ℤ → List UnitContract → (ℕ → ℤ) → Type 0
CompletesByCounts firms trades over contracts prices =
    IsEquilibriumByCounts (split_firms contracts firms) (split_trades trades contracts (unsigned_units trades contracts))
    over (all_signed contracts) (prices_beside contracts prices)

-- the contracts with all prices counted that many times
abbrev pub counted : ℤ → List UnitContract → List UnitContract
counted z contracts =
    map (λ contract. record { trade = contract.trade; units = contract.units; price = z *ℤ contract.price }) contracts

-- the contracts of an outcome over d, and then offers over e, all over d times e
abbrev pub together : ℤ → List UnitContract → ℤ → List UnitContract → List UnitContract
together d contracts e offers = counted e contracts ++ counted d offers

-- firm f is one of the two ends of a trade
abbrev pub HasEnd : ℕ → UnitTrade → Type 0
HasEnd f trade = (trade.seller ≡ f) ⊎ (trade.buyer ≡ f)

-- offers over e of unsigned units block an outcome over d: there is one, each is of at least one unit, they can be signed
-- beside the outcome, and whatever counts are best for a firm among what is signed and offered have all units of its offers
pub record BlocksByCounts (firms : List CountFirm) (trades : List UnitTrade) (d : ℤ) (contracts : List UnitContract) (e : ℤ)
    (offers : List UnitContract) : Type 0 where
  pub some : 0 < length offers
  pub units : (k : ℕ) (offer : UnitContract) → slice_get offers k ≡ Some offer → 0 < offer.units
  pub beside : AreUnitContracts trades (contracts ++ offers)
  pub chosen : (f : ℕ) (firm : CountFirm) (counts : ℕ → ℕ) (value : ℤ)
      → slice_get (split_firms (contracts ++ offers) firms) f ≡ Some firm
      → IsBestCount (split_trades trades (contracts ++ offers) (λ t. 0))
      (count_utility (split_trades trades (contracts ++ offers) (λ t. 0)) (d *ℤ e)
      (prices_beside (together d contracts e offers) (λ t. pos 0)) f firm) counts value
      → (k : ℕ) (offer : UnitContract) → slice_get offers k ≡ Some offer → HasEnd f (trade_at trades offer.trade)
      → counts (length contracts + k) ≡ offer.units

-- stable: no offers over any denominator block the outcome
abbrev pub IsStableByCounts : List CountFirm → List UnitTrade → ℤ → List UnitContract → Type 0
IsStableByCounts firms trades d contracts =
    (e : ℤ) (offers : List UnitContract) → pos 1 ≤ℤ e → BlocksByCounts firms trades d contracts e offers → ⊥
