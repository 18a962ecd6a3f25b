-- The residual market of an outcome: the unsigned trades, and for each contract a firm outside the market that buys
-- from the contract's seller and sells to its buyer at the contract's price. So each end may drop its contract by
-- itself.
use Rattle.std.specs.Prelude.{ℕ, zero, suc, unsigned_abs, ◌+◌, ◌*◌, ℤ, ◌*ℤ◌, List, [], ◌∷◌, ◌++◌, length, map, slice_get, not, ◌&&◌, if◌then◌else◌, Option, Some, None}
use Rattle.tn_base.specs.Sets.{has, set_of}
use Rattle.tn_base.specs.Firm.{Firm}
use Rattle.tn_model.specs.declared.ends.Ends.{Ends}
use Rattle.tn_model.specs.declared.contract.Contract.{Contract}
use Rattle.tn_model.specs.Limits.{most_numerator, most_worth_among}
use Rattle.tn_model.specs.Network.{part}
use Rattle.tn_market.specs.Levied.{levied}
use Rattle.tn_market.specs.Outside.{outside}
use Rattle.tn_market.specs.Signed.{is_signed}

-- ---- its trades

-- the unsigned ones of some trades, which are numbered from t
abbrev pub unsigned_from : List Contract → ℕ → List Ends → List Ends
unsigned_from contracts t [] = []
unsigned_from contracts t (trade ∷ trades) = if is_signed contracts t then unsigned_from contracts (t + 1) trades
    else trade ∷ unsigned_from contracts (t + 1) trades

-- the trade on which a contract's seller sells to firm g, and the one on which firm g sells to its buyer
abbrev pub sold_to : ℕ → Ends → Ends
sold_to g trade = record { seller = trade.seller; buyer = g; at_seller = trade.at_seller; at_buyer = 0 }

abbrev pub bought_from : ℕ → Ends → Ends
bought_from g trade = record { seller = g; buyer = trade.buyer; at_seller = 1; at_buyer = trade.at_buyer }

abbrev pub halves_of : ℕ → Option Ends → List Ends
halves_of g None = []
halves_of g (Some trade) = sold_to g trade ∷ bought_from g trade ∷ []

-- these two for each contract, with firms numbered from g
abbrev pub halves_from : List Ends → ℕ → List Contract → List Ends
halves_from trades g [] = []
halves_from trades g (contract ∷ contracts) = halves_of g (slice_get trades contract.trade)
    ++ halves_from trades (g + 1) contracts

-- the unsigned trades in order, and then two for each contract; the firms outside are numbered from `firms` on
abbrev pub residual_trades : ℕ → List Ends → List Contract → List Ends
residual_trades firms trades contracts = unsigned_from contracts 0 trades ++ halves_from trades firms contracts

-- ---- its firms

-- the set of the unsigned trades, of n trades in all
abbrev pub unsigned : ℕ → List Contract → ℕ
unsigned n contracts = set_of (λ t. not (is_signed contracts t)) n

-- the firms from number f on, their worths counted `scale` times, and a tax on each unsigned trade
abbrev pub levied_from : List Ends → List Contract → ℤ → ℤ → ℕ → List Firm → List Firm
levied_from trades contracts scale tax f [] = []
levied_from trades contracts scale tax f (firm ∷ firms) =
    levied scale (part trades f firm.count (unsigned (length trades) contracts)) tax firm ∷ levied_from trades contracts
    scale tax (f + 1) firms

-- the firms outside, one for each contract
abbrev pub outsides : ℤ → List Contract → List Firm
outsides scale contracts = map (λ contract. outside (scale *ℤ contract.price)) contracts

-- the firms of an outcome over a denominator, where prices count `scale` times, and then those outside
abbrev pub residual_of : List Firm → List Ends → ℤ → List Contract → ℤ → ℤ → List Firm
residual_of firms trades over contracts scale tax =
    levied_from trades contracts (over *ℤ scale) tax 0 firms ++ outsides scale contracts

-- a bound on the size of every worth of a firm, of a market of n trades: each price counts `scale` times, each worth
-- `over` times as often
abbrev pub residual_limit : ℕ → ℤ → ℤ → ℕ
residual_limit n over scale = unsigned_abs scale * (unsigned_abs over * most_worth_among n + most_numerator) + 64

-- ---- its surplus

-- the number that an unsigned trade has among the unsigned ones
abbrev pub number_from : List Contract → ℕ → ℕ → ℕ
number_from contracts t zero = 0
number_from contracts t (suc i) = (if is_signed contracts t then 0 else 1) + number_from contracts (t + 1) i

-- the unsigned trades of the market that are in a set of trades of the residual one
abbrev pub unsigned_part : List Contract → ℕ → ℕ → ℕ
unsigned_part contracts n on = set_of (λ t. not (is_signed contracts t) && has on (number_from contracts 0 t)) n
