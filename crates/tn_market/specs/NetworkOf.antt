-- What is said of a market whose firms are of any type: it is said of its network.
use Rattle.std.specs.Prelude.{List, map}
use Rattle.tn_base.specs.Firm.{Firm}
use Rattle.tn_model.specs.declared.ends.Ends.{Ends}
use Rattle.tn_market.specs.Traded.{Traded}

-- a definition over firms and trades, of those of a market: `network_of firm_of market IsNetwork` says that they fit
-- together
abbrev pub network_of {ℓ} : {V : Type 0} {A : Type ℓ} → (V → Firm) → Traded V → (List Firm → List Ends → A) → A
network_of firm_of market says = says (map firm_of market.firms) market.trades
