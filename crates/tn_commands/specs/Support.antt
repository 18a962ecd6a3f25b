-- The answer of `support`: prices for a set of trades, or why there are none.
use Rattle.std.specs.Prelude.{◌≡◌, ℕ, List, length}
use Rattle.tn_base.specs.Firm.{Firm}
use Rattle.tn_model.specs.declared.ends.Ends.{Ends}
use Rattle.tn_said.specs.declared.said.Said.{Said}
use Rattle.tn_said.specs.declared.said.Said.TheVariants.{Impossible, Supported, Cycle}
use Rattle.tn_model.specs.Prices.{price_at}
use Rattle.tn_model.specs.Network.{trades_on}
use Rattle.tn_market.specs.Supported.{AreSupports, IsFirstUnable, IsNegativeCycle}
use Rattle.tn_price.specs.Supports.{IsUnsupported}
use Rattle.tn_commands.specs.Implied.{IsEfficientAndStable}

-- the set's trades, ascending, with supporting prices, what they imply, and the ends of the trades; or the first firm
-- whose bundle is impossible, or a negative cycle, and then no prices support the set
abbrev pub SupportsSet : List Firm → List Ends → ℕ → Said → Type 0
SupportsSet firms trades on (Impossible f) = IsFirstUnable firms trades on f × IsUnsupported firms trades on
SupportsSet firms trades on (Supported listed prices ends) =
    AreSupports firms trades on prices × IsEfficientAndStable firms trades on (price_at prices)
    × (listed ≡ trades_on on (length trades)) × (ends ≡ trades)
SupportsSet firms trades on (Cycle nodes cost) = IsNegativeCycle firms trades on nodes cost
    × IsUnsupported firms trades on
SupportsSet firms trades on said = ⊥
