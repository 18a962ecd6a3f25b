-- What the search for prices of a set of trades says.
use Rattle.std.specs.Prelude.{ℕ, ℤ, pos, List, All, Option, Some, None}
use Rattle.tn_base.specs.Arcs.{IsAtMost}
use Rattle.tn_base.specs.Firm.{Firm}
use Rattle.tn_model.specs.declared.ends.Ends.{Ends}
use Rattle.tn_market.specs.Equilibrium.{IsEquilibrium}
use Rattle.tn_market.specs.Graph.{ArePossible}
use Rattle.tn_market.specs.Supported.{AreSupports, IsFirstUnable, IsNegativeCycle}
use Rattle.tn_price.specs.declared.supported.Support.{Support}
use Rattle.tn_price.specs.declared.supported.Support.TheVariants.{Supported, Impossible, Cycle}

-- no prices support the set
abbrev pub IsUnsupported : List Firm → List Ends → ℕ → Type 0
IsUnsupported firms trades on = (prices : ℕ → ℤ) → IsEquilibrium firms trades (pos 1) on prices → ⊥

-- prices that support the set; or the first firm whose bundle is impossible; or, where all are possible, a negative
-- cycle
abbrev pub Supports : List Firm → List Ends → ℕ → Support → Type 0
Supports firms trades on (Supported prices) = AreSupports firms trades on prices
Supports firms trades on (Impossible f) = IsFirstUnable firms trades on f × IsUnsupported firms trades on
Supports firms trades on (Cycle nodes cost) = IsNegativeCycle firms trades on nodes cost × IsUnsupported firms trades on

-- the first firm whose bundle is impossible, none where all are possible
abbrev pub FindsUnable : List Firm → List Ends → ℕ → Option ℕ → Type 0
FindsUnable firms trades on (Some f) = IsFirstUnable firms trades on f
FindsUnable firms trades on None = ArePossible firms trades on

-- no price of the answer is above so much in size
abbrev pub IsPricedWithin : ℕ → Support → Type 0
IsPricedWithin limit (Supported prices) = All (λ price. IsAtMost price limit) prices
IsPricedWithin limit (Impossible f) = Unit {0}
IsPricedWithin limit (Cycle nodes cost) = Unit {0}
