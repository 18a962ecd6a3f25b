-- The answer of `solve`: an equilibrium.
use Rattle.std.specs.Prelude.{◌≡◌, ℕ, ℤ, pos, List, length, Some}
use Rattle.tn_base.specs.Firm.{Firm}
use Rattle.tn_model.specs.declared.ends.Ends.{Ends}
use Rattle.tn_said.specs.declared.said.Said.{Said}
use Rattle.tn_said.specs.declared.said.Said.TheVariants.{Solved}
use Rattle.tn_model.specs.Prices.{price_at}
use Rattle.tn_model.specs.Network.{trades_on}
use Rattle.tn_market.specs.Equilibrium.{IsEquilibrium, surplus_of}
use Rattle.tn_commands.specs.Implied.{IsEfficientAndStable}

-- the trades of some set, ascending, with a price for each trade, at which the set is an equilibrium; its surplus; and
-- what that implies
pub record IsSolved (firms : List Firm) (trades : List Ends) (on : List ℕ) (prices : List ℤ) (surplus : ℤ) : Type
    0 where
  pub set : ℕ
  pub on_is : on ≡ trades_on set (length trades)
  pub one_each : length prices ≡ length trades
  pub equilibrium : IsEquilibrium firms trades (pos 1) set (price_at prices)
  pub surplus_is : surplus_of firms trades set ≡ Some surplus
  pub implied : IsEfficientAndStable firms trades set (price_at prices)

-- beside the ends of the trades
abbrev pub Solves : List Firm → List Ends → Said → Type 0
Solves firms trades (Solved on prices surplus ends) = IsSolved firms trades on prices surplus × (ends ≡ trades)
Solves firms trades said = ⊥
