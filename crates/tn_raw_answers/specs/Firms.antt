-- What is said of each firm in an arrangement: a set of trades with prices for all trades. The firms needn't meet
-- exchange.
use Rattle.std.specs.Prelude.{◌≡◌, ℕ, ℤ, pos, ◌-ℤ◌, Bool, List, length, slice_get, Option, Some, option_map}
use Rattle.std.specs.List.{count_by}
use Rattle.tn_base.specs.Firm.{Firm, IsBest}
use Rattle.tn_model.specs.declared.ends.Ends.{Ends}
use Rattle.tn_said.specs.declared.holding.Holding.{Holding}
use Rattle.tn_said.specs.declared.said.Said.{Said}
use Rattle.tn_said.specs.declared.said.Said.TheVariants.{Firms}
use Rattle.tn_model.specs.Network.{part, trades_of}
use Rattle.tn_market.specs.Equilibrium.{utility_at, surplus_of, IsEquilibrium}
use Rattle.tn_commands.specs.Implied.{IsEfficientAndStable}
use Rattle.tn_answer.specs.Rows.{is_nothing}

-- what is said of firm f: its own bundle with worth and utility, a best bundle, its own where that is best, and what
-- its utility gains by that
pub record TellsFirm (trades : List Ends) (scale : ℤ) (on : ℕ) (prices : ℕ
    → ℤ) (f : ℕ) (firm : Firm) (told : Holding) : Type 0 where
  pub has_is : told.has ≡ trades_of trades f firm.count (part trades f firm.count on)
  pub worth_is : told.worth ≡ firm.worth (part trades f firm.count on)
  pub utility_is : told.utility ≡ utility_at trades scale prices f firm (part trades f firm.count on)
  pub bundle : ℕ
  pub best_is : told.best ≡ trades_of trades f firm.count bundle
  pub best : IsBest (utility_at trades scale prices f firm) bundle told.best_utility
  pub kept_own : told.utility ≡ Some told.best_utility → bundle ≡ part trades f firm.count on
  pub gain_is : told.gain ≡ option_map (λ value. told.best_utility -ℤ value) told.utility

-- a firm is content where it gains nothing
abbrev pub is_content : Holding → Bool
is_content told = is_nothing told.gain

-- what is said of all firms, one by one: how many are content, and the sum of the worths
pub record TellsFirms (firms : List Firm) (trades : List Ends) (scale : ℤ) (on : ℕ) (prices : ℕ
    → ℤ) (content : ℕ) (told : List Holding) (surplus : Option ℤ) : Type 0 where
  pub one_each : length told ≡ length firms
  pub each : (f : ℕ) (firm : Firm) (holding : Holding) → slice_get firms f ≡ Some firm → slice_get told f ≡ Some holding
      → TellsFirm trades scale on prices f firm holding
  pub counted : content ≡ count_by is_content told
  pub surplus_is : surplus ≡ surplus_of firms trades on

-- where all firms are content, the arrangement is an equilibrium, so no set of trades has a greater surplus and no
-- contracts block its outcome: whether the firms meet exchange or not
abbrev pub ContentImplies : List Firm → List Ends → ℕ → (ℕ → ℤ) → ℕ → Type 0
ContentImplies firms trades on prices content = content ≡ length firms
    → IsEquilibrium firms trades (pos 1) on prices × IsEfficientAndStable firms trades on prices

-- the answer of `firms`, at scale 1, and what follows of it; none of another kind
abbrev pub TellsHoldings : List Firm → List Ends → ℕ → (ℕ → ℤ) → Said → Type 0
TellsHoldings firms trades on prices (Firms content told surplus) =
    TellsFirms firms trades (pos 1) on prices content told surplus × ContentImplies firms trades on prices content
TellsHoldings firms trades on prices said = ⊥
