-- The unsigned trades of an outcome as a market of their own, where each firm pays a tax for each of its trades.
use Rattle.std.specs.Prelude.{◌≡◌, ℕ, ◌<◌, ℤ, pos, negsuc, List, length, map, slice_get, true, false, Some}
use Rattle.tn_base.specs.Sets.{has}
use Rattle.tn_base.specs.Firm.{Firm, plus_sum}
use Rattle.tn_model.specs.declared.ends.Ends.{Ends}
use Rattle.tn_model.specs.declared.contract.Contract.{Contract}
use Rattle.tn_market.specs.Best.{IsSubset}
use Rattle.tn_model.specs.Choices.{IsFeasible}
use Rattle.tn_market.specs.Equilibrium.{IsEquilibrium}
use Rattle.tn_market.specs.Admitted.{admitted}
use Rattle.tn_market.specs.Signed.{is_signed}
use Rattle.tn_market.specs.Reduced.{reduced_firms}

-- the firm whose worths count `scale` times, less 1 for each trade of a bundle
abbrev pub taxed : ℤ → Firm → Firm
taxed scale firm = plus_sum scale (λ k. negsuc 0) firm

-- the firms of an outcome with their reduced worths, taxed
abbrev pub taxed_firms : List Firm → List Ends → ℤ → List Contract → ℤ → List Firm
taxed_firms firms trades over contracts scale = map (taxed scale) (reduced_firms trades over contracts firms)

-- some of the allowed trades, and prices, that are an equilibrium of the market which the allowed trades make for firms
-- with taxed reduced worths
pub record IsTaxedEquilibrium (firms : List Firm) (trades : List Ends) (over : ℤ) (contracts : List Contract)
    (scale : ℤ) (allowed on : ℕ) (prices : ℕ → ℤ) : Type 0 where
  pub inside : IsSubset on allowed
  pub equilibrium : IsEquilibrium (admitted trades allowed (taxed_firms firms trades over contracts scale)) trades
      (pos 1) on prices

-- contracts on unsigned trades, one for each trade of a set, at given prices
pub record AreOffers (trades : List Ends) (contracts : List Contract) (on : ℕ) (prices : ℕ
    → ℤ) (offers : List Contract) : Type 0 where
  pub some : 0 < length offers
  pub feasible : IsFeasible trades offers
  pub unsigned : (k : ℕ) (offer : Contract) → slice_get offers k ≡ Some offer → is_signed contracts offer.trade ≡ false
  pub taken : (k : ℕ) (offer : Contract) → slice_get offers k ≡ Some offer → has on offer.trade ≡ true
  pub priced : (k : ℕ) (offer : Contract) → slice_get offers k ≡ Some offer → offer.price ≡ prices offer.trade
  pub each : (t : ℕ) → t < length trades → has on t ≡ true → (k : ℕ) × (offer : Contract)
      × (slice_get offers k ≡ Some offer) × (offer.trade ≡ t)
