-- From the judgement of an arrangement to the answer about it.
use Rattle.std.proofs.Common.{◌*◌, ◌≡◌, ℕ, ◌^◌, ◌<◌, ◌≤◌, ℤ, pos, ◌≤ℤ◌, get_or, List, [], ◌∷◌, length, map, refl, sym, ap, ◌∙◌, subst, arith, inl, inr}
use Rattle.std.specs.Prelude.{Option, Some, None, option_map, slice_get, All}
use Rattle.std.proofs.lemmas.Int.{ints}
use Rattle.std.proofs.lemmas.List.{length-map, get_or_past}
use Rattle.std.proofs.lemmas.Bool.{cases_lt}
use Rattle.std.proofs.lemmas.Option.{none-some, same_Some, slice_get-map, slice_get_within}
use Rattle.std.proofs.lemmas.List.Elements.{All-get_or}
use Rattle.tn_base.specs.Arcs.{IsAtMost}
use Rattle.tn_base.specs.Firm.{Firm}
use Rattle.tn_firm.specs.declared.value.FirmValue.{FirmValue}
use Rattle.tn_firm.specs.Firms.{firm_of}
use Rattle.tn_firm.specs.FirmLemmas.{firm_laws, firm_few}
use Rattle.tn_cert.specs.Claims.{IsValid}
use Rattle.tn_cert.proofs.PlanLaw.{plans_bar}
use Rattle.tn_said.specs.Claim.{Claim, on_market, on_firms}
use Rattle.tn_said.specs.declared.claim.MarketClaim.TheVariants.{Equilibrium as EquilibriumClaim, Better as BetterClaim, Impossible as ImpossibleClaim, Supported as SupportedClaim, Cycle as CycleClaim, Solved as SolvedClaim, Drops as DropsClaim, Completes as CompletesClaim, Blocks as BlocksClaim}
use Rattle.tn_said.specs.declared.claim.FirmClaim.TheVariants.{Accepted as AcceptedClaim, ExchangeFails as ExchangeFailsClaim, NoPrices as NoPricesClaim}
use Rattle.tn_model.specs.declared.contract.Contract.{Contract}
use Rattle.tn_model.specs.declared.contract.Outcome.{Outcome}
use Rattle.tn_model.specs.declared.ends.Ends.{Ends}
use Rattle.tn_said.specs.declared.said.Said.{Said}
use Rattle.tn_said.specs.declared.said.Said.TheVariants.{Equilibrium, Better}
use Rattle.tn_model.specs.Prices.{price_at}
use Rattle.tn_said.specs.ClaimLimits.{IsClaimWithin, IsOverWithin}
use Rattle.tn_market.specs.Limits.{IsOutcomeOf}
use Rattle.tn_model.specs.OutcomeLimits.{IsOutcomeWithin}
use Rattle.tn_market.specs.Signed.{signed, Completes}
use Rattle.tn_model.specs.Network.{IsNetwork, own, trades_of}
use Rattle.tn_market.specs.Equilibrium.{IsEquilibrium, surplus_of}
use Rattle.tn_market.specs.Judged.{IsFirstBettered}
use Rattle.tn_commands.specs.Check.{ChecksArrangement}
use Rattle.tn_network_laws.proofs.WelfareLemmas.{equilibrium_is_efficient}
use Rattle.tn_network_laws.proofs.BlockLemmas.{equilibrium_is_stable}
use Rattle.tn_outcome_laws.proofs.StableLemmas.{completed_is_stable}
use Rattle.tn_residual.proofs.MakingLemmas.{outcome_feasible}
use Rattle.tn_commands.specs.Implied.{ClaimImplies, IsEfficientAndStable, IsLastingOutcome}
use Rattle.tn_market.specs.Widths.{most_market_firms, most_own, most_worth}
use Rattle.tn_model.specs.Limits.{most_price}
use Rattle.tn_commands.proofs.NumberLemmas.{AreSmallFirms, surplus_small, utility_small}

-- what stands at a place of a mapped list comes from there
from_map : {A B : Type 0} (g : A → B) (o : Option A) (y : B) → option_map g o ≡ Some y → (x : A) × (o ≡ Some x)
    × (g x ≡ y)
from_map g None y e = absurd (none-some y e)
from_map g (Some x) y e = (x, refl, same_Some (g x) y e)

-- the value of a firm in a list of firms
pub value_at : (firms : List FirmValue) (f : ℕ) (firm : Firm) → slice_get (map firm_of firms) f ≡ Some firm
    → (value : FirmValue) × (slice_get firms f ≡ Some value) × (firm_of value ≡ firm)
value_at firms f firm e = from_map firm_of (slice_get firms f) firm (sym (slice_get-map firm_of firms f) ∙ e)

-- each price is small, and so is that of a trade that isn't there
pub price_small : (prices : List ℤ) (t limit : ℕ) → All (λ p. IsAtMost p limit) prices
    → IsAtMost (price_at prices t) limit
price_small prices t limit small = elim (cases_lt t (length prices)) [
  | inl h ↦ All-get_or (λ p. IsAtMost p limit) prices t (pos 0) h small
  | inr h ↦ subst (λ (z : ℤ). IsAtMost z limit) (sym (get_or_past prices t (pos 0) h)) (record {
    low =
        omega (arith, ints);
    high = omega (arith, ints);
  })
]

pub are_small : (firms : List FirmValue) → AreSmallFirms (map firm_of firms)
are_small [] = tt
are_small (value ∷ firms) = ((firm_laws value).within, are_small firms)

-- a surplus fits an answer
pub surplus_fits : (firms : List FirmValue) (trades : List Ends) (on : ℕ) (s : ℤ) → length firms ≤ most_market_firms
    → surplus_of (map firm_of firms) trades on ≡ Some s → IsAtMost s (10 ^ 15)
surplus_fits firms trades on s few is =
    let small = surplus_small trades on 0 (map firm_of firms) s (are_small firms) is in
    let count : length (map firm_of firms) ≡ length firms = length-map firms firm_of in
    record { low = omega (arith, ints, small.low, count, few); high = omega (arith, ints, small.high, count, few) }

-- a gain fits an answer
pub gain_fits : (firms : List FirmValue) (trades : List Ends) (on : ℕ) (prices : List ℤ) (f x : ℕ) (gain : ℤ)
    → All (λ p. IsAtMost p most_price) prices
    → IsFirstBettered (map firm_of firms) trades (pos 1) on (price_at prices) f x gain → IsAtMost gain (2 * 10 ^ 16)
gain_fits firms trades on prices f x gain small bettered =
    let there = value_at firms f bettered.firm bettered.is in
    let few : bettered.firm.count ≤ most_own = subst (λ (firm : Firm). firm.count ≤ most_own) there.2 (firm_few there.0)
    in
    let worths = subst (λ (firm : Firm). (y : ℕ) (a : ℤ) → firm.worth y ≡ Some a
    → IsAtMost a most_worth) there.2 (firm_laws there.0).within in
    let own_small =
    utility_small bettered.firm (λ k. price_at prices (own trades f k)) _ bettered.own_value few worths
    (λ k. price_small prices (own trades f k) most_price small) bettered.own_is in
    let best_small =
    utility_small bettered.firm (λ k. price_at prices (own trades f k)) x bettered.best_value few worths
    (λ k. price_small prices (own trades f k) most_price small) bettered.best.is in
    let e = bettered.gain_is in
    record {
      low = omega (arith, ints, e, own_small.low, own_small.high, best_small.low, best_small.high);
      high = omega (arith, ints, e, own_small.low, own_small.high, best_small.low, best_small.high);
    }

-- the answer that a firm could do better
pub answer_better : (firms : List FirmValue) (trades : List Ends) (on : ℕ) (prices : List ℤ) (f x : ℕ) (gain told : ℤ)
    (bundle : List ℕ)
    → IsFirstBettered (map firm_of firms) trades (pos 1) on (price_at prices) f x gain → told ≡ gain
    → ((value : FirmValue) → slice_get firms f ≡ Some value → bundle ≡ trades_of trades f (firm_of value).count x)
    → ChecksArrangement (map firm_of firms) trades (pos 1) on (price_at prices) (Better f bundle told)
answer_better firms trades on prices f x gain told bundle bettered same bundle_is =
    let there = value_at firms f bettered.firm bettered.is in (
      x,
      subst (λ (z : ℤ). IsFirstBettered (map firm_of firms) trades (pos 1) on (price_at prices) f x z) (sym same)
          bettered,
      bundle_is there.0 there.1 ∙ ap (λ (firm : Firm). trades_of trades f firm.count x) there.2,
    )

-- the firm that could do better is one of the firms
pub bettered_firm : (firms : List FirmValue) (trades : List Ends) (on : ℕ) (prices : List ℤ) (f x : ℕ) (gain : ℤ)
    → IsFirstBettered (map firm_of firms) trades (pos 1) on (price_at prices) f x gain → f < length firms
bettered_firm firms trades on prices f x gain bettered =
    let there = value_at firms f bettered.firm bettered.is in slice_get_within firms f there.0 there.1

-- an equilibrium of a network is efficient and stable
pub implied_by : (firms : List Firm) (trades : List Ends) (on : ℕ) (prices : ℕ → ℤ) → IsNetwork firms trades
    → IsEquilibrium firms trades (pos 1) on prices
    → IsEfficientAndStable firms trades on prices
implied_by firms trades on prices network equilibrium = record {
  efficient = equilibrium_is_efficient firms trades (pos 1) on prices network (omega (arith, ints)) equilibrium;
  stable = equilibrium_is_stable firms trades (pos 1) on prices network equilibrium;
}

-- what is judged to be an equilibrium is efficient and stable
pub judged_implies : (firms : List Firm) (trades : List Ends) (on : ℕ) (prices : ℕ → ℤ) (said : Said)
    → IsNetwork firms trades → ChecksArrangement firms trades (pos 1) on prices said
    → (surplus : ℤ) → said ≡ Equilibrium surplus → IsEfficientAndStable firms trades on prices
judged_implies firms trades on prices said network judges surplus e =
    implied_by firms trades on prices network (subst (ChecksArrangement firms trades (pos 1) on prices) e judges).0

-- and so is an outcome that prices complete
pub completed_lasts : (firms : List Firm) (trades : List Ends) (over : ℤ) (contracts : List Contract) (prices : ℕ → ℤ)
    → IsNetwork firms trades → IsOutcomeOf trades over contracts
    → Completes firms trades over contracts prices → IsLastingOutcome firms trades over contracts
completed_lasts firms trades over contracts prices network outcome completes = record {
  efficient = equilibrium_is_efficient firms trades over (signed (length trades) contracts) prices network outcome.least
      completes.equilibrium;
  stable = completed_is_stable firms trades over contracts prices network
      (outcome_feasible trades over contracts outcome) completes;
}

-- what a valid claim implies
pub claim_implies : (firms : List Firm) (trades : List Ends) (claim : Claim) → IsNetwork firms trades
    → IsClaimWithin firms trades claim → IsValid firms trades claim → ClaimImplies firms trades claim
claim_implies firms trades (on_market (EquilibriumClaim at surplus)) network within valid =
    implied_by firms trades at.on (price_at at.prices) network valid.0
claim_implies firms trades (on_market (SolvedClaim at surplus)) network within valid =
    implied_by firms trades at.on (price_at at.prices) network valid.0
claim_implies firms trades (on_market (SupportedClaim on prices)) network within valid =
    implied_by firms trades on (price_at prices) network valid
claim_implies firms trades (on_market (CompletesClaim outcome prices over)) network within valid =
    completed_lasts firms trades outcome.over outcome.contracts (price_at prices) network (of_outcome outcome within.0)
    (subst (λ (o : ℤ). Completes firms trades o outcome.contracts (price_at prices)) valid.0 valid.1)
  where
    of_outcome : (o : Outcome) → IsOutcomeWithin (length trades) o → IsOutcomeOf trades o.over o.contracts
    of_outcome o within = record { least = within.least; most = within.most; contracts = within.contracts }
claim_implies firms trades (on_market (BetterClaim at f x gain)) network within valid = tt
claim_implies firms trades (on_market (ImpossibleClaim on f)) network within valid = tt
claim_implies firms trades (on_market (CycleClaim on nodes cost)) network within valid = tt
claim_implies firms trades (on_market (DropsClaim outcome f keeps gain over)) network within valid = tt
claim_implies firms trades (on_market (BlocksClaim outcome contracts over)) network within valid = tt
claim_implies firms trades (on_firms AcceptedClaim) network within valid = tt
claim_implies firms trades (on_firms (ExchangeFailsClaim f x y at)) network within valid = tt
claim_implies firms trades (on_firms (NoPricesClaim plan over)) network within valid =
    plans_bar.bars firms trades plan over network (λ k d below. from_zero (get_or plan k d).weight
    (within.1 k d below).1) valid
  where
    from_zero : (weight : ℤ) → IsOverWithin weight → pos 0 ≤ℤ weight
    from_zero weight within = let least = within.least in omega (arith, ints, least)
