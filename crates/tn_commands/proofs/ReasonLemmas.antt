-- The numbers of a reason against a claim fit an answer.
use Rattle.std.proofs.Common.{◌≡◌, ℕ, ◌+◌, ◌*◌, ◌^◌, ◌<◌, ◌≤◌, ℤ, pos, ◌+ℤ◌, ◌*ℤ◌, List, [], ◌∷◌, length, map, subst, arith}
use Rattle.std.specs.Prelude.{Some, None, slice_get}
use Rattle.std.proofs.lemmas.Int.{ints}
use Rattle.std.proofs.lemmas.List.{length-map}
use Rattle.tn_base.specs.Arcs.{IsAtMost}
use Rattle.tn_base.specs.Firm.{Firm, payments, utility}
use Rattle.tn_base.specs.Sets.{sum_over}
use Rattle.tn_answer.specs.ReasonText.{IsReasonWithin}
use Rattle.tn_cert.specs.Claims.{Gains, GoesRound, node_of}
use Rattle.tn_cert.specs.Reasons.{Refutes}
use Rattle.tn_chain.proofs.MoveLemmas.{price_small as signed_price_small}
use Rattle.tn_cycle.proofs.WalkLemmas.{walk_small}
use Rattle.tn_firm.specs.declared.value.FirmValue.{FirmValue}
use Rattle.tn_firm.specs.Firms.{firm_of}
use Rattle.tn_firm.specs.FirmLemmas.{firm_few}
use Rattle.tn_firm_laws.proofs.BoundLemmas.{times_small, sum_over_small}
use Rattle.tn_firm_laws.proofs.KeepLemmas.{option_map-some}
use Rattle.tn_said.specs.Claim.{Claim, on_market, on_firms}
use Rattle.tn_said.specs.declared.claim.MarketClaim.TheVariants.{Equilibrium, Better, Impossible, Supported, Cycle, Solved, Drops, Completes, Blocks}
use Rattle.tn_said.specs.declared.claim.FirmClaim.TheVariants.{Accepted, ExchangeFails, NoPrices}
use Rattle.tn_model.specs.declared.contract.Outcome.{Outcome}
use Rattle.tn_model.specs.declared.ends.Ends.{Ends}
use Rattle.tn_said.specs.declared.reason.Reason.{Reason}
use Rattle.tn_said.specs.declared.reason.Reason.TheVariants.{Impossible as ImpossibleIs, Better as BetterIs, Possible, Surplus, Gain, Exchange, Holds, Arc, Cost, Contract, Over, Price, Empty, Signed, Choice, Shares, Balance, Whole}
use Rattle.tn_model.specs.Prices.{price_at}
use Rattle.tn_said.specs.ClaimLimits.{IsClaimWithin}
use Rattle.tn_market.specs.Graph.{exchange_arc}
use Rattle.tn_market.specs.Equilibrium.{surplus_of}
use Rattle.tn_model.specs.Network.{IsNetwork, own, part}
use Rattle.tn_model.specs.OutcomeLimits.{IsOutcomeWithin}
use Rattle.tn_market.specs.Signed.{signed_price, signed_bundle}
use Rattle.tn_market.specs.Valued.{IsWorthAtMost}
use Rattle.tn_market.proofs.AskLemmas.{payment_small}
use Rattle.tn_network_laws.proofs.SupportLemmas.{arcs_small}
use Rattle.tn_commands.proofs.CheckLemmas.{value_at, price_small, surplus_fits}
use Rattle.tn_market.specs.Widths.{most_market_firms, most_own, most_worth}
use Rattle.tn_model.specs.Limits.{most_nodes, most_number, most_over, most_price}
use Rattle.tn_commands.proofs.SupportedLemmas.{small_firms}

-- the utility of a bundle at the scale of an outcome and small prices
scaled_utility_small : (firm : Firm) (scale : ℤ) (prices : ℕ → ℤ) (x : ℕ) (value : ℤ) → firm.count ≤ most_own
    → IsWorthAtMost most_worth firm → IsAtMost scale most_over → ((k : ℕ) → IsAtMost (prices k) most_price)
    → utility scale prices firm x ≡ Some value → IsAtMost value (10 ^ 16)
scaled_utility_small firm scale prices x value few worths low_scale small is =
    let worth = option_map-some (λ a. scale *ℤ a +ℤ sum_over (payments firm.buys prices) firm.count x) (firm.worth x)
    value is in
    let scaled = times_small scale worth.0 most_over most_worth low_scale (worths x worth.0 worth.1) in
    let paid = sum_over_small (payments firm.buys prices) firm.count x most_price
    (λ k below. payment_small firm.buys prices k most_price (small k)) in
    let total = worth.2 in
    record {
      low = omega (arith, ints, total, few, scaled.low, paid.low);
      high = omega (arith, ints, total, few, scaled.high, paid.high);
    }

-- what a firm gains by one bundle in place of another
gains_small : (firms : List FirmValue) (trades : List Ends) (scale : ℤ) (prices : ℕ
    → ℤ) (f : ℕ) (firm : Firm) (x y : ℕ) (gain : ℤ) → slice_get (map firm_of firms) f ≡ Some firm
    → IsAtMost scale most_over
    → ((t : ℕ) → IsAtMost (prices t) most_price) → Gains trades scale prices f firm x y gain → IsAtMost gain most_number
gains_small firms trades scale prices f firm x y gain is low_scale small gains =
    let there = value_at firms f firm is in
    let few : firm.count ≤ most_own = subst (λ (g : Firm). g.count ≤ most_own) there.2 (firm_few there.0) in
    let worths = small_firms firms f firm is in
    let with_x =
    scaled_utility_small firm scale (λ k. prices (own trades f k)) x gains.value few worths low_scale
    (λ k. small (own trades f k)) gains.value_is in
    let with_y =
    scaled_utility_small firm scale (λ k. prices (own trades f k)) y gains.other few worths low_scale
    (λ k. small (own trades f k)) gains.other_is in
    let e = gains.gain_is in
    record {
      low = omega (arith, ints, e, with_x.low, with_y.high);
      high = omega (arith, ints, e, with_x.high, with_y.low);
    }

one_small : IsAtMost (pos 1) most_over
one_small = record { low = omega (arith, ints); high = omega (arith, ints) }

over_small : (trades : ℕ) (outcome : Outcome) → IsOutcomeWithin trades outcome → IsAtMost outcome.over most_over
over_small trades outcome within = let least = within.least in let most = within.most in
    record { low = omega (arith, ints, least); high = omega (arith, ints, most) }

-- the prices of an outcome's contracts
signed_small : (trades : ℕ) (outcome : Outcome) → IsOutcomeWithin trades outcome → (t : ℕ)
    → IsAtMost (signed_price outcome.contracts t) most_price
signed_small trades outcome within t =
    let small = signed_price_small outcome.contracts within.contracts.small t in
    let low = small.low in
    let high = small.high in
    record { low = omega (arith, ints, low); high = omega (arith, ints, high) }

-- the cost of as many arcs as there are nodes
round_small : (firms : List FirmValue) (trades : List Ends) (on : ℕ) (nodes : List ℕ) (cost : ℤ)
    → IsNetwork (map firm_of firms) trades → length nodes ≤ most_nodes
    → GoesRound (exchange_arc (map firm_of firms) trades on) nodes cost
    → IsAtMost cost most_number
round_small firms trades on [] cost network few around = absurd around
round_small firms trades on (first ∷ rest) cost network few around =
    let walk = walk_small (exchange_arc (map firm_of firms) trades on) (2 * most_worth)
    (arcs_small (map firm_of firms) trades network most_worth on (small_firms firms)) first rest first cost around
    in
    wider (length rest) (omega (arith, few)) walk
  where
    wider : (n : ℕ) → n + 1 ≤ most_nodes → IsAtMost cost ((n + 1) * (2 * most_worth)) → IsAtMost cost most_number
    wider n few small = let low = small.low in let high = small.high in
        record { low = omega (arith, ints, few, low, high); high = omega (arith, ints, few, low, high) }

-- the surplus of a set of trades
set_small : (firms : List FirmValue) (trades : List Ends) (on : ℕ) (told : ℤ) → length firms ≤ most_market_firms
    → surplus_of (map firm_of firms) trades on ≡ Some told → IsAtMost told most_number
set_small firms trades on told few is = let small = surplus_fits firms trades on told few is in let low = small.low in
    let high = small.high in record { low = omega (arith, ints, low); high = omega (arith, ints, high) }

-- the reason that a surplus is another one
surplus_small : (firms : List FirmValue) (trades : List Ends) (claim : Claim) (told : ℤ)
    → length firms ≤ most_market_firms → Refutes (map firm_of firms) trades claim (Surplus told)
    → IsAtMost told most_number
surplus_small firms trades claim told few refutes = by claim refutes
  where
    by : (c : Claim) → Refutes (map firm_of firms) trades c (Surplus told) → IsAtMost told most_number
    by (on_market (Equilibrium at surplus)) refutes = set_small firms trades at.on told few refutes.1
    by (on_market (Solved at surplus)) refutes = set_small firms trades at.on told few refutes.1
    by (on_market (Supported on prices)) refutes = absurd refutes
    by (on_market (Better at f x gain)) refutes = absurd refutes
    by (on_market (Impossible on f)) refutes = absurd refutes
    by (on_market (Cycle on nodes cost)) refutes = absurd refutes
    by (on_market (Drops outcome f keeps gain over)) refutes = absurd refutes
    by (on_market (Completes outcome prices over)) refutes = absurd refutes.2
    by (on_market (Blocks outcome contracts over)) refutes = absurd refutes
    by (on_firms Accepted) refutes = absurd refutes
    by (on_firms (ExchangeFails f x y at)) refutes = absurd refutes
    by (on_firms (NoPrices plan over)) refutes = absurd refutes

-- the reason that a set of trades is worth as much as a plan
whole_small : (firms : List FirmValue) (trades : List Ends) (claim : Claim) (listed : List ℕ) (told : ℤ)
    → length firms ≤ most_market_firms → Refutes (map firm_of firms) trades claim (Whole listed told)
    → IsAtMost told most_number
whole_small firms trades claim listed told few refutes = by claim refutes
  where
    by : (c : Claim) → Refutes (map firm_of firms) trades c (Whole listed told) → IsAtMost told most_number
    by (on_firms (NoPrices plan over)) refutes = let whole = refutes.3 in set_small firms trades whole.on told few whole.surplus_is
    by (on_market (Equilibrium at surplus)) refutes = absurd refutes
    by (on_market (Solved at surplus)) refutes = absurd refutes
    by (on_market (Supported on prices)) refutes = absurd refutes
    by (on_market (Better at f x gain)) refutes = absurd refutes
    by (on_market (Impossible on f)) refutes = absurd refutes
    by (on_market (Cycle on nodes cost)) refutes = absurd refutes
    by (on_market (Drops outcome f keeps gain over)) refutes = absurd refutes
    by (on_market (Completes outcome prices over)) refutes = absurd refutes.2
    by (on_market (Blocks outcome contracts over)) refutes = absurd refutes
    by (on_firms Accepted) refutes = absurd refutes
    by (on_firms (ExchangeFails f x y at)) refutes = absurd refutes

-- the reason that a gain is another one
gain_small : (firms : List FirmValue) (trades : List Ends) (claim : Claim) (g : ℕ) (told : ℤ)
    → IsClaimWithin (map firm_of firms) trades claim → Refutes (map firm_of firms) trades claim (Gain g (Some told))
    → IsAtMost told most_number
gain_small firms trades claim g told within refutes = by claim within refutes
  where
    by : (c : Claim) → IsClaimWithin (map firm_of firms) trades c
        → Refutes (map firm_of firms) trades c (Gain g (Some told)) → IsAtMost told most_number
    by (on_market (Better at f x gain)) within refutes =
        gains_small firms trades (pos 1) (price_at at.prices) f refutes.1.0 x (part trades f refutes.1.0.count at.on)
        told refutes.1.1 one_small (λ t. price_small at.prices t most_price within.1.small) refutes.1.2
    by (on_market (Drops outcome f keeps gain over)) within refutes =
        gains_small firms trades outcome.over (signed_price outcome.contracts) f refutes.3.0 keeps
        (signed_bundle trades outcome.contracts f refutes.3.0) told refutes.3.1
        (over_small (length trades) outcome within.0) (signed_small (length trades) outcome within.0) refutes.3.2
    by (on_market (Equilibrium at surplus)) within refutes = absurd refutes
    by (on_market (Solved at surplus)) within refutes = absurd refutes
    by (on_market (Supported on prices)) within refutes = absurd refutes
    by (on_market (Impossible on f)) within refutes = absurd refutes
    by (on_market (Cycle on nodes cost)) within refutes = absurd refutes
    by (on_market (Completes outcome prices over)) within refutes = absurd refutes.2
    by (on_market (Blocks outcome contracts over)) within refutes = absurd refutes
    by (on_firms Accepted) within refutes = absurd refutes
    by (on_firms (ExchangeFails f x y at)) within refutes = absurd refutes
    by (on_firms (NoPrices plan over)) within refutes = absurd refutes

-- the reason that a node has no arc to the next one
arc_small : (firms : List Firm) (trades : List Ends) (claim : Claim) (index : ℕ) → IsClaimWithin firms trades claim
    → Refutes firms trades claim (Arc index) → index < 2 ^ 32
arc_small firms trades claim index within refutes = by claim within refutes
  where
    by : (c : Claim) → IsClaimWithin firms trades c → Refutes firms trades c (Arc index) → index < 2 ^ 32
    by (on_market (Cycle on nodes cost)) within refutes =
        let below = refutes.1.within in
        let same : length (map (node_of (length trades)) nodes) ≡ length nodes =
        length-map nodes (node_of (length trades)) in
        let few = within.1.most in
        omega (arith, below, same, few)
    by (on_market (Equilibrium at surplus)) within refutes = absurd refutes
    by (on_market (Solved at surplus)) within refutes = absurd refutes
    by (on_market (Supported on prices)) within refutes = absurd refutes
    by (on_market (Better at f x gain)) within refutes = absurd refutes
    by (on_market (Impossible on f)) within refutes = absurd refutes
    by (on_market (Drops outcome f keeps gain over)) within refutes = absurd refutes
    by (on_market (Completes outcome prices over)) within refutes = absurd refutes.2
    by (on_market (Blocks outcome contracts over)) within refutes = absurd refutes
    by (on_firms Accepted) within refutes = absurd refutes
    by (on_firms (ExchangeFails f x y at)) within refutes = absurd refutes
    by (on_firms (NoPrices plan over)) within refutes = absurd refutes

-- the reason that a cost is another one
cost_small : (firms : List FirmValue) (trades : List Ends) (claim : Claim) (told : ℤ)
    → IsNetwork (map firm_of firms) trades → IsClaimWithin (map firm_of firms) trades claim
    → Refutes (map firm_of firms) trades claim (Cost told) → IsAtMost told most_number
cost_small firms trades claim told network within refutes = by claim within refutes
  where
    by : (c : Claim) → IsClaimWithin (map firm_of firms) trades c → Refutes (map firm_of firms) trades c (Cost told)
        → IsAtMost told most_number
    by (on_market (Cycle on nodes cost)) within refutes =
        let same : length (map (node_of (length trades)) nodes) ≡ length nodes =
        length-map nodes (node_of (length trades)) in
        let few = within.1.most in
        round_small firms trades on (map (node_of (length trades)) nodes) told network (omega (arith, same, few))
        refutes.1
    by (on_market (Equilibrium at surplus)) within refutes = absurd refutes
    by (on_market (Solved at surplus)) within refutes = absurd refutes
    by (on_market (Supported on prices)) within refutes = absurd refutes
    by (on_market (Better at f x gain)) within refutes = absurd refutes
    by (on_market (Impossible on f)) within refutes = absurd refutes
    by (on_market (Drops outcome f keeps gain over)) within refutes = absurd refutes
    by (on_market (Completes outcome prices over)) within refutes = absurd refutes.2
    by (on_market (Blocks outcome contracts over)) within refutes = absurd refutes
    by (on_firms Accepted) within refutes = absurd refutes
    by (on_firms (ExchangeFails f x y at)) within refutes = absurd refutes
    by (on_firms (NoPrices plan over)) within refutes = absurd refutes

-- the reason that a denominator is another one
told_over_small : (firms : List Firm) (trades : List Ends) (claim : Claim) (told : ℤ) → IsClaimWithin firms trades claim
    → Refutes firms trades claim (Over told) → IsAtMost told most_number
told_over_small firms trades claim told within refutes = by claim within refutes
  where
    fits : (outcome : Outcome) → IsOutcomeWithin (length trades) outcome → told ≡ outcome.over
        → IsAtMost told most_number
    fits outcome within e = let least = within.least in let most = within.most in
        record { low = omega (arith, ints, least, e); high = omega (arith, ints, most, e) }

    by : (c : Claim) → IsClaimWithin firms trades c → Refutes firms trades c (Over told) → IsAtMost told most_number
    by (on_market (Drops outcome f keeps gain over)) within refutes = fits outcome within.0 refutes.0
    by (on_market (Completes outcome prices over)) within refutes = fits outcome within.0 refutes.0
    by (on_market (Equilibrium at surplus)) within refutes = absurd refutes
    by (on_market (Solved at surplus)) within refutes = absurd refutes
    by (on_market (Supported on prices)) within refutes = absurd refutes
    by (on_market (Better at f x gain)) within refutes = absurd refutes
    by (on_market (Impossible on f)) within refutes = absurd refutes
    by (on_market (Cycle on nodes cost)) within refutes = absurd refutes
    by (on_market (Blocks outcome contracts over)) within refutes = absurd refutes
    by (on_firms Accepted) within refutes = absurd refutes
    by (on_firms (ExchangeFails f x y at)) within refutes = absurd refutes
    by (on_firms (NoPrices plan over)) within refutes = absurd refutes

-- the numbers of the reason against a claim within the limits
pub reason_small : (firms : List FirmValue) (trades : List Ends) (claim : Claim) (reason : Reason)
    → length firms ≤ most_market_firms → IsNetwork (map firm_of firms) trades
    → IsClaimWithin (map firm_of firms) trades claim
    → Refutes (map firm_of firms) trades claim reason → IsReasonWithin reason
reason_small firms trades claim (Surplus told) few network within refutes =
    surplus_small firms trades claim told few refutes
reason_small firms trades claim (Gain g (Some told)) few network within refutes =
    gain_small firms trades claim g told within refutes
reason_small firms trades claim (Gain g None) few network within refutes = tt
reason_small firms trades claim (Arc index) few network within refutes =
    arc_small (map firm_of firms) trades claim index within refutes
reason_small firms trades claim (Cost told) few network within refutes =
    cost_small firms trades claim told network within refutes
reason_small firms trades claim (Over told) few network within refutes =
    told_over_small (map firm_of firms) trades claim told within refutes
reason_small firms trades claim (ImpossibleIs f) few network within refutes = tt
reason_small firms trades claim (BetterIs f bundle) few network within refutes = tt
reason_small firms trades claim (Possible f) few network within refutes = tt
reason_small firms trades claim (Exchange f x y at) few network within refutes = tt
reason_small firms trades claim Holds few network within refutes = tt
reason_small firms trades claim (Contract t) few network within refutes = tt
reason_small firms trades claim (Price t) few network within refutes = tt
reason_small firms trades claim Empty few network within refutes = tt
reason_small firms trades claim (Signed t) few network within refutes = tt
reason_small firms trades claim (Choice f t) few network within refutes = tt
reason_small firms trades claim (Shares f) few network within refutes = tt
reason_small firms trades claim (Balance t) few network within refutes = tt
reason_small firms trades claim (Whole listed told) few network within refutes =
    whole_small firms trades claim listed told few refutes
