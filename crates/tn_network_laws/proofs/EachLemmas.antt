-- What holds of each item of a market holds of each of its firms.
use Rattle.std.proofs.Common.{◌≡◌, ℕ, ◌<◌, ◌≤◌, if◌then◌else◌, sym, ap, ◌∙◌, subst, arith, refl, ℤ, neg_ℤ, ◌+ℤ◌, ◌*ℤ◌, List, length, map, slice_get, Option, Some, None, option_map}
use Rattle.std.proofs.lemmas.Int.{ints}
use Rattle.std.proofs.lemmas.Option.{same_Some, slice_get-map}
use Rattle.tn_base.specs.Arcs.{IsAtMost}
use Rattle.tn_base.specs.Sets.{has}
use Rattle.tn_base.specs.Firm.{Firm, HasOwnBundles, payments}
use Rattle.tn_base.specs.Exchange.{MeetsExchange}
use Rattle.tn_base.proofs.SumLemmas.{sum_over-same_terms}
use Rattle.tn_model.specs.declared.ends.Ends.{Ends}
use Rattle.tn_model.specs.Network.{own, part, IsNetwork}
use Rattle.tn_market.specs.Lawful.{IsLawful}
use Rattle.tn_market.specs.Valued.{IsWorthAtMost, meets_exchange}
use Rattle.tn_market.specs.Equilibrium.{prices_at, utility_at, IsEquilibrium}
use Rattle.tn_network_laws.specs.Laws.{MeetExchange}

-- what holds of each item's firm holds of each firm of the list
pub each_firm : {V : Type 0} (firm_of : V → Firm) (P : Firm → Type 0) (firms : List V) → ((v : V) → P (firm_of v))
    → (f : ℕ) (firm : Firm) → slice_get (map firm_of firms) f ≡ Some firm → P firm
each_firm {V} firm_of P firms each f firm is = by (slice_get firms f) (sym (slice_get-map firm_of firms f) ∙ is)
  where
    by : (o : Option V) → option_map firm_of o ≡ Some firm → P firm
    by None e = absurd (cc e)
    by (Some v) e = subst P (same_Some _ _ e) (each v)

pub meet_all : {V : Type 0} {limit_of : V → ℕ} (firm_of : V → Firm) (firms : List V)
    → ((v : V) → IsLawful (limit_of v) (firm_of v)) → MeetExchange (map firm_of firms)
meet_all firm_of firms lawful = each_firm firm_of (λ z. HasOwnBundles z × MeetsExchange z) firms
    (λ v. ((lawful v).own_bundles, meets_exchange (firm_of v) (lawful v).exchange_one (lawful v).exchange_net))

-- a bound that no item's limit is above bounds the worths of all firms
pub each_within : {V : Type 0} (firm_of : V → Firm) (limit_of : V → ℕ) (items : List V)
    → ((v : V) → IsWorthAtMost (limit_of v) (firm_of v)) → (bound : ℕ)
    → ((f : ℕ) (v : V) → slice_get items f ≡ Some v → limit_of v ≤ bound) → (f : ℕ) (firm : Firm)
    → slice_get (map firm_of items) f ≡ Some firm → IsWorthAtMost bound firm
each_within {V} firm_of limit_of items within bound limited f firm is =
    by (slice_get items f) refl (sym (slice_get-map firm_of items f) ∙ is)
  where
    wider : (limit : ℕ) (a : ℤ) → IsAtMost a limit → limit ≤ bound → IsAtMost a bound
    wider limit a small le =
        let low = small.low in
        let high = small.high in
        record { low = omega (arith, ints, low, high, le); high = omega (arith, ints, low, high, le) }

    by : (o : Option V) → slice_get items f ≡ o → option_map firm_of o ≡ Some firm → IsWorthAtMost bound firm
    by None there e = absurd (cc e)
    by (Some v) there e =
        subst (IsWorthAtMost bound) (same_Some _ _ e) (λ x a x_is. wider (limit_of v) a (within v x a x_is)
        (limited f v there))

-- prices that are the same for every trade make the same equilibrium
pub same_prices : (firms : List Firm) (trades : List Ends) (scale : ℤ) (on : ℕ) (one other : ℕ → ℤ)
    → IsNetwork firms trades → ((t : ℕ) → t < length trades → one t ≡ other t)
    → IsEquilibrium firms trades scale on other → IsEquilibrium firms trades scale on one
same_prices firms trades scale on one other network same equilibrium f firm is =
    let best = equilibrium f firm is in (
      best.0,
      record {
        is = utilities (part trades f firm.count on) ∙ best.1.is;
        most = λ y value value_is. best.1.most y value (sym (utilities y) ∙ value_is);
      },
    )
  where
    utilities : (y : ℕ) → utility_at trades scale one f firm y ≡ utility_at trades scale other f firm y
    utilities y = ap (λ (paid : ℤ). option_map (λ a. scale *ℤ a +ℤ paid) (firm.worth y))
        (sum_over-same_terms (payments firm.buys (prices_at trades one f))
        (payments firm.buys (prices_at trades other f)) y firm.count
        (λ k below _. ap (λ (p : ℤ). if has firm.buys k then neg_ℤ p
        else p) (same (own trades f k) (network.whole f k firm is below))))
