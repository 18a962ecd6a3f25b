-- A firm that keeps a bundle of its contracts: the first trade without one, and what the firm gains.
use Rattle.std.proofs.Common.{◌≡◌, ℕ, ◌^◌, ◌<◌, Bool, true, false, ◌&&◌, not, List, length, map, slice_get, Option, Some, None, option_map, refl, sym, ap, ◌∙◌, subst, arith, inl, inr, ℤ, ◌+ℤ◌, ◌-ℤ◌, ◌*ℤ◌}
use Rattle.std.proofs.lemmas.Bool.{cases_lt, and_parts}
use Rattle.std.proofs.lemmas.Option.{same_Some, slice_get_cases, slice_get-map}
use Rattle.tn_base.specs.Sets.{has, sum_over}
use Rattle.tn_base.specs.Firm.{Firm, payments}
use Rattle.tn_base.proofs.SetLemmas.{has_below}
use Rattle.tn_said.specs.Claim.{on_market}
use Rattle.tn_said.specs.declared.claim.MarketClaim.TheVariants.{Drops}
use Rattle.tn_model.specs.declared.contract.Contract.{Contract}
use Rattle.tn_model.specs.declared.contract.Outcome.{Outcome}
use Rattle.tn_model.specs.declared.ends.Ends.{Ends}
use Rattle.tn_market.specs.Equilibrium.{prices_at}
use Rattle.tn_model.specs.Network.{own}
use Rattle.tn_market.specs.Signed.{is_signed, signed_price, signed_bundle, contract_utility}
use Rattle.tn_market.proofs.AskLemmas.{possible_worth, impossible_worth}
use Rattle.tn_cert.specs.declared.replayed.Replayed.{Replayed}
use Rattle.tn_cert.specs.declared.replayed.Replayed.TheVariants.{Valid, Invalid}
use Rattle.tn_cert.specs.Claims.{AreSigned, GainsByKeeping}
use Rattle.tn_cert.specs.Reasons.{Refutes}
use Rattle.tn_cert.specs.Replays.{Replays}
use Rattle.tn_cert.specs.Outcomes.{FindsUnsigned, DecidesGain}
use Rattle.tn_cert.proofs.LeastLemmas.{FindsLeast}

-- ---- the first trade without a contract

-- whether a position is kept without a contract
abbrev pub is_open : List Ends → List Contract → ℕ → ℕ → ℕ → Bool
is_open trades contracts f keeps k = has keeps k && not (is_signed contracts (own trades f k))

abbrev pub FindsOpen : ℕ → List Ends → List Contract → ℕ → ℕ → Option ℕ → Type 0
FindsOpen n trades contracts f keeps found =
    FindsLeast n (own trades f) (λ k. is_open trades contracts f keeps k ≡ true)
    (λ k. is_open trades contracts f keeps k ≡ false) found

not_open : (s : Bool) → (true && not s) ≡ false → s ≡ true
not_open true e = refl
not_open false e = absurd (cc e)

is_not : (s : Bool) → not s ≡ true → s ≡ false
is_not true e = absurd (cc e)
is_not false e = refl

closed : (trades : List Ends) (contracts : List Contract) (f keeps k : ℕ) → has keeps k ≡ true
    → is_open trades contracts f keeps k ≡ false → is_signed contracts (own trades f k) ≡ true
closed trades contracts f keeps k member passes =
    not_open (is_signed contracts (own trades f k)) (sym
    (ap (λ (b : Bool). b && not (is_signed contracts (own trades f k))) member) ∙ passes)

pub finds_unsigned : (trades : List Ends) (outcome : Outcome) (f keeps n : ℕ) (found : Option ℕ) → keeps < 2 ^ n
    → FindsOpen n trades outcome.contracts f keeps found
    → FindsUnsigned trades outcome f keeps found
finds_unsigned trades outcome f keeps n None within finds = λ k member.
    closed trades outcome.contracts f keeps k member (finds k (has_below keeps n k within member))
finds_unsigned trades outcome f keeps n (Some t) within finds =
    let parts = and_parts (has keeps finds.at) (not (is_signed outcome.contracts (own trades f finds.at))) finds.fails
    in
    record {
      at = finds.at;
      member = parts.0;
      is = finds.is;
      unsigned = ap (is_signed outcome.contracts) (sym finds.is)
          ∙ is_not (is_signed outcome.contracts (own trades f finds.at)) parts.1;
      first = λ k member unsigned. elim (cases_lt (own trades f k) t) [
        | inl less ↦
            absurd (let yes =
            closed trades outcome.contracts f keeps k member (finds.first k (has_below keeps n k within member)
            less) in cc (yes, unsigned))
        | inr more ↦ more
      ];
    }

-- ---- the gain

pub impossible_utility : (trades : List Ends) (over : ℤ) (contracts : List Contract) (f : ℕ) (firm : Firm) (x : ℕ)
    → contract_utility trades over contracts f firm x ≡ None → firm.worth x ≡ None
impossible_utility trades over contracts f firm x is =
    impossible_worth (λ w. over *ℤ w +ℤ sum_over (payments firm.buys (prices_at trades (signed_price contracts) f))
    firm.count x) (firm.worth x) is

gains_by_keeping : (trades : List Ends) (outcome : Outcome) (f : ℕ) (firm : Firm) (keeps : ℕ) (value : ℤ)
    (other : Option ℤ)
    → contract_utility trades outcome.over outcome.contracts f firm keeps ≡ Some value
    → contract_utility trades outcome.over outcome.contracts f firm (signed_bundle trades outcome.contracts f firm)
    ≡ other
    → GainsByKeeping trades outcome f firm keeps (option_map (λ z. value -ℤ z) other)
gains_by_keeping trades outcome f firm keeps value None is none = (
  possible_worth (λ w. outcome.over *ℤ w
      +ℤ sum_over (payments firm.buys (prices_at trades (signed_price outcome.contracts) f)) firm.count keeps)
      (firm.worth keeps) value is,
  impossible_utility trades outcome.over outcome.contracts f firm (signed_bundle trades outcome.contracts f firm) none,
)
gains_by_keeping trades outcome f firm keeps value (Some z) is other_is =
    record { value = value; value_is = is; other = z; other_is = other_is; gain_is = refl }

-- what is told of the claimed gain decides the claim, once the denominator is the outcome's and all that is kept has
-- contracts
pub drops_decided : (firms : List Firm) (trades : List Ends) (outcome : Outcome) (f : ℕ) (firm : Firm) (keeps : ℕ)
    (claimed : Option ℤ) (over value : ℤ) (other : Option ℤ) (replayed : Replayed)
    → slice_get firms f ≡ Some firm → over ≡ outcome.over → AreSigned trades outcome f keeps
    → contract_utility trades outcome.over outcome.contracts f firm keeps ≡ Some value
    → contract_utility trades outcome.over outcome.contracts f firm (signed_bundle trades outcome.contracts f firm)
    ≡ other
    → DecidesGain f (option_map (λ z. value -ℤ z) other) claimed replayed
    → Replays firms trades (on_market (Drops outcome f keeps claimed over)) replayed
drops_decided firms trades outcome f firm keeps claimed over value other Valid is over_is signed value_is other_is
    tells =
    subst (λ (o : Option ℤ). Replays firms trades (on_market (Drops outcome f keeps o over)) Valid) tells.0
    (over_is, signed, (firm, is, gains_by_keeping trades outcome f firm keeps value other value_is other_is), tells.1)
drops_decided firms trades outcome f firm keeps claimed over value other (Invalid reason) is over_is signed value_is
    other_is tells =
    subst (Refutes firms trades (on_market (Drops outcome f keeps claimed over))) (sym tells.0) (
      over_is,
      signed,
      refl,
      (firm, is, gains_by_keeping trades outcome f firm keeps value other value_is other_is),
      tells.1,
    )

-- ---- a firm of a market

pub listed : {V : Type 0} (firm_of : V → Firm) (firms : List V) (f : ℕ) (v : V) → slice_get firms f ≡ Some v
    → slice_get (map firm_of firms) f ≡ Some (firm_of v)
listed firm_of firms f v is = slice_get-map firm_of firms f ∙ ap (option_map firm_of) is

pub firm_at : {V : Type 0} (firms : List V) (f : ℕ) → f < length firms → (v : V) × (slice_get firms f ≡ Some v)
firm_at firms f inside = elim (slice_get_cases firms f).1 [
  | inr past ↦ absurd (let above = past.0 in omega (arith, above, inside))
  | inl item ↦ (item.0, item.2)
]

-- what holds of the firm at a place holds of the firm that the definitions see there
pub for_firm : {V : Type 0} (firm_of : V → Firm) (firms : List V) (f : ℕ) (P : Firm → Type 0)
    → ((v : V) → slice_get firms f ≡ Some v → P (firm_of v))
    → (firm : Firm) → slice_get (map firm_of firms) f ≡ Some firm → P firm
for_firm firm_of firms f P each firm is = elim (slice_get_cases firms f).1 [
  | inr past ↦ absurd (let none = sym is ∙ slice_get-map firm_of firms f ∙ ap (option_map firm_of) past.1 in cc none)
  | inl item ↦
      subst P (same_Some (firm_of item.0) firm (sym (listed firm_of firms f item.0 item.2) ∙ is)) (each item.0 item.2)
]
