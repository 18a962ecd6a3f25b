-- The contracts of the trades of a set at their prices.
use Rattle.std.proofs.Common.{◌≡◌, ℕ, zero, suc, ◌<◌, ℤ, pos, Bool, true, false, List, [], ◌∷◌, ◌++◌, length, map, inl, inr, refl, sym, ap, subst, ◌∙◌, arith}
use Rattle.std.specs.Prelude.{All, Contains, Some, option_map, slice_get, if◌then◌else◌}
use Rattle.std.specs.List.Sorted.{IsStrictlyIncreasing}
use Rattle.std.proofs.lemmas.List.{map-append}
use Rattle.std.proofs.lemmas.Bool.{cases_eq}
use Rattle.std.proofs.lemmas.List.Elements.{All-nil, All-cons, All-append, Contains-append_left, Contains-append_right, Contains-get_or}
use Rattle.std.proofs.lemmas.List.Kept.{AllPairs-from_increasing}
use Rattle.std.proofs.lemmas.Option.{get_or_from_slice_get, slice_get-map, slice_get_within}
use Rattle.tn_base.specs.Arcs.{IsAtMost}
use Rattle.tn_base.specs.Sets.{has}
use Rattle.tn_model.specs.declared.contract.Contract.{Contract}
use Rattle.tn_model.specs.Prices.{price_at}
use Rattle.tn_model.specs.Choices.{contracts_of}
use Rattle.tn_model.specs.Network.{trades_on}
use Rattle.tn_model.specs.OutcomeLimits.{AreContractsWithin}
use Rattle.tn_model.proofs.NetworkLemmas.{on_ascends}

module _ (on : ℕ) (prices : ℕ → ℤ) where
  abbrev contract_at : ℕ → Contract
  contract_at t = record { trade = t; price = prices t }

  -- they are contracts on these trades
  pub contract_trades : (n : ℕ) → map (λ (contract : Contract). contract.trade) (contracts_of on prices n)
      ≡ trades_on on n
  contract_trades zero = refl
  contract_trades (suc n) = map-append (λ (contract : Contract). contract.trade) (contracts_of on prices n) (if has on n
      then contract_at n ∷ [] else []) ∙ by_test (has on n) (contract_trades n)
    where
      by_test : {earlier ts : List ℕ} (b : Bool) → earlier ≡ ts
          → earlier ++ map (λ (contract : Contract). contract.trade) (if b then contract_at n ∷ [] else []) ≡ ts
          ++ (if b then n ∷ [] else [])
      by_test true e = ap (λ (list : List ℕ). list ++ n ∷ []) e
      by_test false e = ap (λ (list : List ℕ). list ++ []) e

  -- what holds of the contract on each trade of the set holds of them
  pub contracts_are : (P : Contract → Type 0) (n : ℕ) → ((t : ℕ) → t < n → has on t ≡ true → P (contract_at t))
      → All P (contracts_of on prices n)
  contracts_are P zero each = All-nil P
  contracts_are P (suc n) each = All-append P (contracts_of on prices n) (if has on n then contract_at n ∷ []
      else []) (contracts_are P n (λ t below there. each t (omega (arith, below)) there)) (last (has on n) refl)
    where
      last : (b : Bool) → has on n ≡ b → All P (if b then contract_at n ∷ [] else [])
      last true there = All-cons P (contract_at n) [] (each n (omega arith) there) (All-nil P)
      last false there = All-nil P

  -- and there is one on each
  pub contracts_have : (n t : ℕ) → t < n → has on t ≡ true → Contains (contracts_of on prices n) (contract_at t)
  contracts_have zero t below there = absurd (omega (arith, below))
  contracts_have (suc n) t below there = elim (cases_eq t n) [
    | inl e ↦
        Contains-append_right (contracts_of on prices n) (if has on n then contract_at n ∷ [] else []) (contract_at t)
        (subst (λ (m : ℕ). Contains (if has on m then contract_at m ∷ [] else []) (contract_at t)) e
        (subst (λ (b : Bool). Contains (if b then contract_at t ∷ [] else []) (contract_at t)) (sym there)
        (Contains-get_or (contract_at t ∷ []) 0 (contract_at t) (omega arith))))
    | inr other ↦
        Contains-append_left (contracts_of on prices n) (if has on n then contract_at n ∷ []
        else []) (contract_at t) (contracts_have n t (omega (arith, below, other)) there)
  ]

-- they ascend by trade
pub contracts_increase : (on : ℕ) (prices : ℕ → ℤ) (n : ℕ)
    → IsStrictlyIncreasing (map (λ (contract : Contract). contract.trade) (contracts_of on prices n))
contracts_increase on prices n = subst IsStrictlyIncreasing (sym (contract_trades on prices n)) (on_ascends on n)

-- with prices within a limit they keep it
pub contracts_within : (on : ℕ) (prices : List ℤ) (n limit : ℕ) → length prices ≡ n → All (λ z. IsAtMost z limit) prices
    → AreContractsWithin n limit (contracts_of on (price_at prices) n)
contracts_within on prices n limit count small = record {
  known = contracts_are on (price_at prices) (λ contract. contract.trade < n) n (λ t below there. below);
  ascending = contracts_increase on (price_at prices) n;
  small = contracts_are on (price_at prices) (λ contract. IsAtMost contract.price limit) n
      (λ t below there. small t (pos 0) (omega (arith, count, below)));
}

-- where contracts ascend, a later one is on a later trade
pub contracts_ascend : (contracts : List Contract)
    → IsStrictlyIncreasing (map (λ (contract : Contract). contract.trade) contracts)
    → (j k : ℕ) (one other : Contract) → j < k → slice_get contracts j ≡ Some one → slice_get contracts k ≡ Some other
    → one.trade < other.trade
contracts_ascend contracts up j k one other before one_is other_is =
    let trades = map (λ (contract : Contract). contract.trade) contracts in
    let first = slice_get-map (λ (contract : Contract). contract.trade) contracts j
    ∙ ap (option_map (λ (contract : Contract). contract.trade)) one_is in
    let second = slice_get-map (λ (contract : Contract). contract.trade) contracts k
    ∙ ap (option_map (λ (contract : Contract). contract.trade)) other_is in
    let here = get_or_from_slice_get trades j one.trade 0 first in
    let there = get_or_from_slice_get trades k other.trade 0 second in
    let less = AllPairs-from_increasing trades up j k 0 before (slice_get_within trades k other.trade second) in
    omega (arith, here, there, less)
