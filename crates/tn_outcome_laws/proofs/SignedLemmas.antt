-- The trades and prices of contracts of which no two are on one trade.
use Rattle.std.proofs.Common.{◌≡◌, ℕ, zero, suc, ◌<◌, Bool, true, false, ◌==◌, ◌&&◌, if◌then◌else◌, List, [], ◌∷◌, length, slice_get, Some, refl, sym, ap, ◌∙◌, arith, inl, inr, ℤ, pos}
use Rattle.std.proofs.lemmas.Bool.{cases_Bool, eqb-true, eq-eqb, or_cases, or_parts, or_left, or_right, lt-ltb}
use Rattle.std.proofs.lemmas.Option.{same_Some}
use Rattle.tn_base.specs.Sets.{has}
use Rattle.tn_base.specs.Firm.{Firm}
use Rattle.tn_base.proofs.SetLemmas.{has-set_of}
use Rattle.tn_model.specs.declared.ends.Ends.{Ends}
use Rattle.tn_model.specs.declared.contract.Contract.{Contract}
use Rattle.tn_model.specs.Network.{own, IsNetwork}
use Rattle.tn_model.specs.Choices.{IsFeasible}
use Rattle.tn_market.specs.Signed.{is_signed, signed, signed_price, signed_bundle}
use Rattle.tn_market.proofs.GraphLemmas.{has-part}

-- a contract on a trade
pub record IsContractOn (contracts : List Contract) (t : ℕ) : Type 0 where
  pub place : ℕ
  pub contract : Contract
  pub is : slice_get contracts place ≡ Some contract
  pub trade : contract.trade ≡ t

-- a signed trade has one
pub contract_on : (contracts : List Contract) (t : ℕ) → is_signed contracts t ≡ true → IsContractOn contracts t
contract_on [] t e = absurd (cc e)
contract_on (contract ∷ contracts) t e = elim (or_cases (contract.trade == t) (is_signed contracts t) e) [
  | inl here ↦ record { place = 0; contract = contract; is = refl; trade = eqb-true contract.trade t here }
  | inr there ↦ let found = contract_on contracts t there in
      record { place = suc found.place; contract = found.contract; is = found.is; trade = found.trade }
]

-- and a trade that has one is signed
pub signed_by : (contracts : List Contract) (k t : ℕ) (contract : Contract) → slice_get contracts k ≡ Some contract
    → contract.trade ≡ t → is_signed contracts t ≡ true
signed_by [] k t contract is trade = absurd (cc is)
signed_by (first ∷ contracts) zero t contract is trade =
    or_left (first.trade == t) (is_signed contracts t) (eq-eqb first.trade t
    (ap (λ (c : Contract). c.trade) (same_Some first contract is) ∙ trade))
signed_by (first ∷ contracts) (suc k) t contract is trade =
    or_right (first.trade == t) (is_signed contracts t) (signed_by contracts k t contract is trade)

-- where no two contracts are on one trade, the price of a trade is that of its contract
pub price_of_contract : (contracts : List Contract)
    → ((j k : ℕ) (one other : Contract) → slice_get contracts j ≡ Some one → slice_get contracts k ≡ Some other
    → one.trade ≡ other.trade → j ≡ k)
    → (k : ℕ) (contract : Contract) → slice_get contracts k ≡ Some contract
    → signed_price contracts contract.trade ≡ contract.price
price_of_contract [] once k contract is = absurd (cc is)
price_of_contract (first ∷ contracts) once zero contract is =
    ap (λ (b : Bool). if b then first.price else signed_price contracts contract.trade)
    (eq-eqb first.trade contract.trade (ap (λ (c : Contract). c.trade) (same_Some first contract is)))
    ∙ ap (λ (c : Contract). c.price) (same_Some first contract is)
price_of_contract (first ∷ contracts) once (suc k) contract is = elim (cases_Bool (first.trade == contract.trade)) [
  | inl same ↦ absurd (let e = once 0 (suc k) first contract refl is (eqb-true first.trade contract.trade same) in
      omega (arith, e))
  | inr apart ↦
      ap (λ (b : Bool). if b then first.price else signed_price contracts contract.trade) apart
      ∙ price_of_contract contracts (λ i j one other one_is other_is same. let e =
      once (suc i) (suc j) one other one_is other_is same in omega (arith, e)) k contract is
]

-- an unsigned trade has no price
pub no_price : (contracts : List Contract) (t : ℕ) → is_signed contracts t ≡ false → signed_price contracts t ≡ pos 0
no_price [] t e = refl
no_price (contract ∷ contracts) t e =
    let parts = or_parts (contract.trade == t) (is_signed contracts t) e in
    ap (λ (b : Bool). if b then contract.price else signed_price contracts t) parts.0 ∙ no_price contracts t parts.1

-- a signed trade is one of the network
pub signed_within : (trades : List Ends) (contracts : List Contract) → IsFeasible trades contracts → (t : ℕ)
    → is_signed contracts t ≡ true → t < length trades
signed_within trades contracts feasible t there =
    let found = contract_on contracts t there in
    let below = feasible.known found.place found.contract found.is in
    let same = found.trade in
    omega (arith, below, same)

-- prices that agree with the contracts are at a signed trade the price of its contract
pub agreed_price : (trades : List Ends) (contracts : List Contract) → IsFeasible trades contracts → (prices : ℕ → ℤ)
    → ((k : ℕ) (contract : Contract) → slice_get contracts k ≡ Some contract → prices contract.trade ≡ contract.price)
    → (t : ℕ) → is_signed contracts t ≡ true → prices t ≡ signed_price contracts t
agreed_price trades contracts feasible prices agree t there =
    let found = contract_on contracts t there in
    ap prices (sym found.trade) ∙ agree found.place found.contract found.is
    ∙ sym (price_of_contract contracts feasible.once found.place found.contract found.is)
    ∙ ap (signed_price contracts) found.trade

-- a position is in a firm's signed bundle exactly where its trade is signed
pub has-signed_bundle : (firms : List Firm) (trades : List Ends) → IsNetwork firms trades
    → (contracts : List Contract) (f k : ℕ) (firm : Firm) → slice_get firms f ≡ Some firm
    → k < firm.count → has (signed_bundle trades contracts f firm) k ≡ is_signed contracts (own trades f k)
has-signed_bundle firms trades network contracts f k firm is below =
    has-part trades f firm.count (signed (length trades) contracts) k below
    ∙ has-set_of (is_signed contracts) (length trades) (own trades f k)
    ∙ ap (λ (b : Bool). b && is_signed contracts (own trades f k))
    (lt-ltb (own trades f k) (length trades) (network.whole f k firm is below))
