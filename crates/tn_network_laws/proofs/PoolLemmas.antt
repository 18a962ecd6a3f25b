-- Offers and an outcome together: where each contract of the list comes from.
use Rattle.std.proofs.Common.{◌≡◌, ℕ, zero, suc, ◌+◌, ◌<◌, ◌≤◌, true, List, [], ◌∷◌, ◌++◌, length, slice_get, Some, None, Option, option_map, refl, sym, ap, ◌∙◌, subst, arith, inl, inr, ◌⊎◌, ℤ, ◌*ℤ◌}
use Rattle.std.proofs.lemmas.Bool.{cases_eq, cases_lt}
use Rattle.std.proofs.lemmas.List.{length-map}
use Rattle.std.proofs.lemmas.List.Elements.{All-contains}
use Rattle.std.proofs.lemmas.Option.{get_or_from_slice_get, same_Some, slice_get-get_or, slice_get-map, slice_get_within}
use Rattle.tn_base.specs.Sets.{has}
use Rattle.tn_model.specs.declared.contract.Contract.{Contract}
use Rattle.tn_model.specs.Choices.{counted, together, contracts_of}
use Rattle.tn_model.proofs.ContractLemmas.{contracts_are, contracts_ascend, contracts_have, contracts_increase}

-- ---- two lists in a row

-- an item of two lists in a row is one of the first, or one of the second
pub record IsBehind {A : Type 0} (xs ys : List A) (k : ℕ) (x : A) : Type 0 where
  pub place : ℕ
  pub at : k ≡ length xs + place
  pub is : slice_get ys place ≡ Some x

pub append_cases : {A : Type 0} (xs ys : List A) (k : ℕ) (x : A) → slice_get (xs ++ ys) k ≡ Some x
    → ((slice_get xs k ≡ Some x) × (k < length xs)) ⊎ IsBehind xs ys k x
append_cases [] ys k x is = inr (record { place = k; at = omega arith; is = is })
append_cases (first ∷ xs) ys zero x is = inl (is, omega arith)
append_cases (first ∷ xs) ys (suc k) x is = elim (append_cases xs ys k x is) [
  | inl front ↦ let below = front.1 in inl (front.0, omega (arith, below))
  | inr behind ↦ let at = behind.at in inr (record { place = behind.place; at = omega (arith, at); is = behind.is })
]

pub append_front : {A : Type 0} (xs ys : List A) (k : ℕ) (x : A) → slice_get xs k ≡ Some x
    → slice_get (xs ++ ys) k ≡ Some x
append_front [] ys k x is = absurd (cc is)
append_front (first ∷ xs) ys zero x is = is
append_front (first ∷ xs) ys (suc k) x is = append_front xs ys k x is

pub append_behind : {A : Type 0} (xs ys : List A) (place k : ℕ) (x : A) → k ≡ length xs + place
    → slice_get ys place ≡ Some x → slice_get (xs ++ ys) k ≡ Some x
append_behind [] ys place k x at is = let e : k ≡ place = omega (arith, at) in ap (slice_get ys) e ∙ is
append_behind (first ∷ xs) ys place zero x at is = absurd (omega (arith, at))
append_behind (first ∷ xs) ys place (suc k) x at is = append_behind xs ys place k x (omega (arith, at)) is

-- ---- the contracts of an arrangement

-- a contract of an arrangement
pub record IsSigned (on : ℕ) (prices : ℕ → ℤ) (n : ℕ) (contract : Contract) : Type 0 where
  pub below : contract.trade < n
  pub there : has on contract.trade ≡ true
  pub price : contract.price ≡ prices contract.trade

pub signed_at : (on : ℕ) (prices : ℕ → ℤ) (n k : ℕ) (contract : Contract)
    → slice_get (contracts_of on prices n) k ≡ Some contract → IsSigned on prices n contract
signed_at on prices n k contract is =
    All-contains (IsSigned on prices n) (contracts_of on prices n) contract
    (contracts_are on prices (IsSigned on prices n) n (λ t below there. record {
      below = below;
      there =
          there;
      price = refl;
    })) (
      k,
      slice_get_within (contracts_of on prices n) k contract is,
      get_or_from_slice_get (contracts_of on prices n) k contract contract is,
    )

pub signed_found : (on : ℕ) (prices : ℕ → ℤ) (n t : ℕ) → t < n → has on t ≡ true
    → (k : ℕ) × (slice_get (contracts_of on prices n) k ≡ Some (record { trade = t; price = prices t }))
signed_found on prices n t below there =
    let found = contracts_have on prices n t below there in (
      found.0,
      slice_get-get_or (contracts_of on prices n) found.0 (record { trade = t; price = prices t }) found.1
          ∙ ap Some found.2,
    )

pub signed_once : (on : ℕ) (prices : ℕ → ℤ) (n j k : ℕ) (one other : Contract)
    → slice_get (contracts_of on prices n) j ≡ Some one
    → slice_get (contracts_of on prices n) k ≡ Some other → one.trade ≡ other.trade → j ≡ k
signed_once on prices n j k one other one_is other_is same =
    let contracts = contracts_of on prices n in
    let up = contracts_increase on prices n in
    elim (cases_lt j k) [
      | inl before ↦ let less = contracts_ascend contracts up j k one other before one_is other_is in
          absurd (omega (arith, less, same))
      | inr from ↦ elim (cases_eq j k) [
        | inl e ↦ e
        | inr apart ↦ let less =
            contracts_ascend contracts up k j other one (omega (arith, from, apart)) other_is one_is in
            absurd (omega (arith, less, same))
      ]
    ]

-- ---- the contracts of a set of trades

-- contracts in any order, one for each trade of a set below a number, at prices by trade
pub record AreContractsOf (count on : ℕ) (prices : ℕ → ℤ) (contracts : List Contract) : Type 0 where
  pub signed : (k : ℕ) (contract : Contract) → slice_get contracts k ≡ Some contract → IsSigned on prices count contract
  pub found : (t : ℕ) → t < count → has on t ≡ true → (k : ℕ) × (contract : Contract)
      × (slice_get contracts k ≡ Some contract) × (contract.trade ≡ t)
  pub once : (j k : ℕ) (one other : Contract) → slice_get contracts j ≡ Some one → slice_get contracts k ≡ Some other
      → one.trade ≡ other.trade → j ≡ k

-- those of an arrangement are
pub arrangement_has_contracts : (count on : ℕ) (prices : ℕ → ℤ)
    → AreContractsOf count on prices (contracts_of on prices count)
arrangement_has_contracts count on prices = record {
  signed = signed_at on prices count;
  found = λ t below there. let found = signed_found on prices count t below there in
      (found.0, record { trade = t; price = prices t }, found.1, refl);
  once = signed_once on prices count;
}

-- ---- the pool of offers and an outcome

-- a list that has first the offers' trades and then, at prices by trade, a contract for each trade of a set
pub record IsPool (count on : ℕ) (prices : ℕ → ℤ) (offers pool : List Contract) : Type 0 where
  pub early : (k : ℕ) (contract : Contract) → slice_get pool k ≡ Some contract → k < length offers
      → (offer : Contract) × (slice_get offers k ≡ Some offer) × (contract.trade ≡ offer.trade)
  pub late : (k : ℕ) (contract : Contract) → slice_get pool k ≡ Some contract → length offers ≤ k
      → IsSigned on prices count contract
  pub found : (t : ℕ) → t < count → has on t ≡ true → (k : ℕ) × (contract : Contract) × (length offers ≤ k)
      × (slice_get pool k ≡ Some contract) × (contract.trade ≡ t)
  pub once : (j k : ℕ) (one other : Contract) → slice_get pool j ≡ Some one → slice_get pool k ≡ Some other
      → length offers ≤ j → length offers ≤ k
      → one.trade ≡ other.trade → j ≡ k

-- what stands at a place of counted contracts
pub counted_at : (times : ℤ) (contracts : List Contract) (k : ℕ) (contract : Contract)
    → slice_get (counted times contracts) k ≡ Some contract
    → (original : Contract) × (slice_get contracts k ≡ Some original)
    × (contract ≡ record { trade = original.trade; price = times *ℤ original.price })
counted_at times contracts k contract is =
    by_case (slice_get contracts k) refl
    (sym (slice_get-map (λ (c : Contract). record { trade = c.trade; price = times *ℤ c.price }) contracts k) ∙ is)
  where
    by_case : (o : Option Contract) → slice_get contracts k ≡ o
        → option_map (λ (c : Contract). record { trade = c.trade; price = times *ℤ c.price }) o ≡ Some contract
        → (original : Contract) × (slice_get contracts k ≡ Some original)
        × (contract ≡ record { trade = original.trade; price = times *ℤ original.price })
    by_case None there e = absurd (cc e)
    by_case (Some original) there e = (original, there, same_Some _ _ (sym e))

pub pool_together : (e d : ℤ) (count on : ℕ) (prices : ℕ → ℤ) (offers outcome : List Contract)
    → AreContractsOf count on prices outcome
    → IsPool count on (λ t. e *ℤ prices t) offers (together e offers d outcome)
pool_together e d count on prices offers outcome are = record {
  early = λ k contract is inside. elim (append_cases (counted d offers) (counted e outcome) k contract is) [
    | inl front ↦ let from = counted_at d offers k contract front.0 in
        (from.0, from.1, ap (λ (c : Contract). c.trade) from.2)
    | inr behind ↦ let at = behind.at in absurd (omega (arith, at, inside, wide))
  ];
  late = λ k contract is past. elim (append_cases (counted d offers) (counted e outcome) k contract is) [
    | inl front ↦ let below = front.1 in absurd (omega (arith, below, past, wide))
    | inr behind ↦ signed behind.place contract behind.is
  ];
  found = λ t below there.
      let original = are.found t below there in
      let at : slice_get (counted e outcome) original.0 ≡ Some (record {
        trade = original.1.trade;
        price =
            e *ℤ original.1.price;
      }) =
      slice_get-map (λ (c : Contract). record { trade = c.trade; price = e *ℤ c.price }) outcome original.0
      ∙ ap (option_map (λ (c : Contract). record { trade = c.trade; price = e *ℤ c.price })) original.2 in (
        length offers + original.0,
        record { trade = original.1.trade; price = e *ℤ original.1.price },
        omega arith,
        append_behind (counted d offers) (counted e outcome) original.0 (length offers + original.0) _
            (omega (arith, wide)) at,
        original.3,
      );
  once = λ j k one other one_is other_is j_past k_past same.
      elim (append_cases (counted d offers) (counted e outcome) j one one_is) [
        | inl front ↦ let below = front.1 in absurd (omega (arith, below, j_past, wide))
        | inr first ↦ elim (append_cases (counted d offers) (counted e outcome) k other other_is) [
          | inl front ↦ let below = front.1 in absurd (omega (arith, below, k_past, wide))
          | inr second ↦
              let one_from = counted_at e outcome first.place one first.is in
              let other_from = counted_at e outcome second.place other second.is in
              let trades : one_from.0.trade ≡ other_from.0.trade =
              sym (ap (λ (c : Contract). c.trade) one_from.2) ∙ same ∙ ap (λ (c : Contract). c.trade) other_from.2 in
              let places = are.once first.place second.place one_from.0 other_from.0 one_from.1 other_from.1 trades in
              let a = first.at in
              let b = second.at in
              omega (arith, a, b, places)
        ]
      ];
}
  where
    wide : length (counted d offers) ≡ length offers
    wide = length-map offers (λ (c : Contract). record { trade = c.trade; price = d *ℤ c.price })

    signed : (place : ℕ) (contract : Contract) → slice_get (counted e outcome) place ≡ Some contract
        → IsSigned on (λ t. e *ℤ prices t) count contract
    signed place contract is =
        let from = counted_at e outcome place contract is in
        let original = are.signed place from.0 from.1 in
        subst (IsSigned on (λ t. e *ℤ prices t) count) (sym from.2)
        (record { below = original.below; there = original.there; price = ap (λ (z : ℤ). e *ℤ z) original.price })

-- and each offer has its place there
pub offer_in_pool : (e d : ℤ) (offers outcome : List Contract) (k : ℕ) (offer : Contract)
    → slice_get offers k ≡ Some offer
    → slice_get (together e offers d outcome) k ≡ Some (record { trade = offer.trade; price = d *ℤ offer.price })
offer_in_pool e d offers outcome k offer is =
    append_front (counted d offers) (counted e outcome) k _
    (slice_get-map (λ (c : Contract). record { trade = c.trade; price = d *ℤ c.price }) offers k
    ∙ ap (option_map (λ (c : Contract). record { trade = c.trade; price = d *ℤ c.price })) is)
