-- The lists of a residual market, made item by item.
use Rattle.std.proofs.Common.{◌≡◌, ℕ, zero, suc, ◌+◌, ◌-◌, ◌*◌, ◌<◌, ◌≤◌, ◌^◌, nat_le, Bool, true, false, not, ◌&&◌, if◌then◌else◌, List, [], ◌∷◌, ◌++◌, length, map, take, append_assoc, append-nil, slice_get, Option, Some, None, is_some, refl, sym, ap, ap₂, ◌∙◌, subst, arith, mul_assoc, mul-add, inl, inr, ℤ, pos, ◌*ℤ◌, ◌≤ℤ◌}
use Rattle.std.specs.Int.RustNames.{unsigned_abs}
use Rattle.std.specs.List.Sorted.{IsStrictlyIncreasing}
use Rattle.std.proofs.Math.IntN.{*ℤ_comm}
use Rattle.std.proofs.Math.Nat.{mul_comm}
use Rattle.std.proofs.lemmas.Int.{ints, by_lt_z, unsigned_abs-mul}
use Rattle.std.proofs.lemmas.Nat.{mul-le}
use Rattle.std.proofs.lemmas.List.{length-append, map-append}
use Rattle.std.proofs.lemmas.Bool.{cases_lt, lt-ltb}
use Rattle.std.proofs.lemmas.Option.{same_Some, slice_get_cases, slice_get_within, get_or_from_slice_get}
use Rattle.tn_base.specs.Arcs.{IsAtMost}
use Rattle.tn_base.specs.Sets.{has, toggle, set_of}
use Rattle.tn_base.specs.Firm.{Firm}
use Rattle.tn_base.proofs.SetLemmas.{has-set_of}
use Rattle.tn_firm_laws.proofs.BoundLemmas.{abs_small}
use Rattle.tn_firm_laws.proofs.KeepLemmas.{times-le}
use Rattle.tn_model.specs.declared.ends.Ends.{Ends}
use Rattle.tn_model.specs.declared.contract.Contract.{Contract}
use Rattle.tn_model.specs.Network.{own, part}
use Rattle.tn_model.specs.Choices.{IsFeasible}
use Rattle.tn_market.specs.Levied.{levied_limit}
use Rattle.tn_market.specs.Widths.{most_limit, most_worth}
use Rattle.tn_model.specs.Limits.{few_trades, most_claimed_over, most_numerator, most_own_trades, most_sets, most_worth_among}
use Rattle.tn_market.specs.Limits.{IsOutcomeOf}
use Rattle.tn_market.specs.Outside.{outside}
use Rattle.tn_market.specs.Signed.{is_signed, signed_price}
use Rattle.tn_model.proofs.ContractLemmas.{contracts_ascend}
use Rattle.tn_outcome_laws.proofs.SignedLemmas.{signed_by}
use Rattle.tn_residual.specs.Held.{contract_price}
use Rattle.tn_residual.specs.Residual.{unsigned_from, sold_to, bought_from, halves_of, halves_from, unsigned, levied_from, outsides, residual_limit, residual_trades}
use Rattle.tn_residual.proofs.TradeLemmas.{levied_firm}

-- whether a trade has no contract
pub priced_or_not : (contracts : List Contract) (t : ℕ) (price : Option ℤ) (none : Bool)
    → price ≡ contract_price contracts t → is_some price ≡ not none → none ≡ not (is_signed contracts t)
priced_or_not contracts t price none is test = by_case (is_signed contracts t) none (sym (ap is_some is) ∙ test)
  where
    by_case : (b n : Bool) → is_some (if b then Some (signed_price contracts t) else None) ≡ not n → n ≡ not b
    by_case true true e = absurd (cc e)
    by_case true false e = refl
    by_case false true e = refl
    by_case false false e = absurd (cc e)

-- the unsigned positions with one more
pub unsigned_next : (trades : List Ends) (contracts : List Contract) (f k t bundle next : ℕ) (none : Bool)
    → bundle ≡ part trades f k (unsigned (length trades) contracts)
    → t ≡ own trades f k → t < length trades → none ≡ not (is_signed contracts t)
    → next ≡ (if none then toggle bundle k else bundle)
    → next ≡ part trades f (k + 1) (unsigned (length trades) contracts)
unfolding set_of
unsigned_next trades contracts f k t bundle next none is at inside test next_is =
    let more : k + 1 ≡ suc k = omega arith in
    let member : none ≡ has (unsigned (length trades) contracts) (own trades f k) =
    test ∙ sym (has-set_of (λ i. not (is_signed contracts i)) (length trades) t
    ∙ ap (λ (b : Bool). b && not (is_signed contracts t)) (lt-ltb t (length trades) inside))
    ∙ ap (has (unsigned (length trades) contracts)) at in
    next_is
    ∙ ap₂ (λ (b : Bool) (x : ℕ). if b then toggle x k else x) member is
    ∙ sym (ap (λ (n : ℕ). part trades f n (unsigned (length trades) contracts)) more)

-- the unsigned trades with one more trade
pub unsigned_from-next : (contracts : List Contract) (b t : ℕ) (trades : List Ends) (trade : Ends)
    → slice_get trades t ≡ Some trade
    → unsigned_from contracts b (take (suc t) trades) ≡ unsigned_from contracts b (take t trades)
    ++ (if is_signed contracts (b + t) then [] else trade ∷ [])
unsigned_from-next contracts b t [] trade is = absurd (cc is)
unsigned_from-next contracts b zero (first ∷ trades) trade is =
    let at : b ≡ b + 0 = omega arith in
    ap₂ (λ (n : ℕ) (z : Ends). if is_signed contracts n then [] else z ∷ []) at (same_Some first trade is)
unsigned_from-next contracts b (suc t) (first ∷ trades) trade is = by_case (is_signed contracts b)
    (unsigned_from-next contracts (b + 1) t trades trade is
    ∙ (let at : b + 1 + t ≡ b + suc t = omega arith in
    ap (λ (n : ℕ). unsigned_from contracts (b + 1) (take t trades) ++ (if is_signed contracts n then []
    else trade ∷ [])) at))
  where
    by_case : (s : Bool)
        → unsigned_from contracts (b + 1) (take (suc t) trades) ≡ unsigned_from contracts (b + 1) (take t trades)
        ++ (if is_signed contracts (b + suc t) then [] else trade ∷ [])
        → (if s then unsigned_from contracts (b + 1) (take (suc t) trades)
        else first ∷ unsigned_from contracts (b + 1) (take (suc t) trades))
        ≡ (if s then unsigned_from contracts (b + 1) (take t trades)
        else first ∷ unsigned_from contracts (b + 1) (take t trades)) ++ (if is_signed contracts (b + suc t) then []
        else trade ∷ [])
    by_case true rest = rest
    by_case false rest = ap (λ (xs : List Ends). first ∷ xs) rest

-- the halves with those of one more contract
pub halves_from-next : (trades : List Ends) (g c : ℕ) (contracts : List Contract) (contract : Contract) (trade : Ends)
    → slice_get contracts c ≡ Some contract
    → slice_get trades contract.trade ≡ Some trade
    → halves_from trades g (take (suc c) contracts) ≡ halves_from trades g (take c contracts)
    ++ (sold_to (g + c) trade ∷ bought_from (g + c) trade ∷ [])
halves_from-next trades g c [] contract trade is there = absurd (cc is)
halves_from-next trades g zero (first ∷ contracts) contract trade is there =
    let at : g ≡ g + 0 = omega arith in
    ap (λ (o : Option Ends). halves_of g o ++ []) (ap (λ (z : Contract). slice_get trades z.trade)
    (same_Some first contract is) ∙ there)
    ∙ ap (λ (n : ℕ). sold_to n trade ∷ bought_from n trade ∷ []) at
halves_from-next trades g (suc c) (first ∷ contracts) contract trade is there =
    let at : g + 1 + c ≡ g + suc c = omega arith in
    ap (λ (xs : List Ends). halves_of g (slice_get trades first.trade) ++ xs)
    (halves_from-next trades (g + 1) c contracts contract trade is there
    ∙ ap (λ (n : ℕ). halves_from trades (g + 1) (take c contracts) ++ (sold_to n trade ∷ bought_from n trade ∷ [])) at)
    ∙ by_case (slice_get trades first.trade)
  where
    by_case : (o : Option Ends)
        → halves_of g o ++ (halves_from trades (g + 1) (take c contracts)
        ++ (sold_to (g + suc c) trade ∷ bought_from (g + suc c) trade ∷ []))
        ≡ (halves_of g o ++ halves_from trades (g + 1) (take c contracts))
        ++ (sold_to (g + suc c) trade ∷ bought_from (g + suc c) trade ∷ [])
    by_case None = refl
    by_case (Some z) = refl

-- the firms outside with one more
pub outsides-next : (scale : ℤ) (c : ℕ) (contracts : List Contract) (contract : Contract)
    → slice_get contracts c ≡ Some contract
    → outsides scale (take (suc c) contracts) ≡ outsides scale (take c contracts)
    ++ (outside (scale *ℤ contract.price) ∷ [])
outsides-next scale c [] contract is = absurd (cc is)
outsides-next scale zero (first ∷ contracts) contract is =
    ap (λ (z : Contract). outside (scale *ℤ z.price) ∷ []) (same_Some first contract is)
outsides-next scale (suc c) (first ∷ contracts) contract is =
    ap (λ (xs : List Firm). outside (scale *ℤ first.price) ∷ xs) (outsides-next scale c contracts contract is)

-- the firms of the market with one more
pub levied_from-next : {V : Type 0} (firm_of : V → Firm) (trades : List Ends) (contracts : List Contract)
    (scale tax : ℤ) (b f : ℕ) (firms : List V) (v : V) → slice_get firms f ≡ Some v
    → levied_from trades contracts scale tax b (map firm_of (take (suc f) firms))
    ≡ levied_from trades contracts scale tax b (map firm_of (take f firms))
    ++ (levied_firm trades contracts scale tax (b + f) (firm_of v) ∷ [])
levied_from-next firm_of trades contracts scale tax b f [] v is = absurd (cc is)
levied_from-next {V} firm_of trades contracts scale tax b zero (first ∷ firms) v is =
    let at : b ≡ b + 0 = omega arith in
    ap₂ (λ (n : ℕ) (z : V). levied_firm trades contracts scale tax n (firm_of z) ∷ []) at (same_Some first v is)
levied_from-next firm_of trades contracts scale tax b (suc f) (first ∷ firms) v is =
    let at : b + 1 + f ≡ b + suc f = omega arith in
    ap (λ (xs : List Firm). levied_firm trades contracts scale tax b (firm_of first) ∷ xs)
    (levied_from-next firm_of trades contracts scale tax (b + 1) f firms v is
    ∙ ap (λ (n : ℕ). levied_from trades contracts scale tax (b + 1) (map firm_of (take f firms))
    ++ (levied_firm trades contracts scale tax n (firm_of v) ∷ [])) at)

-- ---- one more item

-- an item is added to a list, and to what a function makes of it
pub one_more : {A B : Type 0} (f : A → B) (old now : List A) (item : A) (value : B) (start xs ys : List B)
    → now ≡ old ++ (item ∷ []) → map f old ≡ start ++ xs → f item ≡ value
    → ys ≡ xs ++ (value ∷ []) → map f now ≡ start ++ ys
one_more {A} {B} f old now item value start xs ys pushed before is next =
    ap (map f) pushed ∙ map-append f old (item ∷ [])
    ∙ ap₂ (λ (zs : List B) (z : B). zs ++ (z ∷ [])) before is
    ∙ append_assoc start xs (value ∷ []) ∙ ap (λ (zs : List B). start ++ zs) (sym next)

-- two items are added
pub two_more : {A : Type 0} (old between now : List A) (first second a b : A) (start xs ys : List A)
    → between ≡ old ++ (first ∷ []) → now ≡ between ++ (second ∷ []) → old ≡ start ++ xs
    → first ≡ a → second ≡ b → ys ≡ xs ++ (a ∷ b ∷ []) → now ≡ start ++ ys
two_more {A} old between now first second a b start xs ys pushed pushed' before first_is second_is next =
    pushed' ∙ ap (λ (zs : List A). zs ++ (second ∷ [])) pushed ∙ append_assoc old (first ∷ []) (second ∷ [])
    ∙ ap₂ (λ (x y : A). old ++ (x ∷ y ∷ [])) first_is second_is
    ∙ ap (λ (zs : List A). zs ++ (a ∷ b ∷ [])) before
    ∙ append_assoc start xs (a ∷ b ∷ []) ∙ ap (λ (zs : List A). start ++ zs) (sym next)

-- a trade without a contract is one more of the unsigned ones
pub free_more : (contracts : List Contract) (t : ℕ) (trades : List Ends) (trade : Ends) (old now : List Ends)
    (none : Bool) → none ≡ not (is_signed contracts t) → none ≡ true
    → slice_get trades t ≡ Some trade → now ≡ old ++ (trade ∷ []) → old ≡ unsigned_from contracts 0 (take t trades)
    → now ≡ unsigned_from contracts 0 (take (t + 1) trades)
free_more contracts t trades trade old now none test is_none is pushed before =
    let next : t + 1 ≡ suc t = omega arith in
    let at : 0 + t ≡ t = omega arith in
    let free : is_signed contracts (0 + t) ≡ false = ap (is_signed contracts) at
    ∙ unsigned (is_signed contracts t) (sym test ∙ is_none) in
    pushed ∙ ap (λ (zs : List Ends). zs ++ (trade ∷ [])) before
    ∙ sym (ap (λ (n : ℕ). unsigned_from contracts 0 (take n trades)) next
    ∙ unsigned_from-next contracts 0 t trades trade is
    ∙ ap (λ (b : Bool). unsigned_from contracts 0 (take t trades) ++ (if b then [] else trade ∷ [])) free)
  where
    unsigned : (b : Bool) → not b ≡ true → b ≡ false
    unsigned true e = absurd (cc e)
    unsigned false e = refl

-- and one with a contract isn't
pub free_same : (contracts : List Contract) (t : ℕ) (trades : List Ends) (old now : List Ends) (none : Bool)
    → none ≡ not (is_signed contracts t) → none ≡ false
    → t < length trades → now ≡ old → old ≡ unsigned_from contracts 0 (take t trades)
    → now ≡ unsigned_from contracts 0 (take (t + 1) trades)
free_same contracts t trades old now none test isnt inside same before = elim (slice_get_cases trades t).1 [
  | inr past ↦ absurd (let above = past.0 in omega (arith, inside, above))
  | inl found ↦
      let next : t + 1 ≡ suc t = omega arith in
      let at : 0 + t ≡ t = omega arith in
      let signed : is_signed contracts (0 + t) ≡ true = ap (is_signed contracts) at
      ∙ is_there (is_signed contracts t) (sym test ∙ isnt) in
      same ∙ before
      ∙ sym (ap (λ (n : ℕ). unsigned_from contracts 0 (take n trades)) next
      ∙ unsigned_from-next contracts 0 t trades found.0 found.2
      ∙ ap (λ (b : Bool). unsigned_from contracts 0 (take t trades) ++ (if b then [] else found.0 ∷ [])) signed
      ∙ append-nil (unsigned_from contracts 0 (take t trades)))
]
  where
    is_there : (b : Bool) → not b ≡ false → b ≡ true
    is_there true e = refl
    is_there false e = absurd (cc e)

-- ---- numbers

-- a bound on worths among some trades is one on worths
pub among_small : (n : ℕ) → most_worth_among n ≤ most_worth
unfolding most_worth_among
among_small n = by (nat_le n few_trades)
  where
    by : (few : Bool) → (if few then most_worth else (most_own_trades + most_sets) * 10 ^ 7) ≤ most_worth
    by true = omega arith
    by false = omega arith

-- a levy that counts worths no more often than a denominator may be, with a tax of at most 1, keeps them within the
-- bound on worths
pub levy_fits : (scale tax : ℤ) (limit : ℕ) → pos 1 ≤ℤ scale → scale ≤ℤ pos most_claimed_over → pos 0 ≤ℤ tax
    → tax ≤ℤ pos 1 → limit ≤ most_worth → levied_limit scale tax limit ≤ most_limit
levy_fits scale tax limit from_one small from_zero small_tax small_limit =
    let size = abs_small scale most_claimed_over (record { low = omega (arith, ints, from_one); high = small }) in
    let tax_size = abs_small tax 1 (record { low = omega (arith, ints, from_zero); high = small_tax }) in
    let product = mul-le (unsigned_abs scale) limit most_claimed_over most_worth size small_limit in
    within (unsigned_abs scale * limit) (unsigned_abs tax) product tax_size
  where
    within : (p t : ℕ) → p ≤ most_claimed_over * most_worth → t ≤ 1 → p + 64 * t ≤ most_limit
    within p t product size = omega (arith, product, size)

-- what it keeps them within, counted over a denominator
pub levy_limit : (n : ℕ) (over scale tax : ℤ) → pos 0 ≤ℤ tax → tax ≤ℤ pos 1
    → levied_limit (over *ℤ scale) tax (most_worth_among n) ≤ residual_limit n over scale
levy_limit n over scale tax from_zero small_tax =
    within (unsigned_abs (over *ℤ scale)) (unsigned_abs over) (unsigned_abs scale) (most_worth_among n)
    (unsigned_abs tax) (unsigned_abs-mul over scale)
    (abs_small tax 1 (record { low = omega (arith, ints, from_zero); high = small_tax }))
  where
    within : (p o s w t : ℕ) → p ≡ o * s → t ≤ 1 → p * w + 64 * t ≤ s * (o * w + most_numerator) + 64
    within p o s w t size small =
        let product : p * w ≡ s * (o * w) = ap (λ (q : ℕ). q * w) (size ∙ mul_comm o s) ∙ mul_assoc s o w in
        let parts = mul-add s (o * w) most_numerator in
        omega (arith, product, parts, small)

-- the worths of a firm outside are within the scaled bound on prices, and so within the same
pub outside_limit : (scale price : ℤ) → IsAtMost price most_numerator
    → unsigned_abs (scale *ℤ price) ≤ unsigned_abs scale * most_numerator
outside_limit scale price small =
    subst (λ (a : ℕ). a ≤ unsigned_abs scale * most_numerator) (sym (unsigned_abs-mul scale price))
    (mul-le (unsigned_abs scale) (unsigned_abs price) (unsigned_abs scale) most_numerator (omega arith)
    (abs_small price most_numerator small))

pub outsides_limit : (n : ℕ) (over scale : ℤ) → unsigned_abs scale * most_numerator ≤ residual_limit n over scale
outsides_limit n over scale =
    let parts = mul-add (unsigned_abs scale) (unsigned_abs over * most_worth_among n) most_numerator in
    omega (arith, parts)

-- the scale is within the limits where its product with the denominator is
pub scale_fits : (over scale : ℤ) → pos 1 ≤ℤ over → pos 1 ≤ℤ (over *ℤ scale) → (over *ℤ scale) ≤ℤ pos most_claimed_over
    → (pos 1 ≤ℤ scale) × (scale ≤ℤ pos most_claimed_over)
scale_fits over scale over_from_one from_one small =
    let least : pos 1 ≤ℤ scale = by_lt_z {P = pos 1 ≤ℤ scale} scale (pos 1)
    (λ less.
    let step = times-le over scale (pos 0) (omega (arith, ints, over_from_one)) (omega (arith, ints, less)) in
    let none : over *ℤ pos 0 ≡ pos 0 = omega (arith, ints) in
    absurd (omega (arith, ints, step, none, from_one))) (λ most. most) in
    let step = times-le scale (pos 1) over (omega (arith, ints, least)) over_from_one in
    let one : scale *ℤ pos 1 ≡ scale = omega (arith, ints) in
    let turned = *ℤ_comm over scale in
    (least, omega (arith, ints, step, one, turned, small))

-- contracts that ascend by trade are no more than the trades
ascending_from : (contracts : List Contract) → ((j k : ℕ) (one other : Contract) → j < k
    → slice_get contracts j ≡ Some one → slice_get contracts k ≡ Some other → one.trade < other.trade)
    → (k : ℕ) (contract : Contract) → slice_get contracts k ≡ Some contract → k ≤ contract.trade
ascending_from contracts ascending zero contract is = omega arith
ascending_from contracts ascending (suc k) contract is = elim (slice_get_cases contracts k).1 [
  | inl found ↦
      let before = ascending_from contracts ascending k found.0 found.2 in
      let step = ascending k (suc k) found.0 contract (omega arith) found.2 is in
      omega (arith, before, step)
  | inr past ↦ absurd (let inside = slice_get_within contracts (suc k) contract is in let above = past.0 in
      omega (arith, inside, above))
]

pub contracts_few : (trades : List Ends) (over : ℤ) (contracts : List Contract) → IsOutcomeOf trades over contracts
    → length contracts ≤ length trades
contracts_few trades over contracts outcome = by_count (length contracts) refl
  where
    by_count : (n : ℕ) → length contracts ≡ n → length contracts ≤ length trades
    by_count zero e = omega (arith, e)
    by_count (suc n) e = elim (slice_get_cases contracts n).1 [
      | inl found ↦
          let high = ascending_from contracts (contracts_ascend contracts outcome.contracts.ascending) n found.0 found.2
          in
          let known : found.0.trade < length trades =
          subst (λ (z : Contract). z.trade < length trades) (get_or_from_slice_get contracts n found.0 found.0
          found.2) (outcome.contracts.known n found.0 found.1) in
          omega (arith, e, high, known)
      | inr past ↦ absurd (let above = past.0 in omega (arith, e, above))
    ]

-- an outcome within the limits can be signed
pub outcome_feasible : (trades : List Ends) (over : ℤ) (contracts : List Contract) → IsOutcomeOf trades over contracts
    → IsFeasible trades contracts
outcome_feasible trades over contracts outcome = record {
  known = λ k contract is. subst (λ (z : Contract). z.trade < length trades)
      (get_or_from_slice_get contracts k contract contract is)
      (outcome.contracts.known k contract (slice_get_within contracts k contract is));
  once = λ j k one other one_is other_is same. elim (cases_lt j k) [
    | inl less ↦
        absurd (let step = contracts_ascend contracts outcome.contracts.ascending j k one other less one_is other_is
        in omega (arith, step, same))
    | inr rest ↦ elim (cases_lt k j) [
      | inl more ↦
          absurd (let step = contracts_ascend contracts outcome.contracts.ascending k j other one more other_is one_is
          in omega (arith, step, same))
      | inr most ↦ omega (arith, rest, most)
    ]
  ];
}

-- how many trades and firms there are
unsigned_few : (contracts : List Contract) (b : ℕ) (trades : List Ends)
    → length (unsigned_from contracts b trades) ≤ length trades
unsigned_few contracts b [] = omega arith
unsigned_few contracts b (trade ∷ trades) = by_case (is_signed contracts b) (unsigned_few contracts (b + 1) trades)
  where
    by_case : (s : Bool) → length (unsigned_from contracts (b + 1) trades) ≤ length trades
        → length (if s then unsigned_from contracts (b + 1) trades else trade ∷ unsigned_from contracts (b + 1) trades)
        ≤ suc (length trades)
    by_case true rest = omega (arith, rest)
    by_case false rest = omega (arith, rest)

pub halves_few : (trades : List Ends) (g : ℕ) (contracts : List Contract)
    → length (halves_from trades g contracts) ≤ 2 * length contracts
halves_few trades g [] = omega arith
halves_few trades g (contract ∷ contracts) =
    by_case (slice_get trades contract.trade) (halves_few trades (g + 1) contracts)
  where
    by_case : (o : Option Ends) → length (halves_from trades (g + 1) contracts) ≤ 2 * length contracts
        → length (halves_of g o ++ halves_from trades (g + 1) contracts) ≤ 2 * suc (length contracts)
    by_case None rest = omega (arith, rest)
    by_case (Some trade) rest = omega (arith, rest)

-- the contracts from index k on are on trades from b on, of so many
abbrev AreBetween : List Contract → ℕ → ℕ → ℕ → Type 0
AreBetween contracts b count k = (j : ℕ) (contract : Contract) → k ≤ j → slice_get contracts j ≡ Some contract
    → (b ≤ contract.trade) × (contract.trade < b + count)

-- each of them takes its trade away from the unsigned ones
unsigned_beside : (contracts : List Contract)
    → IsStrictlyIncreasing (map (λ (contract : Contract). contract.trade) contracts) → (b k : ℕ) (trades : List Ends)
    → AreBetween contracts b (length trades) k → length (unsigned_from contracts b trades) + (length contracts - k)
    ≤ length trades
unsigned_beside contracts ascending b k [] within = elim (slice_get_cases contracts k).1 [
  | inl found ↦ absurd (let here = within k found.0 (omega arith) found.2 in omega (arith, here))
  | inr past ↦ let above = past.0 in omega (arith, above)
]
unsigned_beside contracts ascending b k (trade ∷ trades) within = elim (slice_get_cases contracts k).1 [
  | inl found ↦
      at_contract found.0 found.1 found.2 (unsigned_beside contracts ascending (b + 1) k trades)
      (unsigned_beside contracts ascending (b + 1) (k + 1) trades)
  | inr past ↦ let above = past.0 in let all = unsigned_few contracts b (trade ∷ trades) in omega (arith, above, all)
]
  where
    later : (contract : Contract) → slice_get contracts k ≡ Some contract → (j : ℕ) (other : Contract) → k + 1 ≤ j
        → slice_get contracts j ≡ Some other → contract.trade < other.trade
    later contract is j other behind there =
        contracts_ascend contracts ascending k j contract other (omega (arith, behind)) is there

    skips : (s : Bool) → length (unsigned_from contracts (b + 1) trades) + (length contracts - k) ≤ length trades
        → length (if s then unsigned_from contracts (b + 1) trades else trade ∷ unsigned_from contracts (b + 1) trades)
        + (length contracts - k) ≤ suc (length trades)
    skips true rest = omega (arith, rest)
    skips false rest = omega (arith, rest)

    takes : k < length contracts → (s : Bool) → s ≡ true
        → length (unsigned_from contracts (b + 1) trades) + (length contracts - (k + 1)) ≤ length trades
        → length (if s then unsigned_from contracts (b + 1) trades else trade ∷ unsigned_from contracts (b + 1) trades)
        + (length contracts - k) ≤ suc (length trades)
    takes inside true is rest = omega (arith, inside, rest)
    takes inside false is rest = absurd (cc (is))

    at_contract : (contract : Contract) → k < length contracts → slice_get contracts k ≡ Some contract
        → (AreBetween contracts (b + 1) (length trades) k → length (unsigned_from contracts (b + 1) trades)
        + (length contracts - k) ≤ length trades)
        → (AreBetween contracts (b + 1) (length trades) (k + 1)
        → length (unsigned_from contracts (b + 1) trades) + (length contracts - (k + 1)) ≤ length trades)
        → length (unsigned_from contracts b (trade ∷ trades)) + (length contracts - k) ≤ suc (length trades)
    at_contract contract inside is same next = elim (cases_lt b contract.trade) [
      | inl above ↦ skips (is_signed contracts b) (same (λ j other behind there.
          let bounds = within j other behind there in (at_least j other behind there above, omega (arith, bounds))))
      | inr most ↦
          takes inside (is_signed contracts b) (signed_by contracts k b contract is (let here =
          within k contract (omega arith) is in omega (arith, here, most)))
          (next (λ j other behind there.
          let bounds = within j other (omega (arith, behind)) there in
          let here = within k contract (omega arith) is in
          let more = later contract is j other behind there in
          (omega (arith, here, more), omega (arith, bounds))))
    ]
      where
        at_least : (j : ℕ) (other : Contract) → k ≤ j → slice_get contracts j ≡ Some other → b < contract.trade
            → b + 1 ≤ other.trade
        at_least j other behind there above = elim (cases_lt k j) [
          | inl further ↦ let more = later contract is j other (omega (arith, further)) there in
              omega (arith, above, more)
          | inr here ↦
              let at : j ≡ k = omega (arith, behind, here) in
              let same : contract ≡ other =
              same_Some contract other (sym is ∙ sym (ap (slice_get contracts) at) ∙ there) in
              let trade_is = ap (λ (c : Contract). c.trade) same in
              omega (arith, above, trade_is)
        ]

pub trades_few : (g : ℕ) (trades : List Ends) (over : ℤ) (contracts : List Contract) (made : List Ends)
    → IsOutcomeOf trades over contracts → made ≡ residual_trades g trades contracts
    → length made ≤ length trades + length contracts
trades_few g trades over contracts made outcome are =
    let count : length made ≡ length (unsigned_from contracts 0 trades) + length (halves_from trades g contracts) =
    ap length are ∙ length-append (unsigned_from contracts 0 trades) (halves_from trades g contracts) in
    let free = unsigned_beside contracts outcome.contracts.ascending 0 0 trades (λ j contract behind is.
    let known = subst (λ (z : Contract). z.trade < length trades)
    (get_or_from_slice_get contracts j contract contract is)
    (outcome.contracts.known j contract (slice_get_within contracts j contract is)) in
    (omega arith, omega (arith, known))) in
    let half = halves_few trades g contracts in
    omega (arith, count, free, half)
