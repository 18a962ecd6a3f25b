-- Where the trades and the firms of a residual market come from.
use Rattle.std.proofs.Common.{◌≡◌, ℕ, zero, suc, ◌+◌, ◌*◌, Bool, true, false, if◌then◌else◌, List, [], ◌∷◌, ◌++◌, length, slice_get, Option, Some, None, option_map, refl, sym, ap, ◌∙◌, arith, inl, inr, ◌⊎◌, ℤ, ◌*ℤ◌}
use Rattle.std.proofs.lemmas.Option.{same_Some, slice_get-map, slice_get_cases}
use Rattle.tn_base.specs.Firm.{Firm}
use Rattle.tn_model.specs.declared.ends.Ends.{Ends}
use Rattle.tn_model.specs.declared.contract.Contract.{Contract}
use Rattle.tn_model.specs.Network.{part}
use Rattle.tn_model.specs.Choices.{IsFeasible}
use Rattle.tn_market.specs.Levied.{levied}
use Rattle.tn_market.specs.Outside.{outside}
use Rattle.tn_market.specs.Signed.{is_signed}
use Rattle.tn_network_laws.proofs.PoolLemmas.{append_cases, append_front, append_behind}
use Rattle.tn_residual.specs.Residual.{unsigned_from, sold_to, bought_from, halves_of, halves_from, residual_trades, unsigned, levied_from, outsides, residual_of, number_from}

-- ---- the unsigned trades

-- an unsigned trade of the residual market is one of the market
pub record IsFree (trades : List Ends) (contracts : List Contract) (b j : ℕ) (ends : Ends) : Type 0 where
  pub t : ℕ
  pub is : slice_get trades t ≡ Some ends
  pub free : is_signed contracts (b + t) ≡ false
  pub at : j ≡ number_from contracts b t

free_next : (trades : List Ends) (contracts : List Contract) (first : Ends) (b j step k : ℕ) (ends : Ends)
    → (if is_signed contracts b then 0 else 1) ≡ step → k ≡ step + j
    → IsFree trades contracts (b + 1) j ends → IsFree (first ∷ trades) contracts b k ends
free_next trades contracts first b j step k ends step_is at found = record {
  t = suc found.t;
  is = found.is;
  free = (let next : b + suc found.t ≡ b + 1 + found.t = omega arith in ap (is_signed contracts) next ∙ found.free);
  at = at ∙ (let here = found.at in omega (arith, here, step_is));
}

pub free_from : (trades : List Ends) (contracts : List Contract) (b j : ℕ) (ends : Ends)
    → slice_get (unsigned_from contracts b trades) j ≡ Some ends → IsFree trades contracts b j ends
free_from [] contracts b j ends is = absurd (cc is)
free_from (trade ∷ trades) contracts b j ends is =
    by_case (λ i there. free_from trades contracts (b + 1) i ends there) (is_signed contracts b) refl j is
  where
    by_case : ((i : ℕ) → slice_get (unsigned_from contracts (b + 1) trades) i ≡ Some ends
        → IsFree trades contracts (b + 1) i ends) → (s : Bool) → is_signed contracts b ≡ s → (j : ℕ)
        → slice_get (if s then unsigned_from contracts (b + 1) trades
        else trade ∷ unsigned_from contracts (b + 1) trades) j ≡ Some ends
        → IsFree (trade ∷ trades) contracts b j ends
    by_case rest true e j is =
        free_next trades contracts trade b j 0 j ends (ap (λ (s : Bool). if s then 0 else 1) e) (omega arith)
        (rest j is)
    by_case rest false e zero is = record {
      t = 0;
      is = is;
      free =
          (let here : b + 0 ≡ b = omega arith in ap (is_signed contracts) here ∙ e);
      at = refl;
    }
    by_case rest false e (suc j) is =
        free_next trades contracts trade b j 1 (suc j) ends (ap (λ (s : Bool). if s then 0 else 1) e) (omega arith)
        (rest j is)

-- and each has its place there
pub free_at : (trades : List Ends) (contracts : List Contract) (b t : ℕ) (ends : Ends) → slice_get trades t ≡ Some ends
    → is_signed contracts (b + t) ≡ false
    → slice_get (unsigned_from contracts b trades) (number_from contracts b t) ≡ Some ends
free_at [] contracts b t ends is free = absurd (cc is)
free_at (trade ∷ trades) contracts b zero ends is free =
    let at : b ≡ b + 0 = omega arith in
    let here : is_signed contracts b ≡ false = ap (is_signed contracts) at ∙ free in
    ap (λ (s : Bool). slice_get (if s then unsigned_from contracts (b + 1) trades
    else trade ∷ unsigned_from contracts (b + 1) trades) 0) here ∙ is
free_at (trade ∷ trades) contracts b (suc t) ends is free = by_case (is_signed contracts b)
    (let at : b + 1 + t ≡ b + suc t = omega arith in
    free_at trades contracts (b + 1) t ends is (ap (is_signed contracts) at ∙ free))
  where
    by_case : (s : Bool) → slice_get (unsigned_from contracts (b + 1) trades) (number_from contracts (b + 1) t)
        ≡ Some ends
        → slice_get (if s then unsigned_from contracts (b + 1) trades
        else trade ∷ unsigned_from contracts (b + 1) trades) ((if s then 0 else 1)
        + number_from contracts (b + 1) t) ≡ Some ends
    by_case true rest =
        let at : 0 + number_from contracts (b + 1) t ≡ number_from contracts (b + 1) t = omega arith in
        ap (slice_get (unsigned_from contracts (b + 1) trades)) at ∙ rest
    by_case false rest =
        let at : 1 + number_from contracts (b + 1) t ≡ suc (number_from contracts (b + 1) t) = omega arith in
        ap (slice_get (trade ∷ unsigned_from contracts (b + 1) trades)) at ∙ rest

-- ---- the halves of the contracts

-- each contract is on a trade
abbrev pub HaveTrades : List Ends → List Contract → Type 0
HaveTrades trades contracts = (c : ℕ) (contract : Contract) → slice_get contracts c ≡ Some contract → (trade : Ends)
    × (slice_get trades contract.trade ≡ Some trade)

pub have_trades : (trades : List Ends) (contracts : List Contract) → IsFeasible trades contracts
    → HaveTrades trades contracts
have_trades trades contracts feasible c contract is = elim (slice_get_cases trades contract.trade).1 [
  | inl found ↦ (found.0, found.2)
  | inr past ↦ absurd (let known = feasible.known c contract is in let above = past.0 in omega (arith, known, above))
]

-- half of a contract: its seller's, or its buyer's
pub record IsHalf (trades : List Ends) (contracts : List Contract) (g j : ℕ) (ends : Ends) : Type 0 where
  pub c : ℕ
  pub contract : Contract
  pub there : slice_get contracts c ≡ Some contract
  pub trade : Ends
  pub is : slice_get trades contract.trade ≡ Some trade
  pub which : ((ends ≡ sold_to (g + c) trade) × (j ≡ 2 * c)) ⊎ ((ends ≡ bought_from (g + c) trade) × (j ≡ 2 * c + 1))

half_next : (trades : List Ends) (first : Contract) (contracts : List Contract) (g j : ℕ) (ends : Ends)
    → IsHalf trades contracts (g + 1) j ends
    → IsHalf trades (first ∷ contracts) g (suc (suc j)) ends
half_next trades first contracts g j ends found = record {
  c = suc found.c;
  contract = found.contract;
  there = found.there;
  trade = found.trade;
  is = found.is;
  which = elim found.which [
    | inl sold ↦ inl (
      sold.0 ∙ ap (λ (n : ℕ). sold_to n found.trade) (omega arith),
      (let at = sold.1 in omega (arith, at)),
    )
    | inr bought ↦ inr (
      bought.0 ∙ ap (λ (n : ℕ). bought_from n found.trade) (omega arith),
      (let at = bought.1 in omega (arith, at)),
    )
  ];
}

pub half_from : (trades : List Ends) (contracts : List Contract) → HaveTrades trades contracts → (g j : ℕ) (ends : Ends)
    → slice_get (halves_from trades g contracts) j ≡ Some ends
    → IsHalf trades contracts g j ends
half_from trades [] have g j ends is = absurd (cc is)
half_from trades (contract ∷ contracts) have g j ends is = by_place
    (λ i there. half_from trades contracts (λ c other other_is. have (suc c) other other_is) (g + 1) i ends there)
    (have 0 contract refl) j
    (sym (ap (λ (o : Option Ends). slice_get (halves_of g o ++ halves_from trades (g + 1) contracts) j)
    (have 0 contract refl).1) ∙ is)
  where
    by_place : ((i : ℕ) → slice_get (halves_from trades (g + 1) contracts) i ≡ Some ends
        → IsHalf trades contracts (g + 1) i ends) → (found : (trade : Ends)
        × (slice_get trades contract.trade ≡ Some trade)) → (j : ℕ)
        → slice_get (sold_to g found.0 ∷ bought_from g found.0 ∷ halves_from trades (g + 1) contracts) j ≡ Some ends
        → IsHalf trades (contract ∷ contracts) g j ends
    by_place rest found zero is = record {
      c = 0;
      contract = contract;
      there = refl;
      trade = found.0;
      is = found.1;
      which = inl (sym (same_Some _ _ is) ∙ ap (λ (n : ℕ). sold_to n found.0) (omega arith), omega arith);
    }
    by_place rest found (suc zero) is = record {
      c = 0;
      contract = contract;
      there = refl;
      trade = found.0;
      is = found.1;
      which = inr (sym (same_Some _ _ is) ∙ ap (λ (n : ℕ). bought_from n found.0) (omega arith), omega arith);
    }
    by_place rest found (suc (suc j)) is = half_next trades contract contracts g j ends (rest j is)

-- both have their places
pub halves_at : (trades : List Ends) (contracts : List Contract) → HaveTrades trades contracts
    → (g c : ℕ) (contract : Contract) (trade : Ends)
    → slice_get contracts c ≡ Some contract → slice_get trades contract.trade ≡ Some trade
    → (slice_get (halves_from trades g contracts) (2 * c) ≡ Some (sold_to (g + c) trade))
    × (slice_get (halves_from trades g contracts) (2 * c + 1) ≡ Some (bought_from (g + c) trade))
halves_at trades [] have g c contract trade there is = absurd (cc there)
halves_at trades (first ∷ contracts) have g zero contract trade there is =
    let same : slice_get trades first.trade ≡ Some trade =
    ap (λ (z : Contract). slice_get trades z.trade) (same_Some first contract there) ∙ is in (
      ap (λ (o : Option Ends). slice_get (halves_of g o ++ halves_from trades (g + 1) contracts) 0) same
          ∙ ap (λ (n : ℕ). Some (sold_to n trade)) (omega arith),
      ap (λ (o : Option Ends). slice_get (halves_of g o ++ halves_from trades (g + 1) contracts) 1) same
          ∙ ap (λ (n : ℕ). Some (bought_from n trade)) (omega arith),
    )
halves_at trades (first ∷ contracts) have g (suc c) contract trade there is =
    let rest = halves_at trades contracts (λ d other other_is. have (suc d) other other_is) (g + 1) c contract trade
    there is in
    let found = have 0 first refl in (
      ap (λ (o : Option Ends). slice_get (halves_of g o ++ halves_from trades (g + 1) contracts) (2 * suc c)) found.1
          ∙ ap (slice_get (sold_to g found.0 ∷ bought_from g found.0 ∷ halves_from trades (g + 1) contracts)) (twice c)
          ∙ rest.0 ∙ ap (λ (n : ℕ). Some (sold_to n trade)) (omega arith),
      ap (λ (o : Option Ends). slice_get (halves_of g o ++ halves_from trades (g + 1) contracts) (2 * suc c + 1))
          found.1
          ∙ ap (slice_get (sold_to g found.0 ∷ bought_from g found.0 ∷ halves_from trades (g + 1) contracts))
          (twice_more c)
          ∙ rest.1 ∙ ap (λ (n : ℕ). Some (bought_from n trade)) (omega arith),
    )
  where
    twice : (c : ℕ) → 2 * suc c ≡ suc (suc (2 * c))
    twice c = omega arith

    twice_more : (c : ℕ) → 2 * suc c + 1 ≡ suc (suc (2 * c + 1))
    twice_more c = omega arith

-- ---- all trades

-- how many unsigned trades there are
abbrev pub free_count : List Ends → List Contract → ℕ
free_count trades contracts = length (unsigned_from contracts 0 trades)

-- a trade of the residual market is free, or half of a contract
pub record IsHalfAt (trades : List Ends) (contracts : List Contract) (g s : ℕ) (ends : Ends) : Type 0 where
  pub j : ℕ
  pub at : s ≡ free_count trades contracts + j
  pub half : IsHalf trades contracts g j ends

pub trade_from : (trades : List Ends) (contracts : List Contract) → HaveTrades trades contracts
    → (g s : ℕ) (ends : Ends) → slice_get (residual_trades g trades contracts) s ≡ Some ends
    → IsFree trades contracts 0 s ends ⊎ IsHalfAt trades contracts g s ends
trade_from trades contracts have g s ends is =
    elim (append_cases (unsigned_from contracts 0 trades) (halves_from trades g contracts) s ends is) [
      | inl front ↦ inl (free_from trades contracts 0 s ends front.0)
      | inr behind ↦
          inr (record {
            j = behind.place;
            at = behind.at;
            half =
                half_from trades contracts have g behind.place ends behind.is;
          })
    ]

pub free_trade : (trades : List Ends) (contracts : List Contract) (g t : ℕ) (ends : Ends)
    → slice_get trades t ≡ Some ends → is_signed contracts t ≡ false
    → slice_get (residual_trades g trades contracts) (number_from contracts 0 t) ≡ Some ends
free_trade trades contracts g t ends is free =
    append_front (unsigned_from contracts 0 trades) (halves_from trades g contracts) (number_from contracts 0 t) ends
    (free_at trades contracts 0 t ends is (let at : 0 + t ≡ t = omega arith in ap (is_signed contracts) at ∙ free))

pub half_trades : (trades : List Ends) (contracts : List Contract) → HaveTrades trades contracts
    → (g c : ℕ) (contract : Contract) (trade : Ends)
    → slice_get contracts c ≡ Some contract → slice_get trades contract.trade ≡ Some trade
    → (slice_get (residual_trades g trades contracts) (free_count trades contracts + 2 * c)
    ≡ Some (sold_to (g + c) trade))
    × (slice_get (residual_trades g trades contracts) (free_count trades contracts + (2 * c + 1))
    ≡ Some (bought_from (g + c) trade))
half_trades trades contracts have g c contract trade there is =
    let halves = halves_at trades contracts have g c contract trade there is in (
      append_behind (unsigned_from contracts 0 trades) (halves_from trades g contracts) (2 * c)
          (free_count trades contracts + 2 * c) (sold_to (g + c) trade) refl halves.0,
      append_behind (unsigned_from contracts 0 trades) (halves_from trades g contracts) (2 * c + 1)
          (free_count trades contracts + (2 * c + 1)) (bought_from (g + c) trade) refl halves.1,
    )

-- ---- the firms

-- firm f of the market as it is in the residual market
abbrev pub levied_firm : List Ends → List Contract → ℤ → ℤ → ℕ → Firm → Firm
levied_firm trades contracts scale tax f firm =
    levied scale (part trades f firm.count (unsigned (length trades) contracts)) tax firm

levied_get : (trades : List Ends) (contracts : List Contract) (scale tax : ℤ) (firms : List Firm) (b f : ℕ)
    → slice_get (levied_from trades contracts scale tax b firms) f
    ≡ option_map (levied_firm trades contracts scale tax (b + f)) (slice_get firms f)
levied_get trades contracts scale tax [] b f = refl
levied_get trades contracts scale tax (firm ∷ firms) b zero =
    ap (λ (h : ℕ). Some (levied_firm trades contracts scale tax h firm)) (omega arith)
levied_get trades contracts scale tax (firm ∷ firms) b (suc f) =
    levied_get trades contracts scale tax firms (b + 1) f
    ∙ ap (λ (h : ℕ). option_map (levied_firm trades contracts scale tax h) (slice_get firms f)) (omega arith)

pub levied_count : (trades : List Ends) (contracts : List Contract) (scale tax : ℤ) (b : ℕ) (firms : List Firm)
    → length (levied_from trades contracts scale tax b firms) ≡ length firms
levied_count trades contracts scale tax b [] = refl
levied_count trades contracts scale tax b (firm ∷ firms) =
    ap (λ (n : ℕ). suc n) (levied_count trades contracts scale tax (b + 1) firms)

pub market_firm : (firms : List Firm) (trades : List Ends) (over : ℤ) (contracts : List Contract) (scale tax : ℤ)
    (f : ℕ) (firm : Firm) → slice_get firms f ≡ Some firm
    → slice_get (residual_of firms trades over contracts scale tax) f
    ≡ Some (levied_firm trades contracts (over *ℤ scale) tax f firm)
market_firm firms trades over contracts scale tax f firm is =
    append_front (levied_from trades contracts (over *ℤ scale) tax 0 firms) (outsides scale contracts) f
    (levied_firm trades contracts (over *ℤ scale) tax f firm)
    (levied_get trades contracts (over *ℤ scale) tax firms 0 f
    ∙ ap (λ (h : ℕ). option_map (levied_firm trades contracts (over *ℤ scale) tax h) (slice_get firms f))
    (omega arith)
    ∙ ap (option_map (levied_firm trades contracts (over *ℤ scale) tax f)) is)

pub outside_firm : (firms : List Firm) (trades : List Ends) (over : ℤ) (contracts : List Contract) (scale tax : ℤ)
    (c : ℕ) (contract : Contract) → slice_get contracts c ≡ Some contract
    → slice_get (residual_of firms trades over contracts scale tax) (length firms + c)
    ≡ Some (outside (scale *ℤ contract.price))
outside_firm firms trades over contracts scale tax c contract is =
    append_behind (levied_from trades contracts (over *ℤ scale) tax 0 firms) (outsides scale contracts) c (length firms
    + c) (outside (scale *ℤ contract.price))
    (ap (λ (n : ℕ). n + c) (sym (levied_count trades contracts (over *ℤ scale) tax 0 firms)))
    (slice_get-map (λ (z : Contract). outside (scale *ℤ z.price)) contracts c
    ∙ ap (option_map (λ (z : Contract). outside (scale *ℤ z.price))) is)

-- a firm of the residual market is one of the market, or one outside
pub record IsMarketFirm (firms : List Firm) (trades : List Ends) (contracts : List Contract) (scale tax : ℤ) (f : ℕ)
    (party : Firm) : Type 0 where
  pub firm : Firm
  pub is : slice_get firms f ≡ Some firm
  pub same : party ≡ levied_firm trades contracts scale tax f firm

pub record IsOutsideFirm (firms : List Firm) (contracts : List Contract) (scale : ℤ) (f : ℕ) (party : Firm) : Type
    0 where
  pub c : ℕ
  pub at : f ≡ length firms + c
  pub contract : Contract
  pub there : slice_get contracts c ≡ Some contract
  pub same : party ≡ outside (scale *ℤ contract.price)

pub firm_from : (firms : List Firm) (trades : List Ends) (over : ℤ) (contracts : List Contract) (scale tax : ℤ) (f : ℕ)
    (party : Firm)
    → slice_get (residual_of firms trades over contracts scale tax) f ≡ Some party
    → IsMarketFirm firms trades contracts (over *ℤ scale) tax f party ⊎ IsOutsideFirm firms contracts scale f party
firm_from firms trades over contracts scale tax f party is =
    elim (append_cases (levied_from trades contracts (over *ℤ scale) tax 0 firms)
    (outsides scale contracts) f party is) [
      | inl front ↦ inl (market (slice_get firms f) refl (sym (levied_get trades contracts (over *ℤ scale) tax firms 0 f
          ∙ ap (λ (h : ℕ). option_map (levied_firm trades contracts (over *ℤ scale) tax h) (slice_get firms f))
          (omega arith)) ∙ front.0))
      | inr behind ↦
          inr (out behind.place (behind.at ∙ ap (λ (n : ℕ). n + behind.place)
          (levied_count trades contracts (over *ℤ scale) tax 0 firms)) (slice_get contracts behind.place) refl
          (sym (slice_get-map (λ (z : Contract). outside (scale *ℤ z.price)) contracts behind.place) ∙ behind.is))
    ]
  where
    market : (o : Option Firm) → slice_get firms f ≡ o
        → option_map (levied_firm trades contracts (over *ℤ scale) tax f) o ≡ Some party
        → IsMarketFirm firms trades contracts (over *ℤ scale) tax f party
    market None there e = absurd (cc e)
    market (Some firm) there e = record { firm = firm; is = there; same = same_Some _ _ (sym e) }

    out : (c : ℕ) → f ≡ length firms + c → (o : Option Contract) → slice_get contracts c ≡ o
        → option_map (λ (z : Contract). outside (scale *ℤ z.price)) o ≡ Some party
        → IsOutsideFirm firms contracts scale f party
    out c at None there e = absurd (cc e)
    out c at (Some contract) there e = record {
      c = c;
      at = at;
      contract = contract;
      there = there;
      same =
          same_Some _ _ (sym e);
    }
