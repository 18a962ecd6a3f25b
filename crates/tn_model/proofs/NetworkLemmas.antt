-- Where trades stand, and the list of a bundle's trades.
use Rattle.std.proofs.Common.{◌≡◌, ℕ, zero, suc, ◌+◌, ◌<◌, Bool, true, false, if◌then◌else◌, List, [], ◌∷◌, ◌++◌, length, get_or, Some, refl, sym, ap, ◌∙◌, subst, arith, inl, inr, append-nil}
use Rattle.std.specs.Prelude.{◌↔◌, All, Contains, slice_get}
use Rattle.std.specs.List.Sorted.{IsStrictlyIncreasing}
use Rattle.std.proofs.lemmas.Bool.{cases_lt, cases_eq}
use Rattle.std.proofs.lemmas.List.{length_push, get_or_default, get_or_push, get_or_append_left}
use Rattle.std.proofs.lemmas.List.Elements.{Contains-get_or, Contains-push, Contains-push_cases, Contains-append_left}
use Rattle.tn_base.specs.Sets.{has}
use Rattle.tn_base.specs.Firm.{Firm}
use Rattle.tn_base.proofs.SetLemmas.{member_of_set}
use Rattle.tn_model.specs.declared.ends.Ends.{Ends}
use Rattle.tn_model.specs.Network.{own, part, stands_at, trades_of, trades_on, IsNetwork, HaveAscendingPositions}
use Rattle.tn_model.specs.NetworkLaws.{StandsThere, IsTradeOf}

-- the trade that `own` finds is there, and it stands there
pub own_stands : (trades : List Ends) (f k : ℕ) → own trades f k < length trades
    → StandsThere trades f k (own trades f k)
own_stands [] f k inside = absurd (omega (arith, inside))
own_stands (trade ∷ trades) f k inside = by_case (stands_at trade f k) refl (own_stands trades f k)
  where
    by_case : (b : Bool) → stands_at trade f k ≡ b → (own trades f k < length trades
        → StandsThere trades f k (own trades f k))
        → StandsThere (trade ∷ trades) f k (own (trade ∷ trades) f k)
    by_case true e rest =
        let at : own (trade ∷ trades) f k ≡ 0 = ap (λ (b : Bool). if b then 0 else own trades f k + 1) e in
        subst (λ (t : ℕ). StandsThere (trade ∷ trades) f k t) (sym at) (record { trade = trade; is = refl; stands = e })
    by_case false e rest =
        let at : own (trade ∷ trades) f k ≡ own trades f k + 1 =
        ap (λ (b : Bool). if b then 0 else own trades f k + 1) e in
        let found = rest (omega (arith, inside, at)) in
        let next : own (trade ∷ trades) f k ≡ suc (own trades f k) = at ∙ omega arith in
        subst (λ (t : ℕ). StandsThere (trade ∷ trades) f k t) (sym next) (record {
          trade = found.trade;
          is =
              found.is;
          stands = found.stands;
        })

-- the trade at a position of a firm is the one that stands there
pub one_trade : (firms : List Firm) (trades : List Ends) (f k t : ℕ) (firm : Firm) → IsNetwork firms trades
    → slice_get firms f ≡ Some firm → k < firm.count
    → (own trades f k ≡ t) ↔ StandsThere trades f k t
one_trade firms trades f k t firm network is inside =
    let found = own_stands trades f k (network.whole f k firm is inside) in (
      (λ same. subst (λ (s : ℕ). StandsThere trades f k s) same found),
      (λ there. network.once f k (own trades f k) t found.trade there.trade found.is there.is found.stands
          there.stands),
    )

-- a firm's bundle of a set of trades has the positions whose trade is in the set
pub member_of_part : (trades : List Ends) (f n on k : ℕ) → (has (part trades f n on) k ≡ true)
    ↔ ((k < n) × (has on (own trades f k) ≡ true))
member_of_part trades f n on k = member_of_set (λ i. has on (own trades f i)) n k

-- ---- lists of trades

-- a trade at a position below n that is in the bundle
pub record IsOwnOf (trades : List Ends) (f n x t : ℕ) : Type 0 where
  pub at : ℕ
  pub below : at < n
  pub has_it : has x at ≡ true
  pub is : own trades f at ≡ t

own_more : (trades : List Ends) (f n x t : ℕ) → IsOwnOf trades f n x t → IsOwnOf trades f (suc n) x t
own_more trades f n x t found = let below = found.below in
    record { at = found.at; below = omega (arith, below); has_it = found.has_it; is = found.is }

pub own_from_list : (trades : List Ends) (f n x t : ℕ) → Contains (trades_of trades f n x) t → IsOwnOf trades f n x t
own_from_list trades f zero x t found = let inside = found.1 in absurd (omega (arith, inside))
own_from_list trades f (suc n) x t found = by_case (own_from_list trades f n x t) (has x n) refl found
  where
    by_case : (Contains (trades_of trades f n x) t → IsOwnOf trades f n x t) → (b : Bool) → has x n ≡ b
        → Contains (trades_of trades f n x ++ (if b then own trades f n ∷ [] else [])) t → IsOwnOf trades f (suc n) x t
    by_case rest true here there = elim (Contains-push_cases (trades_of trades f n x) (own trades f n) t there) [
      | inl earlier ↦ own_more trades f n x t (rest earlier)
      | inr last ↦ record { at = n; below = omega arith; has_it = here; is = last }
    ]
    by_case rest false away there =
        own_more trades f n x t
        (rest (subst (λ (list : List ℕ). Contains list t) (append-nil (trades_of trades f n x)) there))

pub own_in_list : (trades : List Ends) (f n x t : ℕ) → IsOwnOf trades f n x t → Contains (trades_of trades f n x) t
own_in_list trades f zero x t found = let none = found.below in absurd (omega (arith, none))
own_in_list trades f (suc n) x t found = elim (cases_eq found.at n) [
  | inl last ↦
      let has_it : has x n ≡ true = ap (has x) (sym last) ∙ found.has_it in
      let is : own trades f n ≡ t = ap (own trades f) (sym last) ∙ found.is in
      subst (λ (b : Bool). Contains (trades_of trades f n x ++ (if b then own trades f n ∷ [] else [])) t) (sym has_it)
      (subst (λ (s : ℕ). Contains (trades_of trades f n x ++ own trades f n ∷ []) s) is
      (Contains-push (trades_of trades f n x) (own trades f n)))
  | inr other ↦
      let below = found.below in
      Contains-append_left (trades_of trades f n x) (if has x n then own trades f n ∷ [] else []) t
      (own_in_list trades f n x t (record {
        at = found.at;
        below = omega (arith, below, other);
        has_it =
            found.has_it;
        is = found.is;
      }))
]

-- the list of a bundle's trades has exactly those that stand at the bundle's positions
pub listed_trades : (firms : List Firm) (trades : List Ends) (f x t : ℕ) (firm : Firm) → IsNetwork firms trades
    → slice_get firms f ≡ Some firm
    → Contains (trades_of trades f firm.count x) t ↔ IsTradeOf trades f firm.count x t
listed_trades firms trades f x t firm network is = (
  (λ listed.
      let found = own_from_list trades f firm.count x t listed in
      record {
        at = found.at;
        below = found.below;
        has_it = found.has_it;
        there = (one_trade firms trades f found.at t firm network is found.below).0 found.is;
      }),
  (λ found. own_in_list trades f firm.count x t (record {
    at = found.at;
    below = found.below;
    has_it = found.has_it;
    is = (one_trade firms trades f found.at t firm network is found.below).1 found.there;
  })),
)

-- one more number at the end, above all others
increasing-push : (xs : List ℕ) (y : ℕ) → IsStrictlyIncreasing xs → ((t : ℕ) → Contains xs t → t < y)
    → IsStrictlyIncreasing (xs ++ y ∷ [])
increasing-push xs y up above k inside =
    let long = length_push xs y in
    elim (cases_lt (k + 1) (length xs)) [
      | inl h ↦
          let here = get_or_append_left xs (y ∷ []) 0 k (omega (arith, h)) in
          let next = get_or_append_left xs (y ∷ []) 0 (k + 1) h in
          let less = up k h in
          omega (arith, here, next, less)
      | inr h ↦
          let last : length xs ≡ k + 1 = omega (arith, h, inside, long) in
          let here = get_or_append_left xs (y ∷ []) 0 k (omega (arith, last)) in
          let next = get_or_push xs y 0 (k + 1) last in
          let less = above (get_or xs k 0) (Contains-get_or xs k 0 (omega (arith, last))) in
          omega (arith, here, next, less)
    ]

-- the list of a bundle ascends strictly where the trades ascend with the firm's positions
pub ascending_list : (trades : List Ends) (f n x : ℕ) → ((i j : ℕ) → i < j → j < n → own trades f i < own trades f j)
    → IsStrictlyIncreasing (trades_of trades f n x)
ascending_list trades f zero x ascend = λ k inside. absurd (omega (arith, inside))
ascending_list trades f (suc n) x ascend =
    let rest = ascending_list trades f n x (λ i j before below. ascend i j before (omega (arith, below))) in
    elim (has x n) as (λ (b : Bool). IsStrictlyIncreasing (trades_of trades f n x ++ (if b then own trades f n ∷ []
    else []))) [
      | true ↦ increasing-push (trades_of trades f n x) (own trades f n) rest (λ t listed.
          let found = own_from_list trades f n x t listed in
          let less = ascend found.at n found.below (omega arith) in
          omega (arith, less, found.is))
      | false ↦ subst IsStrictlyIncreasing (sym (append-nil (trades_of trades f n x))) rest
    ]

pub ascending_trades : (firms : List Firm) (trades : List Ends) (f x : ℕ) (firm : Firm)
    → HaveAscendingPositions firms trades → slice_get firms f ≡ Some firm
    → IsStrictlyIncreasing (trades_of trades f firm.count x)
ascending_trades firms trades f x firm ascend is =
    ascending_list trades f firm.count x (λ i j before below. ascend f i j firm is before below)

-- ---- the trades of a set

on_inside : (on n t : ℕ) → Contains (trades_on on n) t → t < n
on_inside on zero t found = let inside = found.1 in absurd (omega (arith, inside))
on_inside on (suc n) t found = by_case (on_inside on n t) (has on n) found
  where
    by_case : (Contains (trades_on on n) t → t < n) → (b : Bool)
        → Contains (trades_on on n ++ (if b then n ∷ [] else [])) t → t < suc n
    by_case rest true there = elim (Contains-push_cases (trades_on on n) n t there) [
      | inl earlier ↦ let less = rest earlier in omega (arith, less)
      | inr last ↦ omega (arith, last)
    ]
    by_case rest false there = let less =
        rest (subst (λ (list : List ℕ). Contains list t) (append-nil (trades_on on n)) there) in omega (arith, less)

-- each is below n
pub on_below : (on n : ℕ) → All (λ t. t < n) (trades_on on n)
on_below on n k d inside =
    let listed = on_inside on n (get_or (trades_on on n) k 0) (Contains-get_or (trades_on on n) k 0 inside) in
    subst (λ t. t < n) (get_or_default (trades_on on n) k 0 d inside) listed

-- and they ascend
pub on_ascends : (on n : ℕ) → IsStrictlyIncreasing (trades_on on n)
on_ascends on zero = λ k inside. absurd (omega (arith, inside))
on_ascends on (suc n) =
    let rest = on_ascends on n in
    elim (has on n) as (λ (b : Bool). IsStrictlyIncreasing (trades_on on n ++ (if b then n ∷ [] else []))) [
      | true ↦ increasing-push (trades_on on n) n rest (on_inside on n)
      | false ↦ subst IsStrictlyIncreasing (sym (append-nil (trades_on on n))) rest
    ]
