-- The unit trades are in order, so that they make a network with the unit firms.
use Rattle.std.proofs.Common.{◌≡◌, ℕ, zero, suc, ◌+◌, ◌<◌, ◌≤◌, List, [], ◌∷◌, ◌++◌, length, take, slice_get, Some, inl, inr, refl, sym, ap, ◌∙◌, subst, arith, length-append}
use Rattle.std.proofs.lemmas.Bool.{cases_eq}
use Rattle.std.proofs.lemmas.List.{take_all, take-append-le}
use Rattle.std.proofs.lemmas.Option.{none-some, same_Some}
use Rattle.tn_base.specs.Firm.{Firm}
use Rattle.tn_model.specs.InOrder.{AreInOrder}
use Rattle.tn_model.proofs.InOrderLemmas.{AreInOrder-push}
use Rattle.tn_model.proofs.InOrderNetworks.{HaveSides, network}
use Rattle.tn_counts.specs.Counts.{CountFirm, HaveFirms, trade_at}
use Rattle.tn_counts.specs.declared.trade.UnitTrade.{UnitTrade}
use Rattle.tn_unit_laws.specs.Laws.{UnitsMakeNetworks}
use Rattle.tn_unit_laws.specs.Units.{HaveTwoEnds, first_unit_trades, trade_of, unit_after, unit_count, unit_firm, unit_firms, unit_firms_from, unit_trades}
use Rattle.tn_unit_laws.proofs.CountLemmas.{trade_of-within}

pub length-units : (trades : List UnitTrade) (n : ℕ) → length (first_unit_trades trades n) ≡ n
unfolding first_unit_trades
length-units trades zero = refl
length-units trades (suc n) =
    let before = length-units trades n in
    let push = length-append (first_unit_trades trades n)
    (unit_after (first_unit_trades trades n) (trade_at trades (trade_of trades n)) ∷ []) in
    omega (arith, before, push)

-- the first of them are those that were there before
pub take-units : (trades : List UnitTrade) (n more : ℕ)
    → take n (first_unit_trades trades (n + more)) ≡ first_unit_trades trades n
unfolding first_unit_trades
take-units trades n zero =
    let none : n + 0 ≡ n = omega arith in
    let long = length-units trades n in
    ap (λ (k : ℕ). take n (first_unit_trades trades k)) none
    ∙ take_all n (first_unit_trades trades n) (omega (arith, long))
take-units trades n (suc more) =
    let next : n + suc more ≡ suc (n + more) = omega arith in
    let long = length-units trades (n + more) in
    ap (λ (k : ℕ). take n (first_unit_trades trades k)) next
    ∙ take-append-le n (first_unit_trades trades (n + more))
    (unit_after (first_unit_trades trades (n + more)) (trade_at trades (trade_of trades (n + more))) ∷ [])
    (omega (arith, long))
    ∙ take-units trades n more

last_of : {A : Type 0} (xs : List A) (x : A) → slice_get (xs ++ x ∷ []) (length xs) ≡ Some x
last_of [] x = refl
last_of (y ∷ xs) x = last_of xs x

earlier_of : {A : Type 0} (xs ys : List A) (k : ℕ) (x : A) → slice_get xs k ≡ Some x → slice_get (xs ++ ys) k ≡ Some x
earlier_of [] ys k x at = absurd (none-some x at)
earlier_of (y ∷ xs) ys zero x at = at
earlier_of (y ∷ xs) ys (suc k) x at = earlier_of xs ys k x at

-- a unit trade is a unit of its trade, after the unit trades before it
pub unit_at : (trades : List UnitTrade) (n u : ℕ) → u < n
    → slice_get (first_unit_trades trades n) u
    ≡ Some (unit_after (first_unit_trades trades u) (trade_at trades (trade_of trades u)))
unfolding first_unit_trades
unit_at trades zero u below = absurd (omega (arith, below))
unit_at trades (suc n) u below = elim (cases_eq u n) [
  | inl last ↦
      subst (λ (k : ℕ). slice_get (first_unit_trades trades (suc n)) k
      ≡ Some (unit_after (first_unit_trades trades k) (trade_at trades (trade_of trades k)))) (sym last)
      (subst (λ (k : ℕ). slice_get (first_unit_trades trades (suc n)) k
      ≡ Some (unit_after (first_unit_trades trades n) (trade_at trades (trade_of trades n)))) (length-units trades n)
      (last_of (first_unit_trades trades n)
      (unit_after (first_unit_trades trades n) (trade_at trades (trade_of trades n)))))
  | inr other ↦
      earlier_of (first_unit_trades trades n)
      (unit_after (first_unit_trades trades n) (trade_at trades (trade_of trades n)) ∷ []) u
      (unit_after (first_unit_trades trades u) (trade_at trades (trade_of trades u)))
      (unit_at trades n u (omega (arith, below, other)))
]

units_in_order : (firms : ℕ) (trades : List UnitTrade) → HaveFirms firms trades → HaveTwoEnds trades → (n : ℕ)
    → n ≤ unit_count trades → AreInOrder firms (first_unit_trades trades n)
unfolding first_unit_trades
units_in_order firms trades ends apart zero most = λ t trade is. absurd (none-some trade is)
units_in_order firms trades ends apart (suc n) most =
    AreInOrder-push firms (first_unit_trades trades n)
    (unit_after (first_unit_trades trades n) (trade_at trades (trade_of trades n)))
    (units_in_order firms trades ends apart n (omega (arith, most)))
    (let within = trade_of-within trades n (omega (arith, most)) in
    record {
      seller = ends.sellers (trade_of trades n) within;
      buyer = ends.buyers (trade_of trades n) within;
      apart = apart (trade_of trades n) within;
      at_seller = refl;
      at_buyer = refl;
    })

pub in_order : (firms : ℕ) (trades : List UnitTrade) → HaveFirms firms trades → HaveTwoEnds trades
    → AreInOrder firms (unit_trades trades)
in_order firms trades ends apart = units_in_order firms trades ends apart (unit_count trades) (omega arith)

-- ---- the unit firms

pub unit_firm_at : (trades : List UnitTrade) (s : ℕ) (firms : List CountFirm) (i f : ℕ) (firm : CountFirm) → f ≡ s + i
    → slice_get firms i ≡ Some firm → slice_get (unit_firms_from trades s firms) i ≡ Some (unit_firm trades f firm)
unit_firm_at trades s [] i f firm at is = absurd (none-some firm is)
unit_firm_at trades s (first ∷ firms) zero f firm at is =
    let place : s ≡ f = omega (arith, at) in
    ap Some (ap (λ (g : ℕ). unit_firm trades g first) place ∙ ap (unit_firm trades f) (same_Some first firm is))
unit_firm_at trades s (first ∷ firms) (suc i) f firm at is =
    unit_firm_at trades (s + 1) firms i f firm (omega (arith, at)) is

-- the firm by counts that a firm of the unit network comes from
pub record ComesFrom (trades : List UnitTrade) (firms : List CountFirm) (i f : ℕ) (unit : Firm) : Type 0 where
  pub firm : CountFirm
  pub is : slice_get firms i ≡ Some firm
  pub same : unit_firm trades f firm ≡ unit

pub comes_from : (trades : List UnitTrade) (s : ℕ) (firms : List CountFirm) (i f : ℕ) (unit : Firm) → f ≡ s + i
    → slice_get (unit_firms_from trades s firms) i ≡ Some unit → ComesFrom trades firms i f unit
comes_from trades s [] i f unit at is = absurd (none-some unit is)
comes_from trades s (first ∷ firms) zero f unit at is =
    let place : f ≡ s = omega (arith, at) in
    record {
      firm = first;
      is = refl;
      same = ap (λ (g : ℕ). unit_firm trades g first) place ∙ same_Some (unit_firm trades s first) unit is;
    }
comes_from trades s (first ∷ firms) (suc i) f unit at is =
    let rest = comes_from trades (s + 1) firms i f unit (omega (arith, at)) is in
    record { firm = rest.firm; is = rest.is; same = rest.same }

length-firms : (trades : List UnitTrade) (s : ℕ) (firms : List CountFirm)
    → length (unit_firms_from trades s firms) ≡ length firms
length-firms trades s [] = refl
length-firms trades s (firm ∷ firms) = ap suc (length-firms trades (s + 1) firms)

have_sides : (trades : List UnitTrade) (firms : List CountFirm) → HaveSides (unit_trades trades) (unit_firms trades firms)
have_sides trades firms f unit is =
    let from = comes_from trades 0 firms f f unit (omega arith) is in
    (sym (ap (λ (one : Firm). one.count) from.same), sym (ap (λ (one : Firm). one.buys) from.same))

pub units_network : UnitsMakeNetworks
units_network firms trades ends apart =
    network (unit_trades trades) (unit_firms trades firms)
    (subst (λ (n : ℕ). AreInOrder n (unit_trades trades)) (sym (length-firms trades 0 firms))
    (in_order (length firms) trades ends apart)) (have_sides trades firms)
