-- A firm of a network has as many own trades as stand at it in the list of trades.
use Rattle.std.proofs.Common.{◌≡◌, ℕ, ◌<◌, true, ◌&&◌, List, length, take, slice_get, Some, inl, inr, sym, ap, subst, ◌∙◌, arith}
use Rattle.std.specs.Prelude.{nat_eq}
use Rattle.std.proofs.lemmas.Bool.{and_parts, cases_lt, eqb-true, or_cases}
use Rattle.std.proofs.lemmas.List.{take_all}
use Rattle.std.proofs.lemmas.Option.{same_Some, slice_get_within}
use Rattle.tn_base.specs.Firm.{Firm}
use Rattle.tn_model.specs.declared.ends.Ends.{Ends}
use Rattle.tn_model.specs.InOrder.{sides_of, AreInOrder}
use Rattle.tn_model.specs.Network.{own, stands_at, IsNetwork}
use Rattle.tn_model.proofs.InOrderLemmas.{own_side}
use Rattle.tn_model.proofs.InOrderNetworks.{found, position_from_stands}
use Rattle.tn_model.proofs.NetworkLemmas.{own_stands}

module _ (firms : List Firm) (trades : List Ends) (order : AreInOrder (length firms) trades)
    (network : IsNetwork firms trades) (f : ℕ) (firm : Firm) (is : slice_get firms f ≡ Some firm) where
  -- where a trade stands is a position of the firm
  stands_within : (t k : ℕ) (trade : Ends) → slice_get trades t ≡ Some trade → stands_at trade f k ≡ true
      → k < firm.count
  stands_within t k trade at stands =
      elim (or_cases (nat_eq trade.seller f && nat_eq trade.at_seller k) (nat_eq trade.buyer f
      && nat_eq trade.at_buyer k) stands) [
        | inl sells ↦
            let parts = and_parts (nat_eq trade.seller f) (nat_eq trade.at_seller k) sells in
            let sold = network.sold t trade at in
            let same : sold.0 ≡ firm =
            same_Some sold.0 firm (sym sold.1 ∙ ap (slice_get firms) (eqb-true trade.seller f parts.0) ∙ is) in
            let below : trade.at_seller < firm.count = subst (λ (z : Firm). trade.at_seller < z.count) same sold.2 in
            omega (arith, below, eqb-true trade.at_seller k parts.1)
        | inr buys ↦
            let parts = and_parts (nat_eq trade.buyer f) (nat_eq trade.at_buyer k) buys in
            let bought = network.bought t trade at in
            let same : bought.0 ≡ firm =
            same_Some bought.0 firm (sym bought.1 ∙ ap (slice_get firms) (eqb-true trade.buyer f parts.0) ∙ is) in
            let below : trade.at_buyer < firm.count = subst (λ (z : Firm). trade.at_buyer < z.count) same bought.2 in
            omega (arith, below, eqb-true trade.at_buyer k parts.1)
      ]

  not_fewer : firm.count < length (sides_of trades f) → ⊥
  not_fewer fewer =
      let all : take (length trades) trades ≡ trades = take_all (length trades) trades (omega arith) in
      let there = found (length firms) f trades order (length trades) firm.count (omega arith)
      (subst (λ (front : List Ends). firm.count < length (sides_of front f)) (sym all) fewer) in
      let below = stands_within there.t firm.count there.trade there.is there.stands in
      absurd (omega (arith, below))

  not_more : length (sides_of trades f) < firm.count → ⊥
  not_more more =
      let k = length (sides_of trades f) in
      let there = own_stands trades f k (network.whole f k firm is more) in
      let at = position_from_stands (length firms) f trades order (own trades f k) k there.trade there.is there.stands
      in
      let position : k ≡ length (sides_of (take (own trades f k) trades) f) = at.2 in
      let within =
      slice_get_within (sides_of trades f) (length (sides_of (take (own trades f k) trades) f)) at.0
      (own_side f trades (own trades f k) there.trade at.0 there.is at.1) in
      absurd (omega (arith, within, position))

  pub counts_own : firm.count ≡ length (sides_of trades f)
  counts_own = elim (cases_lt firm.count (length (sides_of trades f))) [
    | inl fewer ↦ absurd (not_fewer fewer)
    | inr least ↦ elim (cases_lt (length (sides_of trades f)) firm.count) [
      | inl more ↦
          absurd (not_more more)
      | inr most ↦ omega (arith, least, most)
    ]
  ]
