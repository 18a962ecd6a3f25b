-- What the firms of a document have depends on the units of their own trades alone.
use Rattle.std.proofs.Common.{◌≡◌, ℕ, zero, suc, ◌+◌, ◌<◌, Bool, true, false, ◌==◌, ◌||◌, if◌then◌else◌, List, [], ◌∷◌, length, slice_get, Option, Some, None, refl, sym, ap, ap₂, ◌∙◌, subst, arith, ℤ, pos, ◌+ℤ◌, ◌-ℤ◌, ◌*ℤ◌}
use Rattle.std.specs.Prelude.{All, cond, nat_eq}
use Rattle.std.specs.List.{list_any}
use Rattle.std.proofs.lemmas.Option.{get_or_from_slice_get, none-some, option_and_then_some, same_Some, slice_get_within}
use Rattle.tn_base.specs.Options.{both}
use Rattle.tn_base.specs.declared.side.Side.{Side}
use Rattle.tn_base.specs.declared.side.Side.TheVariants.{Buy, Sell}
use Rattle.tn_links.proofs.TotalLemmas.{total-same}
use Rattle.tn_counts.specs.Counts.{CountFirm, trade_at}
use Rattle.tn_counts.specs.Laminar.{bought_by}
use Rattle.tn_counts.specs.declared.trade.UnitTrade.{UnitTrade}
use Rattle.tn_read_units.specs.Documents.{IsOwn, IsOwnAmount, IsUnitDocument}
use Rattle.tn_read_units.specs.Firms.{UnitDocument, WrittenFirm}
use Rattle.tn_read_units.specs.Own.{side_at}
use Rattle.tn_read_units.specs.Sets.{WrittenSet}
use Rattle.tn_read_units.specs.Worths.{firms_from, written_amounts, written_firms, written_net, written_number, written_sum, written_worth}
use Rattle.tn_read_units.specs.declared.amounts.Amount.{Amount}
use Rattle.tn_unit_answers.proofs.SolutionLemmas.{ends_are, trade_is}
use Rattle.tn_unit_laws.specs.Laws.{FitByCounts}
use Rattle.tn_unit_laws.specs.Units.{DependsOnOwn, is_own}
use Rattle.tn_unit_laws.proofs.PaymentLemmas.{not_ends}

-- a trade of which the firm is an end is its own
own_end : (trades : List UnitTrade) (f t : ℕ) (side : Side) → IsOwn trades f t side
    → (t < length trades) × (is_own trades f t ≡ true)
own_end trades f t side own =
    option_and_then_some (side_at f) (slice_get trades t) side own (λ trade at is. (
      slice_get_within trades t trade at,
      ap (λ (one : UnitTrade). one.seller == f || one.buyer == f)
          (get_or_from_slice_get trades t trade (record { seller = 0; buyer = 0; units = 0 }) at)
          ∙ by (nat_eq trade.seller f) (nat_eq trade.buyer f) is,
    ))
  where
    by : (sells buys : Bool) → cond sells (Some Sell) (cond buys (Some Buy) None) ≡ Some side → (sells || buys) ≡ true
    by true buys is = refl
    by false true is = refl
    by false false is = absurd (none-some side is)

module _ (trades : List UnitTrade) (f : ℕ) (counts others : ℕ → ℕ)
    (same : (t : ℕ) → t < length trades → is_own trades f t ≡ true → counts t ≡ others t) where
  amounts_same : (amounts : List Amount) → All (IsOwnAmount trades f) amounts
      → written_amounts counts amounts ≡ written_amounts others amounts
  amounts_same [] own = refl
  amounts_same (amount ∷ amounts) own =
      let here = own 0 amount (omega arith) in
      let ends = own_end trades f amount.trade amount.side here.own in
      ap₂ (λ (n : ℕ) (z : ℤ). amount.number *ℤ pos n +ℤ z) (same amount.trade ends.0 ends.1)
      (amounts_same amounts (λ k d below. own (suc k) d (omega (arith, below))))

  net_same : (set : WrittenSet) → written_net trades f set counts ≡ written_net trades f set others
  net_same set =
      total-same (λ t. if list_any (λ k. k == t) set.members.trades
      then bought_by f (trade_at trades t) (pos (counts t)) else pos 0)
      (λ t. if list_any (λ k. k == t) set.members.trades
      then bought_by f (trade_at trades t) (pos (others t)) else pos 0) (length trades)
      (λ t below. ap (λ (z : ℤ). if list_any (λ k. k == t) set.members.trades then z else pos 0)
      (by t below (is_own trades f t) refl))
    where
      by : (t : ℕ) → t < length trades → (b : Bool) → is_own trades f t ≡ b
          → bought_by f (trade_at trades t) (pos (counts t)) ≡ bought_by f (trade_at trades t) (pos (others t))
      by t below true mine = ap (λ (n : ℕ). bought_by f (trade_at trades t) (pos n)) (same t below mine)
      by t below false other =
          let ends = not_ends trades f t other in
          ap₂ (λ (a b : Bool). (if a then pos (counts t) else pos 0) -ℤ (if b then pos (counts t) else pos 0)) ends.1 ends.0
          ∙ sym (ap₂ (λ (a b : Bool). (if a then pos (others t) else pos 0) -ℤ (if b then pos (others t) else pos 0)) ends.1
          ends.0)

  sum_same : (sets : List WrittenSet) → written_sum trades f counts sets ≡ written_sum trades f others sets
  sum_same [] = refl
  sum_same (set ∷ sets) = ap₂ (λ (z : ℤ) (o : Option ℤ). both (written_number set z) o) (net_same set) (sum_same sets)

-- the written firm that a firm of a document comes from
record IsWritten (trades : List UnitTrade) (firms : List WrittenFirm) (i f : ℕ) (firm : CountFirm) : Type 0 where
  written : WrittenFirm
  at : slice_get firms i ≡ Some written
  is : firm ≡ record { worth = written_worth trades f written }

written_from : (trades : List UnitTrade) (s : ℕ) (firms : List WrittenFirm) (i f : ℕ) (firm : CountFirm) → f ≡ s + i
    → slice_get (firms_from trades s firms) i ≡ Some firm → IsWritten trades firms i f firm
written_from trades s [] i f firm at is = absurd (none-some firm is)
written_from trades s (first ∷ firms) zero f firm at is =
    let place : s ≡ f = omega (arith, at) in
    record {
      written = first;
      at = refl;
      is = sym (same_Some (counted s) firm is) ∙ ap counted place;
    }
  where
    counted : ℕ → CountFirm
    counted g = record { worth = written_worth trades g first }
written_from trades s (first ∷ firms) (suc i) f firm at is =
    let rest = written_from trades (suc s) firms i f firm (omega (arith, at)) is in
    record { written = rest.written; at = rest.at; is = rest.is }

-- so the firms of a document fit its trades by counts
pub document_fits : (doc : UnitDocument) → IsUnitDocument doc → FitByCounts (written_firms doc) doc.head.trades
document_fits doc is = record {
  ends = ends_are doc is;
  apart = λ t below. (trade_is doc is t below).between.apart;
  own = λ f firm at.
      let from = written_from doc.head.trades 0 doc.firms f f firm (omega arith) at in
      let written = is.each f from.written from.at in
      subst (DependsOnOwn doc.head.trades f) (sym from.is) (λ counts others same.
      ap₂ (λ (z : ℤ) (o : Option ℤ). both (Some z) o)
      (amounts_same doc.head.trades f counts others same from.written.amounts.entries written.amounts.each)
      (sum_same doc.head.trades f counts others same from.written.sets));
}
