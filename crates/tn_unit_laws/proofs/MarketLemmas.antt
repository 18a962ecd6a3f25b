-- The firms of a market fit together by counts: what each has depends on the units of its own trades alone.
-- And they can have nothing.
use Rattle.std.proofs.Common.{◌≡◌, ℕ, suc, ◌<◌, ◌≤◌, Bool, true, false, ◌==◌, if◌then◌else◌, List, [], ◌∷◌, length, slice_get, Option, Some, None, refl, sym, ap, ap₂, ◌∙◌, subst, arith, ℤ, pos, ◌+ℤ◌, ◌-ℤ◌, ◌*ℤ◌}
use Rattle.std.proofs.lemmas.Bool.{eqb-true, le-leb}
use Rattle.std.proofs.lemmas.Int.{ints}
use Rattle.std.proofs.Math.IntN.{zero-*ℤ}
use Rattle.tn_base.specs.Options.{both}
use Rattle.tn_links.specs.Links.{rise, room}
use Rattle.tn_links.proofs.TotalLemmas.{total-same, total-zero}
use Rattle.tn_counts.specs.Counts.{CountFirm, trade_at}
use Rattle.tn_counts.specs.Laminar.{added_at, amount_sum, amount_to, amounts_at, bought_by, firm_of, firms_of, holds, net_count, set_number, set_sum}
use Rattle.tn_counts.specs.Markets.{IsUnitMarket}
use Rattle.tn_counts.specs.declared.market.UnitMarket.{UnitMarket}
use Rattle.tn_counts.specs.declared.set.CountSet.{CountSet}
use Rattle.tn_counts.specs.declared.trade.UnitAmounts.{UnitAmounts}
use Rattle.tn_counts.specs.declared.trade.UnitTrade.{UnitTrade}
use Rattle.tn_counts.proofs.NetLemmas.{between_at}
use Rattle.tn_counts.proofs.SurplusLemmas.{firm_at, have_firms}
use Rattle.tn_unit_laws.specs.Laws.{MarketsFitByCounts}
use Rattle.tn_unit_laws.specs.Units.{DependsOnOwn, is_own}
use Rattle.tn_unit_laws.proofs.PaymentLemmas.{not_ends}

module _ (trades : List UnitTrade) (f : ℕ) (counts others : ℕ → ℕ)
    (same : (t : ℕ) → t < length trades → is_own trades f t ≡ true → counts t ≡ others t) where
  amounts_same : (amounts : List UnitAmounts) → amount_sum trades amounts f counts ≡ amount_sum trades amounts f others
  amounts_same amounts =
      total-same (λ t. amount t *ℤ pos (counts t)) (λ t. amount t *ℤ pos (others t)) (length trades)
      (λ t below. by t below (is_own trades f t) refl)
    where
      amount : ℕ → ℤ
      amount t = amount_to f (trade_at trades t) (amounts_at amounts t)

      by : (t : ℕ) → t < length trades → (b : Bool) → is_own trades f t ≡ b
          → amount t *ℤ pos (counts t) ≡ amount t *ℤ pos (others t)
      by t below true mine = ap (λ (n : ℕ). amount t *ℤ pos n) (same t below mine)
      by t below false other =
          let ends = not_ends trades f t other in
          let none : amount t ≡ pos 0 =
          ap₂ (λ (a b : Bool). (if a then (amounts_at amounts t).seller else pos 0)
          +ℤ (if b then (amounts_at amounts t).buyer else pos 0)) ends.0 ends.1 in
          ap (λ (z : ℤ). z *ℤ pos (counts t)) none ∙ zero-*ℤ (pos (counts t))
          ∙ sym (ap (λ (z : ℤ). z *ℤ pos (others t)) none ∙ zero-*ℤ (pos (others t)))

  number_same : (set : CountSet) → set.firm ≡ f → set_number trades set counts ≡ set_number trades set others
  number_same set own =
      ap (λ (z : ℤ). added_at set (z +ℤ pos set.back))
      (total-same (λ t. if holds set t then bought_by set.firm (trade_at trades t) (pos (counts t)) else pos 0)
      (λ t. if holds set t then bought_by set.firm (trade_at trades t) (pos (others t)) else pos 0) (length trades)
      (λ t below. ap (λ (z : ℤ). if holds set t then z else pos 0) (by t below (is_own trades f t) refl)))
    where
      by : (t : ℕ) → t < length trades → (b : Bool) → is_own trades f t ≡ b
          → bought_by set.firm (trade_at trades t) (pos (counts t)) ≡ bought_by set.firm (trade_at trades t) (pos (others t))
      by t below true mine =
          ap (λ (n : ℕ). bought_by set.firm (trade_at trades t) (pos n)) (same t below mine)
      by t below false other =
          let ends = not_ends trades f t other in
          let none = λ (z : ℤ). ap (λ (g : ℕ). bought_by g (trade_at trades t) z) own
          ∙ ap₂ (λ (a b : Bool). (if a then z else pos 0) -ℤ (if b then z else pos 0)) ends.1 ends.0 in
          none (pos (counts t)) ∙ sym (none (pos (others t)))

  sets_same : (sets : List CountSet) → set_sum trades f counts sets ≡ set_sum trades f others sets
  sets_same [] = refl
  sets_same (set ∷ sets) = by (f == set.firm) refl (sets_same sets)
    where
      by : (b : Bool) → (f == set.firm) ≡ b → set_sum trades f counts sets ≡ set_sum trades f others sets
          → (if b then both (set_number trades set counts) (set_sum trades f counts sets) else set_sum trades f counts sets)
          ≡ (if b then both (set_number trades set others) (set_sum trades f others sets) else set_sum trades f others sets)
      by true own rest = ap₂ both (number_same set (sym (eqb-true f set.firm own))) rest
      by false other rest = rest

pub depends_on_own : (market : UnitMarket) (f : ℕ) → DependsOnOwn market.trades.items f (firm_of market f)
depends_on_own market f counts others same =
    ap₂ (λ (z : ℤ) (o : Option ℤ). both (Some z) o)
    (amounts_same market.trades.items f counts others same market.amounts.items)
    (sets_same market.trades.items f counts others same market.sets.items)

pub markets_fit : MarketsFitByCounts
markets_fit market is = record {
  ends = have_firms market is;
  apart = λ t below. (between_at market is t below).apart;
  own = λ f firm at.
      let found = firm_at market f firm at in
      subst (DependsOnOwn market.trades.items f) (sym found.1) (depends_on_own market f);
}

-- ---- firms of a market can have nothing

-- no units are none within a set
none_within : (trades : List UnitTrade) (set : CountSet) → net_count trades set (λ t. 0) ≡ pos 0
none_within trades set =
    total-zero (λ t. if holds set t then bought_by set.firm (trade_at trades t) (pos 0) else pos 0) (length trades)
    (λ t below. by (holds set t) (set.firm == (trade_at trades t).buyer) (set.firm == (trade_at trades t).seller))
  where
    by : (a b c : Bool) → (if a then (if b then pos 0 else pos 0) -ℤ (if c then pos 0 else pos 0) else pos 0) ≡ pos 0
    by true true true = refl
    by true true false = refl
    by true false true = refl
    by true false false = refl
    by false b c = refl

-- so each set has a number there
sets_at_none : (trades : List UnitTrade) (f : ℕ) (sets : List CountSet)
    → ((i : ℕ) (set : CountSet) → slice_get sets i ≡ Some set → set.back ≤ room set.steps.items)
    → (z : ℤ) × (set_sum trades f (λ t. 0) sets ≡ Some z)
sets_at_none trades f [] around = (pos 0, refl)
sets_at_none trades f (set ∷ sets) around =
    let rest = sets_at_none trades f sets (λ i one at. around (suc i) one at) in
    by (f == set.firm) rest
  where
    number : ℤ
    number = set.constant +ℤ (rise set.steps.items set.back -ℤ rise set.steps.items set.back)

    number_is : set_number trades set (λ t. 0) ≡ Some number
    number_is =
        ap (added_at set) (ap (λ (z : ℤ). z +ℤ pos set.back) (none_within trades set) ∙ start)
        ∙ ap (λ (b : Bool). if b then Some number else None) (le-leb set.back (room set.steps.items) (around 0 set refl))
      where
        start : pos 0 +ℤ pos set.back ≡ pos set.back
        start = omega (arith, ints)

    by : (b : Bool) → (z : ℤ) × (set_sum trades f (λ t. 0) sets ≡ Some z)
        → (z : ℤ) × ((if b then both (set_number trades set (λ t. 0)) (set_sum trades f (λ t. 0) sets)
        else set_sum trades f (λ t. 0) sets) ≡ Some z)
    by true rest = (number +ℤ rest.0, ap₂ both number_is rest.1)
    by false rest = rest

pub markets_have_nothing : (market : UnitMarket) → IsUnitMarket market → (f : ℕ) (firm : CountFirm)
    → slice_get (firms_of market) f ≡ Some firm → (worth : ℤ) × (firm.worth (λ t. 0) ≡ Some worth)
markets_have_nothing market is f firm at =
    let found = firm_at market f firm at in
    let sum = sets_at_none market.trades.items f market.sets.items (λ i set there. (is.each i set there).around) in
    subst (λ (one : CountFirm). (worth : ℤ) × (one.worth (λ t. 0) ≡ Some worth)) (sym found.1) (
      amount_sum market.trades.items market.amounts.items f (λ t. 0) +ℤ sum.0,
      ap (both (Some (amount_sum market.trades.items market.amounts.items f (λ t. 0)))) sum.1,
    )
