-- A bundle by counts keeps the rules of bundles with units.
use Rattle.std.proofs.Common.{◌≡◌, ◌≢◌, ℕ, ◌+◌, ◌<◌, ◌≤◌, Bool, true, false, cond, ◌==◌, if◌then◌else◌, List, [], ◌∷◌, ◌++◌, length, map, refl, sym, ap, ap₂, ◌∙◌, arith, inl, inr}
use Rattle.std.specs.Prelude.{nat_lt, All}
use Rattle.std.specs.List.{filter, range_with_len}
use Rattle.std.specs.List.Sorted.{IsStrictlyIncreasing}
use Rattle.std.proofs.lemmas.Bool.{cases_eq, ltb-true, ne_eqb}
use Rattle.std.proofs.lemmas.List.{ext_get_or}
use Rattle.std.proofs.lemmas.List.Elements.{All-weaker, filter_passes}
use Rattle.std.proofs.lemmas.List.FromFn.{filter_of_map_range_with_len_more, get_or-map-range_with_len, length-map-range_with_len}
use Rattle.tn_answer.specs.Kept.{IsUnitBundle}
use Rattle.tn_counts.specs.Counts.{trade_at}
use Rattle.tn_counts.specs.Outcomes.{HasEnd}
use Rattle.tn_counts.specs.declared.trade.UnitTrade.{UnitTrade}
use Rattle.tn_said.specs.declared.units.TradeUnits.{TradeUnits}
use Rattle.tn_unit_answers.specs.Bundles.{entry_at, unit_bundle, units_to}
use Rattle.tn_unit_answers.proofs.ListedLemmas.{numbers_ascend, of_each}

abbrev pub has_some : TradeUnits → Bool
has_some entry = nat_lt 0 entry.units

module _ (trades : List UnitTrade) (f : ℕ) where
  -- counts that are the same at each end of the firm give the same bundle
  units_same : (t a b : ℕ) → (HasEnd f (trade_at trades t) → a ≡ b)
      → units_to f (trade_at trades t) a ≡ units_to f (trade_at trades t) b
  units_same t a b same = elim (cases_eq f (trade_at trades t).seller) [
    | inl sells ↦ ap (units_to f (trade_at trades t)) (same (inl (sym sells)))
    | inr apart ↦ elim (cases_eq f (trade_at trades t).buyer) [
      | inl buys ↦ ap (units_to f (trade_at trades t)) (same (inr (sym buys)))
      | inr other ↦ none a apart other ∙ sym (none b apart other)
    ]
  ]
    where
      none : (n : ℕ) → f ≢ (trade_at trades t).seller → f ≢ (trade_at trades t).buyer
          → units_to f (trade_at trades t) n ≡ 0
      none n apart other =
          ap (λ (b : Bool). if b then n else (if f == (trade_at trades t).buyer then n else 0))
          (ne_eqb f (trade_at trades t).seller apart)
          ∙ ap (λ (b : Bool). if b then n else 0) (ne_eqb f (trade_at trades t).buyer other)

  pub bundle_same : (counts others : ℕ → ℕ)
      → ((t : ℕ) → t < length trades → HasEnd f (trade_at trades t) → counts t ≡ others t)
      → unit_bundle trades f counts ≡ unit_bundle trades f others
  bundle_same counts others same =
      ap (filter has_some) (ext_get_or d (map (entry_at trades f counts) (range_with_len 0 n))
      (map (entry_at trades f others) (range_with_len 0 n))
      (length-map-range_with_len (entry_at trades f counts) 0 n
      ∙ sym (length-map-range_with_len (entry_at trades f others) 0 n))
      (λ t inside.
      let sized = length-map-range_with_len (entry_at trades f counts) 0 n in
      let below : t < n = omega (arith, inside, sized) in
      get_or-map-range_with_len (entry_at trades f counts) 0 n t t d below (omega arith)
      ∙ ap (λ (units : ℕ). record { trade = t; units = units }) (units_same t (counts t) (others t) (same t below))
      ∙ sym (get_or-map-range_with_len (entry_at trades f others) 0 n t t d below (omega arith))))
    where
      n : ℕ
      n = length trades

      d : TradeUnits
      d = record { trade = 0; units = 0 }

-- one trade more
pub bundle_more : (trades : List UnitTrade) (f : ℕ) (counts : ℕ → ℕ) (t : ℕ) (before after : List TradeUnits) (units : ℕ)
    → before ≡ filter has_some (map (entry_at trades f counts) (range_with_len 0 t))
    → after ≡ before ++ cond (nat_lt 0 units) (record { trade = t; units = units } ∷ []) []
    → units ≡ units_to f (trade_at trades t) (counts t)
    → after ≡ filter has_some (map (entry_at trades f counts) (range_with_len 0 (t + 1)))
bundle_more trades f counts t before after units made more is =
    more
    ∙ ap₂ (λ (xs : List TradeUnits) (n : ℕ). xs ++ cond (nat_lt 0 n) (record { trade = t; units = n } ∷ []) []) made is
    ∙ sym (filter_of_map_range_with_len_more has_some (entry_at trades f counts) 0 t t (omega arith))

-- ---- what each entry of a bundle is

module _ (trades : List UnitTrade) (f : ℕ) (counts : ℕ → ℕ) where
  each_of : (P : TradeUnits → Type 0) → ((t : ℕ) → t < length trades → P (entry_at trades f counts t))
      → All P (unit_bundle trades f counts)
  each_of = of_each has_some (entry_at trades f counts) (length trades)

  -- it is of trades that there are
  pub bundle_known : All (λ entry. entry.trade < length trades) (unit_bundle trades f counts)
  bundle_known = each_of (λ entry. entry.trade < length trades) (λ t below. below)

  -- of each it has no more units than go
  pub bundle_few : (limit : ℕ) → ((t : ℕ) → t < length trades → counts t < limit)
      → All (λ entry. entry.units < limit) (unit_bundle trades f counts)
  bundle_few limit few = each_of (λ entry. entry.units < limit) (λ t below. at_most t (few t below))
    where
      at_most : (t : ℕ) → counts t < limit → units_to f (trade_at trades t) (counts t) < limit
      at_most t below = by (f == (trade_at trades t).seller) (f == (trade_at trades t).buyer)
        where
          by : (sells buys : Bool) → (if sells then counts t else if buys then counts t else 0) < limit
          by true buys = below
          by false true = below
          by false false = omega (arith, below)

  bundle_some : All (λ entry. 1 ≤ entry.units) (unit_bundle trades f counts)
  bundle_some = All-weaker (λ entry. has_some entry ≡ true) (λ entry. 1 ≤ entry.units)
      (λ entry some. ltb-true 0 entry.units some) (unit_bundle trades f counts)
      (filter_passes has_some (map (entry_at trades f counts) (range_with_len 0 (length trades))))

  bundle_ascends : IsStrictlyIncreasing (map (λ entry. entry.trade) (unit_bundle trades f counts))
  bundle_ascends =
      numbers_ascend has_some (entry_at trades f counts) (λ entry. entry.trade) (λ t. refl) (length trades)

  pub bundle_is : IsUnitBundle (unit_bundle trades f counts)
  bundle_is = record { ascending = bundle_ascends; some = bundle_some }
