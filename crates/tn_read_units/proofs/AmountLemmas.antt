-- What amounts by trade add is what the amounts of each firm add.
use Rattle.std.proofs.Common.{◌≡◌, ◌≢◌, ℕ, ◌<◌, refl, sym, ap, subst, ◌∙◌, arith, inl, inr, List, [], ◌∷◌, length, get_or, ℤ, pos, ◌+ℤ◌, Bool, true, false, ◌==◌, if◌then◌else◌, Option, Some, None}
use Rattle.std.specs.Prelude.{◌*ℤ◌, ◌||◌, slice_get, option_and_then, All}
use Rattle.std.proofs.lemmas.Bool.{cases_eq, eq-eqb, ne_eqb}
use Rattle.std.proofs.lemmas.Int.{ints}
use Rattle.std.proofs.lemmas.List.Elements.{All-head, All-tail, All-weaker}
use Rattle.std.proofs.lemmas.Option.{get_or_from_slice_get, none-some, slice_get-get_or, slice_get_within}
use Rattle.std.proofs.Math.IntN.{*ℤ-zero, *ℤ_comm}
use Rattle.tn_base.specs.Arcs.{IsAtMost}
use Rattle.tn_base.specs.declared.side.Side.{Side}
use Rattle.tn_links.specs.Totals.{total}
use Rattle.tn_links.proofs.TotalLemmas.{total-plus, total-same, total-zero, total_one}
use Rattle.tn_counts.specs.Counts.{trade_at}
use Rattle.tn_counts.specs.Laminar.{amount_sum, amount_to, amounts_at}
use Rattle.tn_counts.specs.declared.trade.UnitAmounts.{UnitAmounts}
use Rattle.tn_counts.specs.declared.trade.UnitTrade.{UnitTrade}
use Rattle.tn_read_units.specs.Documents.{AreOnce, AreOwnAmounts, IsOwnAmount, has_amount}
use Rattle.tn_read_units.specs.Firms.{WrittenFirm}
use Rattle.tn_read_units.specs.Limits.{most_number}
use Rattle.tn_read_units.specs.Own.{side_at}
use Rattle.tn_read_units.specs.Placed.{amounts_for, entries_of, first_amount}
use Rattle.tn_read_units.specs.Worths.{written_amounts}
use Rattle.tn_read_units.specs.declared.amounts.Amount.{Amount}

times_none : (n : ℕ) → pos 0 *ℤ pos n ≡ pos 0
times_none n = *ℤ_comm (pos 0) (pos n) ∙ *ℤ-zero (pos n)

first_none : (amounts : List Amount) (t : ℕ) → All (λ amount. amount.trade ≢ t) amounts → first_amount amounts t ≡ pos 0
first_none [] t none = refl
first_none (amount ∷ amounts) t none =
    ap (λ (b : Bool). if b then amount.number else first_amount amounts t)
    (ne_eqb amount.trade t (All-head (λ (a : Amount). a.trade ≢ t) amount amounts none))
    ∙ first_none amounts t (All-tail (λ (a : Amount). a.trade ≢ t) amount amounts none)

-- no amount of the trade is listed
first_unlisted : (amounts : List Amount) (t : ℕ) → has_amount amounts t ≡ false → first_amount amounts t ≡ pos 0
first_unlisted [] t none = refl
first_unlisted (amount ∷ amounts) t none = by (amount.trade == t) refl none (λ q. first_unlisted amounts t q)
  where
    by : (b : Bool) → (amount.trade == t) ≡ b → (b || has_amount amounts t) ≡ false
        → (has_amount amounts t ≡ false → first_amount amounts t ≡ pos 0) → first_amount (amount ∷ amounts) t ≡ pos 0
    by true is q rest = absurd (cc)
    by false is q rest = ap (λ (b : Bool). if b then amount.number else first_amount amounts t) is ∙ rest q

small_first : (amounts : List Amount) (t : ℕ) → All (λ amount. IsAtMost amount.number most_number) amounts
    → IsAtMost (first_amount amounts t) most_number
small_first [] t all = record { low = omega (arith, ints); high = omega (arith, ints) }
small_first (amount ∷ amounts) t all =
    by (amount.trade == t) (All-head (λ (a : Amount). IsAtMost a.number most_number) amount amounts all)
    (small_first amounts t (All-tail (λ (a : Amount). IsAtMost a.number most_number) amount amounts all))
  where
    by : (b : Bool) → IsAtMost amount.number most_number → IsAtMost (first_amount amounts t) most_number
        → IsAtMost (if b then amount.number else first_amount amounts t) most_number
    by true here rest = here
    by false here rest = rest

-- what the first of the amounts adds, and what the others add
one_amount : (counts : ℕ → ℕ) (amount : Amount) (amounts : List Amount) (t : ℕ)
    → has_amount amounts amount.trade ≡ false
    → first_amount (amount ∷ amounts) t *ℤ pos (counts t)
    ≡ (if t == amount.trade then amount.number *ℤ pos (counts amount.trade) else pos 0)
    +ℤ first_amount amounts t *ℤ pos (counts t)
one_amount counts amount amounts t once = elim (cases_eq t amount.trade) [
  | inl same ↦
      let here = ap (λ (b : Bool). if b then amount.number else first_amount amounts t)
      (eq-eqb amount.trade t (sym same)) in
      let there = ap (λ (b : Bool). if b then amount.number *ℤ pos (counts amount.trade) else pos 0)
      (eq-eqb t amount.trade same) in
      let none : first_amount amounts t ≡ pos 0 = ap (first_amount amounts) same
      ∙ first_unlisted amounts amount.trade once in
      let first : first_amount (amount ∷ amounts) t *ℤ pos (counts t) ≡ amount.number *ℤ pos (counts amount.trade) =
      ap (λ (z : ℤ). z *ℤ pos (counts t)) here ∙ ap (λ (k : ℕ). amount.number *ℤ pos (counts k)) same in
      let rest : first_amount amounts t *ℤ pos (counts t) ≡ pos 0 =
      ap (λ (z : ℤ). z *ℤ pos (counts t)) none ∙ times_none (counts t) in
      omega (arith, ints, first, there, rest)
  | inr other ↦
      let here = ap (λ (b : Bool). if b then amount.number else first_amount amounts t)
      (ne_eqb amount.trade t (λ e. other (sym e))) in
      let there = ap (λ (b : Bool). if b then amount.number *ℤ pos (counts amount.trade) else pos 0)
      (ne_eqb t amount.trade other) in
      let same = ap (λ (z : ℤ). z *ℤ pos (counts t)) here in
      omega (arith, ints, same, there)
]

-- each amount counts at its trade
pub amounts_total : (counts : ℕ → ℕ) (n : ℕ) (amounts : List Amount) → AreOnce amounts
    → All (λ amount. amount.trade < n) amounts
    → total (λ t. first_amount amounts t *ℤ pos (counts t)) n ≡ written_amounts counts amounts
amounts_total counts n [] once known =
    total-zero (λ t. first_amount [] t *ℤ pos (counts t)) n (λ t below. times_none (counts t))
amounts_total counts n (amount ∷ amounts) once known =
    let each = total-same (λ t. first_amount (amount ∷ amounts) t *ℤ pos (counts t))
    (λ t. (if t == amount.trade then amount.number *ℤ pos (counts amount.trade) else pos 0)
    +ℤ first_amount amounts t *ℤ pos (counts t)) n (λ t below. one_amount counts amount amounts t once.0) in
    let split = total-plus (λ t. if t == amount.trade then amount.number *ℤ pos (counts amount.trade) else pos 0)
    (λ t. first_amount amounts t *ℤ pos (counts t)) n in
    let first = total_one (amount.number *ℤ pos (counts amount.trade)) amount.trade n
    (All-head (λ (a : Amount). a.trade < n) amount amounts known) in
    let rest = amounts_total counts n amounts once.1 (All-tail (λ (a : Amount). a.trade < n) amount amounts known) in
    omega (arith, ints, each, split, first, rest)

-- the firms of a document give amounts of own trades
abbrev pub GiveOwn : List UnitTrade → List WrittenFirm → Type 0
GiveOwn trades firms = (f : ℕ) (firm : WrittenFirm) → slice_get firms f ≡ Some firm
    → AreOwnAmounts trades f firm.amounts

-- the amounts are by trade
abbrev pub AreByTrade : List UnitTrade → List WrittenFirm → List UnitAmounts → Type 0
AreByTrade trades firms amounts = (t : ℕ) → t < length trades
    → amounts_at amounts t ≡ amounts_for firms t (trade_at trades t)

known_trade : (trades : List UnitTrade) (f t : ℕ) (side : Side)
    → option_and_then (side_at f) (slice_get trades t) ≡ Some side → t < length trades
known_trade trades f t side own = by (slice_get trades t) refl own
  where
    by : (found : Option UnitTrade) → slice_get trades t ≡ found → option_and_then (side_at f) found ≡ Some side
        → t < length trades
    by None is q = absurd (none-some side q)
    by (Some trade) is q = slice_get_within trades t trade is

-- a trade of other firms isn't own
not_own : (trades : List UnitTrade) (f t : ℕ) (side : Side) → t < length trades → (trade_at trades t).seller ≢ f
    → (trade_at trades t).buyer ≢ f → option_and_then (side_at f) (slice_get trades t) ≡ Some side → ⊥
not_own trades f t side inside seller buyer own =
    let there : slice_get trades t ≡ Some (trade_at trades t) = slice_get-get_or trades t (record {
      seller = 0;
      buyer = 0;
      units = 0;
    }) inside in
    let trade = trade_at trades t in
    let first = ne_eqb trade.seller f seller in
    let second = ne_eqb trade.buyer f buyer in
    let none : side_at f trade ≡ None = grind (arith, first, second) in
    none-some side (sym none ∙ sym (ap (option_and_then (side_at f)) there) ∙ own)

module _ (trades : List UnitTrade) (firms : List WrittenFirm) (give : GiveOwn trades firms) where
  -- no amount of a firm is for a trade of others
  none_of_others : (f t : ℕ) (firm : WrittenFirm) → slice_get firms f ≡ Some firm → t < length trades
      → (trade_at trades t).seller ≢ f → (trade_at trades t).buyer ≢ f → first_amount firm.amounts.entries t ≡ pos 0
  none_of_others f t firm is inside seller buyer =
      first_none firm.amounts.entries t (All-weaker (IsOwnAmount trades f) (λ amount. amount.trade ≢ t)
      (λ amount own same. not_own trades f t amount.side inside seller buyer
      (subst (λ (k : ℕ). option_and_then (side_at f) (slice_get trades k) ≡ Some amount.side) same own.own))
      firm.amounts.entries (give f firm is).each)

  entries_are : (f g t : ℕ) (firm : WrittenFirm) → slice_get firms f ≡ Some firm → g ≡ f
      → first_amount (entries_of firms g) t ≡ first_amount firm.amounts.entries t
  entries_are f g t firm is same =
      ap (λ (k : ℕ). first_amount (entries_of firms k) t) same
      ∙ ap (λ (w : WrittenFirm). first_amount w.amounts.entries t)
      (get_or_from_slice_get firms f firm (record { amounts = record { named = 0; entries = [] }; sets = [] }) is)

  -- the amount of a trade to a firm is the one that it gives
  amount_is : (f t : ℕ) (firm : WrittenFirm) → slice_get firms f ≡ Some firm → t < length trades
      → (trade_at trades t).seller ≢ (trade_at trades t).buyer
      → amount_to f (trade_at trades t) (amounts_for firms t (trade_at trades t)) ≡ first_amount firm.amounts.entries t
  amount_is f t firm is inside apart = elim (cases_eq f (trade_at trades t).seller) [
    | inl sells ↦
        let first = ap (λ (b : Bool). if b then first_amount (entries_of firms (trade_at trades t).seller) t else pos 0)
        (eq-eqb f (trade_at trades t).seller sells) in
        let second = ap (λ (b : Bool). if b then first_amount (entries_of firms (trade_at trades t).buyer) t else pos 0)
        (ne_eqb f (trade_at trades t).buyer (λ e. apart (sym sells ∙ e))) in
        omega (arith, ints, first, second, entries_are f (trade_at trades t).seller t firm is (sym sells))
    | inr other ↦
        let first = ap (λ (b : Bool). if b then first_amount (entries_of firms (trade_at trades t).seller) t else pos 0)
        (ne_eqb f (trade_at trades t).seller other) in
        elim (cases_eq f (trade_at trades t).buyer) [
          | inl buys ↦
              let second = ap (λ (b : Bool). if b then first_amount (entries_of firms
              (trade_at trades t).buyer) t else pos 0)
              (eq-eqb f (trade_at trades t).buyer buys) in
              omega (arith, ints, first, second, entries_are f (trade_at trades t).buyer t firm is (sym buys))
          | inr none ↦
              let second = ap (λ (b : Bool). if b then first_amount (entries_of firms
              (trade_at trades t).buyer) t else pos 0)
              (ne_eqb f (trade_at trades t).buyer none) in
              omega (
                arith,
                ints,
                first,
                second,
                none_of_others f t firm is inside (λ e. other (sym e)) (λ e. none
                    (sym e)),
              )
        ]
  ]

  pub amounts_are : (amounts : List UnitAmounts) (counts : ℕ → ℕ) (f : ℕ) (firm : WrittenFirm)
      → AreByTrade trades firms amounts
      → ((t : ℕ) → t < length trades → (trade_at trades t).seller ≢ (trade_at trades t).buyer)
      → slice_get firms f ≡ Some firm
      → amount_sum trades amounts f counts ≡ written_amounts counts firm.amounts.entries
  amounts_are amounts counts f firm by_trade apart is =
      total-same (λ t. amount_to f (trade_at trades t) (amounts_at amounts t) *ℤ pos (counts t))
      (λ t. first_amount firm.amounts.entries t *ℤ pos (counts t)) (length trades)
      (λ t inside. ap (λ (z : ℤ). z *ℤ pos (counts t))
      (ap (amount_to f (trade_at trades t)) (by_trade t inside) ∙ amount_is f t firm is inside (apart t inside)))
      ∙ amounts_total counts (length trades) firm.amounts.entries (give f firm is).once
      (All-weaker (IsOwnAmount trades f) (λ amount. amount.trade < length trades)
      (λ amount own. known_trade trades f amount.trade amount.side own.own) firm.amounts.entries (give f firm is).each)

  -- the amounts by trade are small
  pub amounts_small : (f t : ℕ) → f < length firms → IsAtMost (first_amount (entries_of firms f) t) most_number
  amounts_small f t inside =
      let none : WrittenFirm = record { amounts = record { named = 0; entries = [] }; sets = [] } in
      small_first (entries_of firms f) t (All-weaker (IsOwnAmount trades f)
      (λ amount. IsAtMost amount.number most_number) (λ amount own. own.small) (entries_of firms f)
      (give f (get_or firms f none) (slice_get-get_or firms f none inside)).each)
