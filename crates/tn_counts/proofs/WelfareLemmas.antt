-- In the sum of the firms' utilities the price of each unit is paid once and received once, so an equilibrium by counts
-- has the greatest surplus.
use Rattle.std.proofs.Common.{◌≡◌, ℕ, suc, ◌<◌, ◌≤◌, ◌==◌, if◌then◌else◌, List, [], ◌∷◌, length, Option, Some, None, option_map, slice_get, refl, sym, ap, ◌∙◌, arith, ℤ, pos, ◌+ℤ◌, ◌≤ℤ◌, ◌*ℤ◌}
use Rattle.std.proofs.lemmas.Int.{ints}
use Rattle.std.proofs.lemmas.Option.{none-some, same_Some}
use Rattle.std.proofs.Math.IntN.{*ℤ-zero, *ℤ_comm}
use Rattle.tn_base.proofs.SumLemmas.{times-plus}
use Rattle.tn_base.proofs.WalkLemmas.{both_are, both_parts}
use Rattle.tn_links.specs.Totals.{total}
use Rattle.tn_links.proofs.TotalLemmas.{times-below, total-first, total-minus, total-same, total-swap, total-times, total-zero, total_one}
use Rattle.tn_counts.specs.Counts.{AreCounts, CountFirm, HaveFirms, IsBestCount, IsEquilibriumByCounts, count_surplus, paid_to, payments, trade_at}
use Rattle.tn_counts.specs.Laws.{EquilibriaByCountsAreEfficient}
use Rattle.tn_counts.specs.declared.trade.UnitTrade.{UnitTrade}

-- over all firms a trade's price is paid once and received once
paid_by_all : (firms : ℕ) (price : ℤ) (trade : UnitTrade) → trade.seller < firms → trade.buyer < firms
    → total (λ f. paid_to f price trade) firms ≡ pos 0
paid_by_all firms price trade seller buyer =
    let parts = total-minus (λ f. if f == trade.seller then price else pos 0) (λ f. if f == trade.buyer then price else pos 0)
    firms in
    let sold = total_one price trade.seller firms seller in
    let bought = total_one price trade.buyer firms buyer in
    omega (arith, ints, parts, sold, bought)

pub payments_cancel : (firms : ℕ) (trades : List UnitTrade) (prices : ℕ → ℤ) (counts : ℕ → ℕ) → HaveFirms firms trades
    → total (λ f. payments trades prices f counts) firms ≡ pos 0
payments_cancel firms trades prices counts ends =
    total-swap (λ f t. paid_to f (prices t) (trade_at trades t) *ℤ pos (counts t)) firms (length trades)
    ∙ total-zero (λ t. total (λ f. paid_to f (prices t) (trade_at trades t) *ℤ pos (counts t)) firms) (length trades) each
  where
    each : (t : ℕ) → t < length trades
        → total (λ f. paid_to f (prices t) (trade_at trades t) *ℤ pos (counts t)) firms ≡ pos 0
    each t below =
        total-same (λ f. paid_to f (prices t) (trade_at trades t) *ℤ pos (counts t))
        (λ f. pos (counts t) *ℤ paid_to f (prices t) (trade_at trades t)) firms
        (λ f inside. *ℤ_comm (paid_to f (prices t) (trade_at trades t)) (pos (counts t)))
        ∙ total-times (pos (counts t)) (λ f. paid_to f (prices t) (trade_at trades t)) firms
        ∙ ap (λ (z : ℤ). pos (counts t) *ℤ z)
        (paid_by_all firms (prices t) (trade_at trades t) (ends.sellers t below) (ends.buyers t below))
        ∙ *ℤ-zero (pos (counts t))

-- a firm's utility where it is paid so much by counts
abbrev levied : ℤ → ((ℕ → ℕ) → ℤ) → CountFirm → (ℕ → ℕ) → Option ℤ
levied scale paid firm counts = option_map (λ worth. scale *ℤ worth +ℤ paid counts) (firm.worth counts)

-- the counts are best for each firm of a list, the first of which is paid by the first of these numbers
abbrev AreBest : List UnitTrade → ℤ → (ℕ → (ℕ → ℕ) → ℤ) → List CountFirm → (ℕ → ℕ) → Type 0
AreBest trades scale paid firms counts = (f : ℕ) (firm : CountFirm) → slice_get firms f ≡ Some firm
    → (value : ℤ) × IsBestCount trades (levied scale (paid f) firm) counts value

pub record HasWorth (scale : ℤ) (paid : ℤ) (o : Option ℤ) (value : ℤ) : Type 0 where
  pub worth : ℤ
  pub is : o ≡ Some worth
  pub value_is : value ≡ scale *ℤ worth +ℤ paid

pub has_worth : (scale paid : ℤ) (o : Option ℤ) (value : ℤ) → option_map (λ worth. scale *ℤ worth +ℤ paid) o ≡ Some value
    → HasWorth scale paid o value
has_worth scale paid None value is = absurd (none-some value is)
has_worth scale paid (Some worth) value is =
    record { worth = worth; is = refl; value_is = sym (same_Some (scale *ℤ worth +ℤ paid) value is) }

has_surplus : (trades : List UnitTrade) (scale : ℤ) (paid : ℕ → (ℕ → ℕ) → ℤ) (firms : List CountFirm) (counts : ℕ → ℕ)
    → AreBest trades scale paid firms counts → (surplus : ℤ) × (count_surplus firms counts ≡ Some surplus)
has_surplus trades scale paid [] counts best = (pos 0, refl)
has_surplus trades scale paid (firm ∷ firms) counts best =
    let rest = has_surplus trades scale (λ f. paid (suc f)) firms counts (λ f one is. best (suc f) one is) in
    let here = best 0 firm refl in
    let own = has_worth scale (paid 0 counts) (firm.worth counts) here.0 here.1.is in
    (own.worth +ℤ rest.0, both_are (firm.worth counts) (count_surplus firms counts) own.worth rest.0 own.is rest.1)

-- the utilities of other counts sum to no more
others_below : (trades : List UnitTrade) (scale : ℤ) (paid : ℕ → (ℕ → ℕ) → ℤ) (firms : List CountFirm)
    (counts others : ℕ → ℕ) (surplus other : ℤ) → AreBest trades scale paid firms counts → AreCounts trades others
    → count_surplus firms counts ≡ Some surplus → count_surplus firms others ≡ Some other
    → (scale *ℤ other +ℤ total (λ f. paid f others) (length firms))
    ≤ℤ (scale *ℤ surplus +ℤ total (λ f. paid f counts) (length firms))
unfolding total
others_below trades scale paid [] counts others surplus other best within is other_is =
    let first = same_Some (pos 0) surplus is in
    let second = same_Some (pos 0) other other_is in
    let same : scale *ℤ other ≡ scale *ℤ surplus = ap (λ (z : ℤ). scale *ℤ z) (sym second ∙ first) in
    omega (arith, ints, same)
others_below trades scale paid (firm ∷ firms) counts others surplus other best within is other_is =
    let here = both_parts (firm.worth counts) (count_surplus firms counts) surplus is in
    let there = both_parts (firm.worth others) (count_surplus firms others) other other_is in
    let rest = others_below trades scale (λ f. paid (suc f)) firms counts others here.second there.second
    (λ f one at. best (suc f) one at) within here.second_is there.second_is in
    let own = best 0 firm refl in
    let most = own.1.most others (scale *ℤ there.first +ℤ paid 0 others) within
    (ap (option_map (λ worth. scale *ℤ worth +ℤ paid 0 others)) there.first_is) in
    let value = same_Some (scale *ℤ here.first +ℤ paid 0 counts) own.0
    (sym (ap (option_map (λ worth. scale *ℤ worth +ℤ paid 0 counts)) here.first_is) ∙ own.1.is) in
    let first = times-plus scale here.first here.second in
    let second = times-plus scale there.first there.second in
    let surplus_is : scale *ℤ surplus ≡ scale *ℤ (here.first +ℤ here.second) = ap (λ (z : ℤ). scale *ℤ z) here.sum_is in
    let other_sum : scale *ℤ other ≡ scale *ℤ (there.first +ℤ there.second) = ap (λ (z : ℤ). scale *ℤ z) there.sum_is in
    let paid_now = total-first (λ f. paid f counts) (length firms) in
    let paid_then = total-first (λ f. paid f others) (length firms) in
    omega (arith, ints, rest, most, value, first, second, surplus_is, other_sum, paid_now, paid_then)

pub equilibria_efficient : EquilibriaByCountsAreEfficient
equilibria_efficient firms trades scale counts prices ends least best =
    let paid : ℕ → (ℕ → ℕ) → ℤ = λ f c. payments trades prices f c in
    let surplus = has_surplus trades scale paid firms counts best in (
      surplus.0,
      record {
        within = within;
        is = surplus.1;
        most = λ others other inside is.
            let below = others_below trades scale paid firms counts others surplus.0 other best inside surplus.1 is in
            let first = payments_cancel (length firms) trades prices counts ends in
            let second = payments_cancel (length firms) trades prices others ends in
            times-below scale other surplus.0 least (omega (arith, ints, below, first, second));
      },
    )
  where
    within : AreCounts trades counts
    within t below = by firms ends best
      where
        by : (all : List CountFirm) → HaveFirms (length all) trades
            → IsEquilibriumByCounts all trades scale counts prices → counts t ≤ (trade_at trades t).units
        by [] known equal = absurd (omega (arith, known.sellers t below))
        by (firm ∷ rest) known equal = (equal 0 firm refl).1.within t below
