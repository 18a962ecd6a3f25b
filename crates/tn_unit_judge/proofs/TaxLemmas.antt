-- What firms have in a split network whose unsigned units are taxed.
use Rattle.std.proofs.Common.{◌≡◌, ℕ, ◌+◌, ◌<◌, Bool, true, false, ◌==◌, if◌then◌else◌, List, length, Option, Some, None, option_map, refl, sym, ap, ap₂, ◌∙◌, arith, ℤ, pos, ◌+ℤ◌, ◌-ℤ◌, ◌*ℤ◌}
use Rattle.std.proofs.lemmas.Int.{ints}
use Rattle.std.proofs.lemmas.Bool.{le-ltb, lt-ltb}
use Rattle.std.proofs.lemmas.List.{length-map}
use Rattle.tn_base.specs.Options.{both}
use Rattle.tn_links.specs.Totals.{total}
use Rattle.tn_links.proofs.TotalLemmas.{minus-times, total-minus, total-same, total-split}
use Rattle.tn_counts.specs.Counts.{paid_to, payments, trade_at}
use Rattle.tn_counts.specs.Laminar.{amount_sum, amount_to, amounts_at, firm_of, set_sum}
use Rattle.tn_counts.specs.Outcomes.{contract_at, split_trades}
use Rattle.tn_counts.specs.declared.contract.UnitContract.{UnitContract}
use Rattle.tn_counts.specs.declared.market.UnitMarket.{UnitMarket}
use Rattle.tn_counts.specs.declared.set.CountSet.{CountSet}
use Rattle.tn_counts.specs.declared.trade.UnitAmounts.{UnitAmounts}
use Rattle.tn_counts.specs.declared.trade.UnitTrade.{UnitTrade}
use Rattle.tn_counts.proofs.UtilityLemmas.{when}
use Rattle.tn_unit_judge.specs.Blocks.{AreTaxed, IsTaxedMarket, less_one}
use Rattle.tn_unit_judge.specs.Split.{origins, times_amounts}
use Rattle.tn_unit_judge.proofs.JoinLemmas.{AreKnown, origins_sized}
use Rattle.tn_unit_judge.proofs.SplitLemmas.{split_firm, split_free, split_signed, split_sized, times_number, worth_split}

-- ---- the tax

-- what a unit of a trade costs firm f
abbrev pub own_tax : ℕ → UnitTrade → ℤ
own_tax f trade = when (f == trade.seller) (pos 1) +ℤ when (f == trade.buyer) (pos 1)

-- what the unsigned units cost it
abbrev pub tax_of : List UnitTrade → ℕ → ℕ → (ℕ → ℕ) → ℤ
tax_of trades signed f counts = total (λ t. own_tax f (trade_at trades t) *ℤ pos (counts (signed + t))) (length trades)

less_amount : (f : ℕ) (trade : UnitTrade) (amounts : UnitAmounts)
    → amount_to f trade (less_one amounts) ≡ amount_to f trade amounts -ℤ own_tax f trade
less_amount f trade amounts = by (f == trade.seller) (f == trade.buyer)
  where
    by : (s b : Bool)
        → when s (amounts.seller -ℤ pos 1) +ℤ when b (amounts.buyer -ℤ pos 1)
        ≡ (when s amounts.seller +ℤ when b amounts.buyer) -ℤ (when s (pos 1) +ℤ when b (pos 1))
    by true true = omega (arith, ints)
    by true false = omega (arith, ints)
    by false true = omega (arith, ints)
    by false false = omega (arith, ints)

amounts_taxed : (trades : List UnitTrade) (contracts : List UnitContract) (free counts : ℕ → ℕ)
    (amounts made : List UnitAmounts) (f : ℕ) → length amounts ≡ length contracts + length trades
    → AreTaxed (length contracts) amounts made
    → amount_sum (split_trades trades contracts free) made f counts
    ≡ amount_sum (split_trades trades contracts free) amounts f counts -ℤ tax_of trades (length contracts) f counts
amounts_taxed trades contracts free counts amounts made f long taxed =
    let sized = split_sized trades contracts free in
    let whole = ap (total (part made)) sized in
    let whole_before = ap (total (part amounts)) sized in
    let after = total-split (part made) (length contracts) (length trades) in
    let before = total-split (part amounts) (length contracts) (length trades) in
    let first = total-same (part made) (part amounts) (length contracts) signed in
    let second = total-same (λ t. part made (length contracts + t))
    (λ t. part amounts (length contracts + t) -ℤ own_tax f (trade_at trades t) *ℤ pos (counts (length contracts + t)))
    (length trades) unsigned in
    let less = total-minus (λ t. part amounts (length contracts + t))
    (λ t. own_tax f (trade_at trades t) *ℤ pos (counts (length contracts + t))) (length trades) in
    omega (arith, ints, whole, whole_before, after, before, first, second, less)
  where
    parts : List UnitTrade
    parts = split_trades trades contracts free

    part : List UnitAmounts → ℕ → ℤ
    part each k = amount_to f (trade_at (split_trades trades contracts free) k) (amounts_at each k) *ℤ pos (counts k)

    signed : (k : ℕ) → k < length contracts → part made k ≡ part amounts k
    signed k below =
        ap (λ (a : UnitAmounts). amount_to f (trade_at (split_trades trades contracts free) k) a *ℤ pos (counts k))
        (taxed.each k (omega (arith, below, long))
        ∙ ap (λ (b : Bool). if b then amounts_at amounts k else less_one (amounts_at amounts k))
        (lt-ltb k (length contracts) below))

    unsigned : (t : ℕ) → t < length trades → part made (length contracts + t)
        ≡ part amounts (length contracts + t) -ℤ own_tax f (trade_at trades t) *ℤ pos (counts (length contracts + t))
    unsigned t below =
        let k : ℕ = length contracts + t in
        let read : amounts_at made k ≡ less_one (amounts_at amounts k) = taxed.each k (omega (arith, below, long))
        ∙ ap (λ (b : Bool). if b then amounts_at amounts k else less_one (amounts_at amounts k))
        (le-ltb k (length contracts) (omega arith)) in
        let ends : own_tax f (trade_at (split_trades trades contracts free) k) ≡ own_tax f (trade_at trades t) =
        ap (own_tax f) (split_free trades contracts free t below) in
        ap (λ (a : UnitAmounts). amount_to f (trade_at (split_trades trades contracts free) k) a *ℤ pos (counts k)) read
        ∙ ap (λ (z : ℤ). z *ℤ pos (counts k))
        (less_amount f (trade_at (split_trades trades contracts free) k) (amounts_at amounts k))
        ∙ minus-times (amount_to f (trade_at (split_trades trades contracts free) k) (amounts_at amounts k))
        (own_tax f (trade_at (split_trades trades contracts free) k)) (pos (counts k))
        ∙ ap (λ (z : ℤ). part amounts k -ℤ z *ℤ pos (counts k)) ends

both_less : (a tax : ℤ) (o : Option ℤ)
    → both (Some (a -ℤ tax)) o ≡ option_map (λ w. w -ℤ tax) (both (Some a) o)
both_less a tax None = refl
both_less a tax (Some b) = ap (λ (z : ℤ). Some z) (omega (arith, ints))

-- a firm of the taxed market has less by the tax
pub worth_taxed : (market : UnitMarket) (over : ℕ) (contracts : List UnitContract) (free : ℕ → ℕ) (taxed : UnitMarket)
    (f : ℕ) (counts : ℕ → ℕ) → AreKnown (length market.trades.items) contracts
    → IsTaxedMarket market over contracts free taxed
    → (firm_of taxed f).worth counts ≡ option_map (λ w. w -ℤ tax_of market.trades.items (length contracts) f counts)
    (times_number over ((split_firm market contracts f).worth counts))
worth_taxed market over contracts free taxed f counts known is =
    ap₂ (λ (ts : List UnitTrade) (sets : List CountSet). both (Some (amount_sum ts taxed.amounts.items f counts))
    (set_sum ts f counts sets)) (is.trades ∙ is.is.trades) is.sets
    ∙ ap (λ (z : ℤ). both (Some z) (set_sum parts f counts is.split.sets.items))
    (amounts_taxed market.trades.items contracts free counts is.split.amounts.items taxed.amounts.items f long is.amounts)
    ∙ both_less (amount_sum parts is.split.amounts.items f counts) (tax_of market.trades.items (length contracts) f counts)
    (set_sum parts f counts is.split.sets.items)
    ∙ ap (option_map (λ w. w -ℤ tax_of market.trades.items (length contracts) f counts))
    (ap (λ (ts : List UnitTrade). both (Some (amount_sum ts is.split.amounts.items f counts))
    (set_sum ts f counts is.split.sets.items)) (sym is.is.trades)
    ∙ worth_split market over contracts free is.split f counts known is.is)
  where
    parts : List UnitTrade
    parts = split_trades market.trades.items contracts free

    long : length is.split.amounts.items ≡ length contracts + length market.trades.items
    long = ap length is.is.amounts
        ∙ length-map (origins (length market.trades.items) contracts)
        (λ t. times_amounts over (amounts_at market.amounts.items t))
        ∙ origins_sized (length market.trades.items) contracts

-- ---- what is paid

-- what a firm is paid for its contracts at prices of them, and for unsigned units at prices of these
abbrev pub signed_paid : List UnitTrade → List UnitContract → (ℕ → ℤ) → ℕ → (ℕ → ℕ) → ℤ
signed_paid trades contracts prices f counts =
    total (λ k. paid_to f (prices k) (trade_at trades (contract_at contracts k).trade) *ℤ pos (counts k)) (length contracts)

abbrev pub free_paid : List UnitTrade → (ℕ → ℤ) → ℕ → (ℕ → ℕ) → ℤ
free_paid trades prices f counts = total (λ t. paid_to f (prices t) (trade_at trades t) *ℤ pos (counts t)) (length trades)

pub paid_parts : (trades : List UnitTrade) (contracts : List UnitContract) (free : ℕ → ℕ) (prices : ℕ → ℤ) (f : ℕ)
    (counts : ℕ → ℕ) → payments (split_trades trades contracts free) prices f counts
    ≡ signed_paid trades contracts prices f counts
    +ℤ free_paid trades (λ t. prices (length contracts + t)) f (λ t. counts (length contracts + t))
paid_parts trades contracts free prices f counts =
    let sized = ap (total (λ k. paid_to f (prices k) (trade_at (split_trades trades contracts free) k) *ℤ pos (counts k)))
    (split_sized trades contracts free) in
    let split = total-split
    (λ k. paid_to f (prices k) (trade_at (split_trades trades contracts free) k) *ℤ pos (counts k)) (length contracts)
    (length trades) in
    let first = total-same (λ k. paid_to f (prices k) (trade_at (split_trades trades contracts free) k) *ℤ pos (counts k))
    (λ k. paid_to f (prices k) (trade_at trades (contract_at contracts k).trade) *ℤ pos (counts k)) (length contracts)
    (λ k below. ap (λ (p : UnitTrade). paid_to f (prices k) p *ℤ pos (counts k))
    (split_signed trades contracts free k below)) in
    let second = total-same
    (λ t. paid_to f (prices (length contracts + t)) (trade_at (split_trades trades contracts free) (length contracts + t))
    *ℤ pos (counts (length contracts + t)))
    (λ t. paid_to f (prices (length contracts + t)) (trade_at trades t) *ℤ pos (counts (length contracts + t)))
    (length trades)
    (λ t below. ap (λ (p : UnitTrade). paid_to f (prices (length contracts + t)) p *ℤ pos (counts (length contracts + t)))
    (split_free trades contracts free t below)) in
    omega (arith, ints, sized, split, first, second)
