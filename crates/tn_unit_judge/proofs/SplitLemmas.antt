-- A split network as a market: its firms have so many times what they have by the joined counts.
use Rattle.std.proofs.Common.{◌≡◌, ℕ, suc, ◌+◌, ◌-◌, ◌<◌, inl, inr, Bool, true, false, ◌==◌, ◌&&◌, if◌then◌else◌, List, [], ◌∷◌, length, map, get_or, Option, Some, None, option_map, refl, sym, ap, ap₂, ◌∙◌, arith, ℤ, pos, negsuc, ◌+ℤ◌, ◌-ℤ◌, ◌*ℤ◌, nat_le}
use Rattle.std.specs.Prelude.{min}
use Rattle.std.specs.List.{range_with_len}
use Rattle.std.proofs.lemmas.Int.{ints}
use Rattle.std.proofs.lemmas.Bool.{cases_lt, lt-ltb}
use Rattle.std.proofs.lemmas.List.{get_or-append-add, get_or-map, get_or_append_left, length-append, length-map}
use Rattle.std.proofs.lemmas.List.FromFn.{get_or-map-range_with_len, length-map-range_with_len}
use Rattle.std.proofs.Math.IntN.{*ℤ-zero, *ℤ-one, *ℤ_comm, zero-*ℤ}
use Rattle.tn_base.specs.Options.{both}
use Rattle.tn_base.proofs.SumLemmas.{times-plus}
use Rattle.tn_links.specs.declared.link.Step.{Step}
use Rattle.tn_links.specs.Links.{rise, room}
use Rattle.tn_links.specs.Totals.{total}
use Rattle.tn_links.proofs.TotalLemmas.{minus-times, times-minus, total-same, total-times}
use Rattle.tn_counts.specs.Counts.{CountFirm, count_utility, payments, trade_at}
use Rattle.tn_counts.specs.Laminar.{added_at, amount_sum, amount_to, amounts_at, bought_by, firm_of, holds, net_count, set_number, set_sum}
use Rattle.tn_counts.specs.Outcomes.{contract_at, joined, split_trades, units_of}
use Rattle.tn_counts.specs.declared.contract.UnitContract.{UnitContract}
use Rattle.tn_counts.specs.declared.market.UnitMarket.{UnitMarket}
use Rattle.tn_counts.specs.declared.set.CountSet.{CountSet}
use Rattle.tn_counts.specs.declared.trade.UnitAmounts.{UnitAmounts}
use Rattle.tn_counts.specs.declared.trade.UnitTrade.{UnitTrade}
use Rattle.tn_counts.proofs.UtilityLemmas.{when}
use Rattle.tn_unit_judge.specs.Split.{AreSplitSets, IsSplitMarket, IsSplitSet, origins, times_amounts, times_step}
use Rattle.tn_unit_judge.proofs.JoinLemmas.{AreKnown, joined_sum, origin_free, origin_signed, origins_sized, scale_times, scale_units}

-- ---- the trades

pub split_sized : (trades : List UnitTrade) (contracts : List UnitContract) (free : ℕ → ℕ)
    → length (split_trades trades contracts free) ≡ length contracts + length trades
split_sized trades contracts free =
    let sum = length-append (map (λ contract. units_of trades contract.trade contract.units) contracts)
    (map (λ t. units_of trades t (free t)) (range_with_len 0 (length trades))) in
    let first = length-map contracts (λ contract. units_of trades contract.trade contract.units) in
    let second = length-map-range_with_len (λ t. units_of trades t (free t)) 0 (length trades) in
    omega (arith, sum, first, second)

pub split_signed : (trades : List UnitTrade) (contracts : List UnitContract) (free : ℕ → ℕ) (k : ℕ) → k < length contracts
    → trade_at (split_trades trades contracts free) k
    ≡ units_of trades (contract_at contracts k).trade (contract_at contracts k).units
split_signed trades contracts free k below =
    let sized = length-map contracts (λ contract. units_of trades contract.trade contract.units) in
    get_or_append_left (map (λ contract. units_of trades contract.trade contract.units) contracts)
    (map (λ t. units_of trades t (free t)) (range_with_len 0 (length trades))) (record { seller = 0; buyer = 0; units = 0 }) k
    (omega (arith, below, sized))
    ∙ get_or-map (λ contract. units_of trades contract.trade contract.units) contracts k
    (record { trade = 0; units = 0; price = pos 0 }) (record { seller = 0; buyer = 0; units = 0 }) below

pub split_free : (trades : List UnitTrade) (contracts : List UnitContract) (free : ℕ → ℕ) (t : ℕ) → t < length trades
    → trade_at (split_trades trades contracts free) (length contracts + t) ≡ units_of trades t (free t)
split_free trades contracts free t below =
    let sized = length-map contracts (λ contract. units_of trades contract.trade contract.units) in
    let place : length contracts + t
    ≡ length (map (λ contract. units_of trades contract.trade contract.units) contracts) + t = omega (arith, sized) in
    ap (trade_at (split_trades trades contracts free)) place
    ∙ get_or-append-add (map (λ contract. units_of trades contract.trade contract.units) contracts)
    (map (λ t. units_of trades t (free t)) (range_with_len 0 (length trades))) t (record { seller = 0; buyer = 0; units = 0 })
    ∙ get_or-map-range_with_len (λ t. units_of trades t (free t)) 0 (length trades) t t
    (record { seller = 0; buyer = 0; units = 0 }) below (omega arith)

-- each part has the firms of its trade
pub record HasEndsOf (part whole : UnitTrade) : Type 0 where
  pub seller : part.seller ≡ whole.seller
  pub buyer : part.buyer ≡ whole.buyer

pub split_ends : (trades : List UnitTrade) (contracts : List UnitContract) (free : ℕ → ℕ) (k : ℕ)
    → k < length contracts + length trades
    → HasEndsOf (trade_at (split_trades trades contracts free) k)
    (trade_at trades (get_or (origins (length trades) contracts) k 0))
split_ends trades contracts free k below = elim (cases_lt k (length contracts)) [
  | inl signed ↦
      let part = split_signed trades contracts free k signed in
      let from = sym (origin_signed (length trades) contracts k signed) in
      record {
        seller = ap (λ (t : UnitTrade). t.seller) part ∙ ap (λ (t : ℕ). (trade_at trades t).seller) from;
        buyer = ap (λ (t : UnitTrade). t.buyer) part ∙ ap (λ (t : ℕ). (trade_at trades t).buyer) from;
      }
  | inr past ↦
      let t : ℕ = k - length contracts in
      let place : k ≡ length contracts + t = omega (arith, past) in
      let inside : t < length trades = omega (arith, past, below) in
      let part = ap (trade_at (split_trades trades contracts free)) place ∙ split_free trades contracts free t inside in
      let from = sym (ap (λ (j : ℕ). get_or (origins (length trades) contracts) j 0) place
      ∙ origin_free (length trades) contracts t inside) in
      record {
        seller = ap (λ (t : UnitTrade). t.seller) part ∙ ap (λ (t : ℕ). (trade_at trades t).seller) from;
        buyer = ap (λ (t : UnitTrade). t.buyer) part ∙ ap (λ (t : ℕ). (trade_at trades t).buyer) from;
      }
]

-- ---- what sets add

pub rise_times : (over : ℕ) (steps : List Step) (n : ℕ)
    → rise (map (times_step over) steps) n ≡ pos over *ℤ rise steps n
rise_times over [] n = sym (*ℤ-zero (pos over))
rise_times over (step ∷ steps) n =
    let rest = rise_times over steps (n - step.units) in
    let own = scale_units (pos over) step.each (min n step.units) in
    let sum = times-plus (pos over) (step.each *ℤ pos (min n step.units)) (rise steps (n - step.units)) in
    omega (arith, ints, rest, own, sum)

pub room_times : (over : ℕ) (steps : List Step) → room (map (times_step over) steps) ≡ room steps
room_times over [] = refl
room_times over (step ∷ steps) = ap (λ (n : ℕ). step.units + n) (room_times over steps)

abbrev pub times_number : ℕ → Option ℤ → Option ℤ
times_number over number = option_map (λ value. pos over *ℤ value) number

added_times : (over : ℕ) (from : List ℕ) (set split : CountSet) (z : ℤ) → IsSplitSet over from set split
    → added_at split z ≡ times_number over (added_at set z)
added_times over from set split (negsuc k) is = refl
added_times over from set split (pos level) is =
    let steps = is.steps in
    let constant = is.constant in
    let back = is.back in
    let room_is = ap room steps ∙ room_times over set.steps.items in
    let up = ap (λ (xs : List Step). rise xs level) steps ∙ rise_times over set.steps.items level in
    let down = ap₂ (λ (xs : List Step) (n : ℕ). rise xs n) steps back ∙ rise_times over set.steps.items set.back in
    let parts = times-plus (pos over) set.constant (rise set.steps.items level -ℤ rise set.steps.items set.back) in
    let less = times-minus (pos over) (rise set.steps.items level) (rise set.steps.items set.back) in
    let whole : split.constant +ℤ (rise split.steps.items level -ℤ rise split.steps.items split.back)
    ≡ pos over *ℤ (set.constant +ℤ (rise set.steps.items level -ℤ rise set.steps.items set.back)) =
    omega (arith, ints, constant, up, down, parts, less) in
    ap₂ (λ (n : ℕ) (v : ℤ). if nat_le level n then Some v else None) room_is whole
    ∙ test (nat_le level (room set.steps.items)) (set.constant +ℤ (rise set.steps.items level -ℤ rise set.steps.items set.back))
  where
    test : (b : Bool) (v : ℤ) → (if b then Some (pos over *ℤ v) else None) ≡ times_number over (if b then Some v else None)
    test true v = refl
    test false v = refl

-- what units of a trade are to a firm, for each unit
unit_rate : (h b s : Bool) (u : ℤ) → when h (when b u -ℤ when s u) ≡ when h (when b (pos 1) -ℤ when s (pos 1)) *ℤ u
unit_rate false b s u = sym (zero-*ℤ u)
unit_rate true true true u = let none = zero-*ℤ u in omega (arith, ints, none)
unit_rate true false false u = let none = zero-*ℤ u in omega (arith, ints, none)
unit_rate true true false u =
    let turned = *ℤ_comm (pos 1) u in let unit = *ℤ-one u in omega (arith, ints, turned, unit)
unit_rate true false true u =
    let parts = minus-times (pos 0) (pos 1) u in
    let none = zero-*ℤ u in
    let turned = *ℤ_comm (pos 1) u in
    let unit = *ℤ-one u in
    omega (arith, ints, parts, none, turned, unit)

abbrev rate_in : List UnitTrade → CountSet → ℕ → ℤ
rate_in trades set t = when (holds set t) (bought_by set.firm (trade_at trades t) (pos 1))

net_split : (trades : List UnitTrade) (contracts : List UnitContract) (free counts : ℕ → ℕ) (over : ℕ)
    (set split : CountSet) → AreKnown (length trades) contracts
    → IsSplitSet over (origins (length trades) contracts) set split
    → net_count (split_trades trades contracts free) split counts ≡ net_count trades set (joined contracts counts)
net_split trades contracts free counts over set split known is =
    let sized = split_sized trades contracts free in
    ap (total (λ k. when (holds split k) (bought_by split.firm (trade_at (split_trades trades contracts free) k)
    (pos (counts k))))) sized
    ∙ total-same (λ k. when (holds split k) (bought_by split.firm (trade_at (split_trades trades contracts free) k)
    (pos (counts k)))) (λ k. rate_in trades set (get_or (origins (length trades) contracts) k 0) *ℤ pos (counts k))
    (length contracts + length trades) each
    ∙ joined_sum (rate_in trades set) counts (length trades) contracts known
    ∙ sym (total-same (λ t. when (holds set t) (bought_by set.firm (trade_at trades t) (pos (joined contracts counts t))))
    (λ t. rate_in trades set t *ℤ pos (joined contracts counts t)) (length trades)
    (λ t below. unit_rate (holds set t) (set.firm == (trade_at trades t).buyer) (set.firm == (trade_at trades t).seller)
    (pos (joined contracts counts t))))
  where
    each : (k : ℕ) → k < length contracts + length trades
        → when (holds split k) (bought_by split.firm (trade_at (split_trades trades contracts free) k) (pos (counts k)))
        ≡ rate_in trades set (get_or (origins (length trades) contracts) k 0) *ℤ pos (counts k)
    each k below =
        let o : ℕ = get_or (origins (length trades) contracts) k 0 in
        let ends = split_ends trades contracts free k below in
        let long = origins_sized (length trades) contracts in
        let inside = lt-ltb k (length (origins (length trades) contracts)) (omega (arith, below, long)) in
        let has : holds split k ≡ holds set o = is.members k ∙ ap (λ (b : Bool). b && holds set o) inside in
        let own : bought_by split.firm (trade_at (split_trades trades contracts free) k) (pos (counts k))
        ≡ bought_by set.firm (trade_at trades o) (pos (counts k)) =
        ap₂ (λ (b : ℕ) (s : ℕ). when (split.firm == b) (pos (counts k)) -ℤ when (split.firm == s) (pos (counts k)))
        ends.buyer ends.seller
        ∙ ap (λ (f : ℕ). bought_by f (trade_at trades o) (pos (counts k))) is.firm in
        ap₂ (λ (b : Bool) (z : ℤ). when b z) has own
        ∙ unit_rate (holds set o) (set.firm == (trade_at trades o).buyer) (set.firm == (trade_at trades o).seller)
        (pos (counts k))

number_split : (trades : List UnitTrade) (contracts : List UnitContract) (free counts : ℕ → ℕ) (over : ℕ)
    (set split : CountSet) → AreKnown (length trades) contracts
    → IsSplitSet over (origins (length trades) contracts) set split
    → set_number (split_trades trades contracts free) split counts
    ≡ times_number over (set_number trades set (joined contracts counts))
number_split trades contracts free counts over set split known is =
    added_times over (origins (length trades) contracts) set split
    (net_count (split_trades trades contracts free) split counts +ℤ pos split.back) is
    ∙ ap₂ (λ (z : ℤ) (n : ℕ). times_number over (added_at set (z +ℤ pos n)))
    (net_split trades contracts free counts over set split known is) is.back

both_times : (over : ℕ) (o p : Option ℤ) → both (times_number over o) (times_number over p) ≡ times_number over (both o p)
both_times over None p = refl
both_times over (Some a) None = refl
both_times over (Some a) (Some b) = ap (λ (z : ℤ). Some z) (sym (times-plus (pos over) a b))

sum_split : (trades : List UnitTrade) (contracts : List UnitContract) (free counts : ℕ → ℕ) (over f : ℕ)
    (sets splits : List CountSet) → AreKnown (length trades) contracts
    → AreSplitSets over (origins (length trades) contracts) sets splits
    → set_sum (split_trades trades contracts free) f counts splits
    ≡ times_number over (set_sum trades f (joined contracts counts) sets)
sum_split trades contracts free counts over f [] [] known are = ap (λ (z : ℤ). Some z) (sym (*ℤ-zero (pos over)))
sum_split trades contracts free counts over f [] (split ∷ splits) known are =
    absurd (let sized = are.sized in omega (arith, sized))
sum_split trades contracts free counts over f (set ∷ sets) [] known are =
    absurd (let sized = are.sized in omega (arith, sized))
sum_split trades contracts free counts over f (set ∷ sets) (split ∷ splits) known are =
    let here = are.each 0 set split refl refl in
    let rest = sum_split trades contracts free counts over f sets splits known (record {
      sized = let sized = are.sized in omega (arith, sized);
      each = λ i one other at_one at_other. are.each (suc i) one other at_one at_other;
    }) in
    let own = number_split trades contracts free counts over set split known here in
    ap (λ (g : ℕ). if f == g then both (set_number (split_trades trades contracts free) split counts)
    (set_sum (split_trades trades contracts free) f counts splits)
    else set_sum (split_trades trades contracts free) f counts splits) here.firm
    ∙ ap₂ (λ (o : Option ℤ) (p : Option ℤ). if f == set.firm then both o p else p) own rest
    ∙ test (f == set.firm) (set_number trades set (joined contracts counts))
    (set_sum trades f (joined contracts counts) sets)
  where
    test : (b : Bool) (o p : Option ℤ) → (if b then both (times_number over o) (times_number over p) else times_number over p)
        ≡ times_number over (if b then both o p else p)
    test true o p = both_times over o p
    test false o p = refl

-- ---- what amounts add

amount_times : (s b : Bool) (over : ℕ) (x y : ℤ)
    → when s (pos over *ℤ x) +ℤ when b (pos over *ℤ y) ≡ pos over *ℤ (when s x +ℤ when b y)
amount_times true true over x y = sym (times-plus (pos over) x y)
amount_times true false over x y =
    let sum = times-plus (pos over) x (pos 0) in let none = *ℤ-zero (pos over) in omega (arith, ints, sum, none)
amount_times false true over x y =
    let sum = times-plus (pos over) (pos 0) y in let none = *ℤ-zero (pos over) in omega (arith, ints, sum, none)
amount_times false false over x y =
    let sum = times-plus (pos over) (pos 0) (pos 0) in let none = *ℤ-zero (pos over) in omega (arith, ints, sum, none)

amounts_split : (trades : List UnitTrade) (amounts : List UnitAmounts) (contracts : List UnitContract)
    (free counts : ℕ → ℕ) (over f : ℕ) → AreKnown (length trades) contracts
    → amount_sum (split_trades trades contracts free)
    (map (λ t. times_amounts over (amounts_at amounts t)) (origins (length trades) contracts)) f counts
    ≡ pos over *ℤ amount_sum trades amounts f (joined contracts counts)
amounts_split trades amounts contracts free counts over f known =
    ap (total (λ k. amount_to f (trade_at (split_trades trades contracts free) k) (amounts_at splits k) *ℤ pos (counts k)))
    (split_sized trades contracts free)
    ∙ total-same (λ k. amount_to f (trade_at (split_trades trades contracts free) k) (amounts_at splits k) *ℤ pos (counts k))
    (λ k. (pos over *ℤ amount (get_or from k 0)) *ℤ pos (counts k)) (length contracts + length trades) each
    ∙ joined_sum (λ t. pos over *ℤ amount t) counts (length trades) contracts known
    ∙ total-same (λ t. (pos over *ℤ amount t) *ℤ pos (joined contracts counts t))
    (λ t. pos over *ℤ (amount t *ℤ pos (joined contracts counts t))) (length trades)
    (λ t below. scale_units (pos over) (amount t) (joined contracts counts t))
    ∙ total-times (pos over) (λ t. amount t *ℤ pos (joined contracts counts t)) (length trades)
  where
    from : List ℕ
    from = origins (length trades) contracts

    splits : List UnitAmounts
    splits = map (λ t. times_amounts over (amounts_at amounts t)) from

    amount : ℕ → ℤ
    amount t = amount_to f (trade_at trades t) (amounts_at amounts t)

    each : (k : ℕ) → k < length contracts + length trades
        → amount_to f (trade_at (split_trades trades contracts free) k) (amounts_at splits k) *ℤ pos (counts k)
        ≡ (pos over *ℤ amount (get_or from k 0)) *ℤ pos (counts k)
    each k below =
        let o : ℕ = get_or from k 0 in
        let ends = split_ends trades contracts free k below in
        let long = origins_sized (length trades) contracts in
        let read : amounts_at splits k ≡ times_amounts over (amounts_at amounts o) =
        get_or-map (λ t. times_amounts over (amounts_at amounts t)) from k 0 (record { seller = pos 0; buyer = pos 0 })
        (omega (arith, below, long)) in
        ap (λ (z : ℤ). z *ℤ pos (counts k))
        (ap₂ (λ (s : ℕ) (b : ℕ). when (f == s) (amounts_at splits k).seller +ℤ when (f == b) (amounts_at splits k).buyer)
        ends.seller ends.buyer
        ∙ ap (amount_to f (trade_at trades o)) read
        ∙ amount_times (f == (trade_at trades o).seller) (f == (trade_at trades o).buyer) over (amounts_at amounts o).seller
        (amounts_at amounts o).buyer)

-- ---- what firms have

abbrev pub split_firm : UnitMarket → List UnitContract → ℕ → CountFirm
split_firm market contracts f = record { worth = λ counts. (firm_of market f).worth (joined contracts counts) }

pub worth_split : (market : UnitMarket) (over : ℕ) (contracts : List UnitContract) (free : ℕ → ℕ) (split : UnitMarket)
    (f : ℕ) (counts : ℕ → ℕ) → AreKnown (length market.trades.items) contracts
    → IsSplitMarket market over contracts free split
    → (firm_of split f).worth counts ≡ times_number over ((split_firm market contracts f).worth counts)
worth_split market over contracts free split f counts known is =
    let trades = market.trades.items in
    ap₂ (λ (ts : List UnitTrade) (each : List UnitAmounts). both (Some (amount_sum ts each f counts))
    (set_sum ts f counts split.sets.items)) is.trades is.amounts
    ∙ ap₂ (λ (z : ℤ) (o : Option ℤ). both (Some z) o)
    (amounts_split trades market.amounts.items contracts free counts over f known)
    (sum_split trades contracts free counts over f market.sets.items split.sets.items known is.sets)
    ∙ both_times over (Some (amount_sum trades market.amounts.items f (joined contracts counts)))
    (set_sum trades f (joined contracts counts) market.sets.items)

-- so a utility in the market is one of the definitions, at so many times the scale
pub utility_split : (market : UnitMarket) (over : ℕ) (contracts : List UnitContract) (free : ℕ → ℕ) (split : UnitMarket)
    (f : ℕ) (scale : ℤ) (prices : ℕ → ℤ) (counts : ℕ → ℕ) → AreKnown (length market.trades.items) contracts
    → IsSplitMarket market over contracts free split
    → count_utility split.trades.items scale prices f (firm_of split f) counts
    ≡ count_utility (split_trades market.trades.items contracts free) (scale *ℤ pos over) prices f
    (split_firm market contracts f) counts
utility_split market over contracts free split f scale prices counts known is =
    ap₂ (λ (ts : List UnitTrade) (o : Option ℤ). option_map (λ worth. scale *ℤ worth +ℤ payments ts prices f counts) o)
    is.trades (worth_split market over contracts free split f counts known is)
    ∙ by ((split_firm market contracts f).worth counts)
    (payments (split_trades market.trades.items contracts free) prices f counts)
  where
    by : (o : Option ℤ) (paid : ℤ) → option_map (λ worth. scale *ℤ worth +ℤ paid) (times_number over o)
        ≡ option_map (λ worth. (scale *ℤ pos over) *ℤ worth +ℤ paid) o
    by None paid = refl
    by (Some w) paid = ap (λ (z : ℤ). Some (z +ℤ paid)) (sym (scale_times scale (pos over) w))
