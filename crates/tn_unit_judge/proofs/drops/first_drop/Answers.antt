-- What shows the clauses of `first_drop` of `src/drops.rt`.
use Rattle.std.proofs.Common.{◌≡◌, ℕ, List, length, map, Some, None, slice_get, refl, sym, ap, ◌∙◌, subst, arith, ℤ}
use Rattle.std.specs.List.{range_with_len}
use Rattle.std.proofs.lemmas.Int.{ints}
use Rattle.std.proofs.lemmas.List.FromFn.{get_or-map-range_with_len, length-map-range_with_len}
use Rattle.std.proofs.lemmas.Option.{slice_get_read}
use Rattle.tn_counts.specs.Counts.{AreCounts}
use Rattle.tn_counts.specs.Laminar.{firm_of}
use Rattle.tn_counts.specs.declared.contract.UnitContract.{UnitContract}
use Rattle.tn_counts.specs.declared.market.UnitMarket.{UnitMarket}
use Rattle.tn_counts.specs.declared.trade.UnitTrade.{UnitTrade}
use Rattle.tn_tree.specs.declared.held.FirmCount.{FirmCount}
use Rattle.tn_tree.specs.Held.{IsHeldAt}
use Rattle.tn_tree.specs.Lists.{count_in, price_in}
use Rattle.tn_unit_judge.specs.Split.{IsSplitMarket, signed_counts, signed_prices}
use Rattle.tn_unit_judge.specs.Verdict.{FindsGain, kept_at}
use Rattle.tn_unit_judge.proofs.DropLemmas.{drop_is, none_is, prices_small, signed_within, split_by}
use Rattle.tn_unit_judge.proofs.WideLemmas.{split_wide}
use Rattle.tn_unit_judge.proofs.drops.first_drop.Goals as goal

-- the split network has nothing that is free
split_none : (market : UnitMarket) (over : ℕ) (contracts : List UnitContract) (lent free : List ℕ) (n : ℕ)
    (split : UnitMarket) → lent ≡ free → free ≡ map (λ t. 0) (range_with_len 0 n) → n ≡ length market.trades.items
    → IsSplitMarket market over contracts (count_in lent) split → IsSplitMarket market over contracts (λ t. 0) split
split_none market over contracts lent free n split same made sized is =
    split_by market over contracts (count_in lent) (λ t. 0) split
    (λ t below. ap (λ xs. count_in xs t) (same ∙ made)
    ∙ get_or-map-range_with_len (λ k. 0) 0 n t t 0 (omega (arith, below, sized)) (omega arith)) is

pub split_market-requires-clause-free : goal.split_market-requires-clause-free
split_market-requires-clause-free c =
    let sized = c.args.market.now.trades.ok.0 in
    let count = c.len-trades.ensures in
    let long = ap length (c.deref.ensures.value ∙ c.in_ok-free.ensures) in
    let made = length-map-range_with_len {X = ℕ} (λ t. 0) 0 c.len-trades.result in
    omega (arith, sized, count, long, made)

pub hold_wide-requires-clause-market : goal.hold_wide-requires-clause-market
hold_wide-requires-clause-market c =
    let sized = c.args.market.now.trades.ok.0 in
    let count = c.len-trades.ensures in
    split_wide c.args.market.now c.args.over c.args.contracts.now (λ t. 0) c.in_ok-split.split c.requires.market (let over = c.requires.over in omega (arith, over))
    c.requires.few c.requires.contracts.known
    (λ t below. let within = c.requires.contracts.within t below in omega (arith, within))
    (split_none c.args.market.now c.args.over c.args.contracts.now c.deref.result.now c.in_ok-free.free.items
    c.len-trades.result c.in_ok-split.split c.deref.ensures.value c.in_ok-free.ensures (omega (arith, sized, count))
    c.in_ok-split.ensures)

pub hold_wide-requires-clause-within : goal.hold_wide-requires-clause-within
hold_wide-requires-clause-within c =
    let sized = c.args.market.now.trades.ok.0 in
    let count = c.len-trades.ensures in
    let same : c.len-trades.result ≡ length c.args.market.now.trades.items = omega (arith, sized, count) in
    subst (λ (xs : List ℕ). AreCounts c.in_ok-split.split.trades.items (count_in xs))
    (sym (c.deref-2.ensures.value ∙ c.in_ok-counts.ensures
    ∙ ap (λ (n : ℕ). signed_counts n c.args.contracts.now) same))
    (signed_within c.args.market.now c.args.over c.args.contracts.now c.in_ok-split.split c.requires.contracts.known
    (split_none c.args.market.now c.args.over c.args.contracts.now c.deref.result.now c.in_ok-free.free.items
    c.len-trades.result c.in_ok-split.split c.deref.ensures.value c.in_ok-free.ensures same c.in_ok-split.ensures))

pub hold_wide-requires-clause-small : goal.hold_wide-requires-clause-small
hold_wide-requires-clause-small c = λ t below.
    let small = prices_small c.len-trades.result c.args.contracts.now c.requires.small t in
    let same = ap (λ (xs : List ℤ). price_in xs t) (c.deref-3.ensures.value ∙ c.in_ok-prices.ensures) in
    record { low = omega (arith, ints, small.low, same); high = omega (arith, ints, small.high, same) }

held_by : (trades : List UnitTrade) (split : UnitMarket) (counts own : List ℕ) (prices beside : List ℤ)
    (sold bought : List ℕ) (firms : List FirmCount) → counts ≡ own → prices ≡ beside
    → ((f : ℕ) (said : FirmCount) → slice_get firms f ≡ Some said
    → IsHeldAt trades f (firm_of split f) counts prices sold bought said)
    → (f : ℕ) (said : FirmCount) → slice_get firms f ≡ Some said
    → IsHeldAt trades f (firm_of split f) own beside sold bought said
held_by trades split counts own prices beside sold bought firms first second held f said at =
    subst (λ (xs : List ℤ). IsHeldAt trades f (firm_of split f) own xs sold bought said) second
    (subst (λ (xs : List ℕ). IsHeldAt trades f (firm_of split f) xs prices sold bought said) first (held f said at))

pub returns-in-Some : goal.returns-in-Some
returns-in-Some c =
    let sized = c.args.market.now.trades.ok.0 in
    let count = c.len-trades.ensures in
    let same : c.len-trades.result ≡ length c.args.market.now.trades.items = omega (arith, sized, count) in
    let found = subst (λ (xs : List FirmCount). FindsGain xs (Some c.in-Some.firm)) c.deref-4.ensures.value
    c.in-Some.ensures in
    drop_is c.args.market.now c.args.over c.args.contracts.now c.in_ok-split.split c.requires.contracts.known
    (split_none c.args.market.now c.args.over c.args.contracts.now c.deref.result.now c.in_ok-free.free.items
    c.len-trades.result c.in_ok-split.split c.deref.ensures.value c.in_ok-free.ensures same c.in_ok-split.ensures)
    c.in_ok-held.held.firms.items c.in_ok-held.held.best.sold.items c.in_ok-held.held.best.bought.items
    c.in_ok-held.ensures.firms
    (held_by c.in_ok-split.split.trades.items c.in_ok-split.split c.deref-2.result.now
    (signed_counts (length c.args.market.now.trades.items) c.args.contracts.now) c.deref-3.result.now
    (signed_prices (length c.args.market.now.trades.items) c.args.contracts.now) c.in_ok-held.held.best.sold.items
    c.in_ok-held.held.best.bought.items c.in_ok-held.held.firms.items
    (c.deref-2.ensures.value ∙ c.in_ok-counts.ensures ∙ ap (λ (n : ℕ). signed_counts n c.args.contracts.now) same)
    (c.deref-3.ensures.value ∙ c.in_ok-prices.ensures ∙ ap (λ (n : ℕ). signed_prices n c.args.contracts.now) same)
    c.in_ok-held.ensures.held) c.in-Some.firm c.index.result.now c.in_ok-keeps-in-Some.keeps.items found
    (slice_get_read c.in_ok-held.held.firms.items (length c.in_ok-held.held.firms.items) c.in-Some.firm c.index.result.now
    refl found.0 c.index.ensures)
    (c.in_ok-keeps-in-Some.ensures
    ∙ ap (λ (ts : List UnitTrade). map (kept_at ts c.in_ok-held.held.best.sold.items c.in_ok-held.held.best.bought.items
    c.in-Some.firm) (range_with_len 0 (length c.args.contracts.now))) c.deref-in-Some.ensures.value)

pub returns : goal.returns
returns c =
    let sized = c.args.market.now.trades.ok.0 in
    let count = c.len-trades.ensures in
    let same : c.len-trades.result ≡ length c.args.market.now.trades.items = omega (arith, sized, count) in
    none_is c.args.market.now c.args.over c.args.contracts.now c.in_ok-split.split c.requires.contracts.known
    (split_none c.args.market.now c.args.over c.args.contracts.now c.deref.result.now c.in_ok-free.free.items
    c.len-trades.result c.in_ok-split.split c.deref.ensures.value c.in_ok-free.ensures same c.in_ok-split.ensures)
    c.in_ok-held.held.firms.items c.in_ok-held.held.best.sold.items c.in_ok-held.held.best.bought.items
    c.in_ok-held.ensures.firms
    (held_by c.in_ok-split.split.trades.items c.in_ok-split.split c.deref-2.result.now
    (signed_counts (length c.args.market.now.trades.items) c.args.contracts.now) c.deref-3.result.now
    (signed_prices (length c.args.market.now.trades.items) c.args.contracts.now) c.in_ok-held.held.best.sold.items
    c.in_ok-held.held.best.bought.items c.in_ok-held.held.firms.items
    (c.deref-2.ensures.value ∙ c.in_ok-counts.ensures ∙ ap (λ (n : ℕ). signed_counts n c.args.contracts.now) same)
    (c.deref-3.ensures.value ∙ c.in_ok-prices.ensures ∙ ap (λ (n : ℕ). signed_prices n c.args.contracts.now) same)
    c.in_ok-held.ensures.held)
    (subst (λ (xs : List FirmCount). FindsGain xs None) c.deref-4.ensures.value c.in-None.ensures)
