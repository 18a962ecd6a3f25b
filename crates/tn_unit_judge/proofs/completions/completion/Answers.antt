-- What shows the clauses of `completion` of `src/completions.rt`.
use Rattle.std.proofs.Common.{◌≡◌, ℕ, length, List, sym, ap, ◌∙◌, subst, arith, ℤ}
use Rattle.std.specs.Prelude.{All}
use Rattle.std.proofs.lemmas.Int.{ints}
use Rattle.tn_base.specs.Arcs.{IsAtMost}
use Rattle.tn_counts.specs.Counts.{AreCounts}
use Rattle.tn_counts.specs.Markets.{ArePins}
use Rattle.tn_counts.specs.Outcomes.{unsigned_units}
use Rattle.tn_counts.specs.declared.contract.UnitContract.{UnitContract}
use Rattle.tn_counts.specs.declared.market.Pin.{Pin}
use Rattle.tn_counts.specs.declared.market.UnitMarket.{UnitMarket}
use Rattle.tn_counts.specs.declared.trade.UnitTrade.{UnitTrade}
use Rattle.tn_tree.specs.Levels.{ArePossible}
use Rattle.tn_tree.specs.Lists.{count_in, price_in}
use Rattle.tn_tree.specs.Pinned.{SupportsBeside, most_beside_price}
use Rattle.tn_tree.specs.declared.pinned.PinnedSupport.{PinnedSupport}
use Rattle.tn_tree.specs.declared.pinned.PinnedSupport.TheVariants.{Supported, Unsupported}
use Rattle.tn_unit_judge.specs.Completion.{AreUnsigned, IsPriceOf, contract_pins}
use Rattle.tn_unit_judge.specs.Split.{IsSplitMarket, signed_counts}
use Rattle.tn_unit_judge.proofs.CompletionLemmas.{completing, contracts_pin, incomplete_by, possible}
use Rattle.tn_unit_judge.proofs.DropLemmas.{signed_fit, split_by}
use Rattle.tn_unit_judge.proofs.SplitLemmas.{split_sized}
use Rattle.tn_unit_judge.proofs.WideLemmas.{split_wide}
use Rattle.tn_unit_judge.proofs.completions.completion.Goals as goal

-- the unsigned units are free in the split network
split_unsigned : (market : UnitMarket) (over : ℕ) (contracts : List UnitContract) (read : List UnitTrade)
    (lent free : List ℕ) (split : UnitMarket) → read ≡ market.trades.items → lent ≡ free
    → AreUnsigned read contracts free → IsSplitMarket market over contracts (count_in lent) split
    → IsSplitMarket market over contracts (unsigned_units market.trades.items contracts) split
split_unsigned market over contracts read lent free split trades same left is =
    split_by market over contracts (count_in lent) (unsigned_units market.trades.items contracts) split
    (λ t below. ap (λ xs. count_in xs t) same
    ∙ (subst (λ ts. AreUnsigned ts contracts free) trades left).each t below) is

pub split_market-requires-clause-free : goal.split_market-requires-clause-free
split_market-requires-clause-free c =
    let left = c.in_ok-free.ensures in
    let long = left.one_each in
    let lent = ap length c.deref-2.ensures.value in
    let read = ap length c.deref.ensures.value in
    omega (arith, long, lent, read)

pub support_beside-requires-clause-market : goal.support_beside-requires-clause-market
support_beside-requires-clause-market c =
    split_wide c.args.market.now c.args.over c.args.contracts.now
    (unsigned_units c.args.market.now.trades.items c.args.contracts.now) c.in_ok-split.split c.requires.market
    (let over = c.requires.over in omega (arith, over)) c.requires.few c.requires.contracts.known
    (λ t below. let within = c.requires.contracts.within t below in omega (arith, within))
    (split_unsigned c.args.market.now c.args.over c.args.contracts.now c.deref.result.now c.deref-2.result.now
    c.in_ok-free.free.items c.in_ok-split.split c.deref.ensures.value c.deref-2.ensures.value c.in_ok-free.ensures
    c.in_ok-split.ensures)

pub support_beside-requires-clause-pins : goal.support_beside-requires-clause-pins
support_beside-requires-clause-pins c =
    let long = ap length c.in_ok-split.ensures.trades
    ∙ split_sized c.args.market.now.trades.items c.args.contracts.now (count_in c.deref-2.result.now) in
    subst (ArePins (length c.in_ok-split.split.trades.items)) (sym (c.deref-3.ensures.value ∙ c.in_ok-pins.ensures))
    (contracts_pin (length c.in_ok-split.split.trades.items) c.args.contracts.now
    (λ k contract at. let small = c.requires.small k contract at in
    record { low = omega (arith, ints, small.low); high = omega (arith, ints, small.high) }) (omega (arith, long)))

pub pins_of-requires-clause-small : goal.pins_of-requires-clause-small
pins_of-requires-clause-small c = λ k contract at.
    let small = c.requires.small k contract at in
    record { low = omega (arith, ints, small.low); high = omega (arith, ints, small.high) }

-- what is signed, as it is read
signed_read : (n m : ℕ) (contracts : List UnitContract) (lent counts : List ℕ) → n ≡ m → lent ≡ counts
    → counts ≡ signed_counts n contracts → lent ≡ signed_counts m contracts
signed_read n m contracts lent counts same read made =
    read ∙ made ∙ ap (λ (k : ℕ). signed_counts k contracts) same

pub support_beside-requires-clause-within : goal.support_beside-requires-clause-within
support_beside-requires-clause-within c =
    let sized = c.args.market.now.trades.ok.0 in
    let count = c.len-trades.ensures in
    subst (λ (xs : List ℕ). AreCounts c.in_ok-split.split.trades.items (count_in xs))
    (sym (signed_read c.len-trades.result (length c.args.market.now.trades.items) c.args.contracts.now c.deref-4.result.now
    c.in_ok-counts.counts.items (omega (arith, sized, count)) c.deref-4.ensures.value c.in_ok-counts.ensures))
    (signed_fit c.args.market.now c.args.over c.args.contracts.now (count_in c.deref-2.result.now) c.in_ok-split.split
    c.in_ok-split.ensures)

pub support_beside-requires-clause-possible : goal.support_beside-requires-clause-possible
support_beside-requires-clause-possible c =
    let sized = c.args.market.now.trades.ok.0 in
    let count = c.len-trades.ensures in
    subst (λ (xs : List ℕ). ArePossible c.in_ok-split.split (λ f. count_in xs))
    (sym (signed_read c.len-trades.result (length c.args.market.now.trades.items) c.args.contracts.now c.deref-4.result.now
    c.in_ok-counts.counts.items (omega (arith, sized, count)) c.deref-4.ensures.value c.in_ok-counts.ensures))
    (possible c.args.market.now c.args.over c.args.contracts.now c.in_ok-split.split c.requires.contracts.known
    (split_unsigned c.args.market.now c.args.over c.args.contracts.now c.deref.result.now c.deref-2.result.now
    c.in_ok-free.free.items c.in_ok-split.split c.deref.ensures.value c.deref-2.ensures.value c.in_ok-free.ensures
    c.in_ok-split.ensures) c.requires.rational)

pub prices_by-requires-clause-sized : goal.prices_by-requires-clause-sized
prices_by-requires-clause-sized c =
    let sized = c.args.market.now.trades.ok.0 in
    let count = c.len-trades.ensures in
    let found = subst (SupportsBeside c.in_ok-split.split c.deref-3.result.now (count_in c.deref-4.result.now))
    c.in-Supported.is c.in_ok-beside.ensures in
    let one = found.one_each in
    let read = ap length c.deref-in-Supported.ensures.value in
    let long = ap length c.in_ok-split.ensures.trades
    ∙ split_sized c.args.market.now.trades.items c.args.contracts.now (count_in c.deref-2.result.now) in
    omega (arith, sized, count, one, read, long)

pub prices_by-requires-clause-beside : goal.prices_by-requires-clause-beside
prices_by-requires-clause-beside c =
    subst (All (λ price. IsAtMost price most_beside_price)) (sym c.deref-in-Supported.ensures.value)
    (subst (SupportsBeside c.in_ok-split.split c.deref-3.result.now (count_in c.deref-4.result.now)) c.in-Supported.is
    c.in_ok-beside.ensures).small

-- what is said beside pins and counts, of others that are the same
beside_by : (split : UnitMarket) (pins others : List Pin) (counts own : List ℕ) (found : PinnedSupport) → pins ≡ others
    → counts ≡ own → SupportsBeside split pins (count_in counts) found → SupportsBeside split others (count_in own) found
beside_by split pins others counts own found first second is =
    subst (λ (xs : List ℕ). SupportsBeside split others (count_in xs) found) second
    (subst (λ (ps : List Pin). SupportsBeside split ps (count_in counts) found) first is)

pub returns-in-Supported : goal.returns-in-Supported
returns-in-Supported c =
    let sized = c.args.market.now.trades.ok.0 in
    let count = c.len-trades.ensures in
    let same : c.len-trades.result ≡ length c.args.market.now.trades.items = omega (arith, sized, count) in
    completing c.args.market.now c.args.over c.args.contracts.now c.in_ok-split.split c.requires.contracts.known
    (split_unsigned c.args.market.now c.args.over c.args.contracts.now c.deref.result.now c.deref-2.result.now
    c.in_ok-free.free.items c.in_ok-split.split c.deref.ensures.value c.deref-2.ensures.value c.in_ok-free.ensures
    c.in_ok-split.ensures) c.requires.market c.requires.small c.in-Supported.beside.items
    c.in_ok-prices-in-Supported.prices.items
    (beside_by c.in_ok-split.split c.deref-3.result.now (contract_pins c.args.contracts.now) c.deref-4.result.now
    (signed_counts (length c.args.market.now.trades.items) c.args.contracts.now) (Supported c.in-Supported.beside)
    (c.deref-3.ensures.value ∙ c.in_ok-pins.ensures)
    (signed_read c.len-trades.result (length c.args.market.now.trades.items) c.args.contracts.now c.deref-4.result.now
    c.in_ok-counts.counts.items same c.deref-4.ensures.value c.in_ok-counts.ensures)
    (subst (SupportsBeside c.in_ok-split.split c.deref-3.result.now (count_in c.deref-4.result.now)) c.in-Supported.is
    c.in_ok-beside.ensures))
    (c.in_ok-prices-in-Supported.ensures.one_each ∙ same)
    (λ t below. subst (λ (xs : List ℤ). IsPriceOf c.args.contracts.now xs t
    (price_in c.in_ok-prices-in-Supported.prices.items t)) c.deref-in-Supported.ensures.value
    (c.in_ok-prices-in-Supported.ensures.each t (omega (arith, below, same))))

pub returns : goal.returns
returns c =
    let sized = c.args.market.now.trades.ok.0 in
    let count = c.len-trades.ensures in
    let unsigned = split_unsigned c.args.market.now c.args.over c.args.contracts.now c.deref.result.now c.deref-2.result.now
    c.in_ok-free.free.items c.in_ok-split.split c.deref.ensures.value c.deref-2.ensures.value c.in_ok-free.ensures
    c.in_ok-split.ensures in
    let found = beside_by c.in_ok-split.split c.deref-3.result.now (contract_pins c.args.contracts.now) c.deref-4.result.now
    (signed_counts (length c.args.market.now.trades.items) c.args.contracts.now) (Unsupported c.in-Unsupported.passed)
    (c.deref-3.ensures.value ∙ c.in_ok-pins.ensures)
    (signed_read c.len-trades.result (length c.args.market.now.trades.items) c.args.contracts.now c.deref-4.result.now
    c.in_ok-counts.counts.items (omega (arith, sized, count)) c.deref-4.ensures.value c.in_ok-counts.ensures)
    (subst (SupportsBeside c.in_ok-split.split c.deref-3.result.now (count_in c.deref-4.result.now)) c.in-Unsupported.is
    c.in_ok-beside.ensures) in (
      incomplete_by c.args.market.now c.args.over c.args.contracts.now c.in_ok-split.split c.requires.contracts.known unsigned
          found.0,
      record { split = c.in_ok-split.split; is = unsigned; gain = found.1 },
    )
