-- What shows the clauses of `block_by` of `src/blocks.rt`.
use Rattle.std.proofs.Common.{◌≡◌, ◌+◌, ◌*◌, List, ℕ, length, sym, ap, ◌∙◌, subst, arith, pos, slice_get}
use Rattle.tn_counts.specs.Markets.{ArePins}
use Rattle.tn_counts.specs.Outcomes.{counted, unsigned_units}
use Rattle.tn_counts.specs.declared.contract.UnitContract.{UnitContract}
use Rattle.tn_counts.specs.declared.market.Pin.{Pin}
use Rattle.tn_counts.specs.declared.market.UnitMarket.{UnitMarket}
use Rattle.tn_tree.specs.Lists.{count_in}
use Rattle.tn_tree.specs.Pinned.{IsSettledBeside}
use Rattle.tn_tree.specs.declared.beside.SettledBeside.{SettledBeside}
use Rattle.tn_unit_judge.specs.Blocks.{IsTaxedMarket}
use Rattle.tn_unit_judge.specs.Completion.{contract_pins}
use Rattle.tn_unit_judge.proofs.BlockLemmas.{sold_within}
use Rattle.tn_unit_judge.proofs.CauseLemmas.{block_is, counted_small, offers_by, over_most, taxed_wide}
use Rattle.tn_unit_judge.proofs.CompletionLemmas.{contracts_pin, counted_sized}
use Rattle.tn_unit_judge.proofs.SplitLemmas.{split_sized}
use Rattle.tn_unit_judge.proofs.blocks.block_by.Goals as goal

-- the taxed units are those that are handed on
taxed_by : (market : UnitMarket) (over : ℕ) (contracts : List UnitContract) (lent free : List ℕ) (taxed : UnitMarket)
    → lent ≡ free → IsTaxedMarket market over contracts (count_in lent) taxed
    → IsTaxedMarket market over contracts (count_in free) taxed
taxed_by market over contracts lent free taxed same is =
    subst (λ (xs : List ℕ). IsTaxedMarket market over contracts (count_in xs) taxed) same is

-- the pins are those of the contracts
settled_by : (taxed : UnitMarket) (scale : ℕ) (contracts read made : List UnitContract) (lent pins : List Pin)
    (settled : SettledBeside) → read ≡ made → made ≡ counted (pos scale) contracts → lent ≡ pins → pins ≡ contract_pins read
    → IsSettledBeside taxed lent settled → IsSettledBeside taxed (contract_pins (counted (pos scale) contracts)) settled
settled_by taxed scale contracts read made lent pins settled first second third fourth is =
    subst (λ (ps : List Pin). IsSettledBeside taxed ps settled) (third ∙ fourth ∙ ap contract_pins (first ∙ second)) is

pub tax_of-requires-clause-sized : goal.tax_of-requires-clause-sized
tax_of-requires-clause-sized c =
    let parts = c.requires.passed.gain.one_each in
    let sized = ap length c.requires.passed.is.trades
    ∙ split_sized c.args.market.now.trades.items c.args.contracts.now
    (unsigned_units c.args.market.now.trades.items c.args.contracts.now) in
    omega (arith, parts, sized)

pub pins_of-requires-clause-small : goal.pins_of-requires-clause-small
pins_of-requires-clause-small c = λ k contract at.
    counted_small c.in_ok-tax.tax.scale c.args.contracts.now c.in_ok-tax.ensures.few c.requires.small k contract
    (ap (λ (xs : List UnitContract). slice_get xs k) (sym (c.deref-2.ensures.value ∙ c.in_ok-scaled.ensures)) ∙ at)

pub settle_beside-requires-clause-market : goal.settle_beside-requires-clause-market
settle_beside-requires-clause-market c =
    taxed_wide c.args.market.now (c.args.over * c.in_ok-tax.tax.scale) c.args.contracts.now
    (count_in c.in_ok-tax.tax.free.items) c.in_ok-taxed.taxed c.requires.market
    (over_most c.args.over c.in_ok-tax.tax.scale c.requires.over c.in_ok-tax.ensures.few) c.requires.few c.requires.contracts
    c.in_ok-tax.ensures.left
    (taxed_by c.args.market.now (c.args.over * c.in_ok-tax.tax.scale) c.args.contracts.now c.deref.result.now
    c.in_ok-tax.tax.free.items c.in_ok-taxed.taxed c.deref.ensures.value c.in_ok-taxed.ensures)

pub settle_beside-requires-clause-pins : goal.settle_beside-requires-clause-pins
settle_beside-requires-clause-pins c =
    let is = c.in_ok-taxed.ensures in
    let sized = ap length (is.trades ∙ is.is.trades)
    ∙ split_sized c.args.market.now.trades.items c.args.contracts.now (count_in c.deref.result.now) in
    let long = counted_sized (pos c.in_ok-tax.tax.scale) c.args.contracts.now in
    subst (ArePins (length c.in_ok-taxed.taxed.trades.items))
    (sym (c.deref-3.ensures.value ∙ c.in_ok-pins.ensures
    ∙ ap contract_pins (c.deref-2.ensures.value ∙ c.in_ok-scaled.ensures)))
    (contracts_pin (length c.in_ok-taxed.taxed.trades.items) (counted (pos c.in_ok-tax.tax.scale) c.args.contracts.now)
    (counted_small c.in_ok-tax.tax.scale c.args.contracts.now c.in_ok-tax.ensures.few c.requires.small)
    (omega (arith, sized, long)))

pub offers_of-requires-clause-sold : goal.offers_of-requires-clause-sold
offers_of-requires-clause-sold c =
    let is = c.in_ok-taxed.ensures in
    let sized = ap length (is.trades ∙ is.is.trades)
    ∙ split_sized c.args.market.now.trades.items c.args.contracts.now (count_in c.deref.result.now) in
    let long = c.in_ok-settled.ensures.sold_each in
    let lent = ap length c.deref-4.ensures.value in
    let count = c.len.ensures in
    let whole = c.args.market.now.trades.ok.0 in
    omega (arith, sized, long, lent, count, whole)

pub offers_of-requires-clause-prices : goal.offers_of-requires-clause-prices
offers_of-requires-clause-prices c =
    let is = c.in_ok-taxed.ensures in
    let sized = ap length (is.trades ∙ is.is.trades)
    ∙ split_sized c.args.market.now.trades.items c.args.contracts.now (count_in c.deref.result.now) in
    let long = c.in_ok-settled.ensures.one_each in
    let lent = ap length c.deref-5.ensures.value in
    let count = c.len.ensures in
    let whole = c.args.market.now.trades.ok.0 in
    omega (arith, sized, long, lent, count, whole)

pub offers_of-requires-clause-single : goal.offers_of-requires-clause-single
offers_of-requires-clause-single c = λ t below.
    let count = c.len.ensures in
    let whole = c.args.market.now.trades.ok.0 in
    let lent = ap (λ (xs : List ℕ). count_in xs (length c.args.contracts.now + t)) c.deref-4.ensures.value in
    let most = sold_within c.args.market.now c.args.over c.in_ok-tax.tax.scale c.args.contracts.now
    (count_in c.in_ok-tax.tax.free.items) c.in_ok-taxed.taxed c.in_ok-settled.settled c.requires.market
    c.requires.contracts.known
    (taxed_by c.args.market.now (c.args.over * c.in_ok-tax.tax.scale) c.args.contracts.now c.deref.result.now
    c.in_ok-tax.tax.free.items c.in_ok-taxed.taxed c.deref.ensures.value c.in_ok-taxed.ensures)
    (settled_by c.in_ok-taxed.taxed c.in_ok-tax.tax.scale c.args.contracts.now c.deref-2.result.now
    c.in_ok-scaled.scaled.items c.deref-3.result.now c.in_ok-pins.pins.items c.in_ok-settled.settled c.deref-2.ensures.value
    c.in_ok-scaled.ensures c.deref-3.ensures.value c.in_ok-pins.ensures c.in_ok-settled.ensures) t
    (omega (arith, below, count, whole)) in
    let one = c.in_ok-tax.ensures.single t in
    omega (arith, lent, most, one)

pub returns : goal.returns
returns c =
    let count = c.len.ensures in
    let whole = c.args.market.now.trades.ok.0 in
    block_is c.args.market.now c.args.over c.args.contracts.now c.args.passed.now c.in_ok-tax.tax c.in_ok-taxed.taxed
    c.in_ok-settled.settled c.in_ok-offers.offers.items c.requires.market c.requires.least c.requires.over
    c.requires.contracts c.requires.rational c.requires.passed c.in_ok-tax.ensures
    (taxed_by c.args.market.now (c.args.over * c.in_ok-tax.tax.scale) c.args.contracts.now c.deref.result.now
    c.in_ok-tax.tax.free.items c.in_ok-taxed.taxed c.deref.ensures.value c.in_ok-taxed.ensures)
    (settled_by c.in_ok-taxed.taxed c.in_ok-tax.tax.scale c.args.contracts.now c.deref-2.result.now
    c.in_ok-scaled.scaled.items c.deref-3.result.now c.in_ok-pins.pins.items c.in_ok-settled.settled c.deref-2.ensures.value
    c.in_ok-scaled.ensures c.deref-3.ensures.value c.in_ok-pins.ensures c.in_ok-settled.ensures)
    (offers_by (length c.args.contracts.now) c.len.result (length c.args.market.now.trades.items)
    c.in_ok-settled.settled.sold.items c.deref-4.result.now c.in_ok-settled.settled.prices.items c.deref-5.result.now
    c.in_ok-offers.offers.items (omega (arith, count, whole)) c.deref-4.ensures.value c.deref-5.ensures.value
    c.in_ok-offers.ensures)
