-- What shows the clauses of `amount_sums` of `src/worths.rt`.
use Rattle.std.proofs.Common.{◌≡◌, ℕ, ◌<◌, ◌∙◌, List, length, ap, ap₂, arith, pos, ◌+ℤ◌, ◌*ℤ◌, get_or, if◌then◌else◌, ◌==◌}
use Rattle.std.proofs.lemmas.Int.{ints, to_z-of_z}
use Rattle.std.proofs.lemmas.List.{get_or_default, length-set}
use Rattle.std.proofs.lemmas.Option.{slice_get-get_or}
use mir.Syntax.{w64}
use mir.Val.{SFits}
use Rattle.tn_links.specs.Totals.{total}
use Rattle.tn_counts.specs.Counts.{trade_at}
use Rattle.tn_counts.specs.Laminar.{amounts_at}
use Rattle.tn_counts.specs.declared.trade.UnitTrade.{UnitTrade}
use Rattle.tn_counts.proofs.NetLemmas.{between_at}
use Rattle.tn_tree.proofs.FirmLemmas.{amounts_own, nothing_added, own_term, second_small, terms_more, terms_sum, two_more, weaker}
use Rattle.tn_tree.proofs.worths.amount_sums.Goals as goal

-- the trade that was read
trade_is : (trades : List UnitTrade) (t : ℕ) (trade : UnitTrade) → trade ≡ get_or trades t trade → t < length trades
    → trade ≡ trade_at trades t
trade_is trades t trade read below = read ∙ get_or_default trades t trade (record { seller = 0; buyer = 0; units = 0 }) below

pub loop-t-init : goal.loop-t-init
loop-t-init c = record {
  sized = c.in_ok-sums.ensures.sized;
  sums = λ f. nothing_added (own_term c.args.market.now.trades.items c.args.amounts.now c.args.sold.now c.args.bought.now f)
      c.in_ok-sums.sums.items f (c.in_ok-sums.ensures.zeros f);
}

pub add_units-requires-clause-inside : goal.add_units-requires-clause-inside
add_units-requires-clause-inside c =
    let sized = c.loop-t.invariant.sized in
    let below : c.loop-t.t < length c.args.market.now.trades.items = omega arith in
    let same = ap (λ (trade : UnitTrade). trade.seller)
    (trade_is c.args.market.now.trades.items c.loop-t.t c.index-trade.result.now c.index-trade.ensures below) in
    let known = (between_at c.args.market.now c.requires.market c.loop-t.t below).seller in
    omega (arith, sized, same, known)

pub add_units-requires-clause-before : goal.add_units-requires-clause-before
add_units-requires-clause-before c =
    weaker (terms_sum c.args.market.now c.args.amounts.now c.args.sold.now c.args.bought.now c.loop-t.sums.items
    c.index-trade.result.now.seller c.loop-t.t c.requires.market c.requires.as_many c.requires.small c.requires.sold
    c.requires.bought (omega arith) (c.loop-t.invariant.sums c.index-trade.result.now.seller))

pub add_units-requires-clause-small : goal.add_units-requires-clause-small
add_units-requires-clause-small c =
    let sized = c.requires.as_many in
    let each = (c.requires.small c.loop-t.t (amounts_at c.args.amounts.now c.loop-t.t)
    (slice_get-get_or c.args.amounts.now c.loop-t.t (record { seller = pos 0; buyer = pos 0 }) (omega (arith, sized)))).0 in
    let fits : SFits w64 (amounts_at c.args.amounts.now c.loop-t.t).seller = omega (arith, ints, each.low, each.high) in
    simp to_z-of_z each

pub add_units-requires-in-loop-t-clause-inside : goal.add_units-requires-in-loop-t-clause-inside
add_units-requires-in-loop-t-clause-inside c =
    let sized = c.loop-t.invariant.sized in
    let below : c.loop-t.t < length c.args.market.now.trades.items = omega arith in
    let same = ap (λ (trade : UnitTrade). trade.buyer)
    (trade_is c.args.market.now.trades.items c.loop-t.t c.index-trade.result.now c.index-trade.ensures below) in
    let known = (between_at c.args.market.now c.requires.market c.loop-t.t below).buyer in
    let long = ap length c.add_units.ensures ∙ length-set c.loop-t.sums.items c.index-trade.result.now.seller _ in
    omega (arith, sized, same, known, long)

pub add_units-requires-in-loop-t-clause-before : goal.add_units-requires-in-loop-t-clause-before
add_units-requires-in-loop-t-clause-before c =
    let trades = c.requires.as_many in
    let below : c.loop-t.t < length c.args.market.now.trades.items = omega arith in
    let each = (c.requires.small c.loop-t.t (amounts_at c.args.amounts.now c.loop-t.t)
    (slice_get-get_or c.args.amounts.now c.loop-t.t (record { seller = pos 0; buyer = pos 0 }) (omega (arith, trades)))).0 in
    let fits : SFits w64 (amounts_at c.args.amounts.now c.loop-t.t).seller = omega (arith, ints, each.low, each.high) in
    let made = simp to_z-of_z at c.add_units.ensures in
    second_small c.args.market.now c.args.sold.now c.loop-t.sums.items c.add_units.new.numbers.items
    c.index-trade.result.now.seller c.index-trade.result.now.buyer c.loop-t.t
    (amounts_at c.args.amounts.now c.loop-t.t).seller c.requires.market c.requires.sold below
    (let sized = c.loop-t.invariant.sized in let same = ap (λ (trade : UnitTrade). trade.seller)
    (trade_is c.args.market.now.trades.items c.loop-t.t c.index-trade.result.now c.index-trade.ensures below) in
    let known = (between_at c.args.market.now c.requires.market c.loop-t.t below).seller in
    omega (arith, sized, same, known)) each made
    (terms_sum c.args.market.now c.args.amounts.now c.args.sold.now c.args.bought.now c.loop-t.sums.items
    c.index-trade.result.now.buyer c.loop-t.t c.requires.market c.requires.as_many c.requires.small c.requires.sold
    c.requires.bought (omega arith) (c.loop-t.invariant.sums c.index-trade.result.now.buyer))

pub add_units-requires-in-loop-t-clause-small : goal.add_units-requires-in-loop-t-clause-small
add_units-requires-in-loop-t-clause-small c =
    let sized = c.requires.as_many in
    let each = (c.requires.small c.loop-t.t (amounts_at c.args.amounts.now c.loop-t.t)
    (slice_get-get_or c.args.amounts.now c.loop-t.t (record { seller = pos 0; buyer = pos 0 }) (omega (arith, sized)))).1 in
    let fits : SFits w64 (amounts_at c.args.amounts.now c.loop-t.t).buyer = omega (arith, ints, each.low, each.high) in
    simp to_z-of_z each

pub loop-t-preserved : goal.loop-t-preserved
loop-t-preserved c =
    let many = c.requires.as_many in
    let sized = c.loop-t.invariant.sized in
    let trades = c.args.market.now.trades.items in
    let amounts = c.args.amounts.now in
    let below : c.loop-t.t < length c.args.market.now.trades.items = omega arith in
    let own = c.requires.small c.loop-t.t (amounts_at amounts c.loop-t.t)
    (slice_get-get_or amounts c.loop-t.t (record { seller = pos 0; buyer = pos 0 }) (omega (arith, many))) in
    let one = own.0 in
    let two = own.1 in
    let fit_seller : SFits w64 (amounts_at c.args.amounts.now c.loop-t.t).seller = omega (arith, ints, one.low, one.high) in
    let fit_buyer : SFits w64 (amounts_at c.args.amounts.now c.loop-t.t).buyer = omega (arith, ints, two.low, two.high) in
    let first = simp to_z-of_z at c.add_units.ensures in
    let second = simp to_z-of_z at c.add_units-in-loop-t.ensures in
    let long = ap length c.add_units.ensures ∙ length-set c.loop-t.sums.items c.index-trade.result.now.seller _ in
    let longer = ap length c.add_units-in-loop-t.ensures
    ∙ length-set c.add_units.new.numbers.items c.index-trade.result.now.buyer _ in
    let trade = trade_is trades c.loop-t.t c.index-trade.result.now c.index-trade.ensures below in
    let seller = ap (λ (trade : UnitTrade). trade.seller) trade in
    let buyer = ap (λ (trade : UnitTrade). trade.buyer) trade in
    let known = between_at c.args.market.now c.requires.market c.loop-t.t below in
    let seller_known = known.seller in
    let buyer_known = known.buyer in
    record {
      sized = omega (arith, sized, long, longer);
      sums = λ f. terms_more trades amounts c.args.sold.now c.args.bought.now c.loop-t.sums.items f c.loop-t.t
          (get_or c.add_units-in-loop-t.new.numbers.items f (pos 0)) (c.loop-t.invariant.sums f)
          (two_more c.loop-t.sums.items c.add_units.new.numbers.items c.add_units-in-loop-t.new.numbers.items
          c.index-trade.result.now.seller c.index-trade.result.now.buyer f
          ((amounts_at amounts c.loop-t.t).seller *ℤ pos (get_or c.args.sold.now c.loop-t.t 0))
          ((amounts_at amounts c.loop-t.t).buyer *ℤ pos (get_or c.args.bought.now c.loop-t.t 0))
          (omega (arith, sized, seller, seller_known)) (omega (arith, sized, buyer, buyer_known)) first second
          ∙ ap₂ (λ (p : ℕ) (q : ℕ). get_or c.loop-t.sums.items f (pos 0) +ℤ
          ((if f == p then (amounts_at amounts c.loop-t.t).seller *ℤ pos (get_or c.args.sold.now c.loop-t.t 0) else pos 0)
          +ℤ (if f == q then (amounts_at amounts c.loop-t.t).buyer *ℤ pos (get_or c.args.bought.now c.loop-t.t 0) else pos 0)))
          seller buyer);
    }

pub returns-clause-sums : goal.returns-clause-sums
returns-clause-sums c = λ f. c.loop-t.invariant.sums f
    ∙ ap (total (own_term c.args.market.now.trades.items c.args.amounts.now c.args.sold.now c.args.bought.now f))
    (omega arith)
    ∙ amounts_own c.args.market.now c.args.amounts.now c.args.sold.now c.args.bought.now f c.requires.market
