-- What shows the clauses of `own_trades` of `src/market.rt`.
use Rattle.std.proofs.Common.{arith, ◌≡◌, ◌+◌, ℕ, length, subst, sym, ◌∙◌, ap}
use Rattle.std.proofs.lemmas.Option.{slice_get-get_or}
use Rattle.tn_market.specs.Traded.{ArePlaced, placed}
use Rattle.tn_market.proofs.MarketLemmas.{one_placed, all_placed, placed_length, written_back}
use Rattle.tn_market.proofs.market.own_trades.Goals as goal

pub place-requires-clause-sold : goal.place-requires-clause-sold
place-requires-clause-sold c = λ same.
    let there = slice_get-get_or c.args.trades.now c.loop-t.t _ c.loop-t-test.true in
    let inside = c.requires.placed.sold c.loop-t.t _ there same in
    let counted = c.loop-t.invariant.counted in
    let lent = ap length c.deref_mut.ensures.value in
    omega (arith, inside, counted, lent)

pub place-requires-clause-bought : goal.place-requires-clause-bought
place-requires-clause-bought c = λ same.
    let there = slice_get-get_or c.args.trades.now c.loop-t.t _ c.loop-t-test.true in
    let inside = c.requires.placed.bought c.loop-t.t _ there same in
    let counted = c.loop-t.invariant.counted in
    let lent = ap length c.deref_mut.ensures.value in
    omega (arith, inside, counted, lent)

pub loop-t-preserved : goal.loop-t-preserved
loop-t-preserved c =
    let there = slice_get-get_or c.args.trades.now c.loop-t.t _ c.loop-t-test.true in
    let next = one_placed c.args.trades.now c.args.f c.args.n c.loop-t.t c.loop-t.own.items _ c.requires.placed
    c.loop-t.invariant there in
    let written = c.place.ensures in
    let lent = c.deref_mut.ensures.value in
    let same : c.place.new.own ≡ placed _ c.args.f c.loop-t.t c.loop-t.own.items =
    written ∙ ap (placed _ c.args.f c.loop-t.t) lent in
    let counted : length c.place.new.own ≡ length c.loop-t.own.items =
    ap length same ∙ placed_length _ c.args.f c.loop-t.t c.loop-t.own.items in
    subst (ArePlaced c.args.trades.now c.args.f c.args.n (c.loop-t.t + 1))
    (sym same ∙ sym (written_back c.place.new.own c.loop-t.own.items c.loop-t.own.len (sym c.deref_mut.ensures.len
    ∙ ap length lent) counted)) next

pub returns : goal.returns
returns c =
    let done : c.loop-t.t ≡ length c.args.trades.now = omega (arith, c.loop-t-test.false, c.loop-t.auto.t-end) in
    all_placed c.args.trades.now c.args.f c.args.n c.loop-t.own.items c.requires.placed
    (subst (λ (t : ℕ). ArePlaced c.args.trades.now c.args.f c.args.n t c.loop-t.own.items) done c.loop-t.invariant)
