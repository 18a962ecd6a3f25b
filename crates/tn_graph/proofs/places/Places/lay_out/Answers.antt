-- What shows the clauses of `Places::lay_out` of `src/places.rt`.
use Rattle.std.proofs.Common.{arith, ap, sym, ◌∙◌, ◌≡◌, Some, map, slice_get, option_map}
use Rattle.std.proofs.lemmas.Option.{slice_get-map}
use Rattle.tn_graph.specs.Blocks.{block_size}
use Rattle.tn_graph.proofs.RoomLemmas.{counts_few, sum_none, sum_next}
use Rattle.tn_graph.proofs.LayoutLemmas.{laid_none, laid_next, room_fits, owns_fit}
use Rattle.tn_graph.proofs.places.Places.lay_out.Goals as goal

pub loop-f-init : goal.loop-f-init
loop-f-init g c = record {
  laid = laid_none (map g.V.Valuation.firm c.args.market.now.firms) c.args.market.now.trades c.args.on.now _ _ _
      c.requires.raised c.requires.lowered c.requires.own;
  start_is = sym (sum_none (λ firm. block_size firm.count) (map g.V.Valuation.firm c.args.market.now.firms));
  own_is = sym (sum_none (λ firm. firm.count) (map g.V.Valuation.firm c.args.market.now.firms));
}

pub overflow_add-start-in-loop-f : goal.overflow_add-start-in-loop-f
overflow_add-start-in-loop-f g c =
    let listed : slice_get (map g.V.Valuation.firm c.args.market.now.firms) c.loop-f.f
    ≡ Some (g.V.Valuation.firm c.firm.result.now) =
    slice_get-map g.V.Valuation.firm c.args.market.now.firms c.loop-f.f
    ∙ ap (option_map g.V.Valuation.firm) c.firm.ensures in
    let room = room_fits (map g.V.Valuation.firm c.args.market.now.firms) c.args.market.now.trades
    c.firms-f-end.ensures.network c.requires.few
    (counts_few g.V.Valuation.firm c.args.market.now.firms (λ v. (g.met.V.Valuation.lawful v).few_trades)) c.loop-f.f
    (g.V.Valuation.firm c.firm.result.now) listed in
    let start = c.loop-f.invariant.start_is in
    let block = ap block_size c.trades-count.ensures.count in
    omega (arith, room, start, block)

pub overflow_add-own : goal.overflow_add-own
overflow_add-own g c =
    let listed : slice_get (map g.V.Valuation.firm c.args.market.now.firms) c.loop-f.f
    ≡ Some (g.V.Valuation.firm c.firm.result.now) =
    slice_get-map g.V.Valuation.firm c.args.market.now.firms c.loop-f.f
    ∙ ap (option_map g.V.Valuation.firm) c.firm.ensures in
    let few = owns_fit (map g.V.Valuation.firm c.args.market.now.firms) c.args.market.now.trades
    c.firms-f-end.ensures.network c.requires.few c.loop-f.f (g.V.Valuation.firm c.firm.result.now) listed in
    let own = c.loop-f.invariant.own_is in
    let count = c.trades-count.ensures.count in
    omega (arith, few, own, count)

pub loop-f-preserved : goal.loop-f-preserved
loop-f-preserved g c =
    let firms = map g.V.Valuation.firm c.args.market.now.firms in
    let firm = g.V.Valuation.firm c.firm.result.now in
    let listed : slice_get firms c.loop-f.f ≡ Some firm =
    slice_get-map g.V.Valuation.firm c.args.market.now.firms c.loop-f.f
    ∙ ap (option_map g.V.Valuation.firm) c.firm.ensures in
    let count = c.trades-count.ensures.count in
    let start = c.loop-f.invariant.start_is in
    let own = c.loop-f.invariant.own_is in
    let block = ap block_size count in
    let room = sum_next (λ firm. block_size firm.count) firms c.loop-f.f firm listed in
    let owned = sum_next (λ firm. firm.count) firms c.loop-f.f firm listed in
    record {
      laid = laid_next firms c.args.market.now.trades c.firms-f-end.ensures.network c.args.on.now c.loop-f.f
          c.trades-count.result firm listed count _ _ _ c.lay_firm.ensures;
      start_is = omega (arith, start, block, room);
      own_is = omega (arith, own, count, owned);
    }
