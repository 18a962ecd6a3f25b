-- What shows the clauses of `Graph::fill` of `src/reading.rt`.
use Rattle.std.proofs.Common.{rules, arith, ap, subst, sym, ◌∙◌, ◌≡◌, ◌+◌, ◌^◌, ◌<◌, ℕ, true, Some, map, slice_get, option_map, inl, inr}
use Rattle.std.proofs.lemmas.Bool.{cases_eq}
use Rattle.std.proofs.lemmas.List.{length-map}
use Rattle.std.proofs.lemmas.Option.{same_Some, slice_get-map}
use Rattle.tn_base.specs.Sets.{set_of, size}
use Rattle.tn_graph.specs.Reading.{IsWithoutArcs}
use Rattle.tn_graph.proofs.AskedLemmas.{all_asked, block_fits}
use Rattle.tn_graph.proofs.LineLemmas.{arcs_counted}
use Rattle.tn_graph.proofs.ReadingLemmas.{right_without, right_more, right_all, worths_step}
use Rattle.tn_graph.proofs.graph.Graph.fill.Goals as goal

pub loop-f-init : goal.loop-f-init
loop-f-init g c = record {
  right = right_without (map g.V.Valuation.firm c.args.market.now.firms) c.args.market.now.trades c.args.on.now
      (λ v. true)
      (λ k. k < 0) c.lay_out.new.self
      (subst (λ (n : ℕ). IsWithoutArcs n c.lay_out.new.self) c.requires.sized c.lay_out.ensures.without)
      c.lay_out.ensures.laid_out
      (λ k h. absurd (omega (arith, h)));
  asked = omega arith;
}

pub read-requires : goal.read-requires
read-requires g c =
    let count = c.firms-f-end.ensures.count in
    let test = c.loop-f-test.true in
    let own = subst (λ (n : ℕ). c.all_positions-asked.result < 2 ^ n) c.trades.ensures.count
    (all_asked c.trades.result c.all_positions-asked.result c.all_positions-asked.ensures).0 in (
      search rules,
      (
        c.requires.wide,
        (
          c.firms-f-end.ensures.network,
          (
            c.loop-f.invariant.right.nodes,
            (
              c.loop-f.invariant.right.laid_out,
              (
                omega (arith, test, count),
                (
                  (λ v is. subst (λ (w : g.row.V.Denot). c.all_positions-asked.result
                      < 2 ^ (g.V.Valuation.firm w).count)
                      (same_Some c.firm.result.now v (sym c.firm.ensures ∙ is)) own),
                  (c.requires.possible, c.requires.small),
                ),
              ),
            ),
          ),
        ),
      ),
    )

pub loop-f-preserved : goal.loop-f-preserved
loop-f-preserved g c =
    let firm = g.V.Valuation.firm c.firm.result.now in
    let listed : slice_get (map g.V.Valuation.firm c.args.market.now.firms) c.loop-f.f ≡ Some firm =
    slice_get-map g.V.Valuation.firm c.args.market.now.firms c.loop-f.f
    ∙ ap (option_map g.V.Valuation.firm) c.firm.ensures in
    let every = all_asked firm.count c.all_positions-asked.result
    (c.all_positions-asked.ensures ∙ ap (set_of (λ k. true)) c.trades.ensures.count) in
    let arcs = arcs_counted (map g.V.Valuation.firm c.args.market.now.firms) c.args.market.now.trades
    c.firms-f-end.ensures.network c.args.on.now c.loop-f.f firm listed (λ v. true) c.all_positions-asked.result
    c.read.new.self (λ k below counts. every.2 k below) (c.read.ensures.arcs c.firm.result.now c.firm.ensures) in
    let few = block_fits (size c.all_positions-asked.result) firm.count every.1 in
    record {
      right = right_more (map g.V.Valuation.firm c.args.market.now.firms) c.args.market.now.trades c.args.on.now
          (λ v. true) (λ k. k < c.loop-f.f) (λ k. k < c.loop-f.f + 1)
          c.loop-f.f c.loop-f.self c.read.new.self c.loop-f.invariant.right c.read.ensures.improved arcs
          (λ k h. elim (cases_eq k c.loop-f.f) [ inl e ↦ inl e | inr d ↦ inr (omega (arith, h, d)) ]);
      asked = worths_step (map g.V.Valuation.firm c.args.market.now.firms) c.loop-f.f firm
          c.args.steps.now c.loop-f.steps c.read.new.steps listed
          c.loop-f.invariant.asked (let asked = c.read.ensures.asked in omega (arith, asked, few));
    }

pub returns-clause-graph : goal.returns-clause-graph
returns-clause-graph g c =
    let count = c.firms-f-end.ensures.count in
    let test = c.loop-f-test.false in
    right_all (map g.V.Valuation.firm c.args.market.now.firms) c.args.market.now.trades c.args.on.now (λ k. k
    < c.loop-f.f) c.loop-f.self
    c.firms-f-end.ensures.network c.loop-f.invariant.right
    (λ k h. omega (arith, h, test, count, length-map c.args.market.now.firms g.V.Valuation.firm))
