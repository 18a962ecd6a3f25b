-- What shows the clauses of `Graph::refresh` of `src/reading.rt`.
use Rattle.std.proofs.Common.{rules, arith, ap, refl, subst, sym, ◌∙◌, ◌+◌, ◌^◌, ◌<◌, ◌≤◌, ◌⊎◌, ℕ, map, option_map, length, inl, inr, if◌then◌else◌, ◌==◌}
use Rattle.std.proofs.lemmas.Bool.{cases_eq}
use Rattle.std.proofs.lemmas.List.{length-map}
use Rattle.std.proofs.lemmas.Option.{slice_get-map}
use Rattle.tn_base.specs.Sets.{has, size}
use Rattle.tn_base.specs.Walks.{is_admitted}
use Rattle.tn_base.proofs.SetLemmas.{set_of_within}
use Rattle.tn_model.specs.Network.{own, part}
use Rattle.tn_graph.specs.Blocks.{CostBlocks}
use Rattle.tn_graph.specs.Reading.{IsRightFor, IsUnchanged, admitted_count, block_worths}
use Rattle.tn_graph.proofs.AdmitLemmas.{own_admitted}
use Rattle.tn_graph.proofs.LineLemmas.{arcs_counted}
use Rattle.tn_graph.proofs.ReadingLemmas.{right_kept, right_more, right_same, right_among, some_item, AreBundles, changed_step, asked_where_differs, unchanged_where_equal}
use Rattle.tn_graph.proofs.graph.Graph.refresh.Goals as goal
use Rattle.tn_graph.proofs.graph.Graph.refresh.Goals.{then-has_changed, else-has_changed}

pub loop-f-init : goal.loop-f-init
loop-f-init g c =
    let firms = map g.V.Valuation.firm c.args.market.now.firms in
    record {
      right = right_kept (map g.V.Valuation.firm c.args.market.now.firms) c.args.market.now.trades
          c.firms-f-end.ensures.network c.args.before.now c.args.on.now c.args.admitted.now
          c.args.self.now c.forget.new.self c.requires.graph
          c.forget.ensures.forgotten c.forget.ensures.laid_out
          (λ k. (k < 0)
          ⊎ IsUnchanged (map g.V.Valuation.firm c.args.market.now.firms) c.args.market.now.trades c.args.before.now
          c.args.on.now k)
          (λ k done. elim done [ inl h ↦ absurd (omega (arith, h)) | inr same ↦ same ]);
      asked = omega arith;
    }

pub loop-f-preserved : goal.loop-f-preserved
loop-f-preserved g c =
    let count = c.firms-f-end.ensures.count in
    let test = c.loop-f-test.true in
    let inside : c.loop-f.f < length c.args.market.now.firms = omega (arith, test, count) in
    let item = some_item c.args.market.now.firms c.loop-f.f inside in
    let firm = g.V.Valuation.firm item.0 in
    let was = part c.args.market.now.trades c.loop-f.f firm.count c.args.before.now in
    let now = part c.args.market.now.trades c.loop-f.f firm.count c.args.on.now in
    let bundles : AreBundles (map g.V.Valuation.firm c.args.market.now.firms) c.args.market.now.trades c.args.before.now
    c.args.on.now c.loop-f.f firm was now = record {
      is = slice_get-map g.V.Valuation.firm c.args.market.now.firms c.loop-f.f
          ∙ ap (option_map g.V.Valuation.firm) item.1;
      old_is = refl;
      new_is = refl;
    } in
    let changed = c.has_changed.ensures item.0 item.1 in
    let listed = bundles.is in
    let counts = is_admitted (length c.args.market.now.trades) c.args.admitted.now in
    let worths = block_worths (admitted_count c.args.market.now.trades c.args.admitted.now c.loop-f.f firm) in
    let done : ℕ → ℕ → Type 0 = λ f k. (k < f)
    ⊎ IsUnchanged (map g.V.Valuation.firm c.args.market.now.firms) c.args.market.now.trades c.args.before.now
    c.args.on.now k in
    elim c.if-has_changed.branch [
      | then-has_changed w ↦ record {
        right = subst (λ (graph : CostBlocks). IsRightFor (map g.V.Valuation.firm c.args.market.now.firms)
            c.args.market.now.trades c.args.on.now counts (done (c.loop-f.f + 1)) graph) (sym w.self-is)
            (right_more (map g.V.Valuation.firm c.args.market.now.firms) c.args.market.now.trades c.args.on.now counts
            (done c.loop-f.f) (done (c.loop-f.f + 1))
            c.loop-f.f c.loop-f.self w.read.new.self c.loop-f.invariant.right w.read.ensures.improved
            (arcs_counted (map g.V.Valuation.firm c.args.market.now.firms) c.args.market.now.trades
            c.firms-f-end.ensures.network c.args.on.now c.loop-f.f firm listed counts w.bundle_of-asked.result
            w.read.new.self
            (λ k below admits. ap (λ (z : ℕ). has z k) (w.bundle_of-asked.ensures item.0 item.1)
            ∙ own_admitted (map g.V.Valuation.firm c.args.market.now.firms) c.args.market.now.trades
            c.firms-f-end.ensures.network c.loop-f.f firm listed c.args.admitted.now k below admits)
            (w.read.ensures.arcs item.0 item.1))
            (λ k h. elim h [
              | inl below ↦ elim (cases_eq k c.loop-f.f) [ inl e ↦ inl e | inr d ↦ inr (inl (omega (arith, below, d))) ]
              | inr same ↦ inr (inr same)
            ]));
        asked = changed_step (map g.V.Valuation.firm c.args.market.now.firms) c.args.market.now.trades c.args.before.now
            c.args.on.now c.args.admitted.now c.loop-f.f (g.V.Valuation.firm item.0)
            was now bundles c.args.steps.now c.loop-f.steps c.if-has_changed.steps
            c.loop-f.invariant.asked
            (subst (λ (s : ℕ). s ≤ c.loop-f.steps + (if was == now then 0
            else worths)) (sym w.steps-is)
            (asked_where_differs was now worths
            c.loop-f.steps w.read.new.steps c.has_changed.result changed w.if-has_changed.true
            (subst (λ (z : ℕ). w.read.new.steps ≤ c.loop-f.steps + block_worths (size z))
            (w.bundle_of-asked.ensures item.0 item.1) w.read.ensures.asked)));
      }
      | else-has_changed w ↦ record {
        right = subst (λ (graph : CostBlocks). IsRightFor (map g.V.Valuation.firm c.args.market.now.firms)
            c.args.market.now.trades c.args.on.now counts (done (c.loop-f.f + 1)) graph) (sym w.self-is)
            (right_same (map g.V.Valuation.firm c.args.market.now.firms) c.args.market.now.trades c.args.on.now counts
            (done c.loop-f.f) (done (c.loop-f.f + 1)) c.loop-f.self
            c.loop-f.invariant.right
            (λ k h. elim h [
              | inl below ↦ elim (cases_eq k c.loop-f.f) [
                | inl e ↦ inr
                    (subst (IsUnchanged (map g.V.Valuation.firm c.args.market.now.firms) c.args.market.now.trades
                    c.args.before.now c.args.on.now) (sym e)
                    (unchanged_where_equal (map g.V.Valuation.firm c.args.market.now.firms) c.args.market.now.trades
                    c.args.before.now c.args.on.now c.loop-f.f (g.V.Valuation.firm item.0)
                    was now bundles c.has_changed.result changed w.if-has_changed.false))
                | inr d ↦ inl (omega (arith, below, d))
              ]
              | inr same ↦ inr same
            ]));
        asked = changed_step (map g.V.Valuation.firm c.args.market.now.firms) c.args.market.now.trades c.args.before.now
            c.args.on.now c.args.admitted.now c.loop-f.f (g.V.Valuation.firm item.0)
            was now bundles c.args.steps.now c.loop-f.steps c.if-has_changed.steps
            c.loop-f.invariant.asked
            (let same = w.steps-is in omega (arith, same));
      }
    ]

pub read-requires : goal.read-requires
read-requires g c =
    let count = c.firms-f-end.ensures.count in
    let test = c.loop-f-test.true in (
      search rules,
      (
        c.requires.wide,
        (
          c.firms-f-end.ensures.network,
          (
            c.loop-f.invariant.right.nodes,
            (
              c.loop-f.invariant.right.laid_out,
              (
                omega (arith, test, count),
                (
                  (λ v is. subst (λ (z : ℕ). z < 2 ^ (g.V.Valuation.firm v).count)
                      (sym (c.bundle_of-asked.ensures v is))
                      (set_of_within (λ k. has c.args.admitted.now (own c.args.market.now.trades c.loop-f.f k))
                      (g.V.Valuation.firm v).count)),
                  (c.requires.possible, c.requires.small),
                ),
              ),
            ),
          ),
        ),
      ),
    )

pub returns-clause-graph : goal.returns-clause-graph
returns-clause-graph g c =
    let count = c.firms-f-end.ensures.count in
    let test = c.loop-f-test.false in
    right_among (map g.V.Valuation.firm c.args.market.now.firms) c.args.market.now.trades c.args.on.now
    c.args.admitted.now
    (λ k. (k < c.loop-f.f)
    ⊎ IsUnchanged (map g.V.Valuation.firm c.args.market.now.firms) c.args.market.now.trades c.args.before.now
    c.args.on.now k) c.loop-f.self
    c.firms-f-end.ensures.network c.loop-f.invariant.right
    (λ k h. inl (omega (arith, h, test, count, length-map c.args.market.now.firms g.V.Valuation.firm)))
