-- What shows the clauses of `label_by_prices` of `src/ranges.rt`.
use Rattle.std.proofs.Common.{◌≡◌, ◌+◌, ◌<◌, ◌∙◌, ℕ, ℤ, List, ap, arith, length, pos, rules, set, subst, sym}
use Rattle.std.proofs.lemmas.Int.{to_z-of_z}
use Rattle.std.proofs.lemmas.List.{length-set}
use Rattle.std.proofs.lemmas.Option.{get_or_from_slice_get}
use mir.Syntax.{w128}
use mir.Val.{SFits}
use Rattle.tn_cycle.specs.Answers.{label_in}
use Rattle.tn_cycle.specs.Reading.{Reading}
use Rattle.tn_network_laws.specs.Laws.{price_of_node}
use Rattle.tn_model.specs.Prices.{price_at}
use Rattle.tn_range.proofs.RangeLemmas.{next_price}
use Rattle.tn_range.proofs.ranges.label_by_prices.Goals as goal

pub loop-t-preserved : goal.loop-t-preserved
loop-t-preserved c =
    let before = c.loop-t.finder.labels in
    let t = c.loop-t.t in
    let had = c.loop-t.invariant in
    let fits : SFits w128 c.at.result = search rules in
    let price : price_at c.args.prices.now t ≡ c.at.result =
    get_or_from_slice_get c.args.prices.now t c.at.result (pos 0) c.at.ensures in
    let below : t < length before = omega (arith, c.loop-t-test.true, had.1) in
    let is : c.set_label.new.self ≡ record c.loop-t.finder { labels = set before t c.at.result } =
    simp to_z-of_z at c.set_label.ensures in
    let labels : c.set_label.new.self.labels ≡ set before t c.at.result = ap (λ (one : Reading). one.labels) is in (
      subst (λ (after : List ℤ). (v : ℕ) → label_in after v ≡ price_of_node (t + 1) (price_at c.args.prices.now) v)
          (sym labels) (next_price t c.args.prices.now before c.at.result below had.0 price),
      ap length labels ∙ length-set before t c.at.result ∙ had.1,
      record {
        same_nodes = ap (λ (one : Reading). one.nodes) is ∙ had.2.same_nodes;
        no_distances = ap (λ (one : Reading). one.distances) is ∙ had.2.no_distances;
        no_walks = ap (λ (one : Reading). one.walks) is ∙ had.2.no_walks;
      },
    )
