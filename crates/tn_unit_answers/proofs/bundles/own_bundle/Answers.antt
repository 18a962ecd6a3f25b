-- What shows the clauses of `own_bundle` of `src/bundles.rt`.
use Rattle.std.proofs.Common.{◌≡◌, length, map, ap, ◌∙◌, arith}
use Rattle.std.specs.Prelude.{nat_lt}
use Rattle.std.specs.List.{filter, range_with_len}
use Rattle.tn_tree.specs.Lists.{own_counts}
use Rattle.tn_unit_answers.specs.Bundles.{entry_at}
use Rattle.tn_unit_answers.proofs.BundleLemmas.{bundle_more}
use Rattle.tn_unit_answers.proofs.bundles.own_bundle.Goals as goal

pub loop-t-preserved : goal.loop-t-preserved
loop-t-preserved c =
    bundle_more c.args.trades.now c.args.firm
    (own_counts c.args.trades.now c.args.sold.now c.args.bought.now c.args.firm) c.loop-t.t c.loop-t.bundle.items
    c.add_units.new.bundle.items c.units_to-units.result c.loop-t.invariant c.in_ok-add_units.ensures
    c.units_to-units.ensures

pub returns : goal.returns
returns c =
    let here = c.loop-t.auto.t-end in
    let end = c.loop-t-test.false in
    let whole : c.loop-t.t ≡ length c.args.trades.now = omega (arith, here, end) in
    c.from_vec.ensures ∙ c.loop-t.invariant
    ∙ ap (λ n. filter (λ entry. nat_lt 0 entry.units) (map (entry_at c.args.trades.now c.args.firm
    (own_counts c.args.trades.now c.args.sold.now c.args.bought.now c.args.firm)) (range_with_len 0 n))) whole
