-- What shows the clauses of `Links::gain` of `src/gains.rt`.
use Rattle.std.proofs.Common.{◌≡◌, ◌<◌, ◌∙◌, ap, sym, arith, get_or, length, Some}
use Rattle.std.specs.Prelude.{slice_get}
use Rattle.std.proofs.lemmas.Int.{ints}
use Rattle.std.proofs.lemmas.Option.{slice_get-get_or}
use Rattle.tn_links.proofs.GainLemmas.{total_gain-more}
use Rattle.tn_links.proofs.links.Links.gain.Goals as goal

pub gain-total-requires : goal.gain-total-requires
gain-total-requires c =
    let link : slice_get c.args.self.now.links.items c.loop-j.j ≡ Some c.index.result.now =
    slice_get-get_or c.args.self.now.links.items c.loop-j.j c.index.result.now (omega arith)
    ∙ ap Some (sym c.index.ensures) in
    (c.args.self.now.plain.each c.loop-j.j c.index.result.now link).steps.slight

pub loop-j-preserved : goal.loop-j-preserved
loop-j-preserved c =
    let below : c.loop-j.j < length c.args.self.now.links.items = omega arith in
    let link : slice_get c.args.self.now.links.items c.loop-j.j ≡ Some c.index.result.now =
    slice_get-get_or c.args.self.now.links.items c.loop-j.j c.index.result.now below ∙ ap Some (sym c.index.ensures) in
    let level : slice_get c.args.levels.now c.loop-j.j ≡ Some (get_or c.args.levels.now c.loop-j.j 0) =
    slice_get-get_or c.args.levels.now c.loop-j.j 0 (omega (arith, below, c.requires.one_each)) in
    let more = total_gain-more c.args.self.now.links.items c.args.levels.now c.loop-j.j
    (get_or c.args.levels.now c.loop-j.j 0) c.index.result.now link level in
    let before = c.loop-j.invariant in
    let own = c.gain-total.ensures in
    let few = c.args.self.now.few in
    record {
      sum = omega (
        arith,
        ints,
        before.sum,
        more,
        own.gain,
        own.small.low,
        own.small.high,
        before.small.low,
        before.small.high,
        few,
        below,
      );
      small = record {
        low = omega (arith, ints, own.small.low, own.small.high, before.small.low, before.small.high, few, below);
        high = omega (arith, ints, own.small.low, own.small.high, before.small.low, before.small.high, few, below);
      };
    }
