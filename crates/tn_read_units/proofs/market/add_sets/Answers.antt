-- What shows the clauses of `add_sets` of `src/market.rt`.
use Rattle.std.proofs.Common.{◌∙◌, ap}
use Rattle.std.specs.Prelude.{map}
use Rattle.std.proofs.lemmas.List.{map_push}
use Rattle.tn_read_units.specs.Placed.{as_placed, placed}
use Rattle.tn_read_units.proofs.MadeLemmas.{set_more}
use Rattle.tn_read_units.proofs.market.add_sets.Goals as goal

pub loop-set-preserved : goal.loop-set-preserved
loop-set-preserved c =
    ap (map as_placed) c.in_ok-push.ensures.items ∙ map_push as_placed c.loop-set.sets.items c.in_ok-next.next
    ∙ set_more (map as_placed c.args.sets.now.items) (map as_placed c.loop-set.sets.items) c.args.f c.args.written.now
    c.loop-set.set-index c.set-item.result (as_placed c.in_ok-next.next) c.loop-set-test.true
    (c.in_ok-next.ensures ∙ ap (placed c.args.f) c.set-item.is) c.loop-set.invariant
