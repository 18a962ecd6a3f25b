-- What shows the clauses of `sets_of_all` of `src/market.rt`.
use Rattle.std.proofs.Common.{◌∙◌, ◌+◌, ◌++◌, List, ap, drop}
use Rattle.std.specs.Prelude.{map}
use Rattle.tn_read_units.specs.Firms.{WrittenFirm}
use Rattle.tn_read_units.specs.Placed.{PlacedSet, all_placed, as_placed, placed}
use Rattle.tn_read_units.proofs.MadeLemmas.{firm_more}
use Rattle.tn_read_units.proofs.market.sets_of_all.Goals as goal

pub loop-f-preserved : goal.loop-f-preserved
loop-f-preserved c =
    let firms = c.args.firms.now in
    let k = c.loop-f.f in
    ap (λ (sets : List PlacedSet). sets ++ all_placed (k + 1) (drop (k + 1) firms)) c.in_ok-add_sets.ensures
    ∙ firm_more (map as_placed c.loop-f.sets.items) (map (placed k) c.sets.result.now) (all_placed 0 firms) firms k
    c.index-firms-f.result c.loop-f-test.true
    (ap (map (placed k)) c.sets.ensures ∙ ap (λ (w : WrittenFirm). map (placed k) w.sets) c.index-firms-f.is)
    c.loop-f.invariant
