-- What shows that the rounds of `settle_units` of `src/settling.rt` end.
use Rattle.std.proofs.Common.{◌≡◌, arith, false}
use Rattle.tn_links.proofs.GainLemmas.{gain_rises}
use Rattle.tn_links.proofs.settling.settle_units.Goals as goal

pub loop-smaller : goal.loop-smaller
loop-smaller c =
    let links = c.args.links.now in
    let unsettled : c.round.result ≡ false = grind (arith, c.loop-test.true) in
    gain_rises links.nodes links.links.items c.loop.levels c.round.new.levels links.plain c.round.ensures.kept
    (c.round.ensures.gained unsettled)
