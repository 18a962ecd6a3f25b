-- What shows that the searches of `mend` of `src/searching.rt` end.
use Rattle.tn_links.proofs.GainLemmas.{gain_rises}
use Rattle.tn_links.proofs.searching.mend.Goals as goal

pub loop-node-smaller : goal.loop-node-smaller
loop-node-smaller c =
    let links = c.args.links.now in
    gain_rises links.nodes links.links.items c.loop-node.levels c.search.new.levels links.plain c.search.ensures.kept
    (c.search.ensures.gained c.loop-node-test.true)
