-- What shows the clauses of `Links::degree` of `src/links.rt`.
use Rattle.std.proofs.Common.{ap, arith, length}
use Rattle.tn_links.proofs.NearLemmas.{length-near_from, listed_at}
use Rattle.tn_links.proofs.links.Links.degree.Goals as goal

pub overflow_cast-result : goal.overflow_cast-result
overflow_cast-result c =
    let links = c.args.self.now in
    let list = ap length (listed_at links.nodes links.links.items links.near.items links.listed c.args.v c.requires
    c.index.result.now c.index.ensures) in
    let few = length-near_from links.links.items 0 c.args.v in
    omega (arith, list, few, links.few, c.len.ensures, c.index.result.now.ok.0)
