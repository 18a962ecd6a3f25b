-- What shows the clauses of `Links::idle` of `src/links.rt`.
use Rattle.std.proofs.Common.{◌≡◌, sym, subst, rules}
use Rattle.tn_links.specs.Flows.{IsKeptFlow}
use Rattle.tn_links.proofs.FlowLemmas.{idle, idle_is_kept}
use Rattle.tn_links.proofs.links.Links.idle.Goals as goal

pub returns-clause-kept : goal.returns-clause-kept
returns-clause-kept c =
    let links = c.args.self.now in
    let same : c.in_ok-collect.field-0.items ≡ idle links.links.items = search rules in
    subst (IsKeptFlow links.links.items) (sym same) (idle_is_kept links.nodes links.links.items links.plain.each)
