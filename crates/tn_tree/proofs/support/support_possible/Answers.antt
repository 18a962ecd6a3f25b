-- What shows the clauses of `support_possible` of `src/support.rt`.
use Rattle.std.proofs.Common.{List, ℕ, sym, subst, ap, ◌∙◌}
use Rattle.std.proofs.lemmas.Result.{IfOk-weaker}
use Rattle.tn_links.specs.Flows.{IsKeptFlow}
use Rattle.tn_counts.specs.Tree.{sold_at}
use Rattle.tn_tree.specs.Lists.{count_in}
use Rattle.tn_tree.proofs.SupportLemmas.{supports_same}
use Rattle.tn_tree.proofs.support.support_possible.Goals as goal

pub support_flow-requires-clause-kept : goal.support_flow-requires-clause-kept
support_flow-requires-clause-kept c =
    subst (IsKeptFlow c.args.links.now.links.items) (sym c.deref.ensures.value) c.in_ok-levels.ensures.kept

pub returns : goal.returns
returns c =
    IfOk-weaker c.support_flow.result _ _ (λ support are. supports_same c.args.market.now
    (sold_at c.args.market.now c.deref.result.now) (count_in c.args.counts.now) support
    (λ t below. ap (λ (xs : List ℕ). sold_at c.args.market.now xs t) c.deref.ensures.value
    ∙ c.in_ok-levels.ensures.counts.sold t below) are) c.support_flow.ensures
