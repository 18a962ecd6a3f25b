-- What shows the clauses of `cost` of `src/shown.rt`.
use Rattle.std.proofs.Common.{◌≡◌, ◌∙◌, ℤ, pos, sym, ap, rules}
use Rattle.std.proofs.lemmas.Int.{to_z-of_z}
use Rattle.std.proofs.lemmas.Option.{get_or_from_slice_get}
use mir.Syntax.{w128}
use mir.Val.{SFits}
use Rattle.tn_cycle.specs.Answers.{label_in}
use Rattle.tn_links.specs.Lots.{link_arc}
use Rattle.tn_links.specs.Shown.{kept_only}
use Rattle.tn_links.specs.ShownLemmas.{shown_off}
use Rattle.tn_links.proofs.shown.ShownCosts.cost.Goals as goal

pub kept_only-requires-clause-cost : goal.kept_only-requires-clause-cost
kept_only-requires-clause-cost c x is =
    let graph = c.args.self.now.graph in
    graph.light c.args.a c.args.b x (sym c.cost-cost.ensures ∙ is)

pub returns : goal.returns
returns c =
    let graph = c.args.self.now.graph in
    let labels = c.args.self.now.labels.now.labels in
    let begin_fits : SFits w128 c.label.result = search rules in
    let end_fits : SFits w128 c.label-2.result = search rules in
    let kept = simp to_z-of_z at c.kept_only.ensures in
    let begin : label_in labels c.args.a ≡ c.label.result =
    get_or_from_slice_get labels c.args.a c.label.result (pos 0) c.label.ensures in
    let end : label_in labels c.args.b ≡ c.label-2.result =
    get_or_from_slice_get labels c.args.b c.label-2.result (pos 0) c.label-2.ensures in
    kept
    ∙ ap (λ (z : ℤ). kept_only z c.label-2.result c.cost-cost.result) (sym begin)
    ∙ ap (λ (z : ℤ). kept_only (label_in labels c.args.a) z c.cost-cost.result) (sym end)
    ∙ ap (kept_only (label_in labels c.args.a) (label_in labels c.args.b)) c.cost-cost.ensures
    ∙ sym (shown_off (label_in labels) c.args.self.now.node
    (link_arc graph.links.now.links.items graph.levels.now graph.lot) c.args.a c.args.b c.if-a-self.false
    c.if-b-self.false)
