-- What shows the clauses of `drill` of `src/network.rt`.
use Rattle.std.proofs.Common.{ap, ◌∙◌, sym, subst, arith, List, length}
use Rattle.std.specs.Prelude.{All}
use Rattle.tn_base.specs.Firm.{Firm}
use Rattle.tn_model.specs.declared.ends.Ends.{Ends}
use Rattle.tn_model.specs.Network.{IsNetwork}
use Rattle.tn_drill.specs.declared.draws.Drawn.{Drawn}
use Rattle.tn_drill.specs.Draws.{IsWithin}
use Rattle.tn_drill.specs.Drill.{HasSmallNumbers, drawn_ends, firms_of}
use Rattle.tn_drill.proofs.DrawLemmas.{draws_within, trades_counted}
use Rattle.tn_drill.proofs.NetworkLemmas.{firms_are, drill_network, own_of}
use Rattle.tn_drill.proofs.network.drill.Goals as goal

pub firms-requires-clause-within : goal.firms-requires-clause-within
firms-requires-clause-within c =
    subst (All IsWithin) (sym (c.deref-2.ensures.value ∙ c.in_ok-draft.ensures.draws))
    (draws_within c.args.start c.args.size c.requires.few)

pub firms-requires-clause-own : goal.firms-requires-clause-own
firms-requires-clause-own c =
    λ f below.
    subst (λ (trades : List Ends). HasSmallNumbers trades c.deref-2.result.now f)
    (sym (c.deref.ensures.value ∙ c.in_ok-draft.ensures.trades))
    (subst (λ (draws : List Drawn). HasSmallNumbers (drawn_ends c.args.start c.args.size) draws f)
    (sym (c.deref-2.ensures.value ∙ c.in_ok-draft.ensures.draws))
    (own_of c.args.start c.args.size f c.requires.few below))

pub new-requires-clause-few_trades : goal.new-requires-clause-few_trades
new-requires-clause-few_trades c =
    let count = ap length c.in_ok-draft.ensures.trades ∙ trades_counted c.args.start c.args.size in
    let few = c.requires.few in
    omega (arith, count, few)

pub new-requires-clause-network : goal.new-requires-clause-network
new-requires-clause-network c =
    let trades = c.in_ok-draft.ensures.trades in
    let draws = c.in_ok-draft.ensures.draws in
    subst (λ (firms : List Firm). IsNetwork firms c.in_ok-draft.draft.trades.items)
    (sym (c.in_ok-firms.ensures ∙ firms_are c.args.start c.args.size _ _ (c.deref.ensures.value ∙ trades)
    (c.deref-2.ensures.value ∙ draws)))
    (subst (λ (ends : List Ends). IsNetwork (firms_of c.args.start c.args.size) ends) (sym trades)
    (drill_network c.args.start c.args.size))
