-- What shows the clauses of `residual` of `src/residual_market.rt`.
use Rattle.std.proofs.Common.{◌≡◌, ◌∙◌, arith, sym, ap, subst, ◌≤◌, length, map, ℕ}
use Rattle.std.specs.List.{All}
use Rattle.std.proofs.lemmas.Int.{ints, to_z-of_z}
use Rattle.std.proofs.lemmas.List.{length-map}
use Rattle.std.proofs.lemmas.Result.{IfOk-weaker}
use mir.Syntax.{w128}
use mir.Val.{SFits}
use Rattle.tn_base.specs.Firm.{HasOwnBundles}
use Rattle.tn_market.specs.declared.party.Party.{Party}
use Rattle.tn_market.specs.Traded.{Traded}
use Rattle.tn_market.specs.Parties.{party_firm, party_limit}
use Rattle.tn_network_laws.proofs.EachLemmas.{each_firm}
use Rattle.tn_residual.specs.Residual.{residual_limit, residual_trades}
use Rattle.tn_residual.specs.Surplus.{IsSurplusOfReduced}
use Rattle.tn_residual.proofs.MakingLemmas.{scale_fits, contracts_few, outcome_feasible, trades_few}
use Rattle.tn_residual.proofs.ResidualLemmas.{made_network, firms_count}
use Rattle.tn_residual.proofs.ReachLemmas.{surplus_is_reduced_worth, made_surplus}
use Rattle.tn_residual.proofs.residual_market.residual.Goals as goal

pub new-requires-clause-few_firms : goal.new-requires-clause-few_firms
new-requires-clause-few_firms g c =
    let scale : SFits w128 c.args.scale = c.ranges.scale in
    let tax : SFits w128 c.args.tax = c.ranges.tax in
    let firms_are = simp to_z-of_z at c.in_ok-parties.ensures.firms in
    let count = firms_count (party_firm g.V.Valuation) c.in_ok-parties.parties.items
    (map g.V.Valuation.firm c.args.market.now.firms) c.args.market.now.trades
    c.args.outcome.now.over c.args.outcome.now.contracts c.args.scale c.args.tax firms_are in
    let few = contracts_few c.args.market.now.trades c.args.outcome.now.over c.args.outcome.now.contracts
    c.requires.outcome in
    let most = c.requires.limits.few_trades in
    let firms = c.requires.limits.few_firms in
    let same = length-map c.args.market.now.firms g.V.Valuation.firm in
    omega (arith, count, few, most, firms, same)

pub new-requires-clause-few_trades : goal.new-requires-clause-few_trades
new-requires-clause-few_trades g c =
    let count = trades_few (length c.args.market.now.firms) c.args.market.now.trades c.args.outcome.now.over
    c.args.outcome.now.contracts c.in_ok-trades.trades.items c.requires.outcome c.in_ok-trades.ensures.trades in
    let few = contracts_few c.args.market.now.trades c.args.outcome.now.over c.args.outcome.now.contracts
    c.requires.outcome in
    let most = c.requires.limits.few_trades in
    omega (arith, count, few, most)

pub new-requires-clause-network : goal.new-requires-clause-network
new-requires-clause-network g c =
    let scale : SFits w128 c.args.scale = c.ranges.scale in
    let tax : SFits w128 c.args.tax = c.ranges.tax in
    let firms_are = simp to_z-of_z at c.in_ok-parties.ensures.firms in
    let numbered : length c.args.market.now.firms ≡ length (map g.V.Valuation.firm c.args.market.now.firms) =
    sym (length-map c.args.market.now.firms g.V.Valuation.firm) in
    made_network (party_firm g.V.Valuation) c.in_ok-parties.parties.items c.in_ok-trades.trades.items
    (map g.V.Valuation.firm c.args.market.now.firms) c.args.market.now.trades
    c.args.outcome.now.over c.args.outcome.now.contracts c.args.scale c.args.tax firms_are
    (c.in_ok-trades.ensures.trades
    ∙ ap (λ (n : ℕ). residual_trades n c.args.market.now.trades c.args.outcome.now.contracts) numbered)
    c.all_trades.ensures.network
    (outcome_feasible c.args.market.now.trades c.args.outcome.now.over c.args.outcome.now.contracts c.requires.outcome)

pub returns-clause-firms : goal.returns-clause-firms
returns-clause-firms g c =
    let scale : SFits w128 c.args.scale = c.ranges.scale in
    let tax : SFits w128 c.args.tax = c.ranges.tax in
    let firms_are = simp to_z-of_z at c.in_ok-parties.ensures.firms in
    IfOk-weaker c.new.result _ _
    (λ market is. ap (λ (m : Traded (Party g.row.V.Denot g.row.V-Mark.Denot g.V.Valuation)). map
    (party_firm g.V.Valuation) m.firms) is ∙ firms_are) c.new.ensures

pub returns-clause-trades : goal.returns-clause-trades
returns-clause-trades g c =
    IfOk-weaker c.new.result _ _
    (λ market is. ap (λ (m : Traded (Party g.row.V.Denot g.row.V-Mark.Denot g.V.Valuation)). m.trades) is
    ∙ c.in_ok-trades.ensures.trades) c.new.ensures

pub returns-clause-limits : goal.returns-clause-limits
returns-clause-limits g c =
    let scale : SFits w128 c.args.scale = c.ranges.scale in
    let limits_are = simp to_z-of_z at c.in_ok-parties.ensures.limits in
    IfOk-weaker c.new.result _ _
    (λ market is. subst (λ (m : Traded (Party g.row.V.Denot g.row.V-Mark.Denot g.V.Valuation)).
    All (λ party. party_limit g.V.Valuation party ≤ residual_limit (length c.args.market.now.trades)
    c.args.outcome.now.over c.args.scale) m.firms)
    (sym is) limits_are) c.new.ensures

pub returns-clause-surplus : goal.returns-clause-surplus
returns-clause-surplus g c =
    let scale : SFits w128 c.args.scale = c.ranges.scale in
    let tax : SFits w128 c.args.tax = c.ranges.tax in
    let firms_are = simp to_z-of_z at c.in_ok-parties.ensures.firms in
    let numbered : length c.args.market.now.firms ≡ length (map g.V.Valuation.firm c.args.market.now.firms) =
    sym (length-map c.args.market.now.firms g.V.Valuation.firm) in
    let outcome = c.requires.outcome in
    let from_one =
    (scale_fits c.args.outcome.now.over c.args.scale outcome.least c.requires.scaled c.requires.small_scale).0 in
    let law = surplus_is_reduced_worth (map g.V.Valuation.firm c.args.market.now.firms) c.args.market.now.trades
    c.args.outcome.now.over c.args.outcome.now.contracts c.args.scale c.args.tax
    c.all_trades.ensures.network (outcome_feasible c.args.market.now.trades c.args.outcome.now.over
    c.args.outcome.now.contracts c.requires.outcome)
    (each_firm g.V.Valuation.firm HasOwnBundles c.args.market.now.firms (λ v. (g.met.V.Valuation.lawful v).own_bundles))
    (omega (arith, ints, from_one)) in
    IfOk-weaker c.new.result _ _
    (λ market is. subst (λ (m : Traded (Party g.row.V.Denot g.row.V-Mark.Denot g.V.Valuation)).
    IsSurplusOfReduced (map (party_firm g.V.Valuation) m.firms) m.trades
    (map g.V.Valuation.firm c.args.market.now.firms) c.args.market.now.trades
    c.args.outcome.now.over c.args.outcome.now.contracts c.args.scale c.args.tax) (sym is)
    (made_surplus (party_firm g.V.Valuation) c.in_ok-parties.parties.items c.in_ok-trades.trades.items
    (map g.V.Valuation.firm c.args.market.now.firms) c.args.market.now.trades
    c.args.outcome.now.over c.args.outcome.now.contracts c.args.scale c.args.tax firms_are
    (c.in_ok-trades.ensures.trades
    ∙ ap (λ (n : ℕ). residual_trades n c.args.market.now.trades c.args.outcome.now.contracts) numbered) law))
    c.new.ensures
