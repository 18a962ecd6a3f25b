-- What shows the clauses of `replay_impossible` of `src/utilities.rt`.
use Rattle.std.proofs.Common.{sym, subst, refl}
use Rattle.std.specs.Prelude.{IsSome}
use Rattle.tn_price.proofs.JudgeLemmas.{firm_is, some_item}
use Rattle.tn_cert.proofs.utilities.replay_impossible.Goals as goal

pub returns-in-None : goal.returns-in-None
returns-in-None g c =
    let item = some_item c.args.market.now.firms c.args.firm c.requires.known in
    let at = firm_is g.V.Valuation.firm c.args.market.now.firms c.args.firm item.0 item.1 in
    (g.V.Valuation.firm item.0, at, sym (c.in-None.ensures.worth (g.V.Valuation.firm item.0) at))

pub returns-in-Some : goal.returns-in-Some
returns-in-Some g c =
    let item = some_item c.args.market.now.firms c.args.firm c.requires.known in
    let at = firm_is g.V.Valuation.firm c.args.market.now.firms c.args.firm item.0 item.1 in
    (refl, (g.V.Valuation.firm item.0, at, subst IsSome (c.in-Some.ensures.worth (g.V.Valuation.firm item.0) at) refl))
