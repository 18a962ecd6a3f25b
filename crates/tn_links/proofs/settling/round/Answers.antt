-- What shows the clauses of `round` of `src/settling.rt`.
use Rattle.std.proofs.Common.{sym, subst}
use Rattle.tn_links.specs.Lots.{link_arc}
use Rattle.tn_links.specs.LotLemmas.{between-link_arc}
use Rattle.tn_links.specs.Rounds.{GoesRound}
use Rattle.tn_links.proofs.RoundLemmas.{round_of}
use Rattle.tn_links.proofs.settling.round.Goals as goal

pub push_round-requires-clause-round : goal.push_round-requires-clause-round
push_round-requires-clause-round c =
    let links = c.args.links.now in
    let arc = link_arc links.links.items c.args.levels.now 1 in
    subst (GoesRound links.nodes arc) (sym c.listed.ensures)
    (round_of links.nodes _ arc _ _ _ (between-link_arc links.nodes links.links.items c.args.levels.now 1
    links.plain) c.in-Negative.ensures.answer.0)
