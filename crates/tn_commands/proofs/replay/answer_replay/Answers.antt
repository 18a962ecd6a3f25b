-- What shows the clauses of `answer_replay` of `src/replay.rt`.
use Rattle.std.proofs.Common.{map, subst, arith}
use Rattle.tn_cert.specs.Replays.{Replays}
use Rattle.tn_firm.specs.Firms.{firm_of}
use Rattle.tn_said.specs.Claim.{on_market}
use Rattle.tn_commands.proofs.CheckLemmas.{claim_implies}
use Rattle.tn_commands.proofs.ReasonLemmas.{reason_small}
use Rattle.tn_commands.proofs.SupportedLemmas.{within_limits}
use Rattle.tn_commands.proofs.replay.answer_replay.Goals as goal

pub replay-requires-clause-limits : goal.replay-requires-clause-limits
replay-requires-clause-limits c =
    within_limits c.args.market.now.firms c.args.market.now.trades c.requires.few_firms c.requires.wide
    c.requires.worths

pub returns-clause-within : goal.returns-clause-within
returns-clause-within c =
    let firms = c.args.market.now.firms in
    let trades = c.args.market.now.trades in
    let few = c.requires.few_firms in
    reason_small firms trades (on_market c.args.claim.now) c.in-Invalid.reason (omega (arith, few)) c.trades-count.ensures.network
    c.requires.claim
    (subst (Replays (map firm_of firms) trades (on_market c.args.claim.now)) c.in-Invalid.is c.in_ok-replay.ensures)

pub returns-in-Valid-clause-answer : goal.returns-in-Valid-clause-answer
returns-in-Valid-clause-answer c =
    let firms = map firm_of c.args.market.now.firms in
    let trades = c.args.market.now.trades in
    let valid = subst (Replays firms trades (on_market c.args.claim.now)) c.in-Valid.is c.in_ok-replay.ensures in
    (valid, claim_implies firms trades (on_market c.args.claim.now) c.trades-count.ensures.network c.requires.claim valid)
