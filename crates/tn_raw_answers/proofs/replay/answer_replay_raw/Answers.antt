-- What shows the clauses of `answer_replay_raw` of `src/replay.rt`.
use Rattle.std.proofs.Common.{List, map, sym, subst}
use Rattle.tn_answer.specs.ReasonText.{IsReasonWithin}
use Rattle.tn_cert.specs.declared.replayed.Replayed.{Replayed}
use Rattle.tn_cert.specs.Reasons.{Refutes}
use Rattle.tn_cert.specs.Replays.{HasSmallSurplus, Replays, in_trades, reason_in}
use Rattle.tn_firm.specs.declared.raw.RawFirm.{RawFirm}
use Rattle.tn_firm.specs.Raw.{raw_firm_of}
use Rattle.tn_said.specs.Claim.{on_firms}
use Rattle.tn_model.specs.declared.ends.Ends.{Ends}
use Rattle.tn_commands.proofs.CheckLemmas.{claim_implies}
use Rattle.tn_raw_answers.proofs.ReplayLemmas.{raw_reason_small, small_in}
use Rattle.tn_raw_answers.proofs.replay.answer_replay_raw.Goals as goal

pub returns-in-Valid-clause-answer : goal.returns-in-Valid-clause-answer
returns-in-Valid-clause-answer c =
    let ends = c.args.net.now.ends in
    let claim = on_firms c.args.claim.now in
    let replays =
    subst (λ (it : List Ends). Replays (map raw_firm_of c.firms.result.now) it claim
    (in_trades it c.in_ok-replay_raw.field-0)) c.ends.ensures c.in_ok-replay_raw.ensures.replays in
    let valid =
    subst (λ (firms : List RawFirm). Replays (map raw_firm_of firms) ends claim (in_trades ends Replayed.Valid))
    c.firms.ensures.is
    (subst (λ (replayed : Replayed). Replays (map raw_firm_of c.firms.result.now) ends claim (in_trades ends replayed))
    c.in-Valid.is replays) in
    (valid, claim_implies (map raw_firm_of c.args.net.now.firms) ends claim c.requires.network c.requires.claim valid)

pub returns-in_ok-reason_in-in-Invalid-clause-answer : goal.returns-in_ok-reason_in-in-Invalid-clause-answer
returns-in_ok-reason_in-in-Invalid-clause-answer c =
    let ends = c.args.net.now.ends in
    let claim = on_firms c.args.claim.now in
    let replays =
    subst (λ (it : List Ends). Replays (map raw_firm_of c.firms.result.now) it claim
    (in_trades it c.in_ok-replay_raw.field-0)) c.ends.ensures c.in_ok-replay_raw.ensures.replays in
    subst (Refutes (map raw_firm_of c.args.net.now.firms) ends claim) (sym c.in_ok-reason_in-in-Invalid.ensures)
    (subst (λ (firms : List RawFirm). Refutes (map raw_firm_of firms) ends claim (reason_in ends c.in-Invalid.reason))
    c.firms.ensures.is
    (subst (λ (replayed : Replayed). Replays (map raw_firm_of c.firms.result.now) ends claim (in_trades ends replayed))
    c.in-Invalid.is replays))

pub returns-in_ok-reason_in-in-Invalid-clause-within : goal.returns-in_ok-reason_in-in-Invalid-clause-within
returns-in_ok-reason_in-in-Invalid-clause-within c =
    let ends = c.args.net.now.ends in
    let claim = on_firms c.args.claim.now in
    let replays =
    subst (λ (it : List Ends). Replays (map raw_firm_of c.firms.result.now) it claim
    (in_trades it c.in_ok-replay_raw.field-0)) c.ends.ensures c.in_ok-replay_raw.ensures.replays in
    let small = subst HasSmallSurplus c.in-Invalid.is c.in_ok-replay_raw.ensures.small in
    subst IsReasonWithin (sym c.in_ok-reason_in-in-Invalid.ensures)
    (raw_reason_small (map raw_firm_of c.firms.result.now) ends c.args.claim.now (reason_in ends c.in-Invalid.reason)
    (subst (λ (replayed : Replayed). Replays (map raw_firm_of c.firms.result.now) ends claim (in_trades ends replayed))
    c.in-Invalid.is replays)
    (small_in ends c.in-Invalid.reason small))
