-- What shows the clauses of `replay_blocks` of `src/blocking.rt`.
use Rattle.std.proofs.Common.{◌∙◌, subst, map, length, ℤ}
use Rattle.std.proofs.lemmas.Int.{to_z-of_z}
use mir.Syntax.{w128}
use Rattle.tn_residual.proofs.MakingLemmas.{outcome_feasible}
use Rattle.tn_cert.specs.Reasons.{NoneIsSigned}
use Rattle.tn_cert.specs.Greatest.{FindsLeaver}
use Rattle.tn_cert.proofs.BlockingLemmas.{blocks_from, positive}
use Rattle.tn_cert.proofs.blocking.replay_blocks.Goals as goal

pub first_signed-requires-clause-once : goal.first_signed-requires-clause-once
first_signed-requires-clause-once g c =
    (outcome_feasible c.args.market.now.trades c.args.outcome.now.over c.args.outcome.now.contracts
    c.requires.outcome).once

pub returns-in-Some-2 : goal.returns-in-Some-2
returns-in-Some-2 g c =
    let firms = map g.V.Valuation.firm c.args.market.now.firms in
    let plain = to_z-of_z w128 c.args.over c.ranges.over in
    let some = positive (length c.args.offers.now) (λ e. c.if-len-eq0.false (c.len.ensures ∙ e)) in
    let new = subst (λ (e : ℤ). NoneIsSigned c.args.outcome.now e c.args.offers.now) plain c.in_default.ensures in
    let found = subst (λ (e : ℤ). FindsLeaver firms c.args.market.now.trades c.args.outcome.now e c.args.offers.now
    c.in_ok-firm.field-0) plain c.in_ok-firm.ensures in (
      some,
      new,
      subst (FindsLeaver firms c.args.market.now.trades c.args.outcome.now c.args.over c.args.offers.now)
          c.in-Some-2.is found,
    )

pub returns-in-None : goal.returns-in-None
returns-in-None g c =
    let firms = map g.V.Valuation.firm c.args.market.now.firms in
    let plain = to_z-of_z w128 c.args.over c.ranges.over in
    let some = positive (length c.args.offers.now) (λ e. c.if-len-eq0.false (c.len.ensures ∙ e)) in
    let new = subst (λ (e : ℤ). NoneIsSigned c.args.outcome.now e c.args.offers.now) plain c.in_default.ensures in
    let found = subst (λ (e : ℤ). FindsLeaver firms c.args.market.now.trades c.args.outcome.now e c.args.offers.now
    c.in_ok-firm.field-0) plain c.in_ok-firm.ensures in
    blocks_from firms c.args.market.now.trades c.args.outcome.now c.args.over c.args.offers.now some
    c.requires.offers.feasible new
    (subst (FindsLeaver firms c.args.market.now.trades c.args.outcome.now c.args.over c.args.offers.now) c.in-None.is
    found)
