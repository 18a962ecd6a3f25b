-- What shows the clauses of `replayed` of `src/outcomes.rt`.
use Rattle.std.proofs.Common.{◌≡◌, [], ◌∷◌, rules, length, map, List, subst, sym}
use Rattle.tn_base.specs.Firm.{Firm}
use Rattle.tn_model.specs.declared.ends.Ends.{Ends}
use Rattle.tn_said.specs.Claim.{on_market}
use Rattle.tn_said.specs.ClaimLimits.{IsClaimWithin}
use Rattle.tn_tests.specs.Stall.{stall, trade_between}
use Rattle.tn_tests.proofs.StallLemmas.{stalls-within}
use Rattle.tn_tests.proofs.outcomes.replayed.Goals as goal

pub replay-requires-clause-within : goal.replay-requires-clause-within
replay-requires-clause-within c =
    let trades : c.in_ok-market.market.trades ≡ trade_between 0 1 ∷ trade_between 1 0 ∷ [] = search rules in
    let firms : List Firm = map (λ v. stall) c.in_ok-market.market.firms in
    subst (λ (ends : List Ends). IsClaimWithin firms ends (on_market c.args.claim)) (sym trades) (c.requires firms)

pub replay-requires-clause-limits : goal.replay-requires-clause-limits
replay-requires-clause-limits c =
    let firms : length c.in_ok-market.market.firms ≡ 2 = search rules in
    let trades : length c.in_ok-market.market.trades ≡ 2 = search rules in
    stalls-within c.in_ok-market.market firms trades
