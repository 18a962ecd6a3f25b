-- What shows the clauses of `two_stalls` of `src/stalls.rt`.
use Rattle.std.proofs.Common.{◌≡◌, [], ◌∷◌, ap₂, ◌∙◌}
use Rattle.tn_model.specs.declared.ends.Ends.{Ends}
use Rattle.tn_tests.specs.Stall.{trade_between}
use Rattle.tn_tests.proofs.StallLemmas.{stalls-network}
use Rattle.tn_tests.proofs.stalls.two_stalls.Goals as goal

pub new-requires-clause-network : goal.new-requires-clause-network
new-requires-clause-network c =
    let trades : c.in_ok-trades.trades.items ≡ trade_between 0 1 ∷ trade_between 1 0 ∷ [] =
    c.in_ok-trades.ensures.items ∙ ap₂ (λ (x y : Ends). x ∷ y ∷ []) c.ends.ensures c.ends-2.ensures in
    rw (c.in_ok-firms.ensures.items, trades) stalls-network
