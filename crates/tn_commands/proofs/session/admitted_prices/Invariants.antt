-- What the loops of `admitted_prices` of `src/session.rt` keep.
use Rattle.std.proofs.Common.{◌≡◌}
use Rattle.tn_model.specs.Prices.{price_at}
use Rattle.tn_model.specs.Choices.{contracts_of}
use Rattle.tn_commands.proofs.session.admitted_prices.Given as goal

abbrev pub invariant-loop-t : goal.invariant-loop-t
invariant-loop-t l = l.contracts.items ≡ contracts_of l.session.admitted (price_at l.session.solution.prices) l.t
