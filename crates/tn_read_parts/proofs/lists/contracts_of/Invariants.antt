-- What the loops of `contracts_of` of `src/lists.rt` keep.
use Rattle.std.proofs.Common.{◌≡◌}
use Rattle.tn_model.specs.Prices.{price_at}
use Rattle.tn_model.specs.Choices.{contracts_of}
use Rattle.tn_read_parts.proofs.lists.contracts_of.Given as goal

abbrev pub invariant-loop-t : goal.invariant-loop-t
invariant-loop-t l = l.contracts.items ≡ contracts_of l.named (price_at l.prices) l.t
