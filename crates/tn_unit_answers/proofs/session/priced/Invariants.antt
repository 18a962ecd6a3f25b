-- The prices so far.
use Rattle.std.proofs.Common.{◌≡◌, map}
use Rattle.std.specs.Prelude.{nat_lt}
use Rattle.std.specs.List.{filter, range_with_len}
use Rattle.tn_counts.specs.Counts.{trade_at}
use Rattle.tn_unit_answers.specs.Session.{price_entry}
use Rattle.tn_unit_answers.proofs.session.priced.Given as goal

abbrev pub invariant-loop-t : goal.invariant-loop-t
invariant-loop-t l = l.contracts.items ≡ filter (λ contract. nat_lt 0 (trade_at l.trades contract.trade).units)
    (map (price_entry l.prices) (range_with_len 0 l.t))
