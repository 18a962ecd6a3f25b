-- The trades so far.
use Rattle.std.proofs.Common.{◌≡◌, map}
use Rattle.std.specs.List.{range_with_len}
use Rattle.tn_counts.specs.Counts.{trade_at}
use Rattle.tn_tree.specs.Lists.{count_in}
use Rattle.tn_unit_answers.specs.Session.{usable_trade}
use Rattle.tn_unit_answers.specs.Standing.{away_in}
use Rattle.tn_unit_answers.proofs.session.usable_trades.Given as goal

abbrev pub invariant-loop-t : goal.invariant-loop-t
invariant-loop-t l = l.usable.items
    ≡ map (λ t. usable_trade (count_in l.admitted t) (away_in l.away) (trade_at l.trades t)) (range_with_len 0 l.t)
