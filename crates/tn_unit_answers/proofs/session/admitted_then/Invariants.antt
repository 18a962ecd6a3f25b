-- The units that are admitted so far.
use Rattle.std.proofs.Common.{◌≡◌, map}
use Rattle.std.specs.Prelude.{unwrap_or}
use Rattle.std.specs.List.{range_with_len}
use Rattle.tn_counts.specs.Counts.{trade_at}
use Rattle.tn_tree.specs.Lists.{count_in}
use Rattle.tn_unit_answers.specs.Session.{admitted_by}
use Rattle.tn_unit_answers.proofs.session.admitted_then.Given as goal

abbrev pub invariant-loop-t : goal.invariant-loop-t
invariant-loop-t l = l.after.items
    ≡ map (λ t. unwrap_or (admitted_by t (trade_at l.trades t).units l.edit) (count_in l.before t)) (range_with_len 0 l.t)
