-- The firms so far, whether each is away.
use Rattle.std.proofs.Common.{◌≡◌, map}
use Rattle.std.specs.Prelude.{unwrap_or}
use Rattle.std.specs.List.{range_with_len}
use Rattle.tn_unit_answers.specs.Session.{away_by}
use Rattle.tn_unit_answers.specs.Standing.{away_in}
use Rattle.tn_unit_answers.proofs.session.away_then.Given as goal

abbrev pub invariant-loop-f : goal.invariant-loop-f
invariant-loop-f l = l.after.items
    ≡ map (λ f. unwrap_or (away_by f l.edit) (away_in l.before f)) (range_with_len 0 l.f)
