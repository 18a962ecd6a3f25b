-- What the loops of `members` of `src/parties.rt` keep.
use Rattle.std.proofs.Common.{◌≡◌, ◌≤◌, length, map, take}
use Rattle.std.specs.List.{All}
use Rattle.tn_model.specs.Limits.{most_worth_among}
use Rattle.tn_market.specs.Levied.{levied_limit}
use Rattle.tn_market.specs.Parties.{party_firm, party_limit}
use Rattle.tn_residual.specs.Residual.{levied_from}
use Rattle.tn_residual.proofs.parties.members.Given as goal

abbrev pub invariant-loop-f : goal.invariant-loop-f
invariant-loop-f g l =
    (map (party_firm g.V.Valuation) l.parties.items
    ≡ levied_from l.market.trades l.outcome.contracts l.fn.scale l.fn.tax 0
    (map g.V.Valuation.firm (take l.f l.market.firms)))
    × All (λ party. party_limit g.V.Valuation party
    ≤ levied_limit l.fn.scale l.fn.tax (most_worth_among (length l.market.trades))) l.parties.items
