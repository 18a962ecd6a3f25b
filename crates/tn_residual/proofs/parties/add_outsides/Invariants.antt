-- What the loops of `add_outsides` of `src/parties.rt` keep.
use Rattle.std.proofs.Common.{◌≡◌, ◌≤◌, ◌*◌, ◌++◌, map, take, ℕ}
use Rattle.std.specs.Int.RustNames.{unsigned_abs}
use Rattle.std.specs.List.{All}
use Rattle.tn_model.specs.Limits.{most_numerator}
use Rattle.tn_market.specs.Parties.{party_firm, party_limit}
use Rattle.tn_residual.specs.Residual.{outsides}
use Rattle.tn_residual.proofs.parties.add_outsides.Given as goal

abbrev pub invariant-loop-c : goal.invariant-loop-c
invariant-loop-c g l =
    (map (party_firm g.V.Valuation) l.parties.items ≡ map (party_firm g.V.Valuation) l.initial.parties.items
    ++ outsides l.fn.scale (take l.c l.outcome.contracts))
    × ((limit : ℕ) → unsigned_abs l.fn.scale * most_numerator ≤ limit
    → All (λ party. party_limit g.V.Valuation party ≤ limit) l.initial.parties.items
    → All (λ party. party_limit g.V.Valuation party ≤ limit) l.parties.items)
