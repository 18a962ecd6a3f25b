-- What the loops of `first_unable` of `src/supporting.rt` keep.
use Rattle.std.proofs.Common.{◌≡◌, ℕ, ◌+◌, ◌≤◌, ◌<◌, map, slice_get, Some}
use Rattle.std.specs.Prelude.{IsSome}
use Rattle.tn_base.specs.Firm.{Firm}
use Rattle.tn_model.specs.Network.{part}
use Rattle.tn_price.proofs.supporting.first_unable.Given as goal

abbrev pub invariant-loop-f : goal.invariant-loop-f
invariant-loop-f g l =
    ((h : ℕ) (firm : Firm) → h < l.f → slice_get (map g.V.Valuation.firm l.market.firms) h ≡ Some firm
    → IsSome (firm.worth (part l.market.trades h firm.count l.on)))
    × (l.steps ≤ l.initial.steps + l.f)
