-- What the loops of `first_left` of `src/choosing.rt` keep.
use Rattle.std.proofs.Common.{◌≡◌, slice_get, Some}
use Rattle.tn_cert.proofs.LeaveLemmas.{FindsLeaving}
use Rattle.tn_cert.proofs.choosing.first_left.Given as goal

abbrev pub invariant-loop-k : goal.invariant-loop-k
invariant-loop-k g l = (v : g.row.V.Denot) → slice_get l.market.firms l.f ≡ Some v
    → FindsLeaving l.market.trades l.scale l.f (g.V.Valuation.firm v) l.contracts l.k l.first
