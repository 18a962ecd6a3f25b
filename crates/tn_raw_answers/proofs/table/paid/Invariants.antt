-- What the loops of `paid` of `src/table.rt` keep.
use Rattle.std.proofs.Common.{◌≡◌, ◌*◌}
use Rattle.tn_base.specs.Arcs.{IsAtMost}
use Rattle.tn_market.specs.Widths.{most_asked_price}
use Rattle.tn_base.specs.Firm.{payments}
use Rattle.tn_base.specs.Sets.{sum_over}
use Rattle.tn_model.specs.Prices.{price_at}
use Rattle.tn_raw_answers.proofs.table.paid.Given as goal

abbrev pub invariant-loop-k : goal.invariant-loop-k
invariant-loop-k l = record {
  sum : l.total ≡ sum_over (payments l.buys (price_at l.prices)) l.k l.x;
  small : IsAtMost l.total (l.k * most_asked_price);
}
