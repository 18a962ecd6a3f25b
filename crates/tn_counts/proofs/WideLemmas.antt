-- What holds of wide markets holds of markets within the limits.
use Rattle.std.proofs.Common.{arith, ℤ}
use Rattle.std.proofs.lemmas.Int.{ints}
use Rattle.tn_base.specs.Arcs.{IsAtMost}
use Rattle.tn_counts.specs.Markets.{IsUnitMarket, IsWideMarket}
use Rattle.tn_counts.specs.Widths.{most_unit_amount, most_wide_amount}
use Rattle.tn_counts.specs.declared.market.UnitMarket.{UnitMarket}

wider : (z : ℤ) → IsAtMost z most_unit_amount → IsAtMost z most_wide_amount
wider z small = record { low = omega (arith, ints, small.low); high = omega (arith, ints, small.high) }

pub wide_market : (market : UnitMarket) → IsUnitMarket market → IsWideMarket market
wide_market market is = record {
  few_firms = is.few_firms;
  few_trades = let few = is.few_trades in omega (arith, few);
  few_sets = is.few_sets;
  few_units = is.few_units;
  between = is.between;
  as_many = is.as_many;
  small = λ t each at.
      let own = is.small t each at in
      record { seller = wider each.seller own.seller; buyer = wider each.buyer own.buyer };
  each = λ i set at.
      let own = is.each i set at in record {
        known = own.known;
        around = own.around;
        few = own.few;
        concave = own.concave;
        small = λ k step there. wider step.each (own.small k step there);
        constant = wider set.constant own.constant;
      };
  laminar = is.laminar;
}
