-- How much a unit over a link of a market costs, and how much flows over all links gain.
use Rattle.std.proofs.Common.{◌≡◌, ℕ, zero, suc, ◌+◌, ◌*◌, ◌<◌, ◌≤◌, ◌⊎◌, List, [], ◌∷◌, length, Some, slice_get, refl, subst, arith, inl, inr, ℤ, pos}
use Rattle.std.proofs.lemmas.Int.{ints}
use Rattle.std.proofs.lemmas.Option.{none-some, same_Some, slice_get-get_or}
use Rattle.tn_base.specs.Arcs.{AreSmall, IsAtMost}
use Rattle.tn_links.specs.declared.link.Link.{Link}
use Rattle.tn_links.specs.declared.link.Step.{Step}
use Rattle.tn_links.specs.Flows.{AreWithin, IsKeptFlow, gain, total_gain}
use Rattle.tn_links.specs.Links.{AddAtMost, room}
use Rattle.tn_links.specs.LotLemmas.{arc_of, lot_at_most}
use Rattle.tn_links.specs.Lots.{link_arc}
use Rattle.tn_links.proofs.GainLemmas.{gain_at_most}
use Rattle.tn_counts.specs.Counts.{trade_at}
use Rattle.tn_counts.specs.Laminar.{amounts_at}
use Rattle.tn_counts.specs.Markets.{IsUnitMarket}
use Rattle.tn_counts.specs.Tree.{AreLinksOf, LinkShape, even, shape_of}
use Rattle.tn_counts.specs.Widths.{most_set_units, most_unit_amount}
use Rattle.tn_counts.specs.declared.market.UnitMarket.{UnitMarket}
use Rattle.tn_counts.proofs.PlainLemmas.{AreAll, by_place}
use Rattle.tn_counts.proofs.SmallLemmas.{units_below}
use Rattle.tn_counts.proofs.SurplusLemmas.{flow_of}
use Rattle.tn_counts.proofs.WideLemmas.{wide_market}

-- one step adds what it adds
pub even_at_most : (limit units : ℕ) (each : ℤ) → IsAtMost each limit → AddAtMost limit (even units each)
even_at_most limit units each small zero step at =
    subst (λ (s : Step). IsAtMost s.each limit) (same_Some (record { units = units; each = each }) step at) small
even_at_most limit units each small (suc i) step at = absurd (none-some step at)

-- the units of a link are few, or none of them adds anything
record IsModest (shape : LinkShape) : Type 0 where
  each : AddAtMost most_unit_amount shape.steps
  few : ((shape.back ≤ most_set_units) × (room shape.steps ≤ most_set_units)) ⊎ AddAtMost 0 shape.steps

shapes_modest : (market : UnitMarket) → IsUnitMarket market → AreAll market [] (λ j shape. IsModest shape)
shapes_modest market is = record {
  sets = λ i set at.
      let own = is.each i set at in
      let around = own.around in
      let few = own.few in
      record { each = own.small; few = inl (omega (arith, around, few), few) };
  roots = λ f below. record {
    each = even_at_most most_unit_amount 8388608 (pos 0) (record { low = omega (arith, ints); high = omega (arith, ints) });
    few = inr (even_at_most 0 8388608 (pos 0) (record { low = omega (arith, ints); high = omega (arith, ints) }));
  };
  sellers = λ t below. record {
    each = even_at_most most_unit_amount (trade_at market.trades.items t).units (amounts_at market.amounts.items t).seller
        (amounts_of t below).0;
    few = inl (omega arith, few_of t below);
  };
  buyers = λ t below. record {
    each = even_at_most most_unit_amount (trade_at market.trades.items t).units (amounts_at market.amounts.items t).buyer
        (amounts_of t below).1;
    few = inl (omega arith, few_of t below);
  };
  pinned = λ k pin at. absurd (none-some pin at);
}
  where
    few_of : (t : ℕ) → t < length market.trades.items → (trade_at market.trades.items t).units + 0 ≤ most_set_units
    few_of t below =
        let units = units_below market.trades.items t below in
        let few = is.few_units in
        omega (arith, units, few)

    amounts_of : (t : ℕ) → t < length market.trades.items
        → IsAtMost (amounts_at market.amounts.items t).seller most_unit_amount
        × IsAtMost (amounts_at market.amounts.items t).buyer most_unit_amount
    amounts_of t below =
        let sized = is.as_many in
        let small = is.small t (amounts_at market.amounts.items t)
        (slice_get-get_or market.amounts.items t (record { seller = pos 0; buyer = pos 0 }) (omega (arith, below, sized))) in
        (small.seller, small.buyer)

-- a unit over a link costs no more than the largest amount
pub unit_arcs_small : (market : UnitMarket) (links : List Link) (levels : List ℕ) → IsUnitMarket market
    → AreLinksOf market [] links → AreSmall (link_arc links levels 1) most_unit_amount
unit_arcs_small market links levels is of u v cost e =
    let arc = arc_of links levels 1 u v cost e in
    let modest = by_place market [] links (λ j shape. IsModest shape) of (shapes_modest market is) arc.place arc.link
    arc.link_is in
    let small = lot_at_most most_unit_amount arc.link arc.level 1 u cost modest.each arc.cost_is in
    record { low = omega (arith, ints, small.low); high = omega (arith, ints, small.high) }

-- each flow gains no more than so many units at the largest amount
link_gain : (link : Link) (level : ℕ) → level ≤ room link.steps.items → link.back ≤ room link.steps.items
    → IsModest (shape_of link)
    → IsAtMost (gain link level) (most_set_units * most_unit_amount)
link_gain link level within back modest = elim modest.few [
  | inl few ↦ gain_at_most most_unit_amount most_set_units link level modest.each few.0 (let most = few.1 in
      omega (arith, within, most))
  | inr none ↦
      let small = gain_at_most 0 (room link.steps.items) link level none back within in
      record { low = omega (arith, ints, small.low); high = omega (arith, ints, small.high) }
]

-- and so do all flows together
gains_small : (links : List Link) (levels : List ℕ)
    → ((j : ℕ) (link : Link) → slice_get links j ≡ Some link → IsModest (shape_of link) × (link.back ≤ room link.steps.items))
    → AreWithin links levels
    → IsAtMost (total_gain links levels) (length links * (most_set_units * most_unit_amount))
gains_small [] levels each within = record { low = omega (arith, ints); high = omega (arith, ints) }
gains_small (link ∷ links) [] each within = record { low = omega (arith, ints); high = omega (arith, ints) }
gains_small (link ∷ links) (level ∷ levels) each within =
    let rest = gains_small links levels (λ j one is. each (suc j) one is)
    (λ j n one link_is level_is. within (suc j) n one link_is level_is) in
    let modest = each 0 link refl in
    let own = link_gain link level (within 0 level link refl refl) modest.1 modest.0 in
    record { low = omega (arith, ints, rest.low, own.low); high = omega (arith, ints, rest.high, own.high) }

-- what a kept flow over the links of a market gains
pub market_gain_small : (market : UnitMarket) (links : List Link) (levels : List ℕ) → IsUnitMarket market
    → AreLinksOf market [] links → IsKeptFlow links levels
    → IsAtMost (total_gain links levels) (13312 * (most_set_units * most_unit_amount))
market_gain_small market links levels is of kept =
    let plain = (flow_of market links levels (wide_market market is) of kept).plain in
    let small = gains_small links levels (λ j link at. (
      by_place market [] links (λ j shape. IsModest shape) of (shapes_modest market is) j link at,
      (plain.each j link at).steps.back_within,
    )) kept.within in
    let all = of.all in
    let sets = is.few_sets in
    let firms = is.few_firms in
    let trades = is.few_trades in
    record {
      low = omega (arith, ints, small.low, all, sets, firms, trades);
      high = omega (arith, ints, small.high, all, sets, firms, trades);
    }
