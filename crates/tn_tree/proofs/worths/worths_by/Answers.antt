-- What shows the clauses of `worths_by` of `src/worths.rt`.
use Rattle.std.proofs.Common.{◌≡◌, ℕ, ◌<◌, ◌∙◌, List, length, refl, sym, ap, subst, arith, ℤ, pos, get_or, Option, Some, None}
use Rattle.std.specs.Prelude.{slice_get}
use Rattle.std.proofs.lemmas.Int.{ints, to_z-of_z}
use Rattle.std.proofs.lemmas.List.{get_or_default, length-map, length-set}
use Rattle.std.proofs.lemmas.Option.{slice_get_read}
use mir.Syntax.{w128}
use mir.Val.{SFits}
use Rattle.tn_base.specs.Arcs.{IsAtMost}
use Rattle.tn_base.specs.Options.{both}
use Rattle.tn_counts.specs.Laminar.{amount_sum, set_sum}
use Rattle.tn_counts.specs.Widths.{most_market_units, most_wide_amount}
use Rattle.tn_counts.specs.declared.trade.UnitAmounts.{UnitAmounts}
use Rattle.tn_tree.specs.Lists.{own_counts}
use Rattle.tn_tree.specs.Nets.{net_at}
use Rattle.tn_tree.proofs.FirmLemmas.{amounts_small, number_is, wide_amounts, small_amounts, small_step, some_at, some_is, worth_step}
use Rattle.tn_tree.proofs.NetLemmas.{net_small}
use Rattle.tn_tree.proofs.worths.worths_by.Goals as goal

pub amount_sums-requires-clause-small : goal.amount_sums-requires-clause-small
amount_sums-requires-clause-small c =
    subst (λ (amounts : List UnitAmounts). (t : ℕ) (each : UnitAmounts) → slice_get amounts t ≡ Some each
    → IsAtMost each.seller most_wide_amount × IsAtMost each.buyer most_wide_amount) (sym c.deref.ensures.value)
    (wide_amounts c.args.market.now.amounts.items c.requires.market.small)

pub some_of-requires : goal.some_of-requires
some_of-requires c = λ v.
    let same = ap (λ (xs : List ℤ). get_or xs v (pos 0)) c.deref-2.ensures.value in
    let sum = c.in_ok-amounts.ensures.sums v ∙ ap (λ (amounts : List UnitAmounts). amount_sum c.args.market.now.trades.items
    amounts v (own_counts c.args.market.now.trades.items c.args.sold.now c.args.bought.now v)) c.deref.ensures.value in
    let small = amounts_small c.args.market.now c.args.market.now.amounts.items c.args.sold.now c.args.bought.now v
    most_wide_amount c.requires.market (small_amounts c.args.market.now c.requires.market) c.requires.sold
    c.requires.bought in
    record {
      low = omega (arith, ints, same, sum, small.low);
      high = omega (arith, ints, same, sum, small.high);
    }

pub loop-i-init : goal.loop-i-init
loop-i-init c =
    let long = ap length c.in_ok-worths.ensures ∙ length-map c.deref-2.result.now Some in
    let same = ap length c.deref-2.ensures.value in
    let count = c.in_ok-amounts.ensures.sized in
    record {
      sized = omega (arith, long, same, count);
      rest = λ f below. ap (λ (o : Option ℤ). both o
          (set_sum c.args.market.now.trades.items f
          (own_counts c.args.market.now.trades.items c.args.sold.now c.args.bought.now f) c.args.market.now.sets.items))
          (ap (λ (xs : List (Option ℤ)). get_or xs f None) c.in_ok-worths.ensures
          ∙ some_at c.deref-2.result.now f (omega (arith, same, count, below))
          ∙ ap Some (ap (λ (xs : List ℤ). get_or xs f (pos 0)) c.deref-2.ensures.value ∙ c.in_ok-amounts.ensures.sums f
          ∙ ap (λ (amounts : List UnitAmounts). amount_sum c.args.market.now.trades.items
          amounts f (own_counts c.args.market.now.trades.items c.args.sold.now c.args.bought.now f)) c.deref.ensures.value));
      small = λ f worth is.
          let value = some_is c.deref-2.result.now f worth
          (sym (ap (λ (xs : List (Option ℤ)). get_or xs f None) c.in_ok-worths.ensures) ∙ is) in
          let read = ap (λ (xs : List ℤ). get_or xs f (pos 0)) c.deref-2.ensures.value in
          let sum = c.in_ok-amounts.ensures.sums f ∙ ap (λ (amounts : List UnitAmounts). amount_sum
          c.args.market.now.trades.items amounts f
          (own_counts c.args.market.now.trades.items c.args.sold.now c.args.bought.now f)) c.deref.ensures.value in
          let small = amounts_small c.args.market.now c.args.market.now.amounts.items c.args.sold.now c.args.bought.now f
          most_wide_amount c.requires.market (small_amounts c.args.market.now c.requires.market) c.requires.sold
          c.requires.bought in
          record {
            low = omega (arith, ints, value, read, sum, small.low);
            high = omega (arith, ints, value, read, sum, small.high);
          };
    }

pub number_at-requires-clause-set : goal.number_at-requires-clause-set
number_at-requires-clause-set c =
    let at = slice_get_read c.args.market.now.sets.items (length c.args.market.now.sets.items) c.loop-i.i
    c.index-set.result.now refl (omega arith) c.index-set.ensures in
    (c.args.market.now.firms, c.requires.market.each c.loop-i.i c.index-set.result.now at)

pub number_at-requires-clause-small : goal.number_at-requires-clause-small
number_at-requires-clause-small c =
    let sized = c.in_ok-nets.ensures.sized in
    let below : c.loop-i.i < length c.args.market.now.sets.items = omega arith in
    let read : c.index.result.now ≡ net_at c.args.market.now c.args.sold.now c.args.bought.now c.loop-i.i =
    c.index.ensures ∙ get_or_default c.in_ok-nets.nets.items c.loop-i.i c.index.result.now (pos 0) (omega (arith, sized, below))
    ∙ c.in_ok-nets.ensures.sets c.loop-i.i below in
    let net = net_small c.args.market.now c.args.sold.now c.args.bought.now c.loop-i.i c.requires.market c.requires.sold
    c.requires.bought in
    let fits : SFits w128 c.index.result.now = omega (arith, ints, net.low, net.high, read) in
    let small : IsAtMost c.index.result.now most_market_units =
    subst (λ (z : ℤ). IsAtMost z most_market_units) (sym read) net in
    simp to_z-of_z small

pub add_number-requires-clause-inside : goal.add_number-requires-clause-inside
add_number-requires-clause-inside c =
    let at = slice_get_read c.args.market.now.sets.items (length c.args.market.now.sets.items) c.loop-i.i
    c.index-set.result.now refl (omega arith) c.index-set.ensures in
    let known = (c.requires.market.each c.loop-i.i c.index-set.result.now at).known in
    let sized = c.loop-i.invariant.sized in
    omega (arith, known, sized)

pub add_number-requires-clause-before : goal.add_number-requires-clause-before
add_number-requires-clause-before c = λ value is.
    let small = c.loop-i.invariant.small c.index-set.result.now.firm value is in
    let few = c.requires.market.few_sets in
    let below : c.loop-i.i < length c.args.market.now.sets.items = omega arith in
    record {
      low = omega (arith, ints, small.low, few, below);
      high = omega (arith, ints, small.high, few, below);
    }

pub add_number-requires-clause-number : goal.add_number-requires-clause-number
add_number-requires-clause-number c = λ value is.
    let small = c.number_at.ensures.small value is in
    record { low = omega (arith, ints, small.low); high = omega (arith, ints, small.high) }

pub loop-i-preserved : goal.loop-i-preserved
loop-i-preserved c =
    let sized = c.loop-i.invariant.sized in
    let nets_sized = c.in_ok-nets.ensures.sized in
    let below : c.loop-i.i < length c.args.market.now.sets.items = omega arith in
    let at = slice_get_read c.args.market.now.sets.items (length c.args.market.now.sets.items) c.loop-i.i
    c.index-set.result.now refl below c.index-set.ensures in
    let known = (c.requires.market.each c.loop-i.i c.index-set.result.now at).known in
    let inside : c.index-set.result.now.firm < length c.loop-i.worths.items = omega (arith, known, sized) in
    let read : c.index.result.now ≡ net_at c.args.market.now c.args.sold.now c.args.bought.now c.loop-i.i =
    c.index.ensures
    ∙ get_or_default c.in_ok-nets.nets.items c.loop-i.i c.index.result.now (pos 0) (omega (arith, nets_sized, below))
    ∙ c.in_ok-nets.ensures.sets c.loop-i.i below in
    let net = net_small c.args.market.now c.args.sold.now c.args.bought.now c.loop-i.i c.requires.market c.requires.sold
    c.requires.bought in
    let fits : SFits w128 c.index.result.now = omega (arith, ints, net.low, net.high, read) in
    let added = simp to_z-of_z at c.number_at.ensures.number in
    let number = added ∙ number_is c.args.market.now c.args.sold.now c.args.bought.now c.loop-i.i c.index-set.result.now
    c.index.result.now c.requires.market at read in
    let long = ap length c.add_number.ensures ∙ length-set c.loop-i.worths.items c.index-set.result.now.firm _ in
    record {
      sized = omega (arith, sized, long);
      rest = λ f inside_f. worth_step c.args.market.now c.args.sold.now c.args.bought.now c.loop-i.i c.index-set.result.now
          c.loop-i.worths.items c.add_number.new.worths.items c.number_at.result _ f at number inside
          c.add_number.ensures (c.loop-i.invariant.rest f inside_f);
      small = λ f worth is. small_step c.loop-i.i c.index-set.result.now.firm c.loop-i.worths.items
          c.add_number.new.worths.items c.number_at.result f worth inside c.add_number.ensures c.loop-i.invariant.small
          c.number_at.ensures.small is;
    }

pub returns-clause-small : goal.returns-clause-small
returns-clause-small c = λ f worth is.
    let small = c.loop-i.invariant.small f worth is in
    let few = c.requires.market.few_sets in
    let past = c.loop-i-test.false in
    record {
      low = omega (arith, ints, small.low, few);
      high = omega (arith, ints, small.high, few);
    }
