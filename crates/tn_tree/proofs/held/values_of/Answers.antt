-- What shows the clauses of `values_of` of `src/held.rt`.
use Rattle.std.proofs.Common.{◌∙◌, List, length, sym, ap, ap₂, arith, ℤ, pos, ◌+ℤ◌, ◌*ℤ◌, get_or, Option, None, option_map}
use Rattle.std.proofs.lemmas.Int.{ints}
use Rattle.std.proofs.lemmas.Option.{slice_get-get_or}
use Rattle.tn_counts.specs.Widths.{most_unit_price}
use Rattle.tn_counts.specs.Laminar.{amounts_at}
use Rattle.tn_tree.proofs.FirmLemmas.{amounts_small}
use Rattle.tn_tree.proofs.HeldLemmas.{paid_small, utilities_small}
use Rattle.tn_tree.proofs.SolveLemmas.{read_at, sized_by}
use Rattle.tn_tree.proofs.held.values_of.Goals as goal

pub amount_sums-requires-clause-small : goal.amount_sums-requires-clause-small
amount_sums-requires-clause-small c = λ t each at.
    let small = c.requires.small t each at in (
      record { low = omega (arith, ints, small.0.low); high = omega (arith, ints, small.0.high) },
      record { low = omega (arith, ints, small.1.low); high = omega (arith, ints, small.1.high) },
    )

pub utilities-requires-clause-worths : goal.utilities-requires-clause-worths
utilities-requires-clause-worths c = λ f value is.
    c.in_ok-worths.ensures.small f value (sym (ap (λ (xs : List (Option ℤ)). get_or xs f None) c.deref.ensures.value) ∙ is)

pub utilities-requires-clause-paid : goal.utilities-requires-clause-paid
utilities-requires-clause-paid c = λ f.
    let same = ap (λ (xs : List ℤ). get_or xs f (pos 0)) c.deref-2.ensures.value in
    let sum = c.in_ok-paid.ensures.sums f in
    let sized = c.requires.as_many in
    let small = amounts_small c.args.market.now c.args.rates.now c.args.sold.now c.args.bought.now f most_unit_price
    c.requires.market (λ t below. c.requires.small t (amounts_at c.args.rates.now t)
    (slice_get-get_or c.args.rates.now t (record { seller = pos 0; buyer = pos 0 }) (omega (arith, below, sized))))
    c.requires.sold c.requires.bought in
    paid_small (get_or c.deref-2.result.now f (pos 0)) _ same sum small

pub returns-clause-values : goal.returns-clause-values
returns-clause-values c =
    let same = ap length c.deref.ensures.value in
    let count = c.in_ok-worths.ensures.sized in
    record {
      worths_are = c.in_ok-worths.ensures.worths;
      utilities_are = λ f below.
          sym (read_at (λ f. option_map (λ value. pos 1 *ℤ value +ℤ get_or c.deref-2.result.now f (pos 0))
          (get_or c.deref.result.now f None)) c.in_ok-utilities.utilities.items (length c.deref.result.now) f None
          c.in_ok-utilities.ensures (omega (arith, same, count, below)))
          ∙ ap₂ (λ (z : ℤ) (o : Option ℤ). option_map (λ value. pos 1 *ℤ value +ℤ z) o)
          (ap (λ (xs : List ℤ). get_or xs f (pos 0)) c.deref-2.ensures.value ∙ c.in_ok-paid.ensures.sums f)
          (ap (λ (xs : List (Option ℤ)). get_or xs f None) c.deref.ensures.value ∙ c.in_ok-worths.ensures.worths f below);
    }

pub returns-clause-utilities : goal.returns-clause-utilities
returns-clause-utilities c =
    let same = ap length c.deref.ensures.value in
    let count = c.in_ok-worths.ensures.sized in
    sized_by (λ f. option_map (λ value. pos 1 *ℤ value +ℤ get_or c.deref-2.result.now f (pos 0))
    (get_or c.deref.result.now f None)) c.in_ok-utilities.utilities.items (length c.deref.result.now)
    c.args.market.now.firms c.in_ok-utilities.ensures (omega (arith, same, count))

pub returns-clause-small_utilities : goal.returns-clause-small_utilities
returns-clause-small_utilities c =
    let sized = c.requires.as_many in
    utilities_small c.deref.result.now c.deref-2.result.now c.in_ok-utilities.utilities.items (length c.deref.result.now)
    c.in_ok-utilities.ensures
    (λ f value is. c.in_ok-worths.ensures.small f value
    (sym (ap (λ (xs : List (Option ℤ)). get_or xs f None) c.deref.ensures.value) ∙ is))
    (λ f.
    let same = ap (λ (xs : List ℤ). get_or xs f (pos 0)) c.deref-2.ensures.value in
    let sum = c.in_ok-paid.ensures.sums f in
    let small = amounts_small c.args.market.now c.args.rates.now c.args.sold.now c.args.bought.now f most_unit_price
    c.requires.market (λ t below. c.requires.small t (amounts_at c.args.rates.now t)
    (slice_get-get_or c.args.rates.now t (record { seller = pos 0; buyer = pos 0 }) (omega (arith, below, sized))))
    c.requires.sold c.requires.bought in
    paid_small (get_or c.deref-2.result.now f (pos 0)) _ same sum small)
