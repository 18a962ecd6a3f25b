-- What shows the clauses of `take_in` of `src/worth.rt`.
use Rattle.std.proofs.Common.{rules, ℕ, refl, sym, ◌∙◌, ap, subst, arith, inl, ℤ, pos, get_or, ◌<ℤ◌}
use Rattle.std.proofs.lemmas.Int.{ints, to_z-of_z}
use mir.Syntax.{w32, w128}
use mir.Val.{SFits}
use Rattle.tn_base.specs.Sets.{toggle}
use Rattle.tn_dealer.specs.Costs.{far}
use Rattle.tn_dealer.proofs.CertificateLemmas.{pair_taken}
use Rattle.tn_dealer.proofs.worth.take_in.Goals as goal

pub returns-then-buy-ge-POSITIONS : goal.returns-then-buy-ge-POSITIONS
returns-then-buy-ge-POSITIONS c = inl (refl, to_z-of_z w128 c.args.cost c.ranges.cost)

pub overflow_add-result : goal.overflow_add-result
overflow_add-result c =
    let more = c.from.ensures in
    omega (arith, ints, more)

pub returns-then-not-has-2 : goal.returns-then-not-has-2
returns-then-not-has-2 c =
    let here = get_or c.args.costs.now c.place.result (pos 0) in
    let fits : SFits w32 here = search rules in
    let plain = to_z-of_z w32 here fits in
    pair_taken c.args.costs.now c.args.pair.0 c.args.pair.1 c.place.result c.args.bundle c.toggle-bundle.result
    c.args.cost c.from.result c.if-buy-ge-POSITIONS.false c.if-sell-ge-POSITIONS.false c.place.ensures.place
    (c.from.ensures ∙ plain) fits c.requires
    (subst (λ (z : ℤ). z <ℤ far) plain (c.if-is_listed.ensures.0 refl))
    (sym c.if-not-has.ensures) (sym c.if-not-has-2.ensures)
    (c.toggle-bundle.ensures ∙ ap (λ (x : ℕ). toggle x c.args.pair.1) c.toggle.ensures)

pub returns : goal.returns
returns c = inl (refl, to_z-of_z w128 c.args.cost c.ranges.cost)
