-- What shows the clauses of `add_outsides` of `src/parties.rt`.
use Rattle.std.proofs.Common.{rules, ◌≡◌, ◌∙◌, arith, sym, ap, subst, suc, ◌+◌, ◌*◌, ◌≤◌, ◌++◌, map, take, append-nil, ℕ, ℤ, ◌*ℤ◌, List}
use Rattle.std.proofs.lemmas.Int.{to_z-of_z}
use Rattle.std.proofs.lemmas.List.{take_all}
use Rattle.std.proofs.lemmas.Option.{slice_get_within, get_or_from_slice_get}
use Rattle.std.specs.List.{All}
use Rattle.std.specs.Int.RustNames.{unsigned_abs}
use Rattle.std.proofs.lemmas.List.Elements.{All-push}
use mir.Syntax.{w128}
use mir.Val.{SFits, of_z, to_z}
use Rattle.tn_base.specs.Arcs.{IsAtMost}
use Rattle.tn_model.specs.declared.contract.Contract.{Contract}
use Rattle.tn_model.specs.Limits.{most_numerator}
use Rattle.tn_market.specs.Outside.{outside}
use Rattle.tn_market.specs.declared.party.Party.{Party}
use Rattle.tn_market.specs.Parties.{party_firm, party_limit}
use Rattle.tn_residual.specs.Residual.{outsides}
use Rattle.tn_residual.proofs.MakingLemmas.{outsides-next, one_more, outside_limit}
use Rattle.tn_residual.proofs.parties.add_outsides.Goals as goal

pub scaled_price-price-requires-clause-small : goal.scaled_price-price-requires-clause-small
scaled_price-price-requires-clause-small g c =
    let fits : SFits w128 c.at.result.price = search rules in
    simp to_z-of_z (subst (λ (z : Contract). IsAtMost z.price most_numerator)
    (get_or_from_slice_get c.args.outcome.now.contracts c.loop-c.c c.at.result c.at.result c.at.ensures)
    (c.requires.small c.loop-c.c c.at.result (slice_get_within c.args.outcome.now.contracts c.loop-c.c c.at.result
    c.at.ensures)))

pub loop-c-preserved : goal.loop-c-preserved
loop-c-preserved g c =
    let scale_fits : SFits w128 c.args.scale = c.ranges.scale in
    let fits : SFits w128 c.at.result.price = search rules in
    let plain : to_z w128 (of_z w128 c.args.scale) ≡ c.args.scale = to_z-of_z w128 c.args.scale scale_fits in
    let before : map (party_firm g.V.Valuation) c.loop-c.parties.items
    ≡ map (party_firm g.V.Valuation) c.args.parties.now.items
    ++ outsides c.args.scale (take c.loop-c.c c.args.outcome.now.contracts) =
    subst (λ (s : ℤ). map (party_firm g.V.Valuation) c.loop-c.parties.items
    ≡ map (party_firm g.V.Valuation) c.args.parties.now.items
    ++ outsides s (take c.loop-c.c c.args.outcome.now.contracts))
    plain c.loop-c.invariant.0 in
    let price = simp to_z-of_z at c.scaled_price-price.ensures.value in
    let next : c.loop-c.c + 1 ≡ suc c.loop-c.c = omega arith in
    let price_fits : SFits w128 c.scaled_price-price.result = search rules in
    let price_is = c.new.ensures ∙ to_z-of_z w128 c.scaled_price-price.result price_fits ∙ price in
    let made = ap outside price_is in
    let small = subst (λ (z : Contract). IsAtMost z.price most_numerator)
    (get_or_from_slice_get c.args.outcome.now.contracts c.loop-c.c c.at.result c.at.result c.at.ensures)
    (c.requires.small c.loop-c.c c.at.result (slice_get_within c.args.outcome.now.contracts c.loop-c.c c.at.result
    c.at.ensures)) in (
      subst (λ (s : ℤ). map (party_firm g.V.Valuation) c.push.new.self.items
          ≡ map (party_firm g.V.Valuation) c.args.parties.now.items
          ++ outsides s (take (c.loop-c.c + 1) c.args.outcome.now.contracts))
          (sym plain)
          (one_more (party_firm g.V.Valuation) c.loop-c.parties.items c.push.new.self.items _
          (outside (c.args.scale *ℤ c.at.result.price)) (map (party_firm g.V.Valuation) c.args.parties.now.items)
          (outsides c.args.scale (take c.loop-c.c c.args.outcome.now.contracts))
          (outsides c.args.scale (take (c.loop-c.c + 1) c.args.outcome.now.contracts))
          c.in_ok-push.ensures.items before made
          (ap (λ (n : ℕ). outsides c.args.scale (take n c.args.outcome.now.contracts)) next
          ∙ outsides-next c.args.scale c.loop-c.c c.args.outcome.now.contracts c.at.result c.at.ensures)),
      λ limit enough old.
          let bound : unsigned_abs c.args.scale * most_numerator ≤ limit =
          subst (λ (s : ℤ). unsigned_abs s * most_numerator ≤ limit) plain enough in
          let here = outside_limit c.args.scale c.at.result.price small in
          let size : unsigned_abs c.new.result.price ≤ unsigned_abs c.args.scale * most_numerator =
          subst (λ (p : ℤ). unsigned_abs p ≤ unsigned_abs c.args.scale * most_numerator) (sym price_is) here in
          subst (λ (items : List (Party g.row.V.Denot g.row.V-Mark.Denot g.V.Valuation)). All
          (λ party. party_limit g.V.Valuation party ≤ limit) items) (sym c.in_ok-push.ensures.items)
          (All-push (λ party. party_limit g.V.Valuation party ≤ limit) c.loop-c.parties.items _
          (c.loop-c.invariant.1 limit enough old) (omega (arith, size, bound))),
    )

pub loop-c-init : goal.loop-c-init
loop-c-init g c = (sym (append-nil (map (party_firm g.V.Valuation) c.args.parties.now.items)), λ limit enough old. old)

pub returns-clause-limits : goal.returns-clause-limits
returns-clause-limits g c = λ limit enough old.
    let scale_fits : SFits w128 c.args.scale = c.ranges.scale in
    let plain : to_z w128 (of_z w128 c.args.scale) ≡ c.args.scale = to_z-of_z w128 c.args.scale scale_fits in
    c.loop-c.invariant.1 limit (subst (λ (s : ℤ). unsigned_abs s * most_numerator ≤ limit) (sym plain) enough) old

pub returns-clause-firms : goal.returns-clause-firms
returns-clause-firms g c =
    let scale_fits : SFits w128 c.args.scale = c.ranges.scale in
    let plain : to_z w128 (of_z w128 c.args.scale) ≡ c.args.scale = to_z-of_z w128 c.args.scale scale_fits in
    let done : take c.loop-c.c c.args.outcome.now.contracts ≡ c.args.outcome.now.contracts =
    take_all c.loop-c.c c.args.outcome.now.contracts (omega (arith, c.loop-c-test.false, c.len-c-end.ensures)) in
    subst (λ (s : ℤ). map (party_firm g.V.Valuation) c.loop-c.parties.items
    ≡ map (party_firm g.V.Valuation) c.args.parties.now.items
    ++ outsides s (take c.loop-c.c c.args.outcome.now.contracts))
    plain c.loop-c.invariant.0
    ∙ ap (λ (xs : List Contract). map (party_firm g.V.Valuation) c.args.parties.now.items ++ outsides c.args.scale xs)
    done
