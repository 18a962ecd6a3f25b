-- What shows the clauses of `first_drop` of `src/drops.rt`.
use Rattle.std.proofs.Common.{◌∙◌, Option, map, option_map, subst, arith, inl, inr, ap}
use Rattle.std.proofs.lemmas.List.{length-map}
use Rattle.std.proofs.lemmas.Option.{slice_get_cases, slice_get-map, slice_get_within}
use Rattle.tn_judge.specs.declared.drops.Kept.{Kept}
use Rattle.tn_judge.specs.Drops.{FindsDrop}
use Rattle.tn_judge.proofs.DropLemmas.{one_kept}
use Rattle.tn_judge.proofs.drops.first_drop.Goals as goal

pub loop-f-init : goal.loop-f-init
loop-f-init g c = λ h firm below is. absurd (omega (arith, below))

pub returns-in-Some : goal.returns-in-Some
returns-in-Some g c = elim (slice_get_cases c.args.market.now.firms c.loop-f.f).1 [
  | inr past ↦ absurd (let above = past.0 in let test = c.loop-f-test.true in let count = c.firms-f-end.ensures.count in
      let end = c.loop-f.auto.f-end in omega (arith, above, test, count, end))
  | inl item ↦
      let listed = slice_get-map g.V.Valuation.firm c.args.market.now.firms c.loop-f.f
      ∙ ap (option_map g.V.Valuation.firm) item.2 in
      record {
        before = c.loop-f.invariant;
        firm = g.V.Valuation.firm item.0;
        is = listed;
        drops = subst (λ (o : Option Kept). FindsDrop c.args.market.now.trades c.args.outcome.now.over
            c.args.outcome.now.contracts c.loop-f.f (g.V.Valuation.firm item.0) o) c.in-Some.is
            (c.drop_at.ensures (g.V.Valuation.firm item.0) listed);
      }
]

pub loop-f-preserved : goal.loop-f-preserved
loop-f-preserved g c =
    one_kept (map g.V.Valuation.firm c.args.market.now.firms) c.args.market.now.trades c.args.outcome.now.over
    c.args.outcome.now.contracts c.loop-f.f c.loop-f.invariant
    (λ firm is. subst (λ (o : Option Kept). FindsDrop c.args.market.now.trades c.args.outcome.now.over
    c.args.outcome.now.contracts c.loop-f.f firm o) c.in_default.is (c.drop_at.ensures firm is))

pub returns : goal.returns
returns g c = λ f firm is.
    let test = c.loop-f-test.false in
    let count = c.firms-f-end.ensures.count in
    let end = c.loop-f.auto.f-end in
    let inside = slice_get_within (map g.V.Valuation.firm c.args.market.now.firms) f firm is in
    let mapped = length-map c.args.market.now.firms g.V.Valuation.firm in
    c.loop-f.invariant f firm (omega (arith, test, count, end, inside, mapped)) is
