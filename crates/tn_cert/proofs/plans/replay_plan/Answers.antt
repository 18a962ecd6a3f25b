-- What shows the clauses of `replay_plan` of `src/plans.rt`.
use Rattle.std.proofs.Common.{◌∙◌, sym, ap, subst, arith, map, ℤ, ◌≤ℤ◌}
use Rattle.std.proofs.Common.{rules}
use Rattle.std.proofs.lemmas.Int.{to_z-of_z}
use Rattle.std.proofs.lemmas.List.{length-map}
use mir.Syntax.{w128}
use mir.Val.{SFits, to_z, of_z}
use Rattle.tn_market.proofs.AscentLemmas.{smaller}
use Rattle.tn_market.proofs.AskLemmas.{as_is}
use Rattle.tn_market.specs.Widths.{most_utility}
use Rattle.tn_firm.specs.Raw.{raw_firm_of}
use Rattle.tn_model.specs.Limits.{most_number}
use Rattle.tn_cert.specs.Plans.{IsWorthMore, IsWholeAsGreat, share_of, worth_of_plan}
use Rattle.tn_cert.proofs.PlanSums.{all_abstain}
use Rattle.tn_cert.proofs.plans.replay_plan.Goals as goal

pub returns-in-None-clause-replays : goal.returns-in-None-clause-replays
returns-in-None-clause-replays c =
    let firms = map raw_firm_of c.args.firms.now in
    let plan = c.args.plan.now in
    let ends = c.args.ends.now in
    let over = to_z-of_z w128 c.args.over c.ranges.over in
    let count = length-map c.args.firms.now raw_firm_of in
    let few = c.requires.few_firms in
    let fits : SFits w128 c.in-Ok.worth = search rules in
    let worth = to_z-of_z w128 c.in-Ok.worth fits ∙ c.in-Ok.ensures.1 ∙ ap (λ (o : ℤ). worth_of_plan firms plan o) over
    in
    record {
      shares = λ f below. subst (λ (o : ℤ). share_of plan f ≤ℤ o) over
          (c.in_default.ensures f (omega (arith, below, count, few)));
      possible = c.in-Ok.ensures.0;
      abstain = all_abstain c.args.firms.now;
      balanced = c.in_default-first_unbalanced.ensures;
      greater = subst (λ (w : ℤ). IsWorthMore firms ends c.args.over w) worth
          (subst (λ (o : ℤ). IsWorthMore firms ends o (to_z w128 (of_z w128 c.in-Ok.worth))) over
          c.in-None.ensures.whole);
    }

pub returns-in_ok-on-in-Some-first_whole-clause-replays : goal.returns-in_ok-on-in-Some-first_whole-clause-replays
returns-in_ok-on-in-Some-first_whole-clause-replays c =
    let firms = map raw_firm_of c.args.firms.now in
    let plan = c.args.plan.now in
    let ends = c.args.ends.now in
    let over = to_z-of_z w128 c.args.over c.ranges.over in
    let count = length-map c.args.firms.now raw_firm_of in
    let few = c.requires.few_firms in
    let found = c.in-Some-first_whole.found in
    let whole = c.in-Some-first_whole.ensures.whole in
    let fits : SFits w128 c.in-Ok.worth = search rules in
    let worth = to_z-of_z w128 c.in-Ok.worth fits ∙ c.in-Ok.ensures.1 ∙ ap (λ (o : ℤ). worth_of_plan firms plan o) over
    in
    let plain = as_is found.1 (smaller found.1 most_number most_utility (omega arith)
    c.in-Some-first_whole.ensures.small) in (
      (λ f below. subst (λ (o : ℤ). share_of plan f ≤ℤ o) over
          (c.in_default.ensures f (omega (arith, below, count, few)))),
      c.in-Ok.ensures.0,
      c.in_default-first_unbalanced.ensures,
      subst (IsWholeAsGreat firms ends c.args.over (worth_of_plan firms plan c.args.over)
          c.in_ok-on-in-Some-first_whole.on) (sym plain)
          (subst (λ (w : ℤ). IsWholeAsGreat firms ends c.args.over w c.in_ok-on-in-Some-first_whole.on found.1) worth
          (subst (λ (o : ℤ). IsWholeAsGreat firms ends o (to_z w128 (of_z w128 c.in-Ok.worth))
          c.in_ok-on-in-Some-first_whole.on found.1) over
          (record {
            on = found.0;
            within = whole.0;
            listed_is = c.in_ok-on-in-Some-first_whole.ensures;
            surplus_is =
                whole.1;
            as_great = whole.2;
          }))),
    )
