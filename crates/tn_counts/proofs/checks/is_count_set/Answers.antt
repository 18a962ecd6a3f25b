-- What shows the clauses of `is_count_set` of `src/checks.rt`.
use Rattle.std.proofs.Common.{List, sym, ap, subst, arith}
use Rattle.std.proofs.lemmas.Int.{ints, to_z-of_z}
use mir.Syntax.{w64}
use mir.Val.{SFits}
use Rattle.tn_links.specs.Links.{HasSteps, room}
use Rattle.tn_links.specs.declared.link.Step.{Step}
use Rattle.tn_counts.specs.Markets.{HaveSmallSteps}
use Rattle.tn_counts.proofs.CheckLemmas.{steps_of}
use Rattle.tn_counts.proofs.checks.is_count_set.Goals as goal
use Rattle.tn_counts.proofs.checks.is_count_set.Goals.{then-firms-set-via-then-firms-set, then-firms-set-via-else-firms-set+then-not-has_steps}

pub returns-then-firms-set-clause-no : goal.returns-then-firms-set-clause-no
returns-then-firms-set-clause-no c is set = elim c.then-firms-set.branch [
  | then-firms-set-via-then-firms-set w ↦
      let known = set.known in
      omega (arith, known, w.if-firms-set.true)
  | then-firms-set-via-else-firms-set+then-not-has_steps w ↦
      w.has_steps.ensures.no w.if-not-has_steps.true
      (subst (λ (steps : List Step). HasSteps c.args.set.now.back steps) (sym w.deref.ensures.value)
      (steps_of c.args.firms c.args.set.now set))
]

pub returns-then-not-have_small_steps-clause-no : goal.returns-then-not-have_small_steps-clause-no
returns-then-not-have_small_steps-clause-no c is set =
    c.have_small_steps.ensures.no c.if-not-have_small_steps.true
    (subst HaveSmallSteps (sym c.deref-3.ensures.value) set.small)

pub returns-clause-yes : goal.returns-clause-yes
returns-clause-yes c is =
    let steps = subst (λ (steps : List Step). HasSteps c.args.set.now.back steps) c.deref.ensures.value
    (c.has_steps.ensures.yes c.if-not-has_steps.false) in
    let fits : SFits w64 c.args.set.now.constant = omega (arith, ints) in
    let small = c.is_small.ensures.yes is in
    let constant = simp to_z-of_z at small in
    record {
      known = omega (arith, c.if-firms-set.false);
      around = steps.back_within;
      few = let units = c.room.ensures in let same = ap room c.deref-2.ensures.value in
          omega (arith, units, same, c.if-room-gt-MOST_SET_UNITS.false);
      concave = steps.falling;
      small = subst HaveSmallSteps c.deref-3.ensures.value (c.have_small_steps.ensures.yes c.if-not-have_small_steps.false);
      constant = constant;
    }
