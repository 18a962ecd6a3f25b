-- What shows the clauses of `has_steps` of `src/checks.rt`.
use Rattle.std.proofs.Common.{◌≡◌, ◌∙◌, true, sym, arith}
use Rattle.std.proofs.lemmas.Bool.{leb-true}
use Rattle.tn_links.proofs.checks.has_steps.Goals as goal
use Rattle.tn_links.proofs.checks.has_steps.Goals.{then-back-units, else-back-units}

pub returns-then-are_falling-clause-yes : goal.returns-then-are_falling-clause-yes
returns-then-are_falling-clause-yes c is =
    let some = c.in-Some.ensures.some in
    elim c.if-back-units.branch [
      | then-back-units w ↦
          let falling : w.are_falling.result ≡ true = sym w.value-is ∙ c.if-are_falling.true in
          let back = w.if-back-units.true in
          record {
            back_within = omega (arith, back, some.0);
            few_units = omega (arith, some.0, some.1);
            falling = w.are_falling.ensures.yes falling;
            slight = c.are_slight.ensures.yes is;
          }
      | else-back-units w ↦
          let back = leb-true c.args.back c.in-Some.units (sym w.value-is ∙ c.if-are_falling.true) in
          absurd (omega (arith, back, w.if-back-units.false))
    ]
