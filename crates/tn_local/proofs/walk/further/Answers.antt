-- What shows the clauses of `further` of `src/walk.rt`.
use Rattle.std.proofs.Common.{◌≡◌, ℕ, suc, ◌+◌, sym, ◌∙◌, subst, arith, true, false}
use Rattle.tn_firm_laws.specs.Places.{trade_level}
use Rattle.tn_local.specs.Walk.{IsReached}
use Rattle.tn_local.proofs.WalkLemmas.{known_up_some, known_up_none, known_down_some, known_down_none, level_if}
use Rattle.tn_local.proofs.walk.further.Goals as goal

pub returns-in-Some-clause-toggled : goal.returns-in-Some-clause-toggled
returns-in-Some-clause-toggled c =
    let e : c.args.k + 1 ≡ suc c.args.k = omega arith in
    known_up_some c.args.null c.args.buys c.args.x c.args.y c.args.k c.args.sides c.in-Some.up c.requires.position
    c.requires.own
    (level_if (trade_level c.args.buys c.args.x c.args.k) c.is_high.result true c.is_high.ensures c.if-is_high.true)
    (subst (λ (m : ℕ). IsReached c.args.null c.args.buys c.args.x c.args.y m c.args.sides) e c.requires.reached)
    (sym c.one_more.ensures ∙ c.in-Some.is)

pub returns-in-None-clause-toggled : goal.returns-in-None-clause-toggled
returns-in-None-clause-toggled c =
    let e : c.args.k + 1 ≡ suc c.args.k = omega arith in
    known_up_none c.args.null c.args.buys c.args.x c.args.y c.args.k c.args.sides c.requires.position c.requires.own
    (level_if (trade_level c.args.buys c.args.x c.args.k) c.is_high.result true c.is_high.ensures c.if-is_high.true)
    (subst (λ (m : ℕ). IsReached c.args.null c.args.buys c.args.x c.args.y m c.args.sides) e c.requires.reached)
    (sym c.one_more.ensures ∙ c.in-None.is)

pub returns-in-Some-one_more-clause-toggled : goal.returns-in-Some-one_more-clause-toggled
returns-in-Some-one_more-clause-toggled c =
    let e : c.args.k + 1 ≡ suc c.args.k = omega arith in
    known_down_some c.args.null c.args.buys c.args.x c.args.y c.args.k c.args.sides c.in-Some-one_more.down
    c.requires.position c.requires.own
    (level_if (trade_level c.args.buys c.args.x c.args.k) c.is_high.result false c.is_high.ensures c.if-is_high.false)
    (subst (λ (m : ℕ). IsReached c.args.null c.args.buys c.args.x c.args.y m c.args.sides) e c.requires.reached)
    (sym c.one_more-else-is_high.ensures ∙ c.in-Some-one_more.is)

pub returns-in-None-one_more-clause-toggled : goal.returns-in-None-one_more-clause-toggled
returns-in-None-one_more-clause-toggled c =
    let e : c.args.k + 1 ≡ suc c.args.k = omega arith in
    known_down_none c.args.null c.args.buys c.args.x c.args.y c.args.k c.args.sides c.requires.position c.requires.own
    (level_if (trade_level c.args.buys c.args.x c.args.k) c.is_high.result false c.is_high.ensures c.if-is_high.false)
    (subst (λ (m : ℕ). IsReached c.args.null c.args.buys c.args.x c.args.y m c.args.sides) e c.requires.reached)
    (sym c.one_more-else-is_high.ensures ∙ c.in-None-one_more.is)
