-- What shows the clauses of `+test_close` of `src/walk.rt`.
use Rattle.std.proofs.Common.{ℕ, ◌<◌, sym, ◌∙◌, subst, length, arith}
use Rattle.tn_exchange.specs.Rows.{firm_of_table}
use Rattle.tn_exchange.proofs.RowLemmas.{own_bundles}
use Rattle.tn_local.specs.Walk.{IsKnown, IsReached, NoneIsClose}
use Rattle.tn_local.proofs.FullLemmas.{full_verdict}
use Rattle.tn_local.proofs.VerdictLemmas.{with_holds, with_fails, without_holds, without_fails, none_close}
use Rattle.tn_local.proofs.walk.+test_close.Goals as goal

pub returns-then-sides-null-2 : goal.returns-then-sides-null-2
returns-then-sides-null-2 t c =
    let n = length c.args.table.now.sides in
    let reached : IsReached n c.args.buys c.args.x c.args.y c.args.k c.in-Some.sides =
    subst (IsKnown n c.args.buys c.args.x c.args.y c.args.k) c.in-Some.is c.requires.known in
    let up : c.in-Some.sides.up.second < n = omega (
      arith,
      reached.up.second.place,
      c.if-sides-null.true,
      c.trades-null.ensures.count,
    ) in
    let down : c.in-Some.sides.down.second < n = omega (
      arith,
      reached.down.second.place,
      c.if-sides-null-2.true,
      c.trades-null.ensures.count,
    ) in
    full_verdict (firm_of_table c.args.table.now) (own_bundles c.args.table.now) c.args.x c.args.y c.args.k
    c.in-Some.sides c.test_reached-then-sides-null-2.result c.requires.own
    (subst (λ (b : ℕ). IsReached n b c.args.x c.args.y c.args.k c.in-Some.sides) c.requires.bought reached) up down
    c.test_reached-then-sides-null-2.ensures

pub returns-in-Holds : goal.returns-in-Holds
returns-in-Holds t c =
    with_holds (firm_of_table c.args.table.now) c.args.buys c.args.x c.args.y c.toggle-toggled.result c.args.k
    c.in-Some.sides c.test_close-in-Holds.result c.test_close.result
    c.requires.position c.if-k-eq0.false
    (subst (IsKnown (length c.args.table.now.sides) c.args.buys c.args.x c.args.y c.args.k) c.in-Some.is
    c.requires.known)
    c.toggle-toggled.ensures (sym c.has.ensures ∙ c.if-has.true) c.in-Holds.is c.test_close.ensures
    c.test_close-in-Holds.ensures

pub returns-in_default : goal.returns-in_default
returns-in_default t c =
    with_fails (firm_of_table c.args.table.now) c.args.buys c.args.x c.args.y c.toggle-toggled.result c.args.k
    c.in-Some.sides c.test_close.result
    c.requires.position c.if-k-eq0.false
    (subst (IsKnown (length c.args.table.now.sides) c.args.buys c.args.x c.args.y c.args.k) c.in-Some.is
    c.requires.known)
    c.toggle-toggled.ensures (sym c.has.ensures ∙ c.if-has.true) c.in_default.not-Holds c.test_close.ensures

pub returns-in-Holds-test_close : goal.returns-in-Holds-test_close
returns-in-Holds-test_close t c =
    without_holds (firm_of_table c.args.table.now) c.args.buys c.args.x c.args.y c.toggle-toggled.result c.args.k
    c.in-Some.sides
    c.test_close-in-Holds-test_close.result c.test_close-else-has.result
    c.requires.position c.if-k-eq0.false
    (subst (IsKnown (length c.args.table.now.sides) c.args.buys c.args.x c.args.y c.args.k) c.in-Some.is
    c.requires.known)
    c.toggle-toggled.ensures (sym c.has.ensures ∙ c.if-has.false) c.in-Holds-test_close.is c.test_close-else-has.ensures
    c.test_close-in-Holds-test_close.ensures

pub returns-in_default-test_close : goal.returns-in_default-test_close
returns-in_default-test_close t c =
    without_fails (firm_of_table c.args.table.now) c.args.buys c.args.x c.args.y c.toggle-toggled.result c.args.k
    c.in-Some.sides c.test_close-else-has.result
    c.requires.position c.if-k-eq0.false
    (subst (IsKnown (length c.args.table.now.sides) c.args.buys c.args.x c.args.y c.args.k) c.in-Some.is
    c.requires.known)
    c.toggle-toggled.ensures (sym c.has.ensures ∙ c.if-has.false) c.in_default-test_close.not-Holds
    c.test_close-else-has.ensures

pub returns-in-None : goal.returns-in-None
returns-in-None t c =
    let none : NoneIsClose (length c.args.table.now.sides) c.args.buys c.args.x c.args.y c.args.k =
    subst (IsKnown (length c.args.table.now.sides) c.args.buys c.args.x c.args.y c.args.k) c.in-None.is c.requires.known
    in
    none_close (firm_of_table c.args.table.now) (own_bundles c.args.table.now) c.args.x c.args.y c.args.k
    (subst (λ (b : ℕ). NoneIsClose (length c.args.table.now.sides) b c.args.x c.args.y c.args.k) c.requires.bought none)
