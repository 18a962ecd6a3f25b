-- What shows the clauses of `Outside::row` of `src/party.rt`.
use Rattle.std.proofs.Common.{ℕ, ◌+◌, ◌<◌, ◌^◌, ◌≡◌, List, length, Option, ℤ, subst, arith, ◌∙◌, ap, sym}
use Rattle.tn_base.proofs.SetLemmas.{toggle_within}
use Rattle.tn_market.specs.Outside.{outside}
use Rattle.tn_market.proofs.RowLemmas.{IsRowBelow, row_none, row_more, row_same, row_all}
use Rattle.tn_market.proofs.party.Outside.row.Goals.{then-has, else-has}
use Rattle.tn_market.proofs.party.Outside.row.Goals as goal

pub loop-k-init : goal.loop-k-init
loop-k-init g c = row_none _ _ _ _ _

pub worth-requires : goal.worth-requires
worth-requires g c =
    let below = c.loop-k-test.true in
    subst (λ (y : ℕ). y < 4) (sym c.toggle.ensures) (toggle_within c.args.x c.loop-k.k 2 c.requires.own
    (omega (arith, below)))

pub loop-k-preserved : goal.loop-k-preserved
loop-k-preserved g c =
    let worth_of = (outside c.args.self.now.price).worth in
    elim c.if-has.branch [
      | then-has w ↦
          let inside : c.loop-k.k < length c.loop-k.worths =
          (let room = c.requires.room in
          let below = c.loop-k-test.true in
          let long = c.loop-k.auto.worths in
          omega (arith, room, below, long)) in
          subst (λ (steps : ℕ). IsRowBelow worth_of c.args.x c.args.wanted c.args.steps.now (c.loop-k.k + 1)
          c.if-has.worths steps) (sym w.steps-is)
          (subst (λ (worths : List (Option ℤ)). IsRowBelow worth_of c.args.x c.args.wanted c.args.steps.now (c.loop-k.k
          + 1) worths w.tick.new.self) (sym w.worths-is)
          (row_more worth_of c.args.x c.args.wanted c.args.steps.now c.loop-k.k c.loop-k.worths c.loop-k.steps
          c.loop-k.invariant (sym c.has.ensures ∙ w.if-has.true) inside
          w.worth.result (w.worth.ensures ∙ ap worth_of w.toggle.ensures) w.tick.new.self w.tick.ensures))
      | else-has w ↦
          subst (λ (steps : ℕ). IsRowBelow worth_of c.args.x c.args.wanted c.args.steps.now (c.loop-k.k + 1)
          c.if-has.worths steps) (sym w.steps-is)
          (subst (λ (worths : List (Option ℤ)). IsRowBelow worth_of c.args.x c.args.wanted c.args.steps.now (c.loop-k.k
          + 1) worths c.loop-k.steps) (sym w.worths-is)
          (row_same worth_of c.args.x c.args.wanted c.args.steps.now c.loop-k.k c.loop-k.worths c.loop-k.steps
          c.loop-k.invariant (sym c.has.ensures ∙ w.if-has.false)))
    ]

pub returns-clause-worths : goal.returns-clause-worths
returns-clause-worths g c =
    let past = c.loop-k-test.false in
    let end : c.loop-k.k ≡ 2 = omega (arith, past, c.loop-k.auto.k-end) in
    (row_all (outside c.args.self.now.price).worth c.args.x c.args.wanted c.args.steps.now c.loop-k.k c.loop-k.worths
    c.loop-k.steps c.loop-k.invariant
    (subst (λ (n : ℕ). c.args.wanted < 2 ^ n) (sym end) c.requires.own_wanted)).0

pub returns-clause-asked : goal.returns-clause-asked
returns-clause-asked g c =
    let past = c.loop-k-test.false in
    let end : c.loop-k.k ≡ 2 = omega (arith, past, c.loop-k.auto.k-end) in
    (row_all (outside c.args.self.now.price).worth c.args.x c.args.wanted c.args.steps.now c.loop-k.k c.loop-k.worths
    c.loop-k.steps c.loop-k.invariant
    (subst (λ (n : ℕ). c.args.wanted < 2 ^ n) (sym end) c.requires.own_wanted)).1
