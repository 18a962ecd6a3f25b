-- What shows the clauses of `DealerValuation::row` of `src/as_valuation.rt`.
use Rattle.std.proofs.Common.{sym, subst, ◌∙◌, arith, ℕ, ℤ, ◌+◌, ◌<◌, ◌^◌, ◌≡◌, length, List, Option}
use Rattle.tn_market.proofs.RowLemmas.{IsRowBelow, row_none, row_more, row_same, row_all}
use Rattle.tn_dealer.specs.Firms.{firm_of}
use Rattle.tn_dealer.proofs.as_valuation.DealerValuation.row.Goals as goal
use Rattle.tn_dealer.proofs.as_valuation.DealerValuation.row.Goals.{then-has, else-has}

pub loop-k-init : goal.loop-k-init
loop-k-init c = row_none _ _ _ _ _

pub loop-k-preserved : goal.loop-k-preserved
loop-k-preserved c = elim c.if-has.branch [
  | then-has w ↦
      let worth_of = (firm_of c.args.self.now).worth in
      let inside : c.loop-k.k < length c.loop-k.worths =
      (let room = c.requires.room in
      let below = c.loop-k-test.true in
      let long = c.loop-k.auto.worths in
      omega (arith, room, below, long)) in
      subst (λ (steps : ℕ). IsRowBelow worth_of c.args.x c.args.wanted c.args.steps.now (c.loop-k.k + 1) c.if-has.worths
      steps) (sym w.steps-is)
      (subst (λ (worths : List (Option ℤ)). IsRowBelow worth_of c.args.x c.args.wanted c.args.steps.now (c.loop-k.k + 1)
      worths w.tick.new.self) (sym w.worths-is)
      (row_more worth_of c.args.x c.args.wanted c.args.steps.now c.loop-k.k c.loop-k.worths c.loop-k.steps
      c.loop-k.invariant (sym c.has.ensures ∙ w.if-has.true) inside
      w.toggled_worth.result w.toggled_worth.ensures w.tick.new.self w.tick.ensures))
  | else-has w ↦
      let worth_of = (firm_of c.args.self.now).worth in
      subst (λ (steps : ℕ). IsRowBelow worth_of c.args.x c.args.wanted c.args.steps.now (c.loop-k.k + 1) c.if-has.worths
      steps) (sym w.steps-is)
      (subst (λ (worths : List (Option ℤ)). IsRowBelow worth_of c.args.x c.args.wanted c.args.steps.now (c.loop-k.k + 1)
      worths c.loop-k.steps) (sym w.worths-is)
      (row_same worth_of c.args.x c.args.wanted c.args.steps.now c.loop-k.k c.loop-k.worths c.loop-k.steps
      c.loop-k.invariant (sym c.has.ensures ∙ w.if-has.false)))
]

pub returns-clause-worths : goal.returns-clause-worths
returns-clause-worths c =
    let past = c.loop-k-test.false in
    let end : c.loop-k.k ≡ c.args.self.now.trades = omega (arith, past, c.loop-k.auto.k-end) in
    (row_all (firm_of c.args.self.now).worth c.args.x c.args.wanted c.args.steps.now c.loop-k.k c.loop-k.worths
    c.loop-k.steps c.loop-k.invariant
    (subst (λ (n : ℕ). c.args.wanted < 2 ^ n) (sym end) c.requires.own_wanted)).0

pub returns-clause-asked : goal.returns-clause-asked
returns-clause-asked c =
    let past = c.loop-k-test.false in
    let end : c.loop-k.k ≡ c.args.self.now.trades = omega (arith, past, c.loop-k.auto.k-end) in
    (row_all (firm_of c.args.self.now).worth c.args.x c.args.wanted c.args.steps.now c.loop-k.k c.loop-k.worths
    c.loop-k.steps c.loop-k.invariant
    (subst (λ (n : ℕ). c.args.wanted < 2 ^ n) (sym end) c.requires.own_wanted)).1
