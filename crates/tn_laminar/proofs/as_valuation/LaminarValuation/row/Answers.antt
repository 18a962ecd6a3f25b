-- What shows the clauses of `LaminarValuation::row` of `src/as_valuation.rt`.
use Rattle.std.proofs.Common.{rules, sym, subst, ◌∙◌, arith, ℕ, ℤ, pos, ◌+ℤ◌, ◌+◌, ◌<◌, ◌^◌, ◌≡◌, get_or, length, List, Option}
use Rattle.std.proofs.lemmas.Int.{to_z-of_z, ints}
use mir.Syntax.{w128}
use mir.Val.{SFits}
use Rattle.tn_market.proofs.RowLemmas.{IsRowBelow, row_none, row_more, row_same, row_all}
use Rattle.tn_base.specs.Sets.{toggle}
use Rattle.tn_laminar.specs.Firms.{firm_of}
use Rattle.tn_laminar.specs.Rows.{counted_sum}
use Rattle.tn_laminar.proofs.RowLemmas.{toggled_numbers}
use Rattle.tn_laminar.proofs.as_valuation.LaminarValuation.row.Goals as goal
use Rattle.tn_laminar.proofs.as_valuation.LaminarValuation.row.Goals.{then-has, else-has}

pub loop-k-init : goal.loop-k-init
loop-k-init c = row_none _ _ _ _ _

pub overflow_add-numbers : goal.overflow_add-numbers
overflow_add-numbers c =
    let is = c.args.self.now.laminar in
    let toggled =
    toggled_numbers c.args.self.now.buys c.args.self.now.sets.items c.args.x c.loop-k.k
    c.counted_numbers-numbers.result (get_or c.changes-changes.result c.loop-k.k (pos 0))
    is.numbered is.few_sets c.counted_numbers-numbers.ensures.sum
    (c.changes-changes.ensures c.loop-k.k (sym c.has.ensures ∙ c.if-has.true)) in
    let small = c.counted_numbers-numbers.ensures.small in
    let step = toggled.1 in
    let first : SFits w128 c.counted_numbers-numbers.result = search rules in
    let second : SFits w128 (get_or c.changes-changes.result c.loop-k.k (pos 0)) =
    omega (arith, ints, step.low, step.high) in
    let both : SFits w128 (c.counted_numbers-numbers.result +ℤ get_or c.changes-changes.result c.loop-k.k (pos 0)) =
    omega (arith, ints, small.low, small.high, step.low, step.high) in
    simp to_z-of_z both

pub toggled_worth-requires-clause-numbers : goal.toggled_worth-requires-clause-numbers
toggled_worth-requires-clause-numbers c =
    let is = c.args.self.now.laminar in
    let toggled =
    toggled_numbers c.args.self.now.buys c.args.self.now.sets.items c.args.x c.loop-k.k
    c.counted_numbers-numbers.result (get_or c.changes-changes.result c.loop-k.k (pos 0))
    is.numbered is.few_sets c.counted_numbers-numbers.ensures.sum
    (c.changes-changes.ensures c.loop-k.k (sym c.has.ensures ∙ c.if-has.true)) in
    let small = c.counted_numbers-numbers.ensures.small in
    let step = toggled.1 in
    let first : SFits w128 c.counted_numbers-numbers.result = search rules in
    let second : SFits w128 (get_or c.changes-changes.result c.loop-k.k (pos 0)) =
    omega (arith, ints, step.low, step.high) in
    let both : SFits w128 (c.counted_numbers-numbers.result +ℤ get_or c.changes-changes.result c.loop-k.k (pos 0)) =
    omega (arith, ints, small.low, small.high, step.low, step.high) in
    let is : c.counted_numbers-numbers.result +ℤ get_or c.changes-changes.result c.loop-k.k (pos 0)
    ≡ counted_sum c.args.self.now.buys c.args.self.now.sets.items (length c.args.self.now.sets.items)
    (toggle c.args.x c.loop-k.k) = toggled.0 in
    simp to_z-of_z is

pub loop-k-preserved : goal.loop-k-preserved
loop-k-preserved c = elim c.if-has.branch [
  | then-has w ↦
      let worth_of = (firm_of c.args.self.now).worth in
      let inside : c.loop-k.k < length c.loop-k.worths =
      (let room = c.requires.room in
      let below = c.loop-k-test.true in
      let long = c.loop-k.auto.worths in
      omega (arith, room, below, long)) in
      subst (λ (steps : ℕ). IsRowBelow worth_of c.args.x c.args.wanted c.args.steps.now (c.loop-k.k + 1) c.if-has.worths
      steps) (sym w.steps-is)
      (subst (λ (worths : List (Option ℤ)). IsRowBelow worth_of c.args.x c.args.wanted c.args.steps.now (c.loop-k.k + 1)
      worths w.tick.new.self) (sym w.worths-is)
      (row_more worth_of c.args.x c.args.wanted c.args.steps.now c.loop-k.k c.loop-k.worths c.loop-k.steps
      c.loop-k.invariant (sym c.has.ensures ∙ w.if-has.true) inside
      w.toggled_worth.result w.toggled_worth.ensures w.tick.new.self w.tick.ensures))
  | else-has w ↦
      let worth_of = (firm_of c.args.self.now).worth in
      subst (λ (steps : ℕ). IsRowBelow worth_of c.args.x c.args.wanted c.args.steps.now (c.loop-k.k + 1) c.if-has.worths
      steps) (sym w.steps-is)
      (subst (λ (worths : List (Option ℤ)). IsRowBelow worth_of c.args.x c.args.wanted c.args.steps.now (c.loop-k.k + 1)
      worths c.loop-k.steps) (sym w.worths-is)
      (row_same worth_of c.args.x c.args.wanted c.args.steps.now c.loop-k.k c.loop-k.worths c.loop-k.steps
      c.loop-k.invariant (sym c.has.ensures ∙ w.if-has.false)))
]

pub returns-clause-worths : goal.returns-clause-worths
returns-clause-worths c =
    let past = c.loop-k-test.false in
    let end : c.loop-k.k ≡ c.args.self.now.trades = omega (arith, past, c.loop-k.auto.k-end) in
    (row_all (firm_of c.args.self.now).worth c.args.x c.args.wanted c.args.steps.now c.loop-k.k c.loop-k.worths
    c.loop-k.steps c.loop-k.invariant
    (subst (λ (n : ℕ). c.args.wanted < 2 ^ n) (sym end) c.requires.own_wanted)).0

pub returns-clause-asked : goal.returns-clause-asked
returns-clause-asked c =
    let past = c.loop-k-test.false in
    let end : c.loop-k.k ≡ c.args.self.now.trades = omega (arith, past, c.loop-k.auto.k-end) in
    (row_all (firm_of c.args.self.now).worth c.args.x c.args.wanted c.args.steps.now c.loop-k.k c.loop-k.worths
    c.loop-k.steps c.loop-k.invariant
    (subst (λ (n : ℕ). c.args.wanted < 2 ^ n) (sym end) c.requires.own_wanted)).1
