-- What shows the clauses of `Laminar::toggled_worth` of `src/row.rt`.
use Rattle.std.proofs.Common.{rules, sym, ap, ◌∙◌, ◌≡◌, Some, None, ◌+ℤ◌}
use Rattle.std.proofs.lemmas.Int.{to_z-of_z}
use mir.Syntax.{w128}
use mir.Val.{SFits}
use Rattle.tn_base.specs.Sets.{toggle}
use Rattle.tn_base.proofs.SetLemmas.{toggle_within}
use Rattle.tn_laminar.specs.Rows.{listed_sum}
use Rattle.tn_laminar.proofs.RowLemmas.{IsSum, sum_with, worth_none}
use Rattle.tn_laminar.proofs.laminar.Laminar.toggled_worth.Goals.{After-toggled_amount}
use Rattle.tn_laminar.proofs.laminar.Laminar.toggled_worth.Goals as goal

pub returns-in_err-numbers : goal.returns-in_err-numbers
returns-in_err-numbers c =
    let fit : SFits w128 c.args.numbers = search rules in
    let none : c.listed_sum.result ≡ None = search rules in
    let is : c.listed_sum.result ≡ listed_sum c.args.numbers = simp to_z-of_z at c.listed_sum.ensures in
    let gives : c.from_residual.result ≡ None = search rules in
    let own = toggle_within c.args.x c.args.k c.args.self.now.trades c.requires.own c.requires.position in
    gives ∙ worth_none c.args.self.now.trades c.args.self.now.buys c.args.self.now.amounts.items
    c.args.self.now.sets.items (toggle c.args.x c.args.k) own
    c.args.self.now.laminar.numbered c.args.self.now.laminar.few_sets (ap listed_sum (sym c.requires.numbers) ∙ sym is
    ∙ none)

-- the sum of the numbers that was found, and what it makes with the amounts
found : (c : After-toggled_amount) → IsSum c.args.self.now.trades c.args.self.now.buys c.args.self.now.amounts.items
    c.args.self.now.sets.items (toggle c.args.x c.args.k) c.toggled_amount.result c.in_ok-numbers.numbers
found c =
    let laminar = c.args.self.now in
    let fit : SFits w128 c.args.numbers = search rules in
    let some : c.listed_sum.result ≡ Some c.in_ok-numbers.numbers = search rules in
    let is : c.listed_sum.result ≡ listed_sum c.args.numbers = simp to_z-of_z at c.listed_sum.ensures in
    let own = toggle_within c.args.x c.args.k laminar.trades c.requires.own c.requires.position in
    sum_with laminar.trades laminar.buys laminar.amounts.items laminar.sets.items (toggle c.args.x c.args.k)
    c.toggled_amount.result c.in_ok-numbers.numbers own laminar.laminar.numbered laminar.laminar.few_sets
    (ap listed_sum (sym c.requires.numbers) ∙ sym is ∙ some) c.toggled_amount.ensures.sum
    c.toggled_amount.ensures.small

pub overflow_add-result : goal.overflow_add-result
overflow_add-result c =
    let sum = found (goal.at.overflow_add-result c).After-toggled_amount in
    let first : SFits w128 c.toggled_amount.result = search rules in
    let second : SFits w128 c.in_ok-numbers.numbers = sum.number_fits in
    simp to_z-of_z sum.fits

pub returns : goal.returns
returns c =
    let sum = found (goal.at.returns c).After-toggled_amount in
    let first : SFits w128 c.toggled_amount.result = search rules in
    let second : SFits w128 c.in_ok-numbers.numbers = sum.number_fits in
    let both : SFits w128 (c.toggled_amount.result +ℤ c.in_ok-numbers.numbers) = sum.fits in
    simp to_z-of_z sum.worth
