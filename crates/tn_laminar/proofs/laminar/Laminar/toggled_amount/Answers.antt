-- What shows the clauses of `Laminar::toggled_amount` of `src/row.rt`.
use Rattle.std.proofs.Common.{rules, sym, ◌∙◌, ◌+ℤ◌, ◌-ℤ◌}
use Rattle.std.proofs.lemmas.Int.{to_z-of_z}
use mir.Syntax.{w128}
use mir.Val.{SFits}
use Rattle.tn_laminar.proofs.RowLemmas.{amount_out, amount_in}
use Rattle.tn_laminar.proofs.laminar.Laminar.toggled_amount.Goals as goal

pub overflow_sub-result : goal.overflow_sub-result
overflow_sub-result c =
    let laminar = c.args.self.now in
    let toggled = amount_out laminar.trades laminar.buys laminar.amounts.items laminar.sets.items laminar.masks.items
    laminar.laminar c.args.x c.args.k c.args.amount c.index-own.result.now c.requires.position c.requires.amount
    c.index-own.ensures (sym c.has.ensures ∙ c.if-has.true) in
    let first : SFits w128 c.args.amount = search rules in
    let second : SFits w128 c.index-own.result.now = search rules in
    simp to_z-of_z toggled.fits

pub overflow_add-result : goal.overflow_add-result
overflow_add-result c =
    let laminar = c.args.self.now in
    let toggled = amount_in laminar.trades laminar.buys laminar.amounts.items laminar.sets.items laminar.masks.items
    laminar.laminar c.args.x c.args.k c.args.amount c.index-own.result.now c.requires.position c.requires.amount
    c.index-own.ensures (sym c.has.ensures ∙ c.if-has.false) in
    let first : SFits w128 c.args.amount = search rules in
    let second : SFits w128 c.index-own.result.now = search rules in
    simp to_z-of_z toggled.fits

pub returns-then-has : goal.returns-then-has
returns-then-has c =
    let laminar = c.args.self.now in
    let toggled = amount_out laminar.trades laminar.buys laminar.amounts.items laminar.sets.items laminar.masks.items
    laminar.laminar c.args.x c.args.k c.args.amount c.index-own.result.now c.requires.position c.requires.amount
    c.index-own.ensures (sym c.has.ensures ∙ c.if-has.true) in
    let first : SFits w128 c.args.amount = search rules in
    let second : SFits w128 c.index-own.result.now = search rules in
    let both : SFits w128 (c.args.amount -ℤ c.index-own.result.now) = toggled.fits in
    simp to_z-of_z (record { sum = toggled.sum; small = toggled.small })

pub returns-else-has : goal.returns-else-has
returns-else-has c =
    let laminar = c.args.self.now in
    let toggled = amount_in laminar.trades laminar.buys laminar.amounts.items laminar.sets.items laminar.masks.items
    laminar.laminar c.args.x c.args.k c.args.amount c.index-own.result.now c.requires.position c.requires.amount
    c.index-own.ensures (sym c.has.ensures ∙ c.if-has.false) in
    let first : SFits w128 c.args.amount = search rules in
    let second : SFits w128 c.index-own.result.now = search rules in
    let both : SFits w128 (c.args.amount +ℤ c.index-own.result.now) = toggled.fits in
    simp to_z-of_z (record { sum = toggled.sum; small = toggled.small })
