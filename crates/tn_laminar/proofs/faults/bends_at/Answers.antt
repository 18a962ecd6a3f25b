-- What shows the clauses of `bends_at` of `src/faults.rt`.
use Rattle.std.proofs.Common.{rules, ◌+◌, ◌<◌, length}
use Rattle.std.proofs.lemmas.Int.{to_z-of_z}
use mir.Syntax.{w128}
use mir.Val.{SFits}
use Rattle.tn_laminar.proofs.FaultLemmas.{bend_from}
use Rattle.tn_laminar.proofs.faults.bends_at.Goals as goal

pub returns-then-place-len : goal.returns-then-place-len
returns-then-place-len c =
    let before : SFits w128 c.at.result = search rules in
    let here : SFits w128 c.at-then-place-len.result = search rules in
    let after : SFits w128 c.at-then-place-len-2.result = search rules in
    let inside : c.args.place + 1 < length c.args.numbers.now = search rules in
    let tested = simp to_z-of_z at c.bends.ensures in
    let bend = bend_from c.args.numbers.now c.args.place c.at.result c.at-then-place-len.result
    c.at-then-place-len-2.result
    c.requires.after_first inside c.at.ensures c.at-then-place-len.ensures c.at-then-place-len-2.ensures in
    ((λ h. bend.0 (tested.0 h)), (λ h. tested.1 (bend.1 h)))
