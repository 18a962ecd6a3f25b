-- What shows the clauses of `costs_of` of `src/costs.rt`.
use Rattle.std.proofs.Common.{rules, sym, subst, ℕ, ℤ, ◌+◌, get_or, pos}
use Rattle.std.specs.Prelude.{set}
use Rattle.std.proofs.lemmas.Int.{to_z-of_z}
use Rattle.std.proofs.lemmas.Option.{slice_get-get_or}
use mir.Syntax.{w32}
use mir.Val.{SFits}
use Rattle.tn_dealer.specs.declared.pair.Pair.{Pair}
use Rattle.tn_dealer.specs.Costs.{AreCostsBelow}
use Rattle.tn_dealer.proofs.CostLemmas.{costs_none, costs_more, near_at}
use Rattle.tn_dealer.proofs.costs.costs_of.Goals as goal

pub loop-pair-init : goal.loop-pair-init
loop-pair-init c = costs_none c.args.pairs.now

pub loop-pair-preserved : goal.loop-pair-preserved
loop-pair-preserved c =
    let pairs = c.args.pairs.now in
    let k = c.loop-pair.pair-index in
    let pair : Pair = get_or pairs k (record { buy = 0; sell = 0; cost = pos 0 }) in
    let fit : SFits w32 c.cost_of.result = search rules in
    let is = slice_get-get_or pairs k (record { buy = 0; sell = 0; cost = pos 0 }) c.loop-pair-test.true in
    let more = costs_more pairs k pair c.loop-pair.costs c.requires.different is (near_at pairs c.requires.near)
    c.loop-pair.invariant in
    let placed =
    subst (λ (n : ℕ). AreCostsBelow pairs (k + 1) (set c.loop-pair.costs n pair.cost)) (sym c.place.ensures.place) more
    in
    let put = subst (λ (z : ℤ). AreCostsBelow pairs (k + 1) (set c.loop-pair.costs c.place.result z))
    (sym c.cost_of.ensures) placed in
    simp to_z-of_z put
