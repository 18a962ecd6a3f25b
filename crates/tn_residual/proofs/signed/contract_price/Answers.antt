-- What shows the clauses of `contract_price` of `src/signed.rt`.
use Rattle.std.proofs.Common.{rules, ◌≡◌, arith, sym, subst, length}
use Rattle.std.proofs.lemmas.Int.{to_z-of_z}
use mir.Syntax.{w128}
use mir.Val.{SFits}
use Rattle.tn_residual.proofs.HeldLemmas.{NoneOn, price_found, price_none}
use Rattle.tn_residual.proofs.signed.contract_price.Goals as goal

pub returns-then-contract-t : goal.returns-then-contract-t
returns-then-contract-t c =
    let fits : SFits w128 c.at-contract.result.price = search rules in
    simp to_z-of_z
    (sym (price_found c.args.contracts.now c.args.t c.loop-k.k c.at-contract.result c.loop-k.invariant
    c.at-contract.ensures
    (search rules)))

pub returns : goal.returns
returns c =
    let done : c.loop-k.k ≡ length c.args.contracts.now =
    omega (arith, c.loop-k-test.false, c.loop-k.auto.k-end, c.len-k-end.ensures) in
    sym (price_none c.args.contracts.now c.args.t (subst (NoneOn c.args.contracts.now c.args.t) done
    c.loop-k.invariant))
