-- What shows the clauses of `number_after` of `src/numbers.rt`.
use Rattle.std.proofs.Common.{arith}
use Rattle.tn_chain.proofs.NumberLemmas.{number_small}
use Rattle.tn_chain.proofs.numbers.number_after.Goals as goal

pub returns-then-is_none-clause-small : goal.returns-then-is_none-clause-small
returns-then-is_none-clause-small c =
    let small = number_small c.args.contracts.now c.args.t in
    let is = c.requires.before in
    let few = c.requires.few in
    omega (arith, small, is, few)
