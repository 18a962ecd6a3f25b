-- What shows the clauses of `unsigned_trades` of `src/numbers.rt`.
use Rattle.std.proofs.Common.{◌≡◌, ◌∙◌, ℕ, ap, arith}
use Rattle.tn_base.specs.Sets.{set_of}
use Rattle.tn_residual.specs.Residual.{unsigned}
use Rattle.tn_residual.proofs.MakingLemmas.{priced_or_not}
use Rattle.tn_chain.proofs.NumberLemmas.{unsigned_more}
use Rattle.tn_chain.proofs.numbers.unsigned_trades.Goals as goal

pub loop-t-init : goal.loop-t-init
unfolding set_of
loop-t-init c = c.empty-unsigned.ensures

pub loop-t-preserved : goal.loop-t-preserved
loop-t-preserved c =
    unsigned_more c.args.contracts.now c.loop-t.t c.loop-t.unsigned c.toggle_if.new.set c.is_none.result
    c.loop-t.invariant
    (priced_or_not c.args.contracts.now c.loop-t.t c.contract_price.result c.is_none.result c.contract_price.ensures
    c.is_none.ensures) c.toggle_if.ensures

pub returns : goal.returns
returns c =
    let test = c.loop-t-test.false in
    let end = c.loop-t.auto.t-end in
    let done : c.loop-t.t ≡ c.args.count = omega (arith, test, end) in
    c.loop-t.invariant ∙ ap (λ (n : ℕ). unsigned n c.args.contracts.now) done
