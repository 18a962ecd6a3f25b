-- What shows the clauses of `first_signed` of `src/blocking.rt`.
use Rattle.std.proofs.Common.{◌≡◌, ◌∙◌, ◌+◌, sym, ap, subst, arith, length, ℕ, ℤ, Some}
use Rattle.std.proofs.lemmas.Int.{to_z-of_z}
use mir.Syntax.{w128}
use mir.Val.{to_z, of_z}
use Rattle.tn_cert.proofs.BlockingLemmas.{DecidesOffer, FindsContract, decides_offer, contract_more, contract_same, finds_signed}
use Rattle.tn_cert.proofs.blocking.first_signed.Goals.{then-is_contract, else-is_contract}
use Rattle.tn_cert.proofs.blocking.first_signed.Goals as goal

pub loop-k-preserved : goal.loop-k-preserved
loop-k-preserved c =
    let over = to_z w128 (of_z w128 c.args.over) in
    let decides =
    decides_offer c.args.outcome.now over c.args.offers.now c.loop-k.k c.at.result c.is_contract.result c.at.ensures
    c.is_contract.ensures in
    elim c.if-is_contract.branch [
      | then-is_contract w ↦
          subst (FindsContract c.args.outcome.now over c.args.offers.now (c.loop-k.k + 1))
          (sym (w.first-is ∙ ap (λ (t : ℕ). Some t) w.earlier.ensures))
          (contract_more c.args.outcome.now over c.args.offers.now c.loop-k.k c.loop-k.first
          w.at-then-is_contract.result c.loop-k.invariant w.at-then-is_contract.ensures
          (subst (DecidesOffer c.args.outcome.now over c.args.offers.now c.loop-k.k) w.if-is_contract.true decides))
      | else-is_contract w ↦
          subst (FindsContract c.args.outcome.now over c.args.offers.now (c.loop-k.k + 1)) (sym w.first-is)
          (contract_same c.args.outcome.now over c.args.offers.now c.loop-k.k c.loop-k.first c.loop-k.invariant
          (subst (DecidesOffer c.args.outcome.now over c.args.offers.now c.loop-k.k) w.if-is_contract.false decides))
    ]

pub returns : goal.returns
returns c =
    let done : c.loop-k.k ≡ length c.args.offers.now = omega (
      arith,
      c.loop-k-test.false,
      c.loop-k.auto.k-end,
      c.len-k-end.ensures,
    ) in
    finds_signed c.args.outcome.now c.args.over c.args.offers.now c.loop-k.k c.loop-k.first done
    (subst (λ (e : ℤ). FindsContract c.args.outcome.now e c.args.offers.now c.loop-k.k c.loop-k.first)
    (to_z-of_z w128 c.args.over c.ranges.over) c.loop-k.invariant)
