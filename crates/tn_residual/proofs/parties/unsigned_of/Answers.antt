-- What shows the clauses of `unsigned_of` of `src/parties.rt`.
use Rattle.std.proofs.Common.{ap, ◌∙◌, sym, if◌then◌else◌, Bool}
use Rattle.tn_base.specs.Sets.{toggle, set_of}
use Rattle.tn_residual.proofs.MakingLemmas.{priced_or_not, unsigned_next}
use Rattle.tn_residual.proofs.parties.unsigned_of.Goals.{then-is_none, else-is_none}
use Rattle.tn_residual.proofs.parties.unsigned_of.Goals as goal

pub loop-k-init : goal.loop-k-init
unfolding set_of
loop-k-init g c = c.empty-unsigned.ensures

pub loop-k-preserved : goal.loop-k-preserved
loop-k-preserved g c =
    let test = priced_or_not c.args.outcome.now.contracts c.own.result c.contract_price.result c.is_none.result
    c.contract_price.ensures c.is_none.ensures in
    unsigned_next c.args.market.now.trades c.args.outcome.now.contracts c.args.f c.loop-k.k c.own.result
    c.loop-k.unsigned c.if-is_none.unsigned c.is_none.result c.loop-k.invariant
    c.own.ensures.trade c.own.ensures.inside test (elim c.if-is_none.branch [
      | then-is_none w ↦ w.unsigned-is ∙ w.toggle-unsigned.ensures
          ∙ sym (ap (λ (b : Bool). if b then toggle c.loop-k.unsigned c.loop-k.k
          else c.loop-k.unsigned) w.if-is_none.true)
      | else-is_none w ↦
          w.unsigned-is ∙ sym (ap (λ (b : Bool). if b then toggle c.loop-k.unsigned c.loop-k.k
          else c.loop-k.unsigned) w.if-is_none.false)
    ])
