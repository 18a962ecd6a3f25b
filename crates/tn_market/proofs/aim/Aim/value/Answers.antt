-- What shows the clauses of `Aim::value` of `src/aim.rt`.
use Rattle.std.proofs.Common.{sym, ◌∙◌, ◌≡◌}
use Rattle.tn_base.specs.Sets.{minus}
use Rattle.tn_market.proofs.AscentLemmas.{allowed_within, emptied}
use Rattle.tn_market.proofs.aim.Aim.value.Goals as goal

pub value-requires : goal.value-requires
value-requires g c =
    let inside : minus c.args.x c.args.self.now.allowed ≡ 0 =
    sym c.minus.ensures ∙ emptied c.minus.result c.empty.result c.ne.result c.ne.ensures c.if-ne.false c.empty.ensures
    in
    allowed_within c.args.x c.args.self.now.allowed _ c.args.self.now.fits.own inside

pub value_by-requires-clause-within : goal.value_by-requires-clause-within
value_by-requires-clause-within g c =
    sym c.minus.ensures ∙ emptied c.minus.result c.empty.result c.ne.result c.ne.ensures c.if-ne.false c.empty.ensures
