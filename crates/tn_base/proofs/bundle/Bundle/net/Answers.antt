-- What shows the clauses of `Bundle::net` of `src/bundle.rt`.
use Rattle.std.proofs.Common.{ap, ◌∙◌, arith}
use Rattle.std.proofs.lemmas.Int.{ints}
use Rattle.tn_base.specs.Sets.{size}
use Rattle.tn_base.specs.Firm.{net}
use Rattle.tn_base.proofs.bundle.Bundle.net.Goals as goal

pub returns : goal.returns
unfolding net
returns c =
    let within = c.count.ensures.members ∙ ap size c.meet.ensures in
    let outside = c.count-2.ensures.members ∙ ap size c.minus.ensures in
    omega (arith, ints, within, outside, c.count.ensures.few, c.count-2.ensures.few)
