-- What shows the clauses of `Bundle::count` of `src/bundle.rt`.
use Rattle.std.proofs.Common.{sym, ap, ◌∙◌}
use Rattle.std.proofs.lemmas.Nat.{ones-le}
use Rattle.tn_base.specs.Sets.{size}
use Rattle.tn_base.proofs.SizeLemmas.{ones_is, size_at}
use Rattle.tn_base.proofs.bundle.Bundle.count.Goals as goal

pub returns : goal.returns
returns c =
    let fits = c.self.invariant in
    record {
      members = ones_is 64 c.self.inside.0 fits ∙ sym (size_at 64 c.self.inside.0 fits) ∙ ap size c.self.view_is;
      few = ones-le 64 c.self.inside.0 fits;
    }
