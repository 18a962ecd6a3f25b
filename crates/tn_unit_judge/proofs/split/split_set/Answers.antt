-- What shows the clauses of `split_set` of `src/split.rt`.
use Rattle.std.proofs.Common.{sym, subst}
use Rattle.tn_links.specs.Links.{AddAtMost}
use Rattle.tn_counts.specs.Widths.{most_unit_amount}
use Rattle.tn_unit_judge.proofs.split.split_set.Goals as goal

pub times_steps-requires-clause-small : goal.times_steps-requires-clause-small
times_steps-requires-clause-small c = subst (AddAtMost most_unit_amount) (sym c.deref.ensures.value) c.requires.set.1.small
