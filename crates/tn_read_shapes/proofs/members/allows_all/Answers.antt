-- What shows the clauses of `allows_all` of `src/members.rt`.
use Rattle.std.proofs.Common.{◌∙◌}
use Rattle.tn_read_shapes.proofs.ShapeLemmas.{all_keys}
use Rattle.tn_read_shapes.proofs.members.allows_all.Goals as goal

pub returns : goal.returns
returns c = c.allows_keys.ensures ∙ all_keys c.args.kind c.args.members.now.entries
