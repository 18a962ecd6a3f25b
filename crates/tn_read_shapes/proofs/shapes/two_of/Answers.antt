-- What shows the clauses of `two_of` of `src/shapes.rt`.
use Rattle.std.proofs.Common.{sym}
use Rattle.tn_read_shapes.proofs.ShapeLemmas.{two_of-shorter, two_of-longer}
use Rattle.tn_read_shapes.proofs.shapes.two_of.Goals as goal

pub returns-in-len1 : goal.returns-in-len1
returns-in-len1 c = sym (two_of-shorter c.args.items.now c.in-len1.len_below)

pub returns-in-len3-up : goal.returns-in-len3-up
returns-in-len3-up c = sym (two_of-longer c.args.items.now c.in-len3-up.len_at_least)
