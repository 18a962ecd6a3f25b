-- What shows the clauses of `three_of` of `src/shapes.rt`.
use Rattle.std.proofs.Common.{sym, arith}
use Rattle.tn_read_shapes.proofs.ShapeLemmas.{three_of-shorter, three_of-longer}
use Rattle.tn_read_shapes.proofs.shapes.three_of.Goals as goal

pub returns-in-len1 : goal.returns-in-len1
returns-in-len1 c = sym (three_of-shorter c.args.items.now (let below = c.in-len1.len_below in omega (arith, below)))

pub returns-in-len2 : goal.returns-in-len2
returns-in-len2 c = sym (three_of-shorter c.args.items.now c.in-len2.len_below)

pub returns-in-len4-up : goal.returns-in-len4-up
returns-in-len4-up c = sym (three_of-longer c.args.items.now c.in-len4-up.len_at_least)
