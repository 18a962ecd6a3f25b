-- What shows the clauses of `parts_in` of `src/edits.rt`.
use Rattle.std.proofs.Common.{sym, arith}
use Rattle.tn_read_unit_parts.proofs.EditLemmas.{parts_in-shorter, parts_in-longer}
use Rattle.tn_read_unit_parts.proofs.edits.parts_in.Goals as goal

pub returns-in-len1 : goal.returns-in-len1
returns-in-len1 c = sym (parts_in-shorter c.args.items.now (let below = c.in-len1.len_below in omega (arith, below)))

pub returns-in-len4-up : goal.returns-in-len4-up
returns-in-len4-up c = sym (parts_in-longer c.args.items.now c.in-len4-up.len_at_least)
