-- What shows the clauses of `going` of `src/session.rt`.
use Rattle.std.proofs.Common.{List, [], ◌∷◌, ◌++◌, cond, sym, ap, ◌∙◌, arith}
use Rattle.std.specs.Prelude.{nat_lt}
use Rattle.std.proofs.lemmas.List.FromFn.{filter_of_map_range_with_len_more}
use Rattle.tn_said.specs.declared.units.TradeUnits.{TradeUnits}
use Rattle.tn_tree.specs.Lists.{count_in}
use Rattle.tn_unit_answers.specs.Session.{count_entry}
use Rattle.tn_unit_answers.proofs.session.going.Goals as goal

pub loop-t-preserved : goal.loop-t-preserved
loop-t-preserved c =
    c.in_ok-add_units.ensures
    ∙ ap (λ (xs : List TradeUnits). xs ++ cond (nat_lt 0 (count_in c.args.counts.now c.loop-t.t))
    (count_entry c.args.counts.now c.loop-t.t ∷ []) []) c.loop-t.invariant
    ∙ sym (filter_of_map_range_with_len_more (λ entry. nat_lt 0 entry.units) (count_entry c.args.counts.now) 0 c.loop-t.t
    c.loop-t.t (omega arith))
