-- What shows the clauses of `priced` of `src/session.rt`.
use Rattle.std.proofs.Common.{List, [], ◌∷◌, ◌++◌, cond, sym, ap, ◌∙◌, arith}
use Rattle.std.specs.Prelude.{nat_lt}
use Rattle.std.proofs.lemmas.List.FromFn.{filter_of_map_range_with_len_more}
use Rattle.tn_counts.specs.Counts.{trade_at}
use Rattle.tn_model.specs.declared.contract.Contract.{Contract}
use Rattle.tn_unit_answers.specs.Session.{price_entry}
use Rattle.tn_unit_answers.proofs.session.priced.Goals as goal

pub loop-t-preserved : goal.loop-t-preserved
loop-t-preserved c =
    c.in_ok-add_price.ensures
    ∙ ap (λ (xs : List Contract). xs ++ cond (nat_lt 0 (trade_at c.args.trades.now c.loop-t.t).units)
    (price_entry c.args.prices.now c.loop-t.t ∷ []) []) c.loop-t.invariant
    ∙ sym (filter_of_map_range_with_len_more (λ contract. nat_lt 0 (trade_at c.args.trades.now contract.trade).units)
    (price_entry c.args.prices.now) 0 c.loop-t.t c.loop-t.t (omega arith))
