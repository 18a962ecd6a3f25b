-- What shows the clauses of `keep_edit` of `src/session.rt`.
use Rattle.std.proofs.Common.{ap, ◌∙◌}
use Rattle.tn_commands.specs.Session.{is_admitted_by, is_away_by}
use Rattle.tn_commands.proofs.EditLemmas.{after_elsewhere, after_here}
use Rattle.tn_commands.proofs.session.keep_edit.Goals as goal

pub returns-clause-here : goal.returns-clause-here
returns-clause-here c = λ edits used next before usable.
    after_here edits c.args.edit c.args.t c.args.trade c.args.kept.now (record {
      admitted = c.put.new.set;
      seller_away =
          c.put-2.new.set;
      buyer_away = c.put-3.new.set;
    }) used next before
    (c.put.ensures.here ∙ c.is_admitted_by-is_admitted.ensures ∙ ap (is_admitted_by c.args.t c.args.edit) c.has.ensures)
    (c.put-2.ensures.here ∙ c.is_away_by-is_seller_away.ensures
    ∙ ap (is_away_by c.args.trade.seller c.args.edit) c.has-2.ensures)
    (c.put-3.ensures.here ∙ c.is_away_by-is_buyer_away.ensures
    ∙ ap (is_away_by c.args.trade.buyer c.args.edit) c.has-3.ensures)
    (usable ∙ c.is_usable.ensures)

pub returns-clause-elsewhere : goal.returns-clause-elsewhere
returns-clause-elsewhere c = λ edits k other used next apart before same.
    after_elsewhere edits k other c.args.kept.now (record {
      admitted = c.put.new.set;
      seller_away =
          c.put-2.new.set;
      buyer_away = c.put-3.new.set;
    }) used next before (c.put.ensures.elsewhere k apart) (c.put-2.ensures.elsewhere k apart)
    (c.put-3.ensures.elsewhere k apart) same
