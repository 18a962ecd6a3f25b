-- What shows the clauses of `TradeSetPartialEq::eq` of `src/trade_set.rt`.
use Rattle.std.proofs.Common.{◌∙◌, ap₂}
use Rattle.std.specs.Prelude.{nat_eq}
use Rattle.tn_base.proofs.LimbLemmas.{same_words}
use Rattle.tn_base.proofs.trade_set.TradeSetPartialEq.eq.Goals as goal

pub returns : goal.returns
returns g c =
    c.eq.ensures ∙ same_words g.row.W _ _ c.self.invariant.1 c.other.invariant.1
    ∙ ap₂ nat_eq c.self.view_is c.other.view_is
