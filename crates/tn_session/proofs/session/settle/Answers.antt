-- What shows the clauses of `settle` of `src/session.rt`.
use Rattle.std.proofs.Common.{◌≤◌, ℕ, length, rules, subst}
use Rattle.tn_market.specs.Widths.{most_market_trades}
use Rattle.tn_session.proofs.StandingLemmas.{round_near}
use Rattle.tn_session.proofs.session.settle.Goals as goal

pub settle_all-requires : goal.settle_all-requires
settle_all-requires g c = (
  search rules,
  (
    c.requires.wide,
    (
      c.requires.small,
      (
        c.requires.under_way,
        round_near (length c.args.market.now.trades) c.args.rounds.now.finder.labels
            (subst (λ (n : ℕ). n ≤ most_market_trades) c.trades-trades.ensures.count c.trades-trades.ensures.few)
            c.requires.near,
      ),
    ),
  ),
)
