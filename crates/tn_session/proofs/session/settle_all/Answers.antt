-- What shows the clauses of `settle_all` of `src/session.rt`.
use Rattle.std.proofs.Common.{rules}
use Rattle.tn_session.proofs.StandingLemmas.{laws_of, firms_small, settled, holds, small_prices}
use Rattle.tn_session.proofs.session.settle_all.Goals as goal

pub settle-requires : goal.settle-requires
settle-requires g c = (
  search rules,
  (
    c.requires.wide,
    (
      c.requires.under_way,
      c.requires.near,
    ),
  ),
)

pub returns-clause-settled : goal.returns-clause-settled
returns-clause-settled g c = record {
  network = c.trades-trades.ensures.network;
  wide = c.requires.wide;
  small = c.requires.small;
  fits_graph = firms_small g.V.Valuation.limit c.args.market.now c.requires.small;
  under_way = c.settle.ensures.under_way;
  settled = settled g.V.Valuation.firm g.V.Valuation.limit c.args.market.now c.args.rounds.now.allowed
      c.args.rounds.now.on c.settle.new.self.finder.labels
      (laws_of g.V.Valuation.firm g.V.Valuation.limit c.args.market.now c.trades-trades.ensures.network
      g.met.V.Valuation.lawful) c.settle.ensures.labels;
}

pub returns-clause-equilibrium : goal.returns-clause-equilibrium
returns-clause-equilibrium g c =
    holds g.V.Valuation.firm g.V.Valuation.limit c.args.market.now c.settle.new.self.graph c.settle.new.self.finder
    c.settle.new.self.allowed c.settle.new.self.on
    (laws_of g.V.Valuation.firm g.V.Valuation.limit c.args.market.now c.trades-trades.ensures.network
    g.met.V.Valuation.lawful) c.settle.ensures.under_way

pub returns-clause-prices : goal.returns-clause-prices
returns-clause-prices g c =
    small_prices g.V.Valuation.firm c.args.market.now c.settle.new.self.allowed c.settle.new.self.on
    c.settle.new.self.finder.labels (returns-clause-settled g c).settled
