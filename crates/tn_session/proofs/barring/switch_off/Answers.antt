-- What shows the clauses of `switch_off` of `src/barring.rt`.
use Rattle.std.proofs.Common.{◌≡◌, ℕ, rules, map, subst, arith}
use Rattle.tn_flow.specs.Underway.{AreUnderWay}
use Rattle.tn_graph.specs.Reading.{IsExchangeAmong}
use Rattle.tn_flow.proofs.RoundLemmas.{before_joined}
use Rattle.tn_flow.proofs.WorthLemmas.{changed_le}
use Rattle.tn_session.proofs.StandingLemmas.{firms_small, with_trade, without}
use Rattle.tn_session.proofs.barring.switch_off.Goals as goal

pub find_cycle-count-requires : goal.find_cycle-count-requires
find_cycle-count-requires g c = (
  search rules,
  (
    c.requires.wide,
    (
      record {
        under_way = with_trade c.args.rounds.now.allowed c.args.t c.toggle.new.self c.toggle.ensures.toggled
            (AreUnderWay (map g.V.Valuation.firm c.args.market.now.firms) c.args.market.now.trades
            c.args.rounds.now.graph c.args.rounds.now.finder) c.args.rounds.now.on c.requires.under_way;
        trade = c.requires.trade;
        out = without c.args.rounds.now.allowed c.args.t c.toggle.new.self c.toggle.ensures.toggled c.requires.admitted;
        member = c.requires.on;
      },
      c.requires.near,
    ),
  ),
)

pub refresh-requires : goal.refresh-requires
refresh-requires g c =
    let out = without c.args.rounds.now.allowed c.args.t c.toggle.new.self c.toggle.ensures.toggled
    c.requires.admitted in
    let with_it = with_trade c.args.rounds.now.allowed c.args.t c.toggle.new.self c.toggle.ensures.toggled
    (λ x y. IsExchangeAmong (map g.V.Valuation.firm c.args.market.now.firms) c.args.market.now.trades y x
    c.args.rounds.now.graph) c.args.rounds.now.on c.requires.under_way.arcs in
    let arcs = before_joined (map g.V.Valuation.firm c.args.market.now.firms) c.args.market.now.trades
    c.args.rounds.now.on c.toggle.new.self c.args.t c.args.rounds.now.graph out with_it in
    let graph_is : c.args.rounds.now.graph ≡ c.toggle_nodes.new.self.graph = search rules in
    let allowed_is : c.toggle.new.self ≡ c.toggle_nodes.new.self.allowed = search rules in (
      search rules,
      (
        search rules,
        (
          subst (λ (x : ℕ). IsExchangeAmong (map g.V.Valuation.firm c.args.market.now.firms) c.args.market.now.trades
              c.args.rounds.now.on x c.toggle_nodes.new.self.graph) allowed_is
              (subst (IsExchangeAmong (map g.V.Valuation.firm c.args.market.now.firms) c.args.market.now.trades
              c.args.rounds.now.on c.toggle.new.self) graph_is arcs),
          (search rules, firms_small g.V.Valuation.limit c.args.market.now c.requires.small),
        ),
      ),
    )

pub returns-clause-asked : goal.returns-clause-asked
returns-clause-asked g c =
    let asked = c.refresh.ensures.asked in
    let few = changed_le c.args.market.now.trades c.args.rounds.now.on c.toggle_nodes.new.self.on
    c.toggle_nodes.new.self.allowed
    (map g.V.Valuation.firm c.args.market.now.firms) in
    omega (arith, asked, few)
