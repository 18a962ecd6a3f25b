-- What shows the clauses of `Rounds::admit` of `src/rounds.rt`.
use Rattle.std.proofs.Common.{map, arith, rules, sym, ap, ◌∙◌, subst, ℕ, not}
use Rattle.tn_base.specs.Sets.{has, toggle}
use Rattle.tn_base.proofs.SetLemmas.{has-toggle_same, toggle-toggle}
use Rattle.tn_graph.specs.Reading.{IsExchangeAmong}
use Rattle.tn_flow.proofs.RoundLemmas.{before_joined, off_where_out}
use Rattle.tn_flow.proofs.WorthLemmas.{round_asked}
use Rattle.tn_flow.proofs.rounds.Rounds.admit.Goals as goal

pub admit-requires : goal.admit-requires
admit-requires g c =
    let way = c.requires.under_way in
    let again = sym (ap (λ (x : ℕ). toggle x c.args.t) c.toggle.ensures.toggled
    ∙ toggle-toggle c.args.self.now.allowed c.args.t) in (
      search rules,
      (
        c.requires.wide,
        (
          subst (λ (x : ℕ). IsExchangeAmong (map g.V.Valuation.firm c.args.market.now.firms) c.args.market.now.trades
              c.args.self.now.on x c.args.self.now.graph) again way.arcs,
          (
            c.requires.trade,
            (
              ap (λ (x : ℕ). has x c.args.t) c.toggle.ensures.toggled
                  ∙ has-toggle_same c.args.self.now.allowed c.args.t ∙ ap not c.requires.out,
              (
                off_where_out c.args.self.now.allowed c.args.self.now.on c.args.t way.kept.inside c.requires.out,
                (way.kept.possible, c.requires.small),
              ),
            ),
          ),
        ),
      ),
    )

pub find-found-requires : goal.find-found-requires
find-found-requires g c =
    let way = c.requires.under_way in
    let joined = subst (λ (x : ℕ). IsExchangeAmong (map g.V.Valuation.firm c.args.market.now.firms)
    c.args.market.now.trades
    c.args.self.now.on x c.admit.new.self) c.toggle.ensures.toggled c.admit.ensures.graph in (
      search rules,
      (
        c.requires.wide,
        (
          record {
            arcs = before_joined (map g.V.Valuation.firm c.args.market.now.firms) c.args.market.now.trades
                c.args.self.now.on c.args.self.now.allowed c.args.t c.admit.new.self c.requires.out joined;
            sized = way.sized;
            kept = way.kept;
            labels = way.labels;
          },
          (c.requires.trade, (c.requires.out, (joined, c.requires.near))),
        ),
      ),
    )

pub returns-in-Cycle-clause-asked : goal.returns-in-Cycle-clause-asked
returns-in-Cycle-clause-asked g c =
    let way = c.requires.under_way in
    round_asked g.V.Valuation.firm c.args.market.now.firms c.args.market.now.trades c.know.ensures.network
    c.args.self.now.on c.toggle_nodes.new.self.on c.toggle.new.self c.args.t
    (off_where_out c.args.self.now.allowed c.args.self.now.on c.args.t way.kept.inside c.requires.out)
    (ap (λ (x : ℕ). has x c.args.t) c.toggle.ensures.toggled ∙ has-toggle_same c.args.self.now.allowed c.args.t
    ∙ ap not c.requires.out) c.requires.trade
    c.args.steps.now c.admit.new.steps c.refresh.new.steps c.admit.ensures.asked c.refresh.ensures.asked

pub returns-in_default-clause-asked : goal.returns-in_default-clause-asked
returns-in_default-clause-asked g c =
    let way = c.requires.under_way in
    round_asked g.V.Valuation.firm c.args.market.now.firms c.args.market.now.trades c.know.ensures.network
    c.args.self.now.on c.args.self.now.on c.toggle.new.self c.args.t
    (off_where_out c.args.self.now.allowed c.args.self.now.on c.args.t way.kept.inside c.requires.out)
    (ap (λ (x : ℕ). has x c.args.t) c.toggle.ensures.toggled ∙ has-toggle_same c.args.self.now.allowed c.args.t
    ∙ ap not c.requires.out) c.requires.trade
    c.args.steps.now c.admit.new.steps c.admit.new.steps c.admit.ensures.asked (omega arith)
