-- What shows the clauses of `Stand::new` of `src/stand.rt`.
use Rattle.std.proofs.Common.{rules, sym, ap, ◌∙◌, ◌≡◌, Some, map, slice_get, option_map, ℕ}
use Rattle.std.proofs.lemmas.Option.{slice_get-map}
use Rattle.std.proofs.lemmas.Int.{to_z-of_z}
use mir.Syntax.{w128}
use mir.Val.{SFits}
use Rattle.tn_model.specs.Network.{part}
use Rattle.tn_graph.specs.Reading.{IsStand}
use Rattle.tn_graph.proofs.stand.Stand.new.Goals as goal

pub returns-clause-stand : goal.returns-clause-stand
returns-clause-stand g c =
    let firm = g.V.Valuation.firm c.firm-firm.result.now in
    let is = c.firm-firm.ensures in
    let listed : slice_get (map g.V.Valuation.firm c.args.market.now.firms) c.args.f ≡ Some firm =
    slice_get-map g.V.Valuation.firm c.args.market.now.firms c.args.f ∙ ap (option_map g.V.Valuation.firm) is in
    let counted = c.trades.ensures.count in
    let worth : SFits w128 c.unwrap.result = search rules in
    let known : firm.worth c.bundle_of-bundle.result ≡ Some c.unwrap.result =
    sym c.value.ensures.worth ∙ c.unwrap.ensures in
    let stand : IsStand (map g.V.Valuation.firm c.args.market.now.firms) c.args.market.now.trades c.args.on.now c.args.f
    c.trades.result firm
    (g.V.Valuation.limit c.firm-firm.result.now) c.bundle_of-bundle.result c.unwrap.result = record {
      network = c.requires.network;
      is = listed;
      counted = counted;
      few = c.trades.ensures.few;
      bundle_is = c.bundle_of-bundle.ensures c.firm-firm.result.now is
          ∙ ap (λ (n : ℕ). part c.args.market.now.trades c.args.f n c.args.on.now) (sym counted);
      worth_is = known;
      within = (g.met.V.Valuation.lawful c.firm-firm.result.now).within;
      small = c.requires.small c.args.f c.firm-firm.result.now is;
    } in
    simp to_z-of_z stand
