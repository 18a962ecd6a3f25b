-- What today's laws of networks say at the unit network.
use Rattle.std.proofs.Common.{sym, ◌∙◌, neg_ℤ, ◌+ℤ◌, arith}
use Rattle.std.proofs.lemmas.Int.{ints}
use Rattle.std.proofs.lemmas.Option.{same_Some}
use Rattle.tn_links.specs.Lots.{pushed}
use Rattle.tn_network_laws.proofs.BlockLemmas.{equilibrium_is_stable}
use Rattle.tn_network_laws.proofs.WelfareLemmas.{equilibrium_is_efficient}
use Rattle.tn_counts.specs.Counts.{AreCounts}
use Rattle.tn_counts.specs.Laminar.{firms_of}
use Rattle.tn_counts.specs.Tree.{sold_at}
use Rattle.tn_counts.proofs.SurplusLemmas.{cycles_more}
use Rattle.tn_counts.proofs.WelfareLemmas.{equilibria_efficient}
use Rattle.tn_counts.proofs.WideLemmas.{wide_market}
use Rattle.tn_unit_laws.specs.Laws.{EquilibriaByCountsAreStable, MoreSurplusBarsUnitPrices, NegativeCyclesBarUnitPrices}
use Rattle.tn_unit_laws.specs.Units.{first_units, price_of_unit, unit_firms, unit_trades, units_on}
use Rattle.tn_unit_laws.proofs.BundleLemmas.{fits_network}
use Rattle.tn_unit_laws.proofs.EquilibriumLemmas.{equilibria_are_equilibria, first_have, same_surplus, surplus_of_counts}
use Rattle.tn_unit_laws.proofs.MarketLemmas.{markets_fit}
use Rattle.tn_unit_laws.proofs.WholeLemmas.{whole_is_stable}

pub equilibria_stable : EquilibriaByCountsAreStable
equilibria_stable firms trades scale counts prices fit least equal =
    let within : AreCounts trades counts =
    (equilibria_efficient firms trades scale counts prices fit.ends least equal).1.within in
    let there = (equilibria_are_equilibria.first firms trades scale counts prices fit within).0 equal in
    let network = fits_network firms trades fit in
    record {
      equilibrium = there;
      efficient = equilibrium_is_efficient (unit_firms trades firms) (unit_trades trades) scale (first_units trades counts)
          (price_of_unit trades prices) network least there;
      stable = equilibrium_is_stable (unit_firms trades firms) (unit_trades trades) scale (first_units trades counts)
          (price_of_unit trades prices) network there;
      by_counts = whole_is_stable firms trades fit scale counts prices within equal;
    }

pub more_bars : MoreSurplusBarsUnitPrices
more_bars firms trades on counts fit more scale prices least equal =
    let best = equilibrium_is_efficient (unit_firms trades firms) (unit_trades trades) scale on prices
    (fits_network firms trades fit) least equal in
    let same = same_Some best.0 more.less (sym best.1.is ∙ surplus_of_counts firms trades on fit ∙ more.less_is) in
    let below = best.1.most (first_units trades counts) more.more
    (surplus_of_counts firms trades (first_units trades counts) fit
    ∙ same_surplus firms trades (units_on trades (first_units trades counts)) counts fit
    (first_have trades counts more.within) ∙ more.more_is) in
    let above = more.above in
    omega (arith, ints, same, below, above)

pub cycles_bar_units : NegativeCyclesBarUnitPrices
cycles_bar_units market links levels lot first rest cost is of kept gain on have =
    let trades = market.trades.items in
    let more = cycles_more market links levels lot first rest cost (wide_market market is) of kept gain in
    let fit = markets_fit market is in
    let negative = gain.negative in
    more_bars (firms_of market) market.trades.items on (sold_at market (pushed links lot levels first rest first)) fit
    (record {
      within = more.within;
      less = more.surplus;
      less_is = same_surplus (firms_of market) market.trades.items (units_on market.trades.items on)
          (sold_at market levels) fit have ∙ more.is;
      more = more.surplus +ℤ neg_ℤ cost;
      more_is = more.gained;
      above = omega (arith, ints, negative);
    })
