-- What shows the clauses of `answer_drill` of `src/drill.rt`.
use Rattle.std.proofs.Common.{◌≡◌, ◌≤◌, List, length, refl, sym, subst, arith, to_z, of_z}
use Rattle.std.specs.Int.{w128}
use Rattle.std.proofs.lemmas.Int.{ints}
use Rattle.tn_drill.proofs.DrawLemmas.{trades_counted}
use Rattle.tn_model.specs.declared.ends.Ends.{Ends}
use Rattle.tn_model.specs.Prices.{price_at}
use Rattle.tn_commands.proofs.DrillLemmas.{drilled_from}
use Rattle.tn_model.specs.Limits.{few_trades}
use Rattle.tn_commands.specs.Limits.{most_answered_trades}
use Rattle.tn_commands.proofs.SupportedLemmas.{few_answered}
use Rattle.tn_commands.proofs.drill.answer_drill.Goals as goal

pub equilibrium-requires-clause-wide : goal.equilibrium-requires-clause-wide
equilibrium-requires-clause-wide c =
    subst (λ (trades : List Ends). length trades ≤ most_answered_trades) (sym c.in_ok-market.ensures.trades)
    (let counted = trades_counted c.args.start c.args.size in omega (arith, counted, c.requires.few))

pub equilibrium-requires-clause-worths : goal.equilibrium-requires-clause-worths
equilibrium-requires-clause-worths c =
    few_answered c.in_ok-market.market.firms c.in_ok-market.market.trades
    (subst (λ (trades : List Ends). length trades ≤ few_trades) (sym c.in_ok-market.ensures.trades)
    (let counted = trades_counted c.args.start c.args.size in omega (arith, counted, c.requires.few)))

pub surplus-requires-clause-wide : goal.surplus-requires-clause-wide
surplus-requires-clause-wide c =
    subst (λ (trades : List Ends). length trades ≤ most_answered_trades) (sym c.in_ok-market.ensures.trades)
    (let counted = trades_counted c.args.start c.args.size in omega (arith, counted, c.requires.few))

pub returns-clause-answer : goal.returns-clause-answer
returns-clause-answer c =
    let within = c.surplus.ensures.within in
    let same : to_z w128 (of_z w128 c.surplus.result) ≡ c.surplus.result = omega (arith, ints, within.low, within.high)
    in (
      refl,
      refl,
      drilled_from c.args.size c.args.start c.in_ok-market.market.firms c.in_ok-market.market.trades c.in_ok-at.at.on
          (price_at c.in_ok-at.at.prices) c.firms.result c.surplus.result _
          c.in_ok-market.ensures.firms c.in_ok-market.ensures.trades c.trades-count.ensures.network
          c.firms.ensures.count same c.in_ok-at.ensures.equilibrium c.surplus.ensures.surplus,
    )
