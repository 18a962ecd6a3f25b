-- What shows the clauses of `support` of `src/supporting.rt`.
use Rattle.std.proofs.Common.{map, arith}
use Rattle.std.proofs.lemmas.List.{length-map}
use Rattle.tn_price.proofs.SupportLemmas.{unable_unsupported, worths_from}
use Rattle.tn_price.proofs.supporting.support.Goals as goal

pub returns-in-Some-clause-answer : goal.returns-in-Some-clause-answer
returns-in-Some-clause-answer g c = (
  c.in-Some.ensures.found,
  unable_unsupported (map g.V.Valuation.firm c.args.market.now.firms) c.args.market.now.trades c.args.on.now
      c.in-Some.firm c.in-Some.ensures.found,
)

pub returns-in-Some-clause-asked : goal.returns-in-Some-clause-asked
returns-in-Some-clause-asked g c =
    let asked = c.first_unable.ensures.asked in
    let firms = worths_from (map g.V.Valuation.firm c.args.market.now.firms) in
    let mapped = length-map c.args.market.now.firms g.V.Valuation.firm in
    omega (arith, asked, firms, mapped)

pub returns-in-None-clause-asked : goal.returns-in-None-clause-asked
returns-in-None-clause-asked g c =
    let asked = c.first_unable.ensures.asked in
    let read = c.support_by_labels.ensures.asked in
    let firms = worths_from (map g.V.Valuation.firm c.args.market.now.firms) in
    let mapped = length-map c.args.market.now.firms g.V.Valuation.firm in
    omega (arith, asked, read, firms, mapped)
