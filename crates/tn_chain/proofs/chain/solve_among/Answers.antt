-- What shows the clauses of `solve_among` of `src/chain.rt`.
use Rattle.std.proofs.Common.{◌∙◌, ◌+◌, ◌*◌, ◌≤◌, ℕ, map, length, arith, sym, ap, subst, lit<, ◌<◌}
use Rattle.std.proofs.lemmas.Nat.{mul-le}
use Rattle.tn_base.specs.Firm.{Firm, HasOwnBundles}
use Rattle.tn_market.specs.Parties.{party_firm, party_limit}
use Rattle.tn_market.specs.PartyLemmas.{party_laws}
use Rattle.tn_network_laws.proofs.EachLemmas.{each_firm}
use Rattle.tn_residual.proofs.MakingLemmas.{outcome_feasible}
use Rattle.tn_residual.specs.Residual.{residual_limit, number_from}
use Rattle.tn_chain.specs.Numbers.{AreNumbers, AreNumbersUpTo}
use Rattle.tn_chain.specs.Search.{chain_scale}
use Rattle.tn_chain.proofs.NumberLemmas.{unsigned_size}
use Rattle.tn_chain.proofs.SolvedLemmas.{admitted_below, solved_among}
use Rattle.tn_chain.proofs.SizeLemmas.{made_more}
use Rattle.tn_chain.proofs.chain.solve_among.Goals as goal

pub add_numbers-requires-clause-order : goal.add_numbers-requires-clause-order
add_numbers-requires-clause-order g c =
    let count = c.trades.ensures.count in
    let ends = ap length c.requires.residual.ends in
    let free = c.requires.free in
    let more = made_more (length (map g.V.Valuation.firm c.args.market.now.firms)) c.args.market.now.trades
    c.args.outcome.now.contracts in
    omega (arith, count, ends, free, more)

pub add_numbers-requires-clause-none : goal.add_numbers-requires-clause-none
add_numbers-requires-clause-none g c = λ s above.
    let count = c.trades-count.ensures.count in
    let free = c.requires.free ∙ unsigned_size c.args.outcome.now.contracts (length c.args.market.now.trades) in
    c.numbers_of-numbers.ensures.below s (subst (λ (n : ℕ). n ≤ s) (free
    ∙ ap (λ (n : ℕ). number_from c.args.outcome.now.contracts 0 n) (sym count)) above)

pub solve_among-requires : goal.solve_among-requires
solve_among-requires g c = (
  lit< tt,
  (
    lit< tt,
    (
      c.requires.residual.few,
      (
        c.requires.made_for,
        (
          (λ t there. subst (λ (n : ℕ). t < n) c.trades.ensures.count
              (admitted_below c.args.outcome.now.contracts c.args.allowed.now c.trades-count.result
              c.numbers_of-numbers.result c.args.free c.trades.result
              c.add_numbers.new.numbers c.numbers_of-numbers.ensures c.add_numbers.ensures (let count =
              c.trades.ensures.count in
              let ends = ap length c.requires.residual.ends in
              let free = c.requires.free in
              let more = made_more (length (map g.V.Valuation.firm c.args.market.now.firms)) c.args.market.now.trades
              c.args.outcome.now.contracts in
              omega (arith, count, ends, free, more))
              (λ s above.
              let count = c.trades-count.ensures.count in
              let free = c.requires.free ∙ unsigned_size c.args.outcome.now.contracts (length c.args.market.now.trades)
              in
              c.numbers_of-numbers.ensures.below s (subst (λ (n : ℕ). n ≤ s) (free
              ∙ ap (λ (n : ℕ). number_from c.args.outcome.now.contracts 0 n) (sym count)) above)) t there)),
          λ f v is.
              let limit = c.requires.residual.limits f v is in
              let small = c.requires.residual.small in
              let product = mul-le (2 * party_limit g.V.Valuation v) (length c.args.residual.now.trades + 1)
              (2 * residual_limit (length c.args.market.now.trades) c.args.outcome.now.over
              (chain_scale (length c.args.market.now.trades) c.args.outcome.now.contracts)) (length c.args.residual.now.trades + 1) (omega (arith, limit))
              (omega arith) in
              omega (arith, product, small),
        ),
      ),
    ),
  ),
)

pub returns : goal.returns
returns g c = record {
  solved = solved_among (party_firm g.V.Valuation) (party_limit g.V.Valuation)
      (map g.V.Valuation.firm c.args.market.now.firms) c.args.market.now.trades c.args.outcome.now.over
      c.args.outcome.now.contracts c.args.residual.now c.args.allowed.now c.args.free c.numbers_of-numbers.result
      c.add_numbers.new.numbers c.solve_among.new.self c.requires.network
      (outcome_feasible c.args.market.now.trades c.args.outcome.now.over c.args.outcome.now.contracts
      c.requires.outcome)
      (each_firm g.V.Valuation.firm (λ (z : Firm). HasOwnBundles z) c.args.market.now.firms
      (λ v. (g.met.V.Valuation.lawful v).own_bundles)) c.requires.residual
      (λ party. (party_laws (λ v. g.met.V.Valuation.lawful v) party).within) c.requires.free
      (subst (λ (n : ℕ). AreNumbers c.args.outcome.now.contracts c.args.allowed.now n c.numbers_of-numbers.result)
      c.trades-count.ensures.count c.numbers_of-numbers.ensures)
      (subst (λ (n : ℕ). AreNumbersUpTo c.numbers_of-numbers.result c.args.free n c.add_numbers.new.numbers)
      c.trades.ensures.count c.add_numbers.ensures)
      c.solve_among.ensures.solution c.solve_among.ensures.prices;
}
