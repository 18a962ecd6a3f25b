-- What shows the clauses of `Dealer::shown` of `src/worth.rt`.
use Rattle.std.proofs.Common.{arith, rules, ◌≡◌, ◌<◌, ◌^◌, ℕ, Some, sym, ap, subst, ◌∙◌}
use Rattle.std.specs.Prelude.{neg_ℤ}
use Rattle.std.proofs.lemmas.Int.{ints, to_z-of_z}
use mir.Syntax.{w128}
use mir.Val.{SFits, of_z, to_z}
use Rattle.tn_market.specs.OwnNumbers.{own_number}
use Rattle.tn_dealer.specs.Pairs.{matched_worth}
use Rattle.tn_firm_laws.specs.Worths.{IsWorth}
use Rattle.tn_dealer.specs.WorthLemmas.{own_pairs}
use Rattle.tn_dealer.proofs.CertificateLemmas.{shows_none, shows_least, cost_fits, minus_is}
use Rattle.tn_dealer.proofs.dealer.Dealer.shown.Goals as goal
use Rattle.tn_market.specs.Widths.{most_own}

pub returns-then-keeps : goal.returns-then-keeps
returns-then-keeps c =
    let fit : SFits w128 c.sum-sum.result = search rules in
    let more = simp to_z-of_z at c.if-sum-gt0.true in
    let sum = c.sum-sum.ensures.sum in
    shows_none c.args.self.now.trades c.args.self.now.buys (own_number c.args.found.now.numbers)
    c.args.self.now.pairs.items
    (own_pairs c.args.self.now.trades c.args.self.now.buys c.args.self.now.pairs.items c.args.self.now.dealer.own)
    c.args.x
    (omega (arith, ints, more, sum)) (c.keeps.ensures c.if-keeps.true)

pub returns-then-keeps-2 : goal.returns-then-keeps-2
returns-then-keeps-2 c =
    let fit : SFits w128 c.sum-sum.result = search rules in
    let small = c.taken-bundle.ensures.small in
    let length_fits : most_own < 2 ^ 64 = search rules in
    let cost_fit : SFits w128 c.taken-bundle.result.1 = cost_fits c.taken-bundle.result.1 most_own small length_fits in
    let equal : to_z w128 (of_z w128 c.taken-bundle.result.1) ≡ to_z w128 (of_z w128 c.sum-sum.result) =
    ap (to_z w128) c.if-cost-sum.true in
    let same = simp to_z-of_z at equal in
    let bundle : c.taken-bundle.result.0 ≡ c.args.x = search rules in
    let worth = subst (λ (x : ℕ). IsWorth (matched_worth c.args.self.now.pairs.items) x (neg_ℤ c.taken-bundle.result.1))
    bundle c.taken-bundle.ensures.worth in
    let sum = c.sum-sum.ensures.sum in
    ap Some (minus_is c.taken-bundle.result.1 most_own small length_fits)
    ∙ shows_least c.args.self.now.trades c.args.self.now.buys (own_number c.args.found.now.numbers)
    c.args.self.now.pairs.items
    (own_pairs c.args.self.now.trades c.args.self.now.buys c.args.self.now.pairs.items c.args.self.now.dealer.own)
    c.args.x c.taken-bundle.result.1 worth
    (sym (same ∙ sum)) (c.keeps-then-cost-sum.ensures c.if-keeps-2.true)
