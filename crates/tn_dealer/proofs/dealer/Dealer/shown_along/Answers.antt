-- What shows the clauses of `Dealer::shown_along` of `src/row.rt`.
use Rattle.std.proofs.Common.{arith, rules, ◌≡◌, ◌<◌, ◌^◌, ℕ, Some, sym, ap, subst, ◌∙◌}
use Rattle.std.specs.Prelude.{neg_ℤ}
use Rattle.std.proofs.lemmas.Int.{ints, to_z-of_z}
use mir.Syntax.{w128}
use mir.Val.{SFits, of_z, to_z}
use Rattle.tn_base.specs.Sets.{minus}
use Rattle.tn_dealer.specs.Paths.{own_number_to}
use Rattle.tn_dealer.specs.Pairs.{matched_worth}
use Rattle.tn_firm_laws.specs.Worths.{IsWorth}
use Rattle.tn_dealer.specs.LawLemmas.{dealer_laws}
use Rattle.tn_dealer.specs.WorthLemmas.{own_pairs}
use Rattle.tn_dealer.proofs.CertificateLemmas.{shows_least, cost_fits, minus_is}
use Rattle.tn_dealer.proofs.PathLemmas.{keeps_to, shows_far}
use Rattle.tn_dealer.proofs.dealer.Dealer.shown_along.Goals as goal
use Rattle.tn_market.specs.Widths.{most_own}

pub returns-then-sum-gt-MOST_WORTH : goal.returns-then-sum-gt-MOST_WORTH
returns-then-sum-gt-MOST_WORTH c =
    let dealer = c.args.self.now in
    let numbers = c.args.numbers.now in
    let own = own_pairs dealer.trades dealer.buys dealer.pairs.items dealer.dealer.own in
    let fit : SFits w128 c.sum_to-sum.result = search rules in
    let more = simp to_z-of_z at c.if-sum-gt-MOST_WORTH.true in
    let sum = c.sum_to-sum.ensures.sum in
    let inside : minus c.args.x numbers.within ≡ 0 = search rules in
    shows_far dealer.trades dealer.buys (own_number_to numbers.bought_rise dealer.buys c.args.path.now.distance
    numbers.near numbers.far) dealer.pairs.items own c.args.x ((dealer_laws dealer).within c.args.x)
    (omega (arith, ints, more, sum))
    (keeps_to dealer.trades dealer.buys numbers.bought_rise c.args.path.now.distance numbers.near numbers.far
    numbers.within c.args.x dealer.pairs.items own c.requires.keep.near c.requires.keep.far inside)

pub returns-then-cost-sum : goal.returns-then-cost-sum
returns-then-cost-sum c =
    let dealer = c.args.self.now in
    let numbers = c.args.numbers.now in
    let own = own_pairs dealer.trades dealer.buys dealer.pairs.items dealer.dealer.own in
    let fit : SFits w128 c.sum_to-sum.result = search rules in
    let small = c.taken-bundle.ensures.small in
    let length_fits : most_own < 2 ^ 64 = search rules in
    let cost_fit : SFits w128 c.taken-bundle.result.1 = cost_fits c.taken-bundle.result.1 most_own small length_fits in
    let equal : to_z w128 (of_z w128 c.taken-bundle.result.1) ≡ to_z w128 (of_z w128 c.sum_to-sum.result) =
    ap (to_z w128) c.if-cost-sum.true in
    let same = simp to_z-of_z at equal in
    let bundle : c.taken-bundle.result.0 ≡ c.args.x = search rules in
    let worth = subst (λ (x : ℕ). IsWorth (matched_worth dealer.pairs.items) x (neg_ℤ c.taken-bundle.result.1))
    bundle c.taken-bundle.ensures.worth in
    let sum = c.sum_to-sum.ensures.sum in
    let inside : minus c.args.x numbers.within ≡ 0 = search rules in
    ap Some (minus_is c.taken-bundle.result.1 most_own small length_fits)
    ∙ shows_least dealer.trades dealer.buys (own_number_to numbers.bought_rise dealer.buys c.args.path.now.distance
    numbers.near numbers.far) dealer.pairs.items own c.args.x c.taken-bundle.result.1 worth
    (sym (same ∙ sum))
    (keeps_to dealer.trades dealer.buys numbers.bought_rise c.args.path.now.distance numbers.near numbers.far
    numbers.within c.args.x dealer.pairs.items own c.requires.keep.near c.requires.keep.far inside)
