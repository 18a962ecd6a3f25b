-- What shows the clauses of `Dealer::keeps` of `src/worth.rt`.
use Rattle.std.proofs.Common.{ℕ, ℤ, List, arith, ap, ◌∙◌, subst}
use Rattle.tn_base.specs.Sets.{has, meet, minus}
use Rattle.tn_dealer.specs.Certificates.{KeepsBeside}
use Rattle.tn_market.specs.OwnNumbers.{own_number}
use Rattle.tn_dealer.specs.WorthLemmas.{own_pairs}
use Rattle.tn_dealer.proofs.CertificateLemmas.{keeps_listed, keeps_more}
use Rattle.tn_dealer.proofs.dealer.Dealer.keeps.Goals as goal

pub loop-buy-init : goal.loop-buy-init
loop-buy-init c = λ buy below. absurd (omega (arith, below))

pub loop-buy-preserved : goal.loop-buy-preserved
loop-buy-preserved c =
    let dealer = c.args.self.now in
    let number = own_number c.args.numbers.now in
    keeps_more c.args.priced c.args.self.now.costs.value number (meet c.args.x dealer.buys) (minus c.args.x dealer.buys)
    dealer.trades c.loop-buy.buy c.loop-buy.invariant
    (λ member. subst (λ (sales : ℕ). KeepsBeside c.args.priced dealer.costs.value number sales c.loop-buy.buy
    dealer.trades) c.minus-sales.ensures
    (subst (λ (costs : List ℤ). KeepsBeside c.args.priced costs number c.minus-sales.result c.loop-buy.buy
    dealer.trades) c.deref.ensures
    (c.keeps_beside.ensures c.if-not-keeps_beside.false (ap (λ (z : ℕ). has z c.loop-buy.buy) c.meet-purchases.ensures
    ∙ member))))

pub returns : goal.returns
returns c = λ _.
    let dealer = c.args.self.now in
    keeps_listed dealer.trades dealer.buys dealer.pairs.items c.args.self.now.costs.value c.args.priced
    (own_number c.args.numbers.now) c.args.x
    (own_pairs dealer.trades dealer.buys dealer.pairs.items dealer.dealer.own) c.args.self.now.placed
    (λ buy near member. c.loop-buy.invariant buy (let past = c.loop-buy-test.false in omega (arith, near, past)) member)
