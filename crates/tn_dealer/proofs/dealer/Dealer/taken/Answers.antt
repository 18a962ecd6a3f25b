-- What shows the clauses of `Dealer::taken` of `src/worth.rt`.
use Rattle.std.proofs.Common.{arith, rules, sym, subst, ℕ, ℤ, List, pos}
use Rattle.std.proofs.lemmas.Int.{ints, to_z-of_z}
use mir.Syntax.{w128}
use mir.Val.{SFits, to_z}
use Rattle.tn_dealer.specs.Certificates.{MayTake}
use Rattle.tn_dealer.specs.Pairs.{matched_worth}
use Rattle.tn_firm_laws.specs.Worths.{IsWorth}
use Rattle.tn_dealer.specs.WorthLemmas.{own_pairs}
use Rattle.tn_dealer.proofs.CertificateLemmas.{no_pairs_taken, taken_more, taken_small}
use Rattle.tn_dealer.proofs.dealer.Dealer.taken.Goals as goal

pub loop-k-init : goal.loop-k-init
loop-k-init c = record {
  worth = subst (λ (x : ℕ). IsWorth (matched_worth c.args.self.now.pairs.items) x (pos 0)) (sym c.empty-bundle.ensures)
      (no_pairs_taken c.args.self.now.pairs.items);
  small = record { low = omega (arith, ints); high = omega (arith, ints) };
}

pub loop-k-preserved : goal.loop-k-preserved
loop-k-preserved c =
    let fit : SFits w128 c.take_in.result.1 = search rules in
    let dealer = c.args.self.now in
    let may = subst (λ (costs : List ℤ). MayTake costs c.loop-k.bundle (to_z w128 c.loop-k.cost-bits)
    c.take_in.result.0 c.take_in.result.1) c.deref.ensures c.take_in.ensures in
    let own = own_pairs dealer.trades dealer.buys dealer.pairs.items dealer.dealer.own in
    simp to_z-of_z (record {
      worth = taken_more dealer.trades dealer.buys dealer.pairs.items c.args.self.now.costs.value own c.args.self.now.placed _ _ _ _
          may c.loop-k.invariant.worth;
      small = taken_small dealer.trades dealer.buys dealer.pairs.items c.args.self.now.costs.value own c.args.self.now.placed _ _ _ _
          c.loop-k.k c.loop-k.invariant.small may;
    })
