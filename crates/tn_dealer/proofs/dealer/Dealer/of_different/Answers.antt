-- What shows the clauses of `Dealer::of_different` of `src/dealer.rt`.
use Rattle.std.proofs.Common.{rules, ◌≡◌, length, sym, subst}
use Rattle.tn_base.specs.Table.{buys_of}
use Rattle.tn_base.proofs.TableLemmas.{buys_of_within}
use Rattle.tn_dealer.specs.Costs.{AreCosts}
use Rattle.tn_dealer.specs.Pairs.{AreUnrepeated}
use Rattle.tn_dealer.proofs.dealer.Dealer.of_different.Goals as goal

pub costs_of-requires-clause-different : goal.costs_of-requires-clause-different
costs_of-requires-clause-different c = subst AreUnrepeated (sym c.deref.ensures.value) c.requires.different

pub invariant_of-result : goal.invariant_of-result
invariant_of-result c =
    let count : c.len.result ≡ length c.args.sides.items = search rules in
    let bought : c.purchases.result ≡ buys_of c.args.sides.items = search rules in
    record {
      dealer = rw (count, bought) (record {
        few = c.requires.few;
        bought = buys_of_within c.args.sides.items;
        own =
            c.requires.own;
      });
      different = c.requires.different;
      placed = subst (AreCosts c.args.pairs.items) (sym c.in_ok-costs.ensures.ok)
          (rw c.deref.ensures.value at c.costs_of.ensures);
    }
