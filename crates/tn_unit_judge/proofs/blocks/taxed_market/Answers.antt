-- What shows the clauses of `taxed_market` of `src/blocks.rt`.
use Rattle.std.proofs.Common.{List, length, refl, ap, sym, ◌∙◌, subst, slice_get}
use Rattle.tn_counts.specs.declared.trade.UnitAmounts.{UnitAmounts}
use Rattle.tn_tree.specs.Lists.{count_in}
use Rattle.tn_unit_judge.specs.Blocks.{AreTaxed}
use Rattle.tn_unit_judge.proofs.WideLemmas.{split_within}
use Rattle.tn_unit_judge.proofs.blocks.taxed_market.Goals as goal

pub taxed_amounts-requires : goal.taxed_amounts-requires
taxed_amounts-requires c = λ k each at.
    (split_within c.args.market.now c.args.over c.args.contracts.now (count_in c.args.free.now) c.in_ok-split.split
    c.requires.market c.requires.over c.requires.few c.requires.known c.requires.left c.in_ok-split.ensures).small k each
    (sym (ap (λ (xs : List UnitAmounts). slice_get xs k) c.deref.ensures.value) ∙ at)

pub returns : goal.returns
returns c = record {
  split = c.in_ok-split.split;
  is = c.in_ok-split.ensures;
  firms = refl;
  trades = refl;
  amounts = subst (λ (xs : List UnitAmounts). AreTaxed (length c.args.contracts.now) xs c.in_ok-amounts.amounts.items)
      c.deref.ensures.value c.in_ok-amounts.ensures;
  sets = refl;
}
