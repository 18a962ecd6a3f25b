-- What shows the clauses of `offers_of` of `src/blocks.rt`.
use Rattle.std.proofs.Common.{◌+◌, Vec, Global, pos, refl, sym, ap, ◌∙◌, subst, arith}
use Rattle.std.proofs.lemmas.Int.{ints, to_z-of_z}
use mir.Syntax.{w128}
use mir.Val.{SFits}
use Rattle.tn_counts.specs.declared.contract.UnitContract.{UnitContract}
use Rattle.tn_tree.specs.Lists.{price_in}
use Rattle.tn_unit_judge.specs.Blocks.{AreOffersTo}
use Rattle.tn_unit_judge.proofs.OfferLemmas.{offers_more, offers_skip}
use Rattle.tn_unit_judge.proofs.blocks.offers_of.Goals as goal
use Rattle.tn_unit_judge.proofs.blocks.offers_of.Goals.{then-sold-part-gt0+in_ok-push, else-sold-part-gt0}

pub loop-trade-preserved : goal.loop-trade-preserved
loop-trade-preserved c = elim c.if-sold-part-gt0.branch [
  | then-sold-part-gt0+in_ok-push w ↦
      let below = c.loop-trade-test.true in
      let long = c.requires.prices in
      let small = c.requires.small (c.args.signed + c.loop-trade.trade) (pos 0) (omega (arith, below, long)) in
      let fits : SFits w128 (price_in c.args.prices.now (c.args.signed + c.loop-trade.trade)) =
      omega (arith, ints, small.low, small.high) in
      let made = simp to_z-of_z at w.in_ok-push.ensures.items in
      let some = w.if-sold-part-gt0.true in
      let most = c.requires.single c.loop-trade.trade below in
      offers_more c.args.signed c.args.sold.now c.args.prices.now c.loop-trade.trade c.loop-trade.offers.items
      c.if-sold-part-gt0.offers.items (record {
        trade = c.loop-trade.trade;
        units = 1;
        price = price_in c.args.prices.now (c.args.signed + c.loop-trade.trade);
      }) c.loop-trade.invariant (ap (λ (v : Vec UnitContract Global). v.items) w.offers-is ∙ made) refl refl refl
      (omega (arith, some, most))
  | else-sold-part-gt0 w ↦
      let none = w.if-sold-part-gt0.false in
      subst (AreOffersTo c.args.signed c.args.sold.now c.args.prices.now (c.loop-trade.trade + 1))
      (sym (ap (λ (v : Vec UnitContract Global). v.items) w.offers-is))
      (offers_skip c.args.signed c.args.sold.now c.args.prices.now c.loop-trade.trade c.loop-trade.offers.items
      c.loop-trade.invariant (omega (arith, none)))
]
