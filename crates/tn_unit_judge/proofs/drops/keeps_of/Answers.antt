-- What shows the clauses of `keeps_of` of `src/drops.rt`.
use Rattle.std.proofs.Common.{◌≡◌, ℕ, ◌==◌, if◌then◌else◌, ap₂, ◌∙◌, arith}
use Rattle.std.proofs.lemmas.List.{get_or_default}
use Rattle.tn_counts.specs.Counts.{trade_at}
use Rattle.tn_tree.specs.Lists.{count_in}
use Rattle.tn_tree.proofs.ListLemmas.{items_more}
use Rattle.tn_unit_judge.specs.Verdict.{kept_at}
use Rattle.tn_unit_judge.proofs.drops.keeps_of.Goals as goal

pub loop-k-preserved : goal.loop-k-preserved
loop-k-preserved c =
    let few = c.requires.few in
    let test = c.loop-k-test.true in
    let sold_long = c.requires.sold in
    let bought_long = c.requires.bought in
    let sold : c.index.result.now ≡ count_in c.args.best.now.sold.items c.loop-k.k =
    c.index.ensures ∙ get_or_default c.args.best.now.sold.items c.loop-k.k c.index.result.now 0
    (omega (arith, few, test, sold_long)) in
    let bought : c.index-in-loop-k.result.now ≡ count_in c.args.best.now.bought.items c.loop-k.k =
    c.index-in-loop-k.ensures ∙ get_or_default c.args.best.now.bought.items c.loop-k.k c.index-in-loop-k.result.now 0
    (omega (arith, few, test, bought_long)) in
    items_more (kept_at c.args.trades.now c.args.best.now.sold.items c.args.best.now.bought.items c.args.firm)
    c.loop-k.keeps.items c.push.new.self.items c.kept_of.result c.loop-k.k c.in_ok-push.ensures.items c.loop-k.invariant
    (c.kept_of.ensures
    ∙ ap₂ (λ (s : ℕ) (b : ℕ). if c.args.firm == (trade_at c.args.trades.now c.loop-k.k).seller then s
    else if c.args.firm == (trade_at c.args.trades.now c.loop-k.k).buyer then b else 0) sold bought)
