-- What shows the clauses of `split_market` of `src/split.rt`.
use Rattle.std.proofs.Common.{◌≡◌, ℕ, List, length, map, refl, sym, ap, ap₂, ◌∙◌, subst, arith, slice_get}
use Rattle.tn_counts.specs.Laminar.{amounts_at}
use Rattle.tn_counts.specs.Markets.{HaveSmallAmounts}
use Rattle.tn_counts.specs.Outcomes.{split_trades}
use Rattle.tn_counts.specs.declared.contract.UnitContract.{UnitContract}
use Rattle.tn_counts.specs.declared.set.CountSet.{CountSet}
use Rattle.tn_counts.specs.declared.trade.UnitAmounts.{UnitAmounts}
use Rattle.tn_tree.specs.Lists.{count_in}
use Rattle.tn_unit_judge.specs.Split.{AreSplitSets, origins, times_amounts}
use Rattle.tn_unit_judge.proofs.JoinLemmas.{origins_known, origins_sized}
use Rattle.tn_unit_judge.proofs.split.split_market.Goals as goal

amounts_of : (over : ℕ) (read amounts : List UnitAmounts) (lent from : List ℕ) (n m : ℕ) (contracts : List UnitContract)
    (made : List UnitAmounts) → read ≡ amounts → lent ≡ from → from ≡ origins n contracts → n ≡ m
    → made ≡ map (λ t. times_amounts over (amounts_at read t)) lent
    → made ≡ map (λ t. times_amounts over (amounts_at amounts t)) (origins m contracts)
amounts_of over read amounts lent from n m contracts made first second third fourth is =
    is ∙ ap₂ (λ (xs : List UnitAmounts) (ts : List ℕ). map (λ t. times_amounts over (amounts_at xs t)) ts) first
    (second ∙ third ∙ ap (λ (k : ℕ). origins k contracts) fourth)

pub split_amounts-requires-clause-small : goal.split_amounts-requires-clause-small
split_amounts-requires-clause-small c = subst HaveSmallAmounts (sym c.deref-2.ensures.value) c.requires.market.small

pub split_amounts-requires-clause-known : goal.split_amounts-requires-clause-known
split_amounts-requires-clause-known c = λ k t at.
    let sized = c.args.market.now.trades.ok.0 in
    let count = c.len.ensures in
    let same : c.len.result ≡ length c.args.market.now.trades.items = omega (arith, sized, count) in
    let below = origins_known (length c.args.market.now.trades.items) c.args.contracts.now c.requires.known k t
    (sym (ap (λ (xs : List ℕ). slice_get xs k) (c.deref-3.ensures.value ∙ c.in_ok-from.ensures
    ∙ ap (λ (n : ℕ). origins n c.args.contracts.now) same)) ∙ at) in
    let long = ap length c.deref-2.ensures.value in
    let as_many = c.requires.market.as_many in
    omega (arith, below, long, as_many)

pub split_sets-requires-clause-sets : goal.split_sets-requires-clause-sets
split_sets-requires-clause-sets c = λ i set at. (
  c.args.market.now.firms,
  c.requires.market.each i set
      (sym (ap (λ (xs : List CountSet). slice_get xs i) c.deref-4.ensures.value) ∙ at),
)

pub split_sets-requires-clause-size : goal.split_sets-requires-clause-size
split_sets-requires-clause-size c =
    let sized = c.args.market.now.trades.ok.0 in
    let count = c.len.ensures in
    let long = ap length (c.deref-5.ensures.value ∙ c.in_ok-from.ensures) in
    let sum = origins_sized c.len.result c.args.contracts.now in
    let few = c.requires.few in
    let trades = c.requires.market.few_trades in
    omega (arith, sized, count, long, sum, few, trades)

pub returns : goal.returns
returns c =
    let sized = c.args.market.now.trades.ok.0 in
    let count = c.len.ensures in
    let same : c.len.result ≡ length c.args.market.now.trades.items = omega (arith, sized, count) in
    record {
      firms = refl;
      trades = c.in_ok-trades.ensures ∙ ap (λ ts. split_trades ts c.args.contracts.now (count_in c.args.free.now))
          c.deref.ensures.value;
      amounts = amounts_of c.args.over c.deref-2.result.now c.args.market.now.amounts.items c.deref-3.result.now
          c.in_ok-from.from.items c.len.result (length c.args.market.now.trades.items) c.args.contracts.now
          c.in_ok-amounts.amounts.items c.deref-2.ensures.value c.deref-3.ensures.value c.in_ok-from.ensures same
          c.in_ok-amounts.ensures;
      sets = subst (λ (ts : List ℕ). AreSplitSets c.args.over ts c.args.market.now.sets.items c.in_ok-sets.sets.items)
          (c.deref-5.ensures.value ∙ c.in_ok-from.ensures ∙ ap (λ (n : ℕ). origins n c.args.contracts.now) same)
          (subst (λ (ss : List CountSet). AreSplitSets c.args.over c.deref-5.result.now ss c.in_ok-sets.sets.items)
          c.deref-4.ensures.value c.in_ok-sets.ensures);
    }
