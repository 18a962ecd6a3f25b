-- What shows the clauses of `read_pairs` of `src/dealers.rt`.
use Rattle.std.proofs.Common.{◌≡◌, ◌∷◌, ◌++◌, [], length, List, Ok, refl, sym, subst, ◌*◌, ◌≤◌, rules}
use Rattle.std.specs.Prelude.{All}
use Rattle.std.proofs.lemmas.Result.{err_from_is_err_and}
use Rattle.serde_json.specs.View.{view}
use Rattle.tn_dealer.specs.declared.pair.Pair.{Pair}
use Rattle.tn_dealer.specs.Pairs.{AreUnrepeated}
use Rattle.tn_model.specs.Limits.{most_own_trades}
use Rattle.tn_read_references.specs.Ordered.{Listed}
use Rattle.tn_read_firms.specs.Dealers.{one_pair}
use Rattle.tn_read_shapes.specs.Reading.{each, FailsAsRead}
use Rattle.tn_read_shapes.proofs.EachLemmas.{each_goes_on, each_is_done, each_fails}
use Rattle.serde_json.specs.View.{items_view}
use Rattle.tn_read_firms.proofs.DealerLeads.{IsOwn, few_new, no_pairs, one_pair_leads}
use Rattle.tn_read_firms.proofs.dealers.read_pairs.Goals as goal

pub loop-entry-init : goal.loop-entry-init
loop-entry-init c =
    let listed : Listed = c.args.head.now in
    let start : c.new-pairs.result.items ≡ [] = search rules in
    let none = no_pairs listed c.requires.trades c.args.f in
    record {
      own = subst (All (IsOwn listed c.requires.trades c.args.f)) (sym start) none.own;
      different = subst AreUnrepeated (sym start) none.different;
      rest = subst (λ (pairs : List Pair). each (one_pair listed c.args.f) pairs (items_view c.args.entries.now)
          ≡ each (one_pair listed c.args.f) [] (items_view c.args.entries.now)) (sym start) refl;
    }

pub new_pair-requires : goal.new_pair-requires
new_pair-requires c =
    let same : c.deref.result.now ≡ c.loop-entry.pairs.items = search rules in
    subst (λ (pairs : List Pair). length pairs ≤ most_own_trades * most_own_trades) (sym same)
    (few_new c.args.head.now c.requires.trades c.args.f c.loop-entry.pairs.items c.requires.few
    (record { own = c.loop-entry.invariant.own; different = c.loop-entry.invariant.different }))

pub returns-in_err-pair : goal.returns-in_err-pair
returns-in_err-pair c =
    let listed : Listed = c.args.head.now in
    let p = err_from_is_err_and c.from_residual.result c.from_residual.ensures.1 in
    let same : c.deref.result.now ≡ c.loop-entry.pairs.items = search rules in
    let fails : FailsAsRead c.in_err-pair.field-0.0 (one_pair listed c.args.f c.loop-entry.pairs.items
    (view c.entry-item.result)) =
    subst (λ (pairs : List Pair). FailsAsRead c.in_err-pair.field-0.0
    (one_pair listed c.args.f pairs (view c.entry-item.result))) same c.in_err-pair.ensures in
    rw (p.1, p.2) (each_fails (one_pair listed c.args.f) c.in_err-pair.field-0.0 c.args.entries.now
    c.loop-entry.entry-index c.entry-item.result _ _ c.loop-entry-test.true (rw (← c.entry-item.is) fails)
    c.loop-entry.invariant.rest)

pub loop-entry-preserved : goal.loop-entry-preserved
loop-entry-preserved c =
    let listed : Listed = c.args.head.now in
    let items = c.in_ok-push.ensures.items in
    let same : c.deref.result.now ≡ c.loop-entry.pairs.items = search rules in
    let read : one_pair listed c.args.f c.loop-entry.pairs.items (view c.entry-item.result)
    ≡ Ok (c.loop-entry.pairs.items ++ c.in_ok-pair.pair ∷ []) =
    subst (λ (pairs : List Pair). one_pair listed c.args.f pairs (view c.entry-item.result)
    ≡ Ok (pairs ++ c.in_ok-pair.pair ∷ [])) same c.in_ok-pair.ensures in
    let are = (one_pair_leads listed c.requires.trades c.args.f c.loop-entry.pairs.items (view c.entry-item.result)
    (record { own = c.loop-entry.invariant.own; different = c.loop-entry.invariant.different })).at
    (c.loop-entry.pairs.items ++ c.in_ok-pair.pair ∷ []) read in
    record {
      own = subst (All (IsOwn listed c.requires.trades c.args.f)) (sym items) are.own;
      different = subst AreUnrepeated (sym items) are.different;
      rest = rw items (each_goes_on (one_pair listed c.args.f) c.args.entries.now c.loop-entry.entry-index
          c.entry-item.result _ _ _ c.loop-entry-test.true (rw (← c.entry-item.is) read) c.loop-entry.invariant.rest);
    }

pub returns : goal.returns
returns c = each_is_done (one_pair c.args.head.now c.args.f) c.args.entries.now c.loop-entry.entry-index _ _
    c.loop-entry-test.false c.loop-entry.invariant.rest
