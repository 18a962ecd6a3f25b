-- What shows the clauses of `hold_wide` of `src/held.rt`.
use Rattle.std.proofs.Common.{ℕ, ◌<◌, ◌∙◌, List, length, sym, ap, subst, arith, ℤ, get_or, Option, None}
use Rattle.std.proofs.lemmas.Option.{slice_get_within}
use Rattle.tn_counts.specs.Counts.{AreCounts}
use Rattle.tn_counts.specs.Laminar.{firm_of}
use Rattle.tn_counts.specs.declared.trade.UnitAmounts.{UnitAmounts}
use Rattle.tn_tree.specs.declared.held.FirmCount.{FirmCount}
use Rattle.tn_tree.specs.Held.{AreKept, AreValues, IsHeldAt, firm_count}
use Rattle.tn_tree.specs.Lists.{count_in, rate_of}
use Rattle.tn_tree.proofs.HeldLemmas.{best_within, gain_is, held_is, rates_paid, rates_slight, remade, said_is}
use Rattle.tn_tree.proofs.SolveLemmas.{sized_by}
use Rattle.tn_tree.proofs.held.hold_wide.Goals as goal

pub values_of-requires-clause-as_many : goal.values_of-requires-clause-as_many
values_of-requires-clause-as_many c =
    sized_by (rate_of c.args.prices.now) c.deref.result.now (length c.args.prices.now)
    (length c.args.market.now.trades.items) (c.deref.ensures.value ∙ c.in_ok-rates.ensures) c.requires.priced

pub values_of-requires-clause-small : goal.values_of-requires-clause-small
values_of-requires-clause-small c =
    rates_slight c.args.prices.now c.deref.result.now (c.deref.ensures.value ∙ c.in_ok-rates.ensures) c.requires.small

pub values_of-requires-2-clause-as_many : goal.values_of-requires-2-clause-as_many
values_of-requires-2-clause-as_many c =
    sized_by (rate_of c.args.prices.now) c.deref-2.result.now (length c.args.prices.now)
    (length c.args.market.now.trades.items) (c.deref-2.ensures.value ∙ c.in_ok-rates.ensures) c.requires.priced

pub values_of-requires-2-clause-small : goal.values_of-requires-2-clause-small
values_of-requires-2-clause-small c =
    rates_slight c.args.prices.now c.deref-2.result.now (c.deref-2.ensures.value ∙ c.in_ok-rates.ensures) c.requires.small

pub values_of-requires-2-clause-sold : goal.values_of-requires-2-clause-sold
values_of-requires-2-clause-sold c =
    subst (λ (xs : List ℕ). AreCounts c.args.market.now.trades.items (count_in xs)) (sym c.deref-3.ensures.value)
    (best_within c.args.market.now c.args.prices.now c.in_ok-best.best.sold.items c.in_ok-best.best.bought.items
    c.requires.market c.in_ok-best.ensures.best).0

pub values_of-requires-2-clause-bought : goal.values_of-requires-2-clause-bought
values_of-requires-2-clause-bought c =
    subst (λ (xs : List ℕ). AreCounts c.args.market.now.trades.items (count_in xs)) (sym c.deref-4.ensures.value)
    (best_within c.args.market.now c.args.prices.now c.in_ok-best.best.sold.items c.in_ok-best.best.bought.items
    c.requires.market c.in_ok-best.ensures.best).1

pub firm_counts-requires-clause-utilities : goal.firm_counts-requires-clause-utilities
firm_counts-requires-clause-utilities c = λ f value is.
    c.in_ok-own.ensures.small_utilities f value
    (sym (ap (λ (xs : List (Option ℤ)). get_or xs f None) c.deref-6.ensures.value) ∙ is)

pub firm_counts-requires-clause-bests : goal.firm_counts-requires-clause-bests
firm_counts-requires-clause-bests c = λ f value is.
    c.in_ok-most.ensures.small_utilities f value
    (sym (ap (λ (xs : List (Option ℤ)). get_or xs f None) c.deref-7.ensures.value) ∙ is)

pub keep_own-requires-clause-firms : goal.keep_own-requires-clause-firms
keep_own-requires-clause-firms c =
    let read = ap length c.deref-5.ensures.value in
    let count = c.in_ok-own.ensures.worths in
    sized_by (λ f. firm_count (get_or c.deref-5.result.now f None) (get_or c.deref-6.result.now f None)
    (get_or c.deref-7.result.now f None)) c.deref-8.result.now (length c.deref-5.result.now) c.args.market.now.firms
    (c.deref-8.ensures.value ∙ c.in_ok-firms.ensures) (omega (arith, read, count))

pub returns-clause-firms : goal.returns-clause-firms
returns-clause-firms c =
    let read = ap length c.deref-5.ensures.value in
    let count = c.in_ok-own.ensures.worths in
    sized_by (λ f. firm_count (get_or c.deref-5.result.now f None) (get_or c.deref-6.result.now f None)
    (get_or c.deref-7.result.now f None)) c.in_ok-firms.firms.items (length c.deref-5.result.now)
    c.args.market.now.firms c.in_ok-firms.ensures (omega (arith, read, count))

pub returns-clause-held : goal.returns-clause-held
returns-clause-held c = λ f said at.
    let market = c.args.market.now in
    let worths = c.in_ok-own.own.worths.items in
    let utilities = c.in_ok-own.own.utilities.items in
    let bests = c.in_ok-most.most.utilities.items in
    let firms = c.in_ok-firms.firms.items in
    let sold = c.in_ok-best.best.sold.items in
    let bought = c.in_ok-best.best.bought.items in
    let rates = c.in_ok-rates.rates.items in
    let made = remade c.deref-5.result.now c.deref-6.result.now c.deref-7.result.now worths utilities bests firms
    c.deref-5.ensures.value c.deref-6.ensures.value c.deref-7.ensures.value c.in_ok-firms.ensures in
    let count = c.in_ok-own.ensures.worths in
    let long = sized_by (λ f. firm_count (get_or worths f None) (get_or utilities f None) (get_or bests f None)) firms
    (length worths) market.firms made count in
    let inside = slice_get_within firms f said at in
    let below : f < market.firms = omega (arith, inside, long) in
    let read : f < length worths = omega (arith, below, count) in
    let within = best_within market c.args.prices.now sold bought c.requires.market c.in_ok-best.ensures.best in
    let values = subst (λ (r : List UnitAmounts). AreValues market r c.args.counts.now c.args.counts.now worths utilities)
    c.deref.ensures.value c.in_ok-own.ensures.values in
    let most = subst (λ (r : List UnitAmounts). AreValues market r sold bought c.in_ok-most.most.worths.items bests)
    c.deref-2.ensures.value
    (subst (λ (xs : List ℕ). AreValues market c.deref-2.result.now xs bought c.in_ok-most.most.worths.items bests)
    c.deref-3.ensures.value
    (subst (λ (xs : List ℕ). AreValues market c.deref-2.result.now c.deref-3.result.now xs
    c.in_ok-most.most.worths.items bests) c.deref-4.ensures.value c.in_ok-most.ensures.values)) in
    let kept = subst (λ (xs : List FirmCount). AreKept market.trades.items xs c.args.counts.now sold bought
    c.in_ok-best-2.best.sold.items c.in_ok-best-2.best.bought.items) c.deref-8.ensures.value c.in_ok-best-2.ensures.kept in
    let held = held_is market c.args.counts.now c.args.prices.now rates sold bought c.in_ok-best-2.best.sold.items
    c.in_ok-best-2.best.bought.items worths utilities bests c.in_ok-most.most.worths.items firms f below c.requires.within
    within.0 within.1 (rates_paid market.trades.items c.args.prices.now rates c.in_ok-rates.ensures c.requires.priced)
    values most (c.in_ok-best.ensures.best f below) kept (gain_is worths utilities bests firms (length worths) f made read) in
    subst (IsHeldAt market.trades.items f (firm_of market f) c.args.counts.now c.args.prices.now
    c.in_ok-best-2.best.sold.items c.in_ok-best-2.best.bought.items)
    (said_is worths utilities bests firms (length worths) f made read said at) held
