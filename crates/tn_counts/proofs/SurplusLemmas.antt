-- Where nothing is pinned, a kept flow is counts, whose surplus is what it gains and the constants of all sets.
use Rattle.std.proofs.Common.{◌≡◌, ℕ, zero, suc, ◌+◌, ◌<◌, ◌≤◌, Bool, true, false, ◌==◌, if◌then◌else◌, List, [], ◌∷◌, length, map, Option, Some, option_map, slice_get, refl, sym, ap, ap₂, ◌∙◌, subst, arith, ℤ, pos, ◌+ℤ◌, ◌*ℤ◌}
use Rattle.std.specs.Prelude.{neg_ℤ}
use Rattle.std.specs.List.{range_with_len}
use Rattle.std.proofs.lemmas.Int.{ints}
use Rattle.std.proofs.lemmas.List.FromFn.{length-map-range_with_len}
use Rattle.std.proofs.lemmas.Option.{none-some, same_Some}
use Rattle.tn_base.specs.Options.{both}
use Rattle.tn_links.specs.declared.link.Link.{Link}
use Rattle.tn_links.specs.Flows.{IsKeptFlow, total_gain}
use Rattle.tn_links.specs.Lots.{pushed}
use Rattle.tn_links.specs.Totals.{total}
use Rattle.tn_links.proofs.RoundLemmas.{cycles_gain}
use Rattle.tn_links.proofs.TotalLemmas.{total-same}
use Rattle.tn_counts.specs.Counts.{CountFirm, HaveFirms, IsBestCount, IsEquilibriumByCounts, count_surplus, count_utility, paid_to, trade_at}
use Rattle.tn_counts.specs.Laminar.{added_at, amount_to, amounts_at, bought_by, constants, firm_of, firms_of, holds, set_number, set_sum}
use Rattle.tn_counts.specs.Laws.{CyclesGainByCounts, FlowsAreCounts, LabelsMakeEquilibria, NegativeCyclesBarEquilibria}
use Rattle.tn_counts.specs.Markets.{ArePins, IsMarketWithin, IsWideMarket}
use Rattle.tn_counts.specs.Tree.{AreLinksOf, bought_at, counts_at, null_node, price_by, sold_at}
use Rattle.tn_counts.specs.declared.market.UnitMarket.{UnitMarket}
use Rattle.tn_counts.specs.declared.set.CountSet.{CountSet}
use Rattle.tn_counts.specs.declared.trade.UnitTrade.{UnitTrade}
use Rattle.tn_counts.proofs.ApartLemmas.{firms_have, has_of, surplus_is, worth_is}
use Rattle.tn_counts.proofs.FlowLemmas.{IsFlowOf}
use Rattle.tn_counts.proofs.NetLemmas.{between_at, trade_flow}
use Rattle.tn_counts.proofs.PlainLemmas.{links_plain}
use Rattle.tn_counts.proofs.PriceLemmas.{counts_best}
use Rattle.tn_counts.proofs.SmallLemmas.{sold_within}
use Rattle.tn_counts.proofs.UtilityLemmas.{when}
use Rattle.tn_counts.proofs.WelfareLemmas.{equilibria_efficient}

pub no_pins : (trades : ℕ) → ArePins trades []
no_pins trades = record {
  few = omega arith;
  known = λ k pin at. absurd (none-some pin at);
  once = λ j k one other at_j at_k same. absurd (none-some one at_j);
  small = λ k pin at. absurd (none-some pin at);
}

pub flow_of : (market : UnitMarket) (links : List Link) (levels : List ℕ) → IsWideMarket market → AreLinksOf market [] links
    → IsKeptFlow links levels → IsFlowOf market [] links levels
flow_of market links levels is of kept = record {
  market_is = is;
  of = of;
  plain = links_plain market [] links is (no_pins (length market.trades.items)) of;
  kept = kept;
}

-- as much is bought as sold
pub traded_same : (market : UnitMarket) (links : List Link) (levels : List ℕ) → IsFlowOf market [] links levels
    → (t : ℕ) → t < length market.trades.items → bought_at market levels t ≡ sold_at market levels t
unfolding total
traded_same market links levels flow t below =
    let whole = trade_flow market [] links levels flow t below in
    omega (arith, ints, whole)

-- so each firm has the counts of all
own_same : (market : UnitMarket) (links : List Link) (levels : List ℕ) → IsFlowOf market [] links levels
    → (f t : ℕ) → t < length market.trades.items → counts_at market levels f t ≡ sold_at market levels t
own_same market links levels flow f t below = by (f == (trade_at market.trades.items t).seller)
  where
    by : (b : Bool) → (if b then sold_at market levels t else bought_at market levels t) ≡ sold_at market levels t
    by true = refl
    by false = traded_same market links levels flow t below

-- ---- counts that are the same of each trade

abbrev pub AreSame : List UnitTrade → (ℕ → ℕ) → (ℕ → ℕ) → Type 0
AreSame trades counts others = (t : ℕ) → t < length trades → counts t ≡ others t

number_same : (trades : List UnitTrade) (set : CountSet) (counts others : ℕ → ℕ) → AreSame trades counts others
    → set_number trades set counts ≡ set_number trades set others
number_same trades set counts others same =
    ap (λ (z : ℤ). added_at set (z +ℤ pos set.back))
    (total-same (λ t. when (holds set t) (bought_by set.firm (trade_at trades t) (pos (counts t))))
    (λ t. when (holds set t) (bought_by set.firm (trade_at trades t) (pos (others t)))) (length trades)
    (λ t below. ap (λ (n : ℕ). when (holds set t) (bought_by set.firm (trade_at trades t) (pos n))) (same t below)))

sum_same : (trades : List UnitTrade) (f : ℕ) (counts others : ℕ → ℕ) (sets : List CountSet) → AreSame trades counts others
    → set_sum trades f counts sets ≡ set_sum trades f others sets
sum_same trades f counts others [] same = refl
sum_same trades f counts others (set ∷ sets) same =
    ap₂ (λ (o : Option ℤ) (p : Option ℤ). if f == set.firm then both o p else p) (number_same trades set counts others same)
    (sum_same trades f counts others sets same)

pub worth_same : (market : UnitMarket) (f : ℕ) (counts others : ℕ → ℕ) → AreSame market.trades.items counts others
    → (firm_of market f).worth counts ≡ (firm_of market f).worth others
worth_same market f counts others same =
    ap₂ (λ (z : ℤ) (o : Option ℤ). both (Some z) o)
    (total-same (λ t. amount t *ℤ pos (counts t)) (λ t. amount t *ℤ pos (others t)) (length market.trades.items)
    (λ t below. ap (λ (n : ℕ). amount t *ℤ pos n) (same t below)))
    (sum_same market.trades.items f counts others market.sets.items same)
  where
    amount : ℕ → ℤ
    amount t = amount_to f (trade_at market.trades.items t) (amounts_at market.amounts.items t)

pub best_same : (market : UnitMarket) (scale : ℤ) (prices : ℕ → ℤ) (f : ℕ) (counts others : ℕ → ℕ) (value : ℤ)
    → AreSame market.trades.items counts others
    → IsBestCount market.trades.items (count_utility market.trades.items scale prices f (firm_of market f)) counts value
    → IsBestCount market.trades.items (count_utility market.trades.items scale prices f (firm_of market f)) others value
best_same market scale prices f counts others value same best = record {
  within = λ t below. subst (λ (n : ℕ). n ≤ (trade_at trades t).units) (same t below) (best.within t below);
  is = sym (ap₂ (λ (o : Option ℤ) (z : ℤ). option_map (λ worth. scale *ℤ worth +ℤ z) o)
      (worth_same market f counts others same)
      (total-same (λ t. paid_to f (prices t) (trade_at trades t) *ℤ pos (counts t))
      (λ t. paid_to f (prices t) (trade_at trades t) *ℤ pos (others t)) (length trades)
      (λ t below. ap (λ (n : ℕ). paid_to f (prices t) (trade_at trades t) *ℤ pos n) (same t below))))
      ∙ best.is;
  most = best.most;
}
  where
    trades : List UnitTrade
    trades = market.trades.items

pub prices_same : (trades : List UnitTrade) (scale : ℤ) (prices others : ℕ → ℤ) (f : ℕ) (firm : CountFirm)
    (counts : ℕ → ℕ) (value : ℤ) → ((t : ℕ) → t < length trades → prices t ≡ others t)
    → IsBestCount trades (count_utility trades scale prices f firm) counts value
    → IsBestCount trades (count_utility trades scale others f firm) counts value
prices_same trades scale prices others f firm counts value same best = record {
  within = best.within;
  is = sym (utility counts) ∙ best.is;
  most = λ those other within is. best.most those other within (utility those ∙ is);
}
  where
    utility : (c : ℕ → ℕ) → count_utility trades scale prices f firm c ≡ count_utility trades scale others f firm c
    utility c =
        ap (λ (z : ℤ). option_map (λ worth. scale *ℤ worth +ℤ z) (firm.worth c))
        (total-same (λ t. paid_to f (prices t) (trade_at trades t) *ℤ pos (c t))
        (λ t. paid_to f (others t) (trade_at trades t) *ℤ pos (c t)) (length trades)
        (λ t below. ap (λ (z : ℤ). paid_to f z (trade_at trades t) *ℤ pos (c t)) (same t below)))

-- ---- the firms of a market

range_at : {A : Type 0} (v : ℕ → A) (a n k : ℕ) (x : A) → slice_get (map v (range_with_len a n)) k ≡ Some x
    → (k < n) × (x ≡ v (a + k))
range_at v a zero k x at = absurd (none-some x at)
range_at v a (suc n) zero x at =
    let place : a ≡ a + 0 = omega arith in
    (omega arith, sym (same_Some (v a) x at) ∙ ap v place)
range_at v a (suc n) (suc k) x at =
    let rest = range_at v (a + 1) n k x at in
    let below = rest.0 in
    let place : a + 1 + k ≡ a + suc k = omega arith in
    (omega (arith, below), rest.1 ∙ ap v place)

pub firm_at : (market : UnitMarket) (f : ℕ) (firm : CountFirm) → slice_get (firms_of market) f ≡ Some firm
    → (f < market.firms) × (firm ≡ firm_of market f)
firm_at market f firm at = let found = range_at (firm_of market) 0 market.firms f firm at in
    let place : 0 + f ≡ f = omega arith in
    (found.0, found.1 ∙ ap (firm_of market) place)

surplus_over : (market : UnitMarket) (counts others : ℕ → ℕ) → AreSame market.trades.items counts others → (a n : ℕ)
    → count_surplus (map (firm_of market) (range_with_len a n)) counts
    ≡ count_surplus (map (firm_of market) (range_with_len a n)) others
surplus_over market counts others same a zero = refl
surplus_over market counts others same a (suc n) =
    ap₂ both (worth_same market a counts others same) (surplus_over market counts others same (a + 1) n)

pub surplus_same : (market : UnitMarket) (counts others : ℕ → ℕ) → AreSame market.trades.items counts others
    → count_surplus (firms_of market) counts ≡ count_surplus (firms_of market) others
surplus_same market counts others same = surplus_over market counts others same 0 market.firms

-- so what holds of counts and prices holds of others that are the same of each trade
pub equilibrium_same : (market : UnitMarket) (counts others : ℕ → ℕ) (prices beside : ℕ → ℤ)
    → AreSame market.trades.items counts others
    → ((t : ℕ) → t < length market.trades.items → prices t ≡ beside t)
    → IsEquilibriumByCounts (firms_of market) market.trades.items (pos 1) counts prices
    → IsEquilibriumByCounts (firms_of market) market.trades.items (pos 1) others beside
equilibrium_same market counts others prices beside same as_priced equal f firm at =
    let found = firm_at market f firm at in
    let best = equal f firm at in (
      best.0,
      prices_same market.trades.items (pos 1) prices beside f firm others best.0 as_priced
          (subst (λ (one : CountFirm). IsBestCount market.trades.items
          (count_utility market.trades.items (pos 1) prices f one) others best.0) (sym found.1)
          (best_same market (pos 1) prices f counts others best.0 same
          (subst (λ (one : CountFirm). IsBestCount market.trades.items
          (count_utility market.trades.items (pos 1) prices f one) counts best.0) found.1 best.1))),
    )

pub labels_equilibrium : LabelsMakeEquilibria
labels_equilibrium market links levels label is of kept keeps f firm at =
    let flow = flow_of market links levels is of kept in
    let found = firm_at market f firm at in
    let best = counts_best market [] links levels label
    (record { flow = flow; pins_are = no_pins (length market.trades.items); keeps = keeps }) f found.0 in (
      best.0,
      subst (λ (one : CountFirm). IsBestCount market.trades.items
          (count_utility market.trades.items (pos 1) (price_by market label) f one) (sold_at market levels) best.0) (sym found.1)
          (best_same market (pos 1) (price_by market label) f (counts_at market levels f) (sold_at market levels) best.0
          (λ t below. own_same market links levels flow f t below) best.1),
    )

-- ---- the surplus

pub flows_counts : FlowsAreCounts
unfolding total
flows_counts market links levels is of kept =
    let flow = flow_of market links levels is of kept in
    let worths : ℕ → ℤ = λ f. has_of market (counts_at market levels f) f in
    let sum = surplus_is market (sold_at market levels) worths
    (λ f below. worth_same market f (sold_at market levels) (counts_at market levels f)
    (λ t inside. sym (own_same market links levels flow f t inside)) ∙ worth_is market [] links levels flow f) in
    let have = firms_have market [] links levels flow in
    let whole : total worths market.firms ≡ total_gain links levels +ℤ constants market.sets.items =
    omega (arith, ints, have) in
    record {
      within = λ t below. sold_within market [] links levels flow t below;
      same = λ t below. traded_same market links levels flow t below;
      surplus = sum ∙ ap Some whole;
    }

-- ---- cycles

pub cycles_more : CyclesGainByCounts
cycles_more market links levels lot first rest cost is of kept gain =
    let flow = flow_of market links levels is of kept in
    let gains = cycles_gain (suc (null_node market)) links levels lot first rest cost flow.plain kept gain.negative gain.cycle in
    let before = flows_counts market links levels is of kept in
    let after = flows_counts market links (pushed links lot levels first rest first) is of gains.kept in
    let gained = gains.gained in
    let more : total_gain links (pushed links lot levels first rest first) +ℤ constants market.sets.items
    ≡ (total_gain links levels +ℤ constants market.sets.items) +ℤ neg_ℤ cost = omega (arith, ints, gained) in
    record {
      within = after.within;
      surplus = total_gain links levels +ℤ constants market.sets.items;
      is = before.surplus;
      gained = after.surplus ∙ ap Some more;
    }

pub have_firms : {trades limit : ℕ} (market : UnitMarket) → IsMarketWithin trades limit market
    → HaveFirms (length (firms_of market)) market.trades.items
have_firms market is =
    let sized = length-map-range_with_len (firm_of market) 0 market.firms in
    record {
      sellers = λ t below. let known = (between_at market is t below).seller in omega (arith, known, sized);
      buyers = λ t below. let known = (between_at market is t below).buyer in omega (arith, known, sized);
    }

pub cycles_bar : NegativeCyclesBarEquilibria
cycles_bar market links levels lot first rest cost is of kept gain scale prices least equal =
    let more = cycles_more market links levels lot first rest cost is of kept gain in
    let best = equilibria_efficient (firms_of market) market.trades.items scale (sold_at market levels) prices
    (have_firms market is) least equal in
    let same = same_Some best.0 more.surplus (sym best.1.is ∙ more.is) in
    let below = best.1.most (sold_at market (pushed links lot levels first rest first)) (more.surplus +ℤ neg_ℤ cost)
    more.within more.gained in
    let negative = gain.negative in
    omega (arith, ints, same, below, negative)
