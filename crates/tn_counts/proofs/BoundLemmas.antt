-- A walk between null and a trade, closed over a pin of the trade, makes all firms together lose what it costs and gain or
-- pay the trade's price: so it bounds that price in every equilibrium.
use Rattle.std.proofs.Common.{◌≡◌, ◌≢◌, ℕ, zero, suc, ◌+◌, ◌<◌, ◌≤◌, Bool, true, false, ◌==◌, if◌then◌else◌, List, [], ◌∷◌, ◌++◌, length, get_or, Option, Some, option_map, slice_get, refl, sym, ap, ap₂, ◌∙◌, arith, inl, inr, ◌⊎◌, ℤ, pos, ◌+ℤ◌, ◌-ℤ◌, ◌*ℤ◌, ◌≤ℤ◌}
use Rattle.std.specs.Prelude.{set, unwrap_or}
use Rattle.std.proofs.lemmas.Int.{ints}
use Rattle.std.proofs.lemmas.Bool.{cases_eq, eq-eqb, ne_eqb}
use Rattle.std.proofs.lemmas.List.{length-append, length-set}
use Rattle.std.proofs.lemmas.List.FromFn.{length-map-range_with_len}
use Rattle.std.proofs.lemmas.Option.{none-some, same_Some}
use Rattle.std.proofs.Math.IntN.{*ℤ-zero, zero-*ℤ}
use Rattle.tn_base.specs.Arcs.{IsAtMost}
use Rattle.tn_links.specs.Widths.{most_each}
use Rattle.tn_links.specs.declared.link.Link.{Link}
use Rattle.tn_links.specs.declared.link.Step.{Step}
use Rattle.tn_links.specs.Flows.{AreWithin, balance, brought, flow_at, gain, total_gain}
use Rattle.tn_links.specs.Links.{rise, room}
use Rattle.tn_links.specs.Totals.{total}
use Rattle.tn_links.proofs.TotalLemmas.{times-minus, total-most, total-plus, total-same, total-times, total_one}
use Rattle.tn_counts.specs.Counts.{CountFirm, IsEquilibriumByCounts, count_surplus, payments, trade_at}
use Rattle.tn_counts.specs.Laminar.{constants, firm_of, firms_of}
use Rattle.tn_counts.specs.Markets.{ArePins, IsWideMarket}
use Rattle.tn_counts.specs.Ranges.{IsSettled, LoseTogether}
use Rattle.tn_counts.specs.Tree.{AreLinksOf, HasLink, LinkShape, bought_at, buyer_place, buyer_shape, counts_at, even, null_node, pin_place, pin_shape, price_by, root_node, root_shape, seller_place, seller_shape, set_shape, shape_of, sold_at, trade_node}
use Rattle.tn_counts.specs.declared.market.Pin.{Pin}
use Rattle.tn_counts.specs.declared.market.UnitMarket.{UnitMarket}
use Rattle.tn_counts.specs.declared.trade.UnitTrade.{UnitTrade}
use Rattle.tn_counts.proofs.ApartLemmas.{firms_have, has_of, payments_apart, surplus_is, worth_is}
use Rattle.tn_counts.proofs.FlowLemmas.{IsFlowOf, at_node, at_other, at_same, none_times}
use Rattle.tn_counts.proofs.NetLemmas.{minus_one, trade_flow, trade_nodes}
use Rattle.tn_counts.proofs.PlaceLemmas.{item_at, shaped_at}
use Rattle.tn_counts.proofs.PlainLemmas.{links_plain}
use Rattle.tn_counts.proofs.SmallLemmas.{bought_within, sold_within}
use Rattle.tn_counts.proofs.SurplusLemmas.{firm_at, flows_counts, have_firms, labels_equilibrium}
use Rattle.tn_counts.proofs.WelfareLemmas.{equilibria_efficient, has_worth, payments_cancel}
use Rattle.tn_counts.proofs.WorthLemmas.{even_rise}

-- ---- one link more

-- one item more behind a list
item_front : {A : Type 0} (xs : List A) (y : A) (k : ℕ) (x : A) → slice_get xs k ≡ Some x
    → slice_get (xs ++ y ∷ []) k ≡ Some x
item_front [] y k x is = absurd (none-some x is)
item_front (first ∷ xs) y zero x is = is
item_front (first ∷ xs) y (suc k) x is = item_front xs y k x is

item_last : {A : Type 0} (xs : List A) (y : A) → slice_get (xs ++ y ∷ []) (length xs) ≡ Some y
item_last [] y = refl
item_last (x ∷ xs) y = item_last xs y

get_last : (xs : List ℕ) (y : ℕ) → get_or (xs ++ y ∷ []) (length xs) 0 ≡ y
get_last [] y = refl
get_last (x ∷ xs) y = get_last xs y

balance_more : (links : List Link) (levels : List ℕ) (link : Link) (level v : ℕ) → length levels ≡ length links
    → balance (links ++ link ∷ []) (levels ++ level ∷ []) v ≡ balance links levels v +ℤ brought link (flow_at link level) v
balance_more [] [] link level v sized = omega (arith, ints)
balance_more [] (one ∷ levels) link level v sized = absurd (omega (arith, sized))
balance_more (first ∷ links) [] link level v sized = absurd (omega (arith, sized))
balance_more (first ∷ links) (one ∷ levels) link level v sized =
    let rest = balance_more links levels link level v (omega (arith, sized)) in
    omega (arith, ints, rest)

gain_more : (links : List Link) (levels : List ℕ) (link : Link) (level : ℕ) → length levels ≡ length links
    → total_gain (links ++ link ∷ []) (levels ++ level ∷ []) ≡ total_gain links levels +ℤ gain link level
gain_more [] [] link level sized = omega (arith, ints)
gain_more [] (one ∷ levels) link level sized = absurd (omega (arith, sized))
gain_more (first ∷ links) [] link level sized = absurd (omega (arith, sized))
gain_more (first ∷ links) (one ∷ levels) link level sized =
    let rest = gain_more links levels link level (omega (arith, sized)) in
    omega (arith, ints, rest)

within_more : (links : List Link) (levels : List ℕ) (link : Link) (level : ℕ) → length levels ≡ length links
    → AreWithin links levels → level ≤ room link.steps.items → AreWithin (links ++ link ∷ []) (levels ++ level ∷ [])
within_more [] [] link level sized within last zero n one at level_at =
    let same = ap (λ (l : Link). room l.steps.items) (same_Some link one at) in
    let level_same = same_Some level n level_at in
    omega (arith, last, same, level_same)
within_more [] [] link level sized within last (suc j) n one at level_at = absurd (none-some one at)
within_more [] (n ∷ levels) link level sized within last j m one at level_at = absurd (omega (arith, sized))
within_more (first ∷ links) [] link level sized within last j m one at level_at = absurd (omega (arith, sized))
within_more (first ∷ links) (n ∷ levels) link level sized within last zero m one at level_at = within 0 m one at level_at
within_more (first ∷ links) (n ∷ levels) link level sized within last (suc j) m one at level_at =
    within_more links levels link level (omega (arith, sized)) (λ i k l l_at k_at. within (suc i) k l l_at k_at) last j m one
    at level_at

-- ---- a pin of one trade at 0

abbrev pub pin_at : ℕ → Pin
pin_at t = record { trade = t; price = pos 0 }

-- its link, over which so many units flow
abbrev pin_steps : Step
pin_steps = record { units = 8388608; each = pos 0 }

record IsPinned (market : UnitMarket) (links : List Link) (t : ℕ) : Type 0 where
  link : Link
  shape_is : shape_of link ≡ pin_shape market (pin_at t)

-- a link has any shape of one step
pin_link : (market : UnitMarket) (links : List Link) (t : ℕ) → AreLinksOf market [] links
    → t < length market.trades.items → IsPinned market links t
pin_link market links t of below =
    let found = shaped_at links (seller_place market t) (seller_shape market t) (of.sellers t below) in
    let steps = found.link.steps in
    let items : steps.items ≡ even (trade_at market.trades.items t).units _ = ap (λ (s : LinkShape). s.steps) found.shape_is in
    record {
      link = record {
        tail = trade_node market t;
        head = null_node market;
        back = 4194304;
        steps = record steps {
          items = set steps.items 0 pin_steps;
          ok = (steps.ok.0 ∙ sym (length-set steps.items 0 pin_steps), steps.ok.1);
        };
      };
      shape_is = ap (λ (xs : List Step). record {
        tail = trade_node market t;
        head = null_node market;
        back = 4194304;
        steps = set xs 0 pin_steps;
      }) items;
    }

-- ---- a flow that is uneven at one trade

-- so many units come to a trade's node more than leave it, and leave null
pub record IsShifted (market : UnitMarket) (links : List Link) (levels : List ℕ) (t : ℕ) (z : ℤ) : Type 0 where
  pub one_each : length levels ≡ length links
  pub within : AreWithin links levels
  pub balanced : (v : ℕ) → balance links levels v
      ≡ (if v == trade_node market t then z else pos 0) -ℤ (if v == null_node market then z else pos 0)

-- a level of the pin's link
pub record IsPinLevel (z : ℤ) (level : ℕ) : Type 0 where
  pub within : level ≤ 8388608
  pub is : pos level ≡ pos 4194304 +ℤ z

pins_one : (market : UnitMarket) (t : ℕ) → t < length market.trades.items
    → ArePins (length market.trades.items) (pin_at t ∷ [])
pins_one market t below = record { few = omega (arith, below); known = known; once = once; small = small }
  where
    known : (k : ℕ) (pin : Pin) → slice_get (pin_at t ∷ []) k ≡ Some pin → pin.trade < length market.trades.items
    known zero pin at = let same = ap (λ (p : Pin). p.trade) (same_Some (pin_at t) pin at) in omega (arith, same, below)
    known (suc k) pin at = absurd (none-some pin at)

    once : (j k : ℕ) (one other : Pin) → slice_get (pin_at t ∷ []) j ≡ Some one → slice_get (pin_at t ∷ []) k ≡ Some other
        → one.trade ≡ other.trade → j ≡ k
    once zero zero one other at_j at_k same = refl
    once zero (suc k) one other at_j at_k same = absurd (none-some other at_k)
    once (suc j) k one other at_j at_k same = absurd (none-some one at_j)

    small : (k : ℕ) (pin : Pin) → slice_get (pin_at t ∷ []) k ≡ Some pin → IsAtMost pin.price most_each
    small zero pin at =
        let same = ap (λ (p : Pin). p.price) (same_Some (pin_at t) pin at) in
        record { low = omega (arith, ints, same); high = omega (arith, ints, same) }
    small (suc k) pin at = absurd (none-some pin at)

links_pinned : (market : UnitMarket) (links : List Link) (t : ℕ) → AreLinksOf market [] links
    → (pinned : IsPinned market links t) → AreLinksOf market (pin_at t ∷ []) (links ++ pinned.link ∷ [])
links_pinned market links t of pinned = record {
  all = let sum = length-append links (pinned.link ∷ []) in let sized = of.all in omega (arith, sum, sized);
  sets = λ i set at. more i (set_shape market i set) (of.sets i set at);
  roots = λ f below. more (root_node market f) (root_shape market f) (of.roots f below);
  sellers = λ k below. more (seller_place market k) (seller_shape market k) (of.sellers k below);
  buyers = λ k below. more (buyer_place market k) (buyer_shape market k) (of.buyers k below);
  pinned = last;
}
  where
    more : (j : ℕ) (shape : LinkShape) → HasLink links j shape → HasLink (links ++ pinned.link ∷ []) j shape
    more j shape has =
        let found = shaped_at links j shape has in
        ap (option_map shape_of) (item_front links pinned.link j found.link found.is)
        ∙ ap (λ (s : LinkShape). Some s) found.shape_is

    last : (k : ℕ) (pin : Pin) → slice_get (pin_at t ∷ []) k ≡ Some pin
        → HasLink (links ++ pinned.link ∷ []) (pin_place market k) (pin_shape market pin)
    last zero pin at =
        ap (λ (j : ℕ). option_map shape_of (slice_get (links ++ pinned.link ∷ []) j)) (sym of.all)
        ∙ ap (option_map shape_of) (item_last links pinned.link)
        ∙ ap (λ (s : LinkShape). Some s) pinned.shape_is
        ∙ ap (λ (p : Pin). Some (pin_shape market p)) (same_Some (pin_at t) pin at)
    last (suc k) pin at = absurd (none-some pin at)

-- what the pin brings back makes it a kept flow
pinned_flow : (market : UnitMarket) (links : List Link) (levels : List ℕ) (t level : ℕ) (z : ℤ) → IsWideMarket market
    → AreLinksOf market [] links → t < length market.trades.items → IsShifted market links levels t z
    → IsPinLevel z level → (pinned : IsPinned market links t)
    → IsFlowOf market (pin_at t ∷ []) (links ++ pinned.link ∷ []) (levels ++ level ∷ [])
pinned_flow market links levels t level z is of below shifted pin_level pinned = record {
  market_is = is;
  of = links_pinned market links t of pinned;
  plain = links_plain market (pin_at t ∷ []) (links ++ link ∷ []) is (pins_one market t below)
      (links_pinned market links t of pinned);
  kept = record {
    one_each = length-append levels (level ∷ []) ∙ sized ∙ sym (length-append links (link ∷ []));
    within = within_more links levels link level shifted.one_each shifted.within
        (let few = pin_level.within in let steps = ap (λ (s : LinkShape). room s.steps) pinned.shape_is in
        omega (arith, few, steps));
    kept = kept;
  };
}
  where
    link : Link
    link = pinned.link

    sized : length levels + 1 ≡ length links + 1
    sized = let same = shifted.one_each in omega (arith, same)

    kept : (v : ℕ) → balance (links ++ link ∷ []) (levels ++ level ∷ []) v ≡ pos 0
    kept v =
        let more = balance_more links levels link level v shifted.one_each in
        let here = shifted.balanced v in
        let back = ap (λ (s : LinkShape). s.back) pinned.shape_is in
        let flow : flow_at link level ≡ z = let e = pin_level.is in omega (arith, ints, e, back) in
        let brings : brought link (flow_at link level) v
        ≡ (if v == null_node market then z else pos 0) -ℤ (if v == trade_node market t then z else pos 0) =
        ap (λ (y : ℤ). brought link y v) flow
        ∙ ap₂ (λ (h : ℕ) (l : ℕ). (if v == h then z else pos 0) -ℤ (if v == l then z else pos 0))
        (ap (λ (s : LinkShape). s.head) pinned.shape_is) (ap (λ (s : LinkShape). s.tail) pinned.shape_is) in
        omega (arith, ints, more, here, brings)

-- its counts differ at that trade alone
uneven : (market : UnitMarket) (links : List Link) (levels : List ℕ) (t : ℕ) (z : ℤ)
    → IsFlowOf market (pin_at t ∷ []) links levels → t < length market.trades.items
    → pos (get_or levels (pin_place market 0) 0) ≡ pos 4194304 +ℤ z → (k : ℕ) → k < length market.trades.items
    → pos (sold_at market levels k) -ℤ pos (bought_at market levels k) ≡ (if k == t then z else pos 0)
unfolding total
uneven market links levels t z flow below level_is k inside =
    let label : ℕ → ℤ = at_node (trade_node market k) in
    let whole = trade_flow market (pin_at t ∷ []) links levels flow k inside in
    let null = at_other (trade_node market k) (null_node market) (λ e. omega (arith, e, inside)) in
    let moved : ℤ = pos (get_or levels (pin_place market 0) 0) -ℤ pos 4194304 in
    elim (cases_eq k t) [
      | inl same ↦
          let own = at_same (trade_node market k) (trade_node market t) (ap (trade_node market) (sym same)) in
          let pulls = minus_one (label (null_node market) -ℤ label (trade_node market t)) moved (omega (arith, ints, null, own)) in
          let test = ap (λ (b : Bool). if b then z else pos 0) (eq-eqb k t same) in
          omega (arith, ints, whole, pulls, test, level_is)
      | inr other ↦
          let own = at_other (trade_node market k) (trade_node market t)
          (trade_nodes market t k (λ e. other (sym e))) in
          let pulls = none_times (label (null_node market) -ℤ label (trade_node market t)) moved
          (omega (arith, ints, null, own)) in
          let test = ap (λ (b : Bool). if b then z else pos 0) (ne_eqb k t other) in
          omega (arith, ints, whole, pulls, test)
    ]

-- ---- no firm has more than at an equilibrium

pub firm_there : (market : UnitMarket) (f : ℕ) → f < market.firms → slice_get (firms_of market) f ≡ Some (firm_of market f)
firm_there market f below =
    let sized = length-map-range_with_len (firm_of market) 0 market.firms in
    let found = item_at (firms_of market) f (omega (arith, below, sized)) in
    found.1 ∙ ap (λ (one : CountFirm). Some one) (firm_at market f found.0 found.1).1

-- so the firms' worths at other counts of each, and what these bring, are no more than the scale times the surplus
pub below_equilibrium : (market : UnitMarket) (pins : List Pin) (links : List Link) (levels : List ℕ) (scale surplus : ℤ)
    (counts : ℕ → ℕ) (prices : ℕ → ℤ) → IsFlowOf market pins links levels
    → IsEquilibriumByCounts (firms_of market) market.trades.items scale counts prices
    → count_surplus (firms_of market) counts ≡ Some surplus
    → (scale *ℤ total (λ f. has_of market (counts_at market levels f) f) market.firms
    +ℤ total (λ t. prices t *ℤ (pos (sold_at market levels t) -ℤ pos (bought_at market levels t)))
    (length market.trades.items)) ≤ℤ (scale *ℤ surplus)
below_equilibrium market pins links levels scale surplus counts prices flow equal surplus_at =
    let own : ℕ → ℤ = λ f. has_of market (counts_at market levels f) f in
    let own_paid : ℕ → ℤ = λ f. payments trades prices f (counts_at market levels f) in
    let paid : ℕ → ℤ = λ f. payments trades prices f counts in
    let most = total-most (λ f. scale *ℤ own f +ℤ own_paid f) (λ f. scale *ℤ worth f +ℤ paid f) market.firms each in
    let first = total-plus (λ f. scale *ℤ own f) own_paid market.firms in
    let second = total-plus (λ f. scale *ℤ worth f) paid market.firms in
    let own_times = total-times scale own market.firms in
    let times = total-times scale worth market.firms in
    let sized = length-map-range_with_len (firm_of market) 0 market.firms in
    let count = ap (total paid) sized in
    let cancels = payments_cancel (length (firms_of market)) trades prices counts (have_firms market flow.market_is) in
    let left = payments_apart market levels prices flow.market_is in
    let sum = same_Some (total worth market.firms) surplus (sym (surplus_is market counts worth (λ f below. (parts f below).0))
    ∙ surplus_at) in
    let whole = ap (λ (z : ℤ). scale *ℤ z) sum in
    omega (arith, ints, most, first, second, own_times, times, count, cancels, left, whole)
  where
    trades : List UnitTrade
    trades = market.trades.items

    worth : ℕ → ℤ
    worth f = unwrap_or ((firm_of market f).worth counts) (pos 0)

    within : (f : ℕ) → (t : ℕ) → t < length trades → counts_at market levels f t ≤ (trade_at trades t).units
    within f t below = by (f == (trade_at trades t).seller)
      where
        by : (b : Bool) → (if b then sold_at market levels t else bought_at market levels t) ≤ (trade_at trades t).units
        by true = sold_within market pins links levels flow t below
        by false = bought_within market pins links levels flow t below

    -- its worth, and that its utility is the greatest
    parts : (f : ℕ) → f < market.firms → ((firm_of market f).worth counts ≡ Some (worth f))
        × ((scale *ℤ has_of market (counts_at market levels f) f
        +ℤ payments trades prices f (counts_at market levels f))
        ≤ℤ (scale *ℤ worth f +ℤ payments trades prices f counts))
    parts f below =
        let best = equal f (firm_of market f) (firm_there market f below) in
        let own = has_worth scale (payments trades prices f counts) ((firm_of market f).worth counts) best.0 best.1.is in
        let same : worth f ≡ own.worth = ap (λ (o : Option ℤ). unwrap_or o (pos 0)) own.is in
        let value = own.value_is in
        let times = ap (λ (z : ℤ). scale *ℤ z) same in
        let most = best.1.most (counts_at market levels f)
        (scale *ℤ has_of market (counts_at market levels f) f +ℤ payments trades prices f (counts_at market levels f))
        (within f)
        (ap (option_map (λ worth. scale *ℤ worth +ℤ payments trades prices f (counts_at market levels f)))
        (worth_is market pins links levels flow f)) in (
          own.is ∙ ap (λ (z : ℤ). Some z) (sym same),
          omega (arith, ints, most, value, times),
        )

    each : (f : ℕ) → f < market.firms
        → (scale *ℤ has_of market (counts_at market levels f) f
        +ℤ payments trades prices f (counts_at market levels f))
        ≤ℤ (scale *ℤ worth f +ℤ payments trades prices f counts)
    each f below = (parts f below).1

-- ---- bounds of prices

-- a flow that is settled, and another that is uneven at one trade
pub record IsUneven (market : UnitMarket) (links : List Link) (levels after : List ℕ) (label : ℕ → ℤ) (t : ℕ) (z cost : ℤ) :
    Type 0 where
  pub settled : IsSettled market links levels label
  pub below : t < length market.trades.items
  pub shifted : IsShifted market links after t z
  pub gained : total_gain links after ≡ total_gain links levels -ℤ cost

-- closed over a pin it is a kept flow, at whose counts all firms together lose what it costs
pub record IsClosed (market : UnitMarket) (links : List Link) (levels now : List ℕ) (t : ℕ) (z cost : ℤ) : Type 0 where
  pub all : List Link
  pub flow : IsFlowOf market (pin_at t ∷ []) all now
  pub differ : (k : ℕ) → k < length market.trades.items
      → pos (sold_at market now k) -ℤ pos (bought_at market now k) ≡ (if k == t then z else pos 0)
  pub has : total (λ f. has_of market (counts_at market now f) f) market.firms
      ≡ (total_gain links levels +ℤ constants market.sets.items) -ℤ cost

pub closed : (market : UnitMarket) (links : List Link) (levels after : List ℕ) (label : ℕ → ℤ) (t level : ℕ) (z cost : ℤ)
    → IsUneven market links levels after label t z cost → IsPinLevel z level
    → IsClosed market links levels (after ++ level ∷ []) t z cost
unfolding total
closed market links levels after label t level z cost uneven_is pin_level =
    let is = uneven_is.settled.market_is in
    let pinned = pin_link market links t uneven_is.settled.of uneven_is.below in
    let all = links ++ pinned.link ∷ [] in
    let now = after ++ level ∷ [] in
    let flow = pinned_flow market links after t level z is uneven_is.settled.of uneven_is.below uneven_is.shifted pin_level pinned in
    let sized = uneven_is.shifted.one_each ∙ uneven_is.settled.of.all in
    let level_at : get_or now (pin_place market 0) 0 ≡ level =
    ap (λ (j : ℕ). get_or now j 0) (sym sized) ∙ get_last after level in
    let level_is : pos (get_or now (pin_place market 0) 0) ≡ pos 4194304 +ℤ z =
    ap (λ (n : ℕ). pos n) level_at ∙ pin_level.is in
    let have = firms_have market (pin_at t ∷ []) all now flow in
    let gained = uneven_is.gained in
    let more = gain_more links after pinned.link level uneven_is.shifted.one_each in
    let steps = ap (λ (s : LinkShape). rise s.steps level -ℤ rise s.steps s.back) pinned.shape_is in
    let few = pin_level.within in
    let at_level = even_rise 8388608 level (pos 0) few in
    let at_back = even_rise 8388608 4194304 (pos 0) (omega arith) in
    let now_level = even_rise 8388608 (get_or now (pin_place market 0) 0) (pos 0) (omega (arith, level_at, few)) in
    let none_level = zero-*ℤ (pos level) in
    let none_back = zero-*ℤ (pos 4194304) in
    let none_now = zero-*ℤ (pos (get_or now (pin_place market 0) 0)) in
    record {
      all = all;
      flow = flow;
      differ = λ k inside. uneven market all now t z flow uneven_is.below level_is k inside;
      has = omega (arith, ints, have, gained, more, steps, at_level, at_back, now_level, none_level, none_back, none_now);
    }

-- as many units at the trade's price are at most what the uneven flow costs
pub uneven_bound : (market : UnitMarket) (links : List Link) (levels after : List ℕ) (label : ℕ → ℤ) (t level : ℕ) (z cost : ℤ)
    → IsUneven market links levels after label t z cost → IsPinLevel z level → (scale : ℤ) (counts : ℕ → ℕ) (prices : ℕ → ℤ)
    → pos 1 ≤ℤ scale → IsEquilibriumByCounts (firms_of market) market.trades.items scale counts prices
    → (prices t *ℤ z) ≤ℤ (scale *ℤ cost)
uneven_bound market links levels after label t level z cost uneven_is pin_level scale counts prices least equal =
    let is = uneven_is.settled.market_is in
    let now = after ++ level ∷ [] in
    let round = closed market links levels after label t level z cost uneven_is pin_level in
    let best = equilibria_efficient (firms_of market) market.trades.items scale counts prices (have_firms market is) least
    equal in
    let settled = equilibria_efficient (firms_of market) market.trades.items (pos 1) (sold_at market levels)
    (price_by market label) (have_firms market is) (omega (arith, ints))
    (labels_equilibrium market links levels label is uneven_is.settled.of uneven_is.settled.kept uneven_is.settled.keeps) in
    let counted = flows_counts market links levels is uneven_is.settled.of uneven_is.settled.kept in
    let surplus = same_Some settled.0 (total_gain links levels +ℤ constants market.sets.items)
    (sym settled.1.is ∙ counted.surplus) in
    let no_more = settled.1.most counts best.0 best.1.within best.1.is in
    let no_less = best.1.most (sold_at market levels) settled.0 settled.1.within settled.1.is in
    let below = below_equilibrium market (pin_at t ∷ []) round.all now scale best.0 counts prices round.flow equal best.1.is in
    let sum = round.has in
    let has : total (λ f. has_of market (counts_at market now f) f) market.firms ≡ best.0 -ℤ cost =
    omega (arith, ints, sum, surplus, no_more, no_less) in
    let times = ap (λ (x : ℤ). scale *ℤ x) has in
    let parts = times-minus scale best.0 cost in
    let same = total-same (λ k. prices k *ℤ (pos (sold_at market now k) -ℤ pos (bought_at market now k)))
    (λ k. if k == t then prices t *ℤ z else pos 0) (length market.trades.items)
    (λ k inside. paid k (pos (sold_at market now k) -ℤ pos (bought_at market now k)) (cases_eq k t) (round.differ k inside)) in
    let one = total_one (prices t *ℤ z) t (length market.trades.items) uneven_is.below in
    omega (arith, ints, below, times, parts, same, one)
  where
    paid : (k : ℕ) (x : ℤ) → (k ≡ t) ⊎ (k ≢ t) → x ≡ (if k == t then z else pos 0)
        → prices k *ℤ x ≡ (if k == t then prices t *ℤ z else pos 0)
    paid k x (inl same) is =
        let test = eq-eqb k t same in
        ap (λ (y : ℤ). prices k *ℤ y) (is ∙ ap (λ (b : Bool). if b then z else pos 0) test)
        ∙ ap (λ (j : ℕ). prices j *ℤ z) same ∙ sym (ap (λ (b : Bool). if b then prices t *ℤ z else pos 0) test)
    paid k x (inr other) is =
        let test = ne_eqb k t other in
        ap (λ (y : ℤ). prices k *ℤ y) (is ∙ ap (λ (b : Bool). if b then z else pos 0) test)
        ∙ *ℤ-zero (prices k) ∙ sym (ap (λ (b : Bool). if b then prices t *ℤ z else pos 0) test)

-- in the words of counts
pub lose_together : (market : UnitMarket) (links : List Link) (levels now : List ℕ) (label : ℕ → ℤ) (t : ℕ) (z cost : ℤ)
    → IsSettled market links levels label → IsClosed market links levels now t z cost
    → LoseTogether market (sold_at market levels) (sold_at market now) (bought_at market now) cost
lose_together market links levels now label t z cost settled round = record {
  sold_within = λ k below. sold_within market (pin_at t ∷ []) round.all now round.flow k below;
  bought_within = λ k below. bought_within market (pin_at t ∷ []) round.all now round.flow k below;
  surplus = total_gain links levels +ℤ constants market.sets.items;
  is = (flows_counts market links levels settled.market_is settled.of settled.kept).surplus;
  worths = λ f. has_of market (counts_at market now f) f;
  each = λ f below. worth_is market (pin_at t ∷ []) round.all now round.flow f;
  sum = round.has;
}
