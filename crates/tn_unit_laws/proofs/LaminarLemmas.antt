-- A unit firm of a laminar firm by counts is a sum of concave functions of net counts over nested sets of positions.
use Rattle.std.proofs.Common.{◌≡◌, ℕ, zero, suc, ◌+◌, ◌^◌, ◌<◌, ◌≤◌, Bool, true, false, not, ◌==◌, ◌&&◌, nat_lt, if◌then◌else◌, List, [], ◌∷◌, length, slice_get, Option, Some, None, inl, inr, refl, sym, ap, ap₂, ◌∙◌, subst, arith, ℤ, pos, neg_ℤ, ◌+ℤ◌, ◌-ℤ◌, ◌*ℤ◌}
use Rattle.std.specs.Prelude.{negsuc, nat_le}
use Rattle.std.proofs.lemmas.Bool.{and_parts, cases_Bool, eqb-true, le-leb, leb-true, lt-ltb, ltb-true}
use Rattle.std.proofs.lemmas.Int.{ints}
use Rattle.std.proofs.lemmas.Option.{none-some, same_Some}
use Rattle.std.proofs.Math.IntN.{zero-*ℤ}
use Rattle.tn_base.specs.Exchange.{MeetsExchange}
use Rattle.tn_base.specs.Firm.{Firm, HasOwnBundles, net}
use Rattle.tn_base.specs.Options.{both}
use Rattle.tn_base.specs.Sets.{has, meet, minus, set_of, size_below, sum_over}
use Rattle.tn_base.specs.Table.{buys_of}
use Rattle.tn_base.proofs.FirmLemmas.{net_at}
use Rattle.tn_base.proofs.SetLemmas.{has-meet, has-minus, has-set_of, has-zero, meet_within, member_of_set, minus-zero_from, same_set, set_of_within}
use Rattle.tn_base.proofs.SumLemmas.{sum_over-same_terms}
use Rattle.tn_firm_laws.specs.Nested.{AreEnoughAt, AreNested, CountTerm, Cross, IsConcave, count_sum, nested_sum}
use Rattle.tn_firm_laws.specs.Places.{ExchangesOverPlaces}
use Rattle.tn_firm_laws.proofs.ExchangeLemmas.{exchange_from_places, exchange_to_places}
use Rattle.tn_firm_laws.proofs.NestedLemmas.{meets-nested}
use Rattle.tn_links.specs.Links.{AreFalling, rise, room}
use Rattle.tn_links.proofs.ConcaveLemmas.{rise_later}
use Rattle.tn_links.proofs.TotalLemmas.{total-same}
use Rattle.tn_model.specs.InOrder.{sides_of}
use Rattle.tn_model.specs.Network.{own}
use Rattle.tn_counts.specs.Counts.{trade_at}
use Rattle.tn_counts.specs.Laminar.{added_at, amount_to, amounts_at, bought_by, firm_of, firms_of, holds, net_count, set_number, set_sum}
use Rattle.tn_counts.specs.Markets.{AreLaminar, IsUnitMarket}
use Rattle.tn_counts.specs.declared.market.UnitMarket.{UnitMarket}
use Rattle.tn_counts.specs.declared.set.CountSet.{CountSet}
use Rattle.tn_counts.specs.declared.trade.UnitTrade.{UnitTrade}
use Rattle.tn_counts.proofs.SurplusLemmas.{firm_at}
use Rattle.tn_unit_laws.specs.Laws.{FitByCounts, MarketsMeetExchange}
use Rattle.tn_unit_laws.specs.Units.{counts_of, own_units, trade_of, unit_firm, unit_trades}
use Rattle.tn_unit_laws.proofs.UnitLemmas.{comes_from}
use Rattle.tn_unit_laws.proofs.MarketLemmas.{markets_fit}
use Rattle.tn_unit_laws.proofs.PaymentLemmas.{side_at, sum_by_counts}

-- ---- firms with the same worths

abbrev pub with_worth : ℕ → ℕ → (ℕ → Option ℤ) → Firm
with_worth count buys worth = record { count = count; buys = buys; worth = worth }

-- exchange alike
pub exchange_alike : (count buys : ℕ) (one other : ℕ → Option ℤ) → ((x : ℕ) → one x ≡ other x)
    → HasOwnBundles (with_worth count buys other) × MeetsExchange (with_worth count buys other)
    → HasOwnBundles (with_worth count buys one) × MeetsExchange (with_worth count buys one)
exchange_alike count buys one other same law =
    (own_ones, exchange_from_places (with_worth count buys one) own_ones exchanges)
  where
    own_ones : HasOwnBundles (with_worth count buys one)
    own_ones x a at = law.0 x a (sym (same x) ∙ at)

    exchanges : ExchangesOverPlaces (with_worth count buys one)
    exchanges x y a b at_x at_y i is_place up =
        let found = exchange_to_places (with_worth count buys other) law.0 law.1 x y a b (sym (same x) ∙ at_x)
        (sym (same y) ∙ at_y) i is_place up in
        record {
          at = found.at;
          is_place = found.is_place;
          is_down = found.is_down;
          enough = record {
            first = found.enough.first;
            second = found.enough.second;
            first_is = same _ ∙ found.enough.first_is;
            second_is = same _ ∙ found.enough.second_is;
            enough = found.enough.enough;
          };
        }

-- ---- net counts as sums

-- one unit bought, or one sold
abbrev pub sign : Bool → ℤ
sign bought = if bought then pos 1 else neg_ℤ (pos 1)

net_below : (buys x n : ℕ) → pos (size_below n (meet x buys)) -ℤ pos (size_below n (minus x buys))
    ≡ sum_over (λ k. sign (has buys k)) n x
unfolding size_below sum_over
net_below buys x zero = refl
net_below buys x (suc n) =
    let before = net_below buys x n in
    let within = has-meet x buys n in
    let outside = has-minus x buys n in
    let here = by (has x n) (has buys n) in
    let first : pos (if has (meet x buys) n then 1 else 0) ≡ pos (if has x n && has buys n then 1 else 0) =
    ap (λ (b : Bool). pos (if b then 1 else 0)) within in
    let second : pos (if has (minus x buys) n then 1 else 0) ≡ pos (if has x n && not (has buys n) then 1 else 0) =
    ap (λ (b : Bool). pos (if b then 1 else 0)) outside in
    omega (arith, ints, before, here, first, second)
  where
    by : (b c : Bool) → pos (if b && c then 1 else 0) -ℤ pos (if b && not c then 1 else 0)
        ≡ (if b then sign c else pos 0)
    by true true = refl
    by true false = refl
    by false c = refl

pub net_sum : (n buys x : ℕ) → x < 2 ^ n → net buys x ≡ sum_over (λ k. sign (has buys k)) n x
net_sum n buys x below = net_at n buys x below ∙ net_below buys x n

-- a sum over what is in both sets
sum_over-meet : (c : ℕ → ℤ) (x m n : ℕ) → sum_over c n (meet x m) ≡ sum_over (λ k. if has m k then c k else pos 0) n x
unfolding sum_over
sum_over-meet c x m zero = refl
sum_over-meet c x m (suc n) =
    ap₂ (λ (z w : ℤ). z +ℤ w) (sum_over-meet c x m n)
    (ap (λ (b : Bool). if b then c n else pos 0) (has-meet x m n) ∙ by (has x n) (has m n))
  where
    by : (a b : Bool) → (if a && b then c n else pos 0) ≡ (if a then (if b then c n else pos 0) else pos 0)
    by true b = refl
    by false b = refl

-- ---- what a set adds is concave

added_concave : (set : CountSet) → AreFalling set.steps.items → IsConcave (λ z. added_at set (z +ℤ pos set.back))
added_concave set falling a b u v at_a at_b less =
    by (a +ℤ pos set.back) (b +ℤ pos set.back) refl refl at_a at_b
  where
    there : (m : ℕ) (w : ℤ) → added_at set (pos m) ≡ Some w → (m ≤ room set.steps.items)
        × (w ≡ set.constant +ℤ (rise set.steps.items m -ℤ rise set.steps.items set.back))
    there m w at = elim (cases_Bool (nat_le m (room set.steps.items))) [
      | inl inside ↦ (
        leb-true m (room set.steps.items) inside,
        sym (same_Some (set.constant +ℤ (rise set.steps.items m -ℤ rise set.steps.items set.back)) w
            (sym (ap (λ (t : Bool). if t then Some (set.constant +ℤ (rise set.steps.items m
            -ℤ rise set.steps.items set.back)) else None) inside) ∙ at)),
      )
      | inr past ↦ absurd (none-some w (sym (ap (λ (t : Bool). if t then Some (set.constant +ℤ (rise set.steps.items m
          -ℤ rise set.steps.items set.back)) else None) past) ∙ at))
    ]

    is_there : (m : ℕ) → m ≤ room set.steps.items → added_at set (pos m)
        ≡ Some (set.constant +ℤ (rise set.steps.items m -ℤ rise set.steps.items set.back))
    is_there m inside = ap (λ (t : Bool). if t then Some (set.constant +ℤ (rise set.steps.items m
        -ℤ rise set.steps.items set.back)) else None) (le-leb m (room set.steps.items) inside)

    by : (y z : ℤ) → a +ℤ pos set.back ≡ y → b +ℤ pos set.back ≡ z → added_at set y ≡ Some u → added_at set z ≡ Some v
        → AreEnoughAt (λ w. added_at set (w +ℤ pos set.back)) (a +ℤ pos 1) (b -ℤ pos 1) (u +ℤ v)
    by (pos m) (pos zero) first second at_a at_b = absurd (omega (arith, ints, first, second, less))
    by (pos m) (pos (suc l)) first second at_a at_b =
        let low = there m u at_a in
        let high = there (suc l) v at_b in
        let below = high.0 in
        let order : m ≤ l = omega (arith, ints, first, second, less) in
        let up : a +ℤ pos 1 +ℤ pos set.back ≡ pos (suc m) = omega (arith, ints, first) in
        let down : b -ℤ pos 1 +ℤ pos set.back ≡ pos l = omega (arith, ints, second) in
        let later = rise_later set.steps.items falling m l 1 order (omega (arith, below)) in
        let u_is = low.1 in
        let v_is = high.1 in
        let next : rise set.steps.items (m + 1) ≡ rise set.steps.items (suc m) =
        ap (rise set.steps.items) (let e : m + 1 ≡ suc m = omega arith in e) in
        let last : rise set.steps.items (l + 1) ≡ rise set.steps.items (suc l) =
        ap (rise set.steps.items) (let e : l + 1 ≡ suc l = omega arith in e) in
        record {
          first = set.constant +ℤ (rise set.steps.items (suc m) -ℤ rise set.steps.items set.back);
          second = set.constant +ℤ (rise set.steps.items l -ℤ rise set.steps.items set.back);
          first_is = ap (added_at set) up ∙ is_there (suc m) (omega (arith, order, below));
          second_is = ap (added_at set) down ∙ is_there l (omega (arith, below));
          enough = omega (arith, ints, later, u_is, v_is, next, last);
        }
    by (negsuc k) z first second at_a at_b = absurd (none-some u at_a)
    by (pos m) (negsuc k) first second at_a at_b = absurd (none-some v at_b)

-- ---- one firm of a market

module _ (market : UnitMarket) (is_market : IsUnitMarket market) (f : ℕ)
    (is : slice_get (firms_of market) f ≡ Some (firm_of market f)) where
  abbrev trades : List UnitTrade
  trades = market.trades.items

  abbrev n : ℕ
  n = own_units trades f

  abbrev buys : ℕ
  buys = buys_of (sides_of (unit_trades trades) f)

  -- the trade at a position
  abbrev at : ℕ → ℕ
  at k = trade_of trades (own (unit_trades trades) f k)

  fit : FitByCounts (firms_of market) trades
  fit = markets_fit market is_market

  abbrev amount : ℕ → ℤ
  amount t = amount_to f (trade_at trades t) (amounts_at market.amounts.items t)

  abbrev term_of : CountSet → CountTerm
  term_of set = record {
    members = set_of (λ k. holds set (at k)) n;
    number_at = λ z. added_at set (z +ℤ pos set.back);
  }

  abbrev terms_of : List CountSet → List CountTerm
  terms_of [] = []
  terms_of (set ∷ sets) = if f == set.firm then term_of set ∷ terms_of sets else terms_of sets

  abbrev nested : Firm
  nested = nested_sum n buys (λ k. amount (at k)) (terms_of market.sets.items)

  -- the net count within a set
  net_is : (set : CountSet) (x : ℕ) → set.firm ≡ f → x < 2 ^ n
      → net buys (meet x (term_of set).members) ≡ net_count trades set (counts_of trades f x)
  net_is set x own_set below =
      net_sum n buys (meet x (term_of set).members) (meet_within x (term_of set).members n below)
      ∙ sum_over-meet (λ k. sign (has buys k)) x (term_of set).members n
      ∙ sum_over-same_terms (λ k. if has (term_of set).members k then sign (has buys k) else pos 0)
      (λ k. rate (at k)) x n (λ k inside member. each k inside)
      ∙ sum_by_counts (firms_of market) trades fit f (firm_of market f) is rate x
      ∙ total-same (λ t. rate t *ℤ pos (counts_of trades f x t))
      (λ t. if holds set t then bought_by set.firm (trade_at trades t) (pos (counts_of trades f x t)) else pos 0)
      (length trades) (λ t inside. times (holds set t) (f == (trade_at trades t).buyer) (f == (trade_at trades t).seller)
      (pos (counts_of trades f x t))
      ∙ ap (λ (g : ℕ). if holds set t then bought_by g (trade_at trades t) (pos (counts_of trades f x t)) else pos 0)
      (sym own_set))
    where
      rate : ℕ → ℤ
      rate t = if holds set t then bought_by f (trade_at trades t) (pos 1) else pos 0

      each : (k : ℕ) → k < n → (if has (term_of set).members k then sign (has buys k) else pos 0) ≡ rate (at k)
      each k inside =
          ap (λ (b : Bool). if b then sign (has buys k) else pos 0) (has-set_of (λ i. holds set (at i)) n k
          ∙ ap (λ (b : Bool). b && holds set (at k)) (lt-ltb k n inside))
          ∙ ap (λ (z : ℤ). if holds set (at k) then z else pos 0)
          (elim (side_at (firms_of market) trades fit f (firm_of market f) is k inside) [
            | inl sells ↦ ap sign sells.2
                ∙ sym (ap₂ (λ (a b : Bool). (if a then pos 1 else pos 0) -ℤ (if b then pos 1 else pos 0)) sells.1 sells.0)
            | inr bought ↦ ap sign bought.2
                ∙ sym (ap₂ (λ (a b : Bool). (if a then pos 1 else pos 0) -ℤ (if b then pos 1 else pos 0)) bought.1 bought.0)
          ])

      times : (h b s : Bool) (z : ℤ)
          → (if h then (if b then pos 1 else pos 0) -ℤ (if s then pos 1 else pos 0) else pos 0) *ℤ z
          ≡ (if h then (if b then z else pos 0) -ℤ (if s then z else pos 0) else pos 0)
      times true true true z = omega (arith, ints)
      times true true false z = omega (arith, ints)
      times true false true z = omega (arith, ints)
      times true false false z = omega (arith, ints)
      times false b s z = zero-*ℤ z

  sets_are : (x : ℕ) → x < 2 ^ n → (sets : List CountSet)
      → set_sum trades f (counts_of trades f x) sets ≡ count_sum buys (terms_of sets) x
  sets_are x below [] = refl
  sets_are x below (set ∷ sets) = by (f == set.firm) refl (sets_are x below sets)
    where
      by : (b : Bool) → (f == set.firm) ≡ b
          → set_sum trades f (counts_of trades f x) sets ≡ count_sum buys (terms_of sets) x
          → (if b then both (set_number trades set (counts_of trades f x)) (set_sum trades f (counts_of trades f x) sets)
          else set_sum trades f (counts_of trades f x) sets)
          ≡ count_sum buys (if b then term_of set ∷ terms_of sets else terms_of sets) x
      by true own_set rest =
          ap₂ (λ (z : ℤ) (o : Option ℤ). both (added_at set (z +ℤ pos set.back)) o)
          (sym (net_is set x (sym (eqb-true f set.firm own_set)) below)) rest
      by false other rest = rest

  worth_is : (x : ℕ) → (unit_firm trades f (firm_of market f)).worth x ≡ nested.worth x
  worth_is x = elim (cases_Bool (nat_lt x (2 ^ n))) [
    | inl below ↦
        ap₂ (λ (z : ℤ) (o : Option ℤ). if nat_lt x (2 ^ n) then both (Some z) o else None)
        (sym (sum_by_counts (firms_of market) trades fit f (firm_of market f) is amount x))
        (sets_are x (ltb-true x (2 ^ n) below) market.sets.items)
    | inr past ↦
        ap (λ (b : Bool). if b then (firm_of market f).worth (counts_of trades f x) else None) past
        ∙ sym (ap (λ (b : Bool). if b then both (Some (sum_over (λ k. amount (at k)) n x))
        (count_sum buys (terms_of market.sets.items) x) else None) past)
  ]

  -- ---- the sets of positions are nested

  record FromSet (sets : List CountSet) (term : CountTerm) : Type 0 where
    index : ℕ
    set : CountSet
    there : slice_get sets index ≡ Some set
    own_set : f ≡ set.firm
    same : term_of set ≡ term

  from_set : (sets : List CountSet) (i : ℕ) (term : CountTerm) → slice_get (terms_of sets) i ≡ Some term
      → FromSet sets term
  from_set [] i term at_i = absurd (none-some term at_i)
  from_set (set ∷ sets) i term at_i = by (f == set.firm) refl i at_i (from_set sets)
    where
      later : FromSet sets term → FromSet (set ∷ sets) term
      later rest = record {
        index = suc rest.index;
        set = rest.set;
        there = rest.there;
        own_set = rest.own_set;
        same = rest.same;
      }

      by : (b : Bool) → (f == set.firm) ≡ b → (i : ℕ)
          → slice_get (if b then term_of set ∷ terms_of sets else terms_of sets) i ≡ Some term
          → ((k : ℕ) (one : CountTerm) → slice_get (terms_of sets) k ≡ Some one → FromSet sets one)
          → FromSet (set ∷ sets) term
      by true own_set zero at_i rest = record {
        index = 0;
        set = set;
        there = refl;
        own_set = eqb-true f set.firm own_set;
        same = same_Some (term_of set) term at_i;
      }
      by true own_set (suc i) at_i rest = later (rest i term at_i)
      by false other i at_i rest = later (rest i term at_i)

  -- the first of two sets that share a trade is within the second
  not_crossed : (inner outer : CountSet)
      → ((t u : ℕ) → holds inner t ≡ true → holds outer t ≡ true → holds inner u ≡ true → holds outer u ≡ true)
      → Cross (term_of inner).members (term_of outer).members → ⊥
  not_crossed inner outer within cross =
      cross.0 (same_set (meet (term_of inner).members (term_of outer).members) 0 (λ k. none k ∙ sym (has-zero k)))
    where
      inside : (k : ℕ) → has (term_of inner).members k ≡ true → has (term_of outer).members k ≡ true
          → minus (term_of inner).members (term_of outer).members ≡ 0
      inside k first second =
          minus-zero_from (term_of inner).members (term_of outer).members (λ i there.
          let own_i = (member_of_set (λ j. holds inner (at j)) n i).0 there in
          let in_first = (member_of_set (λ j. holds inner (at j)) n k).0 first in
          let in_second = (member_of_set (λ j. holds outer (at j)) n k).0 second in
          (member_of_set (λ j. holds outer (at j)) n i).1
          (own_i.0, within (at k) (at i) in_first.1 in_second.1 own_i.1))

      none : (k : ℕ) → has (meet (term_of inner).members (term_of outer).members) k ≡ false
      none k = elim (cases_Bool (has (meet (term_of inner).members (term_of outer).members) k)) [
        | inr away ↦ away
        | inl there ↦
            let parts = and_parts (has (term_of inner).members k) (has (term_of outer).members k)
            (sym (has-meet (term_of inner).members (term_of outer).members k) ∙ there) in
            absurd (cross.1 (inside k parts.0 parts.1))
      ]

  uncrossed : (sets : List CountSet) → AreLaminar sets → (i j : ℕ) (first second : CountTerm) → i < j
      → slice_get (terms_of sets) i ≡ Some first → slice_get (terms_of sets) j ≡ Some second
      → Cross first.members second.members → ⊥
  uncrossed [] laminar i j first second order at_i at_j cross = absurd (none-some first at_i)
  uncrossed (set ∷ sets) laminar i j first second order at_i at_j cross =
      by (f == set.firm) refl i j order at_i at_j (uncrossed sets (λ a b t u inner outer less. laminar (suc a) (suc b) t u
      inner outer (omega (arith, less))))
    where
      by : (b : Bool) → (f == set.firm) ≡ b → (i j : ℕ) → i < j
          → slice_get (if b then term_of set ∷ terms_of sets else terms_of sets) i ≡ Some first
          → slice_get (if b then term_of set ∷ terms_of sets else terms_of sets) j ≡ Some second
          → ((k l : ℕ) (one other : CountTerm) → k < l → slice_get (terms_of sets) k ≡ Some one
          → slice_get (terms_of sets) l ≡ Some other → Cross one.members other.members → ⊥) → ⊥
      by b own_set i zero order at_i at_j rest = absurd (omega (arith, order))
      by true own_set zero (suc j) order at_i at_j rest =
          let from = from_set sets j second at_j in
          let mine = same_Some (term_of set) first at_i in
          not_crossed set from.set (λ t u. laminar 0 (suc from.index) t u set from.set (omega arith) refl from.there
          (sym (eqb-true f set.firm own_set) ∙ from.own_set))
          (subst (λ (one : CountTerm). Cross (term_of set).members one.members) (sym from.same)
          (subst (λ (one : CountTerm). Cross one.members second.members) (sym mine) cross))
      by true own_set (suc i) (suc j) order at_i at_j rest = rest i j first second (omega (arith, order)) at_i at_j cross
      by false other i (suc j) order at_i at_j rest = rest i (suc j) first second order at_i at_j cross

  are_nested : AreNested n (terms_of market.sets.items)
  are_nested = record {
    own = λ i term at_i.
        let from = from_set market.sets.items i term at_i in
        subst (λ (one : CountTerm). one.members < 2 ^ n) from.same (set_of_within (λ k. holds from.set (at k)) n);
    concave = λ i term at_i.
        let from = from_set market.sets.items i term at_i in
        subst (λ (one : CountTerm). IsConcave one.number_at) from.same
        (added_concave from.set (is_market.each from.index from.set from.there).concave);
    uncrossed = uncrossed market.sets.items is_market.laminar;
  }

  exchanges : HasOwnBundles (unit_firm trades f (firm_of market f)) × MeetsExchange (unit_firm trades f (firm_of market f))
  exchanges = exchange_alike n buys (λ x. (unit_firm trades f (firm_of market f)).worth x) (λ x. nested.worth x) worth_is
      (meets-nested n buys (λ k. amount (at k)) (terms_of market.sets.items) are_nested)

pub markets_exchange : MarketsMeetExchange
markets_exchange market is_market f unit at_f =
    let from = comes_from market.trades.items 0 (firms_of market) f f unit (omega arith) at_f in
    let here = firm_at market f from.firm from.is in
    let there : slice_get (firms_of market) f ≡ Some (firm_of market f) = from.is ∙ ap Some here.1 in
    subst (λ (one : Firm). HasOwnBundles one × MeetsExchange one)
    (ap (unit_firm market.trades.items f) (sym here.1) ∙ from.same) (exchanges market is_market f there)
