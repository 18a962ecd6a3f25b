-- Where nothing is on in a taxed equilibrium, no cycle of the reduced graph is negative.
use Rattle.std.proofs.Common.{◌≡◌, ◌≢◌, ℕ, zero, suc, ◌+◌, ◌*◌, ◌<◌, ◌≤◌, Bool, true, false, ◌==◌, ◌&&◌, ltb, if◌then◌else◌, List, [], ◌∷◌, length, map, slice_get, Option, Some, None, option_map, refl, sym, ap, ap₂, ◌∙◌, arith, inl, inr, ℤ, pos, negsuc, neg_ℤ, ◌+ℤ◌, ◌-ℤ◌, ◌*ℤ◌, ◌≤ℤ◌}
use Rattle.std.specs.Prelude.{◌<ℤ◌, nat_lt}
use Rattle.std.proofs.lemmas.Int.{ints, by_lt_z}
use Rattle.std.proofs.lemmas.Bool.{cases_lt, lt-ltb, le-ltb, and_parts, or_cases, eqb-true}
use Rattle.std.proofs.lemmas.Option.{same_Some}
use Rattle.tn_base.specs.Sets.{has, toggle, size, sum_over}
use Rattle.tn_base.specs.Firm.{Firm, payments}
use Rattle.tn_base.specs.Walks.{walk_cost, arcs_among, is_admitted, AreDifferent, IsCycle}
use Rattle.tn_base.proofs.SetLemmas.{has-zero, has-toggle_other}
use Rattle.tn_base.proofs.SizeLemmas.{size-toggle_out}
use Rattle.tn_base.proofs.SumLemmas.{times-plus, sum_over-same_terms}
use Rattle.tn_base.proofs.WalkLemmas.{walk_parts, both_are, walk-same}
use Rattle.tn_firm_laws.specs.Places.{trade_level, level, move, CanRise, CanFall}
use Rattle.tn_firm_laws.proofs.PlaceLemmas.{level-trade}
use Rattle.tn_firm_laws.proofs.KeepLemmas.{times-le}
use Rattle.tn_model.specs.declared.ends.Ends.{Ends}
use Rattle.tn_model.specs.declared.contract.Contract.{Contract}
use Rattle.tn_model.specs.Network.{own, part, IsNetwork}
use Rattle.tn_market.specs.Admitted.{admitted}
use Rattle.tn_market.specs.Graph.{exchange_arc}
use Rattle.tn_market.specs.ArcPlaces.{node_at, AreArcPlaces}
use Rattle.tn_market.specs.Reduced.{reduced_firms, reduced_arc}
use Rattle.tn_market.proofs.GraphLemmas.{node_at-trade, node_at-null, arc_at, arc_from, has-part}
use Rattle.tn_network_laws.proofs.SupportLemmas.{paid_move, price_of_place, loss_parts, loss_of, negative_cycles}
use Rattle.tn_network_laws.proofs.AdmittedLemmas.{admitted_network, arcs_admitted}
use Rattle.tn_outcome_laws.proofs.CompletionLemmas.{reduced_network}
use Rattle.tn_outcome_laws.proofs.NoMoreLemmas.{empty_inside}
use Rattle.tn_blocking_laws.specs.Taxed.{taxed, taxed_firms, IsTaxedEquilibrium}
use Rattle.tn_blocking_laws.proofs.TaxLemmas.{taxed_is, taxed_network}

-- ---- what the tax adds to an arc

-- 1 for a trade, and 0 for the null node
abbrev visit : ℕ → ℕ → ℤ
visit count u = if nat_lt u count then pos 1 else pos 0

-- a tax of 1 for each position as prices: 1 for a purchase, and -1 for a sale
abbrev tax_prices : ℕ → ℕ → ℤ
tax_prices buys k = if has buys k then pos 1 else negsuc 0

tax_sum : (buys n x : ℕ) → sum_over (λ k. negsuc 0) n x ≡ sum_over (payments buys (tax_prices buys)) n x
tax_sum buys n x =
    sum_over-same_terms (λ k. negsuc 0) (payments buys (tax_prices buys)) x n (λ k below member. by_case (has buys k))
  where
    by_case : (b : Bool) → negsuc 0 ≡ (if b then neg_ℤ (if b then pos 1 else negsuc 0)
        else (if b then pos 1 else negsuc 0))
    by_case true = refl
    by_case false = refl

-- where nothing is on, a position that can rise is a purchase, and one that can fall a sale
rising_price : (n buys x i : ℕ) → ((k : ℕ) → k < n → has x k ≡ false) → CanRise n (level n buys x) i
    → price_of_place n (tax_prices buys) i ≡ (if ltb i n then pos 1 else pos 0)
unfolding trade_level
rising_price n buys x i none rises = elim (cases_lt i n) [
  | inr above ↦ ap (λ (b : Bool). if b then tax_prices buys i else pos 0) (le-ltb i n above)
      ∙ sym (ap (λ (b : Bool). if b then pos 1 else pos 0) (le-ltb i n above))
  | inl below ↦
      ap (λ (b : Bool). if b then tax_prices buys i else pos 0) (lt-ltb i n below)
      ∙ by_case (has buys i) (has x i) (none i below) (sym (level-trade n buys x i below) ∙ rises below)
      ∙ sym (ap (λ (b : Bool). if b then pos 1 else pos 0) (lt-ltb i n below))
]
  where
    by_case : (b h : Bool) → h ≡ false → ◌≡◌ {A = ℕ} (if b then (if h then 1 else 0) else (if h then 0 else 1)) 0
        → (if b then pos 1 else negsuc 0) ≡ pos 1
    by_case true h away low = refl
    by_case false true away low = absurd (cc away)
    by_case false false away low = absurd (omega (arith, low))

falling_price : (n buys x i : ℕ) → ((k : ℕ) → k < n → has x k ≡ false) → CanFall n (level n buys x) i
    → price_of_place n (tax_prices buys) i ≡ neg_ℤ (if ltb i n then pos 1 else pos 0)
unfolding trade_level
falling_price n buys x i none falls = elim (cases_lt i n) [
  | inr above ↦ ap (λ (b : Bool). if b then tax_prices buys i else pos 0) (le-ltb i n above)
      ∙ sym (ap (λ (b : Bool). neg_ℤ (if b then pos 1 else pos 0)) (le-ltb i n above))
  | inl below ↦
      ap (λ (b : Bool). if b then tax_prices buys i else pos 0) (lt-ltb i n below)
      ∙ by_case (has buys i) (has x i) (none i below) (sym (level-trade n buys x i below) ∙ falls below)
      ∙ sym (ap (λ (b : Bool). neg_ℤ (if b then pos 1 else pos 0)) (lt-ltb i n below))
]
  where
    by_case : (b h : Bool) → h ≡ false → ◌≡◌ {A = ℕ} (if b then (if h then 1 else 0) else (if h then 0 else 1)) 1
        → (if b then pos 1 else negsuc 0) ≡ negsuc 0
    by_case false h away high = refl
    by_case true true away high = absurd (cc away)
    by_case true false away high = absurd (omega (arith, high))

visit_place : (firms : List Firm) (trades : List Ends) → IsNetwork firms trades → (f : ℕ) (firm : Firm)
    → slice_get firms f ≡ Some firm → (i : ℕ)
    → visit (length trades) (node_at trades f firm.count i) ≡ (if ltb i firm.count then pos 1 else pos 0)
visit_place firms trades network f firm is i = elim (cases_lt i firm.count) [
  | inl below ↦
      ap (visit (length trades)) (node_at-trade trades f firm.count i below)
      ∙ ap (λ (b : Bool). if b then pos 1
      else pos 0) (lt-ltb (own trades f i) (length trades) (network.whole f i firm is below))
      ∙ sym (ap (λ (b : Bool). if b then pos 1 else pos 0) (lt-ltb i firm.count below))
  | inr above ↦
      ap (visit (length trades)) (node_at-null trades f firm.count i above)
      ∙ ap (λ (b : Bool). if b then pos 1 else pos 0) (le-ltb (length trades) (length trades) (omega arith))
      ∙ sym (ap (λ (b : Bool). if b then pos 1 else pos 0) (le-ltb i firm.count above))
]

-- an arc of taxed firms, where nothing is on, costs the arc's cost counted `scale` times, and a tax for each end
taxed_arc : (scale : ℤ) (firms : List Firm) (trades : List Ends) → IsNetwork firms trades → (u v : ℕ) (cost : ℤ)
    → exchange_arc firms trades 0 u v ≡ Some cost
    → exchange_arc (map (taxed scale) firms) trades 0 u v
    ≡ Some (scale *ℤ cost +ℤ (visit (length trades) u +ℤ visit (length trades) v))
taxed_arc scale firms trades network u v cost is =
    let at = arc_from firms trades network 0 u v cost is in
    let x = part trades at.f at.firm.count 0 in
    let y = move at.firm.count x at.from at.to in
    let loses = loss_parts at.firm x y cost at.costs in
    let places : AreArcPlaces (taxed scale at.firm) (part trades at.f at.firm.count 0) at.from at.to = record {
      from_within = at.places.from_within;
      to_within = at.places.to_within;
      apart = at.places.apart;
      rises = at.places.rises;
      falls = at.places.falls;
    } in
    let arc = arc_at (map (taxed scale) firms) trades (taxed_network scale firms trades network) 0 at.f
    (taxed scale at.firm) (taxed_is scale firms at.f at.firm at.is) at.from at.to places in
    let loss = loss_of (taxed scale at.firm) x y (scale *ℤ loses.first +ℤ tax at.firm.count x) (scale *ℤ loses.second
    +ℤ tax at.firm.count y)
    (ap (option_map (λ a. scale *ℤ a +ℤ tax at.firm.count x)) loses.first_is)
    (ap (option_map (λ a. scale *ℤ a +ℤ tax at.firm.count y)) loses.second_is) in
    let moved = paid_move at.firm (tax_prices at.firm.buys) x at.from at.to at.places in
    let none : (k : ℕ) → k < at.firm.count → has (part trades at.f at.firm.count 0) k ≡ false =
    λ k below. has-part trades at.f at.firm.count 0 k below ∙ has-zero (own trades at.f k) in
    let from_price = rising_price at.firm.count at.firm.buys x at.from none at.places.rises in
    let to_price = falling_price at.firm.count at.firm.buys x at.to none at.places.falls in
    let from_visit = sym (ap (visit (length trades)) at.begin)
    ∙ visit_place firms trades network at.f at.firm at.is at.from in
    let to_visit = sym (ap (visit (length trades)) at.end) ∙ visit_place firms trades network at.f at.firm at.is at.to
    in
    let scaled : scale *ℤ cost ≡ scale *ℤ loses.first +ℤ scale *ℤ neg_ℤ loses.second =
    ap (λ (z : ℤ). scale *ℤ z) loses.cost_is ∙ times-plus scale loses.first (neg_ℤ loses.second) in
    let back : scale *ℤ loses.second +ℤ scale *ℤ neg_ℤ loses.second ≡ pos 0 =
    sym (times-plus scale loses.second (neg_ℤ loses.second))
    ∙ nothing scale (loses.second +ℤ neg_ℤ loses.second) (omega (arith, ints)) in
    sym (ap₂ (exchange_arc (map (taxed scale) firms) trades 0) at.begin at.end) ∙ arc ∙ loss
    ∙ ap (λ (z : ℤ). Some z) (add (scale *ℤ loses.first) (scale *ℤ loses.second) (scale *ℤ neg_ℤ loses.second)
    (scale *ℤ cost) _ _ _ _ _ _ _ _ _ _
    (tax_sum at.firm.buys at.firm.count x) (tax_sum at.firm.buys at.firm.count y) moved from_price to_price from_visit
    to_visit scaled back)
  where
    tax : ℕ → ℕ → ℤ
    tax n x = sum_over (λ k. negsuc 0) n x

    nothing : (s z : ℤ) → z ≡ pos 0 → s *ℤ z ≡ pos 0
    nothing s z none = ap (λ (w : ℤ). s *ℤ w) none ∙ omega (arith, ints)

    add : (a b c sc tx ty px py pi pj vi vj vu vv : ℤ) → tx ≡ px → ty ≡ py → py ≡ (px -ℤ pi) +ℤ pj → pi ≡ vi
        → pj ≡ neg_ℤ vj → vu ≡ vi → vv ≡ vj
        → sc ≡ a +ℤ c → b +ℤ c ≡ pos 0 → (a +ℤ tx) +ℤ neg_ℤ (b +ℤ ty) ≡ sc +ℤ (vu +ℤ vv)
    add a b c sc tx ty px py pi pj vi vj vu vv tx_is ty_is moved from to u_is v_is scaled back =
        omega (arith, ints, tx_is, ty_is, moved, from, to, u_is, v_is, scaled, back)

-- ---- along a walk

-- how many of the nodes are trades
pub visits : ℕ → List ℕ → ℕ
visits count [] = 0
visits count (v ∷ vs) = (if nat_lt v count then 1 else 0) + visits count vs

visit_is : (count v : ℕ) → visit count v ≡ pos (if nat_lt v count then 1 else 0)
visit_is count v = by_case (nat_lt v count)
  where
    by_case : (b : Bool) → (if b then pos 1 else pos 0) ≡ pos (if b then 1 else 0)
    by_case true = refl
    by_case false = refl

pub among_arc : (test : ℕ → Bool) (arc : ℕ → ℕ → Option ℤ) (u w : ℕ) (cost : ℤ) → arcs_among test arc u w ≡ Some cost
    → ((test u && test w) ≡ true) × (arc u w ≡ Some cost)
among_arc test arc u w cost is = by_case (test u && test w) refl is
  where
    by_case : (b : Bool) → (test u && test w) ≡ b → (if b then arc u w else None) ≡ Some cost
        → ((test u && test w) ≡ true) × (arc u w ≡ Some cost)
    by_case true there e = (there, e)
    by_case false there e = absurd (cc e)

taxed_among : (scale : ℤ) (firms : List Firm) (trades : List Ends) → IsNetwork firms trades
    → (test : ℕ → Bool) (u w : ℕ) (cost : ℤ)
    → arcs_among test (exchange_arc firms trades 0) u w ≡ Some cost
    → arcs_among test (exchange_arc (map (taxed scale) firms) trades 0) u w
    ≡ Some (scale *ℤ cost +ℤ (visit (length trades) u +ℤ visit (length trades) w))
taxed_among scale firms trades network test u w cost is =
    let arc = among_arc test (exchange_arc firms trades 0) u w cost is in
    ap (λ (b : Bool). if b then exchange_arc (map (taxed scale) firms) trades 0 u w else None) arc.0
    ∙ taxed_arc scale firms trades network u w cost arc.1

-- a walk of taxed firms costs the walk's cost counted `scale` times, and two taxes for each trade between its ends
taxed_walk : (scale : ℤ) (firms : List Firm) (trades : List Ends) → IsNetwork firms trades
    → (test : ℕ → Bool) (u : ℕ) (vs : List ℕ) (w : ℕ) (cost : ℤ)
    → walk_cost (arcs_among test (exchange_arc firms trades 0)) u vs w ≡ Some cost
    → walk_cost (arcs_among test (exchange_arc (map (taxed scale) firms) trades 0)) u vs w
    ≡ Some (scale *ℤ cost +ℤ ((visit (length trades) u +ℤ visit (length trades) w)
    +ℤ pos (2 * visits (length trades) vs)))
unfolding visits
taxed_walk scale firms trades network test u [] w cost is =
    taxed_among scale firms trades network test u w cost is ∙ ap (λ (z : ℤ). Some z) (omega (arith, ints))
taxed_walk scale firms trades network test u (v ∷ vs) w cost is =
    let parts = walk_parts (arcs_among test (exchange_arc firms trades 0)) u v vs w cost is in
    let first = taxed_among scale firms trades network test u v parts.first parts.first_is in
    let rest = taxed_walk scale firms trades network test v vs w parts.second parts.second_is in
    both_are _ _ _ _ first rest
    ∙ ap (λ (z : ℤ). Some z) (add (scale *ℤ parts.first) (scale *ℤ parts.second) (scale *ℤ cost) _ _ _
    (visits (length trades) vs) _
    (ap (λ (z : ℤ). scale *ℤ z) parts.sum_is ∙ times-plus scale parts.first parts.second) (visit_is (length trades) v))
  where
    add : (a b c vu vv vw : ℤ) (m n : ℕ) → c ≡ a +ℤ b → vv ≡ pos n
        → (a +ℤ (vu +ℤ vv)) +ℤ (b +ℤ ((vv +ℤ vw) +ℤ pos (2 * m))) ≡ c +ℤ ((vu +ℤ vw) +ℤ pos (2 * (n + m)))
    add a b c vu vv vw m n sum here = omega (arith, ints, sum, here)

-- ---- a cycle meets each trade once

-- where all are trades, so many
pub visits-all : (count : ℕ) (vs : List ℕ) → ((k v : ℕ) → slice_get vs k ≡ Some v → v < count)
    → visits count vs ≡ length vs
unfolding visits
visits-all count [] below = refl
visits-all count (v ∷ vs) below =
    let one : ◌≡◌ {A = ℕ} (if nat_lt v count then 1 else 0) 1 =
    ap (λ (b : Bool). if b then 1 else 0) (lt-ltb v count (below 0 v refl)) in
    let rest = visits-all count vs (λ k w is. below (suc k) w is) in
    omega (arith, one, rest)

-- different trades of a set are at most as many as it has
pub few : (count : ℕ) (vs : List ℕ) (set : ℕ) → AreDifferent vs
    → ((k v : ℕ) → slice_get vs k ≡ Some v → v < count → has set v ≡ true) → visits count vs ≤ size set
unfolding visits
few count [] set different members = omega arith
few count (v ∷ vs) set different members = elim (cases_lt v count) [
  | inl below ↦
      let one : ◌≡◌ {A = ℕ} (if nat_lt v count then 1 else 0) 1 =
      ap (λ (b : Bool). if b then 1 else 0) (lt-ltb v count below) in
      let less = size-toggle_out set v (members 0 v refl below) in
      let rest = few count vs (toggle set v) (tail different) (λ k w is w_below. has-toggle_other set v w (apart k w is)
      ∙ members (suc k) w is w_below) in
      omega (arith, one, less, rest)
  | inr above ↦
      let none : ◌≡◌ {A = ℕ} (if nat_lt v count then 1 else 0) 0 =
      ap (λ (b : Bool). if b then 1 else 0) (le-ltb v count above) in
      let rest = few count vs set (tail different) (λ k w is w_below. members (suc k) w is w_below) in
      omega (arith, none, rest)
]
  where
    tail : AreDifferent (v ∷ vs) → AreDifferent vs
    tail all j k w j_is k_is = let same = all (suc j) (suc k) w j_is k_is in omega (arith, same)

    apart : (k w : ℕ) → slice_get vs k ≡ Some w → w ≢ v
    apart k w is same = let place = different 0 (suc k) w (ap (λ (z : ℕ). Some z) (sym same)) is in
        absurd (omega (arith, place))

-- the nodes of a walk among some are among them
pub walk_test : (test : ℕ → Bool) (arc : ℕ → ℕ → Option ℤ) (u : ℕ) (vs : List ℕ) (w : ℕ) (cost : ℤ)
    → walk_cost (arcs_among test arc) u vs w ≡ Some cost
    → (k v : ℕ) → slice_get (u ∷ vs) k ≡ Some v → test v ≡ true
walk_test test arc u [] w cost is zero v there = ap test (sym (same_Some u v there))
    ∙ (and_parts (test u) (test w) (among_arc test arc u w cost is).0).0
walk_test test arc u [] w cost is (suc k) v there = absurd (cc there)
walk_test test arc u (x ∷ vs) w cost is zero v there =
    let parts = walk_parts (arcs_among test arc) u x vs w cost is in
    ap test (sym (same_Some u v there))
    ∙ (and_parts (test u) (test x) (among_arc test arc u x parts.first parts.first_is).0).0
walk_test test arc u (x ∷ vs) w cost is (suc k) v there =
    let parts = walk_parts (arcs_among test arc) u x vs w cost is in
    walk_test test arc x vs w parts.second parts.second_is k v there

pub admitted_trade : (count allowed v : ℕ) → is_admitted count allowed v ≡ true → v < count → has allowed v ≡ true
admitted_trade count allowed v admitted below = elim (or_cases (v == count) (has allowed v) admitted) [
  | inl null ↦ absurd (let same = eqb-true v count null in omega (arith, same, below))
  | inr there ↦ there
]

pub none_on_is_no_cycle : (firms : List Firm) (trades : List Ends) (over : ℤ) (contracts : List Contract) (scale : ℤ)
    (allowed : ℕ) (prices : ℕ → ℤ) → IsNetwork firms trades
    → IsTaxedEquilibrium firms trades over contracts scale allowed 0 prices → pos (2 * size allowed) <ℤ scale
    → (u : ℕ) (vs : List ℕ) (cost : ℤ)
    → IsCycle (arcs_among (is_admitted (length trades) allowed) (reduced_arc firms trades over contracts)) u vs cost
    → pos 0 ≤ℤ cost
unfolding visits
none_on_is_no_cycle firms trades over contracts scale allowed prices network taxed_equilibrium wide u vs cost cycle =
    by_lt_z {P = pos 0 ≤ℤ cost} cost (pos 0) (λ negative. absurd (against negative)) (λ h. h)
  where
    wider : (n : ℕ) (s : ℤ) → pos (2 * n) <ℤ s → pos 0 ≤ℤ s
    wider n s h = omega (arith, ints, h)

    below : (c d s v : ℤ) (n m a : ℕ) → c ≤ℤ d → d ≡ neg_ℤ s → v ≡ pos n → n + m ≤ a → pos (2 * a) <ℤ s
        → (c +ℤ ((v +ℤ v) +ℤ pos (2 * m))) <ℤ pos 0
    below c d s v n m a product one here some wide = omega (arith, ints, product, one, here, some, wide)

    against : cost <ℤ pos 0 → ⊥
    against negative =
        let reduced = reduced_network firms trades over contracts network in
        let taxes = taxed_network scale (reduced_firms trades over contracts firms) trades reduced in
        let walk = taxed_walk scale (reduced_firms trades over contracts firms) trades reduced
        (is_admitted (length trades) allowed) u vs u cost cycle.walk in
        let kept = walk-same (exchange_arc (admitted trades allowed (taxed_firms firms trades over contracts scale))
        trades 0)
        (arcs_among (is_admitted (length trades) allowed) (exchange_arc (taxed_firms firms trades over contracts scale)
        trades 0))
        (arcs_admitted (taxed_firms firms trades over contracts scale) trades taxes allowed 0 (empty_inside allowed)) u
        vs u ∙ walk in
        let some = few (length trades) (u ∷ vs) allowed cycle.different (λ k v is below.
        admitted_trade (length trades) allowed v (walk_test (is_admitted (length trades) allowed)
        (reduced_arc firms trades over contracts) u vs u cost cycle.walk k v is) below) in
        let product = times-le scale cost (negsuc 0) (wider (size allowed) scale wide) (omega (arith, ints, negative))
        in
        let one : scale *ℤ negsuc 0 ≡ neg_ℤ scale = omega (arith, ints) in
        negative_cycles (admitted trades allowed (taxed_firms firms trades over contracts scale)) trades 0 u vs _
        (admitted_network (taxed_firms firms trades over contracts scale) trades allowed taxes) kept
        (below (scale *ℤ cost) (scale *ℤ negsuc 0) scale (visit (length trades) u) _ (visits (length trades) vs)
        (size allowed) product one (visit_is (length trades) u) some wide)
        (pos 1) prices (omega (arith, ints)) taxed_equilibrium.equilibrium
