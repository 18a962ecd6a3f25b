-- One round of the solver: a trade is admitted, and one cycle through it restores an equilibrium.
use Rattle.std.proofs.Common.{◌≡◌, ◌≢◌, ℕ, suc, ◌^◌, ◌<◌, Bool, true, false, not, ◌==◌, if◌then◌else◌, refl, sym, ap, ◌∙◌, subst, arith, inl, inr, ◌⊎◌, ℤ, pos, ◌+ℤ◌, ◌-ℤ◌, neg_ℤ, List, [], ◌∷◌, length, map, slice_get, Some, None, Option}
use Rattle.std.specs.Prelude.{◌≤ℤ◌, IsSome}
use Rattle.std.proofs.lemmas.Bool.{cases_eq, eq-eqb, eqb-true, false_from_ne_true}
use Rattle.std.proofs.lemmas.Option.{slice_get-get_or}
use Rattle.std.proofs.lemmas.Int.{ints}
use Rattle.std.proofs.lemmas.List.{length-map}
use Rattle.std.proofs.lemmas.List.Elements.{All-head, All-tail}
use Rattle.tn_base.specs.Sets.{has}
use Rattle.tn_base.specs.Firm.{Firm, payments, IsBest}
use Rattle.tn_base.specs.Walks.{Avoids, AreDifferent, CyclesCostAtLeast, IsLeastCycle, KeepsArcs}
use Rattle.tn_base.proofs.SetLemmas.{same_below, set_of_within}
use Rattle.tn_firm_laws.specs.Places.{trade_level}
use Rattle.tn_firm_laws.specs.Ordered.{shifted}
use Rattle.tn_firm_laws.proofs.KeepLemmas.{meets-plus_sum, option_map-some}
use Rattle.tn_firm_laws.proofs.FavourLemmas.{IsFavoured, Favours, favoured_best}
use Rattle.tn_model.specs.declared.ends.Ends.{Ends}
use Rattle.tn_model.specs.Network.{own, part, IsNetwork}
use Rattle.tn_market.specs.Equilibrium.{prices_at, IsEquilibrium}
use Rattle.tn_market.specs.Graph.{exchange_arc, ArePossible}
use Rattle.tn_market.proofs.GraphLemmas.{arc_within, has-part}
use Rattle.tn_network_laws.specs.Laws.{MeetExchange}
use Rattle.tn_network_laws.specs.Along.{along}
use Rattle.tn_network_laws.proofs.SupportLemmas.{arcs_from_supports, labels_keep}
use Rattle.tn_network_laws.proofs.SplitLemmas.{TwoNumbers, one_number, two_numbers}
use Rattle.tn_network_laws.proofs.LegLemmas.{Setting, number_in, number_in-t, number_in-other, place_price, priced, AtFirm, at_firm, Leg, IsTightPath, first_return, walk_low, walk_legs}
use Rattle.tn_network_laws.proofs.ShortcutLemmas.{IsShortest, shifts_at, best_after}
use Rattle.tn_network_laws.proofs.AlongLemmas.{turns, has-along, member_along}

-- some numbers keep every arc of a graph
abbrev pub HasNumbers : (ℕ → ℕ → Option ℤ) → Type 0
HasNumbers arc = (numbers : ℕ → ℤ) × KeepsArcs arc numbers

-- numbers keep the arcs that don't touch t
abbrev pub KeepsArcsOff : ℕ → (ℕ → ℕ → Option ℤ) → (ℕ → ℤ) → Type 0
KeepsArcsOff t arc numbers = (u v : ℕ) (c : ℤ) → u ≢ t → v ≢ t → arc u v ≡ Some c → numbers v ≤ℤ (numbers u +ℤ c)

-- ---- where no cycle through t is negative

pub arcs_between : (firms : List Firm) (trades : List Ends) (on u v : ℕ) (c : ℤ)
    → exchange_arc firms trades on u v ≡ Some c → (u < suc (length trades)) × (v < suc (length trades))
arcs_between firms trades on u v c is = let ends = arc_within firms trades on u v c is in
    (let a = ends.0 in omega (arith, a), let b = ends.1 in omega (arith, b))

pub no_cycle : (firms : List Firm) (trades : List Ends) (on t : ℕ) → t < length trades → (numbers : ℕ → ℤ)
    → KeepsArcsOff t (exchange_arc firms trades on) numbers
    → CyclesCostAtLeast (exchange_arc firms trades on) t (pos 0) → HasNumbers (exchange_arc firms trades on)
no_cycle firms trades on t inside numbers keeps least = (
  two.number,
  one_number (exchange_arc firms trades on) t two.entering two.number two.keeps (let gap = two.gap in
      omega (arith, ints, gap)),
)
  where
    two : TwoNumbers t (pos 0) (exchange_arc firms trades on)
    two = two_numbers (suc (length trades)) t (pos 0) (exchange_arc firms trades on) (arcs_between firms trades on)
        (omega (arith, inside)) numbers keeps
        (λ vs c avoids walk. let l = least vs c avoids walk in omega (arith, ints, l))

-- ---- along a least cycle through t

-- two numbers for t, from numbers off it: they differ by what a least cycle through it costs
pub two_from_off : (firms : List Firm) (trades : List Ends) (on t : ℕ) (vs : List ℕ) (cost : ℤ) → t < length trades
    → (numbers : ℕ → ℤ) → KeepsArcsOff t (exchange_arc firms trades on) numbers
    → IsLeastCycle (exchange_arc firms trades on) t vs cost → TwoNumbers t (neg_ℤ cost) (exchange_arc firms trades on)
two_from_off firms trades on t vs cost inside numbers keeps cycle =
    two_numbers (suc (length trades)) t (neg_ℤ cost) (exchange_arc firms trades on) (arcs_between firms trades on)
    (omega (arith, inside)) numbers keeps
    (λ ws c avoids walk. let l = cycle.least ws c avoids walk in omega (arith, ints, l))

-- a least cycle through t, whatever it costs, and two numbers for t
pub record IsRound (firms : List Firm) (trades : List Ends) (on t : ℕ) (vs : List ℕ) (cost : ℤ) : Type 0 where
  pub network : IsNetwork firms trades
  pub meet : MeetExchange firms
  pub possible : ArePossible firms trades on
  pub inside : t < length trades
  pub two : TwoNumbers t (neg_ℤ cost) (exchange_arc firms trades on)
  pub cycle : IsLeastCycle (exchange_arc firms trades on) t vs cost

unfoldable pub setting : (firms : List Firm) (trades : List Ends) (on t : ℕ) (vs : List ℕ) (cost : ℤ)
    → IsRound firms trades on t vs cost → Setting firms trades on t
setting firms trades on t vs cost round = record {
  network = round.network;
  meet = round.meet;
  possible = round.possible;
  inside = round.inside;
  gain = neg_ℤ cost;
  two = round.two;
}

-- the inner nodes of a cycle avoid its first one
pub cycle_avoids : (t : ℕ) (vs : List ℕ) → AreDifferent (t ∷ vs) → Avoids t vs
cycle_avoids t vs different = λ k d h e.
    let same = different 0 (suc k) t refl (slice_get-get_or vs k d h ∙ ap (λ (z : ℕ). Some z) e) in
    absurd (omega (arith, same))

turns-avoid : (t : ℕ) (vs : List ℕ) (c : Bool) → Avoids t vs → turns t vs c ≡ c
turns-avoid t [] c avoids = refl
turns-avoid t (v ∷ vs) c avoids =
    ap (λ (b : Bool). if b then not (turns t vs c) else turns t vs c)
    (false_from_ne_true (v == t) (λ e. All-head (λ x. x ≢ t) v vs avoids (eqb-true v t e)))
    ∙ turns-avoid t vs c (All-tail (λ x. x ≢ t) v vs avoids)

-- the trade is toggled
pub has-along-t : (count on t : ℕ) (vs : List ℕ) → t < count → Avoids t vs
    → has (along count on (t ∷ vs)) t ≡ not (has on t)
has-along-t count on t vs inside avoids =
    has-along count on (t ∷ vs) t inside
    ∙ ap (λ (b : Bool). if b then not (turns t vs (has on t)) else turns t vs (has on t)) (eq-eqb t t refl)
    ∙ ap not (turns-avoid t vs (has on t) avoids)

-- the set after the round
abbrev after : List Ends → ℕ → ℕ → List ℕ → ℕ
after trades on t vs = along (length trades) on (t ∷ vs)

-- what a round comes to at the two numbers
pub record IsTurned (firms : List Firm) (trades : List Ends) (on t : ℕ) (vs : List ℕ)
    (s : Setting firms trades on t) : Type 0 where
  pub legs : List Leg
  pub shortest : IsShortest firms trades on t s legs
  pub nodes : map (λ leg. leg.begin) legs ≡ t ∷ vs

-- the two numbers of t differ by the cost of the cycle
entering_is : (firms : List Firm) (trades : List Ends) (on t : ℕ) (vs : List ℕ) (cost : ℤ)
    (round : IsRound firms trades on t vs cost)
    → (setting firms trades on t vs cost round).two.entering ≡ (setting firms trades on t vs cost round).two.number t
    +ℤ cost
unfolding setting
entering_is firms trades on t vs cost round =
    let s = setting firms trades on t vs cost round in
    let low = walk_low firms trades on t s t vs cost (cycle_avoids t vs round.cycle.cycle.different)
    round.cycle.cycle.walk in
    let gap = s.two.gap in
    let gain : s.gain ≡ neg_ℤ cost = refl in
    omega (arith, ints, low, gap, gain)

pub turned : (firms : List Firm) (trades : List Ends) (on t : ℕ) (vs : List ℕ) (cost : ℤ)
    (round : IsRound firms trades on t vs cost)
    → IsTurned firms trades on t vs (setting firms trades on t vs cost round)
unfolding setting
turned firms trades on t vs cost round = record {
  legs = walk.0;
  shortest = record {
    path = walk.1;
    shortest = λ other path some.
        let back = first_return firms trades on t s t other path some in
        let least = round.cycle.shortest back.inner back.avoids (back.walk
        ∙ ap (λ (z : ℤ). Some z) (from_equal s.two.entering (s.two.number t) cost equal)) in
        let short = back.short in
        let counted = sym (length-map walk.0 (λ leg. leg.begin)) ∙ ap length walk.2 in
        omega (arith, least, short, counted);
  };
  nodes = walk.2;
}
  where
    s : Setting firms trades on t
    s = setting firms trades on t vs cost round

    avoids : Avoids t vs
    avoids = cycle_avoids t vs round.cycle.cycle.different

    equal : (setting firms trades on t vs cost round).two.entering
        ≡ (setting firms trades on t vs cost round).two.number t +ℤ cost
    equal = entering_is firms trades on t vs cost round

    from_equal : (e n c : ℤ) → e ≡ n +ℤ c → e -ℤ n ≡ c
    from_equal e n c q = omega (arith, ints, q)

    walk : (legs : List Leg) × IsTightPath s t legs t × (map (λ leg. leg.begin) legs ≡ t ∷ vs)
    walk = walk_legs firms trades on t s t vs cost avoids round.cycle.cycle.walk equal

-- the prices after the round: the numbers less null's
abbrev pub new_price : {firms : List Firm} {trades : List Ends} {on t : ℕ} → Setting firms trades on t → ℕ → ℤ
new_price {firms} {trades} {on} {t} s u = s.two.number u -ℤ s.two.number (length trades)

-- they are what is paid at the places, but where a place of the trade can be lowered
pub place_price-low : (firms : List Firm) (trades : List Ends) (on t : ℕ) (s : Setting firms trades on t) (f k : ℕ)
    (firm : Firm)
    → trade_level firm.buys (part trades f firm.count on) k ≢ 1 → place_price s f firm k ≡ new_price s (own trades f k)
place_price-low firms trades on t s f k firm low =
    ap (λ (b : Bool). (if b then number_in s (own trades f k) else s.two.number (own trades f k))
    -ℤ s.two.number (length trades))
    (false_from_ne_true (trade_level firm.buys (part trades f firm.count on) k == 1) (λ q. low (eqb-true _ _ q)))

pub place_price-other : (firms : List Firm) (trades : List Ends) (on t : ℕ) (s : Setting firms trades on t) (f k : ℕ)
    (firm : Firm)
    → own trades f k ≢ t → place_price s f firm k ≡ new_price s (own trades f k)
place_price-other firms trades on t s f k firm other =
    either (trade_level firm.buys (part trades f firm.count on) k == 1)
    (number_in-other firms trades on t s (own trades f k) other)
  where
    either : (b : Bool) → number_in s (own trades f k) ≡ s.two.number (own trades f k)
        → (if b then number_in s (own trades f k) else s.two.number (own trades f k)) -ℤ s.two.number (length trades)
        ≡ new_price s (own trades f k)
    either true e = ap (λ (z : ℤ). z -ℤ s.two.number (length trades)) e
    either false e = refl

-- there it is the number of what enters it
pub place_price-high : (firms : List Firm) (trades : List Ends) (on t : ℕ) (s : Setting firms trades on t) (f k : ℕ)
    (firm : Firm)
    → own trades f k ≡ t → trade_level firm.buys (part trades f firm.count on) k ≡ 1
    → place_price s f firm k ≡ s.two.entering -ℤ s.two.number (length trades)
place_price-high firms trades on t s f k firm e high =
    ap (λ (l : ℕ). (if l == 1 then number_in s (own trades f k) else s.two.number (own trades f k))
    -ℤ s.two.number (length trades)) high
    ∙ ap (λ (z : ℤ). z -ℤ s.two.number (length trades)) (number_in-t firms trades on t s (own trades f k) e)

-- each firm's bundle after the round is best at the two numbers
pub best_turned : (firms : List Firm) (trades : List Ends) (on t : ℕ) (vs : List ℕ) (s : Setting firms trades on t)
    → IsTurned firms trades on t vs s → (f : ℕ) (firm : Firm) → slice_get firms f ≡ Some firm
    → (value : ℤ) × IsBest (priced s f firm).worth (part trades f firm.count (along (length trades) on (t ∷ vs))) value
best_turned firms trades on t vs s turn f firm is = (
  at.value,
  subst (λ (x : ℕ). IsBest (priced s f firm).worth x at.value) same best,
)
  where
    at : AtFirm firms trades on t s f firm
    at = at_firm firms trades on t s f firm is

    best : IsBest (priced s f firm).worth (shifted firm.count (part trades f firm.count on) (shifts_at f turn.legs))
        at.value
    best = best_after firms trades on t s f firm at turn.legs turn.shortest

    own_bundle : shifted firm.count (part trades f firm.count on) (shifts_at f turn.legs) < 2 ^ firm.count
    own_bundle =
        (meets-plus_sum firm (pos 1) (payments firm.buys (place_price s f firm)) (omega (arith, ints))
        (s.meet f firm is).0 (s.meet f firm is).1).0
        (shifted firm.count (part trades f firm.count on) (shifts_at f turn.legs)) at.value best.is

    same : shifted firm.count (part trades f firm.count on) (shifts_at f turn.legs)
        ≡ part trades f firm.count (along (length trades) on (t ∷ vs))
    same = same_below _ _ firm.count own_bundle (set_of_within
        (λ k. has (along (length trades) on (t ∷ vs)) (own trades f k)) firm.count)
        (λ k inside. sym (member_along firms trades on t s f k firm is inside turn.legs turn.shortest.path)
        ∙ ap (λ (ns : List ℕ). has (part trades f firm.count (along (length trades) on ns)) k) turn.nodes)

-- where the cycle costs nothing or gains, one price for the trade, that of its begin, is in favour of both its firms
favours : (firms : List Firm) (trades : List Ends) (on t : ℕ) (vs : List ℕ) (s : Setting firms trades on t)
    → IsTurned firms trades on t vs s → s.two.entering ≤ℤ s.two.number t → Avoids t vs → (f : ℕ) (firm : Firm)
    → slice_get firms f ≡ Some firm
    → Favours firm.count (part trades f firm.count (along (length trades) on (t ∷ vs)))
    (payments firm.buys (prices_at trades (new_price s) f)) (payments firm.buys (place_price s f firm))
unfolding trade_level
favours firms trades on t vs s turn joined avoids f firm is k inside =
    subst (λ (b : Bool). IsFavoured b (payments firm.buys (prices_at trades (new_price s) f) k)
    (payments firm.buys (place_price s f firm) k))
    (sym (has-part trades f firm.count (along (length trades) on (t ∷ vs)) k inside))
    (by (cases_eq (own trades f k) t) (cases_eq (trade_level firm.buys (part trades f firm.count on) k) 1))
  where
    same : (b c : Bool) (p q : ℤ) → p ≡ q → IsFavoured b (if c then neg_ℤ q else q) (if c then neg_ℤ p else p)
    same true true p q e = omega (arith, ints, e)
    same true false p q e = omega (arith, ints, e)
    same false true p q e = omega (arith, ints, e)
    same false false p q e = omega (arith, ints, e)

    bought : (b h : Bool) (p q : ℤ) → ◌≡◌ {A = ℕ} (if h then 1 else 0) 1 → b ≡ not h → p ≤ℤ q
        → IsFavoured b (neg_ℤ q) (neg_ℤ p)
    bought true true p q level e more = absurd (cc e)
    bought true false p q level e more = absurd (omega (arith, level))
    bought false h p q level e more = omega (arith, ints, more)

    sold : (b h : Bool) (p q : ℤ) → ◌≡◌ {A = ℕ} (if h then 0 else 1) 1 → b ≡ not h → p ≤ℤ q → IsFavoured b q p
    sold true h p q level e more = more
    sold false true p q level e more = absurd (omega (arith, level))
    sold false false p q level e more = absurd (cc e)

    -- a purchase that is out now, or a sale that is in
    moved : (b c h : Bool) (p q : ℤ) → ◌≡◌ {A = ℕ} (if c then (if h then 1 else 0) else (if h then 0 else 1)) 1
        → b ≡ not h → p ≤ℤ q
        → IsFavoured b (if c then neg_ℤ q else q) (if c then neg_ℤ p else p)
    moved b true h p q level e more = bought b h p q level e more
    moved b false h p q level e more = sold b h p q level e more

    by : (own trades f k ≡ t) ⊎ (own trades f k ≢ t) → (trade_level firm.buys (part trades f firm.count on) k ≡ 1)
        ⊎ (trade_level firm.buys (part trades f firm.count on) k ≢ 1)
        → IsFavoured (has (along (length trades) on (t ∷ vs)) (own trades f k))
        (payments firm.buys (prices_at trades (new_price s) f) k) (payments firm.buys (place_price s f firm) k)
    by (inl e) (inl high) =
        moved (has (along (length trades) on (t ∷ vs)) (own trades f k)) (has firm.buys k)
        (has (part trades f firm.count on) k) (place_price s f firm k) (new_price s (own trades f k)) high
        (ap (has (along (length trades) on (t ∷ vs))) e ∙ has-along-t (length trades) on t vs s.inside avoids
        ∙ ap not (ap (has on) (sym e) ∙ sym (has-part trades f firm.count on k inside)))
        (let old = place_price-high firms trades on t s f k firm e high in
        let here = ap s.two.number e in
        omega (arith, ints, old, joined, here))
    by (inl e) (inr low) =
        same (has (along (length trades) on (t ∷ vs)) (own trades f k)) (has firm.buys k) (place_price s f firm k)
        (new_price s (own trades f k))
        (place_price-low firms trades on t s f k firm low)
    by (inr other) level =
        same (has (along (length trades) on (t ∷ vs)) (own trades f k)) (has firm.buys k) (place_price s f firm k)
        (new_price s (own trades f k))
        (place_price-other firms trades on t s f k firm other)

-- the set along the cycle is an equilibrium at the new prices
pub round_equilibrium : (firms : List Firm) (trades : List Ends) (on t : ℕ) (vs : List ℕ) (cost : ℤ)
    (round : IsRound firms trades on t vs cost) → cost ≤ℤ pos 0
    → IsEquilibrium firms trades (pos 1) (along (length trades) on (t ∷ vs))
    (new_price (setting firms trades on t vs cost round))
round_equilibrium firms trades on t vs cost round gains f firm is =
    let best = best_turned firms trades on t vs s (turned firms trades on t vs cost round) f firm is in
    favoured_best (pos 1) firm (payments firm.buys (prices_at trades (new_price s) f))
    (payments firm.buys (place_price s f firm))
    (part trades f firm.count (along (length trades) on (t ∷ vs))) best.0 best.1
    (favours firms trades on t vs s (turned firms trades on t vs cost round) joined
    (cycle_avoids t vs round.cycle.cycle.different) f firm is)
  where
    s : Setting firms trades on t
    s = setting firms trades on t vs cost round

    joined : (setting firms trades on t vs cost round).two.entering
        ≤ℤ (setting firms trades on t vs cost round).two.number t
    joined = let equal = entering_is firms trades on t vs cost round in omega (arith, ints, gains, equal)

-- an equilibrium's bundles are possible
pub equilibrium_possible : (firms : List Firm) (trades : List Ends) (on : ℕ) (prices : ℕ → ℤ)
    → IsEquilibrium firms trades (pos 1) on prices → ArePossible firms trades on
equilibrium_possible firms trades on prices equilibrium f firm is =
    let best = equilibrium f firm is in
    let worth = option_map-some _ (firm.worth (part trades f firm.count on)) best.0 best.1.is in
    some (firm.worth (part trades f firm.count on)) worth.0 worth.1
  where
    some : (o : Option ℤ) (a : ℤ) → o ≡ Some a → IsSome o
    some (Some b) a e = refl
    some None a e = absurd (cc e)

-- the numbers less null's being prices of an equilibrium, they keep every arc at it
pub numbers_keep : (firms : List Firm) (trades : List Ends) → IsNetwork firms trades → (on : ℕ) (number : ℕ → ℤ)
    → IsEquilibrium firms trades (pos 1) on (λ u. number u -ℤ number (length trades))
    → KeepsArcs (exchange_arc firms trades on) number
numbers_keep firms trades network on number equilibrium =
    labels_keep firms trades network on number (arcs_from_supports firms trades on (λ u. number u
    -ℤ number (length trades)) network equilibrium)

-- one cycle keeps what the next round needs: possible bundles, and the numbers, of which that of the trade's begin is
-- its only one now
pub one_cycle : (firms : List Firm) (trades : List Ends) (on t : ℕ) (vs : List ℕ) (cost : ℤ)
    (round : IsRound firms trades on t vs cost) → cost ≤ℤ pos 0
    → ArePossible firms trades (along (length trades) on (t ∷ vs))
    × KeepsArcs (exchange_arc firms trades (along (length trades) on (t ∷ vs))) round.two.number
unfolding setting
one_cycle firms trades on t vs cost round gains =
    let found = round_equilibrium firms trades on t vs cost round gains in (
      equilibrium_possible firms trades (along (length trades) on (t ∷ vs))
          (new_price (setting firms trades on t vs cost round)) found,
      numbers_keep firms trades round.network (along (length trades) on (t ∷ vs)) round.two.number found,
    )
