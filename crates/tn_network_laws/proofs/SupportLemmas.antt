-- Supporting prices are numbers of the nodes that keep every arc of the exchange graph.
use Rattle.std.proofs.Common.{◌*◌, ◌≡◌, ℕ, ◌<◌, ◌≤◌, Bool, true, false, if◌then◌else◌, ltb, List, [], ◌∷◌, length, slice_get, Some, None, Option, option_map, refl, sym, ap, ap₂, ◌∙◌, arith, inl, inr, ◌↔◌, ℤ, pos, ◌+ℤ◌, ◌-ℤ◌, neg_ℤ, ◌≤ℤ◌, ◌*ℤ◌}
use Rattle.std.specs.Prelude.{◌<ℤ◌, IsSome}
use Rattle.std.proofs.lemmas.Int.{ints}
use Rattle.std.proofs.lemmas.Bool.{cases_lt, lt-ltb, le-ltb}
use Rattle.std.proofs.lemmas.Option.{same_Some}
use Rattle.tn_base.specs.Options.{both}
use Rattle.tn_base.specs.Sets.{has, toggle, sum_over}
use Rattle.tn_base.specs.Firm.{Firm, HasOwnBundles, payments, plus_sum}
use Rattle.tn_base.specs.Exchange.{MeetsExchange}
use Rattle.tn_base.specs.Arcs.{AreSmall}
use Rattle.tn_base.specs.Walks.{walk_cost, KeepsArcs}
use Rattle.tn_market.specs.Valued.{IsWorthAtMost}
use Rattle.tn_base.proofs.SumLemmas.{sum_over-toggle_in, sum_over-toggle_out, times-plus}
use Rattle.tn_firm_laws.specs.Places.{trade_level, level, toggle_at, move, CanRise, CanFall}
use Rattle.tn_firm_laws.proofs.PlaceLemmas.{level-trade, toggle_at-trade, toggle_at-null}
use Rattle.tn_firm_laws.proofs.KeepLemmas.{has-toggle_at, option_map-some, meets-plus_sum}
use Rattle.tn_firm_laws.proofs.ExchangeLemmas.{exchange_to_places}
use Rattle.tn_firm_laws.proofs.LocalLemmas.{IsUnmoved, best_from_unmoved}
use Rattle.tn_model.specs.declared.ends.Ends.{Ends}
use Rattle.tn_model.specs.Network.{own, part, IsNetwork}
use Rattle.tn_market.specs.Equilibrium.{prices_at, HasBest, IsEquilibrium}
use Rattle.tn_market.specs.Graph.{loss, exchange_arc, ArePossible}
use Rattle.tn_market.specs.ArcPlaces.{node_at, AreArcPlaces}
use Rattle.tn_market.proofs.GraphLemmas.{node_at-trade, node_at-null, arc_at, arc_from, arc_within}
use Rattle.tn_network_laws.specs.Laws.{MeetExchange, price_of_node}
use Rattle.tn_network_laws.proofs.WelfareLemmas.{le_from_times}

-- ---- what a move costs at prices

-- the price at a place: none is paid for null
abbrev pub price_of_place : ℕ → (ℕ → ℤ) → ℕ → ℤ
price_of_place n prices k = if ltb k n then prices k else pos 0

-- who raises a place pays its price
one_raised : (buys : ℕ) (prices : ℕ → ℤ) (n x i : ℕ) → CanRise n (level n buys x) i
    → sum_over (payments buys prices) n (toggle_at n x i) ≡ sum_over (payments buys prices) n x
    -ℤ price_of_place n prices i
unfolding trade_level
one_raised buys prices n x i rises = elim (cases_lt i n) [
  | inl p ↦
      let low : trade_level buys x i ≡ 0 = sym (level-trade n buys x i p) ∙ rises p in
      let price : price_of_place n prices i ≡ prices i = ap (λ (b : Bool). if b then prices i else pos 0) (lt-ltb i n p)
      in
      let toggled : sum_over (payments buys prices) n (toggle_at n x i)
      ≡ sum_over (payments buys prices) n (toggle x i) =
      ap (sum_over (payments buys prices) n) (toggle_at-trade n x i p) in
      let step = trade p (has buys i) (has x i) refl refl low in
      omega (arith, ints, price, toggled, step)
  | inr p ↦
      let price : price_of_place n prices i ≡ pos 0 = ap (λ (b : Bool). if b then prices i else pos 0) (le-ltb i n p) in
      let same : sum_over (payments buys prices) n (toggle_at n x i) ≡ sum_over (payments buys prices) n x =
      ap (sum_over (payments buys prices) n) (toggle_at-null n x i p) in
      omega (arith, ints, price, same)
]
  where
    trade : i < n → (b h : Bool) → has buys i ≡ b → has x i ≡ h
        → ◌≡◌ {A = ℕ} (if has buys i then (if has x i then 1 else 0) else (if has x i then 0 else 1)) 0
        → sum_over (payments buys prices) n (toggle x i) ≡ sum_over (payments buys prices) n x -ℤ prices i
    trade p b h side member low =
        by_case b h side member (ap₂ (λ (b h : Bool). if b then (if h then 1 else 0)
        else (if h then 0 else 1)) (sym side) (sym member) ∙ low)
      where
        by_case : (b h : Bool) → has buys i ≡ b → has x i ≡ h
            → ◌≡◌ {A = ℕ} (if b then (if h then 1 else 0) else (if h then 0 else 1)) 0
            → sum_over (payments buys prices) n (toggle x i) ≡ sum_over (payments buys prices) n x -ℤ prices i
        by_case true true s m e = absurd (omega (arith, e))
        by_case true false s m e =
            let step = sum_over-toggle_in (payments buys prices) n x i p m in
            let pays : payments buys prices i ≡ neg_ℤ (prices i) =
            ap (λ (b : Bool). if b then neg_ℤ (prices i) else prices i) s in
            omega (arith, ints, step, pays)
        by_case false true s m e =
            let step = sum_over-toggle_out (payments buys prices) n x i p m in
            let pays : payments buys prices i ≡ prices i = ap (λ (b : Bool). if b then neg_ℤ (prices i) else prices i) s
            in
            omega (arith, ints, step, pays)
        by_case false false s m e = absurd (omega (arith, e))

-- who lowers it gets its price
one_lowered : (buys : ℕ) (prices : ℕ → ℤ) (n x i : ℕ) → CanFall n (level n buys x) i
    → sum_over (payments buys prices) n (toggle_at n x i) ≡ sum_over (payments buys prices) n x
    +ℤ price_of_place n prices i
unfolding trade_level
one_lowered buys prices n x i falls = elim (cases_lt i n) [
  | inl p ↦
      let high : trade_level buys x i ≡ 1 = sym (level-trade n buys x i p) ∙ falls p in
      let price : price_of_place n prices i ≡ prices i = ap (λ (b : Bool). if b then prices i else pos 0) (lt-ltb i n p)
      in
      let toggled : sum_over (payments buys prices) n (toggle_at n x i)
      ≡ sum_over (payments buys prices) n (toggle x i) =
      ap (sum_over (payments buys prices) n) (toggle_at-trade n x i p) in
      let step = trade p (has buys i) (has x i) refl refl high in
      omega (arith, ints, price, toggled, step)
  | inr p ↦
      let price : price_of_place n prices i ≡ pos 0 = ap (λ (b : Bool). if b then prices i else pos 0) (le-ltb i n p) in
      let same : sum_over (payments buys prices) n (toggle_at n x i) ≡ sum_over (payments buys prices) n x =
      ap (sum_over (payments buys prices) n) (toggle_at-null n x i p) in
      omega (arith, ints, price, same)
]
  where
    trade : i < n → (b h : Bool) → has buys i ≡ b → has x i ≡ h
        → ◌≡◌ {A = ℕ} (if has buys i then (if has x i then 1 else 0) else (if has x i then 0 else 1)) 1
        → sum_over (payments buys prices) n (toggle x i) ≡ sum_over (payments buys prices) n x +ℤ prices i
    trade p b h side member high =
        by_case b h side member (ap₂ (λ (b h : Bool). if b then (if h then 1 else 0)
        else (if h then 0 else 1)) (sym side) (sym member) ∙ high)
      where
        by_case : (b h : Bool) → has buys i ≡ b → has x i ≡ h
            → ◌≡◌ {A = ℕ} (if b then (if h then 1 else 0) else (if h then 0 else 1)) 1
            → sum_over (payments buys prices) n (toggle x i) ≡ sum_over (payments buys prices) n x +ℤ prices i
        by_case true true s m e =
            let step = sum_over-toggle_out (payments buys prices) n x i p m in
            let pays : payments buys prices i ≡ neg_ℤ (prices i) =
            ap (λ (b : Bool). if b then neg_ℤ (prices i) else prices i) s in
            omega (arith, ints, step, pays)
        by_case true false s m e = absurd (omega (arith, e))
        by_case false true s m e = absurd (omega (arith, e))
        by_case false false s m e =
            let step = sum_over-toggle_in (payments buys prices) n x i p m in
            let pays : payments buys prices i ≡ prices i = ap (λ (b : Bool). if b then neg_ℤ (prices i) else prices i) s
            in
            omega (arith, ints, step, pays)

-- a move pays the one price and gets the other
pub paid_move : (firm : Firm) (prices : ℕ → ℤ) (x i j : ℕ) → AreArcPlaces firm x i j
    → sum_over (payments firm.buys prices) firm.count (move firm.count x i j)
    ≡ (sum_over (payments firm.buys prices) firm.count x -ℤ price_of_place firm.count prices i)
    +ℤ price_of_place firm.count prices j
unfolding move trade_level
paid_move firm prices x i j places =
    let first = one_raised firm.buys prices firm.count x i places.rises in
    let second = one_lowered firm.buys prices firm.count (toggle_at firm.count x i) j (λ q.
    level-trade firm.count firm.buys (toggle_at firm.count x i) j q
    ∙ ap (λ (h : Bool). if has firm.buys j then (if h then 1 else 0)
    else (if h then 0 else 1)) (has-toggle_at firm.count x i j (λ e. places.apart (sym e)))
    ∙ sym (level-trade firm.count firm.buys x j q) ∙ places.falls q) in
    omega (arith, ints, first, second)

-- the number of a place's node is its price
place_price : (firms : List Firm) (trades : List Ends) → IsNetwork firms trades → (prices : ℕ → ℤ) (f : ℕ) (firm : Firm)
    → slice_get firms f ≡ Some firm → (k : ℕ)
    → price_of_node (length trades) prices (node_at trades f firm.count k)
    ≡ price_of_place firm.count (prices_at trades prices f) k
place_price firms trades network prices f firm is k = elim (cases_lt k firm.count) [
  | inl p ↦
      ap (price_of_node (length trades) prices) (node_at-trade trades f firm.count k p)
      ∙ ap (λ (b : Bool). if b then prices (own trades f k)
      else pos 0) (lt-ltb (own trades f k) (length trades) (network.whole f k firm is p))
      ∙ sym (ap (λ (b : Bool). if b then prices (own trades f k) else pos 0) (lt-ltb k firm.count p))
  | inr p ↦
      ap (price_of_node (length trades) prices) (node_at-null trades f firm.count k p)
      ∙ ap (λ (b : Bool). if b then prices (length trades)
      else pos 0) (le-ltb (length trades) (length trades) (omega arith))
      ∙ sym (ap (λ (b : Bool). if b then prices (own trades f k) else pos 0) (le-ltb k firm.count p))
]

-- ---- what a firm loses

-- a loss is the difference of two worths
pub record IsLoss (firm : Firm) (x y : ℕ) (cost : ℤ) : Type 0 where
  pub first : ℤ
  pub second : ℤ
  pub first_is : firm.worth x ≡ Some first
  pub second_is : firm.worth y ≡ Some second
  pub cost_is : cost ≡ first +ℤ neg_ℤ second

pub loss_parts : (firm : Firm) (x y : ℕ) (cost : ℤ) → loss firm x y ≡ Some cost → IsLoss firm x y cost
loss_parts firm x y cost is = by_case (firm.worth x) (firm.worth y) refl refl is
  where
    by_case : (a b : Option ℤ) → firm.worth x ≡ a → firm.worth y ≡ b → both a (option_map neg_ℤ b) ≡ Some cost
        → IsLoss firm x y cost
    by_case None b p q e = absurd (cc e)
    by_case (Some a) None p q e = absurd (cc e)
    by_case (Some a) (Some b) p q e = record {
      first = a;
      second = b;
      first_is = p;
      second_is = q;
      cost_is =
          same_Some _ _ (sym e);
    }

pub loss_of : (firm : Firm) (x y : ℕ) (a b : ℤ) → firm.worth x ≡ Some a → firm.worth y ≡ Some b
    → loss firm x y ≡ Some (a +ℤ neg_ℤ b)
loss_of firm x y a b x_is y_is = ap₂ (λ (p q : Option ℤ). both p (option_map neg_ℤ q)) x_is y_is

-- ---- supporting prices keep the arcs

-- numbers of the nodes keep the arcs of a graph whose costs count so many times
abbrev pub KeepsArcsAt : (ℕ → ℕ → Option ℤ) → ℤ → (ℕ → ℤ) → Type 0
KeepsArcsAt arc scale label = (u v : ℕ) (cost : ℤ) → arc u v ≡ Some cost → label v ≤ℤ (label u +ℤ scale *ℤ cost)

-- once, these are the arcs as they are
pub keeps_at_one : (arc : ℕ → ℕ → Option ℤ) (label : ℕ → ℤ) → KeepsArcs arc label → KeepsArcsAt arc (pos 1) label
keeps_at_one arc label keeps u v cost is = once (label v) (label u) cost (keeps u v cost is)
  where
    once : (a b c : ℤ) → a ≤ℤ (b +ℤ c) → a ≤ℤ (b +ℤ pos 1 *ℤ c)
    once a b c kept = omega (arith, ints, kept)

keeps_from_one : (arc : ℕ → ℕ → Option ℤ) (label : ℕ → ℤ) → KeepsArcsAt arc (pos 1) label → KeepsArcs arc label
keeps_from_one arc label keeps u v cost is = once (label v) (label u) cost (keeps u v cost is)
  where
    once : (a b c : ℤ) → a ≤ℤ (b +ℤ pos 1 *ℤ c) → a ≤ℤ (b +ℤ c)
    once a b c kept = omega (arith, ints, kept)

-- a multiple of a loss is the loss of the multiples
times_loss : (scale first second : ℤ) → scale *ℤ (first +ℤ neg_ℤ second) ≡ scale *ℤ first -ℤ scale *ℤ second
times_loss scale first second =
    less _ (scale *ℤ first) (scale *ℤ second) (scale *ℤ neg_ℤ second) (times-plus scale first (neg_ℤ second))
    (sym (times-plus scale second (neg_ℤ second)) ∙ ap (λ (z : ℤ). scale *ℤ z) (none second) ∙ nothing scale)
  where
    none : (z : ℤ) → z +ℤ neg_ℤ z ≡ pos 0
    none z = omega (arith, ints)

    nothing : (s : ℤ) → s *ℤ pos 0 ≡ pos 0
    nothing s = omega (arith, ints)

    less : (w a b c : ℤ) → w ≡ a +ℤ c → b +ℤ c ≡ pos 0 → w ≡ a -ℤ b
    less w a b c sum back = omega (arith, ints, sum, back)

-- at a scale the costs count that many times
pub arc_kept : (firms : List Firm) (trades : List Ends) → IsNetwork firms trades → (scale : ℤ) (on : ℕ) (prices : ℕ → ℤ)
    → IsEquilibrium firms trades scale on prices
    → KeepsArcsAt (exchange_arc firms trades on) scale (price_of_node (length trades) prices)
arc_kept firms trades network scale on prices equilibrium u v cost is =
    let at = arc_from firms trades network on u v cost is in
    let x = part trades at.f at.firm.count on in
    let paid = sum_over (payments at.firm.buys (prices_at trades prices at.f)) at.firm.count in
    let y = move at.firm.count (part trades at.f at.firm.count on) at.from at.to in
    let best = equilibrium at.f at.firm at.is in
    let loses = loss_parts at.firm x y cost at.costs in
    let mine = option_map-some (λ a. scale *ℤ a +ℤ paid x) (at.firm.worth x) best.0 best.1.is in
    let first : mine.0 ≡ loses.first = same_Some _ _ (sym mine.1 ∙ loses.first_is) in
    let value : scale *ℤ loses.first +ℤ paid x ≡ best.0 = ap (λ (a : ℤ). scale *ℤ a +ℤ paid x) (sym first) ∙ mine.2 in
    let other = best.1.most y (scale *ℤ loses.second +ℤ paid y)
    (ap (option_map (λ a. scale *ℤ a +ℤ paid y)) loses.second_is) in
    let pays = paid_move at.firm (prices_at trades prices at.f) x at.from at.to at.places in
    let from_price = sym (ap (price_of_node (length trades) prices) at.begin)
    ∙ place_price firms trades network prices at.f at.firm at.is at.from in
    let to_price = sym (ap (price_of_node (length trades) prices) at.end)
    ∙ place_price firms trades network prices at.f at.firm at.is at.to in
    let scaled : scale *ℤ cost ≡ scale *ℤ loses.first -ℤ scale *ℤ loses.second =
    ap (λ (z : ℤ). scale *ℤ z) loses.cost_is ∙ times_loss scale loses.first loses.second in
    keep (scale *ℤ loses.first) (scale *ℤ loses.second) (paid x) (paid y) best.0 _ _ _ _ (scale *ℤ cost) value other
    pays from_price to_price scaled
  where
    keep : (a b px py value pi pj pu pv cost : ℤ) → a +ℤ px ≡ value → (b +ℤ py) ≤ℤ value → py ≡ (px -ℤ pi) +ℤ pj
        → pu ≡ pi → pv ≡ pj → cost ≡ a -ℤ b → pv ≤ℤ (pu +ℤ cost)
    keep a b px py value pi pj pu pv cost value_is most pays from to scaled =
        omega (arith, ints, value_is, most, pays, from, to, scaled)

-- and so does a walk
pub walk_kept : (arc : ℕ → ℕ → Option ℤ) (label : ℕ → ℤ) (scale : ℤ) → KeepsArcsAt arc scale label
    → (u : ℕ) (vs : List ℕ) (w : ℕ) (cost : ℤ) → walk_cost arc u vs w ≡ Some cost
    → label w ≤ℤ (label u +ℤ scale *ℤ cost)
walk_kept arc label scale keeps u [] w cost is = keeps u w cost is
walk_kept arc label scale keeps u (v ∷ vs) w cost is =
    by_case (walk_kept arc label scale keeps v vs w) (arc u v) (walk_cost arc v vs w) refl refl is
  where
    by_case : ((b : ℤ) → walk_cost arc v vs w ≡ Some b → label w ≤ℤ (label v +ℤ scale *ℤ b)) → (first rest : Option ℤ)
        → arc u v ≡ first → walk_cost arc v vs w ≡ rest → both first rest ≡ Some cost
        → label w ≤ℤ (label u +ℤ scale *ℤ cost)
    by_case rest_kept None rest p q e = absurd (cc e)
    by_case rest_kept (Some a) None p q e = absurd (cc e)
    by_case rest_kept (Some a) (Some b) p q e =
        let here = keeps u v a p in
        let there = rest_kept b q in
        let sum : scale *ℤ cost ≡ scale *ℤ a +ℤ scale *ℤ b =
        ap (λ (z : ℤ). scale *ℤ z) (same_Some _ _ (sym e)) ∙ times-plus scale a b in
        omega (arith, ints, here, there, sum)

pub negative_cycles : (firms : List Firm) (trades : List Ends) (on u : ℕ) (vs : List ℕ) (cost : ℤ)
    → IsNetwork firms trades
    → walk_cost (exchange_arc firms trades on) u vs u ≡ Some cost → cost <ℤ pos 0
    → (scale : ℤ) (prices : ℕ → ℤ) → pos 1 ≤ℤ scale → IsEquilibrium firms trades scale on prices → ⊥
negative_cycles firms trades on u vs cost network walk negative scale prices from_one equilibrium =
    let kept = walk_kept (exchange_arc firms trades on) (price_of_node (length trades) prices) scale
    (arc_kept firms trades network scale on prices equilibrium) u vs u cost walk in
    let least : pos 0 ≤ℤ cost =
    le_from_times scale (pos 0) cost from_one (below (scale *ℤ pos 0) (scale *ℤ cost) _ (omega (arith, ints)) kept)
    in
    absurd (omega (arith, ints, least, negative))
  where
    below : (z c p : ℤ) → z ≡ pos 0 → p ≤ℤ (p +ℤ c) → z ≤ℤ c
    below z c p none kept = omega (arith, ints, none, kept)

-- ---- and prices that keep the arcs support

-- where prices keep the arcs at a scale, no move of a firm gains at them
unmoved_at_scale : (firms : List Firm) (trades : List Ends) → IsNetwork firms trades
    → (scale : ℤ) (on : ℕ) (prices : ℕ → ℤ)
    → KeepsArcsAt (exchange_arc firms trades on) scale (price_of_node (length trades) prices)
    → (f : ℕ) (firm : Firm) → slice_get firms f ≡ Some firm → (a : ℤ)
    → firm.worth (part trades f firm.count on) ≡ Some a
    → IsUnmoved (plus_sum scale (payments firm.buys (prices_at trades prices f)) firm) (part trades f firm.count on)
    (scale *ℤ a +ℤ sum_over (payments firm.buys (prices_at trades prices f)) firm.count (part trades f firm.count on))
unmoved_at_scale firms trades network scale on prices keeps f firm is a x_is i j other i_within j_within apart rises
    falls y_is =
    let places : AreArcPlaces firm x i j = record {
      from_within = i_within;
      to_within = j_within;
      apart = apart;
      rises =
          rises;
      falls = falls;
    } in
    let theirs =
    option_map-some (λ w. scale *ℤ w +ℤ paid (move firm.count x i j)) (firm.worth (move firm.count x i j)) other
    y_is in
    let arc = arc_at firms trades network on f firm is i j places
    ∙ loss_of firm x (move firm.count x i j) a theirs.0 x_is theirs.1 in
    let kept = keeps _ _ (a +ℤ neg_ℤ theirs.0) arc in
    let from_price = place_price firms trades network prices f firm is i in
    let to_price = place_price firms trades network prices f firm is j in
    let pays = paid_move firm (prices_at trades prices f) x i j places in
    most (scale *ℤ a) (scale *ℤ theirs.0) (scale *ℤ (a +ℤ neg_ℤ theirs.0)) (paid x) (paid (move firm.count x i j)) other
    _ _ _ _ theirs.2 kept (times_loss scale a theirs.0) from_price to_price pays
  where
    x : ℕ
    x = part trades f firm.count on

    paid : ℕ → ℤ
    paid y = sum_over (payments firm.buys (prices_at trades prices f)) firm.count y

    most : (a b cost px py other pi pj pu pv : ℤ) → b +ℤ py ≡ other → pv ≤ℤ (pu +ℤ cost) → cost ≡ a -ℤ b → pu ≡ pi
        → pv ≡ pj → py ≡ (px -ℤ pi) +ℤ pj → other ≤ℤ (a +ℤ px)
    most a b cost px py other pi pj pu pv is kept loses from to pays =
        omega (arith, ints, is, kept, loses, from, to, pays)

pub unmoved_from_arcs : (firms : List Firm) (trades : List Ends) → IsNetwork firms trades → (on : ℕ) (prices : ℕ → ℤ)
    → KeepsArcs (exchange_arc firms trades on) (price_of_node (length trades) prices)
    → (f : ℕ) (firm : Firm) → slice_get firms f ≡ Some firm → (a : ℤ)
    → firm.worth (part trades f firm.count on) ≡ Some a
    → IsUnmoved (plus_sum (pos 1) (payments firm.buys (prices_at trades prices f)) firm) (part trades f firm.count on)
    (pos 1 *ℤ a +ℤ sum_over (payments firm.buys (prices_at trades prices f)) firm.count (part trades f firm.count on))
unmoved_from_arcs firms trades network on prices keeps =
    unmoved_at_scale firms trades network (pos 1) on prices
    (keeps_at_one (exchange_arc firms trades on) (price_of_node (length trades) prices) keeps)

-- so its bundle is best
firm_best : (firms : List Firm) (trades : List Ends) → IsNetwork firms trades → (scale : ℤ) (on : ℕ) (prices : ℕ → ℤ)
    → pos 0 ≤ℤ scale
    → KeepsArcsAt (exchange_arc firms trades on) scale (price_of_node (length trades) prices)
    → (f : ℕ) (firm : Firm) → slice_get firms f ≡ Some firm → HasOwnBundles firm → MeetsExchange firm → (a : ℤ)
    → firm.worth (part trades f firm.count on) ≡ Some a
    → HasBest trades scale on prices f firm
firm_best firms trades network scale on prices from_zero keeps f firm is own meets a x_is =
    let priced = meets-plus_sum firm scale (payments firm.buys (prices_at trades prices f)) from_zero own meets in (
      scale *ℤ a +ℤ paid x,
      best_from_unmoved (plus_sum scale (payments firm.buys (prices_at trades prices f)) firm) priced.0
          (exchange_to_places (plus_sum scale (payments firm.buys (prices_at trades prices f)) firm) priced.0 priced.1)
          x (scale *ℤ a +ℤ paid x)
          (ap (option_map (λ w. scale *ℤ w +ℤ paid x)) x_is) (unmoved_at_scale firms trades network scale on prices
          keeps f firm is a x_is),
    )
  where
    x : ℕ
    x = part trades f firm.count on

    paid : ℕ → ℤ
    paid y = sum_over (payments firm.buys (prices_at trades prices f)) firm.count y

pub supports_at_scale : (firms : List Firm) (trades : List Ends) (scale : ℤ) (on : ℕ) (prices : ℕ → ℤ)
    → IsNetwork firms trades → MeetExchange firms → pos 0 ≤ℤ scale
    → ArePossible firms trades on
    → KeepsArcsAt (exchange_arc firms trades on) scale (price_of_node (length trades) prices)
    → IsEquilibrium firms trades scale on prices
supports_at_scale firms trades scale on prices network meet from_zero possible keeps f firm is =
    let law = meet f firm is in
    let worth = some_worth (firm.worth (part trades f firm.count on)) (possible f firm is) in
    firm_best firms trades network scale on prices from_zero keeps f firm is law.0 law.1 worth.0 worth.1
  where
    some_worth : (o : Option ℤ) → IsSome o → (a : ℤ) × (o ≡ Some a)
    some_worth (Some a) there = (a, refl)
    some_worth None there = absurd (cc there)

pub supports_from_arcs : (firms : List Firm) (trades : List Ends) (on : ℕ) (prices : ℕ → ℤ) → IsNetwork firms trades
    → MeetExchange firms
    → ArePossible firms trades on → KeepsArcs (exchange_arc firms trades on) (price_of_node (length trades) prices)
    → IsEquilibrium firms trades (pos 1) on prices
supports_from_arcs firms trades on prices network meet possible keeps =
    supports_at_scale firms trades (pos 1) on prices network meet (omega (arith, ints)) possible
    (keeps_at_one (exchange_arc firms trades on) (price_of_node (length trades) prices) keeps)

pub arcs_from_supports : (firms : List Firm) (trades : List Ends) (on : ℕ) (prices : ℕ → ℤ) → IsNetwork firms trades
    → IsEquilibrium firms trades (pos 1) on prices
    → KeepsArcs (exchange_arc firms trades on) (price_of_node (length trades) prices)
arcs_from_supports firms trades on prices network equilibrium =
    keeps_from_one (exchange_arc firms trades on) (price_of_node (length trades) prices)
    (arc_kept firms trades network (pos 1) on prices equilibrium)

pub supports_keep_arcs : (firms : List Firm) (trades : List Ends) (on : ℕ) (prices : ℕ → ℤ) → IsNetwork firms trades
    → MeetExchange firms
    → ArePossible firms trades on
    → IsEquilibrium firms trades (pos 1) on prices
    ↔ KeepsArcs (exchange_arc firms trades on) (price_of_node (length trades) prices)
supports_keep_arcs firms trades on prices network meet possible =
    (arcs_from_supports firms trades on prices network, supports_from_arcs firms trades on prices network meet possible)

-- the number of a node, less the null node's, is a price
less_null : (count : ℕ) (label : ℕ → ℤ) (u : ℕ) → u ≤ count
    → price_of_node count (λ t. label t -ℤ label count) u ≡ label u -ℤ label count
less_null count label u within = elim (cases_lt u count) [
  | inl p ↦ ap (λ (b : Bool). if b then label u -ℤ label count else pos 0) (lt-ltb u count p)
  | inr p ↦
      let null : u ≡ count = omega (arith, within, p) in
      ap (λ (b : Bool). if b then label u -ℤ label count else pos 0) (le-ltb u count p)
      ∙ nothing (label u) (label count) (ap label null)
]
  where
    nothing : (a b : ℤ) → a ≡ b → pos 0 ≡ a -ℤ b
    nothing a b same = omega (arith, ints, same)

-- these prices keep the arcs
pub prices_keep_at : (firms : List Firm) (trades : List Ends) (scale : ℤ) (on : ℕ) (label : ℕ → ℤ)
    → KeepsArcsAt (exchange_arc firms trades on) scale label
    → KeepsArcsAt (exchange_arc firms trades on) scale
    (price_of_node (length trades) (λ t. label t -ℤ label (length trades)))
prices_keep_at firms trades scale on label keeps u v cost is =
    let inside = arc_within firms trades on u v cost is in
    shift _ _ (label u) (label v) (label (length trades)) (scale *ℤ cost) (less_null (length trades) label u inside.0)
    (less_null (length trades) label v inside.1) (keeps u v cost is)
  where
    shift : (pu pv lu lv ln cost : ℤ) → pu ≡ lu -ℤ ln → pv ≡ lv -ℤ ln → lv ≤ℤ (lu +ℤ cost) → pv ≤ℤ (pu +ℤ cost)
    shift pu pv lu lv ln cost u v kept = omega (arith, ints, u, v, kept)

pub prices_keep : (firms : List Firm) (trades : List Ends) → IsNetwork firms trades → (on : ℕ) (label : ℕ → ℤ)
    → KeepsArcs (exchange_arc firms trades on) label
    → KeepsArcs (exchange_arc firms trades on) (price_of_node (length trades) (λ t. label t -ℤ label (length trades)))
prices_keep firms trades network on label keeps =
    keeps_from_one (exchange_arc firms trades on)
    (price_of_node (length trades) (λ t. label t -ℤ label (length trades)))
    (prices_keep_at firms trades (pos 1) on label (keeps_at_one (exchange_arc firms trades on) label keeps))

-- and where they do, so do the numbers
pub labels_keep : (firms : List Firm) (trades : List Ends) → IsNetwork firms trades → (on : ℕ) (label : ℕ → ℤ)
    → KeepsArcs (exchange_arc firms trades on) (price_of_node (length trades) (λ t. label t -ℤ label (length trades)))
    → KeepsArcs (exchange_arc firms trades on) label
labels_keep firms trades network on label keeps u v cost is =
    let inside = arc_within firms trades on u v cost is in
    shift _ _ (label u) (label v) (label (length trades)) cost (less_null (length trades) label u inside.0)
    (less_null (length trades) label v inside.1) (keeps u v cost is)
  where
    shift : (pu pv lu lv ln cost : ℤ) → pu ≡ lu -ℤ ln → pv ≡ lv -ℤ ln → pv ≤ℤ (pu +ℤ cost) → lv ≤ℤ (lu +ℤ cost)
    shift pu pv lu lv ln cost u v kept = omega (arith, ints, u, v, kept)

pub labels_are_supports : (firms : List Firm) (trades : List Ends) (on : ℕ) (label : ℕ → ℤ) → IsNetwork firms trades
    → MeetExchange firms
    → ArePossible firms trades on → KeepsArcs (exchange_arc firms trades on) label
    → IsEquilibrium firms trades (pos 1) on (λ t. label t -ℤ label (length trades))
labels_are_supports firms trades on label network meet possible keeps =
    supports_from_arcs firms trades on (λ t. label t -ℤ label (length trades)) network meet possible
    (prices_keep firms trades network on label keeps)

-- no arc costs more than two worths
pub arcs_small : (firms : List Firm) (trades : List Ends) → IsNetwork firms trades → (bound on : ℕ)
    → ((f : ℕ) (firm : Firm) → slice_get firms f ≡ Some firm → IsWorthAtMost bound firm)
    → AreSmall (exchange_arc firms trades on) (2 * bound)
arcs_small firms trades network bound on within u v cost is =
    let at = arc_from firms trades network on u v cost is in
    let loses = loss_parts at.firm _ _ cost at.costs in
    let first = within at.f at.firm at.is _ loses.first loses.first_is in
    let second = within at.f at.firm at.is _ loses.second loses.second_is in
    let first_low = first.low in
    let first_high = first.high in
    let second_low = second.low in
    let second_high = second.high in
    let sum = loses.cost_is in
    record {
      low = omega (arith, ints, first_low, first_high, second_low, second_high, sum);
      high =
          omega (arith, ints, first_low, first_high, second_low, second_high, sum);
    }
