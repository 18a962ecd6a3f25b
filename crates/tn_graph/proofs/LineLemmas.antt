-- What the arcs of one firm cost: line by line, each between one place and others.
use Rattle.std.proofs.Common.{◌≡◌, ◌≢◌, ℕ, ◌+◌, ◌^◌, get_or, ◌<◌, ◌≤◌, Bool, true, false, not, ◌&&◌, List, slice_get, Some, None, Option, refl, sym, ap, ap₂, ◌∙◌, subst, arith, inl, inr, ℤ}
use Rattle.std.proofs.lemmas.Bool.{cases_eq, cases_lt, eqb-true, eq-eqb, ne_eqb, lt-ltb, and_parts}
use Rattle.tn_base.specs.Sets.{has, toggle, size}
use Rattle.tn_base.proofs.SetLemmas.{has-set_of, has_below, has-toggle_other, set_of_within, toggle_within}
use Rattle.tn_base.proofs.SizeLemmas.{size-toggle_in}
use Rattle.tn_base.specs.Firm.{Firm}
use Rattle.tn_firm_laws.specs.Places.{trade_level, level, toggle_at, move, CanRise, CanFall}
use Rattle.tn_firm_laws.proofs.PlaceLemmas.{level-trade, toggle_at-trade, toggle_at-null, toggle_at-order, trade_level-le}
use Rattle.tn_model.specs.declared.ends.Ends.{Ends}
use Rattle.tn_model.specs.Network.{own, part, IsNetwork}
use Rattle.tn_market.specs.Graph.{loss, exchange_arc}
use Rattle.tn_market.specs.ArcPlaces.{node_at, AreArcPlaces}
use Rattle.tn_market.proofs.GraphLemmas.{node_at-trade, arc_at, move_of_arc, same_firm}
use Rattle.tn_graph.specs.Blocks.{CostBlocks, arcs_of}
use Rattle.tn_market.specs.Valued.{HasToggledWorths}
use Rattle.tn_graph.specs.Reading.{IsLineRead, partners, has_level, raised_place, lowered_place, CanMove, is_asked, Improves, IsStand, HasArc, HasLine, HasArcsAmong, HasArcsOf}
use Rattle.tn_graph.proofs.AskedLemmas.{AreSpared, spared_none, spared_read, spared_skipped, size-mono, asked_own, asked_from_own}
use Rattle.tn_graph.proofs.ReadingLemmas.{improves-none, improves-trans, stays_right}

-- what a move costs is the cost of its arc
pub loss_is_arc : (firms : List Firm) (trades : List Ends) (on f n : ℕ) (firm : Firm) (limit x : ℕ) (worth : ℤ)
    → IsStand firms trades on f n firm limit x worth
    → (i j : ℕ) → AreArcPlaces firm x i j → (cost : Option ℤ) → cost ≡ loss firm x (move n x i j)
    → cost ≡ exchange_arc firms trades on (node_at trades f n i) (node_at trades f n j)
loss_is_arc firms trades on f n firm limit x worth stand i j places cost is =
    let counted : n ≡ firm.count = stand.counted in
    let here : x ≡ part trades f firm.count on = stand.bundle_is ∙ ap (λ (k : ℕ). part trades f k on) counted in
    is ∙ ap₂ (λ (k y : ℕ). loss firm y (move k y i j)) counted here
    ∙ sym (arc_at firms trades stand.network on f firm stand.is i j
    (subst (λ (y : ℕ). AreArcPlaces firm y i j) here places))
    ∙ ap (λ (k : ℕ). exchange_arc firms trades on (node_at trades f k i) (node_at trades f k j)) (sym counted)

-- places that can be raised and lowered
pub arc_places : (firms : List Firm) (trades : List Ends) (on f n : ℕ) (firm : Firm) (limit x : ℕ) (worth : ℤ)
    → IsStand firms trades on f n firm limit x worth
    → (i j : ℕ) → i ≤ n → j < n + 1 → j ≢ i → CanRise n (level n firm.buys x) i → CanFall n (level n firm.buys x) j
    → AreArcPlaces firm x i j
arc_places firms trades on f n firm limit x worth stand i j i_within j_within apart rises falls =
    let counted : n ≡ firm.count = stand.counted in
    record {
      from_within = omega (arith, i_within, counted);
      to_within = omega (arith, j_within, counted);
      apart = λ e. apart (sym e);
      rises = subst (λ (k : ℕ). CanRise k (level k firm.buys x) i) counted rises;
      falls = subst (λ (k : ℕ). CanFall k (level k firm.buys x) j) counted falls;
    }

-- two places, of which one can move as told and the other one the other way
line_places : (firms : List Firm) (trades : List Ends) (on f n : ℕ) (firm : Firm) (limit x : ℕ) (worth : ℤ)
    → IsStand firms trades on f n firm limit x worth
    → (rises : Bool) (k other : ℕ) → k ≤ n → other < n + 1 → other ≢ k → CanMove rises n (level n firm.buys x) k
    → CanMove (not rises) n (level n firm.buys x) other
    → AreArcPlaces firm x (raised_place rises k other) (lowered_place rises k other)
line_places firms trades on f n firm limit x worth stand true k other k_in other_in apart moves back =
    arc_places firms trades on f n firm limit x worth stand k other k_in other_in apart moves back
line_places firms trades on f n firm limit x worth stand false k other k_in other_in apart moves back =
    arc_places firms trades on f n firm limit x worth stand other k (omega (arith, other_in)) (omega (arith, k_in))
    (λ e. apart (sym e)) back moves

-- what the partners of a place are
partners_at : (buys x asked : ℕ) (high : Bool) (n others j : ℕ) → others ≡ partners buys x asked high n → j < n
    → has others j ≡ (has asked j && has_level buys x high j)
partners_at buys x asked high n others j is below =
    ap (λ (z : ℕ). has z j) is ∙ has-set_of (λ k. has asked k && has_level buys x high k) n j
    ∙ ap (λ (b : Bool). b && (has asked j && has_level buys x high j)) (lt-ltb j n below)

-- they are below n, and are asked for
pub partners_own : (buys x asked : ℕ) (high : Bool) (n others : ℕ) → others ≡ partners buys x asked high n
    → others < 2 ^ n
partners_own buys x asked high n others is =
    subst (λ (z : ℕ). z < 2 ^ n) (sym is) (set_of_within (λ k. has asked k && has_level buys x high k) n)

pub partners_asked : (buys x asked : ℕ) (high : Bool) (n others : ℕ) → others ≡ partners buys x asked high n
    → (k : ℕ) → has others k ≡ true → has asked k ≡ true
partners_asked buys x asked high n others is k member =
    let below = has_below others n k (partners_own buys x asked high n others is) member in
    (and_parts (has asked k) (has_level buys x high k)
    (sym (partners_at buys x asked high n others k is below) ∙ member)).0

-- a partner's level is such that it can move the other way
level_moves : (n buys x : ℕ) (high : Bool) (j : ℕ) → j < n → has_level buys x high j ≡ true
    → CanMove (not high) n (level n buys x) j
level_moves n buys x true j below is = λ inside.
    level-trade n buys x j below ∙ eqb-true (trade_level buys x j) 1 is
level_moves n buys x false j below is = λ inside.
    let at = level-trade n buys x j below in
    let small = trade_level-le buys x j in
    let not_one : trade_level buys x j ≡ 1 → ⊥ = λ e. absurd (let high : has_level buys x false j ≡ false =
    ap not (eq-eqb (trade_level buys x j) 1 e) in cc (high, is)) in
    omega (arith, at, small, not_one)

moves_level : (n buys x : ℕ) (high : Bool) (j : ℕ) → j < n → CanMove (not high) n (level n buys x) j
    → has_level buys x high j ≡ true
moves_level n buys x true j below moves =
    eq-eqb (trade_level buys x j) 1 (sym (level-trade n buys x j below) ∙ moves below)
moves_level n buys x false j below moves =
    let low : trade_level buys x j ≡ 0 = sym (level-trade n buys x j below) ∙ moves below in
    ap not (ne_eqb (trade_level buys x j) 1 (omega (arith, low)))

-- a place that can move isn't of the level of its partners
moves_not_level : (n buys x : ℕ) (high : Bool) (k : ℕ) → k < n → CanMove high n (level n buys x) k
    → has_level buys x high k ≡ false
moves_not_level n buys x true k below moves =
    let low : trade_level buys x k ≡ 0 = sym (level-trade n buys x k below) ∙ moves below in
    ne_eqb (trade_level buys x k) 1 (omega (arith, low))
moves_not_level n buys x false k below moves =
    ap not (eq-eqb (trade_level buys x k) 1 (sym (level-trade n buys x k below) ∙ moves below))

pub partner_apart : (n buys x asked : ℕ) (rises : Bool) (k others : ℕ) → others ≡ partners buys x asked rises n → k < n
    → CanMove rises n (level n buys x) k → has others k ≡ false
partner_apart n buys x asked rises k others is below moves =
    partners_at buys x asked rises n others k is below
    ∙ ap (λ (b : Bool). has asked k && b) (moves_not_level n buys x rises k below moves) ∙ off (has asked k)
  where
    off : (b : Bool) → (b && false) ≡ false
    off true = refl
    off false = refl

-- a partner of a place
pub partner_is_place : (firms : List Firm) (trades : List Ends) (on f n : ℕ) (firm : Firm) (limit x : ℕ) (worth : ℤ)
    → IsStand firms trades on f n firm limit x worth
    → (rises : Bool) (k others asked : ℕ) → k ≤ n → CanMove rises n (level n firm.buys x) k
    → others ≡ partners firm.buys x asked rises n → (other : ℕ) → other < n → has others other ≡ true
    → AreArcPlaces firm x (raised_place rises k other) (lowered_place rises k other)
partner_is_place firms trades on f n firm limit x worth stand rises k others asked k_in moves is other below member =
    let parts = and_parts (has asked other) (has_level firm.buys x rises other)
    (sym (partners_at firm.buys x asked rises n others other is below) ∙ member) in
    line_places firms trades on f n firm limit x worth stand rises k other k_in (omega (arith, below)) apart moves
    (level_moves n firm.buys x rises other below parts.1)
  where
    apart : other ≢ k
    apart e =
        let k_below : k < n = omega (arith, below, e) in
        let absent = partner_apart n firm.buys x asked rises k others is k_below moves in
        let there : has others k ≡ true = ap (has others) (sym e) ∙ member in
        absurd (cc (there, absent))

-- the other places of a line that are asked for are partners
other_moves : (firm : Firm) (x : ℕ) (rises : Bool) (k other : ℕ)
    → AreArcPlaces firm x (raised_place rises k other) (lowered_place rises k other)
    → CanMove (not rises) firm.count (level firm.count firm.buys x) other
other_moves firm x true k other places = places.falls
other_moves firm x false k other places = places.rises

place_is_partner : (firms : List Firm) (trades : List Ends) (on f n : ℕ) (firm : Firm) (limit x : ℕ) (worth : ℤ)
    → IsStand firms trades on f n firm limit x worth
    → (rises : Bool) (k others asked : ℕ) → others ≡ partners firm.buys x asked rises n
    → (other : ℕ) → other < n → has asked other ≡ true
    → AreArcPlaces firm x (raised_place rises k other) (lowered_place rises k other) → has others other ≡ true
place_is_partner firms trades on f n firm limit x worth stand rises k others asked is other below there places =
    let counted : n ≡ firm.count = stand.counted in
    let moves = subst (λ (m : ℕ). CanMove (not rises) m (level m firm.buys x) other) (sym counted)
    (other_moves firm x rises k other places) in
    partners_at firm.buys x asked rises n others other is below
    ∙ ap₂ (λ (a b : Bool). a && b) there (moves_level n firm.buys x rises other below moves)

-- a worth of the row is that of the bundle moved at the two places
pub line_worth : (n x : ℕ) (rises : Bool) (k other others : ℕ) (worth_of : ℕ → Option ℤ) (worths : List (Option ℤ))
    → HasToggledWorths worth_of (toggle_at n x k) others worths
    → other < n → has others other ≡ true
    → get_or worths other None ≡ worth_of (move n x (raised_place rises k other) (lowered_place rises k other))
unfolding move
line_worth n x true k other others worth_of worths row below member =
    row other member ∙ ap worth_of (sym (toggle_at-trade n (toggle_at n x k) other below))
line_worth n x false k other others worth_of worths row below member =
    row other member ∙ ap worth_of (sym (toggle_at-trade n (toggle_at n x k) other below) ∙ toggle_at-order n x k other)

-- so is the worth of the toggled bundle, for null
pub null_worth : (n x : ℕ) (rises : Bool) (k toggled : ℕ) → toggled ≡ toggle_at n x k
    → toggled ≡ move n x (raised_place rises k n) (lowered_place rises k n)
unfolding move
null_worth n x true k toggled is = is ∙ sym (toggle_at-null n (toggle_at n x k) n (omega arith))
null_worth n x false k toggled is = is ∙ ap (λ (y : ℕ). toggle_at n y k) (sym (toggle_at-null n x n (omega arith)))

pub line_start : (firms : List Firm) (trades : List Ends) (on f n : ℕ) (rises : Bool) (k others : ℕ) (graph : CostBlocks)
    → IsLineRead firms trades on f n rises k others graph 0 graph
line_start firms trades on f n rises k others graph = record {
  improved = improves-none (exchange_arc firms trades on) graph;
  line = λ other h. absurd (omega (arith, h));
}

pub line_read : (firms : List Firm) (trades : List Ends) (on f n : ℕ) (rises : Bool) (k others : ℕ) (before : CostBlocks)
    (j : ℕ) (graph : CostBlocks)
    → IsLineRead firms trades on f n rises k others before j graph → (after : CostBlocks)
    → Improves (exchange_arc firms trades on) graph after
    → HasArc firms trades on f n (raised_place rises k j) (lowered_place rises k j) after
    → IsLineRead firms trades on f n rises k others before (j + 1) after
line_read firms trades on f n rises k others before j graph read after improved right = record {
  improved = improves-trans (exchange_arc firms trades on) before graph after read.improved improved;
  line = λ other h member. elim (cases_eq other j) [
    | inl e ↦ subst (λ (m : ℕ). HasArc firms trades on f n (raised_place rises k m) (lowered_place rises k m) after)
        (sym e) right
    | inr d ↦ stays_right (exchange_arc firms trades on) graph after improved _ _
        (read.line other (omega (arith, h, d)) member)
  ];
}

pub line_skipped : (firms : List Firm) (trades : List Ends) (on f n : ℕ) (rises : Bool) (k others : ℕ) (before : CostBlocks)
    (j : ℕ) (graph : CostBlocks)
    → IsLineRead firms trades on f n rises k others before j graph → has others j ≡ false
    → IsLineRead firms trades on f n rises k others before (j + 1) graph
line_skipped firms trades on f n rises k others before j graph read absent = record {
  improved = read.improved;
  line = λ other h member. elim (cases_eq other j) [
    | inl e ↦ absurd (let there : has others j ≡ true = ap (has others) (sym e) ∙ member in cc (there, absent))
    | inr d ↦ read.line other (omega (arith, h, d)) member
  ];
}

-- the places of a line that are asked for are the partners and null
other_within : (firm : Firm) (x : ℕ) (rises : Bool) (k other : ℕ)
    → AreArcPlaces firm x (raised_place rises k other) (lowered_place rises k other)
    → (other ≤ firm.count) × (k ≢ other)
other_within firm x true k other places = (places.to_within, places.apart)
other_within firm x false k other places = (places.from_within, λ e. places.apart (sym e))

pub whole_line : (firms : List Firm) (trades : List Ends) (on f n : ℕ) (firm : Firm) (limit x : ℕ) (worth : ℤ)
    → IsStand firms trades on f n firm limit x worth
    → (rises : Bool) (k others asked : ℕ) → k ≤ n → others ≡ partners firm.buys x asked rises n
    → (before graph after : CostBlocks) → IsLineRead firms trades on f n rises k others before n graph
    → Improves (exchange_arc firms trades on) graph after
    → (k < n → HasArc firms trades on f n (raised_place rises k n) (lowered_place rises k n) after)
    → HasLine firms trades on f n firm x asked rises k after
whole_line firms trades on f n firm limit x worth stand rises k others asked k_in is before graph after read improved
    null
    other counts places =
    let within = other_within firm x rises k other places in
    let most = within.0 in
    let counted : n ≡ firm.count = stand.counted in
    elim (cases_lt other n) [
      | inl below ↦ stays_right (exchange_arc firms trades on) graph after improved _ _
          (read.line other below (place_is_partner firms trades on f n firm limit x worth stand rises k others asked is
          other below (asked_own n asked other below counts) places))
      | inr past ↦
          let at : n ≡ other = omega (arith, past, most, counted) in
          let k_below : k < n = (let apart = within.1 in omega (arith, k_in, at, apart)) in
          subst (λ (m : ℕ). HasArc firms trades on f n (raised_place rises k m) (lowered_place rises k m) after) at
          (null k_below)
    ]

-- null is beside each position
pub null_is_place : (firms : List Firm) (trades : List Ends) (on f n : ℕ) (firm : Firm) (limit x : ℕ) (worth : ℤ)
    → IsStand firms trades on f n firm limit x worth
    → (rises : Bool) (k : ℕ) → k < n → CanMove rises n (level n firm.buys x) k
    → AreArcPlaces firm x (raised_place rises k n) (lowered_place rises k n)
null_is_place firms trades on f n firm limit x worth stand rises k below moves =
    line_places firms trades on f n firm limit x worth stand rises k n (omega (arith, below)) (omega arith)
    (λ e. absurd (omega (arith, below, e))) moves (null_moves (not rises))
  where
    null_moves : (b : Bool) → CanMove b n (level n firm.buys x) n
    null_moves true = λ h. absurd (omega (arith, h))
    null_moves false = λ h. absurd (omega (arith, h))

-- a position that is asked for and its partners are no more than those that are asked for
pub line_few : (buys x asked : ℕ) (rises : Bool) (n others k : ℕ) → others ≡ partners buys x asked rises n
    → asked < 2 ^ n → k < n → has asked k ≡ true → CanMove rises n (level n buys x) k
    → size others + 1 ≤ size asked
line_few buys x asked rises n others k is within below there moves =
    let absent = partner_apart n buys x asked rises k others is below moves in
    let more : size (toggle others k) ≡ size others + 1 = size-toggle_in others k absent in
    let most : size (toggle others k) ≤ size asked =
    size-mono (toggle others k) asked n
    (toggle_within others k n (partners_own buys x asked rises n others is) below) within inside in
    omega (arith, more, most)
  where
    inside : (j : ℕ) → has (toggle others k) j ≡ true → has asked j ≡ true
    inside j member = elim (cases_eq j k) [
      | inl e ↦ ap (has asked) e ∙ there
      | inr d ↦ partners_asked buys x asked rises n others is j (sym (has-toggle_other others k j d) ∙ member)
    ]

-- the rows of the positions before k that are asked for and can be raised
pub record AreRowsRead (firms : List Firm) (trades : List Ends) (on f n : ℕ) (firm : Firm) (x asked others : ℕ)
    (before : CostBlocks) (steps_before k : ℕ) (graph : CostBlocks) (steps : ℕ) : Type 0 where
  pub improved : Improves (exchange_arc firms trades on) before graph
  pub rows : (i : ℕ) → i < k → has asked i ≡ true → HasLine firms trades on f n firm x asked true i graph
  pub spared : AreSpared asked others steps_before k steps

-- what holds of a graph and a count holds of those that they are
pub carried : (P : CostBlocks → ℕ → Type 0) (graph other : CostBlocks) (steps more : ℕ) → other ≡ graph → more ≡ steps
    → P graph steps → P other more
carried P graph other steps more one two holds =
    subst (λ (z : CostBlocks). P z more) (sym one) (subst (P graph) (sym two) holds)

pub rows_none : (firms : List Firm) (trades : List Ends) (on f n : ℕ) (firm : Firm) (x asked others : ℕ)
    (graph : CostBlocks) (steps : ℕ)
    → AreRowsRead firms trades on f n firm x asked others graph steps 0 graph steps
rows_none firms trades on f n firm x asked others graph steps = record {
  improved = improves-none (exchange_arc firms trades on) graph;
  rows = λ i h. absurd (omega (arith, h));
  spared = spared_none asked others steps;
}

-- the lines that are right stay so
pub line_stays : (firms : List Firm) (trades : List Ends) (on f n : ℕ) (firm : Firm) (x asked : ℕ) (rises : Bool)
    (k : ℕ)
    (before after : CostBlocks) → Improves (exchange_arc firms trades on) before after
    → HasLine firms trades on f n firm x asked rises k before → HasLine firms trades on f n firm x asked rises k after
line_stays firms trades on f n firm x asked rises k before after improved line other counts places =
    stays_right (exchange_arc firms trades on) before after improved _ _ (line other counts places)

-- whether a position has a row is told by the test of its level
pub row_moves : (n buys x asked k : ℕ) (is_row : Bool) → k < n → is_row ≡ (has asked k && has_level buys x false k)
    → is_row ≡ true → (has asked k ≡ true) × CanMove true n (level n buys x) k
row_moves n buys x asked k is_row below is there =
    let parts = and_parts (has asked k) (has_level buys x false k) (sym is ∙ there) in
    (parts.0, level_moves n buys x false k below parts.1)

pub rows_more : (firms : List Firm) (trades : List Ends) (on f n : ℕ) (firm : Firm) (limit x : ℕ) (worth : ℤ)
    → IsStand firms trades on f n firm limit x worth
    → (asked others k : ℕ) → others ≡ partners firm.buys x asked true n → asked < 2 ^ n → k < n
    → has asked k ≡ true → CanMove true n (level n firm.buys x) k
    → (first before : CostBlocks) (steps_first steps more : ℕ) (after : CostBlocks)
    → AreRowsRead firms trades on f n firm x asked others first steps_first k before steps
    → Improves (exchange_arc firms trades on) before after
    → HasLine firms trades on f n firm x asked true k after → more ≡ steps + size others + 1
    → AreRowsRead firms trades on f n firm x asked others first steps_first (k + 1) after more
rows_more firms trades on f n firm limit x worth stand asked others k is own below there moves first before steps_first
    steps more after rows improved line counted = record {
      improved = improves-trans (exchange_arc firms trades on) first before after rows.improved improved;
      rows = λ i h asks. elim (cases_eq i k) [
        | inl e ↦ subst (λ (m : ℕ). HasLine firms trades on f n firm x asked true m after) (sym e) line
        | inr d ↦ line_stays firms trades on f n firm x asked true i before after improved
            (rows.rows i (omega (arith, h, d)) asks)
      ];
      spared = spared_read asked others steps_first k steps more rows.spared there
          (partner_apart n firm.buys x asked true k others is below moves)
          (let few = line_few firm.buys x asked true n others k is own below there moves in omega
          (arith, few, counted));
    }

pub rows_same : (firms : List Firm) (trades : List Ends) (on f n : ℕ) (firm : Firm) (limit x : ℕ) (worth : ℤ)
    → IsStand firms trades on f n firm limit x worth
    → (asked others k : ℕ) → others ≡ partners firm.buys x asked true n → k < n
    → (is_row : Bool) → is_row ≡ (has asked k && has_level firm.buys x false k) → is_row ≡ false
    → (first : CostBlocks) (steps_first steps : ℕ) (graph : CostBlocks)
    → AreRowsRead firms trades on f n firm x asked others first steps_first k graph steps
    → AreRowsRead firms trades on f n firm x asked others first steps_first (k + 1) graph steps
rows_same firms trades on f n firm limit x worth stand asked others k is below is_row tested absent first steps_first
    steps
    graph rows = record {
      improved = rows.improved;
      rows = λ i h asks. elim (cases_eq i k) [
        | inl e ↦ (λ other counts places. absurd (
            let counted : n ≡ firm.count = stand.counted in
            let i_below : i < n = omega (arith, below, e) in
            let rises = subst (λ (m : ℕ). CanMove true m (level m firm.buys x) i) (sym counted) places.rises in
            let low = moves_level n firm.buys x false i i_below rises in
            let both : (has asked i && has_level firm.buys x false i) ≡ true = ap₂ (λ (a b : Bool). a && b) asks low in
            let there : (has asked k && has_level firm.buys x false k) ≡ true =
            subst (λ (m : ℕ). (has asked m && has_level firm.buys x false m) ≡ true) e both in
            cc (there, tested, absent)))
        | inr d ↦ rows.rows i (omega (arith, h, d)) asks
      ];
      spared = spared_skipped asked others steps_first k steps rows.spared
          (λ member. partners_asked firm.buys x asked true n others is k member);
    }

-- all rows are all arcs of the firm that are asked for
pub all_rows : (firms : List Firm) (trades : List Ends) (on f n : ℕ) (firm : Firm) (limit x : ℕ) (worth : ℤ)
    → IsStand firms trades on f n firm limit x worth
    → (asked others : ℕ) (first before after : CostBlocks) (steps_first steps : ℕ)
    → AreRowsRead firms trades on f n firm x asked others first steps_first n before steps
    → Improves (exchange_arc firms trades on) before after
    → HasLine firms trades on f n firm x asked true n after
    → HasArcsAmong firms trades on f n firm x asked after
all_rows firms trades on f n firm limit x worth stand asked others first before after steps_first steps rows improved
    null i j i_asked j_asked places = elim (cases_lt i n) [
      | inl below ↦ line_stays firms trades on f n firm x asked true i before after improved
          (rows.rows i below (asked_own n asked i below i_asked)) j j_asked places
      | inr past ↦
          let counted : n ≡ firm.count = stand.counted in
          let within = places.from_within in
          let at : i ≡ n = omega (arith, past, within, counted) in
          subst (λ (m : ℕ). AreArcPlaces firm x m j → HasArc firms trades on f n m j after) (sym at)
          (λ there. null j j_asked there) places
    ]

-- arcs of a firm between nodes that count are between places that are asked for
pub arcs_counted : (firms : List Firm) (trades : List Ends) → IsNetwork firms trades → (on f : ℕ) (firm : Firm)
    → slice_get firms f ≡ Some firm → (counts : ℕ → Bool) (asked : ℕ) (graph : CostBlocks)
    → ((k : ℕ) → k < firm.count → counts (own trades f k) ≡ true → has asked k ≡ true)
    → HasArcsAmong firms trades on f firm.count firm (part trades f firm.count on) asked graph
    → HasArcsOf firms trades on counts f graph
arcs_counted firms trades network on f firm listed counts asked graph asks among u v u_counts v_counts is =
    let at = move_of_arc firms trades network on u v f is in
    let one = same_firm firms f at.firm firm at.is listed in
    let places : AreArcPlaces firm (part trades f firm.count on) at.from at.to =
    subst (λ (z : Firm). AreArcPlaces z (part trades f z.count on) at.from at.to) one at.places in
    let from_is : node_at trades f firm.count at.from ≡ u =
    subst (λ (z : Firm). node_at trades f z.count at.from ≡ u) one at.begin in
    let to_is : node_at trades f firm.count at.to ≡ v =
    subst (λ (z : Firm). node_at trades f z.count at.to ≡ v) one at.end in
    sym (ap₂ (arcs_of graph) from_is to_is)
    ∙ among at.from at.to (place_asked at.from u from_is u_counts) (place_asked at.to v to_is v_counts) places
    ∙ ap₂ (exchange_arc firms trades on) from_is to_is
  where
    place_asked : (k node : ℕ) → node_at trades f firm.count k ≡ node → counts node ≡ true
        → is_asked firm.count asked k ≡ true
    place_asked k node node_is node_counts = asked_from_own firm.count asked k (λ below.
        asks k below (ap counts (sym (node_at-trade trades f firm.count k below) ∙ node_is) ∙ node_counts))
