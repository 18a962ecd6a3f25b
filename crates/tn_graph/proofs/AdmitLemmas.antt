-- How the arcs of a trade that is admitted come to the graph.
use Rattle.std.proofs.Common.{◌≡◌, ◌≢◌, ℕ, ◌+◌, ◌^◌, ◌<◌, ◌≤◌, Bool, true, false, ◌==◌, ◌&&◌, ◌||◌, if◌then◌else◌, List, length, map, slice_get, ℤ, Some, None, Option, option_map, refl, sym, ap, ap₂, ◌∙◌, subst, arith, inl, inr}
use Rattle.std.proofs.lemmas.Bool.{cases_eq, cases_lt, lt-ltb, ne_eqb}
use Rattle.std.specs.Prelude.{nat_lt, nat_le}
use Rattle.std.proofs.lemmas.Option.{same_Some, slice_get-map, slice_get_cases, slice_get_within, slice_get_past}
use Rattle.std.proofs.lemmas.List.{length-map}
use Rattle.tn_base.specs.Sets.{has, size, toggle}
use Rattle.tn_base.specs.Walks.{is_admitted}
use Rattle.tn_base.specs.Firm.{Firm}
use Rattle.tn_base.proofs.SetLemmas.{has-zero, has-toggle_other, set_of_within}
use Rattle.tn_base.proofs.SizeLemmas.{size-toggle_out}
use Rattle.tn_firm_laws.specs.Places.{level, trade_level}
use Rattle.tn_firm_laws.proofs.PlaceLemmas.{level-trade}
use Rattle.tn_model.specs.declared.ends.Ends.{Ends}
use Rattle.tn_model.specs.Network.{own, part, IsNetwork}
use Rattle.tn_market.specs.Graph.{raised, lowered, raised_by, lowered_by, exchange_arc}
use Rattle.tn_market.specs.ArcPlaces.{node_at, arc_firm, common_firm}
use Rattle.tn_market.proofs.GraphLemmas.{node_at-trade, node_at-null, has-part, IsEnd, seller_end, buyer_end, end_level, raised_own, lowered_own, IsMoveOf, move_of_arc, no_arc, same_firm}
use Rattle.tn_graph.specs.Blocks.{CostBlocks, arcs_of}
use Rattle.tn_graph.specs.Layout.{IsLaidOut}
use Rattle.tn_graph.specs.Reading.{IsStand, partners, IsExchangeAmong, IsWithoutArcs, IsAskedPosition, CanMove, Improves, HasLine, is_asked, admitted_count}
use Rattle.tn_graph.proofs.AskedLemmas.{asked_from_own}
use Rattle.tn_graph.proofs.ReadingLemmas.{stays_right, none_stays}
use Rattle.tn_graph.proofs.LineLemmas.{line_few}

-- ---- admitted nodes

-- an own trade that is admitted is one of the firm's admitted positions
pub own_admitted : (firms : List Firm) (trades : List Ends) → IsNetwork firms trades → (f : ℕ) (firm : Firm)
    → slice_get firms f ≡ Some firm → (admitted k : ℕ) → k < firm.count
    → is_admitted (length trades) admitted (own trades f k) ≡ true → has (part trades f firm.count admitted) k ≡ true
own_admitted firms trades network f firm listed admitted k below is =
    let inside = network.whole f k firm listed below in
    has-part trades f firm.count admitted k below
    ∙ sym (ap (λ (b : Bool). b || has admitted (own trades f k))
    (ne_eqb (own trades f k) (length trades) (omega (arith, inside)))) ∙ is

-- so is a place
place_admitted : (firms : List Firm) (trades : List Ends) → IsNetwork firms trades → (f : ℕ) (firm : Firm)
    → slice_get firms f ≡ Some firm → (admitted k node : ℕ) → node_at trades f firm.count k ≡ node
    → is_admitted (length trades) admitted node ≡ true
    → is_asked firm.count (part trades f firm.count admitted) k ≡ true
place_admitted firms trades network f firm listed admitted k node at is =
    asked_from_own firm.count (part trades f firm.count admitted) k (λ below.
    own_admitted firms trades network f firm listed admitted k below
    (ap (is_admitted (length trades) admitted) (sym (node_at-trade trades f firm.count k below) ∙ at) ∙ is))

-- one of fewer trades is one of more
admitted_of_more : (null fewer more : ℕ) → ((k : ℕ) → has fewer k ≡ true → has more k ≡ true) → (v : ℕ)
    → is_admitted null fewer v ≡ true → is_admitted null more v ≡ true
admitted_of_more null fewer more inside v is = by (v == null) (has fewer v) refl is
  where
    by : (b c : Bool) → has fewer v ≡ c → ((v == null) || has fewer v) ≡ true → ((v == null) || has more v) ≡ true
    by b true there e = ap (λ (d : Bool). (v == null) || d) (inside v there) ∙ or_true (v == null)
      where
        or_true : (d : Bool) → (d || true) ≡ true
        or_true true = refl
        or_true false = refl
    by b false absent e = from_null (v == null) (has more v) (sym (ap (λ (d : Bool). (v == null) || d) absent) ∙ e)
      where
        from_null : (d m : Bool) → (d || false) ≡ true → (d || m) ≡ true
        from_null true m h = refl
        from_null false m h = absurd (cc h)

-- among fewer trades the graph is right as well
pub among_fewer : (firms : List Firm) (trades : List Ends) (on fewer more : ℕ) (graph : CostBlocks)
    → ((k : ℕ) → has fewer k ≡ true → has more k ≡ true) → IsExchangeAmong firms trades on more graph
    → IsExchangeAmong firms trades on fewer graph
among_fewer firms trades on fewer more graph inside right = record {
  nodes = right.nodes;
  laid_out = right.laid_out;
  arcs = λ u v u_in v_in. right.arcs u v (admitted_of_more (length trades) fewer more inside u u_in)
      (admitted_of_more (length trades) fewer more inside v v_in);
  none = right.none;
}

-- among none a graph without arcs is right
pub among_none : (firms : List Firm) (trades : List Ends) (on admitted : ℕ) (graph : CostBlocks) → admitted ≡ 0
    → IsWithoutArcs (length trades + 1) graph → IsLaidOut trades (has on) graph.places
    → IsExchangeAmong firms trades on admitted graph
among_none firms trades on admitted graph none without laid_out = record {
  nodes = without.nodes;
  laid_out = laid_out;
  arcs = λ u v u_in v_in. without.none u v ∙ sym (no_arc firms trades on u v (null_alone u v (null u u_in)
      (null v v_in)));
  none = λ u v is. without.none u v;
}
  where
    null : (v : ℕ) → is_admitted (length trades) admitted v ≡ true → v ≡ length trades
    null v is = elim (cases_eq v (length trades)) [
      | inl e ↦ e
      | inr d ↦ absurd (
          let absent : has admitted v ≡ false = ap (λ (x : ℕ). has x v) none ∙ has-zero v in
          let no : is_admitted (length trades) admitted v ≡ false =
          ap₂ (λ (b c : Bool). b || c) (ne_eqb v (length trades) d) absent in
          cc (no, is))
    ]

    past_ends : slice_get trades (length trades) ≡ None
    past_ends = slice_get_past trades (length trades) (omega arith)

    null_alone : (u v : ℕ) → u ≡ length trades → v ≡ length trades → arc_firm trades on u v ≡ None
    null_alone u v u_is v_is = ap₂ (arc_firm trades on) u_is v_is
        ∙ ap₂ (λ (a b : Option (ℕ × ℕ)). if nat_le (length trades) (length trades)
        && nat_le (length trades) (length trades) then common_firm a b else None)
        (ap (option_map (λ trade. raised trade (has on (length trades)))) past_ends)
        (ap (option_map (λ trade. lowered trade (has on (length trades)))) past_ends)
        ∙ either (nat_le (length trades) (length trades) && nat_le (length trades) (length trades))
      where
        either : (b : Bool) → ◌≡◌ {A = Option ℕ} (if b then None else None) None
        either true = refl
        either false = refl

-- ---- the two firms of a trade

-- the two ends of a trade that is off, among the admitted ones: the seller's can be lowered, the buyer's raised
position_moves : (firms : List Firm) (trades : List Ends) (on admitted t f k : ℕ) (bought : Bool)
    → has on t ≡ false → has admitted t ≡ true → (end : IsEnd firms trades t f k bought)
    → IsAskedPosition trades f end.firm on admitted bought k
position_moves firms trades on admitted t f k bought off there end = record {
  own = end.inside;
  joined = has-part trades f end.firm.count admitted k end.inside ∙ ap (has admitted) end.owns ∙ there;
  moves = by bought end;
}
  where
    by : (b : Bool) (e : IsEnd firms trades t f k b)
        → CanMove b e.firm.count (level e.firm.count e.firm.buys (part trades f e.firm.count on)) k
    by true e = λ below. level-trade e.firm.count e.firm.buys (part trades f e.firm.count on) k below
        ∙ end_level firms trades on t f k true e ∙ ap (λ (h : Bool). if h then 1 else 0) off
    by false e = λ below. level-trade e.firm.count e.firm.buys (part trades f e.firm.count on) k below
        ∙ end_level firms trades on t f k false e ∙ ap (λ (h : Bool). if h then 0 else 1) off

pub seller_asked : (firms : List Firm) (trades : List Ends) → IsNetwork firms trades
    → (on admitted t : ℕ) (trade : Ends)
    → slice_get trades t ≡ Some trade → has on t ≡ false → has admitted t ≡ true → (firm : Firm)
    → slice_get firms trade.seller ≡ Some firm
    → IsAskedPosition trades trade.seller firm on admitted false trade.at_seller
seller_asked firms trades network on admitted t trade is off there firm listed =
    let end = seller_end firms trades network t trade is in
    subst (λ (z : Firm). IsAskedPosition trades trade.seller z on admitted false trade.at_seller)
    (same_firm firms trade.seller end.firm firm end.is listed)
    (position_moves firms trades on admitted t trade.seller trade.at_seller false off there end)

pub buyer_asked : (firms : List Firm) (trades : List Ends) → IsNetwork firms trades → (on admitted t : ℕ) (trade : Ends)
    → slice_get trades t ≡ Some trade → has on t ≡ false → has admitted t ≡ true → (firm : Firm)
    → slice_get firms trade.buyer ≡ Some firm
    → IsAskedPosition trades trade.buyer firm on admitted true trade.at_buyer
buyer_asked firms trades network on admitted t trade is off there firm listed =
    let end = buyer_end firms trades network t trade is in
    subst (λ (z : Firm). IsAskedPosition trades trade.buyer z on admitted true trade.at_buyer)
    (same_firm firms trade.buyer end.firm firm end.is listed)
    (position_moves firms trades on admitted t trade.buyer trade.at_buyer true off there end)

-- a firm has one admitted trade at least where it has this one
pub asked_some : (trades : List Ends) (f : ℕ) (firm : Firm) (on admitted : ℕ) (rises : Bool) (k : ℕ)
    → IsAskedPosition trades f firm on admitted rises k → 1 ≤ admitted_count trades admitted f firm
asked_some trades f firm on admitted rises k asked =
    let more = size-toggle_out (part trades f firm.count admitted) k asked.joined in omega (arith, more)

-- so a line of the position asks for at most as many worths as there are admitted trades
pub line_asked : (firms : List Firm) (trades : List Ends) (on f n : ℕ) (firm : Firm) (limit x : ℕ) (worth : ℤ)
    → IsStand firms trades on f n firm limit x worth
    → (admitted asked others k : ℕ) (rises : Bool) → IsAskedPosition trades f firm on admitted rises k
    → asked ≡ part trades f firm.count admitted → others ≡ partners firm.buys x asked rises n
    → (before after : ℕ) → after ≡ before + size others + (if nat_lt k n then 1 else 0)
    → after ≤ before + admitted_count trades admitted f firm
line_asked firms trades on f n firm limit x worth stand admitted asked others k rises position asked_is others_is before
    after counted =
    let same : n ≡ firm.count = stand.counted in
    let own = position.own in
    let below : k < n = omega (arith, own, same) in
    let bundle : part trades f firm.count on ≡ x =
    ap (λ (m : ℕ). part trades f m on) (sym same) ∙ sym stand.bundle_is in
    let moves = subst (λ (m : ℕ). CanMove rises m (level m firm.buys x) k) (sym same)
    (subst (λ (y : ℕ). CanMove rises firm.count (level firm.count firm.buys y) k) bundle position.moves) in
    let within = subst (λ (m : ℕ). asked < 2 ^ m) (sym same)
    (subst (λ (z : ℕ). z < 2 ^ firm.count) (sym asked_is)
    (set_of_within (λ j. has admitted (own_of j)) firm.count)) in
    let few = line_few firm.buys x asked rises n others k others_is within below
    (ap (λ (z : ℕ). has z k) asked_is ∙ position.joined) moves in
    let one : ◌≡◌ {A = ℕ} (if nat_lt k n then 1 else 0) 1 = ap (λ (b : Bool). if b then 1 else 0) (lt-ltb k n below) in
    let size_is = ap size asked_is in
    omega (arith, counted, few, one, size_is)
  where
    own_of : ℕ → ℕ
    own_of j = own trades f j

-- an arc from a trade that is off is the buyer's, at the buyer's position
from_buyer : (firms : List Firm) (trades : List Ends) → IsNetwork firms trades → (on t f : ℕ) (trade : Ends) (v : ℕ)
    → slice_get trades t ≡ Some trade → has on t ≡ false → (at : IsMoveOf firms trades on t v f)
    → (trade.buyer ≡ f) × (trade.at_buyer ≡ at.from)
from_buyer firms trades network on t f trade v is off at = elim (cases_lt at.from at.firm.count) [
  | inl below ↦
      let low : trade_level at.firm.buys (part trades f at.firm.count on) at.from ≡ 0 =
      sym (level-trade at.firm.count at.firm.buys (part trades f at.firm.count on) at.from below)
      ∙ at.places.rises below in
      let owns : own trades f at.from ≡ t = sym (node_at-trade trades f at.firm.count at.from below) ∙ at.begin in
      let by_firm : raised_by trades on t ≡ Some (f, at.from) = ap (raised_by trades on) (sym owns)
      ∙ raised_own firms trades network on f at.from at.firm at.is below low in
      let by_trade : raised_by trades on t ≡ Some (trade.buyer, trade.at_buyer) =
      ap (option_map (λ trade. raised trade (has on t))) is
      ∙ ap (λ (b : Bool). Some (raised trade b)) off in
      let same = same_Some (trade.buyer, trade.at_buyer) (f, at.from) (sym by_trade ∙ by_firm) in
      (ap (λ (p : ℕ × ℕ). p.0) same, ap (λ (p : ℕ × ℕ). p.1) same)
  | inr past ↦ absurd (
      let null = node_at-null trades f at.firm.count at.from past in
      let inside = slice_get_within trades t trade is in
      let begin = at.begin in
      omega (arith, null, inside, begin))
]

-- and one to it is the seller's
to_seller : (firms : List Firm) (trades : List Ends) → IsNetwork firms trades → (on t f : ℕ) (trade : Ends) (u : ℕ)
    → slice_get trades t ≡ Some trade → has on t ≡ false → (at : IsMoveOf firms trades on u t f)
    → (trade.seller ≡ f) × (trade.at_seller ≡ at.to)
to_seller firms trades network on t f trade u is off at = elim (cases_lt at.to at.firm.count) [
  | inl below ↦
      let high : trade_level at.firm.buys (part trades f at.firm.count on) at.to ≡ 1 =
      sym (level-trade at.firm.count at.firm.buys (part trades f at.firm.count on) at.to below)
      ∙ at.places.falls below in
      let owns : own trades f at.to ≡ t = sym (node_at-trade trades f at.firm.count at.to below) ∙ at.end in
      let by_firm : lowered_by trades on t ≡ Some (f, at.to) = ap (lowered_by trades on) (sym owns)
      ∙ lowered_own firms trades network on f at.to at.firm at.is below high in
      let by_trade : lowered_by trades on t ≡ Some (trade.seller, trade.at_seller) =
      ap (option_map (λ trade. lowered trade (has on t))) is
      ∙ ap (λ (b : Bool). Some (lowered trade b)) off in
      let same = same_Some (trade.seller, trade.at_seller) (f, at.to) (sym by_trade ∙ by_firm) in
      (ap (λ (p : ℕ × ℕ). p.0) same, ap (λ (p : ℕ × ℕ). p.1) same)
  | inr past ↦ absurd (
      let null = node_at-null trades f at.firm.count at.to past in
      let inside = slice_get_within trades t trade is in
      let end = at.end in
      omega (arith, null, inside, end))
]

-- the line of place k of firm f has the arcs from its own place, or to it
abbrev pub HasLineAt : List Firm → List Ends → ℕ → ℕ → ℕ → Bool → ℕ → CostBlocks → Type 0
HasLineAt firms trades on admitted f rises k graph = (firm : Firm) → slice_get firms f ≡ Some firm
    → HasLine firms trades on f firm.count firm (part trades f firm.count on)
    (part trades f firm.count admitted) rises k
    graph

-- the same of firms that code may ask
pub line_of_values : {V : Type 0} (firm_of : V → Firm) (values : List V) (trades : List Ends) (on admitted f : ℕ)
    (rises : Bool) (k : ℕ) (graph : CostBlocks)
    → ((v : V) → slice_get values f ≡ Some v → HasLine (map firm_of values) trades on f (firm_of v).count (firm_of v)
    (part trades f (firm_of v).count on) (part trades f (firm_of v).count admitted) rises k graph)
    → HasLineAt (map firm_of values) trades on admitted f rises k graph
line_of_values firm_of values trades on admitted f rises k graph lines firm listed =
    elim (slice_get_cases values f).1 [
      | inl found ↦
          let same : firm_of found.0 ≡ firm = same_Some (firm_of found.0) firm (sym (slice_get-map firm_of values f
          ∙ ap (option_map firm_of) found.2) ∙ listed) in
          subst (λ (z : Firm). HasLine (map firm_of values) trades on f z.count z (part trades f z.count on)
          (part trades f z.count admitted) rises k graph) same (lines found.0 found.2)
      | inr past ↦ absurd (
          let within = slice_get_within (map firm_of values) f firm listed in
          let above = past.0 in
          omega (arith, within, above, length-map values firm_of))
    ]

-- once the lines of its two firms are read, the graph is right with the trade
pub admitted_right : (firms : List Firm) (trades : List Ends) → IsNetwork firms trades
    → (on admitted t : ℕ) (trade : Ends)
    → slice_get trades t ≡ Some trade → has on t ≡ false → (first middle last : CostBlocks)
    → IsExchangeAmong firms trades on (toggle admitted t) first
    → Improves (exchange_arc firms trades on) first middle
    → HasLineAt firms trades on admitted trade.seller false trade.at_seller middle
    → Improves (exchange_arc firms trades on) middle last
    → HasLineAt firms trades on admitted trade.buyer true trade.at_buyer last
    → IsExchangeAmong firms trades on admitted last
admitted_right firms trades network on admitted t trade is off first middle last right one sold two bought = record {
  nodes = two.nodes ∙ one.nodes ∙ right.nodes;
  laid_out = subst (IsLaidOut trades (has on)) (sym (two.places ∙ one.places)) right.laid_out;
  arcs = λ u v u_in v_in. by_case u v u_in v_in (arc_firm trades on u v) refl;
  none = none;
}
  where
    none : (u v : ℕ) → arc_firm trades on u v ≡ None → arcs_of last u v ≡ None
    none u v e = none_stays firms trades on middle last two u v e
        (none_stays firms trades on first middle one u v e (right.none u v e))

    -- a node that was admitted before
    before : (v : ℕ) → v ≢ t → is_admitted (length trades) admitted v ≡ true
        → is_admitted (length trades) (toggle admitted t) v ≡ true
    before v apart v_in = ap (λ (b : Bool). (v == length trades) || b) (has-toggle_other admitted t v apart) ∙ v_in

    from_trade : (u v f : ℕ) → u ≡ t → IsMoveOf firms trades on u v f → is_admitted (length trades) admitted v ≡ true
        → arcs_of last u v ≡ exchange_arc firms trades on u v
    from_trade u v f e move v_in =
        let at = subst (λ (w : ℕ). IsMoveOf firms trades on w v f) e move in
        let same = from_buyer firms trades network on t f trade v is off at in
        let line = subst (λ (g : ℕ). HasLineAt firms trades on admitted g true at.from last) same.0
        (subst (λ (k : ℕ). HasLineAt firms trades on admitted trade.buyer true k last) same.1 bought) in
        let arc = line at.firm at.is at.to
        (place_admitted firms trades network f at.firm at.is admitted at.to v at.end v_in) at.places in
        ap (λ (w : ℕ). arcs_of last w v) e ∙ sym (ap₂ (arcs_of last) at.begin at.end) ∙ arc
        ∙ ap₂ (exchange_arc firms trades on) at.begin at.end ∙ ap (λ (w : ℕ). exchange_arc firms trades on w v) (sym e)

    to_trade : (u v f : ℕ) → v ≡ t → IsMoveOf firms trades on u v f → is_admitted (length trades) admitted u ≡ true
        → arcs_of last u v ≡ exchange_arc firms trades on u v
    to_trade u v f e move u_in =
        let at = subst (λ (w : ℕ). IsMoveOf firms trades on u w f) e move in
        let same = to_seller firms trades network on t f trade u is off at in
        let line = subst (λ (g : ℕ). HasLineAt firms trades on admitted g false at.to middle) same.0
        (subst (λ (k : ℕ). HasLineAt firms trades on admitted trade.seller false k middle) same.1 sold) in
        let arc = line at.firm at.is at.from
        (place_admitted firms trades network f at.firm at.is admitted at.from u at.begin u_in) at.places in
        stays_right (exchange_arc firms trades on) middle last two u v
        (ap (λ (w : ℕ). arcs_of middle u w) e ∙ sym (ap₂ (arcs_of middle) at.begin at.end) ∙ arc
        ∙ ap₂ (exchange_arc firms trades on) at.begin at.end ∙ ap (λ (w : ℕ). exchange_arc firms trades on u w) (sym e))

    by_case : (u v : ℕ) → is_admitted (length trades) admitted u ≡ true → is_admitted (length trades) admitted v ≡ true
        → (o : Option ℕ) → arc_firm trades on u v ≡ o → arcs_of last u v ≡ exchange_arc firms trades on u v
    by_case u v u_in v_in None e = none u v e ∙ sym (no_arc firms trades on u v e)
    by_case u v u_in v_in (Some f) e =
        let at = move_of_arc firms trades network on u v f e in
        elim (cases_eq u t) [
          | inl u_is ↦ from_trade u v f u_is at v_in
          | inr u_apart ↦ elim (cases_eq v t) [
            | inl v_is ↦ to_trade u v f v_is at u_in
            | inr v_apart ↦ stays_right (exchange_arc firms trades on) middle last two u v
                (stays_right (exchange_arc firms trades on) first middle one u v
                (right.arcs u v (before u u_apart u_in) (before v v_apart v_in)))
          ]
        ]
