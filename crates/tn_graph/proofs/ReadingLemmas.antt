-- How a graph comes to be the exchange graph, firm by firm.
use Rattle.std.proofs.Common.{◌≡◌, ◌≢◌, ℕ, zero, suc, ◌+◌, ◌*◌, ◌<◌, ◌≤◌, Bool, true, false, not, ◌==◌, ◌&&◌, ◌||◌, if◌then◌else◌, List, [], ◌∷◌, length, take, slice_get, Some, None, Option, option_map, refl, sym, ap, ap₂, ◌∙◌, subst, arith, inl, inr, ◌⊎◌, ℤ}
use Rattle.std.specs.Prelude.{nat_lt, nat_le}
use Rattle.std.proofs.lemmas.Bool.{cases_Bool, cases_eq, cases_lt, eqb-true, eq-eqb, ne_eqb, lt-ltb, le-ltb, or_parts}
use Rattle.std.proofs.lemmas.Option.{same_Some, slice_get_within, slice_get_past, slice_get_cases}
use Rattle.tn_base.specs.Sets.{has}
use Rattle.tn_base.specs.Walks.{is_admitted}
use Rattle.tn_base.specs.Firm.{Firm}
use Rattle.tn_firm_laws.specs.Places.{move}
use Rattle.tn_model.specs.declared.ends.Ends.{Ends}
use Rattle.tn_model.specs.Network.{own, part, IsNetwork}
use Rattle.tn_market.specs.Graph.{raised, lowered, raised_by, lowered_by, loss, exchange_arc, graph_worths}
use Rattle.tn_market.specs.ArcPlaces.{node_at, AreArcPlaces, common_firm, arc_firm}
use Rattle.tn_market.proofs.GraphLemmas.{node_at-trade, node_at-null, has-part, arc_at, move_of_arc, no_arc, same_firm}
use Rattle.tn_graph.specs.Blocks.{CostBlocks, arcs_of}
use Rattle.tn_graph.specs.Layout.{IsLaidOut}
use Rattle.tn_graph.specs.Reading.{IsWithoutArcs, IsCostWritten, IsExchangeGraph, IsExchangeAmong, Improves, HasArcsOf, is_toggled, AreForgotten, IsRightFor, IsUnchanged, changed_worths_from, block_worths, admitted_count}

-- ---- improvements

pub improves-none : (arc : ℕ → ℕ → Option ℤ) (graph : CostBlocks) → Improves arc graph graph
improves-none arc graph = record { nodes = refl; places = refl; each = λ u v. inr refl }

pub improves-trans : (arc : ℕ → ℕ → Option ℤ) (first second third : CostBlocks) → Improves arc first second
    → Improves arc second third → Improves arc first third
improves-trans arc first second third one two = record {
  nodes = two.nodes ∙ one.nodes;
  places = two.places ∙ one.places;
  each = λ u v. elim (two.each u v) [
    | inl right ↦ inl right
    | inr same ↦ elim (one.each u v) [
      | inl right ↦ inl (same ∙ right)
      | inr before ↦ inr (same ∙ before)
    ]
  ];
}

-- what is right stays right
pub stays_right : (arc : ℕ → ℕ → Option ℤ) (before after : CostBlocks) → Improves arc before after → (u v : ℕ)
    → arcs_of before u v ≡ arc u v → arcs_of after u v ≡ arc u v
stays_right arc before after improves u v right = elim (improves.each u v) [ inl now ↦ now | inr same ↦ same ∙ right ]

-- where there can be no arc, none comes
pub none_stays : (firms : List Firm) (trades : List Ends) (on : ℕ) (before after : CostBlocks)
    → Improves (exchange_arc firms trades on) before after → (u v : ℕ) → arc_firm trades on u v ≡ None
    → arcs_of before u v ≡ None → arcs_of after u v ≡ None
none_stays firms trades on before after improved u v is none = elim (improved.each u v) [
  | inl now ↦ now ∙ no_arc firms trades on u v is
  | inr same ↦ same ∙ none
]

-- a right cost that is written improves
pub written_improves : (arc : ℕ → ℕ → Option ℤ) (before after : CostBlocks) (a b : ℕ) (cost : Option ℤ)
    → IsCostWritten before a b cost after → cost ≡ arc a b
    → Improves arc before after
written_improves arc before after a b cost written right = record {
  nodes = written.nodes;
  places = written.places;
  each = λ u v. elim (cases_eq u a) [
    | inr d ↦ inr (written.elsewhere u v (λ e f. d e))
    | inl e ↦ elim (cases_eq v b) [
      | inr d ↦ inr (written.elsewhere u v (λ f g. d g))
      | inl f ↦ inl (ap₂ (arcs_of after) e f ∙ written.here ∙ right ∙ sym (ap₂ arc e f))
    ]
  ];
}

-- ---- all firms

-- with the arcs of one firm more
pub right_more : (firms : List Firm) (trades : List Ends) (on : ℕ) (counts : ℕ → Bool) (done more : ℕ
    → Type 0) (f : ℕ) (before after : CostBlocks) → IsRightFor firms trades on counts done before
    → Improves (exchange_arc firms trades on) before after → HasArcsOf firms trades on counts f after
    → ((g : ℕ) → more g → (g ≡ f) ⊎ done g)
    → IsRightFor firms trades on counts more after
right_more firms trades on counts done more f before after right improved arcs split = record {
  nodes = improved.nodes ∙ right.nodes;
  laid_out = subst (IsLaidOut trades (has on)) (sym improved.places) right.laid_out;
  right = λ u v g u_counts v_counts is all. elim (split g all) [
    | inl e ↦ arcs u v u_counts v_counts (is ∙ ap (λ (k : ℕ). Some k) e)
    | inr d ↦ stays_right (exchange_arc firms trades on) before after improved u v
        (right.right u v g u_counts v_counts is d)
  ];
  none = λ u v is. none_stays firms trades on before after improved u v is (right.none u v is);
}

pub right_same : (firms : List Firm) (trades : List Ends) (on : ℕ) (counts : ℕ → Bool) (done more : ℕ
    → Type 0) (graph : CostBlocks) → IsRightFor firms trades on counts done graph
    → ((g : ℕ) → more g → done g) → IsRightFor firms trades on counts more graph
right_same firms trades on counts done more graph right weaker = record {
  nodes = right.nodes;
  laid_out = right.laid_out;
  right = λ u v f u_counts v_counts is all. right.right u v f u_counts v_counts is (weaker f all);
  none = right.none;
}

-- a graph without arcs is right for no firm
pub right_without : (firms : List Firm) (trades : List Ends) (on : ℕ) (counts : ℕ → Bool) (done : ℕ
    → Type 0) (graph : CostBlocks) → IsWithoutArcs (length trades + 1) graph → IsLaidOut trades (has on) graph.places
    → ((g : ℕ) → done g → ⊥) → IsRightFor firms trades on counts done graph
right_without firms trades on counts done graph without laid_out never = record {
  nodes = without.nodes;
  laid_out = laid_out;
  right = λ u v f u_counts v_counts is all. absurd (never f all);
  none = λ u v is. without.none u v;
}

-- right for all firms, it is the exchange graph between the nodes that count
pub right_arcs : (firms : List Firm) (trades : List Ends) (on : ℕ) (counts : ℕ → Bool) (done : ℕ
    → Type 0) (graph : CostBlocks) → IsNetwork firms trades → IsRightFor firms trades on counts done graph
    → ((g : ℕ) → g < length firms → done g) → (u v : ℕ) → counts u ≡ true → counts v ≡ true
    → arcs_of graph u v ≡ exchange_arc firms trades on u v
right_arcs firms trades on counts done graph network right all u v u_counts v_counts =
    by_case (arc_firm trades on u v) refl
  where
    by_case : (o : Option ℕ) → arc_firm trades on u v ≡ o → arcs_of graph u v ≡ exchange_arc firms trades on u v
    by_case None none = right.none u v none ∙ sym (no_arc firms trades on u v none)
    by_case (Some f) some =
        let at = move_of_arc firms trades network on u v f some in
        right.right u v f u_counts v_counts some (all f (slice_get_within firms f at.firm at.is))

pub right_all : (firms : List Firm) (trades : List Ends) (on : ℕ) (done : ℕ → Type 0) (graph : CostBlocks)
    → IsNetwork firms trades → IsRightFor firms trades on (λ v. true) done graph
    → ((g : ℕ) → g < length firms → done g) → IsExchangeGraph firms trades on graph
right_all firms trades on done graph network right all = record {
  nodes = right.nodes;
  laid_out = right.laid_out;
  arcs = λ u v. right_arcs firms trades on (λ k. true) done graph network right all u v refl refl;
}

pub right_among : (firms : List Firm) (trades : List Ends) (on admitted : ℕ) (done : ℕ → Type 0) (graph : CostBlocks)
    → IsNetwork firms trades → IsRightFor firms trades on (is_admitted (length trades) admitted) done graph
    → ((g : ℕ) → g < length firms → done g) → IsExchangeAmong firms trades on admitted graph
right_among firms trades on admitted done graph network right all = record {
  nodes = right.nodes;
  laid_out = right.laid_out;
  arcs = λ u v. right_arcs firms trades on (is_admitted (length trades) admitted) done graph network right all u v;
  none = right.none;
}

-- ---- what is forgotten

pub forgotten_none : (cut : ℕ → Bool) (graph : CostBlocks) → ((k : ℕ) → cut k ≡ false) → AreForgotten cut graph graph
forgotten_none cut graph never = record {
  nodes = refl;
  gone = λ u v is. absurd (let off : (cut u || cut v) ≡ false = ap₂ (λ (a b : Bool). a || b) (never u) (never v) in
      cc (is, off));
  kept = λ u v is. refl;
}

-- with one node more
pub forgotten_more : (cut more : ℕ → Bool) (t : ℕ) (first second third : CostBlocks) → AreForgotten cut first second
    → AreForgotten (λ k. k == t) second third
    → ((k : ℕ) → more k ≡ (cut k || (k == t))) → AreForgotten more first third
forgotten_more cut more t first second third one two split = record {
  nodes = two.nodes ∙ one.nodes;
  gone = λ u v is. gone u v (cut u) (cut v) (u == t) (v == t) refl refl refl refl
      (sym (ap₂ (λ (a b : Bool). a || b) (split u) (split v)) ∙ is);
  kept = λ u v is.
      let parts = four (cut u) (u == t) (cut v) (v == t) (sym (ap₂ (λ (a b : Bool). a || b) (split u) (split v)) ∙ is)
      in
      two.kept u v (ap₂ (λ (a b : Bool). a || b) parts.1 parts.3)
      ∙ one.kept u v (ap₂ (λ (a b : Bool). a || b) parts.0 parts.2);
}
  where
    four : (a b c d : Bool) → ((a || b) || (c || d)) ≡ false → (a ≡ false) × (b ≡ false) × (c ≡ false) × (d ≡ false)
    four true b c d e = absurd (cc e)
    four false true c d e = absurd (cc e)
    four false false true d e = absurd (cc e)
    four false false false true e = absurd (cc e)
    four false false false false e = (refl, refl, refl, refl)

    now : (u v : ℕ) (p q : Bool) → (u == t) ≡ p → (v == t) ≡ q → (p || q) ≡ true → arcs_of third u v ≡ None
    now u v p q p_is q_is e = two.gone u v (ap₂ (λ (a b : Bool). a || b) p_is q_is ∙ e)

    earlier : (u v : ℕ) (a b p q : Bool) → cut u ≡ a → cut v ≡ b → (u == t) ≡ p → (v == t) ≡ q → (p || q) ≡ false
        → (a || b) ≡ true → arcs_of third u v ≡ None
    earlier u v a b p q a_is b_is p_is q_is off does =
        two.kept u v (ap₂ (λ (a b : Bool). a || b) p_is q_is ∙ off)
        ∙ one.gone u v (ap₂ (λ (a b : Bool). a || b) a_is b_is ∙ does)

    gone : (u v : ℕ) (a b p q : Bool) → cut u ≡ a → cut v ≡ b → (u == t) ≡ p → (v == t) ≡ q
        → ((cut u || (u == t)) || (cut v || (v == t))) ≡ true → arcs_of third u v ≡ None
    gone u v a b true q a_is b_is p_is q_is e = now u v true q p_is q_is refl
    gone u v a b false true a_is b_is p_is q_is e = now u v false true p_is q_is refl
    gone u v true b false false a_is b_is p_is q_is e = earlier u v true b false false a_is b_is p_is q_is refl refl
    gone u v false true false false a_is b_is p_is q_is e =
        earlier u v false true false false a_is b_is p_is q_is refl refl
    gone u v false false false false a_is b_is p_is q_is e =
        absurd (let off =
        ap₂ (λ (a b : Bool). a || b) (ap₂ (λ (a b : Bool). a || b) a_is p_is)
        (ap₂ (λ (a b : Bool). a || b) b_is q_is) in cc (e, off))

pub forgotten_same : (cut more : ℕ → Bool) (first second : CostBlocks) → AreForgotten cut first second
    → ((k : ℕ) → more k ≡ cut k) → AreForgotten more first second
forgotten_same cut more first second one same = record {
  nodes = one.nodes;
  gone = λ u v is. one.gone u v (sym (ap₂ (λ (a b : Bool). a || b) (same u) (same v)) ∙ is);
  kept = λ u v is. one.kept u v (sym (ap₂ (λ (a b : Bool). a || b) (same u) (same v)) ∙ is);
}

-- ---- the toggled trades

-- whether a trade is in one of the sets alone
abbrev pub differs : ℕ → ℕ → ℕ → Bool
differs before on t = if has before t then not (has on t) else has on t

-- the test of the code
pub differs_is : (before on t : ℕ) → has before t ≢ has on t → differs before on t ≡ true
differs_is before on t apart = by_case (has before t) (has on t) apart
  where
    by_case : (a b : Bool) → a ≢ b → (if a then not b else b) ≡ true
    by_case true true d = absurd (d refl)
    by_case true false d = refl
    by_case false true d = refl
    by_case false false d = absurd (d refl)

pub differs_not : (before on t : ℕ) → has before t ≡ has on t → differs before on t ≡ false
differs_not before on t same = ap (λ (b : Bool). if b then not (has on t) else has on t) same ∙ by_case (has on t)
  where
    by_case : (b : Bool) → (if b then not b else b) ≡ false
    by_case true = refl
    by_case false = refl

same_from_differs : (before on t : ℕ) → differs before on t ≡ false → has before t ≡ has on t
same_from_differs before on t off = by_case (has before t) (has on t) off
  where
    by_case : (a b : Bool) → (if a then not b else b) ≡ false → a ≡ b
    by_case true true e = refl
    by_case true false e = absurd (cc e)
    by_case false true e = absurd (cc e)
    by_case false false e = refl

pub below_same : (k t : ℕ) → k ≢ t → nat_lt k (t + 1) ≡ nat_lt k t
below_same k t apart = elim (cases_lt k t) [
  | inl p ↦ lt-ltb k (t + 1) (omega (arith, p)) ∙ sym (lt-ltb k t p)
  | inr p ↦ le-ltb k (t + 1) (omega (arith, p, apart)) ∙ sym (le-ltb k t p)
]

-- the next trade is toggled
pub toggled_more : (before on t : ℕ) → differs before on t ≡ true → (k : ℕ)
    → is_toggled (t + 1) before on k ≡ (is_toggled t before on k || (k == t))
toggled_more before on t does k = elim (cases_eq k t) [
  | inl e ↦
      ap₂ (λ (a b : Bool). a && b) (lt-ltb k (t + 1) (omega (arith, e))) (ap (differs before on) e ∙ does)
      ∙ sym (ap (λ (b : Bool). is_toggled t before on k || b) (eq-eqb k t e) ∙ either (is_toggled t before on k))
  | inr d ↦
      ap (λ (a : Bool). a && differs before on k) (below_same k t d)
      ∙ sym (ap (λ (b : Bool). is_toggled t before on k || b) (ne_eqb k t d) ∙ neither (is_toggled t before on k))
]
  where
    either : (b : Bool) → (b || true) ≡ true
    either true = refl
    either false = refl

    neither : (b : Bool) → (b || false) ≡ b
    neither true = refl
    neither false = refl

-- or it isn't
pub toggled_same : (before on t : ℕ) → differs before on t ≡ false → (k : ℕ)
    → is_toggled (t + 1) before on k ≡ is_toggled t before on k
toggled_same before on t off k = elim (cases_eq k t) [
  | inl e ↦ never (nat_lt k (t + 1)) (differs before on k) (ap (differs before on) e ∙ off)
      ∙ sym (never (nat_lt k t) (differs before on k) (ap (differs before on) e ∙ off))
  | inr d ↦ ap (λ (a : Bool). a && differs before on k) (below_same k t d)
]
  where
    never : (a b : Bool) → b ≡ false → (a && b) ≡ false
    never true b e = e
    never false b e = refl

pub toggled_none : (before on k : ℕ) → is_toggled 0 before on k ≡ false
toggled_none before on k = ap (λ (a : Bool). a && differs before on k) (le-ltb k 0 (omega arith))

-- what isn't toggled has the same ends at both sets
same_ends : (trades : List Ends) (before on t : ℕ) → is_toggled (length trades) before on t ≡ false
    → (raised_by trades before t ≡ raised_by trades on t) × (lowered_by trades before t ≡ lowered_by trades on t)
same_ends trades before on t off = elim (cases_lt t (length trades)) [
  | inl p ↦
      let same = same_from_differs before on t
      (sym (ap (λ (a : Bool). a && differs before on t) (lt-ltb t (length trades) p)) ∙ off) in (
        ap (λ (b : Bool). option_map (λ trade. raised trade b) (slice_get trades t)) same,
        ap (λ (b : Bool). option_map (λ trade. lowered trade b) (slice_get trades t)) same,
      )
  | inr p ↦
      let none = slice_get_past trades t p in (
        ap (option_map (λ trade. raised trade (has before t))) none
            ∙ sym (ap (option_map (λ trade. raised trade (has on t))) none),
        ap (option_map (λ trade. lowered trade (has before t))) none
            ∙ sym (ap (option_map (λ trade. lowered trade (has on t))) none),
      )
]

same_arc_firm : (trades : List Ends) (before on u v : ℕ) → is_toggled (length trades) before on u ≡ false
    → is_toggled (length trades) before on v ≡ false
    → arc_firm trades before u v ≡ arc_firm trades on u v
same_arc_firm trades before on u v p q =
    ap₂ (λ (a b : Option (ℕ × ℕ)). if nat_le u (length trades) && nat_le v (length trades) then common_firm a b
    else None)
    (same_ends trades before on u p).0 (same_ends trades before on v q).1

-- a place of a firm with the same bundle isn't toggled
place_kept : (trades : List Ends) (before on f n k : ℕ) → part trades f n before ≡ part trades f n on
    → is_toggled (length trades) before on (node_at trades f n k) ≡ false
place_kept trades before on f n k same = elim (cases_lt k n) [
  | inl p ↦ ap (is_toggled (length trades) before on) (node_at-trade trades f n k p)
      ∙ never (nat_lt (own trades f k) (length trades)) _ (differs_not before on (own trades f k)
      (sym (has-part trades f n before k p) ∙ ap (λ (x : ℕ). has x k) same ∙ has-part trades f n on k p))
  | inr p ↦ ap (is_toggled (length trades) before on) (node_at-null trades f n k p)
      ∙ ap (λ (a : Bool). a && differs before on (length trades)) (le-ltb (length trades) (length trades) (omega arith))
]
  where
    never : (a b : Bool) → b ≡ false → (a && b) ≡ false
    never true b e = e
    never false b e = refl

-- the arcs of a firm with the same bundle are the same at both sets
same_arc : (firms : List Firm) (trades : List Ends) → IsNetwork firms trades → (before on f : ℕ) (firm : Firm)
    → slice_get firms f ≡ Some firm → (i j : ℕ)
    → part trades f firm.count before ≡ part trades f firm.count on
    → AreArcPlaces firm (part trades f firm.count on) i j
    → exchange_arc firms trades before (node_at trades f firm.count i) (node_at trades f firm.count j)
    ≡ exchange_arc firms trades on (node_at trades f firm.count i) (node_at trades f firm.count j)
same_arc firms trades network before on f firm is i j same places =
    arc_at firms trades network before f firm is i j (subst (λ (x : ℕ). AreArcPlaces firm x i j) (sym same) places)
    ∙ ap (λ (x : ℕ). loss firm x (move firm.count x i j)) same
    ∙ sym (arc_at firms trades network on f firm is i j places)

-- once the toggled trades are forgotten, the graph is right for the firms whose bundles are the same
pub right_kept : (firms : List Firm) (trades : List Ends) → IsNetwork firms trades
    → (before on admitted : ℕ) (graph after : CostBlocks) → IsExchangeAmong firms trades before admitted graph
    → AreForgotten (is_toggled (length trades) before on) graph after → IsLaidOut trades (has on) after.places
    → (done : ℕ → Type 0) → ((g : ℕ) → done g → IsUnchanged firms trades before on g)
    → IsRightFor firms trades on (is_admitted (length trades) admitted) done after
right_kept firms trades network before on admitted graph after exchange forgotten laid_out done unchanged = record {
  nodes = forgotten.nodes ∙ exchange.nodes;
  laid_out = laid_out;
  right = λ u v f u_counts v_counts some all.
      let at = move_of_arc firms trades network on u v f some in
      let same = unchanged f all at.firm at.is in
      let u_kept = sym (ap cut at.begin) ∙ place_kept trades before on f at.firm.count at.from same in
      let v_kept = sym (ap cut at.end) ∙ place_kept trades before on f at.firm.count at.to same in
      forgotten.kept u v (ap₂ (λ (a b : Bool). a || b) u_kept v_kept) ∙ exchange.arcs u v u_counts v_counts
      ∙ sym (ap₂ (exchange_arc firms trades before) at.begin at.end)
      ∙ same_arc firms trades network before on f at.firm at.is at.from at.to same at.places
      ∙ ap₂ (exchange_arc firms trades on) at.begin at.end;
  none = λ u v none. elim (cases_Bool (cut u || cut v)) [
    | inl does ↦ forgotten.gone u v does
    | inr off ↦
        let parts = or_parts (cut u) (cut v) off in
        forgotten.kept u v off
        ∙ exchange.none u v (same_arc_firm trades before on u v parts.0 parts.1 ∙ none)
  ];
}
  where
    cut : ℕ → Bool
    cut = is_toggled (length trades) before on

-- ---- how many worths are asked

pub worths_more : (firms : List Firm) (f : ℕ) (firm : Firm) → slice_get firms f ≡ Some firm
    → graph_worths (take (suc f) firms) ≡ graph_worths (take f firms) + (firm.count + 1) * (firm.count + 1)
worths_more [] f firm is = absurd (cc is)
worths_more (first ∷ firms) zero firm is =
    let same : first ≡ firm = same_Some first firm is in
    ap (λ (z : Firm). (z.count + 1) * (z.count + 1) + 0) same ∙ omega arith
worths_more (first ∷ firms) (suc f) firm is = let rest = worths_more firms f firm is in omega (arith, rest)

pub changed_more : (trades : List Ends) (before on admitted s g : ℕ) (firms : List Firm) (f : ℕ) (firm : Firm)
    → g ≡ s + f
    → slice_get firms f ≡ Some firm
    → changed_worths_from trades before on admitted s (take (suc f) firms)
    ≡ changed_worths_from trades before on admitted s (take f firms)
    + (if part trades g firm.count before == part trades g firm.count on then 0
    else block_worths (admitted_count trades admitted g firm))
changed_more trades before on admitted s g [] f firm at is = absurd (cc is)
changed_more trades before on admitted s g (first ∷ firms) zero firm at is =
    let same : first ≡ firm = same_Some first firm is in
    let here : s ≡ g = omega (arith, at) in
    ap₂ (λ (z : Firm) (k : ℕ). (if part trades k z.count before == part trades k z.count on then 0
    else block_worths (admitted_count trades admitted k z)) + 0) same here ∙ omega arith
changed_more trades before on admitted s g (first ∷ firms) (suc f) firm at is =
    let rest = changed_more trades before on admitted (s + 1) g firms f firm (omega (arith, at)) is in
    omega (arith, rest)

-- ---- a round over the firms

-- there is an item at each place of a list
pub some_item : {A : Type 0} (xs : List A) (k : ℕ) → k < length xs → (x : A) × (slice_get xs k ≡ Some x)
some_item xs k inside = elim (slice_get_cases xs k).1 [
  | inl found ↦ (found.0, found.2)
  | inr past ↦ absurd (let above = past.0 in omega (arith, above, inside))
]

pub next_take : {A : Type 0} (xs : List A) (f : ℕ) → take (f + 1) xs ≡ take (suc f) xs
next_take xs f = let next : f + 1 ≡ suc f = omega arith in ap (λ (k : ℕ). take k xs) next

pub worths_step : (firms : List Firm) (f : ℕ) (firm : Firm) (start before after : ℕ) → slice_get firms f ≡ Some firm
    → before ≤ start + graph_worths (take f firms) → after ≤ before + (firm.count + 1) * (firm.count + 1)
    → after ≤ start + graph_worths (take (f + 1) firms)
worths_step firms f firm start before after is most asked =
    let more : graph_worths (take (f + 1) firms) ≡ graph_worths (take f firms) + (firm.count + 1) * (firm.count + 1) =
    ap graph_worths (next_take firms f) ∙ worths_more firms f firm is in
    omega (arith, most, asked, more)

-- the numbers of the two bundles of a firm, as the code sees them
pub record AreBundles (firms : List Firm) (trades : List Ends) (before on f : ℕ) (firm : Firm) (old new : ℕ) : Type
    0 where
  pub is : slice_get firms f ≡ Some firm
  pub old_is : old ≡ part trades f firm.count before
  pub new_is : new ≡ part trades f firm.count on

pub changed_step : (firms : List Firm) (trades : List Ends) (before on admitted f : ℕ) (firm : Firm) (old new : ℕ)
    → AreBundles firms trades before on f firm old new
    → (start was now : ℕ) → was ≤ start + changed_worths_from trades before on admitted 0 (take f firms)
    → now ≤ was + (if old == new then 0 else block_worths (admitted_count trades admitted f firm))
    → now ≤ start + changed_worths_from trades before on admitted 0 (take (f + 1) firms)
changed_step firms trades before on admitted f firm old new bundles start was now most asked =
    let more : changed_worths_from trades before on admitted 0 (take (f + 1) firms)
    ≡ changed_worths_from trades before on admitted 0 (take f firms)
    + (if part trades f firm.count before == part trades f firm.count on then 0
    else block_worths (admitted_count trades admitted f firm)) =
    ap (changed_worths_from trades before on admitted 0) (next_take firms f)
    ∙ changed_more trades before on admitted 0 f firms f firm (omega arith) bundles.is in
    let same : (if old == new then 0 else block_worths (admitted_count trades admitted f firm))
    ≡ (if part trades f firm.count before == part trades f firm.count on then 0
    else block_worths (admitted_count trades admitted f firm)) =
    ap₂ (λ (a b : ℕ). if a == b then 0 else block_worths (admitted_count trades admitted f firm)) bundles.old_is
    bundles.new_is in
    omega (arith, most, asked, more, same)

-- what the test on the two bundles says
pub asked_where_differs : (old new worths was now : ℕ) (unequal : Bool) → unequal ≡ not (old == new) → unequal ≡ true
    → now ≤ was + worths → now ≤ was + (if old == new then 0 else worths)
asked_where_differs old new worths was now unequal is holds asked = by_case (old == new) refl
  where
    by_case : (b : Bool) → (old == new) ≡ b → now ≤ was + (if b then 0 else worths)
    by_case true e = absurd (cc (is, holds, ap not e))
    by_case false e = asked

pub unchanged_where_equal : (firms : List Firm) (trades : List Ends) (before on f : ℕ) (firm : Firm) (old new : ℕ)
    → AreBundles firms trades before on f firm old new
    → (unequal : Bool) → unequal ≡ not (old == new) → unequal ≡ false → IsUnchanged firms trades before on f
unchanged_where_equal firms trades before on f firm old new bundles unequal is fails other other_is =
    let one = same_firm firms f firm other bundles.is other_is in
    subst (λ (z : Firm). part trades f z.count before ≡ part trades f z.count on) one (sym bundles.old_is
    ∙ same (old == new) refl ∙ bundles.new_is)
  where
    same : (b : Bool) → (old == new) ≡ b → old ≡ new
    same true e = eqb-true old new e
    same false e = absurd (cc (is, fails, ap not e))
