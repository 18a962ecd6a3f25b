-- How trades change their firms in a graph, and lose their arcs.
use Rattle.std.proofs.Common.{◌≡◌, ◌≢◌, ℕ, ◌+◌, ◌<◌, ◌≤◌, Bool, true, false, not, ◌==◌, if◌then◌else◌, List, length, Some, None, Option, option_and_then, get_or, pos, ◌^◌, refl, sym, ap, ap₂, ◌∙◌, subst, arith, inl, inr, ℤ}
use Rattle.std.specs.Prelude.{nat_lt, ◌&&◌}
use mathlib.Core.Bool.{beq}
use Rattle.std.proofs.lemmas.Bool.{cases_eq, eqb-true, eq-eqb, lt-ltb, le-ltb, or_cases, or_parts}
use Rattle.tn_base.specs.Sets.{has}
use Rattle.tn_model.specs.declared.ends.Ends.{Ends}
use Rattle.tn_graph.specs.declared.spot.Spot.{Spot}
use Rattle.tn_graph.specs.Blocks.{CostBlocks, Places, spot_at, place_between, place_of, cost_in_cell, arcs_of, listed_count, listed_at}
use Rattle.tn_graph.specs.BlockLemmas.{arcs_of-predecessors, arcs_of-successors}
use Rattle.tn_graph.specs.Layout.{IsLaidOut, IsTurned}
use Rattle.tn_graph.specs.Reading.{IsCut, arc_beside, AreForgotten, is_toggled}
use Rattle.tn_graph.proofs.LayoutLemmas.{laid_turned, laid_same}
use Rattle.tn_graph.proofs.ReadingLemmas.{below_same, differs_is, differs_not, forgotten_none, forgotten_more, forgotten_same, toggled_none, toggled_more, toggled_same}

-- ---- one node

-- the arcs between node t and the first k of its block are gone
pub record IsCutTo (from : Bool) (t k : ℕ) (before graph : CostBlocks) : Type 0 where
  pub nodes : graph.nodes ≡ before.nodes
  pub places : graph.places ≡ before.places
  pub gone : (i : ℕ) → i < k → arc_beside graph from t (listed_at before.places from t i) ≡ None
  pub kept : (u v : ℕ) → (if from then u else v) ≢ t → arcs_of graph u v ≡ arcs_of before u v

-- no arc is left where all nodes of the block are past
pub cut_all : (from : Bool) (t k : ℕ) (before graph : CostBlocks) → IsCutTo from t k before graph → t < before.nodes
    → listed_count before.places from t ≤ k → IsCut from t before graph
cut_all from t k before graph cut inside past = record {
  nodes = cut.nodes;
  places = cut.places;
  gone = λ u. by_case from cut past u (arc_beside graph from t u) refl;
  kept = cut.kept;
}
  where
    by_case : (b : Bool) → IsCutTo b t k before graph → listed_count before.places b t ≤ k → (u : ℕ) (o : Option ℤ)
        → arc_beside graph b t u ≡ o → arc_beside graph b t u ≡ None
    by_case b cut past u None none = none
    by_case true cut past u (Some cost) some =
        let lists = arcs_of-successors graph t (let same = cut.nodes in omega (arith, same, inside)) in
        let found = lists.all u cost some in
        let counts : listed_count graph.places true t ≡ listed_count before.places true t =
        ap (λ (p : Places). listed_count p true t) cut.places in
        let at : listed_at before.places true t found.0 ≡ u =
        ap (λ (p : Places). listed_at p true t found.0) (sym cut.places) ∙ found.2 in
        ap (arcs_of graph t) (sym at) ∙ cut.gone found.0 (let below = found.1 in omega (arith, below, counts, past))
    by_case false cut past u (Some cost) some =
        let lists = arcs_of-predecessors graph t (let same = cut.nodes in omega (arith, same, inside)) in
        let found = lists.all u cost some in
        let counts : listed_count graph.places false t ≡ listed_count before.places false t =
        ap (λ (p : Places). listed_count p false t) cut.places in
        let at : listed_at before.places false t found.0 ≡ u =
        ap (λ (p : Places). listed_at p false t found.0) (sym cut.places) ∙ found.2 in
        ap (λ (w : ℕ). arcs_of graph w t) (sym at)
        ∙ cut.gone found.0 (let below = found.1 in omega (arith, below, counts, past))

-- ---- a trade that changes its firms

-- the arcs without it stay
arcs_turned : (t : ℕ) (before after : CostBlocks) → after.nodes ≡ before.nodes → after.cells ≡ before.cells
    → IsTurned t before.places after.places → (u v : ℕ) → u ≢ t → v ≢ t → arcs_of after u v ≡ arcs_of before u v
unfolding arcs_of place_of
arcs_turned t before after nodes cells turned u v u_apart v_apart =
    ap (λ (xs : List ℤ). option_and_then (λ (p : ℕ). cost_in_cell (get_or xs p (pos (2 ^ 63))))
    (place_of after.nodes after.places u v)) cells
    ∙ ap (option_and_then (λ (p : ℕ). cost_in_cell (get_or before.cells p (pos (2 ^ 63))))) place
  where
    between : Spot → Spot → ℕ → Option ℕ
    between from to laid = place_between from to (nat_lt u laid) (nat_lt v laid)

    place : place_of after.nodes after.places u v ≡ place_of before.nodes before.places u v
    place = ap (λ (n : ℕ). if nat_lt u n && nat_lt v n
        then between (spot_at after.places true u) (spot_at after.places false v) after.places.laid else None) nodes
        ∙ ap (λ (o : Option ℕ). if nat_lt u before.nodes && nat_lt v before.nodes then o else None)
        (ap₂ (λ (from to : Spot). between from to after.places.laid) (turned.elsewhere true u u_apart)
        (turned.elsewhere false v v_apart)
        ∙ ap (between (spot_at before.places true u) (spot_at before.places false v)) turned.laid)

pub detached : (t : ℕ) (before middle first after : CostBlocks) → middle.nodes ≡ before.nodes
    → middle.cells ≡ before.cells → IsTurned t before.places middle.places → IsCut true t middle first
    → IsCut false t first after → AreForgotten (λ k. k == t) before after
detached t before middle first after nodes cells turned one two = record {
  nodes = two.nodes ∙ one.nodes ∙ nodes;
  gone = λ u v is. elim (or_cases (u == t) (v == t) is) [
    | inl e ↦ elim (cases_eq v t) [
      | inl f ↦ ap (arcs_of after u) f ∙ two.gone u
      | inr d ↦ two.kept u v d ∙ ap (λ (w : ℕ). arcs_of first w v) (eqb-true u t e) ∙ one.gone v
    ]
    | inr e ↦ ap (arcs_of after u) (eqb-true v t e) ∙ two.gone u
  ];
  kept = λ u v is.
      let parts = or_parts (u == t) (v == t) is in
      let u_apart : u ≢ t = λ e. absurd (let does = eq-eqb u t e in cc (does, parts.0)) in
      let v_apart : v ≢ t = λ e. absurd (let does = eq-eqb v t e in cc (does, parts.1)) in
      two.kept u v v_apart ∙ one.kept u v u_apart
      ∙ arcs_turned t before middle nodes cells turned u v u_apart v_apart;
}

-- ---- the toggled trades

-- which trades are on once those below t are as in the second set
abbrev mixed : ℕ → ℕ → ℕ → ℕ → Bool
mixed before on t k = if nat_lt k t then has on k else has before k

mixed_next : (before on t : ℕ) → mixed before on (t + 1) t ≡ has on t
mixed_next before on t = ap (λ (b : Bool). if b then has on t else has before t) (lt-ltb t (t + 1) (omega arith))

mixed_last : (before on t : ℕ) → mixed before on t t ≡ has before t
mixed_last before on t = ap (λ (b : Bool). if b then has on t else has before t) (le-ltb t t (omega arith))

mixed_other : (before on t k : ℕ) → k ≢ t → mixed before on (t + 1) k ≡ mixed before on t k
mixed_other before on t k apart = ap (λ (b : Bool). if b then has on k else has before k) (below_same k t apart)

-- what the test of the code says
pub where_unequal : (a b : Bool) → not (beq a b) ≡ true → a ≢ b
where_unequal true true e same = absurd (cc e)
where_unequal false false e same = absurd (cc e)
where_unequal true false e same = absurd (cc same)
where_unequal false true e same = absurd (cc same)

pub where_equal : (a b : Bool) → not (beq a b) ≡ false → a ≡ b
where_equal true true e = refl
where_equal false false e = refl
where_equal true false e = absurd (cc e)
where_equal false true e = absurd (cc e)

-- those below t of the toggled trades are detached
pub record AreDetached (trades : List Ends) (before on t : ℕ) (first graph : CostBlocks) : Type 0 where
  pub forgotten : AreForgotten (is_toggled t before on) first graph
  pub laid_out : IsLaidOut trades (mixed before on t) graph.places

pub detached_none : (trades : List Ends) (before on : ℕ) (graph : CostBlocks)
    → IsLaidOut trades (has before) graph.places → AreDetached trades before on 0 graph graph
detached_none trades before on graph laid = record {
  forgotten = forgotten_none (is_toggled 0 before on) graph (toggled_none before on);
  laid_out = laid_same trades (has before) (mixed before on 0) graph.places laid (λ k inside.
      ap (λ (b : Bool). if b then has on k else has before k) (le-ltb k 0 (omega arith)));
}

pub detached_more : (trades : List Ends) (before on t : ℕ) (first graph after : CostBlocks)
    → AreDetached trades before on t first graph → has before t ≢ has on t
    → AreForgotten (λ k. k == t) graph after → IsTurned t graph.places after.places
    → AreDetached trades before on (t + 1) first after
detached_more trades before on t first graph after done apart forgotten turned = record {
  forgotten = forgotten_more (is_toggled t before on) (is_toggled (t + 1) before on) t first graph after
      done.forgotten forgotten (toggled_more before on t (differs_is before on t apart));
  laid_out = laid_turned trades (mixed before on t) (mixed before on (t + 1)) t graph.places after.places done.laid_out
      turned (mixed_next before on t ∙ other (has before t) (has on t) apart
      ∙ ap not (sym (mixed_last before on t))) (mixed_other before on t);
}
  where
    other : (a b : Bool) → a ≢ b → b ≡ not a
    other true true d = absurd (d refl)
    other true false d = refl
    other false true d = refl
    other false false d = absurd (d refl)

pub detached_same : (trades : List Ends) (before on t : ℕ) (first graph : CostBlocks)
    → AreDetached trades before on t first graph → has before t ≡ has on t
    → AreDetached trades before on (t + 1) first graph
detached_same trades before on t first graph done same = record {
  forgotten = forgotten_same (is_toggled t before on) (is_toggled (t + 1) before on) first graph done.forgotten
      (toggled_same before on t (differs_not before on t same));
  laid_out = laid_same trades (mixed before on t) (mixed before on (t + 1)) graph.places done.laid_out (λ k inside.
      elim (cases_eq k t) [
        | inl e ↦ ap (mixed before on (t + 1)) e ∙ mixed_next before on t ∙ sym same ∙ sym (mixed_last before on t)
            ∙ ap (mixed before on t) (sym e)
        | inr d ↦ mixed_other before on t k d
      ]);
}

pub detached_all : (trades : List Ends) (before on t : ℕ) (first graph : CostBlocks) → t ≡ length trades
    → AreDetached trades before on t first graph
    → AreForgotten (is_toggled (length trades) before on) first graph × IsLaidOut trades (has on) graph.places
detached_all trades before on t first graph all done = (
  subst (λ (n : ℕ). AreForgotten (is_toggled n before on) first graph) all done.forgotten,
  laid_same trades (mixed before on t) (has on) graph.places done.laid_out (λ k inside.
      sym (ap (λ (b : Bool). if b then has on k else has before k) (lt-ltb k t (omega (arith, inside, all))))),
)

-- what is listed is a node
pub listed_node : (from : Bool) (t k u count : ℕ) (before graph : CostBlocks) → IsCutTo from t k before graph
    → t < before.nodes → count ≡ listed_count before.places from t → k < count → u ≡ listed_at graph.places from t k
    → u < graph.nodes
listed_node from t k u count before graph cut inside count_is below u_is =
    let nodes = cut.nodes in
    let counts : listed_count graph.places from t ≡ listed_count before.places from t =
    ap (λ (p : Places). listed_count p from t) cut.places in
    let node = by_case from (omega (arith, inside, nodes)) (omega (arith, below, count_is, counts)) in
    omega (arith, node, u_is)
  where
    by_case : (b : Bool) → t < graph.nodes → k < listed_count graph.places b t
        → listed_at graph.places b t k < graph.nodes
    by_case true within there = (arcs_of-successors graph t within).inside k there
    by_case false within there = (arcs_of-predecessors graph t within).inside k there
