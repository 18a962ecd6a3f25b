-- Walks in graphs that are made from a graph.
use Rattle.std.proofs.Common.{◌≡◌, ◌≢◌, ℕ, ◌+◌, ◌<◌, ◌≤◌, refl, sym, ap, ◌∙◌, arith, inl, inr, List, [], ◌∷◌, ℤ, pos, Option, Some, None, Bool, true, ◌&&◌, ◌==◌, if◌then◌else◌, nat_lt}
use Rattle.std.specs.Prelude.{All}
use Rattle.std.proofs.lemmas.Bool.{ne_eqb, eq-eqb, lt-ltb, le-ltb, le-leb, and_parts, cases_lt, cond_both}
use Rattle.std.proofs.lemmas.List.Elements.{All-nil, All-cons}
use Rattle.tn_base.specs.Arcs.{AreBetweenNodes}
use Rattle.tn_base.specs.Options.{both}
use Rattle.tn_base.specs.Walks.{walk_cost, arcs_among, HasNoNegativeCycle, KeepsArcs}
use Rattle.tn_cycle.specs.Graphs.{is_trade_from, with_sink}
use Rattle.tn_cycle.specs.GraphLemmas.{some_if}
use Rattle.tn_cycle.specs.Searched.{HasNoNegativeCycleOff}
use Rattle.tn_cycle.specs.Kept.{KeepsArcsAvoiding}
use Rattle.tn_cycle.proofs.OrderLemmas.{parts}
use Rattle.tn_cycle.proofs.WalkLemmas.{walk_cost-same_off}

-- where two graphs agree off t, and one has no negative cycle, the other has none off t
pub none_off : (arc other : ℕ → ℕ → Option ℤ) (t : ℕ) → ((a b : ℕ) → a ≢ t → b ≢ t → arc a b ≡ other a b)
    → HasNoNegativeCycle other → HasNoNegativeCycleOff arc t
none_off arc other t same none u vs cost passes avoids walk =
    none u vs cost (sym (walk_cost-same_off arc other t same u vs u passes avoids passes) ∙ walk)

-- labels that keep the arcs of the one keep those of the other that avoid t
pub keeps_avoiding : (arc other : ℕ → ℕ → Option ℤ) (t : ℕ) (label : ℕ → ℤ)
    → ((a b : ℕ) → a ≢ t → b ≢ t → arc a b ≡ other a b) → KeepsArcs other label
    → KeepsArcsAvoiding arc t label
keeps_avoiding arc other t label same keeps u v cost p q is = keeps u v cost (sym (same u v p q) ∙ is)

-- an arc to the sink
pub to_sink : (nodes : ℕ) (arc : ℕ → ℕ → Option ℤ) (v : ℕ) → v < nodes → with_sink nodes arc v nodes ≡ Some (pos 0)
to_sink nodes arc v inside =
    ap (λ (s : Bool). if s then (if nodes == nodes then Some (pos 0) else arc v nodes)
    else None) (lt-ltb v nodes inside)
    ∙ ap (λ (s : Bool). if s then Some (pos 0) else arc v nodes) (eq-eqb nodes nodes refl)

-- off the sink the graph is as it was
pub off_sink : (nodes : ℕ) (arc : ℕ → ℕ → Option ℤ) → AreBetweenNodes nodes arc → (a b : ℕ) → a ≢ nodes → b ≢ nodes
    → with_sink nodes arc a b ≡ arc a b
off_sink nodes arc between a b p q = elim (cases_lt a nodes) [
  | inl inside ↦
      ap (λ (s : Bool). if s then (if b == nodes then Some (pos 0) else arc a b) else None) (lt-ltb a nodes inside)
      ∙ ap (λ (s : Bool). if s then Some (pos 0) else arc a b) (ne_eqb b nodes q)
  | inr outside ↦
      ap (λ (s : Bool). if s then (if b == nodes then Some (pos 0) else arc a b) else None) (le-ltb a nodes outside)
      ∙ by (arc a b) refl outside
]
  where
    by : (o : Option ℤ) → arc a b ≡ o → nodes ≤ a → None ≡ arc a b
    by None e outside = sym e
    by (Some cost) e outside = let inside : a < nodes = (between a b cost e).0 in
        absurd (omega (arith, inside, outside))

-- an arc that doesn't end at the sink is one of the graph
pub arc_off_sink : (nodes : ℕ) (arc : ℕ → ℕ → Option ℤ) (u v : ℕ) (cost : ℤ) → v ≢ nodes
    → with_sink nodes arc u v ≡ Some cost → arc u v ≡ Some cost
arc_off_sink nodes arc u v cost off is =
    sym (ap (λ (s : Bool). if s then Some (pos 0) else arc u v) (ne_eqb v nodes off))
    ∙ (some_if (nat_lt u nodes) (if v == nodes then Some (pos 0) else arc u v) cost is).1

-- where no cycle is negative, none off the sink is
pub none_off_sink : (nodes : ℕ) (arc : ℕ → ℕ → Option ℤ) → AreBetweenNodes nodes arc → HasNoNegativeCycle arc
    → HasNoNegativeCycleOff (with_sink nodes arc) nodes
none_off_sink nodes arc between = none_off (with_sink nodes arc) arc nodes (off_sink nodes arc between)

-- a walk among some nodes is a walk
pub walk_among : (test : ℕ → Bool) (arc : ℕ → ℕ → Option ℤ) (u : ℕ) (vs : List ℕ) (w : ℕ) (cost : ℤ)
    → walk_cost (arcs_among test arc) u vs w ≡ Some cost → walk_cost arc u vs w ≡ Some cost
walk_among test arc u [] w cost walk = (some_if (test u && test w) (arc u w) cost walk).1
walk_among test arc u (v ∷ vs) w cost walk =
    let two = parts (arcs_among test arc u v) (walk_cost (arcs_among test arc) v vs w) cost walk in
    ap (λ (z : Option ℤ). both z (walk_cost arc v vs w)) (some_if (test u && test v) (arc u v) two.first two.first_is).1
    ∙ ap (λ (z : Option ℤ). both (Some two.first) z) (walk_among test arc v vs w two.second two.second_is)
    ∙ ap (λ (z : ℤ). Some z) two.sum_is

-- such a walk's nodes are among them
pub walk_passes : (test : ℕ → Bool) (arc : ℕ → ℕ → Option ℤ) (u : ℕ) (vs : List ℕ) (w : ℕ) (cost : ℤ)
    → walk_cost (arcs_among test arc) u vs w ≡ Some cost → All (λ v. test v ≡ true) (u ∷ vs)
walk_passes test arc u [] w cost walk =
    All-cons (λ v. test v ≡ true) u [] (and_parts (test u) (test w)
    (some_if (test u && test w) (arc u w) cost walk).0).0 (All-nil (λ v. test v ≡ true))
walk_passes test arc u (v ∷ vs) w cost walk =
    let two = parts (arcs_among test arc u v) (walk_cost (arcs_among test arc) v vs w) cost walk in
    All-cons (λ x. test x ≡ true) u (v ∷ vs)
    (and_parts (test u) (test v) (some_if (test u && test v) (arc u v) two.first two.first_is).0).0
    (walk_passes test arc v vs w two.second two.second_is)

-- all trades are the graph off the null node
pub off_null : (null : ℕ) (arc : ℕ → ℕ → Option ℤ) → AreBetweenNodes (null + 1) arc → (a b : ℕ) → a ≢ null → b ≢ null
    → arc a b ≡ arcs_among (is_trade_from 0 null) arc a b
off_null null arc between a b p q = by (arc a b) refl
  where
    inside : (v : ℕ) → v < null + 1 → v ≢ null → is_trade_from 0 null v ≡ true
    inside v h other =
        ap (λ (s : Bool). s && nat_lt v null) (le-leb 0 v (omega arith)) ∙ lt-ltb v null (omega (arith, h, other))

    kept : a < null + 1 → b < null + 1 → arcs_among (is_trade_from 0 null) arc a b ≡ arc a b
    kept h k =
        ap (λ (s : Bool). if s && is_trade_from 0 null b then arc a b else None) (inside a h p)
        ∙ ap (λ (s : Bool). if s then arc a b else None) (inside b k q)

    by : (o : Option ℤ) → arc a b ≡ o → arc a b ≡ arcs_among (is_trade_from 0 null) arc a b
    by (Some cost) e = let two = between a b cost e in sym (kept two.0 two.1)
    by None e = e
        ∙ sym (cond_both (is_trade_from 0 null a && is_trade_from 0 null b) (arc a b) None (λ z. z ≡ None) (λ _. e)
        (λ _. refl))
