-- What a lot along a walk, or round a cycle, does to a flow.
use Rattle.std.proofs.Common.{◌≡◌, ◌≢◌, ℕ, ◌<◌, sym, ap, ◌∙◌, subst, arith, inl, inr, List, [], ◌∷◌, length, ℤ, pos, ◌+ℤ◌, ◌-ℤ◌, Option, Some, ◌==◌, if◌then◌else◌}
use Rattle.std.specs.Prelude.{◌<ℤ◌, All, drop, get_or}
use Rattle.std.proofs.lemmas.Int.{ints}
use Rattle.std.proofs.lemmas.List.Elements.{All-cons}
use Rattle.tn_base.specs.Arcs.{AreBetweenNodes}
use Rattle.tn_base.specs.Options.{both}
use Rattle.tn_base.specs.Walks.{Avoids, IsCycle, walk_cost}
use Rattle.tn_base.proofs.WalkLemmas.{walk_parts}
use Rattle.tn_cycle.proofs.WalkLemmas.{AreApart, apart_from_different, avoids-head, avoids-tail, walk_cost-same_off, walk_inside}
use Rattle.tn_cycle.specs.Answers.{IsNegative}
use Rattle.tn_links.specs.declared.link.Link.{Link}
use Rattle.tn_links.specs.Flows.{AreWithin, IsKeptFlow, balance}
use Rattle.tn_links.specs.Laws.{CyclesGainWhatTheyCost, GainsWhatItCosts}
use Rattle.tn_links.specs.Links.{ArePlain}
use Rattle.tn_links.specs.Lots.{link_arc, pushed, stepped}
use Rattle.tn_links.specs.LotLemmas.{arc_of, ends_of}
use Rattle.tn_links.specs.Rounds.{GoesRound}
use Rattle.tn_links.proofs.ConcaveLemmas.{there_and_back}
use Rattle.tn_links.proofs.StepLemmas.{HaveFewUnits, IsStepped, arc-stepped, is_stepped, others_by}

-- a lot to a node, and from there on
joined : (links : List Link) (levels middle after : List ℕ) (lot u v w : ℕ) (first second cost : ℤ)
    → cost ≡ first +ℤ second → IsStepped links levels middle lot u v first → IsStepped links middle after lot v w second
    → IsStepped links levels after lot u w cost
joined links levels middle after lot u v w first second cost sum one two =
    let first_gain = one.gained in
    let second_gain = two.gained in
    record {
      one_each = two.one_each ∙ one.one_each;
      within = two.within;
      gained = omega (arith, ints, sum, first_gain, second_gain);
      balanced = λ t.
          let here = one.balanced t in
          let there = two.balanced t in
          by (balance links levels t) (balance links middle t) (balance links after t)
          (if t == u then pos lot else pos 0) (if t == v then pos lot else pos 0) (if t == w then pos lot else pos 0) here there;
    }
  where
    by : (a b c x y z : ℤ) → b ≡ a +ℤ (y -ℤ x) → c ≡ b +ℤ (z -ℤ y) → c ≡ a +ℤ (z -ℤ x)
    by a b c x y z p q = omega (arith, ints, p, q)

-- a lot along a walk that meets no node twice
pub is_pushed : (links : List Link) (lot : ℕ) (levels : List ℕ) (u : ℕ) (vs : List ℕ) (w : ℕ) (cost : ℤ)
    → HaveFewUnits links → AreWithin links levels → AreApart (u ∷ vs) → Avoids w (u ∷ vs)
    → walk_cost (link_arc links levels lot) u vs w ≡ Some cost
    → IsStepped links levels (pushed links lot levels u vs w) lot u w cost
unfolding AreApart
is_pushed links lot levels u [] w cost few within apart off walk =
    is_stepped links levels lot u w cost few within walk
is_pushed links lot levels u (v ∷ vs) w cost few within apart off walk =
    let two = walk_parts (link_arc links levels lot) u v vs w cost walk in
    let one = is_stepped links levels lot u v two.first few within two.first_is in
    let v_off : v ≢ u = avoids-head u v vs apart.0 in
    let w_off : u ≢ w = avoids-head w u (v ∷ vs) off in
    let same = walk_cost-same_off (link_arc links (stepped links lot levels u v) lot) (link_arc links levels lot) u
    (λ a b a_off b_off. arc-stepped links levels lot u v lot a b
    (others_by u v a b (λ p. a_off (sym p.0)) (λ p. b_off (sym p.0)))) v vs w v_off (avoids-tail u v vs apart.0)
    (λ e. w_off (sym e)) in
    let rest = is_pushed links lot (stepped links lot levels u v) v vs w two.second few one.within apart.1
    (avoids-tail w u (v ∷ vs) off) (same ∙ two.second_is) in
    joined links levels (stepped links lot levels u v) (pushed links lot levels u (v ∷ vs) w) lot u v w two.first
    two.second cost two.sum_is one rest

pub few_units : (nodes : ℕ) (links : List Link) → ArePlain nodes links → HaveFewUnits links
few_units nodes links plain j link is = (plain.each j link is).steps.few_units

-- a lot round a cycle of three nodes or more
round_stepped : (links : List Link) (levels : List ℕ) (lot u v x : ℕ) (vs : List ℕ) (cost : ℤ)
    → HaveFewUnits links → AreWithin links levels → AreApart (u ∷ v ∷ x ∷ vs)
    → walk_cost (link_arc links levels lot) u (v ∷ x ∷ vs) u ≡ Some cost
    → IsStepped links levels (pushed links lot levels u (v ∷ x ∷ vs) u) lot u u cost
unfolding AreApart
round_stepped links levels lot u v x vs cost few within apart walk =
    let arc = link_arc links levels lot in
    let after = link_arc links (stepped links lot levels u v) lot in
    let two = walk_parts arc u v (x ∷ vs) u cost walk in
    let rest = walk_parts arc v x vs u two.second two.second_is in
    let one = is_stepped links levels lot u v two.first few within two.first_is in
    let v_off : v ≢ u = avoids-head u v (x ∷ vs) apart.0 in
    let x_off : x ≢ u = avoids-head u x vs (avoids-tail u v (x ∷ vs) apart.0) in
    let x_other : x ≢ v = avoids-head v x vs apart.1.0 in
    let first_same : after v x ≡ arc v x =
    arc-stepped links levels lot u v lot v x (others_by u v v x (λ p. v_off (sym p.0)) (λ p. x_off (sym p.0))) in
    let rest_same : walk_cost after x vs u ≡ walk_cost arc x vs u =
    walk_cost-same_off after arc v (λ a b a_off b_off. arc-stepped links levels lot u v lot a b
    (others_by u v a b (λ p. b_off (sym p.1)) (λ p. a_off (sym p.1)))) x vs u x_other (avoids-tail v x vs apart.1.0)
    (λ e. v_off (sym e)) in
    let again : walk_cost after v (x ∷ vs) u ≡ Some two.second =
    ap (λ (z : Option ℤ). both z (walk_cost after x vs u)) first_same
    ∙ ap (λ (z : Option ℤ). both (arc v x) z) rest_same ∙ two.second_is in
    let back : IsStepped links (stepped links lot levels u v) (pushed links lot levels u (v ∷ x ∷ vs) u) lot v u two.second =
    is_pushed links lot (stepped links lot levels u v) v (x ∷ vs) u two.second few one.within apart.1 apart.0 again in
    joined links levels (stepped links lot levels u v) (pushed links lot levels u (v ∷ x ∷ vs) u) lot u v u two.first
    two.second cost two.sum_is one back

-- a lot round a cycle of negative cost
pub is_rounded : (nodes : ℕ) (links : List Link) (levels : List ℕ) (lot u : ℕ) (vs : List ℕ) (cost : ℤ)
    → ArePlain nodes links → AreWithin links levels → cost <ℤ pos 0 → IsCycle (link_arc links levels lot) u vs cost
    → IsStepped links levels (pushed links lot levels u vs u) lot u u cost
is_rounded nodes links levels lot u [] cost plain within negative cycle =
    let arc = arc_of links levels lot u u cost cycle.walk in
    let is = plain.each arc.place arc.link arc.link_is in
    absurd (elim (ends_of arc.link u u arc.joined) [
      | inl ends ↦ is.apart (ends.0 ∙ sym ends.1)
      | inr ends ↦ is.apart (ends.0 ∙ sym ends.1)
    ])
is_rounded nodes links levels lot u (v ∷ []) cost plain within negative cycle =
    let two = walk_parts (link_arc links levels lot) u v [] u cost cycle.walk in
    let sum = there_and_back nodes links levels lot u v two.first two.second plain two.first_is two.second_is in
    absurd (omega (arith, ints, sum, negative, two.sum_is))
is_rounded nodes links levels lot u (v ∷ x ∷ vs) cost plain within negative cycle =
    round_stepped links levels lot u v x vs cost (few_units nodes links plain) within
    (apart_from_different (u ∷ v ∷ x ∷ vs) cycle.different) cycle.walk

-- leaves a kept flow that gains more by as much
pub rounded_keeps : (links : List Link) (levels after : List ℕ) (lot u : ℕ) (cost : ℤ) → IsKeptFlow links levels
    → IsStepped links levels after lot u u cost → GainsWhatItCosts links levels after cost
rounded_keeps links levels after lot u cost kept round = record {
  kept = record {
    one_each = round.one_each ∙ kept.one_each;
    within = round.within;
    kept = λ t.
        let here = round.balanced t in
        let none = kept.kept t in
        by (balance links levels t) (balance links after t) (if t == u then pos lot else pos 0) here none;
  };
  gained = round.gained;
}
  where
    by : (a b x : ℤ) → b ≡ a +ℤ (x -ℤ x) → a ≡ pos 0 → b ≡ pos 0
    by a b x p q = omega (arith, ints, p, q)

pub cycles_gain : CyclesGainWhatTheyCost
cycles_gain nodes links levels lot first rest cost plain kept negative cycle =
    rounded_keeps links levels (pushed links lot levels first rest first) lot first cost kept
    (is_rounded nodes links levels lot first rest cost plain kept.within negative cycle)

-- by the listed nodes
pub round_gains : (nodes : ℕ) (links : List Link) (levels : List ℕ) (lot : ℕ) (listed : List ℕ) → ArePlain nodes links
    → IsKeptFlow links levels → (round : GoesRound nodes (link_arc links levels lot) listed)
    → GainsWhatItCosts links levels (pushed links lot levels (get_or listed 0 0) (drop 1 listed) (get_or listed 0 0))
    round.cost
round_gains nodes links levels lot listed plain kept round =
    subst (λ (all : List ℕ). GainsWhatItCosts links levels
    (pushed links lot levels (get_or all 0 0) (drop 1 all) (get_or all 0 0)) round.cost) (sym round.nodes_are)
    (cycles_gain nodes links levels lot round.first round.rest round.cost plain kept round.negative round.cycle)

-- a walk begins at a node
begins_inside : (nodes : ℕ) (arc : ℕ → ℕ → Option ℤ) → AreBetweenNodes nodes arc → (u : ℕ) (vs : List ℕ) (w : ℕ)
    (cost : ℤ) → walk_cost arc u vs w ≡ Some cost → u < nodes
begins_inside nodes arc between u [] w cost walk = (between u w cost walk).0
begins_inside nodes arc between u (v ∷ vs) w cost walk =
    let two = walk_parts arc u v vs w cost walk in (between u v two.first two.first_is).0

-- a negative cycle of listed nodes
pub round_by : (nodes : ℕ) (arc : ℕ → ℕ → Option ℤ) (listed : List ℕ) (first : ℕ) (rest : List ℕ) (cost : ℤ)
    → AreBetweenNodes nodes arc → listed ≡ first ∷ rest → cost <ℤ pos 0 → IsCycle arc first rest cost
    → GoesRound nodes arc listed
round_by nodes arc listed first rest cost between nodes_are negative cycle = record {
  first = first;
  rest = rest;
  cost = cost;
  nodes_are = nodes_are;
  inside =
      subst (All (λ v. v < nodes)) (sym nodes_are)
      (All-cons (λ v. v < nodes) first rest (begins_inside nodes arc between first rest first cost cycle.walk)
      (walk_inside nodes arc between first rest first cost cycle.walk));
  negative = negative;
  cycle = cycle;
}

-- a negative cycle that a search answers
pub round_of : (nodes count : ℕ) (arc : ℕ → ℕ → Option ℤ) (listed : List ℕ) (cost : ℤ) (length : ℕ)
    → AreBetweenNodes nodes arc → IsNegative count arc listed cost length → GoesRound nodes arc listed
round_of nodes count arc listed cost length between found =
    round_by nodes arc listed found.first found.rest cost between found.nodes_are found.negative found.cycle
