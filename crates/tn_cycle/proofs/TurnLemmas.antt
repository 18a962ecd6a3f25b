-- Walks in the graph turned round.
use Rattle.std.proofs.Common.{◌≡◌, ◌≢◌, ℕ, ◌<◌, refl, sym, ap, ◌∙◌, subst, arith, inl, inr, List, [], ◌∷◌, ◌++◌, ℤ, pos, neg_ℤ, ◌+ℤ◌, ◌≤ℤ◌, Option, Some, None, true, false, Bool}
use Rattle.std.specs.Prelude.{reverse}
use Rattle.std.proofs.lemmas.Int.{ints}
use Rattle.std.proofs.lemmas.Bool.{cases_eq}
use Rattle.std.proofs.lemmas.List.{reverse-append}
use Rattle.std.proofs.lemmas.List.Elements.{All-nil}
use Rattle.tn_base.specs.Arcs.{AreBetweenNodes}
use Rattle.tn_base.specs.Options.{both}
use Rattle.tn_base.specs.Walks.{walk_cost, Avoids, HasNoNegativeCycle, IsLeastWalk, KeepsArcs}
use Rattle.tn_cycle.specs.declared.cell.Cell.{Cell}
use Rattle.tn_cycle.specs.Order.{IsUpTo}
use Rattle.tn_cycle.specs.Cells.{trail}
use Rattle.tn_cycle.specs.Graphs.{turned}
use Rattle.tn_cycle.specs.Searched.{IsSettled}
use Rattle.tn_cycle.specs.Reading.{walk_nodes}
use Rattle.tn_cycle.specs.Answers.{LeadsAlong, LeadsLeast}
use Rattle.tn_cycle.proofs.OrderLemmas.{both-comm, up_to-trans}
use Rattle.tn_cycle.proofs.WalkLemmas.{AreApart, found_or_not, walk_parts, walk_cost-through, avoids-cons, avoids-head, avoids-tail, avoids-append, different_from_apart}
use Rattle.tn_cycle.proofs.SettledLemmas.{led_apart, led_once}

reverse-cons : (x : ℕ) (xs : List ℕ) → reverse (x ∷ xs) ≡ reverse xs ++ x ∷ []
reverse-cons x xs = reverse-append (x ∷ []) xs

-- a walk is one back in the graph turned round
pub walk_cost-turned : (arc : ℕ → ℕ → Option ℤ) (u : ℕ) (vs : List ℕ) (w : ℕ)
    → walk_cost (turned arc) u vs w ≡ walk_cost arc w (reverse vs) u
walk_cost-turned arc u [] w = refl
walk_cost-turned arc u (v ∷ vs) w =
    ap (λ (z : Option ℤ). both (arc v u) z) (walk_cost-turned arc v vs w)
    ∙ both-comm (arc v u) (walk_cost arc w (reverse vs) v)
    ∙ sym (walk_cost-through arc w (reverse vs) v [] u)
    ∙ ap (λ (xs : List ℕ). walk_cost arc w xs u) (sym (reverse-cons v vs))

-- the negatives of labels keep the arcs turned round
pub keeps-turned : (arc : ℕ → ℕ → Option ℤ) (label : ℕ → ℤ) → KeepsArcs arc label
    → KeepsArcs (turned arc) (λ v. neg_ℤ (label v))
keeps-turned arc label keeps u v cost is = let kept : label u ≤ℤ (label v +ℤ cost) = keeps v u cost is in
    omega (arith, ints, kept)

avoids-reverse : (t : ℕ) (xs : List ℕ) → Avoids t xs → Avoids t (reverse xs)
avoids-reverse t [] h = h
avoids-reverse t (x ∷ xs) h =
    subst (Avoids t) (sym (reverse-cons x xs)) (avoids-append t (reverse xs) (x ∷ [])
    (avoids-reverse t xs (avoids-tail t x xs h)) (avoids-cons t x [] (avoids-head t x xs h) (All-nil (λ v. v ≢ t))))

apart-push : (x : ℕ) (ys : List ℕ) → AreApart ys → Avoids x ys → AreApart (ys ++ x ∷ [])
unfolding AreApart
apart-push x [] h avoids = (All-nil (λ v. v ≢ x), tt)
apart-push x (y ∷ ys) h avoids = (
  avoids-append y ys (x ∷ []) h.0 (avoids-cons y x [] (λ e. avoids-head x y ys avoids (sym e)) (All-nil (λ v. v ≢ y))),
  apart-push x ys h.1 (avoids-tail x y ys avoids),
)

apart-reverse : (xs : List ℕ) → AreApart xs → AreApart (reverse xs)
unfolding AreApart
apart-reverse [] h = tt
apart-reverse (x ∷ xs) h =
    subst AreApart (sym (reverse-cons x xs)) (apart-push x (reverse xs) (apart-reverse xs h.1)
    (avoids-reverse x xs h.0))

module _ (nodes : ℕ) (arc : ℕ → ℕ → Option ℤ) (end : ℕ) (cell : ℕ → Cell) (between : AreBetweenNodes nodes arc)
    (none : HasNoNegativeCycle arc) (found : IsSettled nodes arc end cell) where
  -- every walk to the end costs at least what the cell says
  least_of_all : (v : ℕ) (ws : List ℕ) (cost : ℤ) → v < nodes → walk_cost arc v ws end ≡ Some cost
      → IsUpTo (cell v).cost (Some cost)
  least_of_all v ws cost inside walk = elim (found_or_not end ws) [
    | inr avoids ↦ subst (IsUpTo (cell v).cost) walk (found.least v ws inside avoids)
    | inl met ↦
        let two = walk_parts arc v ws met.before end met.after end cost met.split walk in
        let first : IsUpTo (cell v).cost (Some two.first) =
        subst (IsUpTo (cell v).cost) two.first_is (found.least v met.before inside met.avoids) in
        let second : pos 0 ≤ℤ two.second = none end met.after two.second two.second_is in
        let longer : IsUpTo (Some two.first) (Some cost) = omega (arith, ints, second, two.sum_is) in
        up_to-trans (cell v).cost (Some two.first) (Some cost) first longer
  ]

  unreached : (v : ℕ) → v < nodes → (cell v).cost ≡ None → (vs : List ℕ) → walk_cost arc v vs end ≡ None
  unreached v inside is vs = by (walk_cost arc v vs end) refl
    where
      by : (o : Option ℤ) → walk_cost arc v vs end ≡ o → walk_cost arc v vs end ≡ None
      by None e = e
      by (Some cost) e = absurd (subst (λ (z : Option ℤ). IsUpTo z (Some cost)) is (least_of_all v vs cost inside e))

  least_walk : (v : ℕ) (cost : ℤ) → v < nodes → (cell v).cost ≡ Some cost
      → IsLeastWalk arc v end (trail cell (cell v).inner_nodes v) cost
  least_walk v cost inside is = record {
    walk = found.leads v inside ∙ is;
    least = λ ws other walk.
        let known : IsUpTo (Some cost) (Some other) =
        subst (λ (z : Option ℤ). IsUpTo z (Some other)) is (least_of_all v ws other inside walk) in
        known;
  }

  apart_from_begin : (v : ℕ) (cost : ℤ) → v < nodes → (cell v).cost ≡ Some cost → Avoids v (trail cell (cell v).inner_nodes v)
  apart_from_begin v cost inside is = elim (cases_eq v end) [
    | inl same ↦ subst (λ (t : ℕ). Avoids t (trail cell (cell v).inner_nodes v)) (sym same) (found.avoids v inside)
    | inr other ↦ led_once nodes arc end cell between (λ u vs z _ _ walk. none u vs z walk) found v cost inside other is
  ]

  apart_inside : (v : ℕ) (cost : ℤ) → v < nodes → (cell v).cost ≡ Some cost → AreApart (trail cell (cell v).inner_nodes v)
  apart_inside v cost inside is =
      led_apart nodes arc end cell between (λ u vs z _ _ walk. none u vs z walk) found v cost inside is

  leads_to : (v : ℕ) → v < nodes → LeadsLeast arc v end (walk_nodes false end cell v) (cell v).cost
  unfolding AreApart
  leads_to v inside = by (cell v).cost refl
    where
      by : (o : Option ℤ) → (cell v).cost ≡ o → LeadsLeast arc v end (walk_nodes false end cell v) o
      by None e = unreached v inside e
      by (Some cost) e = record {
        inner = trail cell (cell v).inner_nodes v;
        nodes_are = refl;
        least = least_walk v cost inside e;
        different = different_from_apart (v ∷ trail cell (cell v).inner_nodes v) (
          apart_from_begin v cost inside e,
          apart_inside v cost inside e,
        );
        ends = found.avoids v inside;
      }

  -- the same walks in the graph turned round
  leads_from : (v : ℕ) → v < nodes → LeadsLeast (turned arc) end v (walk_nodes true end cell v) (cell v).cost
  unfolding AreApart
  leads_from v inside = by (cell v).cost refl
    where
      back : (vs : List ℕ) → walk_cost (turned arc) end vs v ≡ walk_cost arc v (reverse vs) end
      back vs = walk_cost-turned arc end vs v

      by : (o : Option ℤ) → (cell v).cost ≡ o → LeadsLeast (turned arc) end v (walk_nodes true end cell v) o
      by None e = λ vs. back vs ∙ unreached v inside e (reverse vs)
      by (Some cost) e =
          let inner = trail cell (cell v).inner_nodes v in
          let here = least_walk v cost inside e in
          record {
            inner = reverse inner;
            nodes_are = reverse-append (v ∷ inner) (end ∷ []) ∙ ap (λ (xs : List ℕ). end ∷ xs) (reverse-cons v inner);
            least = record {
              walk = sym (walk_cost-turned (turned arc) v inner end) ∙ here.walk;
              least = λ ws other walk. here.least (reverse ws) other (sym (back ws) ∙ walk);
            };
            different = different_from_apart (end ∷ reverse inner) (
              avoids-reverse end inner (found.avoids v inside),
              apart-reverse inner (apart_inside v cost inside e),
            );
            ends = avoids-reverse v inner (apart_from_begin v cost inside e);
          }

  pub leads_along : (turns : Bool) (v : ℕ) → v < nodes
      → LeadsAlong turns arc v end (walk_nodes turns end cell v) (cell v).cost
  leads_along false = leads_to
  leads_along true = leads_from
