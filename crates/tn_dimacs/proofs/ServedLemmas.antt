-- The links of arcs that are served can be searched.
use Rattle.std.proofs.Common.{◌≡◌, ℕ, zero, suc, sym, ap, ◌∙◌, subst, arith, inl, inr, List, [], ◌∷◌, get_or, pos, Some, true}
use Rattle.std.specs.Prelude.{slice_get}
use Rattle.std.proofs.lemmas.Int.{ints}
use Rattle.std.proofs.lemmas.Option.{none-some, same_Some, slice_get-get_or, slice_get_within}
use Rattle.tn_base.specs.Arcs.{IsAtMost}
use Rattle.tn_links.specs.declared.link.Link.{Link}
use Rattle.tn_links.specs.declared.link.Step.{Step}
use Rattle.tn_links.specs.Links.{AreFalling, AreSlight, IsLink, joins, room}
use Rattle.tn_links.specs.LotLemmas.{ends_of}
use Rattle.tn_links.specs.Widths.{most_each}
use Rattle.tn_dimacs.specs.declared.problem.Arc.{Arc}
use Rattle.tn_dimacs.specs.Served.{AreLinksOf, AreSearched, IsServed, JoinSame}

no_arc : Arc
no_arc = record { tail = 0; head = 0; capacity = 0; cost = pos 0 }

-- the arc of a link
arc_at : (arcs : List Arc) (links : List Link) (j : ℕ) (link : Link) → AreLinksOf arcs links → slice_get links j ≡ Some link
    → slice_get arcs j ≡ Some (get_or arcs j no_arc)
arc_at arcs links j link are at =
    let below = slice_get_within links j link at in
    let count = are.one_each in
    slice_get-get_or arcs j no_arc (omega (arith, below, count))

single_step : (step : Step) → AreFalling (step ∷ [])
single_step step i zero a b less at_a at_b = absurd (omega (arith, less))
single_step step i (suc k) a b less at_a at_b = absurd (none-some b at_b)

one_slight : (step : Step) → IsAtMost step.each most_each → AreSlight (step ∷ [])
one_slight step small zero one at = subst (λ (s : Step). IsAtMost s.each most_each) (same_Some step one at) small
one_slight step small (suc i) one at = absurd (none-some one at)

is_link : (nodes : ℕ) (arcs : List Arc) (links : List Link) → AreLinksOf arcs links → IsServed nodes arcs → (j : ℕ)
    (link : Link) → slice_get links j ≡ Some link → IsLink nodes link
is_link nodes arcs links are served j link at =
    let arc = get_or arcs j no_arc in
    let at_arc = arc_at arcs links j link are at in
    let of_arc = are.all j arc link at_arc at in
    let own = served.each j arc at_arc in
    let small = served.cheap j arc at_arc in
    let gains = of_arc.gains in
    let step : Step = record { units = arc.capacity; each = of_arc.each } in
    let tail = of_arc.tail in
    let head = of_arc.head in
    let back = of_arc.back in
    let inside = own.tail_inside in
    let head_inside = own.head_inside in
    let few = own.few_units in
    let count : room link.steps.items ≡ arc.capacity = ap room of_arc.steps ∙ omega arith in
    record {
      tail_inside = omega (arith, tail, inside);
      head_inside = omega (arith, head, head_inside);
      apart = λ e. own.apart (sym tail ∙ e ∙ head);
      steps = record {
        back_within = omega (arith, back);
        few_units = omega (arith, count, few);
        falling = subst AreFalling (sym of_arc.steps) (single_step step);
        slight = subst AreSlight (sym of_arc.steps)
            (one_slight step (record { low = omega (arith, ints, gains, small.high); high = omega (arith, ints, gains, small.low) }));
      };
    }

-- links of arcs that are served can be searched
pub are_searched : (nodes : ℕ) (arcs : List Arc) (links : List Link) → AreLinksOf arcs links → IsServed nodes arcs
    → AreSearched nodes links
are_searched nodes arcs links are served = record {
  some_nodes = served.some_nodes;
  served = record {
    plain = record { each = is_link nodes arcs links are served; single = single };
    few = let count = are.one_each in let few = served.few in omega (arith, count, few);
    few_nodes = served.few_nodes;
  };
}
  where
    single : (i j u v : ℕ) (a b : Link) → slice_get links i ≡ Some a → slice_get links j ≡ Some b → joins a u v ≡ true
        → joins b u v ≡ true → i ≡ j
    single i j u v a b at_a at_b first second =
        let one = arc_at arcs links i a are at_a in
        let other = arc_at arcs links j b are at_b in
        let x = are.all i (get_or arcs i no_arc) a one at_a in
        let y = are.all j (get_or arcs j no_arc) b other at_b in
        let same : JoinSame (get_or arcs i no_arc) (get_or arcs j no_arc) = elim (ends_of a u v first) [
          | inl p ↦ elim (ends_of b u v second) [
            | inl q ↦ inl (sym x.tail ∙ p.0 ∙ sym q.0 ∙ y.tail, sym x.head ∙ p.1 ∙ sym q.1 ∙ y.head)
            | inr q ↦ inr (sym x.tail ∙ p.0 ∙ sym q.1 ∙ y.head, sym x.head ∙ p.1 ∙ sym q.0 ∙ y.tail)
          ]
          | inr p ↦ elim (ends_of b u v second) [
            | inl q ↦ inr (sym x.tail ∙ p.0 ∙ sym q.1 ∙ y.head, sym x.head ∙ p.1 ∙ sym q.0 ∙ y.tail)
            | inr q ↦ inl (sym x.tail ∙ p.0 ∙ sym q.0 ∙ y.tail, sym x.head ∙ p.1 ∙ sym q.1 ∙ y.head)
          ]
        ] in
        served.single i j (get_or arcs i no_arc) (get_or arcs j no_arc) one other same
