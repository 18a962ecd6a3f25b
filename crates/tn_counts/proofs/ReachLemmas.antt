-- Labels that are as high as least walks from null let them be: at nodes that no walk reaches, as high as wanted.
use Rattle.std.proofs.Common.{◌≡◌, ℕ, ◌<◌, Bool, true, false, ◌==◌, if◌then◌else◌, List, [], ◌∷◌, ◌++◌, Option, Some, None, refl, sym, ap, ◌∙◌, subst, arith, inl, inr, ◌⊎◌, ℤ, pos, ◌+ℤ◌, ◌-ℤ◌, ◌≤ℤ◌}
use Rattle.std.specs.Prelude.{int_le, neg_ℤ}
use Rattle.std.proofs.lemmas.Int.{ints}
use Rattle.std.proofs.lemmas.Bool.{cases_eq, eq-eqb, ne_eqb}
use Rattle.std.proofs.lemmas.Option.{none-some, same_Some}
use Rattle.tn_base.specs.Arcs.{AreBetweenNodes}
use Rattle.tn_base.specs.Walks.{HasNoNegativeCycle, KeepsArcs, walk_cost}
use Rattle.tn_base.proofs.WalkLemmas.{both_are, walk-joined}
use Rattle.tn_cycle.specs.Answers.{LeadsLeast}

-- ---- the lesser of a cost that may be none and a label

abbrev pub lesser : Option ℤ → ℤ → ℤ
lesser None z = z
lesser (Some a) z = if int_le a z then a else z

lesser_cases : (o : Option ℤ) (z : ℤ) → (lesser o z ≡ z) ⊎ (o ≡ Some (lesser o z))
lesser_cases None z = inl refl
lesser_cases (Some a) z = by (int_le a z)
  where
    by : (b : Bool) → ((if b then a else z) ≡ z) ⊎ (◌≡◌ {A = Option ℤ} (Some a) (Some (if b then a else z)))
    by true = inr refl
    by false = inl refl

lesser_label : (o : Option ℤ) (z : ℤ) → lesser o z ≤ℤ z
lesser_label None z = omega (arith, ints)
lesser_label (Some a) z = by (int_le a z) refl
  where
    by : (b : Bool) → int_le a z ≡ b → (if b then a else z) ≤ℤ z
    by true e = omega (arith, ints, e)
    by false e = omega (arith, ints)

lesser_cost : (o : Option ℤ) (a z : ℤ) → o ≡ Some a → lesser o z ≤ℤ a
lesser_cost None a z is = absurd (none-some a is)
lesser_cost (Some b) a z is = let same = same_Some b a is in by (int_le b z) refl same
  where
    by : (t : Bool) → int_le b z ≡ t → b ≡ a → (if t then b else z) ≤ℤ a
    by true e same = omega (arith, ints, same)
    by false e same = omega (arith, ints, e, same)

-- a cost that is at most the label
lesser_is : (o : Option ℤ) (a z : ℤ) → o ≡ Some a → a ≤ℤ z → lesser o z ≡ a
lesser_is o a z is low = elim (lesser_cases o z) [
  | inl e ↦ let first = lesser_cost o a z is in omega (arith, ints, e, first, low)
  | inr e ↦ same_Some (lesser o z) a (sym e ∙ is)
]

-- ---- costs of nodes

-- of the nodes that have a cost null is one, at 0, and an arc leads on to one whose cost is no greater than by the arc
pub record AreCosts (arc : ℕ → ℕ → Option ℤ) (null : ℕ) (costs : ℕ → Option ℤ) : Type 0 where
  pub none : costs null ≡ Some (pos 0)
  pub next : (u v : ℕ) (a cost : ℤ) → costs u ≡ Some a → arc u v ≡ Some cost → (b : ℤ) × (costs v ≡ Some b)
      × (b ≤ℤ (a +ℤ cost))

-- labels that keep the arcs, raised so far, but no higher than the costs
abbrev pub raised : (ℕ → Option ℤ) → ℕ → (ℕ → ℤ) → ℤ → ℕ → ℤ
raised costs null label more v = lesser (costs v) ((label v -ℤ label null) +ℤ more)

pub raised_keeps : (arc : ℕ → ℕ → Option ℤ) (null : ℕ) (costs : ℕ → Option ℤ) (label : ℕ → ℤ) (more : ℤ)
    → AreCosts arc null costs → KeepsArcs arc label → KeepsArcs arc (raised costs null label more)
raised_keeps arc null costs label more are keeps u v cost is =
    let high : ℕ → ℤ = λ w. (label w -ℤ label null) +ℤ more in
    elim (lesser_cases (costs u) (high u)) [
      | inl e ↦
          let kept = keeps u v cost is in
          let below = lesser_label (costs v) (high v) in
          omega (arith, ints, e, kept, below)
      | inr e ↦
          let next = are.next u v (lesser (costs u) (high u)) cost e is in
          let below = lesser_cost (costs v) next.0 (high v) next.1 in
          let kept = next.2 in
          omega (arith, ints, below, kept)
    ]

pub raised_null : (arc : ℕ → ℕ → Option ℤ) (null : ℕ) (costs : ℕ → Option ℤ) (label : ℕ → ℤ) (more : ℤ)
    → AreCosts arc null costs → pos 0 ≤ℤ more → raised costs null label more null ≡ pos 0
raised_null arc null costs label more are least =
    lesser_is (costs null) (pos 0) ((label null -ℤ label null) +ℤ more) are.none (omega (arith, ints, least))

pub raised_some : (null : ℕ) (costs : ℕ → Option ℤ) (label : ℕ → ℤ) (more : ℤ) (v : ℕ) (a : ℤ) → costs v ≡ Some a
    → a ≤ℤ ((label v -ℤ label null) +ℤ more) → raised costs null label more v ≡ a
raised_some null costs label more v a is low = lesser_is (costs v) a ((label v -ℤ label null) +ℤ more) is low

pub raised_none : (null : ℕ) (costs : ℕ → Option ℤ) (label : ℕ → ℤ) (more : ℤ) (v : ℕ) → costs v ≡ None
    → raised costs null label more v ≡ (label v -ℤ label null) +ℤ more
raised_none null costs label more v is = ap (λ (o : Option ℤ). lesser o ((label v -ℤ label null) +ℤ more)) is

-- ---- nodes that are reached at some costs

-- of the costs at which a node is reached the least one, none where it isn't reached
abbrev pub IsLeastReach : (ℕ → ℤ → Type 0) → ℕ → Option ℤ → Type 0
IsLeastReach reached v (Some cost) = reached v cost × ((other : ℤ) → reached v other → cost ≤ℤ other)
IsLeastReach reached v None = (cost : ℤ) → reached v cost → ⊥

-- the cost of a node, 0 for null
abbrev pub beside_null : ℕ → (ℕ → Option ℤ) → ℕ → Option ℤ
beside_null null costs v = if v == null then Some (pos 0) else costs v

pub beside_other : (null : ℕ) (costs : ℕ → Option ℤ) (v : ℕ) → (v ≡ null → ⊥) → beside_null null costs v ≡ costs v
beside_other null costs v other = ap (λ (b : Bool). if b then Some (pos 0) else costs v) (ne_eqb v null other)

beside_same : (null : ℕ) (costs : ℕ → Option ℤ) (v : ℕ) → v ≡ null → beside_null null costs v ≡ Some (pos 0)
beside_same null costs v same = ap (λ (b : Bool). if b then Some (pos 0) else costs v) (eq-eqb v null same)

-- what is reached from null along arcs, and comes back to null at no negative cost
record IsReach (nodes : ℕ) (arc : ℕ → ℕ → Option ℤ) (null : ℕ) (reached : ℕ → ℤ → Type 0) : Type 0 where
  within : AreBetweenNodes nodes arc
  first : (v : ℕ) (cost : ℤ) → arc null v ≡ Some cost → reached v cost
  next : (u v : ℕ) (a cost : ℤ) → reached u a → arc u v ≡ Some cost → reached v (a +ℤ cost)
  back : (cost : ℤ) → reached null cost → pos 0 ≤ℤ cost

costs_are : (nodes : ℕ) (arc : ℕ → ℕ → Option ℤ) (null : ℕ) (reached : ℕ → ℤ → Type 0) (costs : ℕ → Option ℤ)
    → IsReach nodes arc null reached → ((v : ℕ) → v < nodes → IsLeastReach reached v (costs v))
    → AreCosts arc null (beside_null null costs)
costs_are nodes arc null reached costs is least = record { none = beside_same null costs null refl; next = next }
  where
    next : (u v : ℕ) (a cost : ℤ) → beside_null null costs u ≡ Some a → arc u v ≡ Some cost → (b : ℤ)
        × (beside_null null costs v ≡ Some b) × (b ≤ℤ (a +ℤ cost))
    next u v a cost u_is arc_is = there (elim (cases_eq u null) [
      | inl same ↦
          let zero : pos 0 ≡ a = same_Some (pos 0) a (sym (beside_same null costs u same) ∙ u_is) in
          let sum : cost ≡ a +ℤ cost = omega (arith, ints, zero) in
          subst (reached v) sum (is.first v cost (subst (λ (w : ℕ). arc w v ≡ Some cost) same arc_is))
      | inr other ↦
          let mine : costs u ≡ Some a = sym (beside_other null costs u other) ∙ u_is in
          is.next u v a cost
          (subst (IsLeastReach reached u) mine (least u (is.within u v cost arc_is).0)).0 arc_is
    ])
      where
        at : (o : Option ℤ) → beside_null null costs v ≡ o → IsLeastReach reached v o → reached v (a +ℤ cost) → (b : ℤ)
            × (beside_null null costs v ≡ Some b) × (b ≤ℤ (a +ℤ cost))
        at None o_is none here = absurd (none (a +ℤ cost) here)
        at (Some b) o_is some here = (b, o_is, some.1 (a +ℤ cost) here)

        there : reached v (a +ℤ cost) → (b : ℤ) × (beside_null null costs v ≡ Some b) × (b ≤ℤ (a +ℤ cost))
        there here = elim (cases_eq v null) [
          | inl same ↦ (
            pos 0,
            beside_same null costs v same,
            is.back (a +ℤ cost) (subst (λ (w : ℕ). reached w (a +ℤ cost)) same here),
          )
          | inr other ↦ at (costs v) (beside_other null costs v other) (least v (is.within u v cost arc_is).1) here
        ]

-- ---- walks from null, and walks to null

pub from_costs : (nodes : ℕ) (arc : ℕ → ℕ → Option ℤ) (null : ℕ) (walks : ℕ → List ℕ) (costs : ℕ → Option ℤ)
    → AreBetweenNodes nodes arc → HasNoNegativeCycle arc → ((v : ℕ) → v < nodes → LeadsLeast arc null v (walks v) (costs v))
    → AreCosts arc null (beside_null null costs)
from_costs nodes arc null walks costs within none lead =
    costs_are nodes arc null reached costs (record {
      within = within;
      first = λ v cost is. ([], is);
      next = λ u v a cost before is. (before.0 ++ u ∷ [], walk-joined arc null before.0 u [] v a cost before.1 is);
      back = λ cost before. none null before.0 cost before.1;
    }) (λ v below. by v (costs v) (lead v below))
  where
    reached : ℕ → ℤ → Type 0
    reached v cost = (vs : List ℕ) × (walk_cost arc null vs v ≡ Some cost)

    by : (v : ℕ) (o : Option ℤ) → LeadsLeast arc null v (walks v) o → IsLeastReach reached v o
    by v None gone = λ cost before. none-some cost (sym (gone before.0) ∙ before.1)
    by v (Some cost) some = (
      (some.inner, some.least.walk),
      λ other before. some.least.least before.0 other before.1,
    )

pub to_costs : (nodes : ℕ) (arc : ℕ → ℕ → Option ℤ) (null : ℕ) (walks : ℕ → List ℕ) (costs : ℕ → Option ℤ)
    → AreBetweenNodes nodes arc → HasNoNegativeCycle arc → ((v : ℕ) → v < nodes → LeadsLeast arc v null (walks v) (costs v))
    → AreCosts (λ u v. arc v u) null (beside_null null costs)
to_costs nodes arc null walks costs within none lead =
    costs_are nodes (λ u v. arc v u) null reached costs (record {
      within = λ u v cost is. let two = within v u cost is in (two.1, two.0);
      first = λ v cost is. ([], is);
      next = λ u v a cost before is.
          let swap : cost +ℤ a ≡ a +ℤ cost = omega (arith, ints) in (
            u ∷ before.0,
            both_are (arc v u) (walk_cost arc u before.0 null) cost a is before.1 ∙ ap (λ (z : ℤ). Some z) swap,
          );
      back = λ cost before. none null before.0 cost before.1;
    }) (λ v below. by v (costs v) (lead v below))
  where
    reached : ℕ → ℤ → Type 0
    reached v cost = (vs : List ℕ) × (walk_cost arc v vs null ≡ Some cost)

    by : (v : ℕ) (o : Option ℤ) → LeadsLeast arc v null (walks v) o → IsLeastReach reached v o
    by v None gone = λ cost before. none-some cost (sym (gone before.0) ∙ before.1)
    by v (Some cost) some = (
      (some.inner, some.least.walk),
      λ other before. some.least.least before.0 other before.1,
    )

-- labels keep the graph turned round with their signs changed
pub turned_keeps : (arc : ℕ → ℕ → Option ℤ) (label : ℕ → ℤ) → KeepsArcs arc label
    → KeepsArcs (λ u v. arc v u) (λ v. neg_ℤ (label v))
turned_keeps arc label keeps u v cost is = let kept : label u ≤ℤ (label v +ℤ cost) = keeps v u cost is in
    omega (arith, ints, kept)
