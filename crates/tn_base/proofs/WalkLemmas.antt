-- Walks: their arcs, and walks one after another.
use Rattle.std.proofs.Common.{◌≡◌, ℕ, refl, sym, ap, ap₂, ◌∙◌, arith, ℤ, ◌+ℤ◌, List, [], ◌∷◌, ◌++◌, Bool, ◌&&◌, if◌then◌else◌, Option, Some, None}
use Rattle.std.proofs.lemmas.Option.{same_Some}
use Rattle.std.proofs.lemmas.Int.{ints}
use Rattle.tn_base.specs.Options.{both}
use Rattle.tn_base.specs.Walks.{walk_cost, arcs_among, CyclesCostAtLeast, IsLeastCycle}

-- two numbers whose sum is there
pub record AreParts (o p : Option ℤ) (sum : ℤ) : Type 0 where
  pub first : ℤ
  pub second : ℤ
  pub first_is : o ≡ Some first
  pub second_is : p ≡ Some second
  pub sum_is : sum ≡ first +ℤ second

pub both_parts : (o p : Option ℤ) (sum : ℤ) → both o p ≡ Some sum → AreParts o p sum
both_parts None p sum e = absurd (cc e)
both_parts (Some a) None sum e = absurd (cc e)
both_parts (Some a) (Some b) sum e = record {
  first = a;
  second = b;
  first_is = refl;
  second_is = refl;
  sum_is =
      sym (same_Some _ _ e);
}

pub both_are : (o p : Option ℤ) (a b : ℤ) → o ≡ Some a → p ≡ Some b → both o p ≡ Some (a +ℤ b)
both_are o p a b first second = ap₂ both first second

-- the first arc of a walk, and the rest
pub walk_parts : (arc : ℕ → ℕ → Option ℤ) (u v : ℕ) (vs : List ℕ) (w : ℕ) (cost : ℤ)
    → walk_cost arc u (v ∷ vs) w ≡ Some cost
    → AreParts (arc u v) (walk_cost arc v vs w) cost
walk_parts arc u v vs w cost is = both_parts (arc u v) (walk_cost arc v vs w) cost is

-- walks of these costs, one after another, are one
pub walk-joined : (arc : ℕ → ℕ → Option ℤ) (u : ℕ) (us : List ℕ) (v : ℕ) (vs : List ℕ) (w : ℕ) (a b : ℤ)
    → walk_cost arc u us v ≡ Some a → walk_cost arc v vs w ≡ Some b → walk_cost arc u (us ++ v ∷ vs) w ≡ Some (a +ℤ b)
walk-joined arc u [] v vs w a b first second = both_are (arc u v) (walk_cost arc v vs w) a b first second
walk-joined arc u (x ∷ us) v vs w a b first second =
    let parts = walk_parts arc u x us v a first in
    both_are (arc u x) (walk_cost arc x (us ++ v ∷ vs) w) parts.first (parts.second +ℤ b) parts.first_is
    (walk-joined arc x us v vs w parts.second b parts.second_is second)
    ∙ ap (λ (z : ℤ). Some z) (regrouped parts.first parts.second a b parts.sum_is)
  where
    regrouped : (f s a b : ℤ) → a ≡ f +ℤ s → f +ℤ (s +ℤ b) ≡ a +ℤ b
    regrouped f s a b e = omega (arith, ints, e)

-- ---- graphs with the same arcs

abbrev pub SameArcs : (ℕ → ℕ → Option ℤ) → (ℕ → ℕ → Option ℤ) → Type 0
SameArcs one other = (u v : ℕ) → one u v ≡ other u v

pub walk-same : (one other : ℕ → ℕ → Option ℤ) → SameArcs one other → (u : ℕ) (vs : List ℕ) (w : ℕ)
    → walk_cost one u vs w ≡ walk_cost other u vs w
walk-same one other same u [] w = same u w
walk-same one other same u (v ∷ vs) w = ap₂ both (same u v) (walk-same one other same v vs w)

pub least_cycle-same : (one other : ℕ → ℕ → Option ℤ) → SameArcs one other → (t : ℕ) (vs : List ℕ) (cost : ℤ)
    → IsLeastCycle other t vs cost → IsLeastCycle one t vs cost
least_cycle-same one other same t vs cost cycle = record {
  cycle = record { walk = walk-same one other same t vs t ∙ cycle.cycle.walk; different = cycle.cycle.different };
  least = λ ws c avoids walk. cycle.least ws c avoids (sym (walk-same one other same t ws t) ∙ walk);
  shortest = λ ws avoids walk. cycle.shortest ws avoids (sym (walk-same one other same t ws t) ∙ walk);
}

pub cycles-same : (one other : ℕ → ℕ → Option ℤ) → SameArcs one other → (t : ℕ) (least : ℤ)
    → CyclesCostAtLeast other t least → CyclesCostAtLeast one t least
cycles-same one other same t least all vs cost avoids walk =
    all vs cost avoids (sym (walk-same one other same t vs t) ∙ walk)

-- the arcs among some nodes of graphs with the same arcs are the same
pub among-same : (test : ℕ → Bool) (one other : ℕ → ℕ → Option ℤ) → SameArcs one other
    → SameArcs (arcs_among test one) (arcs_among test other)
among-same test one other same u v = ap (λ (o : Option ℤ). if test u && test v then o else None) (same u v)
