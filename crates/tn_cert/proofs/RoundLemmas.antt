-- Going round some nodes: the costs of the arcs, one after another, are those of a walk.
use Rattle.std.proofs.Common.{◌≡◌, ℕ, zero, suc, ◌+◌, ◌*◌, ◌<◌, ◌≤◌, if◌then◌else◌, List, [], ◌∷◌, ◌++◌, length, Bool, Option, Some, None, Result, Ok, Err, refl, sym, ap, ap₂, ◌∙◌, subst, add-one, arith, inl, inr, ℤ, pos, ◌+ℤ◌}
use Rattle.std.specs.Prelude.{slice_get, option_and_then, IsSome}
use Rattle.std.proofs.lemmas.Int.{ints}
use Rattle.std.proofs.lemmas.Bool.{cases_eq, eq-eqb, ne_eqb}
use Rattle.std.proofs.lemmas.Option.{same_Some}
use mir.Syntax.{w128}
use mir.Val.{SFits}
use Rattle.tn_base.specs.Arcs.{IsAtMost, AreSmall}
use Rattle.tn_base.specs.Widths.{most_cost}
use Rattle.tn_model.specs.Limits.{most_nodes}
use Rattle.tn_base.specs.Options.{both}
use Rattle.tn_base.specs.Walks.{walk_cost}
use Rattle.tn_base.proofs.WalkLemmas.{both_parts, both_are, SameArcs, walk-same}
use Rattle.tn_cycle.proofs.OrderLemmas.{both-assoc}
use Rattle.tn_cert.specs.Claims.{GoesRound}
use Rattle.tn_cert.specs.Reasons.{following, arc_after, IsFirstBreak}
use Rattle.tn_cert.specs.Replays.{Rounds}

-- the sum of the first n of some numbers, none where one of them is none
abbrev pub sum_first : (ℕ → Option ℤ) → ℕ → Option ℤ
sum_first f zero = Some (pos 0)
sum_first f (suc n) = both (sum_first f n) (f n)

both-zero : (o : Option ℤ) → both (Some (pos 0)) o ≡ o
both-zero None = refl
both-zero (Some a) = ap (λ (z : ℤ). Some z) (omega (arith, ints))

both-zero_last : (o : Option ℤ) → both o (Some (pos 0)) ≡ o
both-zero_last None = refl
both-zero_last (Some a) = ap (λ (z : ℤ). Some z) (omega (arith, ints))

-- the first number apart
sum_first-head : (f : ℕ → Option ℤ) (n : ℕ) → sum_first f (suc n) ≡ both (f 0) (sum_first (λ k. f (suc k)) n)
sum_first-head f zero = both-zero (f 0) ∙ sym (both-zero_last (f 0))
sum_first-head f (suc n) =
    ap (λ (o : Option ℤ). both o (f (suc n))) (sum_first-head f n)
    ∙ both-assoc (f 0) (sum_first (λ k. f (suc k)) n) (f (suc n))

sum_first-same : (f g : ℕ → Option ℤ) (n : ℕ) → ((k : ℕ) → k < n → f k ≡ g k) → sum_first f n ≡ sum_first g n
sum_first-same f g zero same = refl
sum_first-same f g (suc n) same =
    ap₂ both (sum_first-same f g n (λ k below. same k (omega (arith, below)))) (same n (omega arith))

-- each number of a sum is there
summand : (f : ℕ → Option ℤ) (n : ℕ) (total : ℤ) → sum_first f n ≡ Some total → (k : ℕ) → k < n → IsSome (f k)
summand f zero total is k below = absurd (omega (arith, below))
summand f (suc n) total is k below =
    let parts = both_parts (sum_first f n) (f n) total is in
    elim (cases_eq k n) [
      | inl e ↦ subst (λ (m : ℕ). IsSome (f m)) (sym e) (some (f n) parts.second parts.second_is)
      | inr d ↦ summand f n parts.first parts.first_is k (omega (arith, below, d))
    ]
  where
    some : (o : Option ℤ) (a : ℤ) → o ≡ Some a → IsSome o
    some (Some a) b e = refl
    some None b e = absurd (cc e)

-- the arc with index k of the walk from u through a list to w
abbrev arc_along : (ℕ → ℕ → Option ℤ) → ℕ → List ℕ → ℕ → ℕ → Option ℤ
arc_along arc u vs w k =
    option_and_then (λ from. option_and_then (arc from) (slice_get (vs ++ w ∷ []) k)) (slice_get (u ∷ vs) k)

walk-sum : (arc : ℕ → ℕ → Option ℤ) (u : ℕ) (vs : List ℕ) (w : ℕ)
    → sum_first (arc_along arc u vs w) (suc (length vs)) ≡ walk_cost arc u vs w
walk-sum arc u [] w = both-zero (arc u w)
walk-sum arc u (v ∷ vs) w =
    sum_first-head (arc_along arc u (v ∷ vs) w) (suc (length vs))
    ∙ ap (λ (o : Option ℤ). both (arc u v) o) (walk-sum arc v vs w)

after_all : (vs : List ℕ) (w k : ℕ) → k ≡ length vs → slice_get (vs ++ w ∷ []) k ≡ Some w
after_all [] w zero e = refl
after_all [] w (suc k) e = absurd (omega (arith, e))
after_all (v ∷ vs) w zero e = absurd (omega (arith, e))
after_all (v ∷ vs) w (suc k) e = after_all vs w k (omega (arith, e))

before_end : (vs : List ℕ) (w k : ℕ) → k < length vs → slice_get (vs ++ w ∷ []) k ≡ slice_get vs k
before_end [] w k below = absurd (omega (arith, below))
before_end (v ∷ vs) w zero below = refl
before_end (v ∷ vs) w (suc k) below = before_end vs w k (omega (arith, below))

-- the node after one of the nodes is that on the walk back to the first
following-along : (first : ℕ) (rest : List ℕ) (k : ℕ) → k < length (first ∷ rest)
    → following (first ∷ rest) k ≡ slice_get (rest ++ first ∷ []) k
following-along first rest k below = elim (cases_eq (k + 1) (length (first ∷ rest))) [
  | inl e ↦ ap (λ (b : Bool). if b then Some first else slice_get (first ∷ rest) (k + 1))
      (eq-eqb (k + 1) (length (first ∷ rest)) e) ∙ sym (after_all rest first k (omega (arith, e)))
  | inr d ↦ ap (λ (b : Bool). if b then Some first else slice_get (first ∷ rest) (k + 1))
      (ne_eqb (k + 1) (length (first ∷ rest)) d)
      ∙ ap (slice_get (first ∷ rest)) (add-one k)
      ∙ sym (before_end rest first k (omega (arith, below, d)))
]

-- the cost of an arc between two nodes is small
pub after_small : (arc : ℕ → ℕ → Option ℤ) (limit : ℕ) → AreSmall arc limit → (nodes : List ℕ) (k : ℕ) (cost : ℤ)
    → arc_after arc nodes k ≡ Some cost → IsAtMost cost limit
after_small arc limit small nodes k cost is = by (slice_get nodes k) (following nodes k) is
  where
    by : (from to : Option ℕ) → option_and_then (λ u. option_and_then (arc u) to) from ≡ Some cost → IsAtMost cost limit
    by None to e = absurd (cc e)
    by (Some u) None e = absurd (cc e)
    by (Some u) (Some v) e = small u v cost e

after-same : (one other : ℕ → ℕ → Option ℤ) → SameArcs one other → (nodes : List ℕ) (k : ℕ)
    → arc_after one nodes k ≡ arc_after other nodes k
after-same one other same nodes k = by (slice_get nodes k) (following nodes k)
  where
    by : (from to : Option ℕ) → option_and_then (λ u. option_and_then (one u) to) from
        ≡ option_and_then (λ u. option_and_then (other u) to) from
    by None to = refl
    by (Some u) None = refl
    by (Some u) (Some v) = same u v

-- ---- a round

-- of graphs with the same arcs
pub rounds-same : (one other : ℕ → ℕ → Option ℤ) → SameArcs one other → (nodes : List ℕ) (result : Result ℤ ℕ)
    → Rounds one nodes result → Rounds other nodes result
rounds-same one other same [] (Ok cost) goes = absurd goes
rounds-same one other same (first ∷ rest) (Ok cost) goes = sym (walk-same one other same first rest first) ∙ goes
rounds-same one other same nodes (Err index) break = record {
  within = break.within;
  before = λ k below. subst IsSome (after-same one other same nodes k) (break.before k below);
  broken = sym (after-same one other same nodes index) ∙ break.broken;
}

-- the first k arcs are there, and this is what they cost together
pub record AreWalked (arc : ℕ → ℕ → Option ℤ) (nodes : List ℕ) (k : ℕ) (total : ℤ) : Type 0 where
  pub sum : sum_first (arc_after arc nodes) k ≡ Some total
  pub small : IsAtMost total (k * most_cost)

-- with one more arc
pub one_walked : (arc : ℕ → ℕ → Option ℤ) (nodes : List ℕ) (k : ℕ) (total cost : ℤ) → IsAtMost cost most_cost
    → AreWalked arc nodes k total
    → arc_after arc nodes k ≡ Some cost → AreWalked arc nodes (k + 1) (total +ℤ cost)
one_walked arc nodes k total cost small walked is = record {
  sum = ap (sum_first (arc_after arc nodes)) (add-one k)
      ∙ both_are (sum_first (arc_after arc nodes) k) (arc_after arc nodes k) total cost walked.sum is;
  small = add _ _ walked.small small;
}
  where
    add : (a b : ℤ) → IsAtMost a (k * most_cost) → IsAtMost b most_cost → IsAtMost (a +ℤ b) ((k + 1) * most_cost)
    add a b small_a small_b = record {
      low = omega (arith, ints, small_a.low, small_b.low);
      high =
          omega (arith, ints, small_a.high, small_b.high);
    }

-- the sum fits
pub walked_fits : (arc : ℕ → ℕ → Option ℤ) (nodes : List ℕ) (k : ℕ) (total cost : ℤ) → AreWalked arc nodes k total
    → IsAtMost cost most_cost → k ≤ most_nodes → SFits w128 (total +ℤ cost)
walked_fits arc nodes k total cost walked small few =
    let low = walked.small.low in
    let high = walked.small.high in
    let more_low = small.low in
    let more_high = small.high in
    omega (arith, ints, low, high, more_low, more_high, few)

-- the first arc that isn't there
pub first_break : (arc : ℕ → ℕ → Option ℤ) (nodes : List ℕ) (k : ℕ) (total : ℤ) → AreWalked arc nodes k total
    → k < length nodes → arc_after arc nodes k ≡ None
    → IsFirstBreak arc nodes k
first_break arc nodes k total walked within none = record {
  within = within;
  before =
      summand (arc_after arc nodes) k total walked.sum;
  broken = none;
}

round-sum : (arc : ℕ → ℕ → Option ℤ) (first : ℕ) (rest : List ℕ)
    → sum_first (arc_after arc (first ∷ rest)) (length (first ∷ rest)) ≡ walk_cost arc first rest first
round-sum arc first rest =
    sum_first-same (arc_after arc (first ∷ rest)) (arc_along arc first rest first) (length (first ∷ rest))
    (λ k below. ap (λ (to : Option ℕ). option_and_then (λ from. option_and_then (arc from) to)
    (slice_get (first ∷ rest) k)) (following-along first rest k below))
    ∙ walk-sum arc first rest first

-- the whole round
pub all_walked : (arc : ℕ → ℕ → Option ℤ) (nodes : List ℕ) (k : ℕ) (total : ℤ) → AreWalked arc nodes k total
    → k ≡ length nodes → 0 < k → GoesRound arc nodes total
all_walked arc [] k total walked whole some = absurd (omega (arith, whole, some))
all_walked arc (first ∷ rest) k total walked whole some =
    sym (round-sum arc first rest) ∙ ap (sum_first (arc_after arc (first ∷ rest))) (sym whole) ∙ walked.sum

-- where a round has a cost, each of its arcs is there
pub round_unbroken : (arc : ℕ → ℕ → Option ℤ) (nodes : List ℕ) (cost : ℤ) → GoesRound arc nodes cost → (index : ℕ)
    → IsFirstBreak arc nodes index → ⊥
round_unbroken arc [] cost goes index break = goes
round_unbroken arc (first ∷ rest) cost goes index break =
    let there = summand (arc_after arc (first ∷ rest)) (length (first ∷ rest)) cost (round-sum arc first rest ∙ goes)
    index break.within in
    no (arc_after arc (first ∷ rest) index) there break.broken
  where
    no : (o : Option ℤ) → IsSome o → o ≡ None → ⊥
    no None some none = absurd (cc some)
    no (Some a) some none = absurd (cc none)

-- a round costs one amount
pub round_cost-same : (arc : ℕ → ℕ → Option ℤ) (nodes : List ℕ) (a b : ℤ) → GoesRound arc nodes a
    → GoesRound arc nodes b → a ≡ b
round_cost-same arc [] a b one other = absurd one
round_cost-same arc (first ∷ rest) a b one other = same_Some a b (sym one ∙ other)
