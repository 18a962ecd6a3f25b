-- What the cells of a search say once it has settled.
use Rattle.std.proofs.Common.{◌≡◌, ◌≢◌, ℕ, ◌<◌, refl, ◌∙◌, subst, arith, inl, inr, [], length, ℤ, Option, Some, None}
use Rattle.std.specs.Prelude.{All}
use Rattle.std.proofs.lemmas.Int.{ints}
use Rattle.std.proofs.lemmas.Bool.{cases_lt}
use Rattle.std.proofs.lemmas.List.Elements.{All-nil}
use Rattle.tn_base.specs.Arcs.{AreBetweenNodes}
use Rattle.tn_base.specs.Walks.{walk_cost, Avoids}
use Rattle.tn_cycle.specs.declared.cell.Cell.{Cell}
use Rattle.tn_cycle.specs.Order.{IsBelow}
use Rattle.tn_cycle.specs.Cells.{trail}
use Rattle.tn_cycle.specs.Searched.{HasNoNegativeCycleOff, IsSettled}
use Rattle.tn_cycle.proofs.WalkLemmas.{AreApart, found_or_not, IsShortened, cut, apart_or_shortened, walk_inside}
use Rattle.tn_cycle.proofs.ReadLemmas.{length-trail}

module _ (nodes : ℕ) (arc : ℕ → ℕ → Option ℤ) (end : ℕ) (cell : ℕ → Cell) (between : AreBetweenNodes nodes arc)
    (off : HasNoNegativeCycleOff arc end) (found : IsSettled nodes arc end cell) where
  pub led_walk : (v : ℕ) (cost : ℤ) → v < nodes → (cell v).cost ≡ Some cost
      → walk_cost arc v (trail cell (cell v).inner_nodes v) end ≡ Some cost
  led_walk v cost inside is = found.leads v inside ∙ is

  -- no walk with fewer arcs costs as little
  never_shorter : (v : ℕ) (cost : ℤ) → v < nodes → (cell v).cost ≡ Some cost
      → IsShortened arc end v (trail cell (cell v).inner_nodes v) cost → ⊥
  never_shorter v cost inside is short =
      let fewer : length short.nodes < (cell v).inner_nodes = omega (arith, short.fewer, length-trail cell (cell v).inner_nodes v)
      in
      let below = found.fewest v short.nodes inside short.avoids fewer in
      let known : IsBelow (Some cost) (Some short.less) =
      subst (IsBelow (Some cost)) short.walk (subst (λ (z : Option ℤ). IsBelow z (walk_cost arc v short.nodes end)) is
      below) in
      omega (arith, ints, known, short.no_more)

  pub led_apart : (v : ℕ) (cost : ℤ) → v < nodes → (cell v).cost ≡ Some cost → AreApart (trail cell (cell v).inner_nodes v)
  led_apart v cost inside is =
      elim (apart_or_shortened arc end off v (trail cell (cell v).inner_nodes v) cost (found.avoids v inside)
      (led_walk v cost inside is)) [
        | inl apart ↦ apart
        | inr short ↦ absurd (never_shorter v cost inside is short)
      ]

  pub led_once : (v : ℕ) (cost : ℤ) → v < nodes → v ≢ end → (cell v).cost ≡ Some cost
      → Avoids v (trail cell (cell v).inner_nodes v)
  led_once v cost inside other is = elim (found_or_not v (trail cell (cell v).inner_nodes v)) [
    | inr avoids ↦ avoids
    | inl again ↦
        absurd (never_shorter v cost inside is (cut arc end off v (trail cell (cell v).inner_nodes v) cost other
        (found.avoids v inside) (led_walk v cost inside is) again))
  ]

  pub led_inside : (v : ℕ) → v < nodes → All (λ u. u < nodes) (trail cell (cell v).inner_nodes v)
  led_inside v inside = by (cell v).cost refl
    where
      by : (o : Option ℤ) → (cell v).cost ≡ o → All (λ u. u < nodes) (trail cell (cell v).inner_nodes v)
      by (Some cost) is =
          walk_inside nodes arc between v (trail cell (cell v).inner_nodes v) end cost (led_walk v cost inside is)
      by None is = elim (cases_lt 0 (cell v).inner_nodes) [
        | inl later ↦
            absurd (subst (λ (z : Option ℤ). IsBelow z (arc v end)) is
            (found.fewest v [] inside (All-nil (λ u. u ≢ end)) later))
        | inr first ↦
            let e : 0 ≡ (cell v).inner_nodes = omega (arith, first) in
            subst (λ (k : ℕ). All (λ u. u < nodes) (trail cell k v)) e (All-nil (λ u. u < nodes))
      ]
