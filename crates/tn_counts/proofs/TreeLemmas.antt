-- The nodes above sets and around trades.
use Rattle.std.proofs.Common.{◌≡◌, ℕ, zero, suc, ◌+◌, ◌-◌, ◌<◌, ◌≤◌, Bool, true, false, ◌==◌, ◌&&◌, if◌then◌else◌, List, [], ◌∷◌, length, Option, Some, None, option_map, slice_get, refl, sym, ap, ◌∙◌, arith, inl, inr}
use Rattle.std.specs.Prelude.{unwrap_or}
use Rattle.std.specs.List.{list_any}
use Rattle.std.proofs.lemmas.Bool.{and_from, and_parts, cases_Bool, eq-eqb, eqb-true, false≢true, or_left}
use Rattle.std.proofs.lemmas.Option.{same_Some}
use Rattle.tn_counts.specs.Laminar.{holds}
use Rattle.tn_counts.specs.Markets.{AreLaminar}
use Rattle.tn_counts.specs.Tree.{first_from, is_around, node_above, root_node}
use Rattle.tn_counts.specs.declared.market.UnitMarket.{UnitMarket}
use Rattle.tn_counts.specs.declared.set.CountSet.{CountSet}

-- a set of firm f with trade t at a place
pub record IsAround (sets : List CountSet) (f t i : ℕ) : Type 0 where
  pub set : CountSet
  pub is : slice_get sets i ≡ Some set
  pub firm : f ≡ set.firm
  pub has : holds set t ≡ true

abbrev pub around_in : ℕ → ℕ → Option CountSet → Bool
around_in f t o = unwrap_or (option_map (λ set. f == set.firm && holds set t) o) false

pub around_parts : (sets : List CountSet) (f t i : ℕ) → is_around sets f t i ≡ true → IsAround sets f t i
around_parts sets f t i is = by (slice_get sets i) refl is
  where
    by : (o : Option CountSet) → slice_get sets i ≡ o → around_in f t o ≡ true → IsAround sets f t i
    by None at is = absurd (false≢true is)
    by (Some set) at is =
        let two = and_parts (f == set.firm) (holds set t) is in
        record { set = set; is = at; firm = eqb-true f set.firm two.0; has = two.1 }

pub around_from : (sets : List CountSet) (f t i : ℕ) → IsAround sets f t i → is_around sets f t i ≡ true
around_from sets f t i around =
    ap (around_in f t) around.is
    ∙ and_from (f == around.set.firm) (holds around.set t) (eq-eqb f around.set.firm around.firm) around.has

-- later sets of its firm have all trades of a set or none
same_around : (sets : List CountSet) (f s t i k : ℕ) → AreLaminar sets → IsAround sets f s i → IsAround sets f t i → i < k
    → is_around sets f s k ≡ is_around sets f t k
same_around sets f s t i k laminar first second later =
    same (is_around sets f s k) (is_around sets f t k) (over s t first second) (over t s second first)
  where
    over : (u v : ℕ) → IsAround sets f u i → IsAround sets f v i → is_around sets f u k ≡ true
        → is_around sets f v k ≡ true
    over u v one other is =
        let outer = around_parts sets f u k is in
        let same : one.set ≡ other.set = same_Some one.set other.set (sym one.is ∙ other.is) in
        around_from sets f v k (record {
          set = outer.set;
          is = outer.is;
          firm = outer.firm;
          has = laminar i k u v one.set outer.set later one.is outer.is (sym one.firm ∙ outer.firm) one.has outer.has
              (ap (λ (set : CountSet). holds set v) same ∙ other.has);
        })

    same : (a b : Bool) → (a ≡ true → b ≡ true) → (b ≡ true → a ≡ true) → a ≡ b
    same true b to from = sym (to refl)
    same false true to from = from refl
    same false false to from = refl

first_same : (sets : List CountSet) (f s t root n i : ℕ)
    → ((k : ℕ) → i ≤ k → is_around sets f s k ≡ is_around sets f t k)
    → first_from sets f s root n i ≡ first_from sets f t root n i
first_same sets f s t root zero i same = refl
first_same sets f s t root (suc n) i same =
    let rest = first_same sets f s t root n (suc i) (λ k later. same k (omega (arith, later))) in
    ap (λ (b : Bool). if b then i else first_from sets f s root n (suc i)) (same i (omega arith))
    ∙ ap (λ (k : ℕ). if is_around sets f t i then i else k) rest

-- where the first set is, or the root
pub first_within : (sets : List CountSet) (f t root n i : ℕ) → i + n ≤ root
    → (i ≤ first_from sets f t root n i) × (first_from sets f t root n i ≤ root)
first_within sets f t root zero i below = (omega (arith, below), omega arith)
first_within sets f t root (suc n) i below = elim (cases_Bool (is_around sets f t i)) [
  | inl inside ↦
      let found : first_from sets f t root (suc n) i ≡ i =
      ap (λ (b : Bool). if b then i else first_from sets f t root n (suc i)) inside in
      (omega (arith, found), omega (arith, found, below))
  | inr outside ↦
      let found : first_from sets f t root (suc n) i ≡ first_from sets f t root n (suc i) =
      ap (λ (b : Bool). if b then i else first_from sets f t root n (suc i)) outside in
      let later = first_within sets f t root n (suc i) (omega (arith, below)) in
      let low = later.0 in
      let high = later.1 in
      (omega (arith, found, low), omega (arith, found, high))
]

-- the node above a set is the first later one around any of its trades
pub above_is : (market : UnitMarket) (f t i : ℕ) → AreLaminar market.sets.items → (around : IsAround market.sets.items f t i)
    → node_above market i around.set.firm around.set.members.items
    ≡ first_from market.sets.items f t (root_node market f) (length market.sets.items - suc i) (suc i)
above_is market f t i laminar around = by around.set.members.items refl around.has
  where
    sets : List CountSet
    sets = market.sets.items

    by : (members : List ℕ) → around.set.members.items ≡ members → list_any (λ k. k == t) members ≡ true
        → node_above market i around.set.firm members
        ≡ first_from sets f t (root_node market f) (length sets - suc i) (suc i)
    by [] is has = absurd (false≢true has)
    by (s ∷ members) is has =
        let first : IsAround sets f s i = record {
          set = around.set;
          is = around.is;
          firm = around.firm;
          has = ap (list_any (λ k. k == s)) is ∙ or_left (s == s) (list_any (λ k. k == s) members) (eq-eqb s s refl);
        } in
        ap (λ (g : ℕ). first_from sets g s (root_node market g) (length sets - suc i) (suc i)) (sym around.firm)
        ∙ first_same sets f s t (root_node market f) (length sets - suc i) (suc i)
        (λ k later. same_around sets f s t i k laminar first around (omega (arith, later)))
