-- The first set around a trade, set by set.
use Rattle.std.proofs.Common.{◌≡◌, ℕ, suc, ◌+◌, ◌-◌, ◌<◌, Bool, true, false, ◌==◌, ◌&&◌, if◌then◌else◌, List, [], ◌∷◌, length, get_or, refl, Option, option_map, ap, ◌∙◌, arith}
use Rattle.std.specs.Prelude.{unwrap_or}
use Rattle.std.proofs.lemmas.Option.{slice_get_read}
use Rattle.tn_counts.specs.Laminar.{holds}
use Rattle.tn_counts.specs.Tree.{first_from, is_around, node_above, root_node}
use Rattle.tn_counts.specs.declared.market.UnitMarket.{UnitMarket}
use Rattle.tn_counts.specs.declared.set.CountSet.{CountSet}

around_is : (sets : List CountSet) (f t i : ℕ) (set : CountSet) (b : Bool) → i < length sets → set ≡ get_or sets i set
    → (f == set.firm && holds set t) ≡ b → is_around sets f t i ≡ b
around_is sets f t i set b inside at is =
    ap (λ (o : Option CountSet). unwrap_or (option_map (λ s. f == s.firm && holds s t) o) false)
    (slice_get_read sets (length sets) i set refl inside at) ∙ is

first_here : (sets : List CountSet) (f t root i : ℕ) → i < length sets
    → first_from sets f t root (length sets - i) i
    ≡ (if is_around sets f t i then i else first_from sets f t root (length sets - (i + 1)) (i + 1))
first_here sets f t root i inside =
    let next : suc i ≡ i + 1 = omega arith in
    let left : length sets - i ≡ suc (length sets - (i + 1)) = omega (arith, inside) in
    ap (λ (n : ℕ). first_from sets f t root n i) left
    ∙ ap (λ (k : ℕ). if is_around sets f t i then i else first_from sets f t root (length sets - (i + 1)) k) next

-- a set that isn't around the trade is passed, and one that is is the first
pub first_skips : (sets : List CountSet) (f t root i : ℕ) (set : CountSet) → i < length sets → set ≡ get_or sets i set
    → (f == set.firm && holds set t) ≡ false
    → first_from sets f t root (length sets - i) i ≡ first_from sets f t root (length sets - (i + 1)) (i + 1)
first_skips sets f t root i set inside at is =
    first_here sets f t root i inside
    ∙ ap (λ (b : Bool). if b then i else first_from sets f t root (length sets - (i + 1)) (i + 1))
    (around_is sets f t i set false inside at is)

pub first_found : (sets : List CountSet) (f t root i : ℕ) (set : CountSet) → i < length sets → set ≡ get_or sets i set
    → (f == set.firm && holds set t) ≡ true → first_from sets f t root (length sets - i) i ≡ i
first_found sets f t root i set inside at is =
    first_here sets f t root i inside
    ∙ ap (λ (b : Bool). if b then i else first_from sets f t root (length sets - (i + 1)) (i + 1))
    (around_is sets f t i set true inside at is)

-- past the last set there is the root
pub first_none : (sets : List CountSet) (f t root i : ℕ) → length sets ≡ i → first_from sets f t root (length sets - i) i ≡ root
first_none sets f t root i past =
    let left : length sets - i ≡ 0 = omega (arith, past) in
    ap (λ (n : ℕ). first_from sets f t root n i) left

-- the node above a set, by its first trade
pub above_first : (market : UnitMarket) (i f : ℕ) (members : List ℕ) (sets : List CountSet) (trade root found : ℕ)
    → found ≡ first_from sets f trade root (length sets - (i + 1)) (i + 1) → sets ≡ market.sets.items
    → root ≡ root_node market f → trade ≡ get_or members 0 trade → 0 < length members
    → found ≡ node_above market i f members
above_first market i f [] sets trade root found is same at_root first some = absurd (omega (arith, some))
above_first market i f (t ∷ members) sets trade root found is same at_root first some =
    let next : i + 1 ≡ suc i = omega arith in
    is ∙ ap (λ (xs : List CountSet). first_from xs f trade root (length xs - (i + 1)) (i + 1)) same
    ∙ ap (λ (r : ℕ). first_from market.sets.items f trade r (length market.sets.items - (i + 1)) (i + 1)) at_root
    ∙ ap (λ (s : ℕ). first_from market.sets.items f s (root_node market f) (length market.sets.items - (i + 1)) (i + 1)) first
    ∙ ap (λ (k : ℕ). first_from market.sets.items f t (root_node market f) (length market.sets.items - k) k) next

pub above_none : (market : UnitMarket) (i f : ℕ) (members : List ℕ) → length members ≡ 0
    → root_node market f ≡ node_above market i f members
above_none market i f [] none = refl
above_none market i f (t ∷ members) none = absurd (omega (arith, none))
