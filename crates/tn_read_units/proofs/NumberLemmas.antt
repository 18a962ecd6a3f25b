-- What sets add by their steps is what they add as they are written.
use Rattle.std.proofs.Common.{◌≡◌, ℕ, zero, suc, ◌+◌, ◌-◌, ◌<◌, ◌≤◌, refl, sym, ap, ap₂, ◌∙◌, arith, inl, inr, List, [], ◌∷◌, ◌++◌, length, get_or, ℤ, pos, neg_ℤ, ◌+ℤ◌, ◌-ℤ◌, ◌≤ℤ◌, Bool, true, false, if◌then◌else◌, nat_le, Option, Some, None}
use Rattle.std.specs.Prelude.{◌*ℤ◌, min, negsuc, unsigned_abs, map, option_map, reverse, slice_get, All, IfSome}
use Rattle.std.proofs.lemmas.Bool.{cases_lt}
use Rattle.std.proofs.lemmas.Grind.{reverse_onto}
use Rattle.std.proofs.lemmas.Int.{ints}
use Rattle.std.proofs.lemmas.List.{length-map, map-append}
use Rattle.std.proofs.lemmas.List.Elements.{All-append, All-cons, All-head, All-nil, All-tail, All-weaker}
use Rattle.std.proofs.lemmas.Option.{none-some, same_Some, slice_get-get_or, slice_get-map, slice_get_past, slice_get_within}
use Rattle.tn_base.specs.Arcs.{IsAtMost}
use Rattle.tn_counts.specs.Widths.{most_market_units, most_set_units, most_unit_amount}
use Rattle.tn_links.specs.Links.{AreFalling, rise, room}
use Rattle.tn_links.specs.declared.link.Step.{Step}
use Rattle.tn_read_units.specs.Checks.{steps_after}
use Rattle.tn_read_units.specs.Documents.{AreAroundNone, net_back, net_steps, turned}
use Rattle.tn_read_units.specs.Placed.{first_units, number_at_none, placed_steps}
use Rattle.tn_read_units.specs.Steps.{AreSteps, IsStep}
use Rattle.tn_read_units.proofs.FallLemmas.{all-back}
use Rattle.tn_read_units.specs.Limits.{most_number}
use Rattle.tn_read_units.specs.Sets.{SetNumbers}
use Rattle.tn_read_units.specs.Worths.{number_at_place, number_by_steps, number_of}
use Rattle.tn_read_units.proofs.StepLemmas.{back, back-cons, rise-append, rise-back, room-append, room-back}

-- what steps with a constant add so many units above the fewest
abbrev pub level_number : List Step → ℕ → ℤ → ℤ → Option ℤ
level_number steps back constant (pos level) =
    if nat_le level (room steps) then Some (constant +ℤ (rise steps level -ℤ rise steps back)) else None
level_number steps back constant (negsuc k) = None

rise-none : (steps : List Step) → rise steps 0 ≡ pos 0
rise-none [] = refl
rise-none (step ∷ steps) =
    let rest : rise steps (0 - step.units) ≡ rise steps 0 = ap (rise steps) (omega arith) in
    let first : step.each *ℤ pos (min 0 step.units) ≡ step.each *ℤ pos 0 =
    ap (λ (n : ℕ). step.each *ℤ pos n) (omega arith) in
    omega (arith, ints, rest, rise-none steps, first)

pub room-after : (before : ℤ) (numbers : List ℤ) → room (steps_after (Some before) numbers) ≡ length numbers
room-after before [] = refl
room-after before (number ∷ numbers) = omega (arith, room-after number numbers)

rise-after : (before : ℤ) (numbers : List ℤ) (k : ℕ) (z : ℤ) → slice_get (before ∷ numbers) k ≡ Some z
    → rise (steps_after (Some before) numbers) k ≡ z -ℤ before
rise-after before numbers zero z is =
    let same = same_Some before z is in
    omega (arith, ints, rise-none (steps_after (Some before) numbers), same)
rise-after before [] (suc k) z is = absurd (none-some z is)
rise-after before (number ∷ numbers) (suc k) z is =
    let rest = rise-after number numbers k z is in
    let left : rise (steps_after (Some number) numbers) (suc k - 1) ≡ rise (steps_after (Some number) numbers) k =
    ap (rise (steps_after (Some number) numbers)) (omega arith) in
    let first : (number -ℤ before) *ℤ pos (min (suc k) 1) ≡ (number -ℤ before) *ℤ pos 1 =
    ap (λ (n : ℕ). (number -ℤ before) *ℤ pos n) (omega arith) in
    omega (arith, ints, rest, left, first)

small-after : (before : ℤ) (numbers : List ℤ) → IsAtMost before most_number → All (λ z. IsAtMost z most_number) numbers
    → All (λ step. IsAtMost step.each most_unit_amount) (steps_after (Some before) numbers)
small-after before [] first all = All-nil (λ (s : Step). IsAtMost s.each most_unit_amount)
small-after before (number ∷ numbers) first all =
    let next = All-head (λ (z : ℤ). IsAtMost z most_number) number numbers all in
    All-cons (λ (s : Step). IsAtMost s.each most_unit_amount) (record { units = 1; each = number -ℤ before })
    (steps_after (Some number) numbers)
    (record { low = omega (arith, ints, first.high, next.low); high = omega (arith, ints, first.low, next.high) })
    (small-after number numbers next (All-tail (λ (z : ℤ). IsAtMost z most_number) number numbers all))

pub room-numbers : (numbers : List ℤ) → room (steps_after None numbers) ≡ length numbers - 1
room-numbers [] = refl
room-numbers (number ∷ numbers) = omega (arith, room-after number numbers)

pub small-numbers : (numbers : List ℤ) → All (λ z. IsAtMost z most_number) numbers
    → All (λ step. IsAtMost step.each most_unit_amount) (steps_after None numbers)
small-numbers [] all = All-nil (λ (s : Step). IsAtMost s.each most_unit_amount)
small-numbers (number ∷ numbers) all =
    small-after number numbers (All-head (λ (z : ℤ). IsAtMost z most_number) number numbers all)
    (All-tail (λ (z : ℤ). IsAtMost z most_number) number numbers all)

-- a test that holds, and one that fails
le_yes : {A : Type 0} (n m : ℕ) (x y : A) → n ≤ m → (if nat_le n m then x else y) ≡ x
le_yes n m x y order = let yes : nat_le n m ≡ true = grind (arith, order) in ap (λ (b : Bool). if b then x else y) yes

le_no : {A : Type 0} (n m : ℕ) (x y : A) → m < n → (if nat_le n m then x else y) ≡ y
le_no n m x y order = let no : nat_le n m ≡ false = grind (arith, order) in ap (λ (b : Bool). if b then x else y) no

-- a number at a level
at_level : (first : ℤ) (numbers : List ℤ) (back k : ℕ) (constant : ℤ) → back ≤ length numbers
    → constant ≡ get_or (first ∷ numbers) back (pos 0)
    → level_number (steps_after None (first ∷ numbers)) back constant (pos k) ≡ slice_get (first ∷ numbers) k
at_level first numbers back k constant around is = elim (cases_lt (length numbers) k) [
  | inl past ↦
      let more : room (steps_after (Some first) numbers) < k = omega (arith, room-after first numbers, past) in
      le_no k (room (steps_after (Some first) numbers)) (Some (constant
      +ℤ (rise (steps_after (Some first) numbers) k -ℤ rise (steps_after (Some first) numbers) back))) None more
      ∙ sym (slice_get_past (first ∷ numbers) k (omega (arith, past)))
  | inr inside ↦
      let few : k ≤ room (steps_after (Some first) numbers) = omega (arith, room-after first numbers, inside) in
      let number = get_or (first ∷ numbers) k (pos 0) in
      let there : slice_get (first ∷ numbers) k ≡ Some number =
      slice_get-get_or (first ∷ numbers) k (pos 0) (omega (arith, inside)) in
      let none : slice_get (first ∷ numbers) back ≡ Some (get_or (first ∷ numbers) back (pos 0)) =
      slice_get-get_or (first ∷ numbers) back (pos 0) (omega (arith, around)) in
      let here = rise-after first numbers k number there in
      let at_none = rise-after first numbers back (get_or (first ∷ numbers) back (pos 0)) none in
      let sum : constant +ℤ (rise (steps_after (Some first) numbers) k -ℤ rise (steps_after (Some first) numbers) back)
      ≡ number = omega (arith, ints, here, at_none, is) in
      le_yes k (room (steps_after (Some first) numbers)) (Some (constant
      +ℤ (rise (steps_after (Some first) numbers) k -ℤ rise (steps_after (Some first) numbers) back))) None few
      ∙ ap Some sum ∙ sym there
]

-- numbers from a net count on, which is 0 or below
pub by_numbers : (set : SetNumbers) (constant net : ℤ) → set.low ≤ℤ pos 0
    → unsigned_abs set.low < length set.numbers → constant ≡ get_or set.numbers (unsigned_abs set.low) (pos 0)
    → level_number (steps_after None set.numbers) (unsigned_abs set.low) constant (net +ℤ pos (unsigned_abs set.low))
    ≡ number_at_place set.numbers (net -ℤ set.low)
by_numbers set constant net from inside is =
    ap (level_number (steps_after None set.numbers) (unsigned_abs set.low) constant) (omega (arith, ints, from))
    ∙ by set.numbers (net -ℤ set.low) inside is
  where
    by : (numbers : List ℤ) (place : ℤ) → unsigned_abs set.low < length numbers
        → constant ≡ get_or numbers (unsigned_abs set.low) (pos 0)
        → level_number (steps_after None numbers) (unsigned_abs set.low) constant place ≡ number_at_place numbers place
    by [] place inside is = absurd (omega (arith, inside))
    by (first ∷ numbers) (pos k) inside is =
        at_level first numbers (unsigned_abs set.low) k constant (omega (arith, inside)) is
    by (first ∷ numbers) (negsuc k) inside is = refl

-- what the first units of both add
rise-joined : (bought sold : List Step) (level : ℕ) → rise (back sold ++ bought) level
    ≡ (rise sold (room sold - level) -ℤ rise sold (room sold)) +ℤ rise bought (level - room sold)
rise-joined bought sold level =
    let same : rise bought (level - room (back sold)) ≡ rise bought (level - room sold) =
    ap (λ (r : ℕ). rise bought (level - r)) (room-back sold) in
    omega (arith, ints, rise-append (back sold) bought level, rise-back sold level, same)

pub room-joined : (bought sold : List Step) → room (back sold ++ bought) ≡ room sold + room bought
room-joined bought sold = omega (arith, room-append (back sold) bought, room-back sold)

-- what units above those sold add
above_none : (bought sold : List Step) (n : ℕ)
    → pos 0 +ℤ (rise (back sold ++ bought) (n + room sold) -ℤ rise (back sold ++ bought) (room sold)) ≡ rise bought n
above_none bought sold n =
    let here = rise-joined bought sold (n + room sold) in
    let at_none = rise-joined bought sold (room sold) in
    let first : rise sold (room sold - (n + room sold)) ≡ rise sold (room sold - room sold) =
    ap (rise sold) (omega arith) in
    let more : rise bought (n + room sold - room sold) ≡ rise bought n = ap (rise bought) (omega arith) in
    let none : rise bought (room sold - room sold) ≡ rise bought 0 = ap (rise bought) (omega arith) in
    omega (arith, ints, here, at_none, first, more, none, rise-none bought)

below_none : (bought sold : List Step) (n : ℕ) → n ≤ room sold
    → pos 0 +ℤ (rise (back sold ++ bought) (room sold - n) -ℤ rise (back sold ++ bought) (room sold)) ≡ rise sold n
below_none bought sold n few =
    let here = rise-joined bought sold (room sold - n) in
    let at_none = rise-joined bought sold (room sold) in
    let first : rise sold (room sold - (room sold - n)) ≡ rise sold n = ap (rise sold) (omega (arith, few)) in
    let least : rise sold (room sold - room sold) ≡ rise sold 0 = ap (rise sold) (omega arith) in
    let more : rise bought (room sold - n - room sold) ≡ rise bought (room sold - room sold) =
    ap (rise bought) (omega arith) in
    omega (arith, ints, here, at_none, first, least, more, rise-none sold)

at_bought : (bought sold : List Step) (n : ℕ)
    → level_number (back sold ++ bought) (room sold) (pos 0) (pos (n + room sold)) ≡ number_by_steps bought n
at_bought bought sold n = elim (cases_lt (room bought) n) [
  | inl past ↦
      let more : room (back sold ++ bought) < n + room sold = omega (arith, room-joined bought sold, past) in
      le_no (n + room sold) (room (back sold ++ bought)) (Some (pos 0
      +ℤ (rise (back sold ++ bought) (n + room sold) -ℤ rise (back sold ++ bought) (room sold)))) None more
      ∙ sym (le_no n (room bought) (Some (rise bought n)) None past)
  | inr few ↦
      let inside : n + room sold ≤ room (back sold ++ bought) = omega (arith, room-joined bought sold, few) in
      le_yes (n + room sold) (room (back sold ++ bought)) (Some (pos 0
      +ℤ (rise (back sold ++ bought) (n + room sold) -ℤ rise (back sold ++ bought) (room sold)))) None inside
      ∙ ap Some (above_none bought sold n) ∙ sym (le_yes n (room bought) (Some (rise bought n)) None few)
]

at_sold : (bought sold : List Step) (n : ℕ) → n ≤ room sold
    → level_number (back sold ++ bought) (room sold) (pos 0) (pos (room sold - n)) ≡ number_by_steps sold n
at_sold bought sold n few =
    let inside : room sold - n ≤ room (back sold ++ bought) = omega (arith, room-joined bought sold) in
    le_yes (room sold - n) (room (back sold ++ bought)) (Some (pos 0
    +ℤ (rise (back sold ++ bought) (room sold - n) -ℤ rise (back sold ++ bought) (room sold)))) None inside
    ∙ ap Some (below_none bought sold n few) ∙ sym (le_yes n (room sold) (Some (rise sold n)) None few)

-- steps of units bought, and steps of units sold
pub by_steps : (bought sold : List Step) (net : ℤ)
    → level_number (back sold ++ bought) (room sold) (pos 0) (net +ℤ pos (room sold)) ≡ number_of None bought sold net
by_steps bought sold (pos n) =
    let level : pos n +ℤ pos (room sold) ≡ pos (n + room sold) = omega (arith, ints) in
    ap (level_number (back sold ++ bought) (room sold) (pos 0)) level ∙ at_bought bought sold n
by_steps bought sold (negsuc k) = elim (cases_lt (room sold) (suc k)) [
  | inl past ↦
      let below : negsuc k +ℤ pos (room sold) ≡ negsuc (k - room sold) = omega (arith, ints, past) in
      ap (level_number (back sold ++ bought) (room sold) (pos 0)) below
      ∙ sym (le_no (suc k) (room sold) (Some (rise sold (suc k))) None past)
  | inr few ↦
      let level : negsuc k +ℤ pos (room sold) ≡ pos (room sold - suc k) = omega (arith, ints, few) in
      ap (level_number (back sold ++ bought) (room sold) (pos 0)) level ∙ at_sold bought sold (suc k) few
]

-- the first units of steps
pub room-first : (most : ℕ) (steps : List Step) → room (first_units most steps) ≡ min (room steps) most
room-first most [] = omega arith
room-first most (step ∷ steps) = omega (arith, room-first (most - step.units) steps)

rise-first : (most : ℕ) (steps : List Step) (n : ℕ) → n ≤ most → rise (first_units most steps) n ≡ rise steps n
rise-first most [] n few = refl
rise-first most (step ∷ steps) n few =
    let same : step.each *ℤ pos (min n (min step.units most)) ≡ step.each *ℤ pos (min n step.units) =
    ap (λ (k : ℕ). step.each *ℤ pos k) (omega (arith, few)) in
    let left : rise (first_units (most - step.units) steps) (n - min step.units most)
    ≡ rise (first_units (most - step.units) steps) (n - step.units) =
    ap (rise (first_units (most - step.units) steps)) (omega (arith, few)) in
    let rest = rise-first (most - step.units) steps (n - step.units) (omega (arith, few)) in
    omega (arith, ints, same, left, rest)

number-first : (most : ℕ) (steps : List Step) (n : ℕ) → n ≤ most
    → number_by_steps (first_units most steps) n ≡ number_by_steps steps n
number-first most steps n few = elim (cases_lt (room steps) n) [
  | inl past ↦
      le_no n (room (first_units most steps)) (Some (rise (first_units most steps) n)) None
      (omega (arith, room-first most steps, past))
      ∙ sym (le_no n (room steps) (Some (rise steps n)) None past)
  | inr inside ↦
      le_yes n (room (first_units most steps)) (Some (rise (first_units most steps) n)) None
      (omega (arith, room-first most steps, inside, few))
      ∙ ap Some (rise-first most steps n few) ∙ sym (le_yes n (room steps) (Some (rise steps n)) None inside)
]

-- within so many units to either side nothing else counts
pub number_of-first : (numbers : Option SetNumbers) (bought sold : List Step) (most : ℕ) (net : ℤ) → IsAtMost net most
    → number_of numbers (first_units most bought) (first_units most sold) net ≡ number_of numbers bought sold net
number_of-first (Some set) bought sold most net small = refl
number_of-first None bought sold most (pos n) small = number-first most bought n (omega (arith, ints, small.high))
number_of-first None bought sold most (negsuc k) small = number-first most sold (suc k) (omega (arith, ints, small.low))

-- what each unit of steps adds
abbrev eaches : List Step → List ℤ
eaches steps = map (λ step. step.each) steps

eaches-first : (most : ℕ) (steps : List Step) → eaches (first_units most steps) ≡ eaches steps
eaches-first most [] = refl
eaches-first most (step ∷ steps) = ap (λ (zs : List ℤ). step.each ∷ zs) (eaches-first (most - step.units) steps)

eaches-back : (xs ys : List Step) → eaches xs ≡ eaches ys → eaches (back xs) ≡ eaches (back ys)
eaches-back xs ys same = turned_round xs ∙ ap (λ (zs : List ℤ). reverse (map neg_ℤ zs)) same ∙ sym (turned_round ys)
  where
    turned_round : (zs : List Step) → eaches (back zs) ≡ reverse (map neg_ℤ (eaches zs))
    turned_round [] = refl
    turned_round (z ∷ zs) =
        ap eaches (back-cons z zs) ∙ map-append (λ (s : Step). s.each) (back zs) (turned z ∷ [])
        ∙ ap (λ (l : List ℤ). l ++ neg_ℤ z.each ∷ []) (turned_round zs)
        ∙ sym (reverse_onto (map neg_ℤ (eaches zs)) (neg_ℤ z.each) [])

-- steps that add the same fall alike
falling_same : (xs ys : List Step) → eaches xs ≡ eaches ys → AreFalling ys → AreFalling xs
falling_same xs ys same falling i k a b less first second =
    let one = each_at i a first in
    let two = each_at k b second in
    let order = falling i k one.0 two.0 less one.1 two.1 in
    omega (arith, ints, order, one.2, two.2)
  where
    each_at : (j : ℕ) (s : Step) → slice_get xs j ≡ Some s
        → (other : Step) × (slice_get ys j ≡ Some other) × (other.each ≡ s.each)
    each_at j s is =
        let inside : j < length ys = omega (
          arith,
          slice_get_within xs j s is,
          length-map xs (λ (t : Step). t.each),
          length-map ys (λ (t : Step). t.each),
          ap length same,
        ) in
        let other = get_or ys j s in
        let there : slice_get ys j ≡ Some other = slice_get-get_or ys j s inside in (
          other,
          there,
          same_Some other.each s.each (
              sym (slice_get-map (λ (t : Step). t.each) ys j ∙ ap (option_map (λ (t : Step). t.each)) there)
              ∙ ap (λ (zs : List ℤ). slice_get zs j) (sym same)
              ∙ slice_get-map (λ (t : Step). t.each) xs j ∙ ap (option_map (λ (t : Step). t.each)) is),
        )

pub falling-first : (numbers : Option SetNumbers) (bought sold : List Step) (most : ℕ)
    → AreFalling (net_steps numbers bought sold)
    → AreFalling (net_steps numbers (first_units most bought) (first_units most sold))
falling-first (Some set) bought sold most falling = falling
falling-first None bought sold most falling =
    falling_same (back (first_units most sold) ++ first_units most bought) (back sold ++ bought)
    (map-append (λ (s : Step). s.each) (back (first_units most sold)) (first_units most bought)
    ∙ ap₂ (λ (xs ys : List ℤ). xs ++ ys) (eaches-back (first_units most sold) sold (eaches-first most sold))
    (eaches-first most bought)
    ∙ sym (map-append (λ (s : Step). s.each) (back sold) bought)) falling

pub around-first : (numbers : Option SetNumbers) (bought sold : List Step) (most : ℕ)
    → net_back numbers sold ≤ room (net_steps numbers bought sold)
    → net_back numbers (first_units most sold) ≤ room (net_steps numbers (first_units most bought)
    (first_units most sold))
around-first (Some set) bought sold most around = around
around-first None bought sold most around =
    omega (arith, room-joined (first_units most bought) (first_units most sold))

-- how many units there are at most, and how much each adds
pub room_few : (numbers : Option SetNumbers) (bought sold : List Step) → IfSome numbers AreAroundNone
    → room (placed_steps numbers bought sold) ≤ most_set_units
room_few (Some set) bought sold around = omega (arith, room-numbers set.numbers, around.are.few)
room_few None bought sold around =
    omega (
      arith,
      room-joined (first_units most_market_units bought) (first_units most_market_units sold),
      room-first most_market_units bought,
      room-first most_market_units sold,
    )

abbrev AreSmallSteps : List Step → Type 0
AreSmallSteps steps = All (λ step. IsAtMost step.each most_number) steps

small-first : (most : ℕ) (steps : List Step) → AreSmallSteps steps → AreSmallSteps (first_units most steps)
small-first most [] all = all
small-first most (step ∷ steps) all =
    All-cons (λ (s : Step). IsAtMost s.each most_number) (record { units = min step.units most; each = step.each })
    (first_units (most - step.units) steps) (All-head (λ (s : Step). IsAtMost s.each most_number) step steps all)
    (small-first (most - step.units) steps (All-tail (λ (s : Step). IsAtMost s.each most_number) step steps all))

pub small_steps : (numbers : Option SetNumbers) (bought sold : List Step) → IfSome numbers AreAroundNone
    → AreSteps bought
    → AreSteps sold → All (λ step. IsAtMost step.each most_unit_amount) (placed_steps numbers bought sold)
small_steps (Some set) bought sold around first second = small-numbers set.numbers around.are.small
small_steps None bought sold around first second =
    All-append (λ (s : Step). IsAtMost s.each most_unit_amount) (back (first_units most_market_units sold))
    (first_units most_market_units bought)
    (all-back (λ (s : Step). IsAtMost s.each most_unit_amount) (first_units most_market_units sold)
    (All-weaker (λ (s : Step). IsAtMost s.each most_number) (λ (s : Step). IsAtMost (turned s).each most_unit_amount)
    (λ s small. record { low = omega (arith, ints, small.high); high = omega (arith, ints, small.low) })
    (first_units most_market_units sold) (small-first most_market_units sold (small_of sold second))))
    (All-weaker (λ (s : Step). IsAtMost s.each most_number) (λ (s : Step). IsAtMost s.each most_unit_amount)
    (λ s small. record { low = omega (arith, ints, small.low); high = omega (arith, ints, small.high) })
    (first_units most_market_units bought) (small-first most_market_units bought (small_of bought first)))
  where
    small_of : (steps : List Step) → AreSteps steps → AreSmallSteps steps
    small_of steps are =
        All-weaker IsStep (λ (s : Step). IsAtMost s.each most_number) (λ s is. is.small) steps are.each

pub small_number : (numbers : Option SetNumbers) → IfSome numbers AreAroundNone
    → IsAtMost (number_at_none numbers) most_unit_amount
small_number None around = record { low = omega (arith, ints); high = omega (arith, ints) }
small_number (Some set) around =
    let small = around.are.small (unsigned_abs set.low) (pos 0) around.inside in
    record { low = omega (arith, ints, small.low); high = omega (arith, ints, small.high) }
