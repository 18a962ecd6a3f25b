-- One pair more keeps exchange: where a worth exchanges over places, so does the better of it without and with one more
-- pair of trades.
--
-- Which bundle is on the up side is left open here: what holds of the two trades of the pair holds with the sides
-- turned round and the two trades swapped, so that one proof serves where x has the pair and where y has it.
use Rattle.std.proofs.Common.{◌≡◌, ◌≢◌, ℕ, ◌<◌, ◌≤◌, Bool, true, false, not, sym, ap, ◌∙◌, subst, arith, inl, inr, Option, Some, ℤ, ◌+ℤ◌, ◌-ℤ◌, ◌≤ℤ◌}
use Rattle.std.proofs.lemmas.Int.{ints}
use Rattle.std.proofs.lemmas.Bool.{cases_eq, cases_Bool, false≢true}
use Rattle.std.proofs.lemmas.Option.{same_Some}
use Rattle.tn_base.specs.Sets.{has}
use Rattle.tn_firm_laws.specs.Places.{move}
use Rattle.tn_firm_laws.specs.Worths.{IsWorth}
use Rattle.tn_firm_laws.proofs.MoveLemmas.{move-order, move-through, move-same, move-twice, move-over, move-last, move-first_again, move-first_last, has_move-other, has_move-first, has_move-second}

-- some place of the down side can be toggled in both bundles beside place i
pub record Swap (n : ℕ) (Up : ℕ → ℕ → ℕ → Type 0) (worth : ℕ → Option ℤ) (x y : ℕ) (total : ℤ) (i : ℕ) : Type 0 where
  pub at : ℕ
  pub is_place : at ≤ n
  pub is_down : Up y x at
  pub first : ℤ
  pub second : ℤ
  pub first_is : worth (move n x i at) ≡ Some first
  pub second_is : worth (move n y i at) ≡ Some second
  pub enough : total ≤ℤ (first +ℤ second)

abbrev pub Swaps : ℕ → (ℕ → ℕ → ℕ → Type 0) → (ℕ → Option ℤ) → Type 0
Swaps n Up worth = (x y : ℕ) (a b : ℤ) → worth x ≡ Some a → worth y ≡ Some b → (i : ℕ) → i ≤ n → Up x y i
    → Swap n Up worth x y (a +ℤ b) i

-- one worth is at least another, and at least what that is without both trades of a pair, less its cost
pub record HasOneMore (n : ℕ) (worth more : ℕ → Option ℤ) (f g : ℕ) (cost : ℤ) : Type 0 where
  pub without : (x : ℕ) (a : ℤ) → worth x ≡ Some a → IsWorth more x a
  pub paired : (x : ℕ) (a : ℤ) → has x f ≡ true → has x g ≡ true → worth (move n x f g) ≡ Some a
      → IsWorth more x (a -ℤ cost)

-- what the sides know of the two trades of a pair: f is on the up side where x alone has it, g where y alone has it
pub record HasSides (n : ℕ) (Up : ℕ → ℕ → ℕ → Type 0) (f g : ℕ) : Type 0 where
  pub first_own : f < n
  pub second_own : g < n
  pub apart : f ≢ g
  pub first_up : (x y : ℕ) → has x f ≡ true → has y f ≡ false → Up x y f
  pub first_only : (x y : ℕ) → Up x y f → (has x f ≡ true) × (has y f ≡ false)
  pub second_up : (x y : ℕ) → has x g ≡ false → has y g ≡ true → Up x y g
  pub second_only : (x y : ℕ) → Up x y g → (has x g ≡ false) × (has y g ≡ true)
  -- a bundle without both has the sides that it had, elsewhere
  pub taken : (x y k : ℕ) → k ≤ n → has x f ≡ true → has x g ≡ true → k ≢ f → k ≢ g
      → (Up x y k → Up (move n x f g) y k) × (Up y (move n x f g) k → Up y x k)
  -- and so have the two bundles that swapped a place for one trade each
  pub swapped : (x y i k : ℕ) → i ≤ n → k ≤ n → Up x y i → i ≢ f → i ≢ g → has x g ≡ true → has y f ≡ true → k ≢ i
      → k ≢ f → k ≢ g
      → Up (move n y i f) (move n x i g) k → Up y x k

pub record OneMore (n : ℕ) (Up : ℕ → ℕ → ℕ → Type 0) (worth more : ℕ → Option ℤ) (f g : ℕ) (cost : ℤ) : Type 0 where
  pub sides : HasSides n Up f g
  pub has_more : HasOneMore n worth more f g cost
  pub swaps : Swaps n Up worth

-- x has both trades of the pair, and a is its worth without them; b is y's worth
pub record IsMixed (n : ℕ) (worth : ℕ → Option ℤ) (f g x y : ℕ) (a b : ℤ) : Type 0 where
  pub has_first : has x f ≡ true
  pub has_second : has x g ≡ true
  pub first_is : worth (move n x f g) ≡ Some a
  pub second_is : worth y ≡ Some b

pub swap_of : (n : ℕ) (Up : ℕ → ℕ → ℕ → Type 0) (more : ℕ → Option ℤ) (x y : ℕ) (total : ℤ) (i at : ℕ) (a b : ℤ)
    → at ≤ n → Up y x at
    → IsWorth more (move n x i at) a → IsWorth more (move n y i at) b → total ≤ℤ (a +ℤ b) → Swap n Up more x y total i
swap_of n Up more x y total i at a b place down first second enough =
    let p = first.enough in
    let q = second.enough in
    record {
      at = at;
      is_place = place;
      is_down = down;
      first = first.value;
      second = second.value;
      first_is = first.is;
      second_is = second.is;
      enough = omega (arith, ints, p, q, enough);
    }

not_both : (b : Bool) → b ≡ true → b ≡ false → ⊥
not_both b p q = false≢true (sym q ∙ p)

-- the place is the pair's first trade, which y doesn't have
mixed_first : (n : ℕ) (Up : ℕ → ℕ → ℕ → Type 0) (worth more : ℕ → Option ℤ) (f g : ℕ) (cost : ℤ)
    → OneMore n Up worth more f g cost
    → (x y : ℕ) (a b : ℤ) → IsMixed n worth f g x y a b → has y f ≡ false → Swap n Up more x y ((a -ℤ cost) +ℤ b) f
mixed_first n Up worth more f g cost one x y a b mixed y_first = elim (cases_Bool (has y g)) [
  | inr none ↦
      swap_of n Up more x y _ f g a (b -ℤ cost) (omega (arith, g_own)) (sides.second_up y x none mixed.has_second)
      (one.has_more.without (move n x f g) a mixed.first_is)
      (one.has_more.paired (move n y f g) b
      (has_move-first n y f g sides.first_own sides.apart ∙ ap not y_first)
      (has_move-second n y f g sides.second_own g_apart ∙ ap not none)
      (ap worth (move-twice n y f g) ∙ mixed.second_is))
      (omega (arith, ints))
  | inl there ↦
      let x_second : has (move n x f g) g ≡ false = has_move-second n x f g sides.second_own g_apart
      ∙ ap not mixed.has_second in
      let swap = one.swaps (move n x f g) y a b mixed.first_is mixed.second_is g (omega (arith, g_own))
      (sides.second_up (move n x f g) y x_second there) in
      let not_second : swap.at ≢ g =
      λ e. not_both (has y g) there (sides.second_only y (move n x f g)
      (subst (Up y (move n x f g)) e swap.is_down)).0 in
      let not_first : swap.at ≢ f =
      λ e. not_both (has y f) (sides.first_only y (move n x f g) (subst (Up y (move n x f g)) e swap.is_down)).0
      y_first in
      swap_of n Up more x y _ f swap.at swap.first (swap.second -ℤ cost) swap.is_place
      ((sides.taken x y swap.at swap.is_place mixed.has_first mixed.has_second not_first not_second).1 swap.is_down)
      (one.has_more.without (move n x f swap.at) swap.first (ap worth (sym (move-through n x f g swap.at))
      ∙ swap.first_is))
      (one.has_more.paired (move n y f swap.at) swap.second
      (has_move-first n y f swap.at sides.first_own (λ e. not_first (sym e)) ∙ ap not y_first)
      (has_move-other n y f swap.at g g_apart (λ e. not_second (sym e)) ∙ there)
      (ap worth (move-first_again n y f swap.at g ∙ move-order n y swap.at g) ∙ swap.second_is))
      (let enough = swap.enough in omega (arith, ints, enough))
]
  where
    sides : HasSides n Up f g
    sides = one.sides

    g_own : g < n
    g_own = sides.second_own

    g_apart : g ≢ f
    g_apart = λ e. sides.apart (sym e)

-- a swap of the worth is one of the worth with a pair more
pub more_swap : (n : ℕ) (Up : ℕ → ℕ → ℕ → Type 0) (worth more : ℕ → Option ℤ) (f g : ℕ) (cost : ℤ)
    → HasOneMore n worth more f g cost
    → (x y : ℕ) (total : ℤ) (i : ℕ) (sum : ℤ) → total ≤ℤ sum → Swap n Up worth x y sum i → Swap n Up more x y total i
more_swap n Up worth more f g cost has_more x y total i sum enough swap =
    swap_of n Up more x y total i swap.at swap.first swap.second swap.is_place swap.is_down
    (has_more.without _ swap.first swap.first_is) (has_more.without _ swap.second swap.second_is)
    (let p = swap.enough in omega (arith, ints, p, enough))

-- both bundles swapped the place for a trade of the pair, and y has the other one too
mixed_again : (n : ℕ) (Up : ℕ → ℕ → ℕ → Type 0) (worth more : ℕ → Option ℤ) (f g : ℕ) (cost : ℤ)
    → OneMore n Up worth more f g cost
    → (x y : ℕ) (a b : ℤ) → IsMixed n worth f g x y a b → more y ≡ Some b → (i : ℕ) → i ≤ n → i ≢ f → i ≢ g → Up x y i
    → has y f ≡ true → has y g ≡ true → (a1 b1 : ℤ) → worth (move n x i g) ≡ Some a1 → worth (move n y i f) ≡ Some b1
    → (a +ℤ b) ≤ℤ (a1 +ℤ b1)
    → Swap n Up more x y ((a -ℤ cost) +ℤ b) i
mixed_again n Up worth more f g cost one x y a b mixed best i within i_first i_second i_up y_first y_second a1 b1
    first_is second_is enough =
    let x_none : has (move n x i g) g ≡ false = has_move-second n x i g sides.second_own (λ e. i_second (sym e))
    ∙ ap not mixed.has_second in
    let y_there : has (move n y i f) g ≡ true =
    has_move-other n y i f g (λ e. i_second (sym e)) (λ e. sides.apart (sym e)) ∙ y_second in
    let y_none : has (move n y i f) f ≡ false = has_move-second n y i f sides.first_own (λ e. i_first (sym e))
    ∙ ap not y_first in
    let swap = one.swaps (move n x i g) (move n y i f) a1 b1 first_is second_is g (let p = sides.second_own in
    omega (arith, p))
    (sides.second_up (move n x i g) (move n y i f) x_none y_there) in
    let not_second : swap.at ≢ g =
    λ e. not_both (has (move n y i f) g) y_there (sides.second_only (move n y i f) (move n x i g)
    (subst (Up (move n y i f) (move n x i g)) e swap.is_down)).0 in
    let not_first : swap.at ≢ f =
    λ e. not_both (has (move n y i f) f) (sides.first_only (move n y i f) (move n x i g)
    (subst (Up (move n y i f) (move n x i g)) e swap.is_down)).0 y_none in
    elim (cases_eq swap.at i) [
      | inl e ↦
          let x_is : worth x ≡ Some swap.first =
          ap worth (sym (move-through n x i g i ∙ move-same n x i))
          ∙ ap (λ (k : ℕ). worth (move n (move n x i g) g k)) (sym e) ∙ swap.first_is in
          let y_is : worth (move n y f g) ≡ Some swap.second =
          ap worth (sym (move-order n (move n y i f) g i ∙ move-first_again n y i f g))
          ∙ ap (λ (k : ℕ). worth (move n (move n y i f) g k)) (sym e) ∙ swap.second_is in
          let most = one.has_more.paired y swap.second y_first y_second y_is in
          let same : most.value ≡ b = same_Some most.value b (sym most.is ∙ best) in
          let p = most.enough in
          let q = swap.enough in
          more_swap n Up worth more f g cost one.has_more x y _ i (swap.first +ℤ b)
          (omega (arith, ints, p, q, same, enough))
          (one.swaps x y swap.first b x_is mixed.second_is i within i_up)
      | inr other ↦ swap_of n Up more x y _ i swap.at swap.first (swap.second -ℤ cost) swap.is_place
          (sides.swapped x y i swap.at within swap.is_place i_up i_first i_second mixed.has_second y_first other
          not_first not_second swap.is_down)
          (one.has_more.without (move n x i swap.at) swap.first (ap worth (sym (move-through n x i g swap.at))
          ∙ swap.first_is))
          (one.has_more.paired (move n y i swap.at) swap.second
          (has_move-other n y i swap.at f (λ e. i_first (sym e)) (λ e. not_first (sym e)) ∙ y_first)
          (has_move-other n y i swap.at g (λ e. i_second (sym e)) (λ e. not_second (sym e)) ∙ y_second)
          (ap worth (move-last n y i swap.at f g) ∙ swap.second_is))
          (let p = swap.enough in omega (arith, ints, p, enough))
    ]
  where
    sides : HasSides n Up f g
    sides = one.sides

-- the place is no trade of the pair
mixed_other : (n : ℕ) (Up : ℕ → ℕ → ℕ → Type 0) (worth more : ℕ → Option ℤ) (f g : ℕ) (cost : ℤ)
    → OneMore n Up worth more f g cost
    → (x y : ℕ) (a b : ℤ) → IsMixed n worth f g x y a b → more y ≡ Some b → (i : ℕ) → i ≤ n → i ≢ f → i ≢ g → Up x y i
    → Swap n Up more x y ((a -ℤ cost) +ℤ b) i
mixed_other n Up worth more f g cost one x y a b mixed best i within i_first i_second i_up =
    let x_second : has (move n x f g) g ≡ false = has_move-second n x f g sides.second_own (λ e. sides.apart (sym e))
    ∙ ap not mixed.has_second in
    let swap = one.swaps (move n x f g) y a b mixed.first_is mixed.second_is i within
    ((sides.taken x y i within mixed.has_first mixed.has_second i_first i_second).0 i_up) in
    let not_second : swap.at ≢ g =
    λ e. not_both (has (move n x f g) g) (sides.second_only y (move n x f g)
    (subst (Up y (move n x f g)) e swap.is_down)).1 x_second in
    elim (cases_eq swap.at f) [
      | inr not_first ↦ swap_of n Up more x y _ i swap.at (swap.first -ℤ cost) swap.second swap.is_place
          ((sides.taken x y swap.at swap.is_place mixed.has_first mixed.has_second not_first not_second).1 swap.is_down)
          (one.has_more.paired (move n x i swap.at) swap.first
          (has_move-other n x i swap.at f (λ e. i_first (sym e)) (λ e. not_first (sym e)) ∙ mixed.has_first)
          (has_move-other n x i swap.at g (λ e. i_second (sym e)) (λ e. not_second (sym e)) ∙ mixed.has_second)
          (ap worth (move-over n x i swap.at f g) ∙ swap.first_is))
          (one.has_more.without (move n y i swap.at) swap.second swap.second_is)
          (let p = swap.enough in omega (arith, ints, p))
      | inl e ↦
          let y_first : has y f ≡ true =
          (sides.first_only y (move n x f g) (subst (Up y (move n x f g)) e swap.is_down)).0 in
          let first_is : worth (move n x i g) ≡ Some swap.first =
          ap worth (sym (move-first_last n x f g i)) ∙ ap (λ (k : ℕ). worth (move n (move n x f g) i k)) (sym e)
          ∙ swap.first_is in
          let second_is : worth (move n y i f) ≡ Some swap.second =
          ap (λ (k : ℕ). worth (move n y i k)) (sym e) ∙ swap.second_is in
          elim (cases_Bool (has y g)) [
            | inl y_second ↦
                mixed_again n Up worth more f g cost one x y a b mixed best i within i_first i_second i_up y_first
                y_second
                swap.first swap.second first_is second_is swap.enough
            | inr none ↦ swap_of n Up more x y _ i g swap.first (swap.second -ℤ cost) (let p = sides.second_own in
                omega (arith, p))
                (sides.second_up y x none mixed.has_second)
                (one.has_more.without (move n x i g) swap.first first_is)
                (one.has_more.paired (move n y i g) swap.second
                (has_move-other n y i g f (λ h. i_first (sym h)) sides.apart ∙ y_first)
                (has_move-second n y i g sides.second_own (λ h. i_second (sym h)) ∙ ap not none)
                (ap worth (move-last n y i g f g ∙ move-same n (move n y i f) g) ∙ second_is))
                (let p = swap.enough in omega (arith, ints, p))
          ]
    ]
  where
    sides : HasSides n Up f g
    sides = one.sides

-- x has the pair matched, and y hasn't
pub mixed_swap : (n : ℕ) (Up : ℕ → ℕ → ℕ → Type 0) (worth more : ℕ → Option ℤ) (f g : ℕ) (cost : ℤ)
    → OneMore n Up worth more f g cost
    → (x y : ℕ) (a b : ℤ) → IsMixed n worth f g x y a b → more y ≡ Some b → (i : ℕ) → i ≤ n → Up x y i
    → Swap n Up more x y ((a -ℤ cost) +ℤ b) i
mixed_swap n Up worth more f g cost one x y a b mixed best i within i_up = elim (cases_eq i f) [
  | inl e ↦ subst (Swap n Up more x y ((a -ℤ cost) +ℤ b)) (sym e)
      (mixed_first n Up worth more f g cost one x y a b mixed (one.sides.first_only x y (subst (Up x y) e i_up)).1)
  | inr i_first ↦ mixed_other n Up worth more f g cost one x y a b mixed best i within i_first
      (λ e. not_both (has x g) mixed.has_second (one.sides.second_only x y (subst (Up x y) e i_up)).0) i_up
]
