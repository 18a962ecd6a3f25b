-- One pair more keeps exchange, over the places of a firm.
use Rattle.std.proofs.Common.{◌≡◌, ◌≢◌, ℕ, ◌<◌, ◌≤◌, Bool, true, false, not, refl, sym, ap, ◌∙◌, subst, arith, inl, inr, ◌⊎◌, Option, Some, ℤ, ◌+ℤ◌, ◌-ℤ◌}
use Rattle.std.proofs.lemmas.Int.{ints}
use Rattle.std.proofs.lemmas.Bool.{false≢true}
use Rattle.tn_base.specs.Sets.{has}
use Rattle.tn_firm_laws.specs.Places.{level, move, CanRise, CanFall}
use Rattle.tn_firm_laws.proofs.PlaceLemmas.{places}
use Rattle.tn_firm_laws.proofs.MoveLemmas.{move-order, move-over, has_move-other, has_move-first, has_move-second, bought_level, sold_level, level_kept}
use Rattle.tn_firm_laws.proofs.PairLemmas.{Swap, Swaps, HasOneMore, HasSides, mixed_swap, more_swap, swap_of}

-- x has the greater level at a place, or the smaller
abbrev pub Above : ℕ → ℕ → ℕ → ℕ → ℕ → Type 0
Above n buys x y k = level n buys y k < level n buys x k

abbrev pub Below : ℕ → ℕ → ℕ → ℕ → ℕ → Type 0
Below n buys x y k = level n buys x k < level n buys y k

-- a purchase and a sale
pub record ArePaired (n buys f g : ℕ) : Type 0 where
  pub purchase : f < n
  pub bought : has buys f ≡ true
  pub sale : g < n
  pub sold : has buys g ≡ false

different : (n buys f g : ℕ) → ArePaired n buys f g → f ≢ g
different n buys f g pair = λ e. false≢true (sym pair.sold ∙ ap (has buys) (sym e) ∙ pair.bought)

bought_in : (n buys f g x : ℕ) → ArePaired n buys f g → has x f ≡ true → level n buys x f ≡ 1
bought_in n buys f g x pair is = bought_level n buys x f true pair.purchase pair.bought is

bought_out : (n buys f g x : ℕ) → ArePaired n buys f g → has x f ≡ false → level n buys x f ≡ 0
bought_out n buys f g x pair is = bought_level n buys x f false pair.purchase pair.bought is

sold_in : (n buys f g x : ℕ) → ArePaired n buys f g → has x g ≡ true → level n buys x g ≡ 0
sold_in n buys f g x pair is = sold_level n buys x g true pair.sale pair.sold is

sold_out : (n buys f g x : ℕ) → ArePaired n buys f g → has x g ≡ false → level n buys x g ≡ 1
sold_out n buys f g x pair is = sold_level n buys x g false pair.sale pair.sold is

-- x has the greater level at a purchase exactly where it alone has it
bought_up : (n buys f g x y : ℕ) → ArePaired n buys f g → has x f ≡ true → has y f ≡ false
    → level n buys y f < level n buys x f
bought_up n buys f g x y pair p q =
    let one = bought_in n buys f g x pair p in
    let none = bought_out n buys f g y pair q in
    omega (arith, one, none)

bought_only : (n buys f g x y : ℕ) → ArePaired n buys f g → level n buys y f < level n buys x f → (has x f ≡ true)
    × (has y f ≡ false)
bought_only n buys f g x y pair h = by (has x f) (has y f) refl refl
  where
    by : (b d : Bool) → has x f ≡ b → has y f ≡ d → (has x f ≡ true) × (has y f ≡ false)
    by true false p q = (p, q)
    by true true p q = absurd (let r = bought_in n buys f g x pair p in let s = bought_in n buys f g y pair q in
        omega (arith, r, s, h))
    by false d p q = absurd (let r = bought_out n buys f g x pair p in omega (arith, r, h))

-- and at a sale exactly where y alone has it
sold_up : (n buys f g x y : ℕ) → ArePaired n buys f g → has x g ≡ false → has y g ≡ true
    → level n buys y g < level n buys x g
sold_up n buys f g x y pair p q =
    let one = sold_out n buys f g x pair p in
    let none = sold_in n buys f g y pair q in
    omega (arith, one, none)

sold_only : (n buys f g x y : ℕ) → ArePaired n buys f g → level n buys y g < level n buys x g → (has x g ≡ false)
    × (has y g ≡ true)
sold_only n buys f g x y pair h = by (has x g) (has y g) refl refl
  where
    by : (b d : Bool) → has x g ≡ b → has y g ≡ d → (has x g ≡ false) × (has y g ≡ true)
    by false true p q = (p, q)
    by false false p q = absurd (let r = sold_out n buys f g x pair p in let s = sold_out n buys f g y pair q in
        omega (arith, r, s, h))
    by true d p q = absurd (let r = sold_in n buys f g x pair p in omega (arith, r, h))

-- without both trades a bundle has the levels that it had, elsewhere
level_taken : (n buys f g x k : ℕ) → ArePaired n buys f g → k ≤ n → has x f ≡ true → has x g ≡ true → k ≢ f → k ≢ g
    → level n buys (move n x f g) k ≡ level n buys x k
level_taken n buys f g x k pair within x_first x_second p q =
    ap (λ (z : ℕ). level n buys z k) (move-order n x f g)
    ∙ level_kept n buys x g f k (let h = pair.sale in omega (arith, h)) (let h = pair.purchase in
    omega (arith, h)) (λ e. different n buys f g pair (sym e))
    (λ h. sold_in n buys f g x pair x_second) (λ h. bought_in n buys f g x pair x_first) within q p

-- a place that has the greater level in x can fall in x and rise in y
falls : (n buys x y i : ℕ) → level n buys y i < level n buys x i → CanFall n (level n buys x) i
falls n buys x y i up own = let small = (places n buys).small x i own in omega (arith, small, up)

rises : (n buys x y i : ℕ) → level n buys y i < level n buys x i → CanRise n (level n buys y) i
rises n buys x y i up own = let small = (places n buys).small x i own in omega (arith, small, up)

-- x lowered at a place and without the sale, and y raised there and without the purchase
level_lowered : (n buys f g x i k : ℕ) → ArePaired n buys f g → i ≤ n → k ≤ n → i ≢ g → CanFall n (level n buys x) i
    → has x g ≡ true → k ≢ i → k ≢ g
    → level n buys (move n x i g) k ≡ level n buys x k
level_lowered n buys f g x i k pair i_within within apart fall x_second p q =
    ap (λ (z : ℕ). level n buys z k) (move-order n x i g)
    ∙ level_kept n buys x g i k (let h = pair.sale in omega (arith, h)) i_within (λ e. apart (sym e))
    (λ h. sold_in n buys f g x pair x_second) fall within q p

level_raised : (n buys f g y i k : ℕ) → ArePaired n buys f g → i ≤ n → k ≤ n → i ≢ f → CanRise n (level n buys y) i
    → has y f ≡ true → k ≢ i → k ≢ f
    → level n buys (move n y i f) k ≡ level n buys y k
level_raised n buys f g y i k pair i_within within apart rise y_first p q =
    level_kept n buys y i f k i_within (let h = pair.purchase in
    omega (arith, h)) apart rise (λ h. bought_in n buys f g y pair y_first) within p q

-- the sides of the places, and the same turned round
sides_above : (n buys f g : ℕ) → ArePaired n buys f g → HasSides n (Above n buys) f g
sides_above n buys f g pair = record {
  first_own = pair.purchase;
  second_own = pair.sale;
  apart = different n buys f g pair;
  first_up = λ x y. bought_up n buys f g x y pair;
  first_only = λ x y. bought_only n buys f g x y pair;
  second_up = λ x y. sold_up n buys f g x y pair;
  second_only = λ x y. sold_only n buys f g x y pair;
  taken = λ x y k within x_first x_second p q. (
      let same = level_taken n buys f g x k pair within x_first x_second p q in (
        (λ (h : level n buys y k < level n buys x k). omega (arith, same, h)),
        (λ (h : level n buys (move n x f g) k < level n buys y k). omega (arith, same, h)),
      ));
  swapped = λ x y i k i_within within up i_first i_second x_second y_first p q r h. (
      let one = level_lowered n buys f g x i k pair i_within within i_second (falls n buys x y i up) x_second p r in
      let two = level_raised n buys f g y i k pair i_within within i_first (rises n buys x y i up) y_first p q in
      omega (arith, one, two, h));
}

sides_below : (n buys f g : ℕ) → ArePaired n buys f g → HasSides n (Below n buys) g f
sides_below n buys f g pair = record {
  first_own = pair.sale;
  second_own = pair.purchase;
  apart = λ e. different n buys f g pair (sym e);
  first_up = λ x y p q. sold_up n buys f g y x pair q p;
  first_only = λ x y h. (let both = sold_only n buys f g y x pair h in (both.1, both.0));
  second_up = λ x y p q. bought_up n buys f g y x pair q p;
  second_only = λ x y h. (let both = bought_only n buys f g y x pair h in (both.1, both.0));
  taken = λ x y k within x_second x_first p q. (
      let same = ap (λ (z : ℕ). level n buys z k) (move-order n x g f)
      ∙ level_taken n buys f g x k pair within x_first x_second q p in (
        (λ (h : level n buys x k < level n buys y k). omega (arith, same, h)),
        (λ (h : level n buys y k < level n buys (move n x g f) k). omega (arith, same, h)),
      ));
  swapped = λ x y i k i_within within up i_second i_first x_first y_second p q r h. (
      let one = level_raised n buys f g x i k pair i_within within i_first (rises n buys y x i up) x_first p r in
      let two = level_lowered n buys f g y i k pair i_within within i_second (falls n buys y x i up) y_second p q in
      omega (arith, one, two, h));
}

-- the pair's trades in the other order
turned : (n : ℕ) (worth more : ℕ → Option ℤ) (f g : ℕ) (cost : ℤ) → HasOneMore n worth more f g cost
    → HasOneMore n worth more g f cost
turned n worth more f g cost has_more = record {
  without = has_more.without;
  paired = λ x a x_second x_first is. has_more.paired x a x_first x_second (ap worth (move-order n x f g) ∙ is);
}

-- a swap is one of the two bundles in the other order too, on the other side
flipped : (n buys : ℕ) (worth : ℕ → Option ℤ) (x y : ℕ) (total sum : ℤ) (i : ℕ) → sum ≡ total
    → Swap n (Below n buys) worth y x total i → Swap n (Above n buys) worth x y sum i
flipped n buys worth x y total sum i e swap = record {
  at = swap.at;
  is_place = swap.is_place;
  is_down = swap.is_down;
  first = swap.second;
  second = swap.first;
  first_is = swap.second_is;
  second_is = swap.first_is;
  enough = (let p = swap.enough in omega (arith, ints, p, e));
}

flip_swaps : (n buys : ℕ) (worth : ℕ → Option ℤ) → Swaps n (Above n buys) worth → Swaps n (Below n buys) worth
flip_swaps n buys worth swaps x y a b x_is y_is i within up =
    let swap = swaps y x b a y_is x_is i within up in
    record {
      at = swap.at;
      is_place = swap.is_place;
      is_down = swap.is_down;
      first = swap.second;
      second = swap.first;
      first_is = swap.second_is;
      second_is = swap.first_is;
      enough = (let p = swap.enough in omega (arith, ints, p));
    }

-- a bundle's worth is that without both trades of the pair, less its cost
pub record HasPair (n : ℕ) (worth : ℕ → Option ℤ) (f g : ℕ) (cost : ℤ) (x : ℕ) (a : ℤ) : Type 0 where
  pub has_first : has x f ≡ true
  pub has_second : has x g ≡ true
  pub value : ℤ
  pub is : worth (move n x f g) ≡ Some value
  pub less : value -ℤ cost ≡ a

-- both bundles have the pair matched
both_have : (n buys : ℕ) (worth more : ℕ → Option ℤ) (f g : ℕ) (cost : ℤ) → ArePaired n buys f g
    → HasOneMore n worth more f g cost → Swaps n (Above n buys) worth
    → (x y : ℕ) (a b : ℤ) → HasPair n worth f g cost x a → HasPair n worth f g cost y b → (i : ℕ) → i ≤ n
    → Above n buys x y i → Swap n (Above n buys) more x y (a +ℤ b) i
both_have n buys worth more f g cost pair has_more swaps x y a b first second i within up =
    let i_first : i ≢ f =
    λ e. false≢true (sym (bought_only n buys f g x y pair (subst (Above n buys x y) e up)).1 ∙ second.has_first) in
    let i_second : i ≢ g =
    λ e. false≢true (sym (sold_only n buys f g x y pair (subst (Above n buys x y) e up)).0 ∙ first.has_second) in
    let x_same = level_taken n buys f g x i pair within first.has_first first.has_second i_first i_second in
    let y_same = level_taken n buys f g y i pair within second.has_first second.has_second i_first i_second in
    let swap = swaps (move n x f g) (move n y f g) first.value second.value first.is second.is i within
    (omega (arith, up, x_same, y_same)) in
    let not_first : swap.at ≢ f = λ e. false≢true (
    sym (has_move-first n y f g pair.purchase (different n buys f g pair) ∙ ap not second.has_first)
    ∙ (bought_only n buys f g (move n y f g) (move n x f g) pair
    (subst (Above n buys (move n y f g) (move n x f g)) e swap.is_down)).0) in
    let not_second : swap.at ≢ g = λ e. false≢true (
    sym (has_move-second n x f g pair.sale (λ h. different n buys f g pair (sym h)) ∙ ap not first.has_second)
    ∙ (sold_only n buys f g (move n y f g) (move n x f g) pair
    (subst (Above n buys (move n y f g) (move n x f g)) e swap.is_down)).1) in
    let x_down =
    level_taken n buys f g x swap.at pair swap.is_place first.has_first first.has_second not_first not_second in
    let y_down =
    level_taken n buys f g y swap.at pair swap.is_place second.has_first second.has_second not_first not_second in
    let down = swap.is_down in
    let enough = swap.enough in
    let p = first.less in
    let q = second.less in
    swap_of n (Above n buys) more x y (a +ℤ b) i swap.at (swap.first -ℤ cost) (swap.second -ℤ cost) swap.is_place
    (omega (arith, down, x_down, y_down))
    (has_more.paired (move n x i swap.at) swap.first
    (has_move-other n x i swap.at f (λ e. i_first (sym e)) (λ e. not_first (sym e)) ∙ first.has_first)
    (has_move-other n x i swap.at g (λ e. i_second (sym e)) (λ e. not_second (sym e)) ∙ first.has_second)
    (ap worth (move-over n x i swap.at f g) ∙ swap.first_is))
    (has_more.paired (move n y i swap.at) swap.second
    (has_move-other n y i swap.at f (λ e. i_first (sym e)) (λ e. not_first (sym e)) ∙ second.has_first)
    (has_move-other n y i swap.at g (λ e. i_second (sym e)) (λ e. not_second (sym e)) ∙ second.has_second)
    (ap worth (move-over n y i swap.at f g) ∙ swap.second_is))
    (omega (arith, ints, enough, p, q))

-- where a worth exchanges, so does the better of it without and with one more pair
pub one_more_swaps : (n buys : ℕ) (worth more : ℕ → Option ℤ) (f g : ℕ) (cost : ℤ) → ArePaired n buys f g
    → HasOneMore n worth more f g cost
    → ((x : ℕ) (a : ℤ) → more x ≡ Some a → (worth x ≡ Some a) ⊎ HasPair n worth f g cost x a)
    → Swaps n (Above n buys) worth → Swaps n (Above n buys) more
one_more_swaps n buys worth more f g cost pair has_more split swaps x y a b x_is y_is i within up =
    by (split x a x_is) (split y b y_is)
  where
    by : (worth x ≡ Some a) ⊎ HasPair n worth f g cost x a → (worth y ≡ Some b) ⊎ HasPair n worth f g cost y b
        → Swap n (Above n buys) more x y (a +ℤ b) i
    by (inl p) (inl q) =
        more_swap n (Above n buys) worth more f g cost has_more x y (a +ℤ b) i (a +ℤ b) (omega (arith, ints))
        (swaps x y a b p q i within up)
    by (inr first) (inr second) =
        both_have n buys worth more f g cost pair has_more swaps x y a b first second i within up
    by (inr first) (inl q) =
        subst (λ (z : ℤ). Swap n (Above n buys) more x y (z +ℤ b) i) first.less
        (mixed_swap n (Above n buys) worth more f g cost (record {
          sides = sides_above n buys f g pair;
          has_more =
              has_more;
          swaps = swaps;
        }) x y first.value b
        (record { has_first = first.has_first; has_second = first.has_second; first_is = first.is; second_is = q }) y_is
        i within up)
    by (inl p) (inr second) =
        flipped n buys more x y ((second.value -ℤ cost) +ℤ a) (a +ℤ b) i (let q = second.less in omega (arith, ints, q))
        (mixed_swap n (Below n buys) worth more g f cost
        (record {
          sides = sides_below n buys f g pair;
          has_more = turned n worth more f g cost has_more;
          swaps =
              flip_swaps n buys worth swaps;
        }) y x second.value a
        (record {
          has_first = second.has_second;
          has_second = second.has_first;
          first_is =
              ap worth (move-order n y g f) ∙ second.is;
          second_is = p;
        }) x_is i within up)
