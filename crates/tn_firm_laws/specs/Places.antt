-- Places: a firm with n own trades has the places 0 to n. A place below n is a trade's position, and the place n is
-- called null: it stands for the net count. Every place has a level, and the levels of a bundle always sum to n.
-- With null the two halves of the exchange property are one statement.
use Rattle.std.specs.Prelude.{◌≡◌, ◌≢◌, ℕ, zero, suc, ◌+◌, ◌-◌, ◌<◌, ◌≤◌, ltb, ◌==◌, ℤ, ◌+ℤ◌, if◌then◌else◌, Some}
use Rattle.tn_base.specs.Sets.{has, toggle}
use Rattle.tn_base.specs.Firm.{Firm}
use Rattle.tn_base.specs.Exchange.{AreEnough}

-- the level of a trade: 1 for a purchase in the bundle and for a sale outside it, else 0
unfoldable pub trade_level : ℕ → ℕ → ℕ → ℕ
trade_level buys x k = if has buys k then (if has x k then 1 else 0) else (if has x k then 0 else 1)

-- the level of null: how many of the first n trades have level 0
unfoldable pub null_level : ℕ → ℕ → ℕ → ℕ
null_level zero buys x = 0
null_level (suc n) buys x = null_level n buys x + (1 - trade_level buys x n)

-- the level of a place
unfoldable pub level : ℕ → ℕ → ℕ → ℕ → ℕ
level n buys x k = if ltb k n then trade_level buys x k else null_level n buys x

-- the bundle toggled at a place: nothing is toggled at null
unfoldable pub toggle_at : ℕ → ℕ → ℕ → ℕ
toggle_at n x k = if ltb k n then toggle x k else x

-- the bundle toggled at two places
unfoldable pub move : ℕ → ℕ → ℕ → ℕ → ℕ
move n x i j = toggle_at n (toggle_at n x i) j

-- f 0 + f 1 + .. + f (n - 1)
unfoldable pub sum_to : (ℕ → ℕ) → ℕ → ℕ
sum_to f zero = 0
sum_to f (suc n) = sum_to f n + f n

-- 1 at the number i, else 0
unfoldable pub one_at : ℕ → ℕ → ℕ
one_at i k = if i == k then 1 else 0

-- a place can be raised: null always, and a trade of level 0
abbrev pub CanRise : ℕ → (ℕ → ℕ) → ℕ → Type 0
CanRise n level_of i = i < n → level_of i ≡ 0

-- a place can be lowered: null always, and a trade of level 1
abbrev pub CanFall : ℕ → (ℕ → ℕ) → ℕ → Type 0
CanFall n level_of i = i < n → level_of i ≡ 1

-- what the laws need to know of the levels of bundles and of moves at two places
pub record ArePlaces (n : ℕ) (level_of : ℕ → ℕ → ℕ) (moved : ℕ → ℕ → ℕ → ℕ) : Type 0 where
  -- the two places may be taken in either order
  pub order : (x i j : ℕ) → moved x i j ≡ moved x j i
  -- at the same place twice, nothing moves
  pub same : (x i : ℕ) → moved x i i ≡ x
  -- two moves in a row pass through the middle place
  pub through : (x i j k : ℕ) → moved (moved x i j) j k ≡ moved x i k
  -- a move that raises i and lowers j changes the levels of i and j by 1, and no other
  pub levels : (x i j k : ℕ) → i ≤ n → j ≤ n → i ≢ j → CanRise n (level_of x) i → CanFall n (level_of x) j → k ≤ n
      → level_of (moved x i j) k + one_at j k ≡ level_of x k + one_at i k
  -- a trade has level 0 or 1
  pub small : (x k : ℕ) → k < n → level_of x k ≤ 1
  -- the levels of all trades and of null sum to n
  pub total : (x : ℕ) → sum_to (level_of x) n + level_of x n ≡ n

-- some place of the down side, where x has the smaller level, can be toggled in both bundles beside place i
pub record SwapsAt (firm : Firm) (x y : ℕ) (total : ℤ) (i : ℕ) : Type 0 where
  pub at : ℕ
  pub is_place : at ≤ firm.count
  pub is_down : level firm.count firm.buys x at < level firm.count firm.buys y at
  pub enough : AreEnough firm (move firm.count x i at) (move firm.count y i at) total

-- for all possible x and y, each place of the up side, where x has the greater level, swaps with one of the down side
abbrev pub ExchangesOverPlaces : Firm → Type 0
ExchangesOverPlaces firm = (x y : ℕ) (a b : ℤ) → firm.worth x ≡ Some a → firm.worth y ≡ Some b
    → (i : ℕ) → i ≤ firm.count → level firm.count firm.buys y i < level firm.count firm.buys x i
    → SwapsAt firm x y (a +ℤ b) i
