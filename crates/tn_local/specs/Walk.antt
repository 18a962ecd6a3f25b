-- The walk from a bundle x over those that are close to it: position by position from the highest one down, and so in
-- the order of their numbers.
use Rattle.std.specs.Prelude.{◌≡◌, ◌≢◌, ℕ, ◌^◌, ◌<◌, ◌≤◌, ℤ, not, ◌==◌, if◌then◌else◌, ◌⊎◌, Option, Some, None}
use Rattle.tn_base.specs.Sets.{has}
use Rattle.tn_base.specs.Firm.{Firm}
use Rattle.tn_base.specs.Exchange.{AreEnough}
use Rattle.tn_firm_laws.specs.Places.{trade_level, move}
use Rattle.tn_firm_laws.specs.Close.{AreClose}
use Rattle.tn_exchange.specs.TestOrder.{Triple}
use Rattle.tn_local.specs.declared.walk.Two.{Two}
use Rattle.tn_local.specs.declared.walk.Sides.{Sides}

-- z has the same positions as y from k on
abbrev pub AgreesFrom : ℕ → ℕ → ℕ → Type 0
AgreesFrom k y z = (j : ℕ) → k ≤ j → has z j ≡ has y j

-- the triples of x and of a close bundle that agrees with y from k on
abbrev pub OfClose : Firm → ℕ → ℕ → ℕ → Triple → Type 0
OfClose firm x y k t = (t.x ≡ x) × (AgreesFrom k y t.y × AreClose firm.buys x t.y)

-- p is null, or a trade from k on at which x has this level and y differs from x
pub record IsApartAt (n buys x y k level p : ℕ) : Type 0 where
  pub place : p ≤ n
  pub from : p < n → k ≤ p
  pub level_is : p < n → trade_level buys x p ≡ level
  pub differs : p < n → has y p ≡ not (has x p)

-- two such places, the higher trade first
pub record AreApartAt (n buys x y k level : ℕ) (two : Two) : Type 0 where
  pub first : IsApartAt n buys x y k level two.first
  pub second : IsApartAt n buys x y k level two.second
  pub order : two.second < n → (two.second < two.first) × (two.first < n)

-- y is x but for up to two trades of the up side and two of the down side, all from k on
pub record IsReached (n buys x y k : ℕ) (sides : Sides) : Type 0 where
  pub own : y < 2 ^ n
  pub up : AreApartAt n buys x y k 1 sides.up
  pub down : AreApartAt n buys x y k 0 sides.down
  pub same : (j : ℕ) → j < n → j ≢ sides.up.first → j ≢ sides.up.second → j ≢ sides.down.first → j ≢ sides.down.second
      → has y j ≡ has x j

-- no bundle of own positions that agrees with y from k on is close to x
abbrev pub NoneIsClose : ℕ → ℕ → ℕ → ℕ → ℕ → Type 0
NoneIsClose n buys x y k = (z : ℕ) → z < 2 ^ n → AgreesFrom k y z → AreClose buys x z → ⊥

-- what is known before the positions below k are walked
abbrev pub IsKnown : ℕ → ℕ → ℕ → ℕ → ℕ → Option Sides → Type 0
IsKnown n buys x y k (Some sides) = IsReached n buys x y k sides
IsKnown n buys x y k None = NoneIsClose n buys x y k

-- the four places can be exchanged in pairs, in one way or the other
abbrev pub PairsAreEnough : Firm → ℕ → ℤ → Sides → Type 0
PairsAreEnough firm x total sides =
    AreEnough firm (move firm.count x sides.up.first sides.down.first)
    (move firm.count x sides.up.second sides.down.second) total
    ⊎ AreEnough firm (move firm.count x sides.up.first sides.down.second)
    (move firm.count x sides.up.second sides.down.first) total

-- two places with one more trade, or none where both are trades
abbrev pub with_one_more : Two → ℕ → ℕ → Option Two
with_one_more two k n =
    if two.first == n then Some (record { first = k; second = n }) else if two.second == n
    then Some (record { first = two.first; second = k }) else None
