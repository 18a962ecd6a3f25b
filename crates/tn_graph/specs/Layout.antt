-- How a graph is laid out for the trades of a network: a block for each firm.
use Rattle.std.specs.Prelude.{◌≡◌, ◌≢◌, ◌⊎◌, ℕ, zero, suc, ◌+◌, ◌*◌, ◌<◌, List, [], ◌∷◌, length, slice_get, get_or, Bool, not, if◌then◌else◌, Option, Some, option_map}
use Rattle.tn_base.specs.Firm.{Firm}
use Rattle.tn_base.specs.Sets.{has}
use Rattle.tn_model.specs.declared.ends.Ends.{Ends}
use Rattle.tn_model.specs.Network.{own}
use Rattle.tn_market.specs.Graph.{raised as raised_end}
use Rattle.tn_graph.specs.declared.spot.Spot.{Spot}
use Rattle.tn_graph.specs.Blocks.{Places, spot_at, no_spot, block_size}

-- the firm that trade t raises, or the one that it lowers, with its position there, where a test says which trades are
-- on; none past the trades
abbrev pub end_of : List Ends → (ℕ → Bool) → Bool → ℕ → Option (ℕ × ℕ)
end_of trades is_on rises t = option_map (λ trade. raised_end trade (if rises then is_on t else not (is_on t)))
    (slice_get trades t)

-- each trade stands in the blocks of its two firms, and a firm has one block
pub record IsLaidOut (trades : List Ends) (is_on : ℕ → Bool) (places : Places) : Type 0 where
  pub all : places.laid ≡ length trades
  pub together : (one other : Bool) (s t f i j : ℕ) → end_of trades is_on one s ≡ Some (f, i)
      → end_of trades is_on other t ≡ Some (f, j) → (spot_at places one s).start ≡ (spot_at places other t).start

-- trade t changes its two places, and all others stay
pub record IsTurned (t : ℕ) (before after : Places) : Type 0 where
  pub laid : after.laid ≡ before.laid
  pub here : (rises : Bool) → spot_at after rises t ≡ spot_at before (not rises) t
  pub elsewhere : (rises : Bool) (u : ℕ) → u ≢ t → spot_at after rises u ≡ spot_at before rises u

-- ---- how it is laid out

-- the sizes of the firms before number f together
abbrev pub sum_before : (Firm → ℕ) → List Firm → ℕ → ℕ
sum_before size [] f = 0
sum_before size (firm ∷ firms) zero = 0
sum_before size (firm ∷ firms) (suc f) = size firm + sum_before size firms f

-- how many own trades these firms have, and how large their blocks are
abbrev pub own_before : List Firm → ℕ → ℕ
own_before firms f = sum_before (λ firm. firm.count) firms f

abbrev pub room_before : List Firm → ℕ → ℕ
room_before firms f = sum_before (λ firm. block_size firm.count) firms f

-- the place of position k of firm f with n own trades, where the blocks stand one after another
abbrev pub spot_for : List Firm → ℕ → ℕ → ℕ → Spot
spot_for firms f n k = record { start = room_before firms f; count = n; own = own_before firms f; position = k }

-- position j of firm g is before position k of firm f
abbrev pub IsLaidBefore : ℕ → ℕ → ℕ → ℕ → Type 0
IsLaidBefore f k g j = (g < f) ⊎ ((g ≡ f) × (j < k))

-- the trades at the positions before position k of firm f have their places, and stand among the own trades
pub record IsLaidTo (firms : List Firm) (trades : List Ends) (on f k : ℕ) (raised lowered : List Spot)
    (owned : List ℕ) : Type 0 where
  pub raised_sized : length raised ≡ length trades + 1
  pub lowered_sized : length lowered ≡ length trades + 1
  pub own_sized : length owned ≡ 2 * (length trades + 1)
  pub spots : (rises : Bool) (t g j : ℕ) (firm : Firm) → slice_get firms g ≡ Some firm → IsLaidBefore f k g j
      → end_of trades (has on) rises t ≡ Some (g, j)
      → get_or (if rises then raised else lowered) t no_spot ≡ spot_for firms g firm.count j
  pub owns : (g j d : ℕ) (firm : Firm) → slice_get firms g ≡ Some firm → IsLaidBefore f k g j → j < firm.count
      → get_or owned (own_before firms g + j) d ≡ own trades g j
