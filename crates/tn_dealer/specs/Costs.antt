-- The costs of listed pairs, each at a place of its own.
use Rattle.std.specs.Prelude.{◌≡◌, ℕ, ◌+◌, ◌*◌, ◌<◌, ◌==◌, ◌&&◌, Bool, true, ℤ, pos, ◌<ℤ◌, List, length, take, get_or, slice_get, Some}
use Rattle.std.specs.List.{list_any}
use Rattle.tn_dealer.specs.declared.pair.Pair.{Pair}
use Rattle.tn_market.specs.Widths.{most_own}

-- where the cost of a purchase and a sale stands
abbrev pub place_of_pair : ℕ → ℕ → ℕ
place_of_pair buy sell = buy * most_own + sell

-- what stands where no pair is listed
abbrev pub far : ℤ
far = pos 2147483647

-- the cost that stands at the place of a purchase and a sale
abbrev pub cost_at : List ℤ → ℕ → ℕ → ℤ
cost_at costs buy sell = get_or costs (place_of_pair buy sell) (pos 0)

-- a pair has this purchase and this sale
abbrev pub is_of : ℕ → ℕ → Pair → Bool
is_of buy sell pair = (pair.buy == buy) && (pair.sell == sell)

-- the cost of each of the first n pairs stands at its place, and what stands at a place is far or such a cost
pub record AreCostsBelow (pairs : List Pair) (n : ℕ) (costs : List ℤ) : Type 0 where
  pub counted : length costs ≡ most_own * most_own
  pub each : (k : ℕ) (pair : Pair) → k < n → slice_get pairs k ≡ Some pair
      → cost_at costs pair.buy pair.sell ≡ pair.cost
  pub only : (buy sell : ℕ) → buy < most_own → sell < most_own → cost_at costs buy sell <ℤ far
      → list_any (is_of buy sell) (take n pairs) ≡ true

abbrev pub AreCosts : List Pair → List ℤ → Type 0
AreCosts pairs costs = AreCostsBelow pairs (length pairs) costs
