-- What shows the worth of a bundle: numbers for the positions (potentials) that no listed pair exceeds.
use Rattle.std.specs.Prelude.{◌≡◌, ℕ, ◌<◌, ◌<ℤ◌, ◌⊎◌, Bool, true, false, ℤ, pos, ◌+ℤ◌, ◌≤ℤ◌, if◌then◌else◌, List, slice_get, Some}
use Rattle.tn_base.specs.Sets.{has, toggle}
use Rattle.tn_dealer.specs.declared.pair.Pair.{Pair}
use Rattle.tn_dealer.specs.Costs.{cost_at, far}
use Rattle.tn_market.specs.Widths.{most_own}

-- what the numbers of a pair's two trades may sum to: its cost, or 0
abbrev pub bound_of : Bool → Pair → ℤ
bound_of priced pair = if priced then pair.cost else pos 0

-- the numbers of the pair's two trades sum to no more, where both are in the bundle
abbrev pub KeepsPair : Bool → (ℕ → ℤ) → ℕ → Pair → Type 0
KeepsPair priced number x pair = has x pair.buy ≡ true → has x pair.sell ≡ true
    → (number pair.buy +ℤ number pair.sell) ≤ℤ bound_of priced pair

abbrev pub KeepsPairs : Bool → (ℕ → ℤ) → ℕ → List Pair → Type 0
KeepsPairs priced number x pairs = (k : ℕ) (pair : Pair) → slice_get pairs k ≡ Some pair
    → KeepsPair priced number x pair

-- the numbers of a purchase and a sale sum to no more than the cost at their place, or than 0, where that isn't far and
-- the sale is one of these
abbrev pub KeepsAt : Bool → List ℤ → (ℕ → ℤ) → ℕ → ℕ → ℕ → Type 0
KeepsAt priced costs number sales buy sell = has sales sell ≡ true → cost_at costs buy sell <ℤ far
    → (number buy +ℤ number sell) ≤ℤ (if priced then cost_at costs buy sell else pos 0)

-- so do those of the purchase and each sale below n
abbrev pub KeepsBeside : Bool → List ℤ → (ℕ → ℤ) → ℕ → ℕ → ℕ → Type 0
KeepsBeside priced costs number sales buy n = (sell : ℕ) → sell < n → KeepsAt priced costs number sales buy sell

-- a bundle and a cost, with a purchase and a sale taken in at what stands at their place, where that isn't far and
-- neither is there yet
pub record TakesAt (here : ℤ) (buy sell bundle : ℕ) (cost : ℤ) (next : ℕ) (next_cost : ℤ) : Type 0 where
  pub near : here <ℤ far
  pub no_buy : has bundle buy ≡ false
  pub no_sell : has bundle sell ≡ false
  pub bundle_is : next ≡ toggle (toggle bundle buy) sell
  pub cost_is : next_cost ≡ cost +ℤ here

-- so for some purchase and sale
pub record Takes (costs : List ℤ) (bundle : ℕ) (cost : ℤ) (next : ℕ) (next_cost : ℤ) : Type 0 where
  pub buy : ℕ
  pub sell : ℕ
  pub buy_near : buy < most_own
  pub sell_near : sell < most_own
  pub takes : TakesAt (cost_at costs buy sell) buy sell bundle cost next next_cost

-- the same bundle and cost, or those with a pair taken in
abbrev pub MayTake : List ℤ → ℕ → ℤ → ℕ → ℤ → Type 0
MayTake costs bundle cost next next_cost = ((next ≡ bundle) × (next_cost ≡ cost))
    ⊎ Takes costs bundle cost next next_cost
