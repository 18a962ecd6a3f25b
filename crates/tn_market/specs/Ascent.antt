-- The search for a best bundle: what it compares, and how far it has looked.
use Rattle.std.specs.Prelude.{◌≡◌, ℕ, ◌+◌, ◌*◌, ◌^◌, ◌<◌, ◌≤◌, ℤ, pos, neg_ℤ, ◌+ℤ◌, ◌≤ℤ◌, List, length, All, Option, Some, true, if◌then◌else◌}
use Rattle.tn_base.specs.Sets.{has, sum_over, toggle}
use Rattle.tn_base.specs.Arcs.{IsAtMost}
use Rattle.tn_base.specs.Firm.{Firm, plus_sum, among, payments, IsBest}
use Rattle.tn_base.specs.declared.side.Side.{Side}
use Rattle.tn_base.specs.declared.side.Side.TheVariants.{Buy, Sell}
use Rattle.tn_market.specs.declared.bundle_gain.BundleGain.{BundleGain}
use Rattle.tn_market.specs.declared.bundle_value.BundleValue.{BundleValue}
use Rattle.tn_model.specs.Prices.{price_at}
use Rattle.tn_market.specs.Widths.{most_own, most_worth, most_scale, most_utility}

-- the values that a search compares, as a firm: only within the allowed positions, the worth counted `scale` times, and
-- a gain for each position beside it
abbrev pub aimed : ℕ → ℤ → List ℤ → Firm → Firm
aimed allowed scale gains firm = among allowed (plus_sum scale (price_at gains) firm)

-- the numbers of a search are within its limits
pub record IsAim (allowed : ℕ) (scale : ℤ) (gains : List ℤ) (limit : ℕ) (firm : Firm) : Type 0 where
  pub own : allowed < 2 ^ firm.count
  pub few : firm.count ≤ most_own
  pub counted : firm.count ≤ length gains
  pub small_gains : All (λ gain. IsAtMost gain (2 * most_utility)) gains
  pub from_one : pos 1 ≤ℤ scale
  pub small_scale : scale ≤ℤ pos most_scale
  pub small_worths : limit ≤ most_worth

-- no possible bundle with position i toggled, or with it and one below j, has more than the value
pub record IsBesideBest (value_of : ℕ → Option ℤ) (from i j : ℕ) (value : ℤ) : Type 0 where
  pub single : (other : ℤ) → value_of (toggle from i) ≡ Some other → other ≤ℤ value
  pub pair : (k : ℕ) (other : ℤ) → k < j → value_of (toggle (toggle from i) k) ≡ Some other → other ≤ℤ value

-- no possible bundle with one or two different positions below n toggled has more than the value
abbrev pub IsNearbyBest : (ℕ → Option ℤ) → ℕ → ℕ → ℤ → Type 0
IsNearbyBest value_of from n value = (i : ℕ) → i < n → IsBesideBest value_of from i i value

-- the gain of a bundle is the sum of those of its positions below n
abbrev pub IsGained : List ℤ → ℕ → BundleGain → Type 0
IsGained gains n x = x.gain ≡ sum_over (price_at gains) n x.bundle

-- a bundle is possible with its value
abbrev pub IsValued : (ℕ → Option ℤ) → BundleValue → Type 0
IsValued value_of found = value_of found.bundle ≡ Some found.value

-- x is the bundle at hand, wherever that is best
abbrev pub StaysAt : (ℕ → Option ℤ) → ℕ → ℕ → Type 0
StaysAt value_of from x = (value : ℤ) → IsBest value_of from value → x ≡ from

-- wherever the bundle at hand is best, at most so many worths were asked for
abbrev pub AsksFew : (ℕ → Option ℤ) → ℕ → ℕ → ℕ → ℕ → Type 0
AsksFew value_of from count before after = (value : ℤ) → IsBest value_of from value → after ≤ before + count

-- what was found after is a possible bundle with its value, as it was before, and of no less value
pub record IsNoWorse (value_of : ℕ → Option ℤ) (before after : BundleValue) : Type 0 where
  pub valued : IsValued value_of before → IsValued value_of after
  pub kept : before.value ≤ℤ after.value

-- and the bundle x has no more value, if it is possible
pub record TriesOne (value_of : ℕ → Option ℤ) (x : ℕ) (before after : BundleValue) : Type 0 where
  pub no_worse : IsNoWorse value_of before after
  pub tried : (other : ℤ) → value_of x ≡ Some other → other ≤ℤ after.value

-- and none with one of the others below n toggled in x has more value
pub record TriesOthers (value_of : ℕ → Option ℤ) (x others n : ℕ) (before after : BundleValue) : Type 0 where
  pub no_worse : IsNoWorse value_of before after
  pub tried : (k : ℕ) (other : ℤ) → k < n → has others k ≡ true → value_of (toggle x k) ≡ Some other
      → other ≤ℤ after.value

-- and none with i toggled, or with i and one below j toggled, has more value
pub record TriesBeside (value_of : ℕ → Option ℤ) (from i j : ℕ) (before after : BundleValue) : Type 0 where
  pub no_worse : IsNoWorse value_of before after
  pub tried : IsBesideBest value_of from i j after.value

-- and none with one or two different positions below n toggled has more value
pub record TriesNearby (value_of : ℕ → Option ℤ) (from n : ℕ) (before after : BundleValue) : Type 0 where
  pub no_worse : IsNoWorse value_of before after
  pub tried : IsNearbyBest value_of from n after.value

-- what a wanted position is worth beside everything else
abbrev pub bonus : ℕ → ℕ → ℤ
bonus need k = if has need k then pos most_utility else pos 0

-- what a position adds to the value of a bundle: what the firm gets for it, and the bonus
abbrev pub gain_at : ℕ → (ℕ → ℤ) → ℕ → ℕ → ℤ
gain_at buys prices need k = payments buys prices k +ℤ bonus need k

-- what a firm gets for a position on this side
abbrev pub payment_of : Side → ℤ → ℤ
payment_of Buy price = neg_ℤ price
payment_of Sell price = price

-- the list has what each of the first n positions adds
pub record AreGains (buys need : ℕ) (prices : List ℤ) (n : ℕ) (gains : List ℤ) : Type 0 where
  pub counted : length gains ≡ most_own
  pub small : All (λ gain. IsAtMost gain (2 * most_utility)) gains
  pub each : (k : ℕ) → k < n → price_at gains k ≡ gain_at buys (price_at prices) need k
