-- What is known of a firm that code may ask.
use Rattle.std.specs.Prelude.{◌≡◌, ℕ, ℤ, ◌+ℤ◌, ◌<ℤ◌, true, if◌then◌else◌, List, get_or, Option, Some, None}
use Rattle.tn_base.specs.Sets.{has, toggle}
use Rattle.tn_base.specs.Arcs.{IsAtMost}
use Rattle.tn_base.specs.Firm.{Firm, net, up}
use Rattle.tn_base.specs.Exchange.{Exchanges, SwapsDown, MeetsExchange}
use Rattle.tn_base.specs.declared.side.Side.{Side}
use Rattle.tn_base.specs.declared.side.Side.TheVariants.{Buy, Sell}

-- the side on which a firm stands at a position
abbrev pub side_at : ℕ → ℕ → Side
side_at buys k = if has buys k then Buy else Sell

-- for all possible bundles x and y each position of the up side exchanges: the first half of the exchange property
abbrev pub ExchangesOne : Firm → Type 0
ExchangesOne firm = (x y : ℕ) (a b : ℤ) → firm.worth x ≡ Some a → firm.worth y ≡ Some b
    → (i : ℕ) → has (up firm.buys x y) i ≡ true → Exchanges firm x y (a +ℤ b) i

-- for all possible bundles x and y, where y has the greater net count, some position of the down side can be toggled
-- alone: the second half
abbrev pub ExchangesNet : Firm → Type 0
ExchangesNet firm = (x y : ℕ) (a b : ℤ) → firm.worth x ≡ Some a → firm.worth y ≡ Some b
    → net firm.buys x <ℤ net firm.buys y → SwapsDown firm x y x y (a +ℤ b)

-- the two halves are the exchange property
pub meets_exchange : (firm : Firm) → ExchangesOne firm → ExchangesNet firm → MeetsExchange firm
meets_exchange firm one net_count = record { one = one; net_count = net_count }

-- no worth is above this size
abbrev pub IsWorthAtMost : ℕ → Firm → Type 0
IsWorthAtMost limit firm = (x : ℕ) (a : ℤ) → firm.worth x ≡ Some a → IsAtMost a limit

-- at the place of each wanted position stands the worth of the bundle with this position toggled
abbrev pub HasToggledWorths : (ℕ → Option ℤ) → ℕ → ℕ → List (Option ℤ) → Type 0
HasToggledWorths worth x wanted worths = (k : ℕ) → has wanted k ≡ true → get_or worths k None ≡ worth (toggle x k)
