-- Four places at a time: exchange of a firm to which every bundle is possible.
use Rattle.std.specs.Prelude.{◌≡◌, ◌≢◌, ℕ, ◌+◌, ◌^◌, ◌<◌, ◌≤◌, ℤ, pos, ◌+ℤ◌, ◌≤ℤ◌, ◌↔◌, ◌⊎◌, Option, Some, None}
use Rattle.tn_base.specs.Firm.{Firm, HasOwnBundles}
use Rattle.tn_base.specs.Every.{HasEveryBundle}
use Rattle.tn_firm_laws.specs.Places.{trade_level, move}
use Rattle.tn_firm_laws.specs.Close.{NoneCloseFails}

-- a number, and 0 for none
abbrev pub number : Option ℤ → ℤ
number (Some a) = a
number None = pos 0

-- what a bundle is worth, and 0 where it is impossible
unfoldable pub value : Firm → ℕ → ℤ
value firm x = number (firm.worth x)

-- a trade that z has at level 0, or null, for which both n and n + 1 stand: it may be taken twice
abbrev pub IsFree : ℕ → ℕ → ℕ → ℕ → Type 0
IsFree n buys z p = (p ≤ n + 1) × (p < n → trade_level buys z p ≡ 0)

-- four of them, all different
pub record AreFourFree (n buys z p q r s : ℕ) : Type 0 where
  pub free : IsFree n buys z p × IsFree n buys z q × IsFree n buys z r × IsFree n buys z s
  pub apart : (p ≢ q) × (p ≢ r) × (p ≢ s) × (q ≢ r) × (q ≢ s) × (r ≢ s)

-- what z toggled at two places and z toggled at two others are worth together
abbrev pub parted : Firm → ℕ → ℕ → ℕ → ℕ → ℕ → ℤ
parted firm z p q r s = value firm (move firm.count z p q) +ℤ value firm (move firm.count z r s)

-- of the three sums of four free places, none is above both others: the greatest stands at least twice
abbrev pub QuadsExchangeAt : Firm → ℕ → Type 0
QuadsExchangeAt firm z = (p q r s : ℕ) → AreFourFree firm.count firm.buys z p q r s
    → (parted firm z p q r s ≤ℤ parted firm z p r q s) ⊎ (parted firm z p q r s ≤ℤ parted firm z p s q r)

-- that is so at every bundle of own positions
abbrev pub QuadsExchange : Firm → Type 0
QuadsExchange firm = (z : ℕ) → z < 2 ^ firm.count → QuadsExchangeAt firm z

-- where every bundle of own positions is possible, and none else, this is so exactly where no triple of close bundles
-- fails
abbrev pub QuadsDecide : Type 0
QuadsDecide = (firm : Firm) → HasOwnBundles firm → HasEveryBundle firm → QuadsExchange firm ↔ NoneCloseFails firm
