-- Two and three trades at level 0 of a bundle, one by one.
use Rattle.std.specs.Prelude.{◌≡◌, ℕ, ◌<◌, ℤ, ◌+ℤ◌, ◌≤ℤ◌, ◌↔◌, ◌⊎◌, true}
use Rattle.tn_base.specs.Sets.{has, toggle}
use Rattle.tn_base.specs.Firm.{Firm}
use Rattle.tn_firm_laws.specs.Places.{trade_level}
use Rattle.tn_firm_laws.specs.Quads.{value}

-- a number is not above both of two others
abbrev pub IsNotAboveBoth : ℤ → ℤ → ℤ → Type 0
IsNotAboveBoth a b c = (a ≤ℤ b) ⊎ (a ≤ℤ c)

-- none of three numbers is above both others: the greatest stands at least twice
abbrev pub StandsTwice : ℤ → ℤ → ℤ → Type 0
StandsTwice a b c = IsNotAboveBoth a b c × IsNotAboveBoth b a c × IsNotAboveBoth c a b

-- a trade that z has at level 0
abbrev pub IsLow : ℕ → ℕ → ℕ → ℕ → Type 0
IsLow n buys z k = (k < n) × (trade_level buys z k ≡ 0)

-- z toggled at two trades, and z, are worth no more together than z toggled at each of them
abbrev pub PairExchanges : Firm → ℕ → ℕ → ℕ → Type 0
PairExchanges firm z a b = (value firm (toggle (toggle z a) b) +ℤ value firm z)
    ≤ℤ (value firm (toggle z a) +ℤ value firm (toggle z b))

-- of what z toggled at two of three trades and z toggled at the third are worth together, the greatest stands twice
abbrev pub ThreeExchange : Firm → ℕ → ℕ → ℕ → ℕ → Type 0
ThreeExchange firm z a b c = StandsTwice
    (value firm (toggle (toggle z a) b) +ℤ value firm (toggle z c))
    (value firm (toggle (toggle z a) c) +ℤ value firm (toggle z b))
    (value firm (toggle (toggle z b) c) +ℤ value firm (toggle z a))

-- so it is for two trades and each one at level 0 above them
abbrev pub ThirdsExchange : Firm → ℕ → ℕ → ℕ → Type 0
ThirdsExchange firm z a b = (c : ℕ) → b < c → IsLow firm.count firm.buys z c → ThreeExchange firm z a b c

-- for two trades alone, too
abbrev pub TwoExchange : Firm → ℕ → ℕ → ℕ → Type 0
TwoExchange firm z a b = PairExchanges firm z a b × ThirdsExchange firm z a b

-- and for one and any above it
abbrev pub OneExchanges : Firm → ℕ → ℕ → Type 0
OneExchanges firm z a = (b : ℕ) → a < b → IsLow firm.count firm.buys z b → TwoExchange firm z a b

-- the set of the trades at level 0
abbrev pub AreLowTrades : ℕ → ℕ → ℕ → ℕ → Type 0
AreLowTrades n buys z low = (k : ℕ) → k < n → (has low k ≡ true) ↔ IsLow n buys z k
