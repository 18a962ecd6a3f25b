-- The exchange property: gross substitutes for what a firm buys and for what it sells, and complements across the
-- two sides (signed M-natural concavity: Murota, Discrete Convex Analysis, 2003, for firms that buy and sell).
use Rattle.std.specs.Prelude.{◌≡◌, ℕ, ℤ, ◌+ℤ◌, ◌≤ℤ◌, ◌<ℤ◌, ◌⊎◌, true, Option, Some, None}
use Rattle.tn_base.specs.Sets.{has, toggle}
use Rattle.tn_base.specs.Firm.{Firm, net, up, down}

-- both bundles are possible, and together they are worth at least the total
pub record AreEnough (firm : Firm) (x y : ℕ) (total : ℤ) : Type 0 where
  pub first : ℤ
  pub second : ℤ
  pub first_is : firm.worth x ≡ Some first
  pub second_is : firm.worth y ≡ Some second
  pub enough : total ≤ℤ (first +ℤ second)

-- some position of the down side can be toggled in both bundles, beside what is toggled already in x' and y'
pub record SwapsDown (firm : Firm) (x y x' y' : ℕ) (total : ℤ) : Type 0 where
  pub at : ℕ
  pub is_down : has (down firm.buys x y) at ≡ true
  pub enough : AreEnough firm (toggle x' at) (toggle y' at) total

-- x has the greater net count, and the bundles x' and y' with one position toggled are enough by themselves
pub record MovesAlone (firm : Firm) (x y x' y' : ℕ) (total : ℤ) : Type 0 where
  pub greater : net firm.buys y <ℤ net firm.buys x
  pub enough : AreEnough firm x' y' total

-- position i of the up side can be toggled in both, alone or with a position of the down side
abbrev pub Exchanges : Firm → ℕ → ℕ → ℤ → ℕ → Type 0
Exchanges firm x y total i = SwapsDown firm x y (toggle x i) (toggle y i) total
    ⊎ MovesAlone firm x y (toggle x i) (toggle y i) total

-- a firm meets exchange: for all possible bundles x and y
pub record MeetsExchange (firm : Firm) : Type 0 where
  -- each position of the up side exchanges
  pub one : (x y : ℕ) (a b : ℤ) → firm.worth x ≡ Some a → firm.worth y ≡ Some b
      → (i : ℕ) → has (up firm.buys x y) i ≡ true → Exchanges firm x y (a +ℤ b) i
  -- where y has the greater net count, some position of the down side can be toggled alone
  pub net_count : (x y : ℕ) (a b : ℤ) → firm.worth x ≡ Some a → firm.worth y ≡ Some b
      → net firm.buys x <ℤ net firm.buys y → SwapsDown firm x y x y (a +ℤ b)

-- what is wrong with x and y, both possible, at a position, or at none
abbrev pub IsWrongAt : Firm → ℕ → ℕ → ℤ → Option ℕ → Type 0
IsWrongAt firm x y total (Some i) = (has (up firm.buys x y) i ≡ true) × (Exchanges firm x y total i → ⊥)
IsWrongAt firm x y total None = (net firm.buys x <ℤ net firm.buys y) × (SwapsDown firm x y x y total → ⊥)

-- the triple of two bundles and a position, or none, fails
pub record Fails (firm : Firm) (x y : ℕ) (at : Option ℕ) : Type 0 where
  pub first : ℤ
  pub second : ℤ
  pub first_is : firm.worth x ≡ Some first
  pub second_is : firm.worth y ≡ Some second
  pub wrong : IsWrongAt firm x y (first +ℤ second) at

abbrev pub NoneFails : Firm → Type 0
NoneFails firm = (x y : ℕ) (at : Option ℕ) → Fails firm x y at → ⊥
