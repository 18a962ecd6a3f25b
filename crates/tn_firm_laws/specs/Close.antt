-- Bundles that are close to each other, and exchange between them.
use Rattle.std.specs.Prelude.{◌≡◌, ℕ, ◌+◌, ◌-ℤ◌, nat_abs, Option}
use Rattle.tn_base.specs.Sets.{minus, size}
use Rattle.tn_base.specs.Firm.{Firm, net, HasOwnBundles}
use Rattle.tn_base.specs.Every.{HasEveryBundle}
use Rattle.tn_base.specs.Exchange.{Fails, NoneFails}

-- the count of positions in just one of two bundles, plus the size of the difference of their net counts
unfoldable pub distance : ℕ → ℕ → ℕ → ℕ
distance buys x y = size (minus x y) + size (minus y x) + nat_abs (net buys x -ℤ net buys y)

-- two bundles are close where this is 4
abbrev pub AreClose : ℕ → ℕ → ℕ → Type 0
AreClose buys x y = distance buys x y ≡ 4

-- no triple with close bundles fails
abbrev pub NoneCloseFails : Firm → Type 0
NoneCloseFails firm = (x y : ℕ) (at : Option ℕ) → AreClose firm.buys x y → Fails firm x y at → ⊥

-- where every bundle of own positions is possible, and none else, close bundles decide: if none of their triples fails,
-- none at all does
abbrev pub ClosePairsDecide : Type 0
ClosePairsDecide = (firm : Firm) → HasOwnBundles firm → HasEveryBundle firm → NoneCloseFails firm → NoneFails firm
