-- A firm outside the market that takes a contract over: at a price it buys from the contract's seller, and sells to its
-- buyer.
use Rattle.std.specs.Prelude.{ℕ, Bool, ◌==◌, ℤ, pos, neg_ℤ, ◌+ℤ◌, if◌then◌else◌}
use Rattle.tn_base.specs.Firm.{Firm}
use Rattle.tn_firm_laws.specs.Additive.{additive}

-- it has two positions: the first is bought, and worth the price, and the second is sold, and costs the price
abbrev pub outside_amount : ℤ → ℕ → ℤ
outside_amount price k = if k == 0 then price else neg_ℤ price

abbrev pub outside : ℤ → Firm
outside price = additive 2 1 (outside_amount price)

-- the worth of a bundle, by its two positions
abbrev pub outside_sum : ℤ → Bool → Bool → ℤ
outside_sum price buys sells = (if buys then price else pos 0) +ℤ (if sells then neg_ℤ price else pos 0)
