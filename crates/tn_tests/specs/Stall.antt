-- A firm for tests: a stall that may buy one thing for 3 and sell another for 5, each by itself. It stands here, and in
-- public, since the laws of an impl may be cited only from the specs/ of its crate, and proofs read nothing private
-- there.
use Rattle.std.specs.Prelude.{ℕ, Bool, ◌==◌, if◌then◌else◌, ℤ, pos, negsuc, ◌+ℤ◌}
use Rattle.tn_base.specs.Firm.{Firm}
use Rattle.tn_firm_laws.specs.Additive.{additive}
use Rattle.tn_model.specs.declared.ends.Ends.{Ends}

-- position 0 is bought, and position 1 is sold
abbrev pub amounts : ℕ → ℤ
amounts k = if k == 0 then negsuc 2 else pos 5

abbrev pub stall : Firm
stall = additive 2 1 amounts

-- the amounts of a bundle, by its two positions
abbrev pub amounts_of : Bool → Bool → ℤ
amounts_of buys sells = (if buys then negsuc 2 else pos 0) +ℤ (if sells then pos 5 else pos 0)

-- a trade of one stall with another
abbrev pub trade_between : ℕ → ℕ → Ends
trade_between seller buyer = record { seller = seller; buyer = buyer; at_seller = 1; at_buyer = 0 }
