-- The firms of a residual market.
use Rattle.std.specs.Prelude.{ℕ, unsigned_abs}
use Rattle.tn_base.specs.Firm.{Firm}
use Rattle.tn_market.specs.Levied.{levied, levied_limit}
use Rattle.tn_market.specs.Outside.{outside}
use Rattle.tn_market.specs.declared.valuation.Valuation.{Ghosts}
use Rattle.tn_market.specs.declared.party.Party.{Party}
use Rattle.tn_market.specs.declared.party.Party.TheVariants.{Firm as Member, Outside}

-- the firm that a party is: one of the market under its levy, or one outside it
abbrev pub party_firm : {V M : Type 0} (market : Ghosts V M) → Party V M market → Firm
party_firm market (Member v) = levied v.scale v.taxed v.tax (market.firm v.inner.now)
party_firm market (Outside out) = outside out.price

-- a bound on the size of its worths
abbrev pub party_limit : {V M : Type 0} (market : Ghosts V M) → Party V M market → ℕ
party_limit market (Member v) = levied_limit v.scale v.tax (unsigned_abs v.worth)
party_limit market (Outside out) = unsigned_abs out.price
