-- No worth is large.
use Rattle.std.proofs.Common.{◌≡◌, ℕ, ℤ, Option, Some, None, sym, arith}
use Rattle.std.specs.Prelude.{IfSome}
use Rattle.tn_base.specs.Arcs.{IsAtMost}
use Rattle.tn_base.specs.Firm.{Firm}
use Rattle.tn_base.specs.Widths.{most_amount}
use Rattle.tn_market.specs.Lawful.{IsLawful}
use Rattle.tn_market.specs.Widths.{most_worth}
use Rattle.tn_market.proofs.AscentLemmas.{smaller}

-- a worth of a firm that may be asked
pub worth_small : (firm : Firm) (x : ℕ) (worth : Option ℤ) → IsLawful most_worth firm → worth ≡ firm.worth x
    → IfSome worth (λ z. IsAtMost z most_worth)
worth_small firm x None laws is = tt
worth_small firm x (Some z) laws is = laws.within x z (sym is)

-- an amount of a table
pub amount_small : (worth : Option ℤ) → IfSome worth (λ z. IsAtMost z most_amount)
    → IfSome worth (λ z. IsAtMost z most_worth)
amount_small None small = tt
amount_small (Some z) small = smaller z most_amount most_worth (omega arith) small
