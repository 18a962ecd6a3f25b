-- The answer of `test`: whether every firm meets the exchange property.
use Rattle.std.specs.Prelude.{List, length}
use Rattle.tn_base.specs.Firm.{Firm}
use Rattle.tn_cert.specs.Reasons.{MeetBefore, IsFirstToFail}
use Rattle.tn_model.specs.declared.ends.Ends.{Ends}
use Rattle.tn_said.specs.declared.said.Said.{Said}
use Rattle.tn_said.specs.declared.said.Said.TheVariants.{Accepted, ExchangeFails}

-- every firm meets exchange, or one is the first that fails
abbrev pub Tests : List Firm → List Ends → Said → Type 0
Tests firms trades Accepted = MeetBefore firms (length firms)
Tests firms trades (ExchangeFails f x y at) = IsFirstToFail firms trades f x y at
Tests firms trades said = ⊥
