-- The firm to which its trades are independent of each other.
use Rattle.std.specs.Prelude.{ℕ, ◌^◌, nat_lt, ℤ, if◌then◌else◌, Some, None}
use Rattle.tn_base.specs.Sets.{sum_over}
use Rattle.tn_base.specs.Firm.{Firm}

-- every bundle of own positions is possible, and worth the sum of a number for each of its positions
abbrev pub additive : ℕ → ℕ → (ℕ → ℤ) → Firm
additive count buys c = record {
  count = count;
  buys = buys;
  worth = λ x. if nat_lt x (2 ^ count) then Some (sum_over c count x) else None;
}
