-- A firm under a levy: its worths count a number of times, less a tax for each taxed position of a bundle.
use Rattle.std.specs.Prelude.{ℕ, ◌+◌, ◌*◌, ◌≤◌, ℤ, pos, neg_ℤ, ◌≤ℤ◌, unsigned_abs, if◌then◌else◌}
use Rattle.tn_base.specs.Sets.{has}
use Rattle.tn_base.specs.Firm.{Firm, plus_sum}
use Rattle.tn_market.specs.Widths.{most_limit}

-- what a position adds: minus the tax where it is taxed
abbrev pub levy : ℕ → ℤ → ℕ → ℤ
levy taxed tax k = if has taxed k then neg_ℤ tax else pos 0

-- the firm whose worths count `scale` times, less the tax for each taxed position
abbrev pub levied : ℤ → ℕ → ℤ → Firm → Firm
levied scale taxed tax firm = plus_sum scale (levy taxed tax) firm

-- a bound on the size of its worths, where the limit bounds those of the firm
abbrev pub levied_limit : ℤ → ℤ → ℕ → ℕ
levied_limit scale tax limit = unsigned_abs scale * limit + 64 * unsigned_abs tax

-- a scale and a tax that keep worths within 10^18
pub record IsLevy (scale tax : ℤ) (limit : ℕ) : Type 0 where
  pub from_one : pos 1 ≤ℤ scale
  pub from_zero : pos 0 ≤ℤ tax
  pub small : levied_limit scale tax limit ≤ most_limit
