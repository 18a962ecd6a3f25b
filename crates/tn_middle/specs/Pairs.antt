-- A middleman: a good that is bought and sold on, or kept.
use Rattle.std.specs.Prelude.{ℕ, zero, suc, ◌^◌, ◌<◌, ◌≤◌, nat_lt, ℤ, pos, ◌+ℤ◌, if◌then◌else◌, List, length, All, Option, Some, None, option_map, ◌≡◌}
use Rattle.std.specs.Option.{ForSome}
use Rattle.tn_base.specs.Arcs.{IsAtMost}
use Rattle.tn_base.specs.Sets.{meet, minus, size, sum_over}
use Rattle.tn_base.specs.Firm.{Firm, payments}
use Rattle.tn_base.specs.Table.{buys_of}
use Rattle.tn_base.specs.declared.side.Side.{Side}
use Rattle.tn_market.specs.Widths.{most_own}
use Rattle.tn_base.specs.Widths.{most_amount}
use Rattle.tn_market.specs.OwnNumbers.{own_number}

-- the worth of so many purchases and sales, by the gains of these sales less the costs of these purchases: no trade is
-- worth 0; a purchase alone may be kept, where that is worth something; a purchase goes with a sale; and nothing else
-- is possible
abbrev pub by_counts : ℕ → ℕ → Option ℤ → ℤ → Option ℤ
by_counts zero zero keep balance = Some (pos 0)
by_counts zero (suc sales) keep balance = None
by_counts (suc zero) zero keep balance = option_map (λ number. number +ℤ balance) keep
by_counts (suc zero) (suc zero) keep balance = Some balance
by_counts (suc zero) (suc (suc sales)) keep balance = None
by_counts (suc (suc purchases)) sales keep balance = None

abbrev pub pair_worth : ℕ → ℕ → List ℤ → Option ℤ → ℕ → Option ℤ
pair_worth count buys numbers keep x =
    if nat_lt x (2 ^ count)
    then by_counts (size (meet x buys)) (size (minus x buys)) keep
    (sum_over (payments buys (own_number numbers)) count x)
    else None

abbrev pub pairing : ℕ → ℕ → List ℤ → Option ℤ → Firm
pairing count buys numbers keep = record { count = count; buys = buys; worth = pair_worth count buys numbers keep }

abbrev pub middle_firm : List Side → List ℤ → Option ℤ → Firm
middle_firm sides numbers keep = pairing (length sides) (buys_of sides) numbers keep

-- what every middleman keeps
pub record IsMiddle (count buys : ℕ) (numbers : List ℤ) (keep : Option ℤ) : Type 0 where
  pub few : count ≤ most_own
  pub bought : buys < 2 ^ count
  pub as_many : length numbers ≡ count
  pub small : All (λ a. IsAtMost a most_amount) numbers
  pub small_keep : ForSome keep (λ a. IsAtMost a most_amount)
