-- Numbers for the positions, however long the path is by which a bundle is matched.
use Rattle.std.specs.Prelude.{ℕ, Bool, true, not, ℤ, ◌+ℤ◌, ◌-ℤ◌, int_lt, if◌then◌else◌, List}
use Rattle.tn_base.specs.Sets.{has}
use Rattle.tn_dealer.specs.declared.pair.Pair.{Pair}
use Rattle.tn_dealer.specs.declared.row.PathNumbers.{PathNumbers}
use Rattle.tn_dealer.specs.Certificates.{KeepsPairs}
use Rattle.tn_market.specs.OwnNumbers.{own_number}

-- a number for a path so long, by that for no path and that for a path longer than all others: it rises by the distance,
-- but not above the far number, or falls by the distance, but not below it
abbrev pub number_to : Bool → ℤ → ℤ → ℤ → ℤ
number_to rises distance near far = if rises
    then (if int_lt far (near +ℤ distance) then far else near +ℤ distance)
    else (if int_lt far (near -ℤ distance) then near -ℤ distance else far)

-- the number of a position; those of purchases rise and those of sales fall, or the other way round
abbrev pub own_number_to : Bool → ℕ → ℤ → List ℤ → List ℤ → ℕ → ℤ
own_number_to bought_rise buys distance near far k =
    number_to (if bought_rise then has buys k else not (has buys k)) distance (own_number near k) (own_number far k)

-- for no path and for one longer than all others the numbers of no pair of the trades sum to more than its cost
pub record KeepPaths (pairs : List Pair) (numbers : PathNumbers) : Type 0 where
  pub near : KeepsPairs true (own_number numbers.near) numbers.within pairs
  pub far : KeepsPairs true (own_number numbers.far) numbers.within pairs
