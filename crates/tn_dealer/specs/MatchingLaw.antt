-- What a dealer's bundles are worth, in terms of matchings.
use Rattle.std.specs.Prelude.{◌≡◌, ℕ, pos, List, length, All, Some}
use Rattle.tn_base.specs.Table.{buys_of}
use Rattle.tn_base.specs.declared.side.Side.{Side}
use Rattle.tn_dealer.specs.declared.pair.Pair.{Pair}
use Rattle.tn_dealer.specs.Pairs.{IsOwnPair, dealer_firm}
use Rattle.tn_dealer.specs.Matchings.{IsWorthOfLeast}

pub record IsMatched (sides : List Side) (pairs : List Pair) : Type 0 where
  -- no trade is worth 0
  pub empty : (dealer_firm sides pairs).worth 0 ≡ Some (pos 0)
  -- a bundle is worth minus the least sum of the costs of pairs that match its purchases one to one with its sales
  pub least : (x : ℕ) → IsWorthOfLeast pairs x ((dealer_firm sides pairs).worth x)

abbrev pub DealersMatch : Type 0
DealersMatch = (sides : List Side) (pairs : List Pair) → All (IsOwnPair (length sides) (buys_of sides)) pairs
    → IsMatched sides pairs
