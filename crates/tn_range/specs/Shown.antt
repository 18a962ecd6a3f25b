-- The ranges that least walks show.
use Rattle.std.specs.Prelude.{◌≡◌, ℕ, ◌<◌, ℤ, neg_ℤ, List, [], length, map, slice_get, Option, Some, None, option_map}
use Rattle.tn_cycle.specs.Reading.{Reading}
use Rattle.tn_cycle.specs.Answers.{distance_in, walk_in}
use Rattle.tn_model.specs.declared.range.Range.{Range}
use Rattle.tn_market.specs.Supported.{said_node}

-- the finder lets the same walks be read
pub record KeepsWalks (before after : Reading) : Type 0 where
  pub distances : after.distances ≡ before.distances
  pub walks : after.walks ≡ before.walks

-- the nodes of a walk as they are said, none where there is no walk
abbrev pub said_walk : ℕ → Option ℤ → List ℕ → List (Option ℕ)
said_walk null None nodes = []
said_walk null (Some cost) nodes = map (said_node null) nodes

-- the range of trade t by the least walks from null and those to null
abbrev pub range_by : ℕ → Reading → Reading → ℕ → Range
range_by null from_null to_null t = record {
  low = option_map neg_ℤ (distance_in to_null t);
  low_path = said_walk null (distance_in to_null t) (walk_in to_null t);
  high = distance_in from_null t;
  high_path = said_walk null (distance_in from_null t) (walk_in from_null t);
}

-- the ranges of the first trades, so many
pub record AreRangesBy (null count : ℕ) (from_null to_null : Reading) (ranges : List Range) : Type 0 where
  pub one_each : length ranges ≡ count
  pub each : (t : ℕ) → t < count → slice_get ranges t ≡ Some (range_by null from_null to_null t)
