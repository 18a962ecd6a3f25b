-- What a lot on its way round a cycle keeps.
use Rattle.std.proofs.Common.{◌≡◌, ◌<◌, drop, length}
use Rattle.tn_links.specs.Lots.{pushed}
use Rattle.tn_links.proofs.push.push_round.Given as goal

-- the rest of the way leads to the same levels
abbrev pub invariant-loop-k : goal.invariant-loop-k
invariant-loop-k l = record {
  one_each : length l.levels ≡ length l.links.links.items;
  inside : l.at < l.links.nodes;
  rest : pushed l.links.links.items l.lot l.levels l.at (drop l.k l.nodes) l.first
      ≡ pushed l.links.links.items l.lot l.fn.levels l.first (drop 1 l.nodes) l.first;
}
