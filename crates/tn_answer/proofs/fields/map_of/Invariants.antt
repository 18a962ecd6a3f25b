-- What the loops of `map_of` of `src/fields.rt` keep.
use Rattle.std.proofs.Common.{◌≡◌, take}
use Rattle.serde_json.specs.View.{members_view}
use Rattle.tn_answer.specs.Fields.{members_of}
use Rattle.tn_answer.proofs.fields.map_of.Given as goal

abbrev pub invariant-loop-key : goal.invariant-loop-key
invariant-loop-key l = members_view l.map.entries ≡ members_of l.names (take l.key-index l.fields)
