-- What shows the clauses of `bundles_are_sets` of `src/laws.rt`.
use Rattle.tn_base.proofs.SetLemmas.{same_set, has-zero, has-toggle_same, has-toggle_other, has-union, has-meet, has-minus, member_of_set}
use Rattle.tn_base.proofs.SizeLemmas.{size_at}
use Rattle.tn_base.proofs.LimbLemmas.{has-limb}
use Rattle.tn_base.proofs.laws.bundles_are_sets.Goals as goal

pub returns : goal.returns
returns c = record {
  same = same_set;
  empty = has-zero;
  toggled = has-toggle_same;
  others = has-toggle_other;
  either = has-union;
  both = has-meet;
  without = has-minus;
  made = member_of_set;
  counted = size_at;
  worded = has-limb;
}
