-- What the limits of a version allow there is room for.
use Rattle.std.proofs.Common.{◌≡◌, ℕ, ◌≤◌, Bool, true, false, cond, List, Some, None, subst, arith}
use Rattle.std.specs.Prelude.{nat_eq, get_or, All}
use Rattle.std.proofs.lemmas.Option.{none-some, same_Some}
use Rattle.tn_base.specs.Widths.{most_amount}
use Rattle.tn_laminar.specs.declared.set.LaminarSet.{LaminarSet}
use Rattle.tn_laminar.specs.Sum.{HasNumbersWithin}
use Rattle.tn_model.specs.Limits.{AreLimits, few_trades, limits_of, limits_of_many, limits_with, most_from}
use Rattle.tn_model.specs.declared.limits.Limits.{Limits}
use Rattle.tn_read_shapes.specs.declared.members.FirmKind.{FirmKind}
use Rattle.tn_read_shapes.specs.declared.members.FirmKind.TheVariants.{Table, Laminar, Middleman, Dealer}
use Rattle.tn_read_references.proofs.EntryLeads.{all_within, within_more}
use Rattle.tn_read_firms.specs.Kinds.{most_own_of_kind, room_for}
use Rattle.tn_read_firms.specs.Laws.{HasFewNumbers}

pub own_room : (limits : Limits) → AreLimits limits → (kind : FirmKind) → most_own_of_kind limits kind ≤ room_for kind
own_room limits are Table = are.own_of_table
own_room limits are Laminar = are.own
own_room limits are Middleman = are.own
own_room limits are Dealer = are.own

numbers_room : (limits : Limits) → AreLimits limits → (set : LaminarSet) → HasFewNumbers limits set
    → HasNumbersWithin set
numbers_room limits are set has = record {
  low = within_more set.low limits.from most_from are.from has.low;
  few = omega (arith, has.few, are.values);
  small = all_within limits.amount most_amount set.numbers are.amount has.small;
}

pub sets_room : (limits : Limits) → AreLimits limits → (sets : List LaminarSet) → All (HasFewNumbers limits) sets
    → All HasNumbersWithin sets
sets_room limits are sets have = λ k d below. numbers_room limits are (get_or sets k d) (have k d below)

-- each version allows a set
pub a_set_is_allowed : (version : ℕ) (limits : Limits) → limits_of version ≡ Some limits → 1 ≤ limits.sets
unfolding limits_of
a_set_is_allowed version limits e = by (nat_eq version 1) (nat_eq version 2) (nat_eq version 3) e
  where
    by : (first second third : Bool) → cond first (Some (limits_with 64)) (cond second (Some (limits_with few_trades))
        (cond third (Some limits_of_many) None)) ≡ Some limits → 1 ≤ limits.sets
    by true second third is = subst (λ (l : Limits). 1 ≤ l.sets) (same_Some _ _ is) (omega arith)
    by false true third is = subst (λ (l : Limits). 1 ≤ l.sets) (same_Some _ _ is) (omega arith)
    by false false true is = subst (λ (l : Limits). 1 ≤ l.sets) (same_Some _ _ is) (omega arith)
    by false false false is = absurd (none-some _ is)
