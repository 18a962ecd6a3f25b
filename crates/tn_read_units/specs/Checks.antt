-- What is tested of the sets of a firm once all are read.
use Rattle.std.specs.Prelude.{ℕ, ◌+◌, ◌++◌, [], ◌∷◌, ℤ, pos, neg_ℤ, ◌+ℤ◌, ◌-ℤ◌, int_lt, nat_lt, List, length, Bool, false, not, ◌==◌, ◌&&◌, if◌then◌else◌, Option, Some, None, Result, Ok, Err}
use Rattle.std.specs.List.{count_by, list_all, list_any}
use Rattle.tn_base.specs.Sets.{has, meet, minus}
use Rattle.tn_links.specs.declared.link.Step.{Step}
use Rattle.tn_said.specs.declared.fault.FaultKind.TheVariants.{Limit, NoEmpty, NotConcave, NotLaminar}
use Rattle.tn_said.specs.declared.place.PlaceStep.TheVariants.{Index}
use Rattle.tn_said.specs.declared.place.Word.{Word}
use Rattle.tn_said.specs.declared.place.Word.TheVariants.{Bought, Sold, Values}
use Rattle.tn_said.specs.declared.said.Fault.{Fault}
use Rattle.tn_read_shapes.specs.Reading.{◌>>=◌, fault, holds}
use Rattle.tn_read_units.specs.Limits.{most_holding_sets}
use Rattle.tn_read_units.specs.Sets.{SetNumbers, WrittenSet}
use Rattle.tn_read_units.specs.Steps.{part_place, set_place}
use Rattle.tn_read_units.specs.declared.steps.SetAt.{SetAt}

-- whether a step adds more than the one before it
abbrev pub rises : Option Step → Step → Bool
rises None step = false
rises (Some before) step = int_lt before.each step.each

-- the first step that adds more than the one before it, of steps after another one, whose first has place k
abbrev pub first_rise : ℕ → Option Step → List Step → Option ℕ
first_rise k before [] = None
first_rise k before (step ∷ steps) = if rises before step then Some k else first_rise (k + 1) (Some step) steps

abbrev pub unless_rising : SetAt → Word → Option ℕ → Result (Unit {0}) Fault
unless_rising at word None = Ok tt
unless_rising at word (Some k) = Err (fault NotConcave (part_place at word ++ Index k ∷ Index 1 ∷ []))

-- whether the first unit bought and the first unit sold add more than nothing together
abbrev pub rises_at_none : List Step → List Step → Bool
rises_at_none (bought ∷ _) (sold ∷ _) = int_lt (pos 0) (bought.each +ℤ sold.each)
rises_at_none _ _ = false

-- further units never add more
unfoldable pub check_steps : SetAt → WrittenSet → Result (Unit {0}) Fault
check_steps at set = do
  bought ← unless_rising at Bought (first_rise 0 None set.bought)
  sold ← unless_rising at Sold (first_rise 0 None set.sold)
  holds NotConcave (part_place at Sold ++ Index 0 ∷ Index 1 ∷ []) (not (rises_at_none set.bought set.sold))

-- what the unit between two numbers adds, where there is a number before
abbrev pub between : Option ℤ → ℤ → List Step
between None number = []
between (Some before) number = record { units = 1; each = number -ℤ before } ∷ []

-- what each unit adds by a list of numbers, which may come after another one
abbrev pub steps_after : Option ℤ → List ℤ → List Step
steps_after before [] = []
steps_after before (number ∷ numbers) = between before number ++ steps_after (Some number) numbers

abbrev pub unless_bent : SetAt → Option ℕ → Result (Unit {0}) Fault
unless_bent at None = Ok tt
unless_bent at (Some k) = Err (fault NotConcave (part_place at Values ++ Index k ∷ []))

-- whether one of the numbers is for the net count 0
abbrev pub has_none : SetNumbers → Bool
has_none set = not (int_lt (pos 0) set.low) && int_lt (neg_ℤ set.low) (pos (length set.numbers))

-- there is a number for the net count 0, and further units never add more: a place is that between two units
unfoldable pub check_numbers : SetAt → SetNumbers → Result (Unit {0}) Fault
check_numbers at set = do
  none ← holds NoEmpty (set_place at) (has_none set)
  unless_bent at (first_rise 0 None (steps_after None set.numbers))

abbrev pub check_form : SetAt → WrittenSet → Option SetNumbers → Result (Unit {0}) Fault
check_form at set None = check_steps at set
check_form at set (Some numbers) = check_numbers at numbers

-- two sets have a trade in common, and neither contains the other
abbrev pub crosses : WrittenSet → WrittenSet → Bool
crosses set other = not (meet set.members.named other.members.named == 0)
    && not (minus other.members.named set.members.named == 0) && not (minus set.members.named other.members.named == 0)

-- how many of some sets have a trade
abbrev pub holding : List WrittenSet → ℕ → ℕ
holding sets t = count_by (λ set. has set.members.named t) sets

-- a set of firm f after earlier ones is concave, crosses none of them, and none of its trades is in too many
unfoldable pub check_set : SetAt → List WrittenSet → WrittenSet → Result (Unit {0}) Fault
check_set at earlier set = do
  concave ← check_form at set set.numbers
  nested ← holds NotLaminar (set_place at) (not (list_any (crosses set) earlier))
  holds Limit (set_place at) (list_all (λ t. nat_lt (holding earlier t) most_holding_sets) set.members.trades)

-- so is each set of a list after earlier ones
abbrev pub check_sets : ℕ → List WrittenSet → List WrittenSet → Result (Unit {0}) Fault
check_sets f earlier [] = Ok tt
check_sets f earlier (set ∷ sets) = do
  met ← check_set (record { firm = f; set = length earlier }) earlier set
  check_sets f (earlier ++ set ∷ []) sets
