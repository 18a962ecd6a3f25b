-- What is wrong with the sets of a laminar firm, and which of their faults is the first.
use Rattle.std.specs.Prelude.{◌≡◌, ℕ, ◌+◌, ◌-◌, ◌<◌, ◌≤◌, ℤ, pos, ◌+ℤ◌, ◌*ℤ◌, ◌<ℤ◌, List, length, get_or, slice_get, Option, Some, None, IsSome, IsNone}
use Rattle.tn_firm_laws.specs.Nested.{listed_from, Cross, IsConcaveList}
use Rattle.tn_laminar.specs.declared.set.LaminarSet.{LaminarSet}
use Rattle.tn_laminar.specs.declared.refusal.LaminarRefusal.{LaminarRefusal}
use Rattle.tn_laminar.specs.declared.refusal.LaminarRefusal.TheVariants.{NoEmpty, NotConcave, NotLaminar, OutOfMemory}

-- the set has a number at 0
abbrev pub HasEmpty : LaminarSet → Type 0
HasEmpty set = IsSome (listed_from set.low set.numbers (pos 0))

-- the number at a place is below the middle of its two neighbours
pub record IsBend (numbers : List ℤ) (place : ℕ) : Type 0 where
  pub after_first : 1 ≤ place
  pub before_last : place + 1 < length numbers
  pub below : (pos 2 *ℤ get_or numbers place (pos 0))
      <ℤ (get_or numbers (place - 1) (pos 0) +ℤ get_or numbers (place + 1) (pos 0))

-- the first such place
pub record IsFirstBend (numbers : List ℤ) (place : ℕ) : Type 0 where
  pub bend : IsBend numbers place
  pub first : (earlier : ℕ) → earlier < place → IsBend numbers earlier → ⊥

-- the set at a place crosses one that stands before it
pub record CrossesEarlier (sets : List LaminarSet) (k : ℕ) : Type 0 where
  pub at : ℕ
  pub earlier : LaminarSet
  pub set : LaminarSet
  pub before : at < k
  pub earlier_is : slice_get sets at ≡ Some earlier
  pub set_is : slice_get sets k ≡ Some set
  pub cross : Cross earlier.members set.members

-- the set at a place passes all three tests
pub record IsSound (sets : List LaminarSet) (k : ℕ) (set : LaminarSet) : Type 0 where
  pub empty : HasEmpty set
  pub concave : IsConcaveList set.numbers
  pub uncrossed : CrossesEarlier sets k → ⊥

-- so do all sets before a place
abbrev pub AreSoundBelow : List LaminarSet → ℕ → Type 0
AreSoundBelow sets k = (j : ℕ) (set : LaminarSet) → j < k → slice_get sets j ≡ Some set → IsSound sets j set

-- so do all sets
abbrev pub AreSound : List LaminarSet → Type 0
AreSound sets = (j : ℕ) (set : LaminarSet) → slice_get sets j ≡ Some set → IsSound sets j set

-- the first of the three tests that the set at a place fails
abbrev pub IsFaultOf : List LaminarSet → ℕ → LaminarSet → LaminarRefusal → Type 0
IsFaultOf sets k set (NoEmpty at) = (at ≡ k) × IsNone (listed_from set.low set.numbers (pos 0))
IsFaultOf sets k set (NotConcave at place) = (at ≡ k) × HasEmpty set × IsFirstBend set.numbers place
IsFaultOf sets k set (NotLaminar at) = (at ≡ k) × HasEmpty set × IsConcaveList set.numbers × CrossesEarlier sets k
IsFaultOf sets k set OutOfMemory = ⊥

-- the fault of the first set that has one
pub record IsFirstFault (sets : List LaminarSet) (refusal : LaminarRefusal) : Type 0 where
  pub at : ℕ
  pub set : LaminarSet
  pub set_is : slice_get sets at ≡ Some set
  pub fault : IsFaultOf sets at set refusal
  pub before : AreSoundBelow sets at

-- sets are refused for their first fault; memory may run out only where they have none
abbrev pub IsRefusedFor : List LaminarSet → LaminarRefusal → Type 0
IsRefusedFor sets (NoEmpty at) = IsFirstFault sets (NoEmpty at)
IsRefusedFor sets (NotConcave at place) = IsFirstFault sets (NotConcave at place)
IsRefusedFor sets (NotLaminar at) = IsFirstFault sets (NotLaminar at)
IsRefusedFor sets OutOfMemory = AreSound sets

-- the first place whose number is below the middle of its neighbours, or none in a concave list
abbrev pub GivesFirstBend : List ℤ → Option ℕ → Type 0
GivesFirstBend numbers None = IsConcaveList numbers
GivesFirstBend numbers (Some place) = IsFirstBend numbers place

-- the fault of the set at a place, or none
abbrev pub GivesFault : List LaminarSet → ℕ → Option LaminarRefusal → Type 0
GivesFault sets k None = (set : LaminarSet) → slice_get sets k ≡ Some set → IsSound sets k set
GivesFault sets k (Some refusal) = (set : LaminarSet) → slice_get sets k ≡ Some set → IsFaultOf sets k set refusal

-- the first fault of the sets, or none
abbrev pub GivesFirstFault : List LaminarSet → Option LaminarRefusal → Type 0
GivesFirstFault sets None = AreSound sets
GivesFirstFault sets (Some refusal) = IsFirstFault sets refusal
