-- Names and numbers as JSON values.
use Rattle.std.specs.Prelude.{ℕ, ℤ, List, [], map, slice_get, Option, None, Some, unwrap_or}
use Rattle.serde_json.specs.Data.{Data, null, number, string, array, unsigned}
use Rattle.serde_json.specs.Find.{of_integer}
use Rattle.serde_json.specs.View.{items_of}

-- the name with a number, and those with several
abbrev pub name_data : List (List ℕ) → ℕ → Data
name_data names k = string (unwrap_or (slice_get names k) [])

abbrev pub names_data : List (List ℕ) → List ℕ → Data
names_data names ks = array (items_of (map (name_data names) ks))

-- the name with a number, or null
abbrev pub option_data : List (List ℕ) → Option ℕ → Data
option_data names None = null
option_data names (Some k) = name_data names k

abbrev pub integer_data : ℤ → Data
integer_data z = number (of_integer z)

-- a number that may be none, which is null: a bound of prices, a gain
abbrev pub bound_data : Option ℤ → Data
bound_data None = null
bound_data (Some price) = integer_data price

-- numbers that aren't negative
abbrev pub numbers_data : List ℕ → Data
numbers_data numbers = array (items_of (map (λ n. number (unsigned n)) numbers))
