-- The names of firms and of trades, and the rule that a name keeps.
use Rattle.std.specs.Prelude.{◌≡◌, ℕ, ◌≤◌, Bool, true, ◌==◌, ◌&&◌, ◌||◌, nat_le, List, [], ◌∷◌, ◌++◌, length, slice_get, Option, Some, position, bytes_eq}
use Rattle.std.specs.List.{list_all, list_any}

-- there is room for so many names of firms, and as many of trades
abbrev pub most_names : ℕ
most_names = 4096

-- a name has at most so many characters
abbrev pub most_letters : ℕ
most_letters = 32

abbrev pub is_between : ℕ → ℕ → ℕ → Bool
is_between low high byte = nat_le low byte && nat_le byte high

-- an ASCII letter, an ASCII digit, '_', '-' or '.'
abbrev pub is_name_byte : ℕ → Bool
is_name_byte byte = is_between 97 122 byte || is_between 65 90 byte || is_between 48 57 byte || byte == 95 || byte == 45
    || byte == 46

-- a name has at least one and at most so many such characters
abbrev pub is_name : List ℕ → Bool
is_name name = is_between 1 most_letters (length name) && list_all is_name_byte name

-- the names of firms and those of trades, each in first-seen order
pub record NameLists : Type 0 where
  pub firms : List (List ℕ)
  pub trades : List (List ℕ)

abbrev pub no_names : NameLists
no_names = record { firms = []; trades = [] }

abbrev pub with_firm : NameLists → List ℕ → NameLists
with_firm names name = record { firms = names.firms ++ name ∷ []; trades = names.trades }

abbrev pub with_trade : NameLists → List ℕ → NameLists
with_trade names name = record { firms = names.firms; trades = names.trades ++ name ∷ [] }

-- whether a name is there
abbrev pub has_name : List (List ℕ) → List ℕ → Bool
has_name names name = list_any (bytes_eq name) names

-- where a name is, none where it isn't there
abbrev pub number_of : List (List ℕ) → List ℕ → Option ℕ
number_of names name = position (bytes_eq name) names

-- the names keep the rule, and no name is there twice
pub record IsNameList (names : List (List ℕ)) : Type 0 where
  pub few : length names ≤ most_names
  pub named : (k : ℕ) (name : List ℕ) → slice_get names k ≡ Some name → is_name name ≡ true
  pub once : (j k : ℕ) (name : List ℕ) → slice_get names j ≡ Some name → slice_get names k ≡ Some name → j ≡ k
