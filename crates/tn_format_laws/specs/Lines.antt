-- That an answer is one line, and one with rows a line for each row.
use Rattle.std.specs.Prelude.{◌≡◌, ◌≢◌, ℕ, List, [], ◌∷◌, ◌++◌, length, flat_map, All, Bool, true, false, Some, None}
use Rattle.tn_said.specs.declared.said.Said.{Said}
use Rattle.tn_said.specs.declared.said.Said.TheVariants.{Page}
use Rattle.tn_names.specs.Names.{IsNameList, NameLists}
use Rattle.tn_answer.specs.AnswerText.{answer_line, answer_table}
use Rattle.tn_answer.specs.declared.layout.Layout.{Layout}
use Rattle.tn_answer.specs.declared.layout.Layout.TheVariants.{Object}

-- one line feed, at the end
pub record IsOneLine (text : List ℕ) : Type 0 where
  pub line : List ℕ
  pub is : text ≡ line ++ 10 ∷ []
  pub unbroken : All (λ byte. byte ≢ 10) line

-- whether an answer is a page of the program about itself, which has many lines
abbrev pub is_page : Said → Bool
is_page (Page page) = true
is_page said = false

-- every answer but a page is one line over any names: as an object, and in each layout in which it has no rows
pub record AnswersAreOneLine : Type 0 where
  pub as_object : (names : NameLists) (said : Said) → is_page said ≡ false → IsOneLine (answer_line Object names said)
  pub without_rows : (layout : Layout) (names : NameLists) (said : Said) → is_page said ≡ false
      → answer_table names said layout ≡ None → IsOneLine (answer_line layout names said)

-- so many lines, each with its line feed at its end
pub record AreLines (text : List ℕ) (count : ℕ) : Type 0 where
  pub lines : List (List ℕ)
  pub counted : length lines ≡ count
  pub are : text ≡ flat_map (λ line. line ++ 10 ∷ []) lines
  pub unbroken : All (λ line. All (λ byte. byte ≢ 10) line) lines

-- every table is a line for each of its rows, the head among them, over names that keep the rule
abbrev pub RowsAreLines : Type 0
RowsAreLines = (layout : Layout) (names : NameLists) (said : Said) (rows : List (List (List ℕ)))
    → IsNameList names.firms → IsNameList names.trades → answer_table names said layout ≡ Some rows
    → AreLines (answer_line layout names said) (length rows)
