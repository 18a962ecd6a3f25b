-- The documents of the book as JSON values.
use Rattle.std.proofs.Common.{◌≡◌, ℕ, ◌-◌, ℤ, negsuc, List, [], ◌∷◌, get_or, Some, codes, refl}
use Rattle.std.specs.Str.{is_utf8, chars}
use lib.Utf8.{encode}
use Rattle.std.specs.Float.Numeral.{scan_numeral}
use Rattle.serde_json.specs.Data.{Data, object, Members, member, no_members, number, unsigned, negative, array, string}
use Rattle.serde_json.specs.Read.{number_of}
use Rattle.serde_json.specs.View.{items_of}
use Rattle.json.specs.Lex.{lex, punctuate}
use Rattle.json.specs.Json.{value}
use Rattle.json.specs.Text.{content}
use Rattle.json.specs.Word.{word, after_number}
use Rattle.tn_cases.specs.Book.{cases_of_the_book}
use Rattle.tn_cases.specs.Case.{CaseData}
use Rattle.tn_file.specs.Json.{json_of}

-- the case with a number from 1
abbrev pub numbered : ℕ → CaseData
numbered k = get_or cases_of_the_book (k - 1) (record { command = []; document = []; status = 0; text = [] })

abbrev pub list : List Data → Data
list values = array (items_of values)

abbrev pub text : List ℕ → Data
text name = string name

abbrev pub whole : ℕ → Data
whole n = number (unsigned n)

abbrev pub below_zero : ℤ → Data
below_zero z = number (negative z)

-- a list of names and a number
abbrev pub row : List Data → Data → Data
row names amount = list (list names ∷ amount ∷ [])

-- a name and a number
abbrev pub entry : Data → Data → Data
entry name amount = list (name ∷ amount ∷ [])

abbrev pub table : Data → List Data → Data
table name rows =
    object (member (codes "kind") (text (codes "table"))
    (member (codes "name") name (member (codes "rows") (list rows) no_members)))

abbrev pub laminar : Data → Members → Data
laminar name rest = object (member (codes "kind") (text (codes "laminar")) (member (codes "name") name rest))

abbrev pub trade : Data → Data → Data → Data
trade name seller buyer =
    object (member (codes "buyer") buyer (member (codes "name") name (member (codes "seller") seller no_members)))

abbrev pub firms_with : List Data → Members → Members
firms_with firms rest = member (codes "firms") (list firms) rest

abbrev pub trades_with : List Data → Members
trades_with trades = member (codes "trades") (list trades) (member (codes "version") (whole 1) no_members)

abbrev pub name_a : Data
name_a = text (codes "a")

abbrev pub name_b : Data
name_b = text (codes "b")

abbrev pub name_S : Data
name_S = text (codes "S")

abbrev pub name_M : Data
name_M = text (codes "M")

abbrev pub name_B : Data
name_B = text (codes "B")

abbrev pub deal_firms_data : List Data → List Data
deal_firms_data rows = table name_S rows ∷ table name_B (row (name_a ∷ []) (whole 5) ∷ []) ∷ []

abbrev pub deal_trades_data : List Data
deal_trades_data = trade name_a name_S name_B ∷ []

abbrev pub asks : ℤ → List Data
asks z = row (name_a ∷ []) (below_zero z) ∷ []

abbrev pub arranged : Members → List Data → Data
arranged part rows =
    object (member (codes "arrangement") (object part) (firms_with (deal_firms_data rows)
    (trades_with deal_trades_data)))

abbrev pub on_with : List Data → Members → Members
on_with names rest = member (codes "on") (list names) rest

abbrev pub prices_with : Data → Members
prices_with price = member (codes "prices") (list (entry name_a price ∷ [])) no_members

abbrev pub signed_with : Data → List Data → Data
signed_with over contracts =
    object (member (codes "contracts") (list contracts) (member (codes "over") over no_members))

abbrev pub judged : Data → List Data → List Data → Data
judged over contracts rows =
    object (firms_with (deal_firms_data rows) (member (codes "outcome") (signed_with over contracts)
    (trades_with deal_trades_data)))

abbrev pub top_1 : Data
top_1 = arranged (on_with (name_a ∷ []) (prices_with (whole 4))) (asks (negsuc 2))

abbrev pub top_2 : Data
top_2 = arranged (on_with (name_a ∷ []) (prices_with (whole 6))) (asks (negsuc 2))

abbrev pub top_3 : Data
top_3 = object (firms_with (table name_S (row [] (whole 7) ∷ []) ∷ table name_B [] ∷ []) (trades_with []))

abbrev pub firms_4 : List Data
firms_4 = object
    (member (codes "amounts") (list (entry name_a (below_zero (negsuc 0)) ∷ entry name_b (below_zero (negsuc 0)) ∷ []))
    (member (codes "kind") (text (codes "laminar")) (member (codes "name") name_S no_members)))
    ∷ table name_B (row (name_a ∷ []) (whole 0) ∷ row (name_b ∷ []) (whole 0) ∷ row (name_a ∷ name_b ∷ []) (whole 10) ∷
    [])
    ∷ []

abbrev pub top_4 : Data
top_4 = object (firms_with firms_4 (trades_with (trade name_a name_S name_B ∷ trade name_b name_S name_B ∷ [])))

abbrev pub firms_5 : List Data
firms_5 = table name_S (row (name_a ∷ []) (below_zero (negsuc 0)) ∷ [])
    ∷ table name_M (row [] (whole 0) ∷ row (name_a ∷ name_b ∷ []) (whole 5) ∷ [])
    ∷ table name_B (row (name_b ∷ []) (whole 6) ∷ [])
    ∷ []

abbrev pub top_5 : Data
top_5 = object (firms_with firms_5 (trades_with (trade name_a name_S name_M ∷ trade name_b name_M name_B ∷ [])))

abbrev pub firms_6 : List Data
firms_6 = laminar name_S no_members
    ∷ table name_M (row (text (codes "a1") ∷ text (codes "b1") ∷ []) (whole 5) ∷ row
    (text (codes "a2") ∷ text (codes "b2") ∷ []) (whole 5) ∷ [])
    ∷ laminar name_B no_members
    ∷ []

abbrev pub top_6 : Data
top_6 = object
    (firms_with firms_6
    (trades_with (trade (text (codes "a1")) name_S name_M ∷ trade (text (codes "a2")) name_S name_M ∷ trade
    (text (codes "b1")) name_M name_B ∷ trade (text (codes "b2")) name_M name_B ∷ [])))

abbrev pub top_7 : Data
top_7 = arranged (on_with (name_a ∷ []) no_members) []

abbrev pub top_8 : Data
top_8 = judged (whole 1) [] (asks (negsuc 4))

abbrev pub top_9 : Data
top_9 = judged (whole 1) (entry name_a (whole 2) ∷ []) (asks (negsuc 2))

abbrev pub top_10 : Data
top_10 = judged (whole 2) (entry name_a (whole 9) ∷ []) (asks (negsuc 2))

abbrev pub top_11 : Data
top_11 = arranged (on_with [] no_members) (asks (negsuc 2))

abbrev pub top_12 : Data
top_12 = object
    (member (codes "claim")
    (object (member (codes "answer") (text (codes "blocks"))
    (member (codes "contracts") (list (entry name_a (whole 9) ∷ [])) (member (codes "over") (whole 3) no_members))))
    (firms_with (deal_firms_data (asks (negsuc 2))) (member (codes "outcome") (signed_with (whole 1) [])
    (trades_with deal_trades_data))))

abbrev pub bytes_1 : List ℕ
bytes_1 = (numbered 1).document

pub tree_1 : json_of bytes_1 ≡ Some top_1
unfolding json_of is_utf8 chars encode lex punctuate value number_of content word after_number scan_numeral
tree_1 = refl

abbrev pub bytes_2 : List ℕ
bytes_2 = (numbered 2).document

pub tree_2 : json_of bytes_2 ≡ Some top_2
unfolding json_of is_utf8 chars encode lex punctuate value number_of content word after_number scan_numeral
tree_2 = refl

abbrev pub bytes_3 : List ℕ
bytes_3 = (numbered 3).document

pub tree_3 : json_of bytes_3 ≡ Some top_3
unfolding json_of is_utf8 chars encode lex punctuate value number_of content word after_number scan_numeral
tree_3 = refl

abbrev pub bytes_4 : List ℕ
bytes_4 = (numbered 4).document

pub tree_4 : json_of bytes_4 ≡ Some top_4
unfolding json_of is_utf8 chars encode lex punctuate value number_of content word after_number scan_numeral
tree_4 = refl

abbrev pub bytes_5 : List ℕ
bytes_5 = (numbered 5).document

pub tree_5 : json_of bytes_5 ≡ Some top_5
unfolding json_of is_utf8 chars encode lex punctuate value number_of content word after_number scan_numeral
tree_5 = refl

abbrev pub bytes_6 : List ℕ
bytes_6 = (numbered 6).document

pub tree_6 : json_of bytes_6 ≡ Some top_6
unfolding json_of is_utf8 chars encode lex punctuate value number_of content word after_number scan_numeral
tree_6 = refl

abbrev pub bytes_7 : List ℕ
bytes_7 = (numbered 7).document

pub tree_7 : json_of bytes_7 ≡ Some top_7
unfolding json_of is_utf8 chars encode lex punctuate value number_of content word after_number scan_numeral
tree_7 = refl

abbrev pub bytes_8 : List ℕ
bytes_8 = (numbered 8).document

pub tree_8 : json_of bytes_8 ≡ Some top_8
unfolding json_of is_utf8 chars encode lex punctuate value number_of content word after_number scan_numeral
tree_8 = refl

abbrev pub bytes_9 : List ℕ
bytes_9 = (numbered 9).document

pub tree_9 : json_of bytes_9 ≡ Some top_9
unfolding json_of is_utf8 chars encode lex punctuate value number_of content word after_number scan_numeral
tree_9 = refl

abbrev pub bytes_10 : List ℕ
bytes_10 = (numbered 10).document

pub tree_10 : json_of bytes_10 ≡ Some top_10
unfolding json_of is_utf8 chars encode lex punctuate value number_of content word after_number scan_numeral
tree_10 = refl

abbrev pub bytes_11 : List ℕ
bytes_11 = (numbered 11).document

pub tree_11 : json_of bytes_11 ≡ Some top_11
unfolding json_of is_utf8 chars encode lex punctuate value number_of content word after_number scan_numeral
tree_11 = refl

abbrev pub bytes_12 : List ℕ
bytes_12 = (numbered 12).document

pub tree_12 : json_of bytes_12 ≡ Some top_12
unfolding json_of is_utf8 chars encode lex punctuate value number_of content word after_number scan_numeral
tree_12 = refl
