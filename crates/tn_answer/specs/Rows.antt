-- The rows of an answer, for a spreadsheet. A table has a head, and a row for each trade or for each firm; a row has
-- fields, which are parted by commas in the text, and each row is a line.
use Rattle.std.specs.Prelude.{◌≡◌, ℕ, suc, ℤ, List, [], ◌∷◌, ◌++◌, Bool, false, Option, Some, None, ◌==◌, if◌then◌else◌, slice_get, get_or, unwrap_or, unsigned_abs, codes, flat_map}
use Rattle.std.specs.Fmt.{decimal, signed_decimal}
use Rattle.std.specs.List.{list_any}
use Rattle.csv.specs.Writing.{default_writer, row_text}
use Rattle.csv.specs.declared.writer.WriterBuilder.{WriterBuilder}
use Rattle.tn_model.specs.declared.ends.Ends.{Ends}
use Rattle.tn_said.specs.declared.holding.Holding.{Holding}
use Rattle.tn_model.specs.declared.range.Range.{Range}
use Rattle.tn_said.specs.declared.units.TradeUnits.{TradeUnits}
use Rattle.tn_said.specs.declared.units.UnitHolding.{UnitHolding}
use Rattle.tn_said.specs.declared.units.UnitRange.{UnitRange}
use Rattle.tn_names.specs.Names.{NameLists}

-- what a function of the number and the item makes of each item, the first one being number k
abbrev pub each_from : {A B : Type 0} → (ℕ → A → B) → ℕ → List A → List B
each_from f k [] = []
each_from f k (x ∷ xs) = f k x ∷ each_from f (suc k) xs

-- whether a number is listed
abbrev pub is_listed : List ℕ → ℕ → Bool
is_listed ks k = list_any (λ j. j == k) ks

-- how many units of a trade go: its count, by trade number
abbrev pub units_of : List ℕ → ℕ → ℕ
units_of counts k = get_or counts k 0

-- whether a gain is there and is nothing
abbrev pub is_nothing : Option ℤ → Bool
is_nothing None = false
is_nothing (Some gain) = unsigned_abs gain == 0

-- ---- fields

-- the name with a number, empty where there is none
abbrev pub name_text : List (List ℕ) → ℕ → List ℕ
name_text names k = unwrap_or (slice_get names k) []

-- 1 for yes, 0 for no
abbrev pub flag_text : Bool → List ℕ
flag_text flag = if flag then codes "1" else codes "0"

-- what the column `on` has for each trade: whether it is on, or how many units of it go
abbrev pub on_flags : List ℕ → ℕ → List ℕ
on_flags on k = flag_text (is_listed on k)

abbrev pub on_units : List ℕ → ℕ → List ℕ
on_units counts k = decimal (units_of counts k)

-- a number that may be none, and then the field is empty: a bound of prices, a gain
abbrev pub bound_text : Option ℤ → List ℕ
bound_text None = []
bound_text (Some z) = signed_decimal z

-- the texts of some items, with a blank between each two
abbrev pub spaced_text : {A : Type 0} → (A → List ℕ) → List A → List ℕ
spaced_text text [] = []
spaced_text text (x ∷ xs) = text x ++ flat_map (λ y. 32 ∷ text y) xs

-- the names with some numbers
abbrev pub bundle_text : List (List ℕ) → List ℕ → List ℕ
bundle_text names ks = spaced_text (name_text names) ks

-- the name of a trade, a colon, and how many units of it, and those of a bundle
abbrev pub entry_text : List (List ℕ) → TradeUnits → List ℕ
entry_text names entry = name_text names entry.trade ++ 58 ∷ decimal entry.units

abbrev pub unit_bundle_text : List (List ℕ) → List TradeUnits → List ℕ
unit_bundle_text names bundle = spaced_text (entry_text names) bundle

-- the names of a trade's seller and buyer
abbrev pub seller_text : List (List ℕ) → Option Ends → List ℕ
seller_text firms None = []
seller_text firms (Some trade) = name_text firms trade.seller

abbrev pub buyer_text : List (List ℕ) → Option Ends → List ℕ
buyer_text firms None = []
buyer_text firms (Some trade) = name_text firms trade.buyer

-- ---- rows

-- the head and the row of a trade: its name, what the column `on` has for it, and its price
abbrev pub price_head : List (List ℕ)
price_head = codes "trade" ∷ codes "on" ∷ codes "price" ∷ []

abbrev pub price_row : NameLists → (ℕ → List ℕ) → ℕ → ℤ → List (List ℕ)
price_row names on k price = name_text names.trades k ∷ on k ∷ signed_decimal price ∷ []

-- the same with who sells and who buys
abbrev pub deal_head : List (List ℕ)
deal_head = codes "trade" ∷ codes "seller" ∷ codes "buyer" ∷ codes "on" ∷ codes "price" ∷ []

abbrev pub deal_row : NameLists → (ℕ → List ℕ) → List Ends → ℕ → ℤ → List (List ℕ)
deal_row names on ends k price =
    name_text names.trades k ∷ seller_text names.firms (slice_get ends k) ∷ buyer_text names.firms (slice_get ends k) ∷
    on k ∷ signed_decimal price ∷ []

-- with the lowest and the highest price
abbrev pub range_head : List (List ℕ)
range_head = codes "trade" ∷ codes "seller" ∷ codes "buyer" ∷ codes "on" ∷ codes "low" ∷ codes "high" ∷ []

abbrev pub bounds_row : NameLists → (ℕ → List ℕ) → List Ends → ℕ → Option ℤ → Option ℤ → List (List ℕ)
bounds_row names on ends k low high =
    name_text names.trades k ∷ seller_text names.firms (slice_get ends k) ∷ buyer_text names.firms (slice_get ends k) ∷
    on k ∷ bound_text low ∷ bound_text high ∷ []

abbrev pub range_row : NameLists → (ℕ → List ℕ) → List Ends → ℕ → Range → List (List ℕ)
range_row names on ends k range = bounds_row names on ends k range.low range.high

abbrev pub unit_range_row : NameLists → (ℕ → List ℕ) → List Ends → ℕ → UnitRange → List (List ℕ)
unit_range_row names on ends k range = bounds_row names on ends k range.low range.high

-- and the row of a firm: its name, whether it is content, and what it has, its own bundle and a best one being given
abbrev pub firm_head : List (List ℕ)
firm_head = codes "firm" ∷ codes "content" ∷ codes "worth" ∷ codes "utility" ∷ codes "best_utility" ∷ codes "gain" ∷
    codes "has" ∷ codes "best" ∷ []

abbrev pub held_row : List (List ℕ) → ℕ → List ℕ → List ℕ → Option ℤ → Option ℤ → ℤ → Option ℤ → List (List ℕ)
held_row firms k has best worth utility best_utility gain =
    name_text firms k ∷ flag_text (is_nothing gain) ∷ bound_text worth ∷ bound_text utility ∷ signed_decimal
    best_utility ∷ bound_text gain ∷ has ∷ best ∷ []

abbrev pub firm_row : NameLists → ℕ → Holding → List (List ℕ)
firm_row names k holding =
    held_row names.firms k (bundle_text names.trades holding.has) (bundle_text names.trades holding.best) holding.worth
    holding.utility holding.best_utility holding.gain

abbrev pub unit_firm_row : NameLists → ℕ → UnitHolding → List (List ℕ)
unit_firm_row names k holding =
    held_row names.firms k (unit_bundle_text names.trades holding.has) (unit_bundle_text names.trades holding.best)
    holding.worth holding.utility holding.best_utility holding.gain

-- ---- tables

-- a head, and what a function makes of each item
abbrev pub table : {A : Type 0} → List (List ℕ) → (ℕ → A → List (List ℕ)) → List A → List (List (List ℕ))
table head row xs = head ∷ each_from row 0 xs

-- rows as text, each in the csv crate's default form
abbrev pub rows_text : List (List (List ℕ)) → List ℕ
rows_text rows = flat_map (row_text default_writer) rows

-- a csv writer has written this text, and is about to begin a row
pub record IsBetweenRows (written : Option (List ℕ)) (setup : WriterBuilder) (fields : ℕ) (wrote : Bool)
    (text : List ℕ) : Type 0 where
  pub text_is : written ≡ Some text
  pub default : setup ≡ default_writer
  pub no_field : fields ≡ 0
  pub none_wrote : wrote ≡ false
