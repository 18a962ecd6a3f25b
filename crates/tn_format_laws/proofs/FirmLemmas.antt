-- Firms read within two records of limits.
use Rattle.std.proofs.Common.{ℕ, ℤ, List, Bool, refl}
use Rattle.std.specs.Prelude.{◌++◌, [], ◌∷◌, codes, length, nat_le, unsigned_abs, Option, None, Some}
use Rattle.serde_json.specs.Data.{Data, Items, array, boolean, null, number, object, string}
use Rattle.serde_json.specs.Events.{items_len}
use Rattle.serde_json.specs.Find.{get}
use Rattle.tn_base.specs.Firm.{Firm}
use Rattle.tn_base.specs.declared.side.Side.{Side}
use Rattle.tn_base.specs.declared.side.Side.TheVariants.{Buy, Sell}
use Rattle.tn_dealer.specs.declared.pair.Pair.{Pair}
use Rattle.tn_exchange.specs.Rows.{without_rows}
use Rattle.tn_laminar.specs.declared.set.LaminarSet.{LaminarSet}
use Rattle.tn_model.specs.declared.ends.Ends.{Ends}
use Rattle.tn_model.specs.declared.limits.Limits.{Limits}
use Rattle.tn_names.specs.Names.{NameLists}
use Rattle.tn_said.specs.declared.place.PlaceStep.{PlaceStep}
use Rattle.tn_said.specs.declared.place.PlaceStep.TheVariants.{Index, Key}
use Rattle.tn_said.specs.declared.place.Word.TheVariants.{Amounts, Costs, From, Gains, Keep, Sets, Trades, Values}
use Rattle.tn_read_shapes.specs.declared.members.FirmKind.{FirmKind}
use Rattle.tn_read_shapes.specs.declared.members.FirmKind.TheVariants.{Dealer, Laminar, Middleman, Table}
use Rattle.tn_read_shapes.specs.declared.members.ObjectKind.TheVariants.{Firm as FirmObject, LaminarSet as LaminarSetObject}
use Rattle.tn_read_shapes.specs.Reading.{each}
use Rattle.tn_read_shapes.specs.Shapes.{object_of, optional_list_at, three_at, two_at, whole_at}
use Rattle.tn_read_references.specs.Entries.{Numbered}
use Rattle.tn_read_references.specs.Ordered.{Listed, sides_of}
use Rattle.tn_read_references.specs.References.{firm_place, new_own}
use Rattle.tn_read_firms.specs.Dealers.{dealer_of, one_pair, pair_of, pair_place, pairs_place}
use Rattle.tn_read_firms.specs.Firms.{document_firm, firm_by, one_firm}
use Rattle.tn_read_firms.specs.Kinds.{firm_frame_of, firm_kind_of, most_own_of_kind}
use Rattle.tn_read_firms.specs.Laminars.{laminar_of, laminar_set_of, low_at, one_set, one_value, set_place, sets_at, values_at}
use Rattle.tn_read_firms.specs.Middlemen.{keep_at, middle_of}
use Rattle.tn_read_firms.specs.OwnNumbers.{no_numbers, one_own, own_list_place, own_numbers}
use Rattle.tn_read_firms.specs.Tables.{RowsRead, one_row, row_place, rows_of, table_of, table_row_of}
use Rattle.tn_format_laws.proofs.MeetLemmas.{Agree, after, all, count_agrees, few_agree, next, number_agrees, same}
use Rattle.tn_format_laws.proofs.ReferenceLemmas as references

module _ (names : NameLists) (ends : List Ends) (a b : Limits) where
  abbrev here : Listed
  here = references.here names ends a b

  abbrev there : Listed
  there = references.there names ends a b

  -- ---- numbers of own trades

  module _ (f : ℕ) (member : PlaceStep) (side : Option Side) where
    own_entry_agrees : (numbered : Numbered) (entry : Data)
        → Agree (one_own here (record { firm = f; member = member; side = side }) numbered entry)
        (one_own there (record { firm = f; member = member; side = side }) numbered entry)
    own_entry_agrees numbered entry =
        references.one_entry_agrees (new_own here f side) (new_own there f side) a.amount b.amount
        (references.own_agrees names ends a b f side)
        (own_list_place (record { firm = f; member = member; side = side })) numbered entry

    numbers_agree : (numbers : List ℤ) (value : Option Data)
        → Agree (own_numbers here (record { firm = f; member = member; side = side }) numbers value)
        (own_numbers there (record { firm = f; member = member; side = side }) numbers value)
    unfolding own_numbers
    numbers_agree numbers value =
        after (optional_list_at (own_list_place (record { firm = f; member = member; side = side })) value) _ _
        (λ entries.
        next _ _ _ _ (all (one_own here (record { firm = f; member = member; side = side }))
        (one_own there (record { firm = f; member = member; side = side })) own_entry_agrees
        (record { named = 0; numbers = numbers }) entries) (λ numbered. same _))

  -- ---- tables

  row_agrees : (f r : ℕ) (row : Data) → Agree (table_row_of here f r row) (table_row_of there f r row)
  unfolding table_row_of
  row_agrees f r row =
      after (two_at (row_place f r) row) _ _ (λ two.
      next _ _ _ _ (references.bundle_agrees names ends a b f (row_place f r ++ Index 0 ∷ []) (Some two.0)) (λ bundle.
      next _ _ _ _ (number_agrees a.amount b.amount (row_place f r ++ Index 1 ∷ []) (Some two.1)) (λ amount. same _)))

  one_row_agrees : (f : ℕ) (rows : RowsRead) (row : Data) → Agree (one_row here f rows row) (one_row there f rows row)
  unfolding one_row
  one_row_agrees f rows row = next _ _ _ _ (row_agrees f rows.count row) (λ found. same _)

  rows_agree : (f : ℕ) (items : Items) → Agree (rows_of here f items) (rows_of there f items)
  unfolding rows_of
  rows_agree f items =
      next _ _ _ _ (all (one_row here f) (one_row there f) (one_row_agrees f)
      (record { count = 0; table = without_rows (sides_of ends f) }) items) (λ rows. same _)

  table_agrees : (f : ℕ) (firm : Data) → Agree (table_of here f firm) (table_of there f firm)
  unfolding table_of
  table_agrees f firm = after _ _ _ (λ items. rows_agree f items)

  -- ---- laminar firms

  low_agrees : (place : List PlaceStep) (value : Option Data) → Agree (low_at a place value) (low_at b place value)
  unfolding low_at
  low_agrees place value =
      after (whole_at place value) _ _ (λ low.
      next _ _ _ _ (count_agrees place (nat_le (unsigned_abs low) a.from) (nat_le (unsigned_abs low) b.from))
      (λ near. same _))

  value_agrees : (f s : ℕ) (numbers : List ℤ) (value : Data)
      → Agree (one_value a f s numbers value) (one_value b f s numbers value)
  unfolding one_value
  value_agrees f s numbers value =
      next _ _ _ _ (number_agrees a.amount b.amount (set_place f s ++ Key Values ∷ Index (length numbers) ∷ [])
      (Some value)) (λ number. same _)

  values_agree : (f s : ℕ) (value : Option Data) → Agree (values_at a f s value) (values_at b f s value)
  unfolding values_at
  values_agree f s value =
      next _ _ _ _ (few_agree a.values b.values (set_place f s ++ Key Values ∷ []) value _ refl) (λ values.
      all (one_value a f s) (one_value b f s) (value_agrees f s) [] values)

  set_agrees : (f s : ℕ) (set : Data) → Agree (laminar_set_of here f s set) (laminar_set_of there f s set)
  unfolding laminar_set_of
  set_agrees f s set =
      after (object_of LaminarSetObject (set_place f s) (Some set)) _ _ (λ object.
      next _ _ _ _ (references.bundle_agrees names ends a b f (set_place f s ++ Key Trades ∷ [])
      (get (codes "trades") set)) (λ members.
      next _ _ _ _ (low_agrees (set_place f s ++ Key From ∷ []) (get (codes "from") set)) (λ low.
      next _ _ _ _ (values_agree f s (get (codes "values") set)) (λ numbers. same _))))

  one_set_agrees : (f : ℕ) (sets : List LaminarSet) (set : Data)
      → Agree (one_set here f sets set) (one_set there f sets set)
  unfolding one_set
  one_set_agrees f sets set = next _ _ _ _ (set_agrees f (length sets) set) (λ found. same _)

  sets_agree : (f : ℕ) (value : Option Data) → Agree (sets_at here f value) (sets_at there f value)
  unfolding sets_at
  sets_agree f value =
      after (optional_list_at (firm_place f ++ Key Sets ∷ []) value) _ _ (λ sets.
      next _ _ _ _ (count_agrees (firm_place f ++ Key Sets ∷ []) (nat_le (items_len sets) a.sets)
      (nat_le (items_len sets) b.sets)) (λ few.
      all (one_set here f) (one_set there f) (one_set_agrees f) [] sets))

  laminar_agrees : (f : ℕ) (firm : Data) → Agree (laminar_of here f firm) (laminar_of there f firm)
  unfolding laminar_of
  laminar_agrees f firm =
      next _ _ _ _ (numbers_agree f (Key Amounts) None (no_numbers ends f) (get (codes "amounts") firm)) (λ amounts.
      next _ _ _ _ (sets_agree f (get (codes "sets") firm)) (λ sets. same _))

  -- ---- middlemen

  kept_agrees : (place : List PlaceStep) (value : Data)
      → Agree (keep_at a place (Some value)) (keep_at b place (Some value))
  kept_agrees place null = same _
  kept_agrees place (boolean t) = next _ _ _ _ (number_agrees a.amount b.amount place (Some (boolean t))) (λ z. same _)
  kept_agrees place (number n) = next _ _ _ _ (number_agrees a.amount b.amount place (Some (number n))) (λ z. same _)
  kept_agrees place (string s) = next _ _ _ _ (number_agrees a.amount b.amount place (Some (string s))) (λ z. same _)
  kept_agrees place (array ds) = next _ _ _ _ (number_agrees a.amount b.amount place (Some (array ds))) (λ z. same _)
  kept_agrees place (object ms) = next _ _ _ _ (number_agrees a.amount b.amount place (Some (object ms))) (λ z. same _)

  keep_agrees : (place : List PlaceStep) (value : Option Data) → Agree (keep_at a place value) (keep_at b place value)
  keep_agrees place None = same _
  keep_agrees place (Some value) = kept_agrees place value

  middle_agrees : (f : ℕ) (firm : Data) → Agree (middle_of here f firm) (middle_of there f firm)
  unfolding middle_of
  middle_agrees f firm =
      next _ _ _ _ (numbers_agree f (Key Costs) (Some Buy) (no_numbers ends f) (get (codes "costs") firm)) (λ costs.
      next _ _ _ _ (numbers_agree f (Key Gains) (Some Sell) costs (get (codes "gains") firm)) (λ numbers.
      next _ _ _ _ (keep_agrees (firm_place f ++ Key Keep ∷ []) (get (codes "keep") firm)) (λ keep. same _)))

  -- ---- dealers

  pair_agrees : (f k : ℕ) (entry : Data) → Agree (pair_of here f k entry) (pair_of there f k entry)
  unfolding pair_of
  pair_agrees f k entry =
      after (three_at (pair_place f k) entry) _ _ (λ three.
      next _ _ _ _ (references.position_agrees names ends a b f (Some Buy) (pair_place f k ++ Index 0 ∷ []) three.0)
      (λ buy.
      next _ _ _ _ (references.position_agrees names ends a b f (Some Sell) (pair_place f k ++ Index 1 ∷ []) three.1)
      (λ sell.
      next _ _ _ _ (number_agrees a.amount b.amount (pair_place f k ++ Index 2 ∷ []) (Some three.2)) (λ cost. same _))))

  one_pair_agrees : (f : ℕ) (pairs : List Pair) (entry : Data)
      → Agree (one_pair here f pairs entry) (one_pair there f pairs entry)
  unfolding one_pair
  one_pair_agrees f pairs entry = next _ _ _ _ (pair_agrees f (length pairs) entry) (λ found. same _)

  dealer_agrees : (f : ℕ) (firm : Data) → Agree (dealer_of here f firm) (dealer_of there f firm)
  unfolding dealer_of
  dealer_agrees f firm =
      after (optional_list_at (pairs_place f) (get (codes "pairs") firm)) _ _ (λ entries.
      next _ _ _ _ (all (one_pair here f) (one_pair there f) (one_pair_agrees f) [] entries) (λ pairs. same _))

  -- ---- firms

  frame_agrees : (f : ℕ) (kind : FirmKind) (firm : Data)
      → Agree (firm_frame_of here f kind firm) (firm_frame_of there f kind firm)
  unfolding firm_frame_of
  frame_agrees f kind firm =
      after (object_of (FirmObject kind) (firm_place f) (Some firm)) _ _ (λ object.
      count_agrees (firm_place f) (nat_le (length (sides_of ends f)) (most_own_of_kind a kind))
      (nat_le (length (sides_of ends f)) (most_own_of_kind b kind)))

  kind_agrees : (tested : Bool) (f : ℕ) (kind : FirmKind) (firm : Data)
      → Agree (firm_by tested here f kind firm) (firm_by tested there f kind firm)
  unfolding firm_by
  kind_agrees tested f Table firm = next _ _ _ _ (table_agrees f firm) (λ table. same _)
  kind_agrees tested f Laminar firm = laminar_agrees f firm
  kind_agrees tested f Middleman firm = middle_agrees f firm
  kind_agrees tested f Dealer firm = dealer_agrees f firm

  firm_agrees : (tested : Bool) (f : ℕ) (firm : Data)
      → Agree (document_firm tested here f firm) (document_firm tested there f firm)
  unfolding document_firm
  firm_agrees tested f firm =
      after (firm_kind_of f firm) _ _ (λ kind.
      next _ _ _ _ (frame_agrees f kind firm) (λ frame. kind_agrees tested f kind firm))

  one_firm_agrees : (tested : Bool) (firms : List Firm) (firm : Data)
      → Agree (one_firm tested here firms firm) (one_firm tested there firms firm)
  unfolding one_firm
  one_firm_agrees tested firms firm = next _ _ _ _ (firm_agrees tested (length firms) firm) (λ found. same _)

  pub firms_agree : (tested : Bool) (items : Items)
      → Agree (each (one_firm tested here) [] items) (each (one_firm tested there) [] items)
  firms_agree tested items = all (one_firm tested here) (one_firm tested there) (one_firm_agrees tested) [] items
