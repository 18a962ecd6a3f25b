-- What the tables are that reading gives.
use Rattle.std.proofs.Common.{arith, ◌≡◌, ◌≢◌, ℕ, ◌+◌, ◌^◌, ◌<◌, ◌≤◌, Bool, true, false, cond, List, [], ◌∷◌, ◌++◌, length, Option, Some, None, refl, sym, ap, subst, ◌∙◌}
use Rattle.std.specs.Prelude.{ℤ, nat_eq, nat_le, ◌||◌, is_none, codes, All}
use Rattle.std.proofs.lemmas.Bool.{eq-eqb, ne_eqb}
use Rattle.std.proofs.lemmas.List.Elements.{All-nil, All-push}
use Rattle.serde_json.specs.Data.{Data, Items}
use Rattle.serde_json.specs.Find.{get}
use Rattle.tn_base.specs.Arcs.{IsAtMost}
use Rattle.tn_base.specs.Widths.{most_amount}
use Rattle.tn_base.specs.Table.{row_of as row_in, table_firm}
use Rattle.tn_base.specs.declared.side.Side.{Side}
use Rattle.tn_said.specs.declared.fault.FaultKind.TheVariants.{Limit, SameBundle}
use Rattle.tn_exchange.specs.Rows.{TableRows, IsTableWithinLimits, firm_of_table, row_at, with_row, without_rows}
use Rattle.tn_exchange.specs.RowsLaw.{AreApart}
use Rattle.tn_exchange.proofs.RowLemmas.{IsMadeOf, limits_with_row, limits_without_rows, made_of_none, made_with_row, made_firm}
use Rattle.tn_local.specs.First.{IsFullIfLarge}
use Rattle.tn_model.specs.declared.limits.Limits.{Limits}
use Rattle.tn_model.specs.declared.ends.Ends.{Ends}
use Rattle.tn_said.specs.declared.place.PlaceStep.TheVariants.{Index, Key}
use Rattle.tn_said.specs.declared.place.Word.TheVariants.{Rows as RowsWord}
use Rattle.tn_read_shapes.specs.Reading.{each, holds}
use Rattle.tn_read_shapes.specs.Shapes.{list_at, two_at, number_at}
use Rattle.tn_read_references.specs.Ordered.{Listed, sides_of, AreTrades}
use Rattle.tn_read_references.specs.References.{firm_place, bundle_at}
use Rattle.tn_read_firms.specs.Tables.{RowsRead, full_if_large, has_each_row, row_place, table_row_of, one_row, rows_of, table_of}
use Rattle.tn_read_firms.proofs.FullLemmas.{full_from_test}
use Rattle.tn_read_references.proofs.EntryLeads.{within_more}
use Rattle.tn_read_references.proofs.ReferenceLeads.{bundle_leads}
use Rattle.tn_read_shapes.proofs.ShapeLeads.{number_leads}
use Rattle.tn_read_shapes.proofs.LeadLemmas.{Leads, leads_ok, leads_as, leads_bind, leads_after, leads_each, leads_holds}

-- the table of firm f is a list of numbers for bundles of its own trades, no bundle twice; a large one has every bundle
pub record IsTableOf (limits : Limits) (trades : List Ends) (f : ℕ) (table : TableRows) : Type 0 where
  pub sides : table.sides ≡ sides_of trades f
  pub few : length (sides_of trades f) ≤ limits.own_of_table
  pub full : IsFullIfLarge (firm_of_table table)
  pub within : IsTableWithinLimits table
  pub rows : List (ℕ × ℤ)
  pub small : All (λ row. IsAtMost row.1 limits.amount) rows
  pub apart : AreApart (length (sides_of trades f)) rows
  pub is : firm_of_table table ≡ table_firm (sides_of trades f) rows

-- one row more, for a bundle that has none yet
row_in-append_none : (rows : List (ℕ × ℤ)) (next : ℕ × ℤ) (x : ℕ) → row_in rows x ≡ None → next.0 ≢ x
    → row_in (rows ++ next ∷ []) x ≡ None
row_in-append_none [] next x none differ = rw (ne_eqb next.0 x differ) refl
row_in-append_none (row ∷ rows) next x none differ = by_test (nat_eq row.0 x) none (row_in-append_none rows next x)
  where
    by_test : (b : Bool) → cond b (Some row.1) (row_in rows x) ≡ None
        → (row_in rows x ≡ None → next.0 ≢ x → row_in (rows ++ next ∷ []) x ≡ None)
        → cond b (Some row.1) (row_in (rows ++ next ∷ []) x) ≡ None
    by_test true none rest = absurd (cc)
    by_test false none rest = rest none differ

apart_push : (n : ℕ) (rows : List (ℕ × ℤ)) (next : ℕ × ℤ) → AreApart n rows → next.0 < 2 ^ n → row_in rows next.0 ≡ None
    → AreApart n (rows ++ next ∷ [])
apart_push n [] next apart own none = (own, refl, tt)
apart_push n (row ∷ rows) next apart own none =
    let differ : next.0 ≢ row.0 =
    λ same. not_there (ap (λ b. cond b (Some row.1) (row_in rows next.0)) (sym (eq-eqb row.0 next.0 (sym same)))
    ∙ none) in (
      apart.0,
      row_in-append_none rows next row.0 apart.1 differ,
      apart_push n rows next apart.2 own (rest (nat_eq row.0 next.0) none),
    )
  where
    not_there : Some row.1 ≡ None → ⊥
    not_there e = absurd (cc)

    rest : (b : Bool) → cond b (Some row.1) (row_in rows next.0) ≡ None → row_in rows next.0 ≡ None
    rest true e = absurd (cc)
    rest false e = e

pub none_from : (row : Option ℤ) → is_none row ≡ true → row ≡ None
none_from None e = refl
none_from (Some z) e = absurd (cc)

full_leads : (f : ℕ) (table : TableRows) → length table.rows ≡ 2 ^ length table.sides
    → Leads (λ _. IsFullIfLarge (firm_of_table table)) (full_if_large f table)
unfolding full_if_large
full_leads f table places =
    leads_as (λ _. (nat_le (length table.sides) 10 || has_each_row table.rows) ≡ true)
    (λ _. IsFullIfLarge (firm_of_table table)) _ (λ u met. full_from_test table places met)
    (leads_holds Limit (firm_place f ++ Key RowsWord ∷ []) (nat_le (length table.sides) 10 || has_each_row table.rows))

module _ (listed : Listed) (trades : AreTrades listed) (f : ℕ) where
  -- a row is on own trades, and its number is small
  pub record IsOwnRow (row : ℕ × ℤ) : Type 0 where
    pub own : row.0 < 2 ^ length (sides_of listed.ends f)
    pub small : IsAtMost row.1 listed.limits.amount

  pub row_leads : (r : ℕ) (row : Data) → Leads IsOwnRow (table_row_of listed f r row)
  unfolding table_row_of
  row_leads r row =
      leads_after IsOwnRow (two_at (row_place f r) row) _ (λ two.
      leads_bind (λ b. b < 2 ^ length (sides_of listed.ends f)) IsOwnRow
      (bundle_at listed f (row_place f r ++ Index 0 ∷ []) (Some two.0)) _
      (bundle_leads listed trades f (row_place f r ++ Index 0 ∷ []) (Some two.0)) (λ b own.
      leads_bind (λ z. IsAtMost z listed.limits.amount) IsOwnRow
      (number_at listed.limits.amount (row_place f r ++ Index 1 ∷ []) two.1) _
      (number_leads listed.limits.amount (row_place f r ++ Index 1 ∷ []) (Some two.1)) (λ z small.
      leads_ok IsOwnRow (b, z) (record { own = own; small = small }))))

  -- the rows so far
  pub record AreRows (rows : RowsRead) : Type 0 where
    pub sides : rows.table.sides ≡ sides_of listed.ends f
    pub few : length (sides_of listed.ends f) ≤ listed.limits.own_of_table
    pub within : IsTableWithinLimits rows.table
    pub listed_rows : List (ℕ × ℤ)
    pub small : All (λ row. IsAtMost row.1 listed.limits.amount) listed_rows
    pub apart : AreApart (length (sides_of listed.ends f)) listed_rows
    pub made : IsMadeOf rows.table listed_rows

  pub rows_start : length (sides_of listed.ends f) ≤ listed.limits.own_of_table
      → AreRows (record { count = 0; table = without_rows (sides_of listed.ends f) })
  rows_start few = record {
    sides = refl;
    few = few;
    within = limits_without_rows (sides_of listed.ends f) (omega (arith, few, trades.limits.own_of_table));
    listed_rows = [];
    small = All-nil (λ row. IsAtMost row.1 listed.limits.amount);
    apart = tt;
    made = made_of_none (sides_of listed.ends f);
  }

  pub one_row_leads : (rows : RowsRead) (row : Data) → AreRows rows → Leads AreRows (one_row listed f rows row)
  unfolding one_row
  one_row_leads rows row kept =
      leads_bind IsOwnRow AreRows (table_row_of listed f rows.count row) _ (row_leads rows.count row) (λ next is_own.
      leads_bind (λ _. is_none (row_at rows.table.rows next.0) ≡ true) AreRows
      (holds SameBundle (row_place f rows.count) (is_none (row_at rows.table.rows next.0))) _
      (leads_holds SameBundle (row_place f rows.count) (is_none (row_at rows.table.rows next.0))) (λ u new.
      leads_ok AreRows (record { count = rows.count + 1; table = with_row rows.table next.0 next.1 })
      (more next is_own (none_from (row_at rows.table.rows next.0) new))))
    where
      more : (next : ℕ × ℤ) → IsOwnRow next → row_at rows.table.rows next.0 ≡ None
          → AreRows (record { count = rows.count + 1; table = with_row rows.table next.0 next.1 })
      more next is_own none =
          let own : next.0 < 2 ^ length rows.table.sides =
          subst (λ (s : List Side). next.0 < 2 ^ length s) (sym kept.sides) is_own.own in
          let absent : row_in kept.listed_rows next.0 ≡ None = sym (kept.made next.0) ∙ none in
          record {
            sides = kept.sides;
            few = kept.few;
            within = limits_with_row rows.table kept.within next.0 next.1 own
                (within_more next.1 listed.limits.amount most_amount trades.limits.amount is_own.small);
            listed_rows = kept.listed_rows ++ next ∷ [];
            small = All-push (λ row. IsAtMost row.1 listed.limits.amount) kept.listed_rows next kept.small
                is_own.small;
            apart = apart_push (length (sides_of listed.ends f)) kept.listed_rows next kept.apart is_own.own absent;
            made = made_with_row rows.table kept.listed_rows next.0 next.1
                (subst (λ m. next.0 < m) (sym kept.within.places) own) absent kept.made;
          }

  pub rows_lead : (items : Items) → length (sides_of listed.ends f) ≤ listed.limits.own_of_table
      → Leads (IsTableOf listed.limits listed.ends f) (rows_of listed f items)
  unfolding rows_of
  rows_lead items few =
      let is_table = IsTableOf listed.limits listed.ends f in
      leads_bind AreRows is_table (each (one_row listed f) (record {
        count = 0;
        table =
            without_rows (sides_of listed.ends f);
      }) items) _
      (leads_each AreRows (one_row listed f) one_row_leads (record {
        count = 0;
        table =
            without_rows (sides_of listed.ends f);
      }) items (rows_start few))
      (λ rows kept.
      leads_bind (λ _. IsFullIfLarge (firm_of_table rows.table)) is_table (full_if_large f rows.table) _
      (full_leads f rows.table kept.within.places) (λ u full.
      leads_ok is_table rows.table (record {
        sides = kept.sides;
        few = kept.few;
        full = full;
        within = kept.within;
        rows = kept.listed_rows;
        small = kept.small;
        apart = kept.apart;
        is = made_firm rows.table kept.listed_rows kept.within.places kept.made
            ∙ ap (λ (s : List Side). table_firm s kept.listed_rows) kept.sides;
      })))

  pub table_leads : (firm : Data) → length (sides_of listed.ends f) ≤ listed.limits.own_of_table
      → Leads (IsTableOf listed.limits listed.ends f) (table_of listed f firm)
  unfolding table_of
  table_leads firm few =
      leads_after (IsTableOf listed.limits listed.ends f)
      (list_at (firm_place f ++ Key RowsWord ∷ []) (get (codes "rows") firm)) _ (λ items. rows_lead items few)
