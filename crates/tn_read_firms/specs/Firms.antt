-- The firms: each has a kind and the members of its kind, and meets the exchange property where it is tested.
use Rattle.std.specs.Prelude.{ℕ, ◌++◌, [], ◌∷◌, List, length, Bool, if◌then◌else◌, Option, Some, None, option_map, Result, Ok, Err}
use Rattle.serde_json.specs.Data.{Data}
use Rattle.tn_said.specs.declared.fault.FaultKind.TheVariants.{ExchangeFails}
use Rattle.tn_base.specs.Firm.{Firm}
use Rattle.tn_exchange.specs.Rows.{TableRows, firm_of_table}
use Rattle.tn_exchange.specs.TestOrder.{Triple}
use Rattle.tn_model.specs.declared.ends.Ends.{Ends}
use Rattle.tn_said.specs.declared.said.Fault.{Fault}
use Rattle.tn_said.specs.declared.said.Shown.{Shown}
use Rattle.tn_model.specs.Network.{own, trades_of}
use Rattle.tn_read_shapes.specs.Reading.{◌>>=◌}
use Rattle.tn_read_references.specs.Ordered.{Listed}
use Rattle.tn_read_shapes.specs.declared.members.FirmKind.{FirmKind}
use Rattle.tn_read_shapes.specs.declared.members.FirmKind.TheVariants.{Table, Laminar, Middleman, Dealer}
use Rattle.tn_read_references.specs.References.{firm_place}
use Rattle.tn_read_firms.specs.Kinds.{firm_kind_of, firm_frame_of}
use Rattle.tn_read_firms.specs.Tables.{table_of}
use Rattle.tn_read_firms.specs.Laminars.{laminar_of}
use Rattle.tn_read_firms.specs.Middlemen.{middle_of}
use Rattle.tn_read_firms.specs.Dealers.{dealer_of}
use Rattle.tn_read_firms.specs.FirstFailure.{first_failure}

-- a triple of firm f, which has so many own trades, in trade numbers
abbrev pub shown_of : List Ends → ℕ → ℕ → Triple → Shown
shown_of trades f count t = record {
  x = trades_of trades f count t.x;
  y = trades_of trades f count t.y;
  at =
      option_map (own trades f) t.at;
}

abbrev pub exchange_fault : List Ends → ℕ → ℕ → Triple → Fault
exchange_fault trades f count t = record {
  kind = ExchangeFails;
  place = firm_place f;
  shown =
      Some (shown_of trades f count t);
}

abbrev pub unless_failing : List Ends → ℕ → ℕ → Option Triple → Result (Unit {0}) Fault
unless_failing trades f count None = Ok tt
unless_failing trades f count (Some t) = Err (exchange_fault trades f count t)

-- the table of firm f meets exchange
unfoldable pub exchange_of : List Ends → ℕ → TableRows → Result (Unit {0}) Fault
exchange_of trades f table = unless_failing trades f (length table.sides) (first_failure table)

-- the firm of a table, which meets exchange where that is tested
unfoldable pub tested_firm : Bool → List Ends → ℕ → TableRows → Result Firm Fault
tested_firm tested trades f table = do
  met ← if tested then exchange_of trades f table else Ok tt
  Ok (firm_of_table table)

-- firm f of a kind; only a table has to be tested, since the others meet exchange by what they are
unfoldable pub firm_by : Bool → Listed → ℕ → FirmKind → Data → Result Firm Fault
firm_by tested listed f Table firm = do
  table ← table_of listed f firm
  tested_firm tested listed.ends f table
firm_by tested listed f Laminar firm = laminar_of listed f firm
firm_by tested listed f Middleman firm = middle_of listed f firm
firm_by tested listed f Dealer firm = dealer_of listed f firm

-- firm f
unfoldable pub document_firm : Bool → Listed → ℕ → Data → Result Firm Fault
document_firm tested listed f firm = do
  kind ← firm_kind_of f firm
  frame ← firm_frame_of listed f kind firm
  firm_by tested listed f kind firm

-- one more firm; its number is the count of those before it
unfoldable pub one_firm : Bool → Listed → List Firm → Data → Result (List Firm) Fault
one_firm tested listed firms firm = do
  next ← document_firm tested listed (length firms) firm
  Ok (firms ++ next ∷ [])
