-- The numbers that entries give to a firm's own trades.
use Rattle.std.proofs.Common.{ℕ, List, length, Option, arith, ◌≤◌}
use Rattle.std.specs.Prelude.{ℤ}
use Rattle.serde_json.specs.Data.{Data}
use Rattle.tn_model.specs.Limits.{most_own_trades}
use Rattle.tn_read_firms.specs.declared.own_numbers.OwnList.{OwnList}
use Rattle.tn_read_shapes.specs.Reading.{each}
use Rattle.tn_read_shapes.specs.Shapes.{optional_list_at}
use Rattle.tn_read_references.specs.Ordered.{Listed, sides_of, AreTrades}
use Rattle.tn_read_references.specs.References.{new_own}
use Rattle.tn_read_firms.specs.OwnNumbers.{one_own, own_list_place, own_numbers}
use Rattle.tn_read_shapes.proofs.LeadLemmas.{Leads, leads_ok, leads_bind, leads_after}
use Rattle.tn_read_references.proofs.ReferenceLeads.{new_own_leads}
use Rattle.tn_read_shapes.proofs.StopLemmas.{StopsPlainly, IsPlain, IsPlainPlace, stops_ok, stops_bind}
use Rattle.tn_read_shapes.proofs.ShapeStops.{optional_list_stops}
use Rattle.tn_read_references.proofs.ReferenceStops.{new_own_stops, RefersPlainly, entries_stop}
use Rattle.tn_read_references.proofs.EntryLeads.{AreNumbers, entries_lead}

pub own_numbers_lead : (listed : Listed) (list : OwnList) (count : ℕ) (numbers : List ℤ) (value : Option Data)
    → AreNumbers count listed.limits.amount numbers
    → Leads (AreNumbers count listed.limits.amount) (own_numbers listed list numbers value)
unfolding own_numbers
own_numbers_lead listed list count numbers value are =
    leads_after (AreNumbers count listed.limits.amount) (optional_list_at (own_list_place list) value) _ (λ entries.
    leads_bind (λ end. AreNumbers count listed.limits.amount end.numbers) (AreNumbers count listed.limits.amount)
    (each (one_own listed list) (record { named = 0; numbers = numbers }) entries) _
    (entries_lead (new_own listed list.firm list.side) (own_list_place list) count listed.limits.amount (record {
      named =
          0;
      numbers = numbers;
    }) entries are) (λ end so.
    leads_ok (AreNumbers count listed.limits.amount) end.numbers so))

module _ (listed : Listed) (trades : AreTrades listed) (list : OwnList) (few : length (sides_of listed.ends list.firm)
    ≤ most_own_trades) (plain : IsPlainPlace (own_list_place list)) where
  own_refers : RefersPlainly (length (sides_of listed.ends list.firm)) (new_own listed list.firm list.side)
  own_refers = record {
    stops = λ place named value at. new_own_stops place at listed list.firm list.side named value;
    below = λ place named value. new_own_leads listed trades list.firm list.side place named value;
  }

  pub own_numbers_stop : (numbers : List ℤ) (value : Option Data) → StopsPlainly (own_numbers listed list numbers value)
  unfolding own_numbers
  own_numbers_stop numbers value =
      stops_bind IsPlain (optional_list_at (own_list_place list) value) _
      (optional_list_stops (own_list_place list) plain value) (λ entries.
      stops_bind IsPlain (each (one_own listed list) (record { named = 0; numbers = numbers }) entries) _
      (entries_stop (length (sides_of listed.ends list.firm)) (omega (arith, few)) (new_own listed list.firm list.side)
      own_refers (own_list_place list) plain listed.limits.amount numbers entries) (λ end.
      stops_ok IsPlain end.numbers))
