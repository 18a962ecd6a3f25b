-- What shows the clauses of `read_document` of `src/network.rt`.
use Rattle.std.proofs.Common.{◌≡◌, sym, subst, ◌∙◌, List, map, [], length, true, Ok, arith}
use Rattle.std.proofs.lemmas.List.{length-map}
use Rattle.serde_json.specs.View.{view, items_view}
use Rattle.serde_json.specs.Events.{items_len}
use Rattle.tn_firm.specs.Firms.{firm_of}
use Rattle.tn_model.specs.Network.{IsNetwork}
use Rattle.tn_model.specs.declared.ends.Ends.{Ends}
use Rattle.tn_read_shapes.specs.Reading.{each}
use Rattle.tn_read_firms.specs.Firms.{one_firm}
use Rattle.tn_read_shapes.proofs.ShapeLemmas.{items_len_is}
use Rattle.tn_read_firms.proofs.FirmLeads.{network_from_reading, firms_are_counted}
use Rattle.tn_file.specs.Parts.{AreTested}
use Rattle.tn_file.proofs.DocumentLeads.{tested_from}
use Rattle.tn_file.proofs.network.read_document.Goals as goal

pub new-requires-clause-few_firms : goal.new-requires-clause-few_firms
new-requires-clause-few_firms c =
    let listed = c.in_ok-head.head in
    let trades = c.in_ok-head.ensures.trades in
    let made = c.in-Ok-Market.made.items in
    let items = items_view c.in_ok-head.firms.now in
    let given : each (one_firm true listed) [] items ≡ Ok (map firm_of made) =
    subst (AreTested listed items) c.in-Ok-Market.field-0-is (tested_from c.args.command listed items
    (view c.args.top.now) c.in-Ok-Market.field-0 c.in-Ok-Market.ensures.gives c.in-Ok-Market.ensures.asked) in
    let count : length (map firm_of made) ≡ items_len items =
    (firms_are_counted true listed trades items).at (map firm_of made) given in
    omega (
      arith,
      count,
      length-map made firm_of,
      items_len_is c.in_ok-head.firms.now,
      c.in_ok-head.ensures.count,
      trades.few_firms,
      trades.limits.firms,
    )

pub new-requires-clause-network : goal.new-requires-clause-network
new-requires-clause-network c =
    let listed = c.in_ok-head.head in
    let trades = c.in_ok-head.ensures.trades in
    let firms = map firm_of c.in-Ok-Market.made.items in
    let items = items_view c.in_ok-head.firms.now in
    let given : each (one_firm true listed) [] items ≡ Ok firms =
    subst (AreTested listed items) c.in-Ok-Market.field-0-is (tested_from c.args.command listed items
    (view c.args.top.now) c.in-Ok-Market.field-0 c.in-Ok-Market.ensures.gives c.in-Ok-Market.ensures.asked) in
    subst (λ (ends : List Ends). IsNetwork firms ends) (sym c.into_parts-names.ensures.ends)
    (network_from_reading true listed trades items firms
    (c.in_ok-head.ensures.count ∙ sym (items_len_is c.in_ok-head.firms.now)) given)
