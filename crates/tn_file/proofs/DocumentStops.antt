-- Wherever reading stops, its fault speaks of named trades, and the names beside it keep the rules.
use Rattle.std.proofs.Common.{◌≡◌, ℕ, ◌<◌, ◌≤◌, List, [], length, refl, arith, Err}
use Rattle.serde_json.specs.Data.{Data, Items}
use Rattle.serde_json.specs.Events.{items_len}
use Rattle.tn_model.specs.Limits.{most_own_trades}
use Rattle.tn_said.specs.declared.said.Fault.{Fault}
use Rattle.tn_read_claims.specs.Claimed.{claim_of}
use Rattle.tn_read_claims.proofs.ClaimStops.{claim_stops}
use Rattle.tn_read_firms.proofs.FirmLeads.{AreFirms, firms_are, firms_are_counted, few_own_firm}
use Rattle.tn_read_shapes.proofs.LeadLemmas.{leads_both}
use Rattle.tn_said.specs.declared.fault.FaultKind.TheVariants.{NotJson}
use Rattle.tn_names.specs.Names.{no_names}
use Rattle.tn_file.specs.declared.command.Command.{Command}
use Rattle.tn_file.specs.declared.command.Command.TheVariants.{Check, Firms, Judge, Range, Replay, Session, Solve, Support, Test}
use Rattle.tn_read_references.specs.Ordered.{AreTrades, Listed, sides_of}
use Rattle.tn_read_head.specs.Beside.{with_names, IsStop, Stop}
use Rattle.tn_read_shapes.specs.Reading.{each, wanted}
use Rattle.tn_file.specs.Json.{json_of}
use Rattle.tn_read_parts.specs.Arranged.{arrangement_of, trades_on_of}
use Rattle.tn_read_parts.specs.Signed.{outcome_of}
use Rattle.tn_read_parts.specs.Edited.{edits_of}
use Rattle.tn_read_firms.specs.Firms.{one_firm}
use Rattle.tn_file.specs.Document.{arrangement, nothing, on_alone, outcome, edits, claim, content_of, document_of, extra_of, is_tested, reading_of}
use Rattle.tn_read_head.specs.Listing.{listed_of}
use Rattle.tn_read_head.proofs.ListingLeads.{IsListing, listed_leads}
use Rattle.tn_read_shapes.proofs.StopLemmas.{IsPlain, Stops, plain_wanted, stops_after, stops_bind, stops_ok}
use Rattle.tn_read_references.proofs.ToldLemmas.{IsTold, told_from_plain}
use Rattle.tn_read_head.proofs.BesideLemmas.{stops_beside}
use Rattle.tn_read_firms.proofs.FirmStops.{firms_stop}
use Rattle.tn_read_parts.proofs.ArrangementStops.{arrangement_stops, trades_on_stop}
use Rattle.tn_read_parts.proofs.OutcomeStops.{outcome_stops}
use Rattle.tn_read_parts.proofs.EditStops.{edits_stop}
use Rattle.tn_read_head.proofs.ListingStops.{AreNames, no_names_are, told_stop, plain_stop, listed_stops}

module _ (listed : Listed) (trades : AreTrades listed) (few : length listed.names.trades ≤ 16384) (few_own : (f : ℕ)
    → f < length listed.names.firms → length (sides_of listed.ends f) ≤ most_own_trades) where
  abbrev Told : Fault → Type 0
  Told = IsTold listed.names.trades

  extra_stops : (command : Command) (top : Data) → Stops Told (extra_of command listed top)
  unfolding extra_of
  extra_stops Range top = stops_ok Told nothing
  extra_stops Solve top = stops_ok Told nothing
  extra_stops Test top = stops_ok Told nothing
  extra_stops Check top =
      stops_bind Told (arrangement_of listed top) _ (arrangement_stops listed few top)
      (λ part. stops_ok Told (arrangement part))
  extra_stops Firms top =
      stops_bind Told (arrangement_of listed top) _ (arrangement_stops listed few top)
      (λ part. stops_ok Told (arrangement part))
  extra_stops Support top =
      stops_bind Told (trades_on_of listed.names.trades top) _
      (told_from_plain listed.names.trades _ (trades_on_stop listed.names.trades few top))
      (λ on. stops_ok Told (on_alone on))
  extra_stops Judge top =
      stops_bind Told (outcome_of listed top) _ (told_from_plain listed.names.trades _ (outcome_stops listed few top))
      (λ signed. stops_ok Told (outcome signed))
  extra_stops Session top =
      stops_bind Told (edits_of listed top) _ (told_from_plain listed.names.trades _
      (edits_stop listed trades.limits top)) (λ changes. stops_ok Told (edits changes))
  extra_stops Replay top =
      stops_bind Told (claim_of listed top) _ (claim_stops listed trades few few_own top)
      (λ read. stops_ok Told (claim read))

content_stops : (command : Command) (found : Listed × Items) → IsListing found → (top : Data)
    → Stops (IsTold found.0.names.trades) (content_of command found.0 found.1 top)
unfolding content_of
content_stops command found listing top =
    let told = IsTold found.0.names.trades in
    let tested = is_tested command top in
    stops_after told (λ firms. AreFirms tested found.0 listing.trades firms
    × (length firms ≡ items_len found.1)) (each (one_firm tested found.0) [] found.1) _
    (leads_both _ _ _ (firms_are tested found.0 listing.trades found.1)
    (firms_are_counted tested found.0 listing.trades found.1))
    (firms_stop found.0 listing.trades tested found.1 (omega (arith, listing.few))) (λ firms are.
    let count = are.1 in
    stops_bind told (extra_of command found.0 top) _
    (extra_stops found.0 listing.trades (omega (arith, listing.trade_names.few))
    (λ f known. few_own_firm tested found.0 listing.trades firms are.0 f
    (omega (arith, known, listing.count, count))) command top) (λ extra.
    stops_ok told (firms, extra)))

document_stops : (command : Command) (top : Data) → Stops IsStop (document_of command top)
unfolding document_of
document_stops command top =
    stops_after IsStop IsListing (listed_of top) _ (listed_leads top) (listed_stops top) (λ found listing.
    let names = found.0.names in
    let named : AreNames names = record { firms = listing.firm_names; trades = listing.trade_names } in
    stops_bind IsStop (with_names names (content_of command found.0 found.1 top)) _
    (stops_beside IsStop (IsTold names.trades) names _ (told_stop names named)
    (content_stops command found listing top)) (λ content.
    stops_ok IsStop (record { names = names; firms = content.0; ends = found.0.ends; extra = content.1 })))

reading_stops : (command : Command) (bytes : List ℕ) → Stops IsStop (reading_of command bytes)
unfolding reading_of
reading_stops command bytes =
    stops_bind IsStop (with_names no_names (wanted NotJson [] (json_of bytes))) _
    (stops_beside IsStop IsPlain no_names _ (plain_stop no_names no_names_are)
    (plain_wanted NotJson [] (json_of bytes) refl tt)) (λ top.
    document_stops command top)

pub network_faults_are_sayable : (command : Command) (bytes : List ℕ) (stop : Stop) → reading_of command bytes ≡ Err stop
    → IsStop stop
network_faults_are_sayable command bytes stop e = (reading_stops command bytes).at stop e
