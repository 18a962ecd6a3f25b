-- The laws of reading documents of units.
use Rattle.std.proofs.Common.{◌≡◌, length, Ok, arith}
use Rattle.serde_json.specs.Data.{Data, Items}
use Rattle.serde_json.specs.Events.{items_len}
use Rattle.tn_read_shapes.proofs.LeadLemmas.{Leads, leads_after, leads_bind, leads_ok}
use Rattle.tn_read_shapes.proofs.StopLemmas.{IsPlain, Stops, stops_after, stops_bind, stops_ok}
use Rattle.tn_read_head.specs.Beside.{IsStop, with_names}
use Rattle.tn_read_head.proofs.BesideLemmas.{leads_beside, stops_beside}
use Rattle.tn_read_head.proofs.ListingStops.{plain_stop}
use Rattle.tn_read_units.specs.Documents.{IsUnitDocument}
use Rattle.tn_read_units.specs.Firms.{WrittenFirms, document_of, firms_of}
use Rattle.tn_read_units.specs.Heads.{AreUnitTrades, head_of}
use Rattle.tn_read_units.specs.Trades.{UnitTrades}
use Rattle.tn_read_units.specs.Stops.{IsNamedDocument, UnitDocumentsAreNamed, UnitFaultsAreSayable}
use Rattle.tn_read_units.proofs.DocumentLeads.{firms_lead}
use Rattle.tn_read_units.proofs.FirmStops.{firms_stop}
use Rattle.tn_read_units.proofs.HeadLeads.{IsUnitHead, head_leads, head_stops}

document_named : (top : Data) → Leads IsNamedDocument (document_of top)
unfolding document_of
document_named top =
    leads_bind IsUnitHead IsNamedDocument (head_of top) _ (head_leads top) (λ read is.
    leads_after IsNamedDocument (with_names read.0.names (firms_of read.0 read.1)) _ (λ all.
    leads_ok IsNamedDocument (record { head = read.0; firms = all.firms }) (record {
      firm_names = is.names.firms;
      trade_names = is.names.trades;
    })))

-- the head and the firms make a document
pub document_from : (head : UnitTrades) (items : Items) (all : WrittenFirms) → AreUnitTrades head
    → length head.names.firms ≡ items_len items → firms_of head items ≡ Ok all
    → IsUnitDocument (record { head = head; firms = all.firms })
document_from head items all kept count is =
    let are = (firms_lead head items).at all is in
    record {
      head = kept;
      named = omega (arith, are.1, count);
      few_sets = omega (arith, are.0.counted, are.0.few);
      each = are.0.each;
    }

pub document_leads : (top : Data) → Leads IsUnitDocument (document_of top)
unfolding document_of
document_leads top =
    leads_bind IsUnitHead IsUnitDocument (head_of top) _ (head_leads top) (λ read is.
    leads_bind (λ all. firms_of read.0 read.1 ≡ Ok all) IsUnitDocument
    (with_names read.0.names (firms_of read.0 read.1)) _
    (leads_beside (λ all. firms_of read.0 read.1 ≡ Ok all) read.0.names (firms_of read.0 read.1)
    (record { at = λ all e. e })) (λ all are.
    leads_ok IsUnitDocument (record { head = read.0; firms = all.firms })
    (document_from read.0 read.1 all is.trades is.count are)))

pub unit_document_stops : (top : Data) → Stops IsStop (document_of top)
unfolding document_of
unit_document_stops top =
    stops_after IsStop IsUnitHead (head_of top) _ (head_leads top) (head_stops top) (λ read is.
    stops_bind IsStop (with_names read.0.names (firms_of read.0 read.1)) _
    (stops_beside IsStop IsPlain read.0.names _ (plain_stop read.0.names is.names)
    (firms_stop read.0 (let named = is.trades.named in let few = is.trades.few in omega (arith, named, few)) read.1
    (let count = is.count in let few = is.trades.few_firms in omega (arith, count, few)))) (λ all.
    stops_ok IsStop (record { head = read.0; firms = all.firms })))

pub documents_named : UnitDocumentsAreNamed
documents_named top doc e = (document_named top).at doc e

pub faults_sayable : UnitFaultsAreSayable
faults_sayable top stop e = (unit_document_stops top).at stop e
