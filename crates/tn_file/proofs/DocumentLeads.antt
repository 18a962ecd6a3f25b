-- Every document that is read is a network with its names.
use Rattle.std.proofs.Common.{◌≡◌, ℕ, ◌<◌, ◌≤◌, ◌^◌, List, [], ◌∷◌, length, Option, Some, Ok, refl, sym, ap, subst, ◌∙◌, arith}
use Rattle.std.specs.Prelude.{codes, not, map, option_and_then, Bool}
use Rattle.serde_json.specs.Data.{Data, Items}
use Rattle.serde_json.specs.Events.{items_len}
use Rattle.serde_json.specs.Find.{get, as_number, as_u64}
use Rattle.tn_base.specs.Firm.{Firm}
use Rattle.tn_market.specs.Valued.{IsWorthAtMost}
use Rattle.tn_said.specs.declared.fault.FaultKind.TheVariants.{NotJson, Shape}
use Rattle.tn_said.specs.declared.place.PlaceStep.TheVariants.{Key}
use Rattle.tn_said.specs.declared.place.Word.TheVariants.{Version, Firms, Trades}
use Rattle.tn_names.specs.Names.{no_names}
use Rattle.tn_file.specs.declared.command.Command.{Command}
use Rattle.tn_file.specs.declared.command.Command.TheVariants.{Check, Firms, Judge, Range, Replay, Session, Solve, Support, Test}
use Rattle.tn_read_head.specs.Beside.{with_names}
use Rattle.tn_read_shapes.specs.declared.members.ObjectKind.TheVariants.{Top}
use Rattle.tn_read_shapes.specs.Reading.{each, wanted}
use Rattle.tn_read_shapes.specs.Shapes.{few_at, object_of}
use Rattle.tn_file.specs.Json.{json_of}
use Rattle.tn_read_references.specs.Ordered.{AreTrades, Listed}
use Rattle.tn_read_firms.specs.Firms.{one_firm}
use Rattle.tn_read_parts.specs.Arranged.{arrangement_of, trades_on_of, IsArrangement}
use Rattle.tn_read_parts.specs.Signed.{outcome_of}
use Rattle.tn_read_parts.specs.Edited.{edits_of}
use Rattle.tn_said.specs.Edits.{AreEdits}
use Rattle.tn_said.specs.ClaimLimits.{IsClaimWithin}
use Rattle.tn_model.specs.Limits.{limits_of, most_worth_among, worth_limit}
use Rattle.tn_model.specs.declared.limits.Limits.{Limits}
use Rattle.tn_model.specs.Network.{IsNetwork}
use Rattle.tn_model.specs.OutcomeLimits.{IsOutcomeWithin}
use Rattle.tn_read_claims.specs.Claimed.{claim_of, claims_raw}
use Rattle.tn_read_claims.proofs.ClaimLeads.{claim_leads}
use Rattle.tn_read_claims.proofs.KindLeads.{claims_keep_limits, raw_claims_are_told}
use Rattle.tn_read_claims.specs.Laws.{KeepsClaimLimits}
use Rattle.tn_file.specs.Document.{DocumentData, ExtraData, nothing, arrangement, on_alone, outcome, edits, claim, extra_of, content_of, document_of, is_accepted, is_tested, reading_of}
use Rattle.tn_read_head.specs.Listing.{limits_at, listed_of}
use Rattle.tn_read_head.specs.Naming.{one_firm_name, one_trade}
use Rattle.tn_file.specs.Parts.{AreFor, AreTested, parts_view}
use Rattle.tn_file.specs.declared.network.Parts.{Parts}
use Rattle.tn_file.specs.declared.network.Parts.TheVariants.{Market as MarketParts, Raw as RawParts}
use Rattle.tn_firm.specs.Firms.{firm_of}
use Rattle.tn_said.specs.Claim.{Claim as ClaimIs, is_raw}
use Rattle.tn_file.specs.Laws.{IsDocument, IsDocumentOf, IsExtra, KeepsLimits}
use Rattle.tn_read_shapes.proofs.LeadLemmas.{Leads, leads_ok, leads_as, leads_bind, leads_after, leads_both, leads_wanted}
use Rattle.tn_read_head.proofs.BesideLemmas.{leads_beside}
use Rattle.tn_read_firms.proofs.FirmLeads.{AreFirms, firms_are, firms_are_counted, network_of, positions_ascend}
use Rattle.tn_read_references.proofs.EntryLeads.{within_more}
use Rattle.tn_read_firms.specs.Laws.{IsListedFirm}
use Rattle.tn_read_firms.proofs.KindLemmas.{listed_own_bundles, listed_may_abstain, listed_worths}
use Rattle.tn_read_firms.proofs.RoomLemmas.{a_set_is_allowed}
use Rattle.tn_read_parts.proofs.ArrangementLeads.{arrangement_leads, trades_on_leads}
use Rattle.tn_read_parts.proofs.OutcomeLeads.{outcome_leads}
use Rattle.tn_read_parts.proofs.EditLeads.{edits_are_few, edits_lead}
use Rattle.tn_read_head.proofs.ListingLeads.{AreOfVersion, IsListing, listed_leads}

module _ (listed : Listed) (trades : AreTrades listed) (firms : List Firm) (named : length listed.names.firms
    ≡ length firms) (network : IsNetwork firms listed.ends) where
  -- what is said of the count of names is said of the count of trades
  counted : (P : ℕ → Type 0) → P (length listed.names.trades) → P (length listed.ends)
  counted P said = subst P trades.named said

  abbrev IsRead : ExtraData → Type 0
  IsRead extra = IsExtra firms listed.ends extra

  extra_leads : (command : Command) (top : Data) → Leads IsRead (extra_of command listed top)
  unfolding extra_of
  extra_leads Range top = leads_ok IsRead nothing tt
  extra_leads Solve top = leads_ok IsRead nothing tt
  extra_leads Test top = leads_ok IsRead nothing tt
  extra_leads Check top =
      leads_bind (IsArrangement (length listed.names.trades)) IsRead (arrangement_of listed top) _
      (arrangement_leads listed trades.limits top) (λ part is. leads_ok IsRead (arrangement part)
      (counted (λ n. IsArrangement n part) is))
  extra_leads Firms top =
      leads_bind (IsArrangement (length listed.names.trades)) IsRead (arrangement_of listed top) _
      (arrangement_leads listed trades.limits top) (λ part is. leads_ok IsRead (arrangement part)
      (counted (λ n. IsArrangement n part) is))
  extra_leads Support top =
      leads_bind (λ on. on < 2 ^ length listed.names.trades) IsRead (trades_on_of listed.names.trades top) _
      (trades_on_leads listed.names.trades top) (λ on below. leads_ok IsRead (on_alone on)
      (counted (λ n. on < 2 ^ n) below))
  extra_leads Judge top =
      leads_bind (IsOutcomeWithin (length listed.names.trades)) IsRead (outcome_of listed top) _
      (outcome_leads listed trades.limits top) (λ signed is. leads_ok IsRead (outcome signed)
      (counted (λ n. IsOutcomeWithin n signed) is))
  extra_leads Session top =
      leads_bind (AreEdits (length listed.names.firms) (length listed.names.trades)) IsRead (edits_of listed top) _
      (edits_lead listed trades.limits top) (λ changes are.
      leads_ok IsRead (edits changes) (subst (λ n. AreEdits n (length listed.ends) changes) named
      (counted (λ n. AreEdits (length listed.names.firms) n changes) are)))
  extra_leads Replay top =
      leads_bind (IsClaimWithin firms listed.ends) IsRead (claim_of listed top) _
      (claim_leads listed trades firms named network top) (λ read is. leads_ok IsRead (claim read) is)

-- the part beside the network keeps the limits of the version
keeping_leads : (command : Command) (listed : Listed) (top : Data)
    → Leads (KeepsLimits listed.limits) (extra_of command listed top)
unfolding extra_of
keeping_leads Range listed top = leads_ok (KeepsLimits listed.limits) nothing tt
keeping_leads Solve listed top = leads_ok (KeepsLimits listed.limits) nothing tt
keeping_leads Test listed top = leads_ok (KeepsLimits listed.limits) nothing tt
keeping_leads Check listed top =
    leads_after (KeepsLimits listed.limits) (arrangement_of listed top) _
    (λ part. leads_ok (KeepsLimits listed.limits) (arrangement part) tt)
keeping_leads Firms listed top =
    leads_after (KeepsLimits listed.limits) (arrangement_of listed top) _
    (λ part. leads_ok (KeepsLimits listed.limits) (arrangement part) tt)
keeping_leads Support listed top =
    leads_after (KeepsLimits listed.limits) (trades_on_of listed.names.trades top) _
    (λ on. leads_ok (KeepsLimits listed.limits) (on_alone on) tt)
keeping_leads Judge listed top =
    leads_after (KeepsLimits listed.limits) (outcome_of listed top) _
    (λ signed. leads_ok (KeepsLimits listed.limits) (outcome signed) tt)
keeping_leads Session listed top =
    leads_bind (λ changes. length changes ≤ listed.limits.edits) (KeepsLimits listed.limits) (edits_of listed top) _
    (edits_are_few listed top) (λ changes few. leads_ok (KeepsLimits listed.limits) (edits changes) few)
keeping_leads Replay listed top =
    leads_bind (KeepsClaimLimits listed.limits) (KeepsLimits listed.limits) (claim_of listed top) _
    (record { at = claims_keep_limits listed top }) (λ read keeps.
    leads_ok (KeepsLimits listed.limits) (claim read) keeps)

-- whether firms are tested is told before the claim is read
accepted_leads : (command : Command) (listed : Listed) (top : Data)
    → Leads (λ extra. is_accepted command extra ≡ is_tested command top) (extra_of command listed top)
unfolding extra_of
accepted_leads Range listed top = record { at = λ extra e. refl }
accepted_leads Solve listed top = record { at = λ extra e. refl }
accepted_leads Test listed top = record { at = λ extra e. refl }
accepted_leads Check listed top = record { at = λ extra e. refl }
accepted_leads Firms listed top = record { at = λ extra e. refl }
accepted_leads Support listed top = record { at = λ extra e. refl }
accepted_leads Judge listed top = record { at = λ extra e. refl }
accepted_leads Session listed top = record { at = λ extra e. refl }
accepted_leads Replay listed top =
    leads_bind (λ read. claims_raw top ≡ is_raw read) (λ extra. is_accepted Replay extra ≡ is_tested Replay top)
    (claim_of listed top) _ (record { at = raw_claims_are_told listed top }) (λ read told.
    leads_ok (λ extra. is_accepted Replay extra ≡ is_tested Replay top) (claim read) (ap not (sym told)))

-- the firms of what is read as a market are those that the listing of firms which meet exchange gives
module _ (command : Command) (listed : Listed) (items : Items) (top : Data) where
  abbrev AreAsRead : List Firm × ExtraData → Type 0
  AreAsRead content = (each (one_firm (is_tested command top) listed) [] items ≡ Ok content.0)
      × (is_accepted command content.1 ≡ is_tested command top)

  as_read : Leads AreAsRead (content_of command listed items top)
  unfolding content_of
  as_read =
      leads_bind (λ firms. each (one_firm (is_tested command top) listed) [] items ≡ Ok firms) AreAsRead
      (each (one_firm (is_tested command top) listed) [] items) _ (record { at = λ firms e. e }) (λ firms are.
      leads_bind (λ extra. is_accepted command extra ≡ is_tested command top) AreAsRead (extra_of command listed top) _
      (accepted_leads command listed top) (λ extra accepted. leads_ok AreAsRead (firms, extra) (are, accepted)))

  pub tested_from : (parts : Parts) → content_of command listed items top ≡ Ok (parts_view parts)
      → AreFor command parts → AreTested listed items parts
  tested_from (MarketParts made asked) e are =
      let read = as_read.at (parts_view (MarketParts made asked)) e in
      subst (λ (tested : Bool). each (one_firm tested listed) [] items ≡ Ok (map firm_of made.items))
      (sym read.1 ∙ are.1) read.0
  tested_from (RawParts made asked) e are = tt

-- whether a claim is made of firms as they are listed is told before it is read
pub claimed_as_told : (listed : Listed) (top : Data) (read : ClaimIs) → claim_of listed top ≡ Ok read
    → is_accepted Replay (claim read) ≡ is_tested Replay top
claimed_as_told listed top read e = ap not (sym (raw_claims_are_told listed top read e))

-- what the content of a listing is
record IsContent (command : Command) (top : Data) (found : Listed × Items) (listing : IsListing found) (content : List Firm
    × ExtraData) : Type 0 where
  are : AreFirms (is_tested command top) found.0 listing.trades content.0
  count : length content.0 ≡ items_len found.1
  extra : IsExtra content.0 found.0.ends content.1
  keeps : KeepsLimits found.0.limits content.1
  accepted : is_accepted command content.1 ≡ is_tested command top

content_leads : (command : Command) (found : Listed × Items) (listing : IsListing found) (top : Data)
    → Leads (IsContent command top found listing) (content_of command found.0 found.1 top)
unfolding content_of
content_leads command found listing top =
    let tested = is_tested command top in
    leads_bind (λ firms. AreFirms tested found.0 listing.trades firms
    × (length firms ≡ items_len found.1)) (IsContent command top found listing)
    (each (one_firm tested found.0) [] found.1) _
    (leads_both _ _ _ (firms_are tested found.0 listing.trades found.1)
    (firms_are_counted tested found.0 listing.trades found.1)) (λ firms are.
    let count = are.1 in
    let named : length found.0.names.firms ≡ length firms = omega (arith, listing.count, count) in
    let network = network_of tested found.0 listing.trades firms are.0 named in
    let known = λ (extra : ExtraData). KeepsLimits found.0.limits extra × (is_accepted command extra ≡ tested) in
    leads_bind (λ extra. IsExtra firms found.0.ends extra × known extra) (IsContent command top found listing)
    (extra_of command found.0 top) _
    (leads_both (IsExtra firms found.0.ends) known (extra_of command found.0 top)
    (extra_leads found.0 listing.trades firms named network command top)
    (leads_both (KeepsLimits found.0.limits) (λ extra. is_accepted command extra ≡ tested) (extra_of command found.0 top)
    (keeping_leads command found.0 top) (accepted_leads command found.0 top))) (λ extra is.
    leads_ok (IsContent command top found listing) (
      firms,
      extra,
    ) (record { are = are.0; count = are.1; extra = is.0; keeps = is.1.0; accepted = is.1.1 })))

-- what holds of the worths of a firm within the limits of a version, in a document with no more trades than these
worths_are_small : (listed : Listed) → AreTrades listed → (f : ℕ) (firm : Firm) → AreOfVersion listed.limits
    → IsListedFirm listed.limits listed.ends f firm → IsWorthAtMost (most_worth_among (length listed.ends)) firm
worths_are_small listed trades f firm version is x a e =
    within_more a (worth_limit listed.limits) (most_worth_among (length listed.ends))
    (trades.limits.worths (length listed.ends) trades.few)
    (listed_worths listed.limits trades.limits listed.ends f firm
    (a_set_is_allowed version.0 listed.limits version.1) is x a e)

is_document : (command : Command) (top : Data) (found : Listed × Items) (content : List Firm
    × ExtraData) (listing : IsListing found) → IsContent command top found listing content
    → IsDocument command (record { names = found.0.names; firms = content.0; ends = found.0.ends; extra = content.1 })
is_document command top found content listing is =
    let tested = is_tested command top in
    let limits = found.0.limits in
    let are_limits = listing.trades.limits in
    let count = is.count in
    let named : length found.0.names.firms ≡ length content.0 = omega (arith, listing.count, count) in
    record {
      firm_names = listing.firm_names;
      trade_names = listing.trade_names;
      firms_named = named;
      trades_named = listing.trades.named;
      version = listing.limits.0;
      limits = limits;
      limits_are = listing.limits.1;
      few_firms = omega (arith, listing.count, count, listing.trades.few_firms);
      few_trades = listing.trades.few;
      listed = λ f firm at. (is.are f firm at).listed;
      worths = λ f firm at. (worths_are_small found.0 listing.trades f firm listing.limits (is.are f firm at).listed);
      network = network_of tested found.0 listing.trades content.0 is.are named;
      ascending = λ f i j firm at before below. (positions_ascend tested found.0 listing.trades content.0 is.are f i j
          firm at before below);
      own_bundles = λ f firm at. listed_own_bundles limits are_limits found.0.ends f firm (is.are f firm at).listed;
      abstain = λ f firm at. listed_may_abstain limits are_limits found.0.ends f firm (is.are f firm at).listed;
      accepted = λ accepted f firm at. (record {
        abstains =
            listed_may_abstain limits are_limits found.0.ends f firm (is.are f firm at).listed;
        exchanges =
            (is.are f firm at).meets (sym is.accepted ∙ accepted);
      });
      extra = is.extra;
      extra_keeps = is.keeps;
    }

-- ---- the version that a document says

abbrev says_version : Data → Option ℕ
says_version top = option_and_then as_u64 (option_and_then as_number (get (codes "version") top))

-- the limits are those of the version that the document says
record IsSaid (top : Data) (limits : Limits) : Type 0 where
  version : ℕ
  says : says_version top ≡ Some version
  are : limits_of version ≡ Some limits

limits_said : (top : Data) → Leads (IsSaid top) (limits_at top)
unfolding limits_at
limits_said top =
    leads_bind (λ version. says_version top ≡ Some version) (IsSaid top)
    (wanted Shape (Key Version ∷ []) (says_version top)) _
    (leads_wanted Shape (Key Version ∷ []) (says_version top)) (λ version says.
    leads_as (λ limits. limits_of version ≡ Some limits) (IsSaid top) _
    (λ limits are. record { version = version; says = says; are = are })
    (leads_wanted Shape (Key Version ∷ []) (limits_of version)))

listed_said : (top : Data) → Leads (λ found. IsSaid top found.0.limits) (listed_of top)
unfolding listed_of
listed_said top =
    let P = λ (found : Listed × Items). IsSaid top found.0.limits in
    leads_after P (with_names no_names (object_of Top [] (Some top))) _ (λ object.
    leads_bind (IsSaid top) P (with_names no_names (limits_at top)) _
    (leads_beside _ no_names (limits_at top) (limits_said top)) (λ limits said.
    leads_after P (with_names no_names (few_at limits.firms (Key Firms ∷ []) (get (codes "firms") top))) _
    (λ firms.
    leads_after P (each one_firm_name no_names firms) _ (λ names.
    leads_after P (with_names names (few_at limits.trades (Key Trades ∷ []) (get (codes "trades") top))) _
    (λ trades.
    leads_after P (each one_trade (record { names = names; ends = [] }) trades) _ (λ named.
    leads_ok P (record { limits = limits; names = named.names; ends = named.ends }, firms) said))))))

-- the same listing, with the version that the document says
as_said : (top : Data) (found : Listed × Items) → IsListing found → IsSaid top found.0.limits → IsListing found
as_said top found listing said = record {
  firm_names = listing.firm_names;
  trade_names = listing.trade_names;
  trades = listing.trades;
  limits = (said.version, said.are);
  count = listing.count;
  few = listing.few;
}

-- a document, within the limits of the version that its value says
record IsDocumentIn (command : Command) (top : Data) (doc : DocumentData) : Type 0 where
  document : IsDocument command doc
  says : says_version top ≡ Some document.version

said_leads : (command : Command) (top : Data) → Leads (IsDocumentIn command top) (document_of command top)
unfolding document_of is_document as_said
said_leads command top =
    leads_bind (λ found. IsListing found × IsSaid top found.0.limits) (IsDocumentIn command top) (listed_of top) _
    (leads_both IsListing _ (listed_of top) (listed_leads top) (listed_said top)) (λ found known.
    let listing = as_said top found known.0 known.1 in
    leads_bind (IsContent command top found listing) (IsDocumentIn command top)
    (with_names found.0.names (content_of command found.0 found.1 top)) _
    (leads_beside _ found.0.names (content_of command found.0 found.1 top) (content_leads command found listing top))
    (λ content is.
    leads_ok (IsDocumentIn command top) (record {
      names = found.0.names;
      firms = content.0;
      ends = found.0.ends;
      extra =
          content.1;
    }) (record { document = is_document command top found content listing is; says = known.1.says })))

pub document_leads : (command : Command) (top : Data) → Leads (IsDocument command) (document_of command top)
document_leads command top =
    leads_as (IsDocumentIn command top) (IsDocument command) (document_of command top) (λ doc is. is.document)
    (said_leads command top)

reading_leads : (command : Command) (bytes : List ℕ) → Leads (IsDocumentOf command bytes) (reading_of command bytes)
unfolding reading_of
reading_leads command bytes =
    leads_bind (λ top. json_of bytes ≡ Some top) (IsDocumentOf command bytes)
    (with_names no_names (wanted NotJson [] (json_of bytes))) _
    (leads_beside _ no_names _ (leads_wanted NotJson [] (json_of bytes))) (λ top stands.
    leads_as (IsDocumentIn command top) (IsDocumentOf command bytes) (document_of command top) (λ doc is. record {
      document = is.document;
      version = record { top = top; stands = stands; says = is.says };
    }) (said_leads command top))

pub networks_are_of_their_version : (command : Command) (bytes : List ℕ) (doc : DocumentData)
    → reading_of command bytes ≡ Ok doc → IsDocumentOf command bytes doc
networks_are_of_their_version command bytes doc e = (reading_leads command bytes).at doc e

pub documents_are_networks : (command : Command) (bytes : List ℕ) (doc : DocumentData) → reading_of command bytes ≡ Ok doc
    → IsDocument command doc
documents_are_networks command bytes doc e = (networks_are_of_their_version command bytes doc e).document
