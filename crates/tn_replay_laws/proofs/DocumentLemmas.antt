-- A document that was read, with a claim in it: the same network, with the claim as its extra part.
use Rattle.std.proofs.Common.{◌≡◌, List, [], Result, Ok, sym, ap, ◌∙◌}
use Rattle.serde_json.specs.Data.{Data, Items}
use Rattle.tn_base.specs.Firm.{Firm}
use Rattle.tn_said.specs.Claim.{Claim as ClaimIs}
use Rattle.tn_model.specs.declared.limits.Limits.{Limits}
use Rattle.tn_read_head.specs.Beside.{with_names}
use Rattle.tn_read_head.specs.Listing.{listed_of}
use Rattle.tn_read_head.proofs.BesideLemmas.{leads_beside}
use Rattle.tn_read_shapes.specs.Reading.{each}
use Rattle.tn_read_shapes.proofs.LeadLemmas.{Leads, leads_bind, leads_ok}
use Rattle.tn_read_references.specs.Ordered.{Listed}
use Rattle.tn_read_firms.specs.Firms.{one_firm}
use Rattle.tn_read_claims.specs.Claimed.{claim_of}
use Rattle.tn_file.specs.declared.command.Command.{Command}
use Rattle.tn_file.specs.declared.command.Command.TheVariants.{Replay}
use Rattle.tn_file.specs.Document.{DocumentData, ExtraData, content_of, document_of, extra_of, is_tested}
use Rattle.tn_replay_laws.specs.Replayed.{claimed_in, with_claim}
use Rattle.tn_replay_laws.proofs.Frame.{listed_other}

-- the head of a document of these limits
abbrev pub listed_in : Limits → DocumentData → Listed
listed_in limits doc = record { limits = limits; names = doc.names; ends = doc.ends }

-- what a document was read from, part by part
pub record AreParts (command : Command) (top : Data) (doc : DocumentData) : Type 0 where
  pub limits : Limits
  pub items : Items
  pub listed : listed_of top ≡ Ok (listed_in limits doc, items)
  pub firms : each (one_firm (is_tested command top) (listed_in limits doc)) [] items ≡ Ok doc.firms
  pub extra : extra_of command (listed_in limits doc) top ≡ Ok doc.extra

-- a result that is there is itself
pub itself : {A E : Type 0} (r : Result A E) → Leads (λ x. r ≡ Ok x) r
itself r = record { at = λ x e. e }

record IsContent (command : Command) (listed : Listed) (items : Items) (top : Data) (content : List Firm
    × ExtraData) : Type 0 where
  firms : each (one_firm (is_tested command top) listed) [] items ≡ Ok content.0
  extra : extra_of command listed top ≡ Ok content.1

content_lead : (command : Command) (listed : Listed) (items : Items) (top : Data)
    → Leads (IsContent command listed items top) (content_of command listed items top)
unfolding content_of
content_lead command listed items top =
    leads_bind (λ firms. each (one_firm (is_tested command top) listed) [] items ≡ Ok firms)
    (IsContent command listed items top) (each (one_firm (is_tested command top) listed) [] items) _
    (itself (each (one_firm (is_tested command top) listed) [] items)) (λ firms firms_are.
    leads_bind (λ extra. extra_of command listed top ≡ Ok extra) (IsContent command listed items top)
    (extra_of command listed top) _ (itself (extra_of command listed top)) (λ extra extra_is.
    leads_ok (IsContent command listed items top) (firms, extra) (record { firms = firms_are; extra = extra_is })))

parts_lead : (command : Command) (top : Data) → Leads (AreParts command top) (document_of command top)
unfolding document_of
parts_lead command top =
    leads_bind (λ network. listed_of top ≡ Ok network) (AreParts command top) (listed_of top) _ (itself (listed_of top))
    (λ network at.
    leads_bind (IsContent command network.0 network.1 top) (AreParts command top)
    (with_names network.0.names (content_of command network.0 network.1 top)) _
    (leads_beside (IsContent command network.0 network.1 top) network.0.names (content_of command network.0 network.1 top)
    (content_lead command network.0 network.1 top)) (λ content is.
    leads_ok (AreParts command top) (record {
      names = network.0.names;
      firms = content.0;
      ends = network.0.ends;
      extra =
          content.1;
    }) (record {
      limits = network.0.limits;
      items = network.1;
      listed = at;
      firms = is.firms;
      extra =
          is.extra;
    })))

pub parts : (command : Command) (top : Data) (doc : DocumentData) → document_of command top ≡ Ok doc → AreParts command top doc
parts command top doc e = (parts_lead command top).at doc e

pub document_back : (command : Command) (top value : Data) (doc : DocumentData) (read : ClaimIs)
    → (are : AreParts command top doc) → is_tested command top ≡ is_tested Replay (with_claim value top)
    → claim_of (listed_in are.limits doc) (with_claim value top) ≡ Ok read
    → document_of Replay (with_claim value top) ≡ Ok (claimed_in doc read)
unfolding document_of content_of extra_of
document_back command top value doc read are tested claimed =
    let firms : each (one_firm (is_tested Replay (with_claim value top)) (listed_in are.limits doc)) [] are.items
    ≡ Ok doc.firms =
    ap (λ b. each (one_firm b (listed_in are.limits doc)) [] are.items) (sym tested) ∙ are.firms in
    rw (listed_other value top, are.listed, firms, claimed)
