-- What the firms are that reading gives.
use Rattle.std.proofs.Common.{◌≡◌, ℕ, ◌+◌, ◌<◌, ◌≤◌, Bool, true, false, List, [], ◌∷◌, ◌++◌, length, slice_get, Option, Some, None, Ok, inl, inr, refl, sym, ap, subst, ◌∙◌, arith, length-append}
use Rattle.std.specs.Prelude.{if◌then◌else◌, nat_le}
use Rattle.std.proofs.lemmas.Option.{none-some}
use Rattle.serde_json.specs.Data.{Data, Items}
use Rattle.serde_json.specs.Events.{items_len}
use Rattle.tn_base.specs.Firm.{Firm}
use Rattle.tn_base.specs.Table.{buys_of}
use Rattle.tn_said.specs.declared.fault.FaultKind.TheVariants.{Limit}
use Rattle.tn_model.specs.Limits.{most_own_trades}
use Rattle.tn_model.specs.Network.{IsNetwork, own}
use Rattle.tn_base.specs.Exchange.{MeetsExchange}
use Rattle.tn_base.proofs.ExchangeLemmas.{exchange_from_none_fails}
use Rattle.tn_exchange.specs.Rows.{TableRows, firm_of_table}
use Rattle.tn_exchange.specs.TestOrder.{Triple}
use Rattle.tn_exchange.proofs.RowLemmas.{own_bundles}
use Rattle.tn_local.specs.First.{IsFullIfLarge}
use Rattle.tn_model.specs.declared.ends.Ends.{Ends}
use Rattle.tn_model.specs.declared.limits.Limits.{Limits}
use Rattle.tn_market.specs.Valued.{IsWorthAtMost}
use Rattle.tn_read_shapes.specs.Reading.{each, holds}
use Rattle.tn_read_references.specs.Ordered.{Listed, AreInOrder, sides_of, AreTrades}
use Rattle.tn_read_shapes.specs.declared.members.FirmKind.{FirmKind}
use Rattle.tn_read_shapes.specs.declared.members.FirmKind.TheVariants.{Table, Laminar, Middleman, Dealer}
use Rattle.tn_read_shapes.specs.declared.members.ObjectKind.TheVariants.{Firm as FirmObject}
use Rattle.tn_read_shapes.specs.Shapes.{object_of}
use Rattle.tn_read_references.specs.References.{firm_place}
use Rattle.tn_read_firms.specs.Kinds.{most_own_of_kind, firm_kind_of, firm_frame_of}
use Rattle.tn_read_firms.specs.Tables.{table_of}
use Rattle.tn_read_firms.specs.Laminars.{laminar_of}
use Rattle.tn_read_firms.specs.Middlemen.{middle_of}
use Rattle.tn_read_firms.specs.Dealers.{dealer_of}
use Rattle.tn_read_firms.specs.Firms.{unless_failing, exchange_of, tested_firm, firm_by, document_firm, one_firm}
use Rattle.tn_read_firms.specs.FirstFailure.{first_failure}
use Rattle.tn_read_firms.specs.Laws.{IsTableFirm, IsLaminarFirm, IsMiddlemanFirm, IsDealerFirm, IsListedFirm, table as table_is, laminar, middleman, dealer}
use Rattle.tn_names.proofs.NameLemmas.{push_cases}
use Rattle.tn_read_firms.proofs.FailureLemmas.{holds as none_fails}
use Rattle.tn_read_firms.proofs.KindLemmas.{dealer_meets, laminar_meets, middleman_meets, listed_few_own, table_within}
use Rattle.tn_read_firms.proofs.TableLeads.{IsTableOf, table_leads}
use Rattle.tn_read_firms.proofs.LaminarLeads.{laminar_leads}
use Rattle.tn_read_firms.proofs.MiddleLeads.{middle_leads}
use Rattle.tn_read_firms.proofs.DealerLeads.{dealer_leads}
use Rattle.tn_model.proofs.InOrderNetworks.{HaveSides, network, own_ascends, there}
use Rattle.tn_read_shapes.proofs.LeadLemmas.{Leads, leads_ok, leads_bind, leads_after, leads_each, leads_count, leads_holds, leads_as, le_from_test}

unless_failing_leads : (trades : List Ends) (f count : ℕ) (found : Option Triple)
    → Leads (λ _. found ≡ None) (unless_failing trades f count found)
unless_failing_leads trades f count None = leads_ok (λ _. None ≡ None) tt refl
unless_failing_leads trades f count (Some t) = record { at = λ x e. absurd (cc) }

-- firm f, which meets exchange where that is tested
pub record IsFirm (tested : Bool) (limits : Limits) (trades : List Ends) (f : ℕ) (firm : Firm) : Type 0 where
  pub listed : IsListedFirm limits trades f firm
  pub meets : tested ≡ true → MeetsExchange firm

of_table : (limits : Limits) (trades : List Ends) (f : ℕ) (table : TableRows) → IsTableOf limits trades f table
    → IsTableFirm limits trades f (firm_of_table table)
of_table limits trades f table is = record {
  rows = is.rows;
  apart = is.apart;
  is = is.is;
  few = is.few;
  full = is.full;
  small = subst (IsWorthAtMost limits.amount) (sym is.is) (table_within limits.amount (sides_of trades f) is.rows
      is.small);
}

exchange_leads : (trades : List Ends) (f : ℕ) (table : TableRows) → IsFullIfLarge (firm_of_table table)
    → Leads (λ _. MeetsExchange (firm_of_table table)) (exchange_of trades f table)
unfolding exchange_of
exchange_leads trades f table full =
    leads_as (λ _. first_failure table ≡ None) (λ _. MeetsExchange (firm_of_table table)) _
    (λ u none. exchange_from_none_fails (firm_of_table table) (own_bundles table) (none_fails table full none))
    (unless_failing_leads trades f (length table.sides) (first_failure table))

tested_leads : (tested : Bool) (trades : List Ends) (f : ℕ) (table : TableRows) → IsFullIfLarge (firm_of_table table)
    → Leads (λ _. tested ≡ true → MeetsExchange (firm_of_table table)) (if tested then exchange_of trades f table
    else Ok tt)
tested_leads true trades f table full =
    leads_as (λ _. MeetsExchange (firm_of_table table)) _ _ (λ u meets is. meets) (exchange_leads trades f table full)
tested_leads false trades f table full = leads_ok (λ _. false ≡ true
    → MeetsExchange (firm_of_table table)) tt (λ is. absurd (cc))

tested_firm_leads : (tested : Bool) (limits : Limits) (trades : List Ends) (f : ℕ) (table : TableRows)
    → IsTableOf limits trades f table → Leads (IsFirm tested limits trades f) (tested_firm tested trades f table)
unfolding tested_firm
tested_firm_leads tested limits trades f table is_table =
    let is_firm = IsFirm tested limits trades f in
    leads_bind (λ _. tested ≡ true → MeetsExchange (firm_of_table table)) is_firm (if tested
    then exchange_of trades f table else Ok tt) _ (tested_leads tested trades f table is_table.full) (λ u meets.
    leads_ok is_firm (firm_of_table table) (record {
      listed = table_is (of_table limits trades f table is_table);
      meets = meets;
    }))

module _ (tested : Bool) (listed : Listed) (trades : AreTrades listed) where
  abbrev IsFirmAt : ℕ → Firm → Type 0
  IsFirmAt f firm = IsFirm tested listed.limits listed.ends f firm

  kind_leads : (f : ℕ) (kind : FirmKind) (firm : Data) → length (sides_of listed.ends f) ≤ most_own_of_kind listed.limits kind
      → Leads (IsFirmAt f) (firm_by tested listed f kind firm)
  unfolding firm_by
  kind_leads f Table firm few =
      leads_bind (IsTableOf listed.limits listed.ends f) (IsFirmAt f) (table_of listed f firm) _
      (table_leads listed trades f firm few) (λ table is_table.
      tested_firm_leads tested listed.limits listed.ends f table is_table)
  kind_leads f Laminar firm few =
      leads_as (IsLaminarFirm listed.limits listed.ends f) (IsFirmAt f) (laminar_of listed f firm) (λ made is. record {
        listed = laminar is;
        meets = λ t. laminar_meets listed.limits trades.limits listed.ends f made is;
      }) (laminar_leads listed trades f firm few)
  kind_leads f Middleman firm few =
      leads_as (IsMiddlemanFirm listed.limits listed.ends f) (IsFirmAt f) (middle_of listed f firm)
      (λ made is. record { listed = middleman is; meets = λ t. middleman_meets listed.limits listed.ends f made is })
      (middle_leads listed f firm few)
  kind_leads f Dealer firm few =
      leads_as (IsDealerFirm listed.limits listed.ends f) (IsFirmAt f) (dealer_of listed f firm)
      (λ made is. record { listed = dealer is; meets = λ t. dealer_meets listed.limits listed.ends f made is })
      (dealer_leads listed trades f firm few)

  pub frame_leads : (f : ℕ) (kind : FirmKind) (firm : Data)
      → Leads (λ _. length (sides_of listed.ends f) ≤ most_own_of_kind listed.limits kind) (firm_frame_of listed f kind firm)
  unfolding firm_frame_of
  frame_leads f kind firm =
      let count = length (sides_of listed.ends f) in
      let most = most_own_of_kind listed.limits kind in
      leads_after _ (object_of (FirmObject kind) (firm_place f) (Some firm)) _ (λ object.
      leads_as (λ _. nat_le count most ≡ true) _ (holds Limit (firm_place f) (nat_le count most))
      (λ u few. le_from_test count most few) (leads_holds Limit (firm_place f) (nat_le count most)))

  firm_leads : (f : ℕ) (firm : Data) → Leads (IsFirmAt f) (document_firm tested listed f firm)
  unfolding document_firm
  firm_leads f firm =
      leads_after (IsFirmAt f) (firm_kind_of f firm) _ (λ kind.
      leads_bind (λ _. length (sides_of listed.ends f) ≤ most_own_of_kind listed.limits kind) (IsFirmAt f)
      (firm_frame_of listed f kind firm) _ (frame_leads f kind firm) (λ u few.
      kind_leads f kind firm few))

  abbrev pub AreFirms : List Firm → Type 0
  AreFirms firms = (f : ℕ) (firm : Firm) → slice_get firms f ≡ Some firm → IsFirmAt f firm

  one_firm_leads : (firms : List Firm) (firm : Data) → AreFirms firms
      → Leads AreFirms (one_firm tested listed firms firm)
  unfolding one_firm
  one_firm_leads firms firm are =
      leads_bind (IsFirmAt (length firms)) AreFirms (document_firm tested listed (length firms) firm) _
      (firm_leads (length firms) firm) (λ next is.
      leads_ok AreFirms (firms ++ next ∷ []) (λ f other at. elim (push_cases firms next other f at) [
        | inl h ↦ are f other h
        | inr h ↦ subst (IsFirmAt f) h.1 (subst (λ g. IsFirmAt g next) (sym h.0) is)
      ]))

  pub firms_are : (firms : Items) → Leads AreFirms (each (one_firm tested listed) [] firms)
  firms_are firms =
      leads_each AreFirms (one_firm tested listed) one_firm_leads [] firms (λ f firm e. absurd (none-some _ e))

  pub one_firm_count : (firms : List Firm) (firm : Data)
      → Leads (λ next. length next ≡ length firms + 1) (one_firm tested listed firms firm)
  unfolding one_firm
  one_firm_count firms firm =
      leads_after _ (document_firm tested listed (length firms) firm) _ (λ next.
      leads_ok (λ more. length more ≡ length firms + 1) (firms ++ next ∷ []) (length-append firms (next ∷ [])))

  pub firms_are_counted : (firms : Items)
      → Leads (λ end. length end ≡ items_len firms) (each (one_firm tested listed) [] firms)
  firms_are_counted firms =
      leads_as (λ end. length end ≡ 0 + items_len firms) _ _ (λ end e. e ∙ omega arith)
      (leads_count length (one_firm tested listed) one_firm_count [] firms)

  -- each firm that was read has few own trades
  pub few_own_firm : (firms : List Firm) → AreFirms firms → (f : ℕ) → f < length firms
      → length (sides_of listed.ends f) ≤ most_own_trades
  few_own_firm firms are f below =
      let at = there firms f below in
      listed_few_own listed.limits trades.limits listed.ends f at.0 (are f at.0 at.1).listed

  have_sides : (firms : List Firm) → AreFirms firms → HaveSides listed.ends firms
  have_sides firms are f firm at = by_kind (are f firm at).listed
    where
      by_kind : IsListedFirm listed.limits listed.ends f firm → (firm.count ≡ length (sides_of listed.ends f))
          × (firm.buys ≡ buys_of (sides_of listed.ends f))
      by_kind (table_is t) = (ap (λ (x : Firm). x.count) t.is, ap (λ (x : Firm). x.buys) t.is)
      by_kind (laminar t) = (ap (λ (x : Firm). x.count) t.is, ap (λ (x : Firm). x.buys) t.is)
      by_kind (middleman t) = (ap (λ (x : Firm). x.count) t.is, ap (λ (x : Firm). x.buys) t.is)
      by_kind (dealer t) = (ap (λ (x : Firm). x.count) t.is, ap (λ (x : Firm). x.buys) t.is)

  -- firms that were read are a network with the trades
  pub network_of : (firms : List Firm) → AreFirms firms → length listed.names.firms ≡ length firms
      → IsNetwork firms listed.ends
  network_of firms are named =
      network listed.ends firms (subst (λ n. AreInOrder n listed.ends) named trades.order) (have_sides firms are)

  -- and their later positions have later trades
  pub positions_ascend : (firms : List Firm) → AreFirms firms → (f i j : ℕ) (firm : Firm)
      → slice_get firms f ≡ Some firm → i < j → j < firm.count → own listed.ends f i < own listed.ends f j
  positions_ascend firms are f i j firm at before below =
      own_ascends (length listed.names.firms) f i j listed.ends trades.order before
      (subst (λ n. j < n) (have_sides firms are f firm at).0 below)

  pub network_from_reading : (items : Items) (firms : List Firm) → length listed.names.firms ≡ items_len items
      → each (one_firm tested listed) [] items ≡ Ok firms → IsNetwork firms listed.ends
  network_from_reading items firms count e =
      network_of firms ((firms_are items).at firms e) (count ∙ sym ((firms_are_counted items).at firms e))
