-- What the names and the trades of a document are.
use Rattle.std.proofs.Common.{◌≡◌, ℕ, ◌+◌, ◌≤◌, List, [], ◌∷◌, length, Some, refl, sym, ap, subst, ◌∙◌, arith}
use Rattle.std.specs.Prelude.{codes, option_and_then}
use Rattle.serde_json.specs.Data.{Data, Items}
use Rattle.serde_json.specs.Events.{items_len}
use Rattle.serde_json.specs.Find.{get, as_number, as_u64}
use Rattle.tn_said.specs.declared.fault.FaultKind.TheVariants.{Shape}
use Rattle.tn_model.specs.Limits.{AreLimits, limits_of, most_firms}
use Rattle.tn_model.specs.declared.limits.Limits.{Limits}
use Rattle.tn_model.proofs.LimitLemmas.{limits_are}
use Rattle.tn_said.specs.declared.place.PlaceStep.TheVariants.{Key}
use Rattle.tn_said.specs.declared.place.Word.TheVariants.{Version, Firms, Trades}
use Rattle.tn_names.specs.Names.{NameLists, IsNameList, no_names}
use Rattle.tn_read_shapes.specs.declared.members.ObjectKind.TheVariants.{Top}
use Rattle.tn_read_head.specs.Beside.{with_names}
use Rattle.tn_read_shapes.specs.Reading.{each, wanted}
use Rattle.tn_read_shapes.specs.Shapes.{few_at, object_of}
use Rattle.tn_read_references.specs.Ordered.{Listed, AreInOrder, AreTrades}
use Rattle.tn_read_head.specs.Naming.{NamedTrades, one_firm_name, one_trade}
use Rattle.tn_read_head.specs.Listing.{limits_at, listed_of}
use Rattle.tn_read_shapes.proofs.LeadLemmas.{Leads, leads_ok, leads_bind, leads_after, leads_wanted, leads_as, leads_both}
use Rattle.tn_read_head.proofs.BesideLemmas.{leads_beside}
use Rattle.tn_read_head.proofs.NameLeads.{IsListWhileFew, AreListed, firms_lead, firms_count, trades_lead, trades_count}
use Rattle.tn_read_shapes.proofs.ShapeLeads.{few_lead}

-- the limits are those of a version
abbrev pub AreOfVersion : Limits → Type 0
AreOfVersion limits = (version : ℕ) × (limits_of version ≡ Some limits)

version_lead : (top : Data) → Leads AreOfVersion (limits_at top)
unfolding limits_at
version_lead top =
    leads_after _
    (wanted Shape (Key Version ∷ []) (option_and_then as_u64
    (option_and_then as_number (get (codes "version") top)))) _ (λ version.
    leads_as (λ limits. limits_of version ≡ Some limits) AreOfVersion _ (λ limits is. (version, is))
    (leads_wanted Shape (Key Version ∷ []) (limits_of version)))

pub limits_lead : (top : Data) → Leads AreLimits (limits_at top)
limits_lead top =
    leads_as AreOfVersion AreLimits (limits_at top) (λ limits version. limits_are version.0 limits version.1)
    (version_lead top)

-- the head of a document with so many firms
pub record IsListing (found : Listed × Items) : Type 0 where
  pub firm_names : IsNameList found.0.names.firms
  pub trade_names : IsNameList found.0.names.trades
  pub trades : AreTrades found.0
  pub limits : AreOfVersion found.0.limits
  pub count : length found.0.names.firms ≡ items_len found.1
  pub few : items_len found.1 ≤ most_firms

is_listing : (limits : Limits) (names : NameLists) (firms : Items) (trades : Items) (named : NamedTrades)
    → AreOfVersion limits
    → items_len firms ≤ limits.firms → IsListWhileFew names.firms → length names.firms ≡ items_len firms
    → items_len trades ≤ limits.trades → AreListed names.firms named → length named.ends ≡ items_len trades
    → IsListing (record { limits = limits; names = named.names; ends = named.ends }, firms)
is_listing limits names firms trades named version few_firms kept count few_trades are trades_count =
    let same = ap length are.firms_are in
    let are_limits = limits_are version.0 limits version.1 in
    record {
      firm_names = subst IsNameList (sym are.firms_are) (kept (omega (arith, are_limits.firms, few_firms, count)));
      trade_names = are.kept (omega (arith, are_limits.trades, few_trades, trades_count, are.named));
      trades = record {
        limits = are_limits;
        few_firms = omega (arith, few_firms, count, same);
        named = are.named;
        few = omega (arith, few_trades, trades_count);
        order = subst (λ (n : List (List ℕ)). AreInOrder (length n) named.ends) (sym are.firms_are) are.order;
      };
      limits = version;
      count = same ∙ count;
      few = omega (arith, are_limits.firms, few_firms);
    }

pub listed_leads : (top : Data) → Leads IsListing (listed_of top)
unfolding listed_of
listed_leads top =
    leads_after IsListing (with_names no_names (object_of Top [] (Some top))) _ (λ object.
    leads_bind AreOfVersion IsListing (with_names no_names (limits_at top)) _
    (leads_beside _ no_names (limits_at top) (version_lead top)) (λ limits version.
    leads_bind (λ items. items_len items ≤ limits.firms) IsListing
    (with_names no_names (few_at limits.firms (Key Firms ∷ []) (get (codes "firms") top))) _
    (leads_beside _ no_names _ (few_lead limits.firms (Key Firms ∷ []) (get (codes "firms") top)))
    (λ firms few_firms.
    leads_bind (λ end. (IsListWhileFew end.firms × (end.trades ≡ []))
    × (length end.firms ≡ 0 + items_len firms)) IsListing (each one_firm_name no_names firms) _
    (leads_both _ _ _ (firms_lead no_names firms refl refl) (firms_count no_names firms)) (λ names are_names.
    leads_bind (λ items. items_len items ≤ limits.trades) IsListing
    (with_names names (few_at limits.trades (Key Trades ∷ []) (get (codes "trades") top))) _
    (leads_beside _ names _ (few_lead limits.trades (Key Trades ∷ []) (get (codes "trades") top)))
    (λ trades few_trades.
    leads_bind (λ end. AreListed names.firms end × (length end.ends ≡ 0 + items_len trades)) IsListing
    (each one_trade (record { names = names; ends = [] }) trades) _
    (leads_both _ _ _ (trades_lead names trades are_names.0.1)
    (trades_count (record { names = names; ends = [] }) trades)) (λ named are.
    leads_ok IsListing (
      record { limits = limits; names = named.names; ends = named.ends },
      firms,
    ) (is_listing limits names firms trades named version few_firms are_names.0.0 (are_names.1
    ∙ omega arith) few_trades are.0 (are.1 ∙ omega arith))))))))
