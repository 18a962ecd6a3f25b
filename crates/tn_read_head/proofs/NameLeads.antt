-- What the names and the trades are that reading gives.
use Rattle.std.proofs.Common.{◌≡◌, ℕ, ◌+◌, ◌<◌, ◌≤◌, true, false, List, [], ◌∷◌, ◌++◌, length, Option, Some, refl, sym, ap, subst, ◌∙◌, arith, length-append}
use Rattle.std.specs.Prelude.{nat_eq, not, codes}
use Rattle.std.proofs.lemmas.Option.{none-some}
use Rattle.serde_json.specs.Data.{Data, Items}
use Rattle.serde_json.specs.Events.{items_len}
use Rattle.serde_json.specs.Find.{get}
use Rattle.tn_said.specs.declared.fault.FaultKind.TheVariants.{BadName, SameName, SelfTrade}
use Rattle.tn_model.specs.declared.ends.Ends.{Ends}
use Rattle.tn_said.specs.declared.place.PlaceStep.{PlaceStep}
use Rattle.tn_said.specs.declared.place.PlaceStep.TheVariants.{Index, Key}
use Rattle.tn_said.specs.declared.place.Word.TheVariants.{Firms, Trades, Name, Seller, Buyer}
use Rattle.tn_names.specs.Names.{NameLists, IsNameList, most_names, has_name, is_name, with_firm, with_trade}
use Rattle.tn_names.proofs.NameLemmas.{IsNameList-push}
use Rattle.tn_read_shapes.specs.declared.members.ObjectKind.TheVariants.{Trade as TradeObject}
use Rattle.tn_read_head.specs.Beside.{with_names}
use Rattle.tn_read_shapes.specs.Reading.{each, holds}
use Rattle.tn_read_shapes.specs.Shapes.{text_at, object_at, object_of}
use Rattle.tn_read_head.specs.Naming.{NamedTrades, name_at, new_name, firm_name, one_firm_name, trade_name, ends_at, one_trade}
use Rattle.tn_read_references.specs.References.{firm_at}
use Rattle.tn_read_references.proofs.ReferenceLeads.{firm_at_leads}
use Rattle.tn_read_references.specs.Ordered.{ComesNext, AreInOrder, sides_of}
use Rattle.tn_model.proofs.InOrderLemmas.{AreInOrder-push}
use Rattle.tn_read_shapes.proofs.LeadLemmas.{Leads, leads_ok, leads_bind, leads_after, leads_each, leads_count, leads_holds, leads_as, is_true_not, apart_from_test}
use Rattle.tn_read_head.proofs.BesideLemmas.{leads_beside}

name_leads : (place : List PlaceStep) (value : Option Data) → Leads (λ n. is_name n ≡ true) (name_at place value)
unfolding name_at
name_leads place value =
    leads_after _ (text_at place value) _ (λ name. leads_bind (λ _. is_name name ≡ true) (λ n. is_name n ≡ true)
    (holds BadName place (is_name name)) _ (leads_holds BadName place (is_name name))
    (λ u t. leads_ok (λ n. is_name n ≡ true) name t))

-- a name that keeps the rule and isn't among the names
pub record IsNew (names : List (List ℕ)) (name : List ℕ) : Type 0 where
  pub rule : is_name name ≡ true
  pub new : has_name names name ≡ false

pub new_name_leads : (names : List (List ℕ)) (place : List PlaceStep) (value : Option Data)
    → Leads (IsNew names) (new_name names place value)
unfolding new_name
new_name_leads names place value =
    leads_bind (λ n. is_name n ≡ true) (IsNew names) (name_at place value) _ (name_leads place value) (λ name rule.
    leads_bind (λ _. not (has_name names name) ≡ true) (IsNew names) (holds SameName place (not (has_name names name)))
    _ (leads_holds SameName place (not (has_name names name))) (λ u t.
    leads_ok (IsNew names) name (record { rule = rule; new = is_true_not (has_name names name) t })))

-- names with one more
pub record IsMore (names more : List (List ℕ)) : Type 0 where
  pub name : List ℕ
  pub is_new : IsNew names name
  pub is : more ≡ names ++ name ∷ []

pub firm_name_leads : (names : NameLists) (firm : Data)
    → Leads (λ next. IsMore names.firms next.firms × (next.trades ≡ names.trades)) (firm_name names firm)
unfolding firm_name
firm_name_leads names firm =
    leads_after _ (object_at (Key Firms ∷ Index (length names.firms) ∷ []) (Some firm)) _ (λ object.
    leads_bind (IsNew names.firms) (λ next. IsMore names.firms next.firms
    × (next.trades ≡ names.trades)) (new_name names.firms (Key Firms ∷ Index (length names.firms) ∷ Key Name ∷ [])
    (get (codes "name") firm)) _
    (new_name_leads names.firms (Key Firms ∷ Index (length names.firms) ∷ Key Name ∷ []) (get (codes "name") firm))
    (λ name is_new. leads_ok (λ next. IsMore names.firms next.firms
    × (next.trades ≡ names.trades)) (with_firm names name) (
      record { name = name; is_new = is_new; is = refl },
      refl,
    )))

pub trade_name_leads : (names : NameLists) (trade : Data)
    → Leads (λ next. IsMore names.trades next.trades × (next.firms ≡ names.firms)) (trade_name names trade)
unfolding trade_name
trade_name_leads names trade =
    leads_after _ (object_of TradeObject (Key Trades ∷ Index (length names.trades) ∷ []) (Some trade)) _ (λ object.
    leads_bind (IsNew names.trades) (λ next. IsMore names.trades next.trades
    × (next.firms ≡ names.firms)) (new_name names.trades
    (Key Trades ∷ Index (length names.trades) ∷ Key Name ∷ []) (get (codes "name") trade)) _
    (new_name_leads names.trades (Key Trades ∷ Index (length names.trades) ∷ Key Name ∷ [])
    (get (codes "name") trade))
    (λ name is_new. leads_ok (λ next. IsMore names.trades next.trades
    × (next.firms ≡ names.firms)) (with_trade names name) (
      record { name = name; is_new = is_new; is = refl },
      refl,
    )))

-- a list of names as long as there are few
abbrev pub IsListWhileFew : List (List ℕ) → Type 0
IsListWhileFew names = length names ≤ most_names → IsNameList names

pub more_names : (names more : List (List ℕ)) → IsMore names more → IsListWhileFew names → IsListWhileFew more
more_names names more m kept few =
    let longer = ap length m.is ∙ length-append names (m.name ∷ []) in
    subst IsNameList (sym m.is) (IsNameList-push names m.name (kept (omega (arith, few, longer))) m.is_new.new
    m.is_new.rule (omega (arith, few, longer)))

pub more_count : (names more : List (List ℕ)) → IsMore names more → length more ≡ length names + 1
more_count names more m = ap length m.is ∙ length-append names (m.name ∷ [])

pub none_named : IsListWhileFew []
none_named few = record {
  few = few;
  named = λ k name e. absurd (none-some _ e);
  once =
      λ j k name e d. absurd (none-some _ e);
}

pub firms_lead : (start : NameLists) (firms : Items) → start.firms ≡ [] → start.trades ≡ []
    → Leads (λ end. IsListWhileFew end.firms × (end.trades ≡ [])) (each one_firm_name start firms)
firms_lead start firms no_firms no_trades =
    leads_each (λ end. IsListWhileFew end.firms × (end.trades ≡ [])) one_firm_name
    (λ names firm kept. leads_beside _ names (firm_name names firm) (leads_as (λ next. IsMore names.firms next.firms
    × (next.trades ≡ names.trades)) _ _ (λ next more. (
      more_names names.firms next.firms more.0 kept.0,
      more.1 ∙ kept.1,
    )) (firm_name_leads names firm)))
    start firms (subst IsListWhileFew (sym no_firms) none_named, no_trades)

pub firms_count : (start : NameLists) (firms : Items)
    → Leads (λ end. length end.firms ≡ length start.firms + items_len firms) (each one_firm_name start firms)
firms_count start firms =
    leads_count (λ (names : NameLists). length names.firms) one_firm_name
    (λ names firm. leads_beside _ names (firm_name names firm) (leads_as (λ next. IsMore names.firms next.firms
    × (next.trades ≡ names.trades)) _ _ (λ next more. more_count names.firms next.firms more.0)
    (firm_name_leads names firm)))
    start firms

ends_lead : (firms : List (List ℕ)) (before : List Ends) (t : ℕ) (trade : Data)
    → Leads (ComesNext (length firms) before) (ends_at firms before t trade)
unfolding ends_at
ends_lead firms before t trade =
    leads_bind (λ f. f < length firms) (ComesNext (length firms) before)
    (firm_at firms (Key Trades ∷ Index t ∷ Key Seller ∷ []) (get (codes "seller") trade)) _
    (firm_at_leads firms (Key Trades ∷ Index t ∷ Key Seller ∷ []) (get (codes "seller") trade))
    (λ seller seller_known.
    leads_bind (λ f. f < length firms) (ComesNext (length firms) before)
    (firm_at firms (Key Trades ∷ Index t ∷ Key Buyer ∷ []) (get (codes "buyer") trade)) _
    (firm_at_leads firms (Key Trades ∷ Index t ∷ Key Buyer ∷ []) (get (codes "buyer") trade))
    (λ buyer buyer_known.
    leads_bind (λ _. not (nat_eq seller buyer) ≡ true) (ComesNext (length firms) before)
    (holds SelfTrade (Key Trades ∷ Index t ∷ []) (not (nat_eq seller buyer))) _
    (leads_holds SelfTrade (Key Trades ∷ Index t ∷ []) (not (nat_eq seller buyer))) (λ u apart.
    leads_ok (ComesNext (length firms) before) (record {
      seller = seller;
      buyer = buyer;
      at_seller =
          length (sides_of before seller);
      at_buyer = length (sides_of before buyer);
    })
    (record {
      seller = seller_known;
      buyer = buyer_known;
      apart = apart_from_test seller buyer apart;
      at_seller =
          refl;
      at_buyer = refl;
    }))))

-- the trades so far, over these firms
pub record AreListed (firms : List (List ℕ)) (listed : NamedTrades) : Type 0 where
  pub kept : IsListWhileFew listed.names.trades
  pub named : length listed.names.trades ≡ length listed.ends
  pub order : AreInOrder (length firms) listed.ends
  pub firms_are : listed.names.firms ≡ firms

pub one_trade_leads : (firms : List (List ℕ)) (listed : NamedTrades) (trade : Data) → AreListed firms listed
    → Leads (AreListed firms) (one_trade listed trade)
unfolding one_trade
one_trade_leads firms listed trade are =
    leads_bind (λ next. IsMore listed.names.trades next.trades
    × (next.firms ≡ listed.names.firms)) (AreListed firms) (with_names listed.names (trade_name listed.names trade))
    _ (leads_beside _ listed.names (trade_name listed.names trade) (trade_name_leads listed.names trade))
    (λ names more.
    leads_bind (ComesNext (length names.firms) listed.ends) (AreListed firms)
    (with_names names (ends_at names.firms listed.ends (length listed.ends) trade)) _
    (leads_beside _ names (ends_at names.firms listed.ends (length listed.ends) trade)
    (ends_lead names.firms listed.ends (length listed.ends) trade)) (λ ends next.
    let same : names.firms ≡ firms = more.1 ∙ are.firms_are in
    leads_ok (AreListed firms) (record { names = names; ends = listed.ends ++ ends ∷ [] }) (record {
      kept = more_names listed.names.trades names.trades more.0 are.kept;
      named = more_count listed.names.trades names.trades more.0
          ∙ omega (arith, are.named, length-append listed.ends (ends ∷ []));
      order = AreInOrder-push (length firms) listed.ends ends are.order
          (subst (λ (n : List (List ℕ)). ComesNext (length n) listed.ends ends) same next);
      firms_are = same;
    })))

pub no_trades_listed : (names : NameLists) → names.trades ≡ []
    → AreListed names.firms (record { names = names; ends = [] })
no_trades_listed names no_trades = record {
  kept = subst IsListWhileFew (sym no_trades) none_named;
  named = ap length no_trades;
  order = λ t trade e. absurd (none-some _ e);
  firms_are = refl;
}

pub trades_lead : (names : NameLists) (trades : Items) → names.trades ≡ []
    → Leads (AreListed names.firms) (each one_trade (record { names = names; ends = [] }) trades)
trades_lead names trades no_trades =
    leads_each (AreListed names.firms) one_trade (one_trade_leads names.firms) (record { names = names; ends = [] })
    trades (no_trades_listed names no_trades)

pub one_trade_count : (listed : NamedTrades) (trade : Data)
    → Leads (λ next. length next.ends ≡ length listed.ends + 1) (one_trade listed trade)
unfolding one_trade
one_trade_count listed trade =
    leads_after _ (with_names listed.names (trade_name listed.names trade)) _ (λ names.
    leads_after _ (with_names names (ends_at names.firms listed.ends (length listed.ends) trade)) _ (λ ends.
    leads_ok (λ next. length next.ends ≡ length listed.ends + 1) (record {
      names = names;
      ends =
          listed.ends ++ ends ∷ [];
    }) (length-append listed.ends (ends ∷ []))))

pub trades_count : (listed : NamedTrades) (trades : Items)
    → Leads (λ end. length end.ends ≡ length listed.ends + items_len trades) (each one_trade listed trades)
trades_count listed trades = leads_count (λ (l : NamedTrades). length l.ends) one_trade one_trade_count listed trades
