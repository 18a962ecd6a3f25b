-- What the dealers are that reading gives.
use Rattle.std.proofs.Common.{◌≡◌, ℕ, ◌*◌, ◌<◌, ◌≤◌, zero, suc, ◌&&◌, ◌||◌, Bool, true, false, not, cond, List, [], ◌∷◌, ◌++◌, length, Some, None, inl, inr, refl, sym, ap, ◌∙◌, arith}
use Rattle.std.specs.Prelude.{nat_eq, codes, slice_get, option_and_then, All}
use Rattle.std.specs.List.{list_any}
use Rattle.std.proofs.lemmas.Bool.{eqb-true, eq-eqb, false≢true, cases_Bool}
use Rattle.std.proofs.lemmas.Option.{none-some, same_Some, slice_get_within, option_and_then_some}
use Rattle.std.proofs.lemmas.List.Elements.{All-nil, All-push}
use Rattle.serde_json.specs.Data.{Data, Items}
use Rattle.serde_json.specs.Find.{get}
use Rattle.tn_base.specs.Arcs.{IsAtMost}
use Rattle.tn_base.specs.Widths.{most_amount}
use Rattle.tn_base.specs.Sets.{has}
use Rattle.tn_base.specs.Table.{buys_of}
use Rattle.tn_said.specs.declared.fault.FaultKind.TheVariants.{SamePair}
use Rattle.tn_base.specs.declared.side.Side.TheVariants.{Buy, Sell}
use Rattle.tn_base.proofs.TableLemmas.{bought_from, side_from}
use Rattle.tn_dealer.specs.declared.pair.Pair.{Pair}
use Rattle.tn_dealer.specs.Pairs.{AreUnrepeated, IsNear, IsOwnPair, dealer_firm}
use Rattle.tn_dealer.proofs.RepeatLemmas.{few_different}
use Rattle.tn_model.specs.declared.ends.Ends.{Ends}
use Rattle.tn_model.specs.Limits.{most_own_trades}
use Rattle.tn_said.specs.declared.place.PlaceStep.{PlaceStep}
use Rattle.tn_said.specs.declared.place.PlaceStep.TheVariants.{Index}
use Rattle.tn_names.proofs.NameLemmas.{push_cases}
use Rattle.tn_read_shapes.specs.Reading.{each, holds}
use Rattle.tn_read_shapes.specs.Shapes.{number_at, optional_list_at, three_at}
use Rattle.tn_read_references.proofs.EntryLeads.{number_within}
use Rattle.tn_read_shapes.proofs.ShapeLeads.{number_leads}
use Rattle.tn_read_shapes.proofs.LeadLemmas.{Leads, leads_ok, leads_bind, leads_after, leads_each, leads_holds, leads_wanted, leads_as, leads_both}
use Rattle.tn_read_references.specs.Ordered.{Listed, AreTrades, AreInOrder, sides_of}
use Rattle.tn_read_references.specs.References.{position_on, own_position}
use Rattle.tn_read_references.proofs.EndsLemmas.{side_at_position}
use Rattle.tn_read_references.proofs.ReferenceLeads.{position_leads}
use Rattle.tn_read_firms.specs.Dealers.{pairs_place, pair_place, pair_of, is_same_pair, one_pair, dealer_of}
use Rattle.tn_read_firms.specs.Laws.{IsDealerFirm}

-- ---- which side a position is on

module _ (firms f : ℕ) (es : List Ends) (order : AreInOrder firms es) (t : ℕ) (e : Ends) (is : slice_get es t
    ≡ Some e) where
  bought_there : (k : ℕ) → position_on (Some Buy) f e ≡ Some k → has (buys_of (sides_of es f)) k ≡ true
  bought_there k at =
      let tests = by (nat_eq e.seller f) (nat_eq e.buyer f) refl refl at in
      let own = side_at_position firms f es t e order is k tests.0 in
      let same : own.0 ≡ Buy = same_Some own.0 Buy (sym own.1 ∙ tests.1) in
      bought_from (sides_of es f) k (own.2 ∙ ap Some same)
    where
      by : (sells buys : Bool) → nat_eq e.seller f ≡ sells → nat_eq e.buyer f ≡ buys
          → cond buys (Some e.at_buyer) None ≡ Some k
          → (cond sells (Some e.at_seller) (cond buys (Some e.at_buyer) None) ≡ Some k)
          × (cond sells (Some Sell) (cond buys (Some Buy) None) ≡ Some Buy)
      by false true seller buyer found = (found, refl)
      by false false seller buyer found = absurd (none-some k found)
      by true true seller buyer found =
          absurd ((order t e is).apart (eqb-true e.seller f seller ∙ sym (eqb-true e.buyer f buyer)))
      by true false seller buyer found = absurd (none-some k found)

  sold_there : (k : ℕ) → position_on (Some Sell) f e ≡ Some k → has (buys_of (sides_of es f)) k ≡ false
  sold_there k at =
      let tests = by (nat_eq e.seller f) refl at in
      let own = side_at_position firms f es t e order is k tests.0 in
      let same : own.0 ≡ Sell = same_Some own.0 Sell (sym own.1 ∙ tests.1) in
      elim (cases_Bool (has (buys_of (sides_of es f)) k)) [
        | inr sold ↦ sold
        | inl bought ↦
            let buys : Buy ≡ Sell = same_Some Buy Sell (sym (side_from (sides_of es f) k bought) ∙ own.2 ∙ ap Some same)
            in
            absurd (cc buys)
      ]
    where
      by : (sells : Bool) → nat_eq e.seller f ≡ sells → cond sells (Some e.at_seller) None ≡ Some k
          → (cond sells (Some e.at_seller) (cond (nat_eq e.buyer f) (Some e.at_buyer) None) ≡ Some k)
          × (cond sells (Some Sell) (cond (nat_eq e.buyer f) (Some Buy) None) ≡ Some Sell)
      by true seller found = (found, refl)
      by false seller found = absurd (none-some k found)

-- ---- pairs that are not repeated

any_at : (p : Pair → Bool) (pairs : List Pair) (k : ℕ) (pair : Pair) → slice_get pairs k ≡ Some pair → p pair ≡ true
    → list_any p pairs ≡ true
any_at p [] k pair is meets = absurd (none-some pair is)
any_at p (first ∷ pairs) zero pair is meets = ap (λ b. b || list_any p pairs) (ap p (same_Some first pair is) ∙ meets)
any_at p (first ∷ pairs) (suc k) pair is meets = either (p first) (list_any p pairs) (any_at p pairs k pair is meets)
  where
    either : (b d : Bool) → d ≡ true → (b || d) ≡ true
    either true d e = refl
    either false d e = e

-- ---- costs

module _ (listed : Listed) where
  -- a pair's cost is within the limit of the version
  abbrev pub IsCheap : Pair → Type 0
  IsCheap pair = IsAtMost pair.cost listed.limits.amount

  pair_is_cheap : (f k : ℕ) (entry : Data) → Leads IsCheap (pair_of listed f k entry)
  unfolding pair_of
  pair_is_cheap f k entry =
      leads_after IsCheap (three_at (pair_place f k) entry) _ (λ three.
      leads_after IsCheap (own_position listed f (Some Buy) (pair_place f k ++ Index 0 ∷ []) three.0) _ (λ b.
      leads_after IsCheap (own_position listed f (Some Sell) (pair_place f k ++ Index 1 ∷ []) three.1) _ (λ s.
      leads_bind (λ z. IsAtMost z listed.limits.amount) IsCheap
      (number_at listed.limits.amount (pair_place f k ++ Index 2 ∷ []) three.2) _
      (number_leads listed.limits.amount (pair_place f k ++ Index 2 ∷ []) (Some three.2)) (λ cost small.
      leads_ok IsCheap (record { buy = b; sell = s; cost = cost }) small))))

  one_more_is_cheap : (f : ℕ) (pairs : List Pair) (entry : Data) → All IsCheap pairs
      → Leads (All IsCheap) (one_pair listed f pairs entry)
  unfolding one_pair
  one_more_is_cheap f pairs entry are =
      leads_bind IsCheap (All IsCheap) (pair_of listed f (length pairs) entry) _
      (pair_is_cheap f (length pairs) entry) (λ next is.
      leads_after (All IsCheap) (holds SamePair (pair_place f (length pairs))
      (not (list_any (is_same_pair next) pairs))) _ (λ u.
      leads_ok (All IsCheap) (pairs ++ next ∷ []) (All-push IsCheap pairs next are is)))

  pairs_are_cheap : (f : ℕ) (entries : Items) → Leads (All IsCheap) (each (one_pair listed f) [] entries)
  pairs_are_cheap f entries =
      leads_each (All IsCheap) (one_pair listed f) (one_more_is_cheap f) [] entries (All-nil IsCheap)

-- ---- own pairs

module _ (listed : Listed) (trades : AreTrades listed) (f : ℕ) where
  abbrev pub IsOwn : Pair → Type 0
  IsOwn = IsOwnPair (length (sides_of listed.ends f)) (buys_of (sides_of listed.ends f))

  bought_leads : (place : List PlaceStep) (value : Data)
      → Leads (λ k. has (buys_of (sides_of listed.ends f)) k ≡ true) (own_position listed f (Some Buy) place value)
  unfolding own_position
  bought_leads place value =
      leads_after _ _ _ (λ t. leads_as (λ k. option_and_then (position_on (Some Buy) f) (slice_get listed.ends t)
      ≡ Some k) _ _ (side t) (leads_wanted _ _ _))
    where
      side : (t k : ℕ) → option_and_then (position_on (Some Buy) f) (slice_get listed.ends t) ≡ Some k
          → has (buys_of (sides_of listed.ends f)) k ≡ true
      side t k e =
          option_and_then_some (position_on (Some Buy) f) (slice_get listed.ends t) k e
          (λ trade is at. bought_there (length listed.names.firms) f listed.ends trades.order t trade is k at)

  sold_leads : (place : List PlaceStep) (value : Data)
      → Leads (λ k. has (buys_of (sides_of listed.ends f)) k ≡ false) (own_position listed f (Some Sell) place value)
  unfolding own_position
  sold_leads place value =
      leads_after _ _ _ (λ t. leads_as (λ k. option_and_then (position_on (Some Sell) f) (slice_get listed.ends t)
      ≡ Some k) _ _ (side t) (leads_wanted _ _ _))
    where
      side : (t k : ℕ) → option_and_then (position_on (Some Sell) f) (slice_get listed.ends t) ≡ Some k
          → has (buys_of (sides_of listed.ends f)) k ≡ false
      side t k e =
          option_and_then_some (position_on (Some Sell) f) (slice_get listed.ends t) k e
          (λ trade is at. sold_there (length listed.names.firms) f listed.ends trades.order t trade is k at)

  -- a pair that is read is one of own trades
  pub pair_leads : (k : ℕ) (entry : Data) → Leads IsOwn (pair_of listed f k entry)
  unfolding pair_of
  pair_leads k entry =
      leads_after IsOwn (three_at (pair_place f k) entry) _ (λ three.
      leads_bind (λ b. (b < length (sides_of listed.ends f))
      × (has (buys_of (sides_of listed.ends f)) b ≡ true)) IsOwn
      (own_position listed f (Some Buy) (pair_place f k ++ Index 0 ∷ []) three.0) _
      (leads_both _ _ _ (position_leads listed trades f (Some Buy) (pair_place f k ++ Index 0 ∷ []) three.0)
      (bought_leads (pair_place f k ++ Index 0 ∷ []) three.0)) (λ b bought.
      leads_bind (λ s. (s < length (sides_of listed.ends f))
      × (has (buys_of (sides_of listed.ends f)) s ≡ false)) IsOwn
      (own_position listed f (Some Sell) (pair_place f k ++ Index 1 ∷ []) three.1) _
      (leads_both _ _ _ (position_leads listed trades f (Some Sell) (pair_place f k ++ Index 1 ∷ []) three.1)
      (sold_leads (pair_place f k ++ Index 1 ∷ []) three.1)) (λ s sold.
      leads_bind (λ z. IsAtMost z most_amount) IsOwn (number_at listed.limits.amount (pair_place f k ++ Index 2 ∷ [])
      three.2) _ (number_within listed.limits.amount most_amount trades.limits.amount (pair_place f k
      ++ Index 2 ∷ []) (Some three.2)) (λ cost small.
      leads_ok IsOwn (record { buy = b; sell = s; cost = cost }) (record {
        purchase = bought.0;
        bought =
            bought.1;
        sale = sold.0;
        sold = sold.1;
        small = small;
      })))))

  -- own pairs of which none is repeated
  pub record AreNew (pairs : List Pair) : Type 0 where
    pub own : All IsOwn pairs
    pub different : AreUnrepeated pairs

  pub no_pairs : AreNew []
  no_pairs = record { own = All-nil IsOwn; different = λ j repeated. none-some repeated.pair repeated.pair_is }

  pub one_more : (pairs : List Pair) (next : Pair) → AreNew pairs → IsOwn next
      → list_any (is_same_pair next) pairs ≡ false → AreNew (pairs ++ next ∷ [])
  one_more pairs next are own new = record { own = All-push IsOwn pairs next are.own own; different = different }
    where
      different : AreUnrepeated (pairs ++ next ∷ [])
      different j repeated = elim (push_cases pairs next repeated.earlier repeated.at repeated.earlier_is) [
        | inr last ↦ elim (push_cases pairs next repeated.pair j repeated.pair_is) [
          | inl there ↦
              let within = slice_get_within pairs j repeated.pair there in
              let before = repeated.before in
              let end = last.0 in
              absurd (omega (arith, within, before, end))
          | inr here ↦
              let before = repeated.before in
              let end = last.0 in
              let same = here.0 in
              absurd (omega (arith, before, end, same))
        ]
        | inl earlier ↦ elim (push_cases pairs next repeated.pair j repeated.pair_is) [
          | inl there ↦ are.different j (record {
            at = repeated.at;
            earlier = repeated.earlier;
            pair = repeated.pair;
            before = repeated.before;
            earlier_is = earlier;
            pair_is = there;
            same_buy = repeated.same_buy;
            same_sell = repeated.same_sell;
          })
          | inr here ↦
              let buy : (nat_eq repeated.earlier.buy next.buy) ≡ true =
              eq-eqb repeated.earlier.buy next.buy (repeated.same_buy ∙ ap (λ (p : Pair). p.buy) (sym here.1)) in
              let sell : (nat_eq repeated.earlier.sell next.sell) ≡ true =
              eq-eqb repeated.earlier.sell next.sell (repeated.same_sell ∙ ap (λ (p : Pair). p.sell) (sym here.1))
              in
              false≢true (sym new ∙ any_at (is_same_pair next) pairs repeated.at repeated.earlier earlier
              (ap (λ b. b && nat_eq repeated.earlier.sell next.sell) buy ∙ sell))
        ]
      ]

  pub new_pair : (b : Bool) → not b ≡ true → b ≡ false
  new_pair true e = absurd (false≢true e)
  new_pair false e = refl

  pub one_pair_leads : (pairs : List Pair) (entry : Data) → AreNew pairs → Leads AreNew (one_pair listed f pairs entry)
  unfolding one_pair
  one_pair_leads pairs entry are =
      leads_bind IsOwn AreNew (pair_of listed f (length pairs) entry) _ (pair_leads (length pairs) entry) (λ next own.
      leads_bind (λ _. not (list_any (is_same_pair next) pairs) ≡ true) AreNew
      (holds SamePair (pair_place f (length pairs)) (not (list_any (is_same_pair next) pairs))) _
      (leads_holds SamePair (pair_place f (length pairs)) (not (list_any (is_same_pair next) pairs))) (λ u new.
      leads_ok AreNew (pairs ++ next ∷ []) (one_more pairs next are own
      (new_pair (list_any (is_same_pair next) pairs) new))))

  pub pairs_lead : (entries : Items) → Leads AreNew (each (one_pair listed f) [] entries)
  pairs_lead entries = leads_each AreNew (one_pair listed f) one_pair_leads [] entries no_pairs

  -- such pairs are few
  pub few_new : (pairs : List Pair) → length (sides_of listed.ends f) ≤ most_own_trades → AreNew pairs
      → length pairs ≤ most_own_trades * most_own_trades
  few_new pairs few are = few_different pairs (length pairs) (omega arith) near (λ j below. are.different j)
    where
      near : All IsNear pairs
      near k d below = let own = are.own k d below in let buy = own.purchase in let sell = own.sale in
          record { buy = omega (arith, few, buy); sell = omega (arith, few, sell) }

  pub dealer_leads : (firm : Data) → length (sides_of listed.ends f) ≤ listed.limits.own
      → Leads (IsDealerFirm listed.limits listed.ends f) (dealer_of listed f firm)
  unfolding dealer_of
  dealer_leads firm few =
      let is_firm = IsDealerFirm listed.limits listed.ends f in
      leads_after is_firm (optional_list_at (pairs_place f) (get (codes "pairs") firm)) _ (λ entries.
      leads_bind (λ pairs. AreNew pairs × All (IsCheap listed) pairs) is_firm (each (one_pair listed f) [] entries) _
      (leads_both AreNew (All (IsCheap listed)) (each (one_pair listed f) [] entries) (pairs_lead entries)
      (pairs_are_cheap listed f entries)) (λ pairs are.
      leads_ok is_firm (dealer_firm (sides_of listed.ends f) pairs) (record {
        pairs = pairs;
        is = refl;
        few = few;
        own = are.0.own;
        small = are.1;
        different = are.0.different;
      })))
