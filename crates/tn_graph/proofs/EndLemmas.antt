-- The two ends of a trade: at which firm and position it raises and lowers.
use Rattle.std.proofs.Common.{◌≡◌, ℕ, ◌<◌, Bool, true, false, not, if◌then◌else◌, List, slice_get, Some, None, Option, option_map, refl, sym, ap, ap₂, ◌∙◌, subst}
use Rattle.std.proofs.lemmas.Option.{same_Some}
use Rattle.tn_base.specs.Sets.{has}
use Rattle.tn_base.specs.Firm.{Firm}
use Rattle.tn_firm_laws.specs.Places.{trade_level}
use Rattle.tn_model.specs.declared.ends.Ends.{Ends}
use Rattle.tn_model.specs.Network.{own, part, IsNetwork}
use Rattle.tn_market.specs.Graph.{raised as raised_end}
use Rattle.tn_market.proofs.GraphLemmas.{IsEnd, raised_end as end_raised, has-part, raised_own, lowered_own}
use Rattle.tn_graph.specs.Layout.{end_of}

-- the trade at a position of a firm raises it, or lowers it
pub end_here : (firms : List Firm) (trades : List Ends) → IsNetwork firms trades → (on f k : ℕ) (firm : Firm)
    → slice_get firms f ≡ Some firm → k < firm.count → (rises : Bool)
    → rises ≡ (if has firm.buys k then not (has on (own trades f k)) else has on (own trades f k))
    → end_of trades (has on) rises (own trades f k) ≡ Some (f, k)
unfolding trade_level
end_here firms trades network on f k firm is inside rises rises_is =
    by_case (has firm.buys k) (has on (own trades f k)) rises refl refl rises_is
  where
    member : has (part trades f firm.count on) k ≡ has on (own trades f k)
    member = has-part trades f firm.count on k inside

    level : (b h : Bool) → has firm.buys k ≡ b → has on (own trades f k) ≡ h
        → trade_level firm.buys (part trades f firm.count on) k
        ≡ (if b then (if h then 1 else 0) else (if h then 0 else 1))
    level b h b_is h_is =
        ap₂ (λ (x y : Bool). if x then (if y then 1 else 0) else (if y then 0 else 1)) b_is (member ∙ h_is)

    by_case : (b h r : Bool) → has firm.buys k ≡ b → has on (own trades f k) ≡ h
        → r ≡ (if has firm.buys k then not (has on (own trades f k)) else has on (own trades f k))
        → end_of trades (has on) r (own trades f k) ≡ Some (f, k)
    by_case b h r b_is h_is r_is =
        at b h r (level b h b_is h_is) (r_is ∙ ap₂ (λ (x y : Bool). if x then not y else y) b_is h_is)
      where
        at : (b h r : Bool) → trade_level firm.buys (part trades f firm.count on) k
            ≡ (if b then (if h then 1 else 0) else (if h then 0 else 1)) → r ≡ (if b then not h else h)
            → end_of trades (has on) r (own trades f k) ≡ Some (f, k)
        at true false true l e = raised_own firms trades network on f k firm is inside l
        at false true true l e = raised_own firms trades network on f k firm is inside l
        at true true false l e = lowered_own firms trades network on f k firm is inside l
        at false false false l e = lowered_own firms trades network on f k firm is inside l
        at true true true l e = absurd (cc e)
        at false false true l e = absurd (cc e)
        at true false false l e = absurd (cc e)
        at false true false l e = absurd (cc e)

-- which trade it is whose end is at a position, and on which side
pub record EndAt (trades : List Ends) (is_on : ℕ → Bool) (rises : Bool) (t g j : ℕ) : Type 0 where
  pub trade : Ends
  pub there : slice_get trades t ≡ Some trade
  pub is : ◌≡◌ {A = ℕ × ℕ} (raised_end trade (if rises then is_on t else not (is_on t))) (g, j)

pub end_at : (trades : List Ends) (is_on : ℕ → Bool) (rises : Bool) (t g j : ℕ)
    → end_of trades is_on rises t ≡ Some (g, j) → EndAt trades is_on rises t g j
end_at trades is_on rises t g j is = by_case (slice_get trades t) refl is
  where
    by_case : (o : Option Ends) → slice_get trades t ≡ o
        → option_map (λ trade. raised_end trade (if rises then is_on t else not (is_on t))) (slice_get trades t)
        ≡ Some (g, j) → EndAt trades is_on rises t g j
    by_case None there e =
        let none : end_of trades is_on rises t ≡ None =
        ap (option_map (λ trade. raised_end trade (if rises then is_on t else not (is_on t)))) there in
        absurd (cc (none, e))
    by_case (Some trade) there e = record {
      trade = trade;
      there = there;
      is = same_Some _ _
          (sym (ap (option_map (λ trade. raised_end trade (if rises then is_on t else not (is_on t)))) there) ∙ e);
    }

-- the firm there owns the trade
pub end_owned : (firms : List Firm) (trades : List Ends) → IsNetwork firms trades → (is_on : ℕ → Bool) (rises : Bool)
    (t g j : ℕ) → end_of trades is_on rises t ≡ Some (g, j)
    → IsEnd firms trades t g j (not (if rises then is_on t else not (is_on t)))
end_owned firms trades network is_on rises t g j is =
    let at = end_at trades is_on rises t g j is in
    subst (λ (p : ℕ × ℕ). IsEnd firms trades t p.0 p.1 (not (if rises then is_on t else not (is_on t)))) at.is
    (end_raised firms trades network t at.trade at.there (if rises then is_on t else not (is_on t)))

-- a trade has one end at a firm
pub one_end : (firms : List Firm) (trades : List Ends) → IsNetwork firms trades → (is_on : ℕ → Bool) (a b : Bool)
    (t g i j : ℕ) → end_of trades is_on a t ≡ Some (g, i) → end_of trades is_on b t ≡ Some (g, j) → a ≡ b
one_end firms trades network is_on a b t g i j a_is b_is =
    let one = end_at trades is_on a t g i a_is in
    let other = end_at trades is_on b t g j b_is in
    let same : other.trade ≡ one.trade = same_Some _ _ (sym other.there ∙ one.there) in
    by_case a b (is_on t) one.trade (network.apart t one.trade one.there) (ap (λ (p : ℕ × ℕ). p.0) one.is)
    (ap (λ (z : Ends). (raised_end z (if b then is_on t else not (is_on t))).0) (sym same)
    ∙ ap (λ (p : ℕ × ℕ). p.0) other.is)
  where
    by_case : (a b h : Bool) (trade : Ends) → (trade.seller ≡ trade.buyer → ⊥)
        → (raised_end trade (if a then h else not h)).0 ≡ g → (raised_end trade (if b then h else not h)).0 ≡ g → a ≡ b
    by_case true true h trade apart p q = refl
    by_case false false h trade apart p q = refl
    by_case true false true trade apart p q = absurd (apart (p ∙ sym q))
    by_case true false false trade apart p q = absurd (apart (q ∙ sym p))
    by_case false true true trade apart p q = absurd (apart (q ∙ sym p))
    by_case false true false trade apart p q = absurd (apart (p ∙ sym q))
