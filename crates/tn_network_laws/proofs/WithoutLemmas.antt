-- A trade that is on can be done without: where all firms may abstain, a closed walk of the exchange graph leads from
-- it back to it. Without one its buyer's price could be raised above its seller's without limit, and at such prices the
-- firms together would rather have no trade at all.
use Rattle.std.proofs.Common.{◌≡◌, ◌≢◌, ℕ, zero, suc, ◌+◌, ◌<◌, Bool, true, false, ◌==◌, ◌&&◌, if◌then◌else◌, sym, ap, ap₂, ◌∙◌, arith, inl, inr, ◌⊎◌, ℤ, pos, ◌+ℤ◌, ◌-ℤ◌, ◌*ℤ◌, neg_ℤ, List, [], ◌∷◌, length, slice_get, Option, Some, None, option_map, unwrap_or}
use Rattle.std.specs.Prelude.{◌≤ℤ◌}
use Rattle.std.proofs.lemmas.Bool.{cases_eq, eqb-true, and_parts, cases_Bool}
use Rattle.std.proofs.lemmas.Option.{same_Some, slice_get_cases}
use Rattle.std.proofs.lemmas.Int.{ints}
use Rattle.tn_base.specs.Sets.{has, sum_over}
use Rattle.tn_base.specs.Firm.{Firm, MayAbstain, payments}
use Rattle.tn_base.specs.Walks.{walk_cost, Avoids}
use Rattle.tn_base.proofs.SumLemmas.{sum_over-empty}
use Rattle.tn_firm_laws.specs.Places.{trade_level}
use Rattle.tn_model.specs.declared.ends.Ends.{Ends}
use Rattle.tn_model.specs.Network.{own, part, IsNetwork}
use Rattle.tn_market.specs.Equilibrium.{prices_at}
use Rattle.tn_market.specs.Graph.{exchange_arc, raised, lowered, ArePossible}
use Rattle.tn_market.proofs.GraphLemmas.{has-part, raised_own, lowered_own, buyer_end}
use Rattle.tn_network_laws.specs.Laws.{MeetExchange}
use Rattle.tn_network_laws.proofs.SumLemmas.{sum_to, AllFrom, all_from, sum_list, sum_list-plus, placed_at, over_all-placed, placed-here, placed-other_firm}
use Rattle.tn_network_laws.proofs.WelfareLemmas.{paid, paid_cancels}
use Rattle.tn_network_laws.proofs.SplitLemmas.{two_numbers}
use Rattle.tn_network_laws.proofs.LegLemmas.{Setting, place_price, at_firm}
use Rattle.tn_network_laws.proofs.RoundLemmas.{HasNumbers, new_price, place_price-low, place_price-high, place_price-other, arcs_between}

-- ---- sums

sum_list-le : {A : Type 0} (g h : ℕ → A → ℤ) (s : ℕ) (xs : List A) → AllFrom (λ i x. g i x ≤ℤ h i x) s xs
    → sum_list g s xs ≤ℤ sum_list h s xs
sum_list-le g h s [] all = omega (arith, ints)
sum_list-le g h s (x ∷ xs) all =
    let rest = sum_list-le g h (s + 1) xs all.1 in
    let first = all.0 in
    omega (arith, ints, rest, first)

-- a sum over the members, where each term is another one and something more
sum_over-more : (c d e : ℕ → ℤ) (x n : ℕ) → ((k : ℕ) → k < n
    → (if has x k then c k else pos 0) ≡ (if has x k then d k else pos 0) +ℤ e k)
    → sum_over c n x ≡ sum_over d n x +ℤ sum_to e n
unfolding sum_over
sum_over-more c d e x zero each = omega (arith, ints)
sum_over-more c d e x (suc n) each =
    let rest = sum_over-more c d e x n (λ k below. each k (omega (arith, below))) in
    let last = each n (omega arith) in
    omega (arith, ints, rest, last)

-- ---- the firms at the two prices

-- a trade that is on, with its ends
record IsOn (firms : List Firm) (trades : List Ends) (on t : ℕ) : Type 0 where
  trade : Ends
  there : slice_get trades t ≡ Some trade
  member : has on t ≡ true

-- how much more its buyer pays than its seller gets
abbrev gap_of : {firms : List Firm} {trades : List Ends} {on t : ℕ} → Setting firms trades on t → ℤ
gap_of {firms} {trades} {on} {t} s = s.two.entering -ℤ s.two.number t

-- at one price for the trade, its buyer is better off by the gap, and nobody else by anything
gap_at : (firms : List Firm) (trades : List Ends) (on t : ℕ) (s : Setting firms trades on t)
    (is_on : IsOn firms trades on t) (f : ℕ) (firm : Firm) → slice_get firms f ≡ Some firm → (k : ℕ) → k < firm.count
    → (if has (part trades f firm.count on) k then payments firm.buys (prices_at trades (new_price s) f) k else pos 0)
    ≡ (if has (part trades f firm.count on) k then payments firm.buys (place_price s f firm) k else pos 0)
    +ℤ placed_at is_on.trade.buyer is_on.trade.at_buyer (gap_of s) f k
unfolding trade_level
gap_at firms trades on t s is_on f firm is k below = by (cases_eq (own trades f k) t) (cases_Bool (has firm.buys k))
  where
    -- where nothing is placed, and the two prices are one
    same : (b c : Bool) (p q z : ℤ) → q ≡ p → z ≡ pos 0
        → (if b then (if c then neg_ℤ p else p) else pos 0) ≡ (if b then (if c then neg_ℤ q else q) else pos 0) +ℤ z
    same true true p q z e none = omega (arith, ints, e, none)
    same true false p q z e none = omega (arith, ints, e, none)
    same false c p q z e none = omega (arith, ints, none)

    -- where the trade is bought
    more : (b c : Bool) (p q z : ℤ) → b ≡ true → c ≡ true → z ≡ q -ℤ p
        → (if b then (if c then neg_ℤ p else p) else pos 0) ≡ (if b then (if c then neg_ℤ q else q) else pos 0) +ℤ z
    more true true p q z here buys e = omega (arith, ints, e)
    more true false p q z here buys e = absurd (cc buys)
    more false c p q z here buys e = absurd (cc here)

    member : own trades f k ≡ t → has (part trades f firm.count on) k ≡ true
    member e = has-part trades f firm.count on k below ∙ ap (has on) e ∙ is_on.member

    -- the end of the trade that stands here
    end : own trades f k ≡ t → (by_trade : Ends → Bool → ℕ × ℕ)
        → option_map (λ trade. by_trade trade (has on (own trades f k))) (slice_get trades (own trades f k))
        ≡ Some (f, k)
        → by_trade is_on.trade true ≡ (f, k)
    end e by_trade is_end = same_Some _ _ (
        ap₂ (λ (o : Option Ends) (b : Bool). option_map (λ trade. by_trade trade b) o) (sym is_on.there)
        (sym is_on.member)
        ∙ ap (λ (u : ℕ). option_map (λ trade. by_trade trade (has on u)) (slice_get trades u)) (sym e) ∙ is_end)

    nothing : own trades f k ≢ t → placed_at is_on.trade.buyer is_on.trade.at_buyer (gap_of s) f k ≡ pos 0
    nothing other = elim (cases_Bool (is_on.trade.buyer == f && is_on.trade.at_buyer == k)) [
      | inl e ↦
          let parts = and_parts (is_on.trade.buyer == f) (is_on.trade.at_buyer == k) e in
          absurd (other (ap₂ (own trades) (sym (eqb-true _ _ parts.0)) (sym (eqb-true _ _ parts.1))
          ∙ (buyer_end firms trades s.network t is_on.trade is_on.there).owns))
      | inr e ↦ ap (λ (c : Bool). if c then gap_of s else pos 0) e
    ]

    by : (own trades f k ≡ t) ⊎ (own trades f k ≢ t) → (has firm.buys k ≡ true) ⊎ (has firm.buys k ≡ false)
        → (if has (part trades f firm.count on) k then payments firm.buys (prices_at trades (new_price s) f) k
        else pos 0)
        ≡ (if has (part trades f firm.count on) k then payments firm.buys (place_price s f firm) k else pos 0)
        +ℤ placed_at is_on.trade.buyer is_on.trade.at_buyer (gap_of s) f k
    by (inl e) (inl buys) =
        let high : trade_level firm.buys (part trades f firm.count on) k ≡ 1 =
        ap₂ (λ (b h : Bool). if b then (if h then 1 else 0) else (if h then 0 else 1)) buys (member e) in
        let here = end e lowered (lowered_own firms trades s.network on f k firm is below high) in
        more (has (part trades f firm.count on) k) (has firm.buys k) (new_price s (own trades f k))
        (place_price s f firm k) _ (member e) buys
        (let placed =
        placed-here is_on.trade.buyer is_on.trade.at_buyer f k (gap_of s) (ap (λ (p : ℕ × ℕ). p.0) here)
        (ap (λ (p : ℕ × ℕ). p.1) here) in
        let price = place_price-high firms trades on t s f k firm e high in
        let number = ap s.two.number e in
        omega (arith, ints, placed, price, number))
    by (inl e) (inr sells) =
        let low : trade_level firm.buys (part trades f firm.count on) k ≡ 0 =
        ap₂ (λ (b h : Bool). if b then (if h then 1 else 0) else (if h then 0 else 1)) sells (member e) in
        let here = end e raised (raised_own firms trades s.network on f k firm is below low) in
        same (has (part trades f firm.count on) k) (has firm.buys k) (new_price s (own trades f k))
        (place_price s f firm k) _
        (place_price-low firms trades on t s f k firm (λ one. absurd (omega (arith, one, low))))
        (placed-other_firm is_on.trade.buyer is_on.trade.at_buyer f k (gap_of s)
        (λ buyer. s.network.apart t is_on.trade is_on.there (ap (λ (p : ℕ × ℕ). p.0) here ∙ sym buyer)))
    by (inr other) side =
        same (has (part trades f firm.count on) k) (has firm.buys k) (new_price s (own trades f k))
        (place_price s f firm k) _
        (place_price-other firms trades on t s f k firm other) (nothing other)

-- what a firm has of a bundle, 0 where that is impossible
abbrev had : Firm → ℕ → ℤ
had firm x = unwrap_or (firm.worth x) (pos 0)

-- so a firm that may abstain has at least the gap more than without any trade, if it is the buyer
no_worse : (firms : List Firm) (trades : List Ends) (on t : ℕ) (s : Setting firms trades on t)
    (is_on : IsOn firms trades on t) (f : ℕ) (firm : Firm) → slice_get firms f ≡ Some firm → MayAbstain firm
    → (had firm 0 +ℤ sum_to (placed_at is_on.trade.buyer is_on.trade.at_buyer (gap_of s) f) firm.count)
    ≤ℤ (had firm (part trades f firm.count on) +ℤ paid trades (new_price s) on f firm)
no_worse firms trades on t s is_on f firm is empty =
    let at = at_firm firms trades on t s f firm is in
    let none = sum_over-empty (payments firm.buys (place_price s f firm)) firm.count in
    let most = at.best.most 0 (pos 1 *ℤ empty.0 +ℤ sum_over (payments firm.buys (place_price s f firm)) firm.count 0)
    (ap (option_map (λ a. pos 1 *ℤ a +ℤ sum_over (payments firm.buys (place_price s f firm)) firm.count 0)) empty.1) in
    let sum = sum_over-more (payments firm.buys (prices_at trades (new_price s) f))
    (payments firm.buys (place_price s f firm)) (placed_at is_on.trade.buyer is_on.trade.at_buyer (gap_of s) f)
    (part trades f firm.count on) firm.count (gap_at firms trades on t s is_on f firm is) in
    below _ _ _ _ _ _ _ _ _ (ap (λ (o : Option ℤ). unwrap_or o (pos 0)) empty.1)
    (ap (λ (o : Option ℤ). unwrap_or o (pos 0)) at.worth_is) none most at.value_is sum
  where
    below : (had_none none had_now worth nothing value old new gap : ℤ) → had_none ≡ none → had_now ≡ worth
        → nothing ≡ pos 0 → (pos 1 *ℤ none +ℤ nothing) ≤ℤ value
        → value ≡ pos 1 *ℤ worth +ℤ old → new ≡ old +ℤ gap → (had_none +ℤ gap) ≤ℤ (had_now +ℤ new)
    below had_none none had_now worth nothing value old new gap a b c most is more =
        omega (arith, ints, a, b, c, most, is, more)

-- ---- all firms together

abbrev all_had : List Firm → (ℕ → Firm → ℕ) → ℤ
all_had firms x = sum_list (λ f firm. had firm (x f firm)) 0 firms

-- the gap can't be above what all firms have more than without any trade
gap_at_most : (firms : List Firm) (trades : List Ends) (on t : ℕ) (s : Setting firms trades on t)
    → IsOn firms trades on t → ((f : ℕ) (firm : Firm) → slice_get firms f ≡ Some firm → MayAbstain firm)
    → (all_had firms (λ f firm. 0) +ℤ gap_of s) ≤ℤ all_had firms (λ f firm. part trades f firm.count on)
gap_at_most firms trades on t s is_on abstain =
    let buyer = buyer_end firms trades s.network t is_on.trade is_on.there in
    let each = sum_list-le (λ f firm. had firm 0 +ℤ sum_to
    (placed_at is_on.trade.buyer is_on.trade.at_buyer (gap_of s) f) firm.count)
    (λ f firm. had firm (part trades f firm.count on) +ℤ paid trades (new_price s) on f firm) 0 firms
    (all_from _ 0 firms (λ i f firm at is.
    let same : i ≡ f = omega (arith, at) in
    let there = ap (slice_get firms) (sym same) ∙ is in
    no_worse firms trades on t s is_on f firm there (abstain f firm there))) in
    let left = sum_list-plus (λ f firm. had firm 0) (λ f firm. sum_to
    (placed_at is_on.trade.buyer is_on.trade.at_buyer (gap_of s) f) firm.count) 0 firms in
    let right = sum_list-plus (λ f firm. had firm (part trades f firm.count on)) (paid trades (new_price s) on) 0 firms
    in
    let once = over_all-placed is_on.trade.buyer is_on.trade.at_buyer 0 is_on.trade.buyer (gap_of s) firms buyer.firm
    (omega arith) buyer.is buyer.inside in
    let cancels = paid_cancels firms trades s.network on (new_price s) in
    summed _ _ _ _ _ _ _ each left right once cancels
  where
    summed : (l r none gap placed now paid : ℤ) → l ≤ℤ r → l ≡ none +ℤ placed → r ≡ now +ℤ paid → placed ≡ gap
        → paid ≡ pos 0 → (none +ℤ gap) ≤ℤ now
    summed l r none gap placed now paid each left right once cancels =
        omega (arith, ints, each, left, right, once, cancels)

-- so a closed walk leads from the trade back to it
pub some_walk : (firms : List Firm) (trades : List Ends) (on t : ℕ) → IsNetwork firms trades → MeetExchange firms
    → ((f : ℕ) (firm : Firm) → slice_get firms f ≡ Some firm → MayAbstain firm)
    → ArePossible firms trades on → HasNumbers (exchange_arc firms trades on) → t < length trades → has on t ≡ true
    → ((vs : List ℕ) → Avoids t vs → walk_cost (exchange_arc firms trades on) t vs t ≡ None) → ⊥
some_walk firms trades on t network meet abstain possible numbers inside member none =
    let most = gap_at_most firms trades on t s found abstain in
    let gap = s.two.gap in
    beyond _ _ _ _ gap most
  where
    more : ℤ
    more = (all_had firms (λ f firm. part trades f firm.count on) -ℤ all_had firms (λ f firm. 0)) +ℤ pos 1

    s : Setting firms trades on t
    s = record {
      network = network;
      meet = meet;
      possible = possible;
      inside = inside;
      gain = neg_ℤ more;
      two = two_numbers (suc (length trades)) t (neg_ℤ more) (exchange_arc firms trades on)
          (arcs_between firms trades on) (omega (arith, inside)) numbers.0
          (λ u v c _ _ is. numbers.1 u v c is)
          (λ vs c avoids walk. absurd (let nothing = none vs avoids in cc (nothing, walk)));
    }

    found : IsOn firms trades on t
    found = elim (slice_get_cases trades t).1 [
      | inl here ↦ record { trade = here.0; there = here.2; member = member }
      | inr past ↦ absurd (let above = past.0 in omega (arith, inside, above))
    ]

    beyond : (number entering none now : ℤ) → number ≤ℤ (entering +ℤ neg_ℤ ((now -ℤ none) +ℤ pos 1))
        → (none +ℤ (entering -ℤ number)) ≤ℤ now → ⊥
    beyond number entering none now gap most = absurd (omega (arith, ints, gap, most))
