-- A trade is barred: the set along a least cycle through it is an equilibrium's of the market without it.
use Rattle.std.proofs.Common.{◌≡◌, ℕ, ◌<◌, Bool, true, false, not, ◌==◌, ◌&&◌, ◌||◌, if◌then◌else◌, refl, sym, ap, ap₂, ◌∙◌, subst, ℤ, pos, ◌+ℤ◌, ◌*ℤ◌, neg_ℤ, List, ◌∷◌, length, slice_get, Option, Some, None, option_map, inl, inr}
use Rattle.std.specs.Prelude.{All}
use Rattle.std.proofs.lemmas.Bool.{cases_eq, cases_Bool, eq-eqb, and_parts, true≢false}
use Rattle.std.proofs.lemmas.List.Elements.{All-cons}
use Rattle.tn_base.specs.Sets.{has, toggle, minus, sum_over}
use Rattle.tn_base.specs.Firm.{Firm, MayAbstain, among, plus_sum, payments, IsBest}
use Rattle.tn_base.specs.Walks.{walk_cost, arcs_among, is_admitted, is_looked_at, Avoids, IsLeastCycle, HasNoNegativeCycle, KeepsArcs, KeepsArcsEntering}
use Rattle.tn_base.proofs.SetLemmas.{has-zero, has-toggle_other, has_below, has_from_minus-zero, minus-zero_from, set_of_within}
use Rattle.tn_base.proofs.SumLemmas.{sum_over-same_terms}
use Rattle.tn_base.proofs.WalkLemmas.{walk-same, least_cycle-same}
use Rattle.tn_firm_laws.proofs.KeepLemmas.{option_map-some}
use Rattle.tn_model.specs.declared.ends.Ends.{Ends}
use Rattle.tn_model.specs.Network.{own, part, IsNetwork}
use Rattle.tn_market.specs.Best.{IsSubset}
use Rattle.tn_market.specs.Equilibrium.{prices_at, HasBest, IsEquilibrium}
use Rattle.tn_market.specs.Admitted.{admitted}
use Rattle.tn_market.specs.Graph.{exchange_arc}
use Rattle.tn_market.proofs.GraphLemmas.{has-part}
use Rattle.tn_network_laws.specs.Laws.{MeetExchange}
use Rattle.tn_network_laws.specs.Along.{along}
use Rattle.tn_network_laws.specs.Kept.{IsKept}
use Rattle.tn_network_laws.specs.Rounds.{arcs_with}
use Rattle.tn_network_laws.specs.Barred.{OneCycleBarsATrade}
use Rattle.tn_network_laws.proofs.AdmittedLemmas.{admitted_is, admitted_from_firm, admitted_network, admitted_meet, admitted_possible, arcs_admitted, among_inside, among_parts, part_inside}
use Rattle.tn_network_laws.proofs.SplitLemmas.{TwoNumbers}
use Rattle.tn_network_laws.proofs.LegLemmas.{Setting, place_price}
use Rattle.tn_network_laws.proofs.RoundLemmas.{HasNumbers, IsRound, IsTurned, two_from_off, setting, turned, best_turned, new_price, place_price-other, cycle_avoids, has-along-t, equilibrium_possible, numbers_keep}
use Rattle.tn_network_laws.proofs.KeptLemmas.{no_cycle_from, walk_among, looked_is_admitted, arcs_are, entering-same, two_given, numbers_kept, kept_with, along_inside}
use Rattle.tn_network_laws.proofs.WithoutLemmas.{some_walk}

-- ---- what is admitted with one trade more

-- a trade of the others is admitted too
more_admitted : (allowed t k : ℕ) → has allowed t ≡ false → has allowed k ≡ true → has (toggle allowed t) k ≡ true
more_admitted allowed t k out there =
    has-toggle_other allowed t k (λ e. absurd (true≢false (sym there ∙ ap (has allowed) e ∙ out))) ∙ there

-- and what is admitted without the trade is among the others
fewer_inside : (allowed on t : ℕ) → IsSubset on (toggle allowed t) → has on t ≡ false → IsSubset on allowed
fewer_inside allowed on t inside off k there = elim (cases_eq k t) [
  | inl e ↦ absurd (true≢false (sym there ∙ ap (has on) e ∙ off))
  | inr d ↦ sym (has-toggle_other allowed t k d) ∙ inside k there
]

pub more_arcs : (firms : List Firm) (trades : List Ends) (allowed on t : ℕ) → has allowed t ≡ false → (u v : ℕ) (c : ℤ)
    → arcs_among (is_admitted (length trades) allowed) (exchange_arc firms trades on) u v ≡ Some c
    → arcs_among (is_admitted (length trades) (toggle allowed t)) (exchange_arc firms trades on) u v ≡ Some c
more_arcs firms trades allowed on t out u v c is =
    elim (cases_Bool (is_admitted (length trades) allowed u && is_admitted (length trades) allowed v)) [
      | inl e ↦
          let two = and_parts (is_admitted (length trades) allowed u) (is_admitted (length trades) allowed v) e in
          ap₂ (λ (a b : Bool). if a && b then exchange_arc firms trades on u v else None) (more u two.0) (more v two.1)
          ∙ sym (ap (λ (b : Bool). if b then exchange_arc firms trades on u v else None) e) ∙ is
      | inr e ↦ absurd (let none = ap (λ (b : Bool). if b then exchange_arc firms trades on u v else None) e in
          cc (none, is))
    ]
  where
    right : (b : Bool) {c : Bool} → c ≡ true → (b || c) ≡ true
    right true e = refl
    right false e = e

    more : (w : ℕ) → is_admitted (length trades) allowed w ≡ true
        → is_admitted (length trades) (toggle allowed t) w ≡ true
    more w e = sym (looked_is_admitted (length trades) allowed t out w) ∙ right (w == t) e

-- and a cycle of the others is none that would improve
pub none_without : (firms : List Firm) (trades : List Ends) (allowed on t : ℕ)
    → IsKept firms trades (toggle allowed t) on → has allowed t ≡ false
    → HasNoNegativeCycle (arcs_among (is_admitted (length trades) allowed) (exchange_arc firms trades on))
none_without firms trades allowed on t kept out =
    let found = numbers_kept firms trades (toggle allowed t) on kept in
    no_cycle_from (arcs_among (is_admitted (length trades) allowed) (exchange_arc firms trades on))
    (found.0, λ u v c is. found.1 u v c (more_arcs firms trades allowed on t out u v c is))

-- where the trade is off
still : (firms : List Firm) (trades : List Ends) (allowed on t : ℕ) → IsKept firms trades (toggle allowed t) on
    → has allowed t ≡ false → has on t ≡ false → IsKept firms trades allowed on
still firms trades allowed on t kept out off = record {
  inside = fewer_inside allowed on t kept.inside off;
  possible = kept.possible;
  no_cycle = none_without firms trades allowed on t kept out;
}

-- ---- where the trade is on

-- numbers keep the arcs of the market with the trade
numbers_with : (firms : List Firm) (trades : List Ends) (allowed on : ℕ) → IsNetwork firms trades
    → IsKept firms trades allowed on
    → HasNumbers (exchange_arc (admitted trades allowed firms) trades on)
numbers_with firms trades allowed on network kept =
    let found = numbers_kept firms trades allowed on kept in
    (found.0, λ u v c is. found.1 u v c (sym (arcs_admitted firms trades network allowed on kept.inside u v) ∙ is))

passed : (firms : List Firm) (trades : List Ends) (allowed on t : ℕ) → IsNetwork firms trades → MeetExchange firms
    → ((f : ℕ) (firm : Firm) → slice_get firms f ≡ Some firm → MayAbstain firm)
    → IsKept firms trades (toggle allowed t) on
    → t < length trades → has allowed t ≡ false → has on t ≡ true
    → ((vs : List ℕ) → Avoids t vs → walk_cost (arcs_with firms trades allowed on t) t vs t ≡ None) → ⊥
passed firms trades allowed on t network meet abstain kept below out member none =
    let all = toggle allowed t in
    some_walk (admitted trades all firms) trades on t (admitted_network firms trades all network)
    (admitted_meet firms trades all meet) may_abstain
    (admitted_possible firms trades all on kept.inside kept.possible) (numbers_with firms trades all on network kept)
    below member
    (λ vs avoids. walk-same _ _ (arcs_are firms trades allowed on t network out kept.inside) t vs t ∙ none vs avoids)
  where
    may_abstain : (f : ℕ) (firm : Firm) → slice_get (admitted trades (toggle allowed t) firms) f ≡ Some firm
        → MayAbstain firm
    may_abstain f other is =
        let there = admitted_from_firm trades (toggle allowed t) firms f other is in
        let empty = abstain f there.0 there.1 in
        subst MayAbstain (sym there.2) (
          empty.0,
          among_inside (part trades f there.0.count (toggle allowed t)) there.0 0
              (minus-zero_from 0 _ (λ k h. absurd (true≢false (sym h ∙ has-zero k)))) ∙ empty.1,
        )

-- ---- along a cycle

-- a bundle that is best within some positions is best within fewer of them, at prices that are the same there
best_within : (firm : Firm) (all few : ℕ) (c d : ℕ → ℤ) (x : ℕ) (value : ℤ)
    → IsBest (plus_sum (pos 1) c (among all firm)).worth x value → minus x few ≡ 0
    → IsSubset few all → ((k : ℕ) → k < firm.count → has few k ≡ true → c k ≡ d k)
    → IsBest (plus_sum (pos 1) d (among few firm)).worth x value
best_within firm all few c d x value best inside fewer same = record {
  is = worth x inside ∙ best.is;
  most = λ y other is.
      let theirs = option_map-some (λ a. pos 1 *ℤ a +ℤ sum_over d firm.count y) ((among few firm).worth y) other is in
      let within = (among_parts few firm y theirs.0 theirs.1).0 in
      best.most y other (sym (worth y within) ∙ is);
}
  where
    worth : (y : ℕ) → minus y few ≡ 0 → (plus_sum (pos 1) d (among few firm)).worth y
        ≡ (plus_sum (pos 1) c (among all firm)).worth y
    worth y within =
        ap₂ (λ (o : Option ℤ) (paid : ℤ). option_map (λ a. pos 1 *ℤ a +ℤ paid) o)
        (among_inside few firm y within
        ∙ sym (among_inside all firm y (minus-zero_from y all
        (λ k there. fewer k (has_from_minus-zero y few k within there)))))
        (sum_over-same_terms d c y firm.count (λ k below there. sym
        (same k below (has_from_minus-zero y few k within there))))

-- the set without the trade
along_without : (firms : List Firm) (trades : List Ends) (allowed on t : ℕ) (vs : List ℕ)
    → IsSubset on (toggle allowed t) → t < length trades → has allowed t ≡ false → has on t ≡ true
    → (cost : ℤ) → IsLeastCycle (arcs_with firms trades allowed on t) t vs cost
    → IsSubset (along (length trades) on (t ∷ vs)) allowed
along_without firms trades allowed on t vs inside below out member cost cycle =
    fewer_inside allowed (along (length trades) on (t ∷ vs)) t
    (along_inside (length trades) (toggle allowed t) on (t ∷ vs) nodes inside)
    (has-along-t (length trades) on t vs below (cycle_avoids t vs cycle.cycle.different) ∙ ap not member)
  where
    nodes : All (λ v. is_admitted (length trades) (toggle allowed t) v ≡ true) (t ∷ vs)
    nodes = All-cons (λ v. is_admitted (length trades) (toggle allowed t) v ≡ true) t vs
        (sym (looked_is_admitted (length trades) allowed t out t)
        ∙ ap (λ (b : Bool). b || (t == length trades || has allowed t)) (eq-eqb t t refl))
        (λ k d h. sym (looked_is_admitted (length trades) allowed t out _)
        ∙ walk_among (is_looked_at (length trades) t allowed) (exchange_arc firms trades on) t vs t cost
        cycle.cycle.walk k d h)

-- at two given numbers for the trade: what the cycle comes to is kept, and the numbers keep its arcs
barred_with : (firms : List Firm) (trades : List Ends) (allowed on t : ℕ) → IsNetwork firms trades → MeetExchange firms
    → IsKept firms trades (toggle allowed t) on
    → t < length trades → has allowed t ≡ false → has on t ≡ true → (vs : List ℕ) (cost : ℤ)
    → IsLeastCycle (arcs_with firms trades allowed on t) t vs cost
    → (two : TwoNumbers t (neg_ℤ cost) (exchange_arc (admitted trades (toggle allowed t) firms) trades on))
    → IsKept firms trades allowed (along (length trades) on (t ∷ vs))
    × KeepsArcs (arcs_among (is_admitted (length trades) allowed)
    (exchange_arc firms trades (along (length trades) on (t ∷ vs)))) two.number
unfolding setting
barred_with firms trades allowed on t network meet kept below out member vs cost cycle two =
    kept_with firms trades allowed z network inside (equilibrium_possible (admitted trades allowed firms) trades z
    (new_price s) equilibrium)
    two.number (numbers_keep (admitted trades allowed firms) trades (admitted_network firms trades allowed network) z
    two.number equilibrium)
  where
    z : ℕ
    z = along (length trades) on (t ∷ vs)

    inside : IsSubset (along (length trades) on (t ∷ vs)) allowed
    inside = along_without firms trades allowed on t vs kept.inside below out member cost cycle

    round : IsRound (admitted trades (toggle allowed t) firms) trades on t vs cost
    round = record {
      network = admitted_network firms trades (toggle allowed t) network;
      meet = admitted_meet firms trades (toggle allowed t) meet;
      possible = admitted_possible firms trades (toggle allowed t) on kept.inside kept.possible;
      inside = below;
      two = two;
      cycle = least_cycle-same _ _ (arcs_are firms trades allowed on t network out kept.inside) t vs cost cycle;
    }

    s : Setting (admitted trades (toggle allowed t) firms) trades on t
    s = setting (admitted trades (toggle allowed t) firms) trades on t vs cost round

    turn : IsTurned (admitted trades (toggle allowed t) firms) trades on t vs
        (setting (admitted trades (toggle allowed t) firms) trades on t vs cost round)
    turn = turned (admitted trades (toggle allowed t) firms) trades on t vs cost round

    -- at firm f
    best_at : (f : ℕ) (firm : Firm) → slice_get firms f ≡ Some firm
        → HasBest trades (pos 1) (along (length trades) on (t ∷ vs)) (new_price s) f
        (among (part trades f firm.count allowed) firm)
    best_at f firm is =
        let best = best_turned (admitted trades (toggle allowed t) firms) trades on t vs s turn f
        (among (part trades f firm.count (toggle allowed t)) firm)
        (admitted_is trades (toggle allowed t) firms f firm is) in (
          best.0,
          best_within firm (part trades f firm.count (toggle allowed t)) (part trades f firm.count allowed)
              (payments firm.buys (place_price s f (among (part trades f firm.count (toggle allowed t)) firm)))
              (payments firm.buys (prices_at trades (new_price s) f))
              (part trades f firm.count z) best.0 best.1 (part_inside trades f firm.count allowed z inside)
              (λ k there.
              let low = has_below (part trades f firm.count allowed) firm.count k
              (set_of_within (λ j. has allowed (own trades f j)) firm.count) there in
              has-part trades f firm.count (toggle allowed t) k low
              ∙ more_admitted allowed t (own trades f k) out (sym (has-part trades f firm.count allowed k low)
              ∙ there))
              (λ k low there. ap (λ (p : ℤ). if has firm.buys k then neg_ℤ p else p)
              (place_price-other (admitted trades (toggle allowed t) firms) trades on t s f k
              (among (part trades f firm.count (toggle allowed t)) firm)
              (λ e. absurd (true≢false (sym there ∙ has-part trades f firm.count allowed k low ∙ ap (has allowed) e
              ∙ out))))),
        )

    equilibrium : IsEquilibrium (admitted trades allowed firms) trades (pos 1) (along (length trades) on (t ∷ vs))
        (new_price s)
    equilibrium f other is =
        let there = admitted_from_firm trades allowed firms f other is in
        subst (λ (w : Firm). HasBest trades (pos 1) (along (length trades) on (t ∷ vs)) (new_price s) f w) (sym there.2)
        (best_at f there.0 there.1)

barred : (firms : List Firm) (trades : List Ends) (allowed on t : ℕ) → IsNetwork firms trades → MeetExchange firms
    → IsKept firms trades (toggle allowed t) on
    → t < length trades → has allowed t ≡ false → has on t ≡ true → (vs : List ℕ) (cost : ℤ)
    → IsLeastCycle (arcs_with firms trades allowed on t) t vs cost
    → IsKept firms trades allowed (along (length trades) on (t ∷ vs))
barred firms trades allowed on t network meet kept below out member vs cost cycle =
    let numbers = numbers_with firms trades (toggle allowed t) on network kept in
    (barred_with firms trades allowed on t network meet kept below out member vs cost cycle
    (two_from_off (admitted trades (toggle allowed t) firms) trades on t vs cost below numbers.0
    (λ u v c _ _ is. numbers.1 u v c is)
    (least_cycle-same _ _ (arcs_are firms trades allowed on t network out kept.inside) t vs cost cycle))).0

barred_labels : (firms : List Firm) (trades : List Ends) (allowed on t : ℕ) → IsNetwork firms trades
    → MeetExchange firms → IsKept firms trades (toggle allowed t) on
    → t < length trades → has allowed t ≡ false → has on t ≡ true → (vs : List ℕ) (cost : ℤ) (label : ℕ → ℤ)
    → IsLeastCycle (arcs_with firms trades allowed on t) t vs cost
    → KeepsArcsEntering (arcs_with firms trades allowed on t) t (label t +ℤ cost) label
    → KeepsArcs (arcs_among (is_admitted (length trades) allowed)
    (exchange_arc firms trades (along (length trades) on (t ∷ vs)))) label
barred_labels firms trades allowed on t network meet kept below out member vs cost label cycle keeps =
    (barred_with firms trades allowed on t network meet kept below out member vs cost cycle
    (two_given _ t cost label (entering-same _ _ (arcs_are firms trades allowed on t network out kept.inside) t (label t
    +ℤ cost) label keeps))).1

pub one_cycle_bars_a_trade : OneCycleBarsATrade
one_cycle_bars_a_trade = record {
  still = still;
  off_labels =
      λ firms trades allowed on t out label keeps u v c is. keeps u v c
      (more_arcs firms trades allowed on t out u v c is);
  passed = passed;
  turned = barred;
  turned_labels = barred_labels;
}
