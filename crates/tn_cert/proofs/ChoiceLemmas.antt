-- A firm's choices from a list of contracts, by its terms: a part gives it at most what its bundle gives at the terms,
-- and each bundle of free positions is had by a part that gives just this.
use Rattle.std.proofs.Common.{◌≡◌, ◌≢◌, ℕ, zero, suc, ◌^◌, ◌<◌, Bool, true, false, ◌==◌, ◌&&◌, ◌||◌, if◌then◌else◌, List, length, take, slice_get, Option, Some, None, option_map, refl, sym, ap, ap₂, ◌∙◌, subst, arith, inl, inr, ℤ, pos, ◌+ℤ◌, ◌-ℤ◌, neg_ℤ, ◌*ℤ◌, ◌≤ℤ◌}
use Rattle.std.specs.Prelude.{unwrap_or}
use Rattle.std.proofs.lemmas.Int.{ints}
use Rattle.std.proofs.lemmas.Bool.{cases_Bool, cases_eq, eqb-true, eq-eqb, and_parts, and_from, or_cases, or_left, or_right, lt-ltb, true≢false}
use Rattle.std.proofs.lemmas.Option.{same_Some, slice_get_cases, slice_get_within}
use Rattle.std.proofs.lemmas.List.{get_or-take}
use Rattle.tn_base.specs.Sets.{has, set_of, sum_over}
use Rattle.tn_base.specs.Firm.{Firm, payments, utility}
use Rattle.tn_base.proofs.SetLemmas.{same_below, has-set_of, has_above, has_below, set_of_within, within_from}
use Rattle.tn_base.proofs.SumLemmas.{sum_over-same_terms}
use Rattle.tn_firm_laws.proofs.KeepLemmas.{option_map-some}
use Rattle.tn_model.specs.declared.contract.Contract.{Contract}
use Rattle.tn_model.specs.declared.ends.Ends.{Ends}
use Rattle.tn_market.specs.Best.{IsSubset, IsBestBetween}
use Rattle.tn_model.specs.Prices.{price_at}
use Rattle.tn_model.specs.Choices.{is_of, paid_to, paid_by, payment, is_traded, bundle_by, part_utility, IsPart}
use Rattle.tn_market.specs.Equilibrium.{prices_at, utility_at}
use Rattle.tn_model.specs.Network.{own, stands_at, IsNetwork}
use Rattle.tn_model.proofs.NetworkLemmas.{own_stands}
use Rattle.tn_network_laws.proofs.PartLemmas.{at_place, at_place-is, gain_by, own_contract, own_once, paid_for, part_paid, traded_at, traded_by}
use Rattle.tn_network_laws.proofs.StabilityLemmas.{no_gains, own_is_of}
use Rattle.tn_outcome_laws.proofs.RationalLemmas.{between_signed, inside_signed}
use Rattle.tn_cert.specs.Greatest.{LeavesOut, IsGreatest}
use Rattle.tn_cert.specs.Terms.{is_bought, IsAsGood, IsOnTrade, HasTerms}

-- a firm of a network
pub record IsChooser (firms : List Firm) (trades : List Ends) (f : ℕ) (firm : Firm) : Type 0 where
  pub network : IsNetwork firms trades
  pub is : slice_get firms f ≡ Some firm

-- ---- prices by trade

-- the position of trade t at firm f
abbrev pub position_of : List Ends → ℕ → ℕ → ℕ
position_of trades f t =
    unwrap_or (option_map (λ trade. if trade.seller == f then trade.at_seller else trade.at_buyer) (slice_get trades t))
    0

position_own : (firms : List Firm) (trades : List Ends) (f : ℕ) (firm : Firm) → IsChooser firms trades f firm → (k : ℕ)
    → k < firm.count → position_of trades f (own trades f k) ≡ k
position_own firms trades f firm chooser k below =
    let found = own_stands trades f k (chooser.network.whole f k firm chooser.is below) in
    ap (λ (o : Option Ends). unwrap_or (option_map (λ trade. if trade.seller == f then trade.at_seller
    else trade.at_buyer) o) 0) found.is
    ∙ at found.trade (chooser.network.apart (own trades f k) found.trade found.is) found.stands
  where
    at : (trade : Ends) → trade.seller ≢ trade.buyer → stands_at trade f k ≡ true
        → (if trade.seller == f then trade.at_seller else trade.at_buyer) ≡ k
    at trade apart stands =
        elim (or_cases (trade.seller == f && trade.at_seller == k) (trade.buyer == f && trade.at_buyer == k) stands) [
          | inl sells ↦
              let parts = and_parts (trade.seller == f) (trade.at_seller == k) sells in
              ap (λ (b : Bool). if b then trade.at_seller else trade.at_buyer) parts.0
              ∙ eqb-true trade.at_seller k parts.1
          | inr buys ↦
              let parts = and_parts (trade.buyer == f) (trade.at_buyer == k) buys in
              elim (cases_Bool (trade.seller == f)) [
                | inl sells ↦ absurd (apart (eqb-true trade.seller f sells ∙ sym (eqb-true trade.buyer f parts.0)))
                | inr not_sells ↦ ap (λ (b : Bool). if b then trade.at_seller else trade.at_buyer) not_sells
                    ∙ eqb-true trade.at_buyer k parts.1
              ]
        ]

-- the price of a trade at the terms
abbrev pub term_price : List Ends → ℕ → List ℤ → ℕ → ℤ
term_price trades f list t = price_at list (position_of trades f t)

own_price : (firms : List Firm) (trades : List Ends) (f : ℕ) (firm : Firm) → IsChooser firms trades f firm
    → (list : List ℤ) (k : ℕ) → k < firm.count
    → term_price trades f list (own trades f k) ≡ price_at list k
own_price firms trades f firm chooser list k below =
    ap (price_at list) (position_own firms trades f firm chooser k below)

-- the utility at the list of the terms
pub term_utility : (firms : List Firm) (trades : List Ends) (scale : ℤ) (f : ℕ) (firm : Firm)
    → IsChooser firms trades f firm → (n : ℕ) (list : List ℤ) → n ≡ firm.count → (y : ℕ)
    → utility scale (price_at (take n list)) firm y ≡ utility_at trades scale (term_price trades f list) f firm y
term_utility firms trades scale f firm chooser n list counted y =
    ap (λ (z : ℤ). option_map (λ a. scale *ℤ a +ℤ z) (firm.worth y))
    (sum_over-same_terms (payments firm.buys (price_at (take n list)))
    (payments firm.buys (prices_at trades (term_price trades f list) f)) y firm.count (λ k below member.
    ap (λ (z : ℤ). if has firm.buys k then neg_ℤ z else z)
    (get_or-take n list k (pos 0) (omega (arith, below, counted))
    ∙ sym (own_price firms trades f firm chooser list k below))))

-- ---- a part gives at most what its bundle gives

-- where a price is as good as a contract's, the contract gains nothing
no_gain : (firms : List Firm) (trades : List Ends) → IsNetwork firms trades → (f t : ℕ) (price other : ℤ)
    → IsAsGood (is_bought trades f t) price other
    → (paid_by trades f (record { trade = t; price = other -ℤ price })) ≤ℤ pos 0
no_gain firms trades network f t price other good = by_case (slice_get trades t) refl good
  where
    by_case : (o : Option Ends) → slice_get trades t ≡ o
        → IsAsGood (unwrap_or (option_map (λ trade. trade.buyer == f) o) false) price other
        → (unwrap_or (option_map (paid_to f (other -ℤ price)) o) (pos 0)) ≤ℤ pos 0
    by_case None there as_good = omega (arith, ints)
    by_case (Some trade) there as_good = by_end (trade.seller == f) (trade.buyer == f) refl refl as_good
      where
        by_end : (s b : Bool) → (trade.seller == f) ≡ s → (trade.buyer == f) ≡ b → IsAsGood b price other
            → (if s then other -ℤ price else (if b then neg_ℤ (other -ℤ price) else pos 0)) ≤ℤ pos 0
        by_end true true p q as_good =
            absurd (network.apart t trade there (eqb-true trade.seller f p ∙ sym (eqb-true trade.buyer f q)))
        by_end true false p q as_good = omega (arith, ints, as_good)
        by_end false true p q as_good = omega (arith, ints, as_good)
        by_end false false p q as_good = omega (arith, ints)

sum_over-at_most : (c : ℕ → ℤ) (n x : ℕ) → ((k : ℕ) → k < n → has x k ≡ true → c k ≤ℤ pos 0) → sum_over c n x ≤ℤ pos 0
unfolding sum_over
sum_over-at_most c zero x each = omega (arith, ints)
sum_over-at_most c (suc n) x each =
    let rest = sum_over-at_most c n x (λ k below member. each k (omega (arith, below)) member) in
    let last = by_member (has x n) (c n) (each n (omega arith)) in
    omega (arith, ints, rest, last)
  where
    by_member : (b : Bool) (z : ℤ) → (b ≡ true → z ≤ℤ pos 0) → (if b then z else pos 0) ≤ℤ pos 0
    by_member true z h = h refl
    by_member false z h = omega (arith, ints)

-- a contract of the firm stands at a free position, and the price there is as good
pub record IsAtTerms (firm : Firm) (trades : List Ends) (f free : ℕ) (list : List ℤ) (contract : Contract) : Type
    0 where
  pub place : ℕ
  pub inside : place < firm.count
  pub owns : own trades f place ≡ contract.trade
  pub is_free : has free place ≡ true
  pub good : IsAsGood (is_bought trades f contract.trade) (term_price trades f list contract.trade) contract.price

at_terms : (firms : List Firm) (trades : List Ends) (f : ℕ) (firm : Firm) → IsChooser firms trades f firm
    → (contracts : List Contract) (left_out : Option ℕ) (free : ℕ) (list : List ℤ)
    → HasTerms trades contracts left_out f firm.count free list → (k : ℕ) (contract : Contract)
    → slice_get contracts k ≡ Some contract → is_of trades f contract ≡ true → left_out ≢ Some k
    → IsAtTerms firm trades f free list contract
at_terms firms trades f firm chooser contracts left_out free list holds k contract there of kept =
    let owned = own_contract firms trades chooser.network f firm chooser.is contract of in
    let offered : IsOnTrade contracts left_out (own trades f owned.place) k contract =
    record { is = there; trade = sym owned.owns; kept = kept } in
    elim (cases_Bool (has free owned.place)) [
      | inr away ↦ absurd (holds.none owned.place owned.inside away k contract offered)
      | inl is_free ↦
          let best = (holds.terms owned.place owned.inside is_free).best k contract
          (slice_get_within contracts k contract there) offered in
          record {
            place = owned.place;
            inside = owned.inside;
            owns = owned.owns;
            is_free = is_free;
            good = subst (λ (t : ℕ). IsAsGood (is_bought trades f t) (term_price trades f list t) contract.price)
                owned.owns
                (subst (λ (p : ℤ). IsAsGood (is_bought trades f (own trades f owned.place)) p contract.price)
                (sym (own_price firms trades f firm chooser list owned.place owned.inside)) best);
          }
    ]

-- the bundle of a part has free positions alone
part_free : (firms : List Firm) (trades : List Ends) (f : ℕ) (firm : Firm) → IsChooser firms trades f firm
    → (contracts : List Contract) (left_out : Option ℕ) (free : ℕ) (list : List ℤ)
    → HasTerms trades contracts left_out f firm.count free list → (x : ℕ) → IsPart trades f contracts x
    → LeavesOut left_out x → IsSubset (bundle_by trades f firm.count contracts x) free
part_free firms trades f firm chooser contracts left_out free list holds x signs avoids = λ k there.
    let below = has_below (bundle_by trades f firm.count contracts x) firm.count k
    (set_of_within (λ i. is_traded contracts x (own trades f i) (length contracts)) firm.count) there in
    let traded =
    sym (ap (λ (b : Bool). b && is_traded contracts x (own trades f k) (length contracts))
    (lt-ltb k firm.count below))
    ∙ sym (has-set_of (λ i. is_traded contracts x (own trades f i) (length contracts)) firm.count k) ∙ there in
    let at = traded_at contracts x (own trades f k) (length contracts) traded in
    let terms = at_terms firms trades f firm chooser contracts left_out free list holds at.place at.contract at.is
    (signs.own at.place at.contract at.is at.member) (avoids at.place at.member) in
    let same = own_once firms trades chooser.network f firm chooser.is terms.place k terms.inside below (terms.owns
    ∙ at.trade) in
    ap (has free) (sym same) ∙ terms.is_free

part_at_most : (firms : List Firm) (trades : List Ends) (scale : ℤ) (f : ℕ) (firm : Firm)
    → IsChooser firms trades f firm → (contracts : List Contract) (left_out : Option ℕ) (free : ℕ) (list : List ℤ)
    → HasTerms trades contracts left_out f firm.count free list → (x : ℕ) → IsPart trades f contracts x
    → LeavesOut left_out x → (u : ℤ)
    → part_utility trades scale f firm contracts x ≡ Some u
    → (v : ℤ) × (utility_at trades scale (term_price trades f list) f firm (bundle_by trades f firm.count contracts x)
    ≡ Some v) × (u ≤ℤ v)
part_at_most firms trades scale f firm chooser contracts left_out free list holds x signs avoids u is =
    let worth = option_map-some (λ w. scale *ℤ w +ℤ sum_over (payment trades f contracts) (length contracts) x)
    (firm.worth (bundle_by trades f firm.count contracts x)) u is in
    let parts = part_paid firms trades chooser.network f firm chooser.is contracts x signs (term_price trades f list) in
    let none = sum_over-at_most (at_place (gain_by trades f (term_price trades f list)) contracts) (length contracts) x
    each in (
      scale *ℤ worth.0 +ℤ paid_for firm trades f (term_price trades f list) (bundle_by trades f firm.count contracts x),
      ap (option_map (λ w. scale *ℤ w +ℤ paid_for firm trades f (term_price trades f list)
          (bundle_by trades f firm.count contracts x))) worth.1,
      at_most _ _ _ _ _ worth.2 parts none,
    )
  where
    at_most : (a p g q u : ℤ) → a +ℤ p ≡ u → p ≡ g +ℤ q → g ≤ℤ pos 0 → u ≤ℤ (a +ℤ q)
    at_most a p g q u sum parts none = omega (arith, ints, sum, parts, none)

    each : (k : ℕ) → k < length contracts → has x k ≡ true
        → (at_place (gain_by trades f (term_price trades f list)) contracts k) ≤ℤ pos 0
    each k below member = elim (slice_get_cases contracts k).1 [
      | inr past ↦ absurd (let above = past.0 in omega (arith, above, below))
      | inl found ↦
          let terms = at_terms firms trades f firm chooser contracts left_out free list holds k found.0 found.2
          (signs.own k found.0 found.2 member) (avoids k member) in
          subst (λ (z : ℤ). z ≤ℤ pos 0)
          (sym (at_place-is (gain_by trades f (term_price trades f list)) contracts k found.0 found.2))
          (no_gain firms trades chooser.network f found.0.trade (term_price trades f list found.0.trade) found.0.price
          terms.good)
    ]

-- ---- the part of a bundle

-- whether the contract with index j is that of a position of the bundle
is_picked : (ℕ → ℕ) → ℕ → ℕ → ℕ → Bool
is_picked at y zero j = false
is_picked at y (suc n) j = (has y n && at n == j) || is_picked at y n j

picked_from : (at : ℕ → ℕ) (y n j k : ℕ) → k < n → has y k ≡ true → at k ≡ j → is_picked at y n j ≡ true
unfolding is_picked
picked_from at y zero j k below member is = absurd (omega (arith, below))
picked_from at y (suc n) j k below member is = elim (cases_eq k n) [
  | inl e ↦ or_left (has y n && at n == j) (is_picked at y n j)
      (and_from (has y n) (at n == j) (ap (has y) (sym e) ∙ member) (eq-eqb (at n) j (ap at (sym e) ∙ is)))
  | inr d ↦ or_right (has y n && at n == j) (is_picked at y n j)
      (picked_from at y n j k (omega (arith, below, d)) member is)
]

picked_at : (at : ℕ → ℕ) (y n j : ℕ) → is_picked at y n j ≡ true → (k : ℕ) × (k < n) × (has y k ≡ true) × (at k ≡ j)
unfolding is_picked
picked_at at y zero j e = absurd (cc e)
picked_at at y (suc n) j e = elim (or_cases (has y n && at n == j) (is_picked at y n j) e) [
  | inl here ↦ let parts = and_parts (has y n) (at n == j) here in (n, omega arith, parts.0, eqb-true (at n) j parts.1)
  | inr before ↦ let found = picked_at at y n j before in let below = found.1 in
      (found.0, omega (arith, below), found.2, found.3)
]

-- the contracts at the positions of a bundle
part_for : (ℕ → ℕ) → ℕ → ℕ → List Contract → ℕ
part_for at y n contracts = set_of (is_picked at y n) (length contracts)

part_for-within : (at : ℕ → ℕ) (y n : ℕ) (contracts : List Contract) → part_for at y n contracts < 2 ^ length contracts
unfolding part_for
part_for-within at y n contracts = set_of_within (is_picked at y n) (length contracts)

part_for-has : (at : ℕ → ℕ) (y n : ℕ) (contracts : List Contract) (i : ℕ) → i < n → has y i ≡ true
    → at i < length contracts → has (part_for at y n contracts) (at i) ≡ true
unfolding part_for
part_for-has at y n contracts i below there inside =
    has-set_of (is_picked at y n) (length contracts) (at i)
    ∙ ap₂ (λ (a b : Bool). a && b) (lt-ltb (at i) (length contracts) inside)
    (picked_from at y n (at i) i below there refl)

-- a bundle of free positions
record IsWanted (firms : List Firm) (trades : List Ends) (f : ℕ) (firm : Firm) (contracts : List Contract)
    (left_out : Option ℕ) (free : ℕ) (list : List ℤ) (y : ℕ) : Type 0 where
  chooser : IsChooser firms trades f firm
  holds : HasTerms trades contracts left_out f firm.count free list
  inside : IsSubset y free

-- a contract of its part
record IsHad (firm : Firm) (trades : List Ends) (f : ℕ) (contracts : List Contract) (left_out : Option ℕ)
    (list : List ℤ) (at : ℕ → ℕ) (y j : ℕ) : Type 0 where
  place : ℕ
  below : place < firm.count
  member : has y place ≡ true
  is : at place ≡ j
  contract : Contract
  there : slice_get contracts j ≡ Some contract
  trade : contract.trade ≡ own trades f place
  price : contract.price ≡ price_at list place
  kept : left_out ≢ Some j

had : (firms : List Firm) (trades : List Ends) (f : ℕ) (firm : Firm) (contracts : List Contract) (left_out : Option ℕ)
    (free : ℕ) (list : List ℤ) (y : ℕ)
    → (wanted : IsWanted firms trades f firm contracts left_out free list y) → (j : ℕ)
    → has (part_for wanted.holds.at y firm.count contracts) j ≡ true
    → IsHad firm trades f contracts left_out list wanted.holds.at y j
unfolding part_for
had firms trades f firm contracts left_out free list y wanted j member =
    let at = wanted.holds.at in
    let picked =
    (and_parts _ (is_picked at y firm.count j) (sym (has-set_of (is_picked at y firm.count) (length contracts) j)
    ∙ member)).1 in
    let found = picked_at at y firm.count j picked in
    let term = wanted.holds.terms found.0 found.1 (wanted.inside found.0 found.2) in
    record {
      place = found.0;
      below = found.1;
      member = found.2;
      is = found.3;
      contract = term.contract;
      there = ap (slice_get contracts) (sym found.3) ∙ term.offered.is;
      trade = term.offered.trade;
      price = term.price_is;
      kept = subst (λ (i : ℕ). left_out ≢ Some i) found.3 term.offered.kept;
    }

part_for-signs : (firms : List Firm) (trades : List Ends) (f : ℕ) (firm : Firm) (contracts : List Contract)
    (left_out : Option ℕ) (free : ℕ) (list : List ℤ) (y : ℕ)
    → (wanted : IsWanted firms trades f firm contracts left_out free list y)
    → IsPart trades f contracts (part_for wanted.holds.at y firm.count contracts)
part_for-signs firms trades f firm contracts left_out free list y wanted = record {
  within = part_for-within wanted.holds.at y firm.count contracts;
  own = λ j contract is member.
      let h = had firms trades f firm contracts left_out free list y wanted j member in
      own_is_of trades f h.place contract (wanted.chooser.network.whole f h.place firm wanted.chooser.is h.below)
      (ap (λ (c : Contract). c.trade) (same_Some contract h.contract (sym is ∙ h.there)) ∙ h.trade);
  once = λ j k one other one_is other_is j_member k_member same.
      let g = had firms trades f firm contracts left_out free list y wanted j j_member in
      let h = had firms trades f firm contracts left_out free list y wanted k k_member in
      let first = ap (λ (c : Contract). c.trade) (same_Some g.contract one (sym g.there ∙ one_is)) in
      let second = ap (λ (c : Contract). c.trade) (same_Some other h.contract (sym other_is ∙ h.there)) in
      let places =
      own_once firms trades wanted.chooser.network f firm wanted.chooser.is g.place h.place g.below h.below
      (sym g.trade ∙ first ∙ same ∙ second ∙ h.trade) in
      sym g.is ∙ ap wanted.holds.at places ∙ h.is;
}

part_for-bundle : (firms : List Firm) (trades : List Ends) (f : ℕ) (firm : Firm) (contracts : List Contract)
    (left_out : Option ℕ) (free : ℕ) (list : List ℤ) (y : ℕ)
    → (wanted : IsWanted firms trades f firm contracts left_out free list y)
    → bundle_by trades f firm.count contracts (part_for wanted.holds.at y firm.count contracts) ≡ y
part_for-bundle firms trades f firm contracts left_out free list y wanted =
    same_below _ y firm.count (set_of_within (λ k. is_traded contracts x (own trades f k) (length contracts))
    firm.count) y_within
    (λ i below. has-set_of (λ k. is_traded contracts x (own trades f k) (length contracts)) firm.count i
    ∙ ap (λ (b : Bool). b && is_traded contracts x (own trades f i) (length contracts)) (lt-ltb i firm.count below)
    ∙ agree i below)
  where
    x : ℕ
    x = part_for wanted.holds.at y firm.count contracts

    y_within : y < 2 ^ firm.count
    y_within = within_from y firm.count (λ k above. elim (cases_Bool (has y k)) [
      | inr away ↦ away
      | inl there ↦
          absurd (true≢false (sym (wanted.inside k there) ∙ has_above free firm.count k wanted.holds.within above))
    ])

    agree : (i : ℕ) → i < firm.count → is_traded contracts x (own trades f i) (length contracts) ≡ has y i
    agree i below = elim (cases_Bool (has y i)) [
      | inl there ↦
          let term = wanted.holds.terms i below (wanted.inside i there) in
          traded_by contracts x (own trades f i) (length contracts) (wanted.holds.at i) term.contract term.below
          (part_for-has wanted.holds.at y firm.count contracts i below there term.below) term.offered.is
          term.offered.trade
          ∙ sym there
      | inr away ↦ elim (cases_Bool (is_traded contracts x (own trades f i) (length contracts))) [
        | inr untraded ↦ untraded ∙ sym away
        | inl traded ↦
            let at = traded_at contracts x (own trades f i) (length contracts) traded in
            let h = had firms trades f firm contracts left_out free list y wanted at.place at.member in
            let same = ap (λ (c : Contract). c.trade) (same_Some h.contract at.contract (sym h.there ∙ at.is)) in
            let places =
            own_once firms trades wanted.chooser.network f firm wanted.chooser.is h.place i h.below below
            (sym h.trade ∙ same ∙ at.trade) in
            absurd (true≢false (sym h.member ∙ ap (has y) places ∙ away))
      ]
    ]

part_for-utility : (firms : List Firm) (trades : List Ends) (scale : ℤ) (f : ℕ) (firm : Firm)
    (contracts : List Contract) (left_out : Option ℕ) (free : ℕ) (list : List ℤ) (y : ℕ)
    → (wanted : IsWanted firms trades f firm contracts left_out free list y)
    → part_utility trades scale f firm contracts (part_for wanted.holds.at y firm.count contracts)
    ≡ utility_at trades scale (term_price trades f list) f firm y
part_for-utility firms trades scale f firm contracts left_out free list y wanted =
    ap (λ (z : ℤ). option_map (λ w. scale *ℤ w +ℤ z) (firm.worth
    (bundle_by trades f firm.count contracts (part_for wanted.holds.at y firm.count contracts))))
    (pays _ _ _
    (part_paid firms trades wanted.chooser.network f firm wanted.chooser.is contracts
    (part_for wanted.holds.at y firm.count contracts)
    (part_for-signs firms trades f firm contracts left_out free list y wanted) (term_price trades f list))
    (no_gains (at_place (gain_by trades f (term_price trades f list)) contracts) (length contracts)
    (part_for wanted.holds.at y firm.count contracts) (λ j below member. nothing j member)))
    ∙ ap (utility_at trades scale (term_price trades f list) f firm)
    (part_for-bundle firms trades f firm contracts left_out free list y wanted)
  where
    pays : (p g q : ℤ) → p ≡ g +ℤ q → g ≡ pos 0 → p ≡ q
    pays p g q sum none = omega (arith, ints, sum, none)

    minus : (a b : ℤ) → a ≡ b → a -ℤ b ≡ pos 0
    minus a b e = omega (arith, ints, e)

    unpaid : (o : Option Ends) → unwrap_or (option_map (paid_to f (pos 0)) o) (pos 0) ≡ pos 0
    unpaid None = refl
    unpaid (Some trade) = by_end (trade.seller == f) (trade.buyer == f)
      where
        by_end : (a b : Bool) → (if a then pos 0 else (if b then neg_ℤ (pos 0) else pos 0)) ≡ pos 0
        by_end true b = refl
        by_end false true = refl
        by_end false false = refl

    nothing : (j : ℕ) → has (part_for wanted.holds.at y firm.count contracts) j ≡ true
        → at_place (gain_by trades f (term_price trades f list)) contracts j ≡ pos 0
    nothing j member =
        let h = had firms trades f firm contracts left_out free list y wanted j member in
        let priced =
        h.price ∙ sym (ap (term_price trades f list) h.trade
        ∙ own_price firms trades f firm wanted.chooser list h.place h.below) in
        at_place-is (gain_by trades f (term_price trades f list)) contracts j h.contract h.there
        ∙ ap (λ (z : ℤ). paid_by trades f (record { trade = h.contract.trade; price = z }))
        (minus h.contract.price (term_price trades f list h.contract.trade) priced)
        ∙ unpaid (slice_get trades h.contract.trade)

-- ---- the greatest utility

pub greatest_from_best : (firms : List Firm) (trades : List Ends) (scale : ℤ) (f : ℕ) (firm : Firm)
    → IsChooser firms trades f firm → (contracts : List Contract) (left_out : Option ℕ) (free n b : ℕ)
    (list : List ℤ) (value : ℤ) → n ≡ firm.count → HasTerms trades contracts left_out f firm.count free list
    → IsBestBetween 0 free (utility scale (price_at (take n list)) firm) b value
    → IsGreatest trades scale f firm contracts left_out value
greatest_from_best firms trades scale f firm chooser contracts left_out free n b list value counted holds best =
    record {
      part = part_for holds.at b firm.count contracts;
      signs = part_for-signs firms trades f firm contracts left_out free list b wanted;
      avoids = λ j member. (had firms trades f firm contracts left_out free list b wanted j member).kept;
      is = part_for-utility firms trades scale f firm contracts left_out free list b wanted
          ∙ sym (term_utility firms trades scale f firm chooser n list counted b) ∙ best.is;
      most = λ y other signs avoids y_is.
          let high =
          part_at_most firms trades scale f firm chooser contracts left_out free list holds y signs avoids other
          y_is in
          let bundle = bundle_by trades f firm.count contracts y in
          let between =
          between_signed (bundle_by trades f firm.count contracts y) free
          (part_free firms trades f firm chooser contracts left_out free list holds y signs avoids) in
          let most = best.most (bundle_by trades f firm.count contracts y) high.0 between
          (term_utility firms trades scale f firm chooser n list counted (bundle_by trades f firm.count contracts y)
          ∙ high.1) in
          let less = high.2 in
          omega (arith, ints, most, less);
    }
  where
    wanted : IsWanted firms trades f firm contracts left_out free list b
    wanted = record { chooser = chooser; holds = holds; inside = inside_signed b free best.between }
