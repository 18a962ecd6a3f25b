-- Contracts that block an outcome stand on trades that it leaves unsigned, where each firm can have what it has signed: to
-- sign a trade at another price one of its two firms would lose.
use Rattle.std.proofs.Common.{◌≡◌, ℕ, ◌+◌, ◌^◌, ◌<◌, Bool, true, false, not, ◌==◌, ◌&&◌, nat_lt, if◌then◌else◌, List, get_or, length, slice_get, Option, Some, None, option_map, inl, inr, refl, sym, ap, ap₂, ◌∙◌, arith, ℤ, pos, neg_ℤ, ◌+ℤ◌, ◌*ℤ◌, ◌≤ℤ◌}
use Rattle.std.specs.Prelude.{unwrap_or, ◌≢◌}
use Rattle.std.proofs.Math.IntN.{*ℤ_comm}
use Rattle.std.proofs.lemmas.Bool.{and_parts, cases_Bool, cases_eq, eq-eqb, lt-ltb, ltb-true, ne_eqb, or_left, or_right}
use Rattle.std.proofs.lemmas.Int.{by_lt_z, ints}
use Rattle.std.proofs.lemmas.List.{length-map}
use Rattle.std.proofs.lemmas.Option.{none-some, same_Some, slice_get-get_or, slice_get-map, slice_get_within}
use Rattle.tn_base.specs.Firm.{Firm}
use Rattle.tn_base.specs.Sets.{has, set_of, sum_over, toggle}
use Rattle.tn_base.proofs.SetLemmas.{has-set_of, has-toggle_other, has-toggle_same, has_below, same_set, set_of_within, toggle_within}
use Rattle.tn_base.proofs.SumLemmas.{sum_over-toggle_in, sum_over-toggle_out}
use Rattle.tn_firm_laws.proofs.KeepLemmas.{option_map-some}
use Rattle.tn_model.specs.declared.contract.Contract.{Contract}
use Rattle.tn_model.specs.declared.ends.Ends.{Ends}
use Rattle.tn_model.specs.Choices.{Blocks, IsChoice, IsPart, bundle_by, counted, is_end, is_of, is_traded, paid_by, paid_to, part_utility, payment, together}
use Rattle.tn_model.specs.Network.{IsNetwork, own, part}
use Rattle.tn_market.specs.Best.{IsSubset}
use Rattle.tn_network_laws.proofs.PartLemmas.{traded_at, traded_by}
use Rattle.tn_network_laws.proofs.PoolLemmas.{AreContractsOf, IsPool, append_behind, offer_in_pool, pool_together}
use Rattle.tn_network_laws.proofs.StabilityLemmas.{no_choice, signed_bundle, signed_is_part, signed_part}
use Rattle.tn_outcome_laws.proofs.RationalLemmas.{in_is, is_in}

differ : true ≡ false → ⊥
differ e = absurd (cc)

both_or_none : (a b : Bool) → (a ≡ true → b ≡ true) → (b ≡ true → a ≡ true) → a ≡ b
both_or_none true b to from = sym (to refl)
both_or_none false true to from = absurd (differ (sym (from refl)))
both_or_none false false to from = refl

-- ---- one contract for another on the same trade

-- contracts at two places of a list that are on one trade
record AreRivals (contracts : List Contract) (k m : ℕ) (one other : Contract) : Type 0 where
  one_is : slice_get contracts k ≡ Some one
  other_is : slice_get contracts m ≡ Some other
  same : one.trade ≡ other.trade
  apart : m ≢ k

module _ (trades : List Ends) (scale : ℤ) (f : ℕ) (firm : Firm) (contracts : List Contract) (k m : ℕ)
    (one other : Contract) (rivals : AreRivals contracts k m one other) (owned : is_of trades f one ≡ true) (x : ℕ)
    (choice : IsChoice trades scale f firm contracts x) (taken : has x k ≡ true) where
  abbrev n : ℕ
  n = length contracts

  k_below : k < n
  k_below = slice_get_within contracts k one rivals.one_is

  m_below : m < n
  m_below = slice_get_within contracts m other rivals.other_is

  -- the other isn't taken beside it
  away : has x m ≡ false
  away = elim (cases_Bool (has x m)) [
    | inr out ↦ out
    | inl there ↦ absurd (rivals.apart (sym (choice.part.once k m one other rivals.one_is rivals.other_is taken there rivals.same)))
  ]

  -- it is taken in place of the one
  abbrev y : ℕ
  y = toggle (toggle x k) m

  y_other : (i : ℕ) → i ≢ k → i ≢ m → has y i ≡ has x i
  y_other i not_k not_m = has-toggle_other (toggle x k) m i not_m ∙ has-toggle_other x k i not_k

  y_one : has y k ≡ false
  y_one = has-toggle_other (toggle x k) m k (λ e. rivals.apart (sym e)) ∙ has-toggle_same x k ∙ ap not taken

  x_m : has (toggle x k) m ≡ false
  x_m = has-toggle_other x k m rivals.apart ∙ away

  y_m : has y m ≡ true
  y_m = has-toggle_same (toggle x k) m ∙ ap not x_m

  -- what is in the new part is in the old one, or is the other contract
  from_y : (i : ℕ) → has y i ≡ true → i ≢ m → has x i ≡ true
  from_y i there not_m = elim (cases_eq i k) [
    | inl e ↦ absurd (differ (sym there ∙ ap (has y) e ∙ y_one))
    | inr not_k ↦ sym (y_other i not_k not_m) ∙ there
  ]

  y_within : y < 2 ^ n
  y_within = toggle_within (toggle x k) m n (toggle_within x k n choice.part.within k_below) m_below

  same_of : (a b : Contract) → a.trade ≡ b.trade → is_of trades f a ≡ is_of trades f b
  same_of a b same = ap (λ (t : ℕ). unwrap_or (option_map (is_end f) (slice_get trades t)) false) same

  -- the contract at the other's place is the other
  at_m : (i : ℕ) (contract : Contract) → slice_get contracts i ≡ Some contract → i ≡ m → other.trade ≡ contract.trade
  at_m i contract is e =
      ap (λ (c : Contract). c.trade)
      (same_Some other contract (sym rivals.other_is ∙ ap (slice_get contracts) (sym e) ∙ is))

  at_k : (i : ℕ) (contract : Contract) → slice_get contracts i ≡ Some contract → i ≡ k → one.trade ≡ contract.trade
  at_k i contract is e =
      ap (λ (c : Contract). c.trade)
      (same_Some one contract (sym rivals.one_is ∙ ap (slice_get contracts) (sym e) ∙ is))

  -- no contract of the new part but the other is on its trade
  alone : (i : ℕ) (contract : Contract) → slice_get contracts i ≡ Some contract → has y i ≡ true → i ≢ m
      → other.trade ≡ contract.trade → ⊥
  alone i contract is there not_m same =
      let place = choice.part.once k i one contract rivals.one_is is taken (from_y i there not_m) (rivals.same ∙ same) in
      differ (sym there ∙ ap (has y) (sym place) ∙ y_one)

  y_part : IsPart trades f contracts y
  y_part = record {
    within = y_within;
    own = λ i contract is there. elim (cases_eq i m) [
      | inl e ↦ same_of contract one (sym (rivals.same ∙ at_m i contract is e)) ∙ owned
      | inr not_m ↦ choice.part.own i contract is (from_y i there not_m)
    ];
    once = λ i j a b a_is b_is i_there j_there same. elim (cases_eq i m) [
      | inl first ↦ elim (cases_eq j m) [
        | inl second ↦ first ∙ sym second
        | inr not_m ↦ absurd (alone j b b_is j_there not_m (at_m i a a_is first ∙ same))
      ]
      | inr not_m ↦ elim (cases_eq j m) [
        | inl second ↦ absurd (alone i a a_is i_there not_m (at_m j b b_is second ∙ sym same))
        | inr neither ↦ choice.part.once i j a b a_is b_is (from_y i i_there not_m) (from_y j j_there neither) same
      ]
    ];
  }

  -- both parts have the same trades
  y_traded : (t : ℕ) → is_traded contracts y t n ≡ true → is_traded contracts x t n ≡ true
  y_traded t there =
      let at = traded_at contracts y t n there in
      elim (cases_eq at.place m) [
        | inl e ↦ traded_by contracts x t n k one k_below taken rivals.one_is
            (rivals.same ∙ at_m at.place at.contract at.is e ∙ at.trade)
        | inr not_m ↦ traded_by contracts x t n at.place at.contract at.inside (from_y at.place at.member not_m) at.is at.trade
      ]

  x_traded : (t : ℕ) → is_traded contracts x t n ≡ true → is_traded contracts y t n ≡ true
  x_traded t there =
      let at = traded_at contracts x t n there in
      elim (cases_eq at.place k) [
        | inl e ↦ traded_by contracts y t n m other m_below y_m rivals.other_is
            (sym rivals.same ∙ at_k at.place at.contract at.is e ∙ at.trade)
        | inr not_k ↦ traded_by contracts y t n at.place at.contract at.inside
            (y_other at.place not_k (λ e. differ (sym at.member ∙ ap (has x) e ∙ away)) ∙ at.member) at.is at.trade
      ]

  same_bundle : bundle_by trades f firm.count contracts y ≡ bundle_by trades f firm.count contracts x
  same_bundle = same_set (bundle_by trades f firm.count contracts y) (bundle_by trades f firm.count contracts x) (λ i.
      has-set_of (λ j. is_traded contracts y (own trades f j) n) firm.count i
      ∙ ap (λ (b : Bool). nat_lt i firm.count && b) (by (own trades f i))
      ∙ sym (has-set_of (λ j. is_traded contracts x (own trades f j) n) firm.count i))
    where
      by : (t : ℕ) → is_traded contracts y t n ≡ is_traded contracts x t n
      by t = both_or_none (is_traded contracts y t n) (is_traded contracts x t n) (y_traded t) (x_traded t)

  -- so the one pays the firm no less
  pays_no_less : paid_by trades f other ≤ℤ paid_by trades f one
  pays_no_less =
      let pays = payment trades f contracts in
      let worth = option_map-some (λ w. scale *ℤ w +ℤ sum_over (payment trades f contracts) n x)
      (firm.worth (bundle_by trades f firm.count contracts x)) choice.value choice.is in
      let at_y = ap (λ (b : ℕ). option_map (λ w. scale *ℤ w +ℤ sum_over (payment trades f contracts) n y) (firm.worth b))
      same_bundle ∙ ap (option_map (λ w. scale *ℤ w +ℤ sum_over (payment trades f contracts) n y)) worth.1 in
      let most = choice.most y (scale *ℤ worth.0 +ℤ sum_over (payment trades f contracts) n y) y_part at_y in
      let value = worth.2 in
      let out = sum_over-toggle_out (payment trades f contracts) n x k k_below taken in
      let back = sum_over-toggle_in (payment trades f contracts) n (toggle x k) m m_below x_m in
      let first = paid k one rivals.one_is in
      let second = paid m other rivals.other_is in
      omega (arith, ints, most, value, out, back, first, second)
    where
      paid : (i : ℕ) (contract : Contract) → slice_get contracts i ≡ Some contract
          → payment trades f contracts i ≡ paid_by trades f contract
      paid i contract is = ap (λ (o : Option Contract). unwrap_or (option_map (paid_by trades f) o) (pos 0)) is

-- ---- a part of the signed contracts

-- each firm can have some of what is signed
abbrev pub HaveSome : List Firm → List Ends → ℕ → Type 0
HaveSome firms trades on = (f : ℕ) (firm : Firm) → slice_get firms f ≡ Some firm
    → (y : ℕ) × IsSubset y (part trades f firm.count on) × (worth : ℤ) × (firm.worth y ≡ Some worth)

module _ (firms : List Firm) (trades : List Ends) (network : IsNetwork firms trades) (on : ℕ) (prices : ℕ → ℤ)
    (offers pool : List Contract) (is_pool : IsPool (length trades) on prices offers pool) (f : ℕ) (firm : Firm)
    (is : slice_get firms f ≡ Some firm) (y : ℕ) (inside : IsSubset y (part trades f firm.count on)) where
  abbrev whole : ℕ
  whole = signed_part trades f pool (length offers)

  abbrev is_wanted : ℕ → Bool
  is_wanted k =
      unwrap_or (option_map (λ (contract : Contract). is_in trades f firm.count y contract.trade) (slice_get pool k)) false

  -- the signed contracts on the trades of a bundle
  abbrev some_part : ℕ
  some_part = set_of (λ k. has whole k && is_wanted k) (length pool)

  in_whole : (k : ℕ) → has some_part k ≡ true → (has whole k ≡ true) × (is_wanted k ≡ true)
  in_whole k there =
      and_parts (has whole k) (is_wanted k) (and_parts (nat_lt k (length pool)) (has whole k && is_wanted k)
      (sym (has-set_of (λ i. has whole i && is_wanted i) (length pool) k) ∙ there)).1

  wanted_is : (k : ℕ) (contract : Contract) → slice_get pool k ≡ Some contract
      → is_wanted k ≡ is_in trades f firm.count y contract.trade
  wanted_is k contract at =
      ap (λ (o : Option Contract). unwrap_or (option_map (λ (c : Contract). is_in trades f firm.count y c.trade) o) false) at

  some_is_part : IsPart trades f pool some_part
  some_is_part =
      let all = signed_is_part trades on prices offers pool is_pool f in
      record {
        within = set_of_within (λ k. has whole k && is_wanted k) (length pool);
        own = λ k contract at there. all.own k contract at (in_whole k there).0;
        once = λ j k a b a_is b_is j_there k_there same.
            all.once j k a b a_is b_is (in_whole j j_there).0 (in_whole k k_there).0 same;
      }

  -- have that bundle
  some_bundle : bundle_by trades f firm.count pool some_part ≡ y
  some_bundle = same_set (bundle_by trades f firm.count pool some_part) y (λ k. both_or_none
      (has (bundle_by trades f firm.count pool some_part) k) (has y k) (to k) (from k))
    where
      below_of : (k : ℕ) → has y k ≡ true → k < firm.count
      below_of k there =
          has_below (part trades f firm.count on) firm.count k (set_of_within (λ i. has on (own trades f i)) firm.count)
          (inside k there)

      traded_of : (x k : ℕ) → has (bundle_by trades f firm.count pool x) k ≡ true
          → (nat_lt k firm.count ≡ true) × (is_traded pool x (own trades f k) (length pool) ≡ true)
      traded_of x k there =
          and_parts (nat_lt k firm.count) (is_traded pool x (own trades f k) (length pool))
          (sym (has-set_of (λ i. is_traded pool x (own trades f i) (length pool)) firm.count k) ∙ there)

      to : (k : ℕ) → has (bundle_by trades f firm.count pool some_part) k ≡ true → has y k ≡ true
      to k there =
          let parts = traded_of some_part k there in
          let at = traded_at pool some_part (own trades f k) (length pool) parts.1 in
          sym (in_is firms trades network f firm is y k (ltb-true k firm.count parts.0))
          ∙ ap (is_in trades f firm.count y) (sym at.trade)
          ∙ sym (wanted_is at.place at.contract at.is) ∙ (in_whole at.place at.member).1

      from : (k : ℕ) → has y k ≡ true → has (bundle_by trades f firm.count pool some_part) k ≡ true
      from k there =
          let below = below_of k there in
          let signed = ap (λ (x : ℕ). has x k) (signed_bundle firms trades network on prices offers pool is_pool f firm is)
          ∙ inside k there in
          let at = traded_at pool whole (own trades f k) (length pool) (traded_of whole k signed).1 in
          let wanted = wanted_is at.place at.contract at.is ∙ ap (is_in trades f firm.count y) at.trade
          ∙ in_is firms trades network f firm is y k below ∙ there in
          let member = has-set_of (λ i. has whole i && is_wanted i) (length pool) at.place
          ∙ ap₂ (λ (a b : Bool). a && b) (lt-ltb at.place (length pool) at.inside)
          (ap₂ (λ (a b : Bool). a && b) at.member wanted) in
          has-set_of (λ i. is_traded pool some_part (own trades f i) (length pool)) firm.count k
          ∙ ap₂ (λ (a b : Bool). a && b) (lt-ltb k firm.count below)
          (traded_by pool some_part (own trades f k) (length pool) at.place at.contract at.inside member at.is at.trade)

-- ---- what blocks is on unsigned trades

module _ (firms : List Firm) (trades : List Ends) (network : IsNetwork firms trades) (d e : ℤ) (on : ℕ) (prices : ℕ → ℤ)
    (outcome offers : List Contract) (are : AreContractsOf (length trades) on prices outcome)
    (possible : HaveSome firms trades on) (blocks : Blocks firms trades d outcome e offers) (k : ℕ) (offer : Contract)
    (offer_is : slice_get offers k ≡ Some offer) (signed : has on offer.trade ≡ true) where
  abbrev pool : List Contract
  pool = together e offers d outcome

  -- the contract on the same trade, and both in the list
  original : (j : ℕ) × (contract : Contract) × (slice_get outcome j ≡ Some contract) × (contract.trade ≡ offer.trade)
  original = are.found offer.trade (blocks.feasible.known k offer offer_is) signed

  new : Contract
  new = record { trade = offer.trade; price = d *ℤ offer.price }

  old : Contract
  old = record { trade = original.1.trade; price = e *ℤ original.1.price }

  wide : length (counted d offers) ≡ length offers
  wide = length-map offers (λ (c : Contract). record { trade = c.trade; price = d *ℤ c.price })

  rivals : AreRivals pool k (length (counted d offers) + original.0) new old
  unfolding new old original
  rivals = record {
    one_is = offer_in_pool e d offers outcome k offer offer_is;
    other_is = append_behind (counted d offers) (counted e outcome) original.0 (length (counted d offers) + original.0)
        (record { trade = original.1.trade; price = e *ℤ original.1.price }) refl
        (slice_get-map (λ (c : Contract). let one : Contract = record { trade = c.trade; price = e *ℤ c.price } in one)
        outcome original.0
        ∙ ap (option_map (λ (c : Contract). let one : Contract = record { trade = c.trade; price = e *ℤ c.price } in one))
        original.2);
    same = sym original.3;
    apart = λ e. let below = slice_get_within offers k offer offer_is in omega (arith, e, below, wide);
  }

  -- each end is paid no less by the offer
  end_pays : (f : ℕ) (firm : Firm) → slice_get firms f ≡ Some firm → is_of trades f offer ≡ true
      → paid_by trades f old ≤ℤ paid_by trades f new
  unfolding new old
  end_pays f firm is mine = by_lt_z {P = paid_by trades f old ≤ℤ paid_by trades f new} (paid_by trades f new)
      (paid_by trades f old)
      (λ less. absurd (no_choice trades (d *ℤ e) f firm pool mine_part value y_part y_is (λ x choice.
      let most = pays_no_less trades (d *ℤ e) f firm pool k (length (counted d offers) + original.0) new old rivals mine x
      choice (blocks.chosen f firm x is choice k offer offer_is mine) in
      absurd (omega (arith, ints, less, most)))))
      (λ enough. enough)
    where
      is_pool : IsPool (length trades) on (λ t. e *ℤ prices t) offers (together e offers d outcome)
      is_pool = pool_together e d (length trades) on prices offers outcome are

      some : (y : ℕ) × IsSubset y (part trades f firm.count on) × (w : ℤ) × (firm.worth y ≡ Some w)
      some = possible f firm is

      mine_part : ℕ
      mine_part = some_part firms trades network on (λ t. e *ℤ prices t) offers (together e offers d outcome) is_pool f firm is
          some.0 some.1

      paid : ℤ
      paid = sum_over (payment trades f (together e offers d outcome)) (length (together e offers d outcome)) mine_part

      value : ℤ
      value = (d *ℤ e) *ℤ some.2 +ℤ paid

      y_part : IsPart trades f (together e offers d outcome) mine_part
      y_part = some_is_part firms trades network on (λ t. e *ℤ prices t) offers (together e offers d outcome) is_pool f firm
          is some.0 some.1

      y_is : part_utility trades (d *ℤ e) f firm (together e offers d outcome) mine_part ≡ Some value
      y_is = ap (λ (b : ℕ). option_map (λ w. (d *ℤ e) *ℤ w +ℤ paid) (firm.worth b))
          (some_bundle firms trades network on (λ t. e *ℤ prices t) offers (together e offers d outcome) is_pool f firm is
          some.0 some.1)
          ∙ ap (option_map (λ w. (d *ℤ e) *ℤ w +ℤ paid)) some.3

  -- so it has the old price, and is no offer
  pub is_fresh : ⊥
  unfolding new old original
  is_fresh = by_trade (slice_get trades offer.trade) refl
    where
      paid_is : (f : ℕ) (price : ℤ) (trade : Ends) → slice_get trades offer.trade ≡ Some trade
          → paid_by trades f (record { trade = offer.trade; price = price }) ≡ paid_to f price trade
      paid_is f price trade there = ap (λ (o : Option Ends). unwrap_or (option_map (paid_to f price) o) (pos 0)) there

      -- where both ends are paid no less, the prices are the same
      by_trade : (o : Option Ends) → slice_get trades offer.trade ≡ o → ⊥
      by_trade None there =
          none_within (blocks.feasible.known k offer offer_is)
        where
          none_within : offer.trade < length trades → ⊥
          none_within below = none-some (get_or trades offer.trade one) (sym there ∙ slice_get-get_or trades offer.trade one below)
            where
              one : Ends
              one = record { seller = 0; buyer = 0; at_seller = 0; at_buyer = 0 }
      by_trade (Some trade) there =
          let sold = network.sold offer.trade trade there in
          let bought = network.bought offer.trade trade there in
          let seller_mine = ends trade.seller (or_left (trade.seller == trade.seller) (trade.buyer == trade.seller)
          (eq-eqb trade.seller trade.seller refl)) in
          let buyer_mine = ends trade.buyer (or_right (trade.seller == trade.buyer) (trade.buyer == trade.buyer)
          (eq-eqb trade.buyer trade.buyer refl)) in
          let by_seller = end_pays trade.seller sold.0 sold.1 seller_mine in
          let by_buyer = end_pays trade.buyer bought.0 bought.1 buyer_mine in
          let seller_old = old_paid trade.seller in
          let buyer_old = old_paid trade.buyer in
          let seller_new = paid_is trade.seller (d *ℤ offer.price) trade there in
          let buyer_new = paid_is trade.buyer (d *ℤ offer.price) trade there in
          let seller_gets = seller_is (e *ℤ original.1.price) in
          let seller_got = seller_is (d *ℤ offer.price) in
          let buyer_gets = buyer_is (e *ℤ original.1.price) in
          let buyer_got = buyer_is (d *ℤ offer.price) in
          let same : d *ℤ offer.price ≡ e *ℤ original.1.price =
          omega (
            arith,
            ints,
            by_seller,
            by_buyer,
            seller_old,
            buyer_old,
            seller_new,
            buyer_new,
            seller_gets,
            seller_got,
            buyer_gets,
            buyer_got,
          ) in
          blocks.unsigned k original.0 offer original.1 offer_is original.2 (sym original.3)
          (*ℤ_comm offer.price d ∙ same ∙ *ℤ_comm e original.1.price)
        where
          ends : (f : ℕ) → is_end f trade ≡ true → is_of trades f offer ≡ true
          ends f mine = ap (λ (o : Option Ends). unwrap_or (option_map (is_end f) o) false) there ∙ mine

          old_paid : (f : ℕ) → paid_by trades f old ≡ paid_to f (e *ℤ original.1.price) trade
          old_paid f = ap (λ (t : ℕ). paid_by trades f (record { trade = t; price = e *ℤ original.1.price })) original.3
              ∙ paid_is f (e *ℤ original.1.price) trade there

          seller_is : (z : ℤ) → paid_to trade.seller z trade ≡ z
          seller_is z = ap (λ (b : Bool). if b then z else (if trade.buyer == trade.seller then neg_ℤ z else pos 0))
              (eq-eqb trade.seller trade.seller refl)

          buyer_is : (z : ℤ) → paid_to trade.buyer z trade ≡ neg_ℤ z
          buyer_is z = ap₂ (λ (a b : Bool). if a then z else (if b then neg_ℤ z else pos 0))
              (ne_eqb trade.seller trade.buyer (network.apart offer.trade trade there)) (eq-eqb trade.buyer trade.buyer refl)
